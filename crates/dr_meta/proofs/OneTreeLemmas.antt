-- The list of schema elements as one tree, element by element.
use Rattle.std.proofs.Common.{◌≡◌, ℕ, zero, suc, ◌+◌, ◌≤◌, List, [], ◌∷◌, ◌++◌, map, length, refl, sym, ap, ◌∙◌, arith, ℤ, true, true≢false}
use Rattle.std.specs.Prelude.{Option, Some, None, option_map, option_and_then, pos, negsuc, reverse}
use Rattle.std.specs.Option.{is_some}
use Rattle.std.proofs.lemmas.List.{length-append, length-map, reverse-append, reverse-reverse}
use Rattle.dr_meaning.specs.Schema.{Repetition}
use Rattle.dr_formats.specs.Metadata.{SchemaElement}
use Rattle.dr_formats.specs.FileSchema.{FileFields, no_file_fields, file_field, FileShape, file_leaf, file_group, FieldsRead, ShapeRead, with_first, as_group, shape_read, fields_read, repetition_from, file_schema, root_read, whole_schema, leaves_under, shape_leaves_under, within_depth, file_leaves, leaf_under, is_open_name}
use Rattle.dr_meta.specs.OneTree.{count_leaves, leaves_of_fields, leaves_of_shape, leaves_left, and_leaves, size_of_group, still_open}

-- ---- leaves

mutual
  pub under_count : (earlier : List (List ℕ)) (fs : FileFields) → length (leaves_under earlier fs) ≡ leaves_of_fields fs
  under_count earlier no_file_fields = refl
  under_count earlier (file_field n r s fs) =
      let a = length-append (map (leaf_under n r (is_open_name earlier n)) (shape_leaves_under s)) (leaves_under (n ∷ earlier) fs) in
      let b = length-map (shape_leaves_under s) (leaf_under n r (is_open_name earlier n)) in
      let c = shape_count s in
      let d = under_count (n ∷ earlier) fs in
      omega (arith, a, b, c, d)

  pub shape_count : (s : FileShape) → length (shape_leaves_under s) ≡ leaves_of_shape s
  shape_count (file_leaf t c) = refl
  shape_count (file_group fs) = under_count [] fs

pub all_count : (fs : FileFields) → length (file_leaves fs) ≡ leaves_of_fields fs
all_count fs = length-map (leaves_under [] fs) within_depth ∙ under_count [] fs

-- ---- fields take elements, and more room changes nothing

-- so many elements at most are behind fields
abbrev pub Shorter : ℕ → Type 0
Shorter k = (n : ℕ) (es : List SchemaElement) (f : FieldsRead) → fields_read k n es ≡ Some f → length f.behind ≤ length es

same_some : {A : Type 0} (a b : A) → Some a ≡ Some b → a ≡ b
same_some a b e = cc

no_some : {A : Type 0} (a : A) → None ≡ Some a → ⊥
no_some a e = cc

shape_shorter : (k : ℕ) → Shorter k → (e : SchemaElement) (t n : Option ℤ) (es : List SchemaElement) (s : ShapeRead) → shape_read (fields_read k) e t n es ≡ Some s → length s.behind ≤ length es
shape_shorter k h e (Some t) n es s g = let q = ap (λ (x : ShapeRead). length x.behind) (same_some _ s g) in omega (arith, q)
shape_shorter k h e None None es s g = absurd (no_some s g)
shape_shorter k h e None (Some (negsuc n)) es s g = absurd (no_some s g)
shape_shorter k h e None (Some (pos n)) es s g = by (fields_read k n es) refl g
  where
    by : (o : Option FieldsRead) → fields_read k n es ≡ o → option_map as_group o ≡ Some s → length s.behind ≤ length es
    by None q p = absurd (no_some s p)
    by (Some f) q p = let r = ap (λ (x : ShapeRead). length x.behind) (same_some (as_group f) s p) in omega (arith, r, h n es f q)

step_shorter : (k n : ℕ) → Shorter k → (e : SchemaElement) (es : List SchemaElement) (r : Option Repetition) (o : Option ShapeRead) (f : FieldsRead) → ((s : ShapeRead) → o ≡ Some s → length s.behind ≤ length es) → option_and_then (λ (r : Repetition). option_and_then (λ (s : ShapeRead). option_map (with_first e.name r s.shape) (fields_read k n s.behind)) o) r ≡ Some f → length f.behind ≤ suc (length es)
step_shorter k n h e es None o f g p = absurd (no_some f p)
step_shorter k n h e es (Some r) None f g p = absurd (no_some f p)
step_shorter k n h e es (Some r) (Some s) f g p = by (fields_read k n s.behind) refl p
  where
    by : (o : Option FieldsRead) → fields_read k n s.behind ≡ o → option_map (with_first e.name r s.shape) o ≡ Some f → length f.behind ≤ suc (length es)
    by None q w = absurd (no_some f w)
    by (Some x) q w = let z = ap (λ (y : FieldsRead). length y.behind) (same_some (with_first e.name r s.shape x) f w) in omega (arith, z, h n s.behind x q, g s refl)

pub shorter : (k : ℕ) → Shorter k
shorter k zero es f g = let q = ap (λ (x : FieldsRead). length x.behind) (same_some _ f g) in omega (arith, q)
shorter zero (suc n) es f g = absurd (no_some f g)
shorter (suc k) (suc n) [] f g = absurd (no_some f g)
shorter (suc k) (suc n) (e ∷ es) f g = step_shorter k n (shorter k) e es (repetition_from e.repetition) (shape_read (fields_read k) e e.type e.children es) f (λ s q. shape_shorter k (shorter k) e e.type e.children es s q) g

abbrev pub Same : ℕ → ℕ → Type 0
Same j k = (n : ℕ) (es : List SchemaElement) → length es ≤ j → length es ≤ k → fields_read j n es ≡ fields_read k n es

shape_same : (j k : ℕ) → Same j k → (e : SchemaElement) (t n : Option ℤ) (es : List SchemaElement) → length es ≤ j → length es ≤ k → shape_read (fields_read j) e t n es ≡ shape_read (fields_read k) e t n es
shape_same j k h e (Some t) n es l m = refl
shape_same j k h e None None es l m = refl
shape_same j k h e None (Some (pos n)) es l m = ap (option_map as_group) (h n es l m)
shape_same j k h e None (Some (negsuc n)) es l m = refl

rest_same : (j k n : ℕ) → Same j k → (e : SchemaElement) (es : List SchemaElement) → length es ≤ j → length es ≤ k → (r : Option Repetition) (o : Option ShapeRead) → ((s : ShapeRead) → o ≡ Some s → length s.behind ≤ length es) → option_and_then (λ (r : Repetition). option_and_then (λ (s : ShapeRead). option_map (with_first e.name r s.shape) (fields_read j n s.behind)) o) r ≡ option_and_then (λ (r : Repetition). option_and_then (λ (s : ShapeRead). option_map (with_first e.name r s.shape) (fields_read k n s.behind)) o) r
rest_same j k n h e es l m None o g = refl
rest_same j k n h e es l m (Some r) None g = refl
rest_same j k n h e es l m (Some r) (Some s) g = ap (option_map (with_first e.name r s.shape)) (h n s.behind (omega (arith, l, g s refl)) (omega (arith, m, g s refl)))

pub same : (j k : ℕ) → Same j k
same j k zero es l m = refl
same zero zero (suc n) es l m = refl
same zero (suc k) (suc n) [] l m = refl
same zero (suc k) (suc n) (e ∷ es) l m = absurd (omega (arith, l))
same (suc j) zero (suc n) [] l m = refl
same (suc j) zero (suc n) (e ∷ es) l m = absurd (omega (arith, m))
same (suc j) (suc k) (suc n) [] l m = refl
same (suc j) (suc k) (suc n) (e ∷ es) l m =
    let a : length es ≤ j = omega (arith, l) in
    let b : length es ≤ k = omega (arith, m) in
    ap (λ (o : Option ShapeRead). option_and_then (λ (r : Repetition). option_and_then (λ (s : ShapeRead). option_map (with_first e.name r s.shape) (fields_read j n s.behind)) o) (repetition_from e.repetition)) (shape_same j k (same j k) e e.type e.children es a b)
    ∙ rest_same j k n (same j k) e es a b (repetition_from e.repetition) (shape_read (fields_read k) e e.type e.children es) (λ s q. shape_shorter k (shorter k) e e.type e.children es s q)

-- ---- element by element

-- what follows fields that have been read
abbrev pub behind : List ℕ → Option FieldsRead → Option ℕ
behind s o = option_and_then (λ (f : FieldsRead). option_map (λ m. leaves_of_fields f.fields + m) (leaves_left s f.behind)) o

none_more : (o : Option ℕ) → option_map (λ m. 0 + m) o ≡ o
none_more None = refl
none_more (Some m) = let e : 0 + m ≡ m = omega arith in ap Some e

-- a group that has all its fields is closed
pub closed : (s : List ℕ) (es : List SchemaElement) → leaves_left (0 ∷ s) es ≡ leaves_left s es
closed s [] = none_more (leaves_left s [])
closed s (e ∷ es) = none_more (leaves_left s (e ∷ es))

pub none_left : (n : ℕ) (s : List ℕ) → leaves_left (suc n ∷ s) [] ≡ None
none_left n s = refl

sum_three : (a b : ℕ) (o : Option ℕ) → option_map (λ m. a + b + m) o ≡ option_map (λ m. a + m) (option_map (λ m. b + m) o)
sum_three a b None = refl
sum_three a b (Some m) = let e : a + b + m ≡ a + (b + m) = omega arith in ap Some e

first_behind : (s : List ℕ) (n : List ℕ) (r : Repetition) (x : FileShape) (o : Option FieldsRead) → behind s (option_map (with_first n r x) o) ≡ and_leaves (Some (leaves_of_shape x)) (behind s o)
first_behind s n r x None = refl
first_behind s n r x (Some f) = sum_three (leaves_of_shape x) (leaves_of_fields f.fields) (leaves_left s f.behind)

-- a leaf
pub leaf_step : (e : SchemaElement) (r : Repetition) (t : ℤ) (n : ℕ) (s : List ℕ) (es : List SchemaElement) → repetition_from e.repetition ≡ Some r → e.type ≡ Some t → leaves_left (suc n ∷ s) (e ∷ es) ≡ and_leaves (Some 1) (leaves_left (n ∷ s) es)
leaf_step e r t n s es h g = rw (h, g) (first_behind s e.name r (file_leaf t e.converted) (fields_read (length es) n es))

in_group : (e : SchemaElement) (r : Repetition) (n : ℕ) (s : List ℕ) (es : List SchemaElement) (o : Option FieldsRead) → ((f : FieldsRead) → o ≡ Some f → length f.behind ≤ length es) → behind s (option_and_then (λ (x : ShapeRead). option_map (with_first e.name r x.shape) (fields_read (length es) n x.behind)) (option_map as_group o)) ≡ behind (n ∷ s) o
in_group e r n s es None g = refl
in_group e r n s es (Some f) g =
    first_behind s e.name r (file_group f.fields) (fields_read (length es) n f.behind)
    ∙ ap (λ (o : Option FieldsRead). option_map (λ m. leaves_of_fields f.fields + m) (behind s o)) (same (length es) (length f.behind) n f.behind (g f refl) (omega arith))

no_more : (o : Option ℕ) → and_leaves (Some 0) o ≡ o
no_more None = refl
no_more (Some m) = let e : 0 + m ≡ m = omega arith in ap Some e

-- a group
pub group_step : (e : SchemaElement) (r : Repetition) (c n : ℕ) (s : List ℕ) (es : List SchemaElement) → repetition_from e.repetition ≡ Some r → size_of_group e.type e.children ≡ Some c → leaves_left (suc n ∷ s) (e ∷ es) ≡ and_leaves (Some 0) (leaves_left (c ∷ n ∷ s) es)
group_step e r c n s es h g = rw h (by e.type e.children g ∙ sym (no_more (leaves_left (c ∷ n ∷ s) es)))
  where
    by : (t k : Option ℤ) → size_of_group t k ≡ Some c → behind s (option_and_then (λ (x : ShapeRead). option_map (with_first e.name r x.shape) (fields_read (length es) n x.behind)) (shape_read (fields_read (length es)) e t k es)) ≡ leaves_left (c ∷ n ∷ s) es
    by (Some t) k q = absurd (no_some c q)
    by None None q = absurd (no_some c q)
    by None (Some (negsuc k)) q = absurd (no_some c q)
    by None (Some (pos k)) q = rw (same_some k c q) (in_group e r n s es (fields_read (length es) c es) (λ f w. shorter (length es) c es f w))

pub no_repetition : (e : SchemaElement) (n : ℕ) (s : List ℕ) (es : List SchemaElement) → repetition_from e.repetition ≡ None → leaves_left (suc n ∷ s) (e ∷ es) ≡ None
no_repetition e n s es h = rw h refl

pub no_shape : (e : SchemaElement) (n : ℕ) (s : List ℕ) (es : List SchemaElement) → e.type ≡ None → size_of_group e.type e.children ≡ None → leaves_left (suc n ∷ s) (e ∷ es) ≡ None
no_shape e n s es h g = by (repetition_from e.repetition) (shape_read (fields_read (length es)) e e.type e.children es) (shape_none e.type e.children h g)
  where
    shape_none : (t k : Option ℤ) → t ≡ None → size_of_group t k ≡ None → shape_read (fields_read (length es)) e t k es ≡ None
    shape_none (Some t) k a b = absurd (no_some t (sym a))
    shape_none None None a b = refl
    shape_none None (Some (pos k)) a b = absurd (no_some k (sym b))
    shape_none None (Some (negsuc k)) a b = refl

    by : (r : Option Repetition) (o : Option ShapeRead) → o ≡ None → behind s (option_and_then (λ (r : Repetition). option_and_then (λ (x : ShapeRead). option_map (with_first e.name r x.shape) (fields_read (length es) n x.behind)) o) r) ≡ None
    by None o w = refl
    by (Some r) o w = rw w refl

-- ---- the root

pub root_count : (e : SchemaElement) (n : ℕ) (es : List SchemaElement) → size_of_group e.type e.children ≡ Some n → option_map count_leaves (file_schema (e ∷ es)) ≡ leaves_left (n ∷ []) es
root_count e n es h = by e.type e.children h
  where
    whole : (f : FieldsRead) (rest : List SchemaElement) → option_map count_leaves (whole_schema e.name f rest) ≡ option_map (λ m. leaves_of_fields f.fields + m) (leaves_left [] rest)
    whole f [] = let q : leaves_of_fields f.fields ≡ leaves_of_fields f.fields + 0 = omega arith in ap Some (all_count f.fields ∙ q)
    whole f (x ∷ rest) = refl

    after : (o : Option FieldsRead) → option_map count_leaves (option_and_then (λ (f : FieldsRead). whole_schema e.name f f.behind) o) ≡ behind [] o
    after None = refl
    after (Some f) = whole f f.behind

    by : (t k : Option ℤ) → size_of_group t k ≡ Some n → option_map count_leaves (root_read e t k es) ≡ leaves_left (n ∷ []) es
    by (Some t) k q = absurd (no_some n q)
    by None None q = absurd (no_some n q)
    by None (Some (negsuc k)) q = absurd (no_some n q)
    by None (Some (pos k)) q = rw (same_some k n q) (after (fields_read (length es) n es))

pub no_root : (e : SchemaElement) (es : List SchemaElement) → size_of_group e.type e.children ≡ None → option_map count_leaves (file_schema (e ∷ es)) ≡ None
no_root e es h = by e.type e.children h
  where
    by : (t k : Option ℤ) → size_of_group t k ≡ None → option_map count_leaves (root_read e t k es) ≡ None
    by (Some t) k q = refl
    by None None q = refl
    by None (Some (pos k)) q = absurd (no_some k (sym q))
    by None (Some (negsuc k)) q = refl

-- ---- with the groups that are kept

pub opened : (old new : List ℕ) (left : ℕ) → old ≡ new ++ left ∷ [] → still_open old ≡ suc left ∷ still_open new
opened old new left e = ap still_open e ∙ ap (map (λ n. suc n)) (reverse-append new (left ∷ []))

some_there : (o : Option ℤ) → true ≡ is_some o → (t : ℤ) × (o ≡ Some t)
some_there None h = absurd (true≢false h)
some_there (Some t) h = (t, refl)

-- two lists of open groups count alike
abbrev pub CountAlike : List ℕ → List ℕ → Type 0
CountAlike s u = (es : List SchemaElement) → leaves_left s es ≡ leaves_left u es

alike_below : (c : ℕ) (s u : List ℕ) → CountAlike s u → CountAlike (c ∷ s) (c ∷ u)
alike_below c s u h es = by (fields_read (length es) c es)
  where
    by : (o : Option FieldsRead) → behind s o ≡ behind u o
    by None = refl
    by (Some f) = ap (option_map (λ m. leaves_of_fields f.fields + m)) (h f.behind)

pub leaf_entered : (e : SchemaElement) (old new mid : List ℕ) (left : ℕ) → old ≡ new ++ left ∷ [] → (r : Repetition) × (repetition_from e.repetition ≡ Some r) → true ≡ is_some e.type → CountAlike (still_open mid) (left ∷ still_open new) → (es : List SchemaElement) → leaves_left (still_open old) (e ∷ es) ≡ and_leaves (Some 1) (leaves_left (still_open mid) es)
leaf_entered e old new mid left h r t a es =
    let k = some_there e.type t in
    ap (λ s. leaves_left s (e ∷ es)) (opened old new left h)
    ∙ (leaf_step e r.0 k.0 left (still_open new) es r.1 k.1 ∙ ap (and_leaves (Some 1)) (sym (a es)))

pub group_entered : (e : SchemaElement) (old new mid last : List ℕ) (left c : ℕ) → old ≡ new ++ left ∷ [] → (r : Repetition) × (repetition_from e.repetition ≡ Some r) → size_of_group e.type e.children ≡ Some c → CountAlike (still_open mid) (left ∷ still_open new) → CountAlike (still_open last) (c ∷ still_open mid) → (es : List SchemaElement) → leaves_left (still_open old) (e ∷ es) ≡ and_leaves (Some 0) (leaves_left (still_open last) es)
group_entered e old new mid last left c h r g a b es =
    ap (λ s. leaves_left s (e ∷ es)) (opened old new left h)
    ∙ (group_step e r.0 c left (still_open new) es r.1 g
    ∙ ap (and_leaves (Some 0)) (sym (b es ∙ alike_below c (still_open mid) (left ∷ still_open new) a es)))

pub nothing_counted : (o : Option ℕ) → and_leaves (Some 0) o ≡ o
nothing_counted o = no_more o

-- where groups are still open, an end is none
pub open_at_end : (kept : List ℕ) → (kept ≡ [] → ⊥) → leaves_left (still_open kept) [] ≡ None
open_at_end kept h = by (reverse kept) refl
  where
    by : (s : List ℕ) → reverse kept ≡ s → leaves_left (map (λ n. suc n) s) [] ≡ None
    by [] e = absurd (h (sym (reverse-reverse kept) ∙ ap reverse e))
    by (n ∷ s) e = refl
