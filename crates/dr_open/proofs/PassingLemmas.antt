-- Fields read from the list of elements: the first of them and those behind it, and what passing them counts.
use Rattle.std.proofs.Common.{◌≡◌, ℕ, zero, suc, ◌+◌, ◌-◌, ◌<◌, ◌≤◌, List, [], ◌∷◌, length, map, take, drop, get_or, length-drop, refl, sym, ap, ◌∙◌, subst, true≢false, arith}
use Rattle.std.specs.Prelude.{Option, Some, None, option_map, option_and_then, ℤ, pos, negsuc, IsSome}
use Rattle.std.specs.Option.{is_some}
use Rattle.std.proofs.lemmas.Option.{none-some, same_Some}
use Rattle.std.proofs.lemmas.List.{take_all, drop_more, length-map}
use Rattle.dr_meaning.specs.Schema.{Repetition}
use Rattle.dr_formats.specs.Metadata.{SchemaElement}
use Rattle.dr_formats.specs.FileSchema.{FileFields, no_file_fields, file_field, file_leaf, FieldsRead, ShapeRead, with_first, as_group, shape_read, fields_read, repetition_from}
use Rattle.dr_meta.specs.OneTree.{leaves_of_fields, leaves_of_shape, size_of_group}
use Rattle.dr_meta.proofs.OneTreeLemmas.{same}
use Rattle.dr_meta.specs.declared.file.SchemaItem.{SchemaItem}
use Rattle.dr_meta.specs.Views.{item_view}
use Rattle.dr_open.specs.Places.{next_fields, shape_from, Passed, passed_from, passed}

-- what is there
pub there : {A : Type 0} (o : Option A) → IsSome o → (x : A) × (o ≡ Some x)
there None h = absurd (true≢false (sym h))
there (Some x) h = (x, refl)

pub is_there : {A : Type 0} (o : Option A) (x : A) → o ≡ Some x → IsSome o
is_there o x h = ap is_some h

-- ---- the first of fields, and those behind it

pub record First (k n : ℕ) (e : SchemaElement) (es : List SchemaElement) (f : FieldsRead) : Type 0 where
  pub repetition : Repetition
  pub shape : ShapeRead
  pub rest : FieldsRead
  pub is_repetition : repetition_from e.repetition ≡ Some repetition
  pub is_shape : shape_read (fields_read k) e e.type e.children es ≡ Some shape
  pub is_rest : fields_read k n shape.behind ≡ Some rest
  pub is_whole : with_first e.name repetition shape.shape rest ≡ f

by_rest : (k n : ℕ) (e : SchemaElement) (es : List SchemaElement) (f : FieldsRead) (r : Repetition) (s : ShapeRead) → repetition_from e.repetition ≡ Some r → shape_read (fields_read k) e e.type e.children es ≡ Some s
    → (o : Option FieldsRead) → fields_read k n s.behind ≡ o → option_map (with_first e.name r s.shape) o ≡ Some f → First k n e es f
by_rest k n e es f r s hr hs None q h = absurd (none-some f h)
by_rest k n e es f r s hr hs (Some x) q h = record { repetition = r; shape = s; rest = x; is_repetition = hr; is_shape = hs; is_rest = q; is_whole = same_Some _ _ h }

by_shape : (k n : ℕ) (e : SchemaElement) (es : List SchemaElement) (f : FieldsRead) (r : Repetition) → repetition_from e.repetition ≡ Some r
    → (o : Option ShapeRead) → shape_read (fields_read k) e e.type e.children es ≡ o → option_and_then (λ (s : ShapeRead). option_map (with_first e.name r s.shape) (fields_read k n s.behind)) o ≡ Some f → First k n e es f
by_shape k n e es f r hr None q h = absurd (none-some f h)
by_shape k n e es f r hr (Some s) q h = by_rest k n e es f r s hr q (fields_read k n s.behind) refl h

by_repetition : (k n : ℕ) (e : SchemaElement) (es : List SchemaElement) (f : FieldsRead) (o : Option Repetition) → repetition_from e.repetition ≡ o
    → option_and_then (λ (r : Repetition). option_and_then (λ (s : ShapeRead). option_map (with_first e.name r s.shape) (fields_read k n s.behind)) (shape_read (fields_read k) e e.type e.children es)) o ≡ Some f → First k n e es f
by_repetition k n e es f None q h = absurd (none-some f h)
by_repetition k n e es f (Some r) q h = by_shape k n e es f r q (shape_read (fields_read k) e e.type e.children es) refl h

pub first_of : (k n : ℕ) (e : SchemaElement) (es : List SchemaElement) (f : FieldsRead) → fields_read (suc k) (suc n) (e ∷ es) ≡ Some f → First k n e es f
first_of k n e es f h = by_repetition k n e es f (repetition_from e.repetition) refl h

-- and back
pub from_first : (k n : ℕ) (e : SchemaElement) (es : List SchemaElement) (r : Repetition) (s : ShapeRead) (x : FieldsRead) → repetition_from e.repetition ≡ Some r → shape_read (fields_read k) e e.type e.children es ≡ Some s
    → fields_read k n s.behind ≡ Some x → fields_read (suc k) (suc n) (e ∷ es) ≡ Some (with_first e.name r s.shape x)
from_first k n e es r s x hr hs hx = rw (hr, hs, hx) refl

-- ---- the shape of an element: a leaf, or a group of fields

pub leaf_shape : (k : ℕ) (e : SchemaElement) (t c : Option ℤ) (es : List SchemaElement) (s : ShapeRead) → shape_read (fields_read k) e t c es ≡ Some s → size_of_group t c ≡ None
    → (z : ℤ) × (t ≡ Some z) × (record { shape = file_leaf z e.converted; behind = es } ≡ s)
leaf_shape k e (Some z) c es s h g = (z, refl, same_Some _ _ h)
leaf_shape k e None None es s h g = absurd (none-some s h)
leaf_shape k e None (Some (pos n)) es s h g = absurd (none-some n (sym g))
leaf_shape k e None (Some (negsuc n)) es s h g = absurd (none-some s h)

group_from : (o : Option FieldsRead) (s : ShapeRead) → option_map as_group o ≡ Some s → (f : FieldsRead) × (o ≡ Some f) × (as_group f ≡ s)
group_from None s h = absurd (none-some s h)
group_from (Some f) s h = (f, refl, same_Some _ _ h)

pub group_shape : (k n : ℕ) (e : SchemaElement) (t c : Option ℤ) (es : List SchemaElement) (s : ShapeRead) → shape_read (fields_read k) e t c es ≡ Some s → size_of_group t c ≡ Some n
    → (f : FieldsRead) × (fields_read k n es ≡ Some f) × (as_group f ≡ s)
group_shape k n e (Some z) c es s h g = absurd (none-some n g)
group_shape k n e None None es s h g = absurd (none-some s h)
group_shape k n e None (Some (negsuc m)) es s h g = absurd (none-some s h)
group_shape k n e None (Some (pos m)) es s h g =
    let x = group_from (fields_read k m es) s h in
    (x.0, ap (λ (j : ℕ). fields_read k j es) (sym (same_Some _ _ g)) ∙ x.1, x.2)

-- a group of so many fields
pub shape_of_group : (k n : ℕ) (e : SchemaElement) (t c : Option ℤ) (es : List SchemaElement) → size_of_group t c ≡ Some n → shape_read (fields_read k) e t c es ≡ option_map as_group (fields_read k n es)
shape_of_group k n e (Some z) c es g = absurd (none-some n g)
shape_of_group k n e None None es g = absurd (none-some n g)
shape_of_group k n e None (Some (negsuc m)) es g = absurd (none-some n g)
shape_of_group k n e None (Some (pos m)) es g = ap (λ (j : ℕ). option_map as_group (fields_read k j es)) (same_Some _ _ g)

-- ---- each field takes an element, and so does each leaf

pub record Fits (n : ℕ) (es : List SchemaElement) (f : FieldsRead) : Type 0 where
  pub fields : n + length f.behind ≤ length es
  pub leaves : leaves_of_fields f.fields + length f.behind ≤ length es

abbrev AllFit : ℕ → Type 0
AllFit k = (n : ℕ) (es : List SchemaElement) (f : FieldsRead) → fields_read k n es ≡ Some f → Fits n es f

abbrev ShapeFits : List SchemaElement → ShapeRead → Type 0
ShapeFits es s = (leaves_of_shape s.shape + length s.behind ≤ suc (length es)) × (length s.behind ≤ length es)

shape_fits : (k : ℕ) → AllFit k → (e : SchemaElement) (t c : Option ℤ) (es : List SchemaElement) (s : ShapeRead) → shape_read (fields_read k) e t c es ≡ Some s → (o : Option ℕ) → size_of_group t c ≡ o → ShapeFits es s
shape_fits k h e t c es s g None q = subst (λ (x : ShapeRead). ShapeFits es x) (leaf_shape k e t c es s g q).2 (omega arith, omega arith)
shape_fits k h e t c es s g (Some n) q =
    let x = group_shape k n e t c es s g q in
    let y : Fits n es x.0 = h n es x.0 x.1 in
    subst (λ (z : ShapeRead). ShapeFits es z) x.2 (omega (arith, y.leaves), omega (arith, y.leaves))

first_fits : (n : ℕ) (e : SchemaElement) (es : List SchemaElement) (r : Repetition) (s : ShapeRead) (x : FieldsRead) → ShapeFits es s → Fits n s.behind x → Fits (suc n) (e ∷ es) (with_first e.name r s.shape x)
first_fits n e es r s x a b = record { fields = omega (arith, a.1, b.fields); leaves = omega (arith, a.0, b.leaves) }

pub fits : (k : ℕ) → AllFit k
fits k zero es f h = subst (λ (x : FieldsRead). Fits 0 es x) (same_Some _ _ h) (record { fields = omega arith; leaves = omega arith })
fits zero (suc n) es f h = absurd (none-some f h)
fits (suc k) (suc n) [] f h = absurd (none-some f h)
fits (suc k) (suc n) (e ∷ es) f h =
    let x : First k n e es f = first_of k n e es f h in
    subst (λ (y : FieldsRead). Fits (suc n) (e ∷ es) y) x.is_whole
    (first_fits n e es x.repetition x.shape x.rest (shape_fits k (fits k) e e.type e.children es x.shape x.is_shape (size_of_group e.type e.children) refl) (fits k n x.shape.behind x.rest x.is_rest))

pub shape_within : (e : SchemaElement) (es : List SchemaElement) (s : ShapeRead) → shape_from e es ≡ Some s → ShapeFits es s
shape_within e es s h = shape_fits (length es) (fits (length es)) e e.type e.children es s h (size_of_group e.type e.children) refl

-- the same of the next fields, with room for those behind the first
pub first_next : (n : ℕ) (e : SchemaElement) (es : List SchemaElement) (f : FieldsRead) → next_fields (suc n) (e ∷ es) ≡ Some f → First (length es) n e es f
first_next n e es f h = first_of (length es) n e es f h

pub rest_next : (n : ℕ) (e : SchemaElement) (es : List SchemaElement) (f : FieldsRead) (x : First (length es) n e es f) → next_fields n x.shape.behind ≡ Some x.rest
rest_next n e es f x =
    let w : length x.shape.behind ≤ length es = (shape_within e es x.shape x.is_shape).1 in
    same (length x.shape.behind) (length es) n x.shape.behind (omega arith) w ∙ x.is_rest

-- ---- fields before others

join : FileFields → FileFields → FileFields
join no_file_fields gs = gs
join (file_field n r s fs) gs = file_field n r s (join fs gs)

leaves-join : (fs gs : FileFields) → leaves_of_fields (join fs gs) ≡ leaves_of_fields fs + leaves_of_fields gs
unfolding join
leaves-join no_file_fields gs = omega arith
leaves-join (file_field n r s fs) gs = omega (arith, leaves-join fs gs)

both : FieldsRead → FieldsRead → FieldsRead
both a b = record { fields = join a.fields b.fields; behind = b.behind }

read_both : (k j c n m : ℕ) (es : List SchemaElement) (a b : FieldsRead) → length es ≤ k → length a.behind ≤ j → m ≡ c + n → fields_read k c es ≡ Some a → fields_read j n a.behind ≡ Some b → fields_read k m es ≡ Some (both a b)
unfolding both join
read_both k j zero n m es a b l w q h g =
    let e : (record { fields = no_file_fields; behind = es }) ≡ a = same_Some _ _ h in
    let z : m ≡ n = omega (arith, q) in
    rw z (subst (λ (x : FieldsRead). length x.behind ≤ j → fields_read j n x.behind ≡ Some b → fields_read k n es ≡ Some (both x b)) e (λ u v. same k j n es l u ∙ v) w g)
read_both zero j (suc c) n m es a b l w q h g = absurd (none-some a h)
read_both (suc k) j (suc c) n m [] a b l w q h g = absurd (none-some a h)
read_both (suc k) j (suc c) n m (e ∷ es) a b l w q h g =
    let x : First k c e es a = first_of k c e es a h in
    let behind : length x.shape.behind ≤ length es = (shape_fits k (fits k) e e.type e.children es x.shape x.is_shape (size_of_group e.type e.children) refl).1 in
    let s : x.rest.behind ≡ a.behind = ap (λ (y : FieldsRead). y.behind) x.is_whole in
    let z : m ≡ suc (c + n) = omega (arith, q) in
    let r : fields_read k (c + n) x.shape.behind ≡ Some (both x.rest b) =
    read_both k j c n (c + n) x.shape.behind x.rest b (omega (arith, l, behind)) (omega (arith, w, ap (λ (y : List SchemaElement). length y) s)) refl x.is_rest (ap (λ (y : List SchemaElement). fields_read j n y) s ∙ g) in
    ap (λ (y : ℕ). fields_read (suc k) y (e ∷ es)) z ∙ (from_first k (c + n) e es x.repetition x.shape (both x.rest b) x.is_repetition x.is_shape r ∙ ap (λ (y : FieldsRead). Some (both y b)) x.is_whole)

-- ---- passing

pub read_of : (n : ℕ) (es : List SchemaElement) → IsSome (passed n es) → (f : FieldsRead) × (next_fields n es ≡ Some f)
read_of n es h = by (next_fields n es) refl h
  where
    by : (o : Option FieldsRead) → next_fields n es ≡ o → IsSome (option_map passed_from o) → (f : FieldsRead) × (next_fields n es ≡ Some f)
    by None q h = absurd (true≢false (sym h))
    by (Some f) q h = (f, q)

pub passes : (n : ℕ) (es : List SchemaElement) (f : FieldsRead) → next_fields n es ≡ Some f → passed n es ≡ Some (passed_from f)
passes n es f h = ap (option_map passed_from) h

pub enough : (n : ℕ) (es : List SchemaElement) → IsSome (passed n es) → n ≤ length es
enough n es h =
    let x : (f : FieldsRead) × (next_fields n es ≡ Some f) = read_of n es h in
    let y : Fits n es x.0 = fits (length es) n es x.0 x.1 in
    omega (arith, y.fields)

pub no_more : (n : ℕ) → IsSome (passed (suc n) []) → ⊥
no_more n h = true≢false (sym h)

-- so many leaves more
abbrev pub and_leaves : ℕ → Option Passed → Option Passed
and_leaves n o = option_map (λ (p : Passed). record { leaves = n + p.leaves; behind = p.behind }) o

pub none_passed : (n : ℕ) (es : List SchemaElement) → and_leaves n (passed 0 es) ≡ Some (record { leaves = n; behind = es })
none_passed n es = let e : n + 0 ≡ n = omega arith in ap (λ (m : ℕ). Some (record { leaves = m; behind = es })) e

pub none_before : (o : Option Passed) → and_leaves 0 o ≡ o
none_before None = refl
none_before (Some p) = let e : 0 + p.leaves ≡ p.leaves = omega arith in ap (λ (m : ℕ). Some (record { leaves = m; behind = p.behind })) e

pub one_more : (n m : ℕ) (o : Option Passed) → m ≡ n + 1 → and_leaves n (and_leaves 1 o) ≡ and_leaves m o
one_more n m None q = refl
one_more n m (Some p) q = let e : n + (1 + p.leaves) ≡ m + p.leaves = omega (arith, q) in ap (λ (j : ℕ). Some (record { leaves = j; behind = p.behind })) e

-- a leaf
pub leaf_passed : (left n : ℕ) (e : SchemaElement) (es : List SchemaElement) → left ≡ suc n → IsSome (passed left (e ∷ es)) → size_of_group e.type e.children ≡ None → IsSome (passed n es) × (passed left (e ∷ es) ≡ and_leaves 1 (passed n es))
leaf_passed left n e es q h g =
    let k : IsSome (passed (suc n) (e ∷ es)) = subst (λ (m : ℕ). IsSome (passed m (e ∷ es))) q h in
    let f : (f : FieldsRead) × (next_fields (suc n) (e ∷ es) ≡ Some f) = read_of (suc n) (e ∷ es) k in
    let x : First (length es) n e es f.0 = first_next n e es f.0 f.1 in
    let s = (leaf_shape (length es) e e.type e.children es x.shape x.is_shape g).2 in
    let t : x.shape.behind ≡ es = sym (ap (λ (y : ShapeRead). y.behind) s) in
    let r : next_fields n es ≡ Some x.rest = ap (next_fields n) (sym t) ∙ rest_next n e es f.0 x in
    let u : 1 ≡ leaves_of_shape x.shape.shape = ap (λ (y : ShapeRead). leaves_of_shape y.shape) s in (
      is_there (passed n es) (passed_from x.rest) (passes n es x.rest r),
      rw q (passes (suc n) (e ∷ es) f.0 f.1 ∙ (ap (λ (y : FieldsRead). Some (passed_from y)) (sym x.is_whole) ∙ (ap (λ (j : ℕ). Some (record { leaves = j + leaves_of_fields x.rest.fields; behind = x.rest.behind })) (sym u) ∙ ap (and_leaves 1) (sym (passes n es x.rest r))))),
    )

-- a group: its fields are passed before the others
pub group_passed : (left n c m : ℕ) (e : SchemaElement) (es : List SchemaElement) → left ≡ suc n → m ≡ n + c → IsSome (passed left (e ∷ es)) → size_of_group e.type e.children ≡ Some c → IsSome (passed m es) × (passed left (e ∷ es) ≡ passed m es)
unfolding both
group_passed left n c m e es q w h g =
    let k : IsSome (passed (suc n) (e ∷ es)) = subst (λ (m : ℕ). IsSome (passed m (e ∷ es))) q h in
    let f : (f : FieldsRead) × (next_fields (suc n) (e ∷ es) ≡ Some f) = read_of (suc n) (e ∷ es) k in
    let x : First (length es) n e es f.0 = first_next n e es f.0 f.1 in
    let s = group_shape (length es) c e e.type e.children es x.shape x.is_shape g in
    let t : s.0.behind ≡ x.shape.behind = ap (λ (y : ShapeRead). y.behind) s.2 in
    let u : leaves_of_fields s.0.fields ≡ leaves_of_shape x.shape.shape = ap (λ (y : ShapeRead). leaves_of_shape y.shape) s.2 in
    let r : next_fields n s.0.behind ≡ Some x.rest = ap (next_fields n) t ∙ rest_next n e es f.0 x in
    let z : m ≡ c + n = omega (arith, w) in
    let v : next_fields m es ≡ Some (both s.0 x.rest) = read_both (length es) (length s.0.behind) c n m es s.0 x.rest (omega arith) (omega arith) z s.1 r in
    let y : leaves_of_shape x.shape.shape + leaves_of_fields x.rest.fields ≡ leaves_of_fields (both s.0 x.rest).fields = omega (arith, u, leaves-join s.0.fields x.rest.fields) in
    let first : passed (suc n) (e ∷ es) ≡ Some (passed_from (both s.0 x.rest)) =
    passes (suc n) (e ∷ es) f.0 f.1 ∙ (ap (λ (y : FieldsRead). Some (passed_from y)) (sym x.is_whole) ∙ ap (λ (j : ℕ). Some (record { leaves = j; behind = x.rest.behind })) y) in (
      is_there (passed m es) (passed_from (both s.0 x.rest)) (passes m es (both s.0 x.rest) v),
      ap (λ (j : ℕ). passed j (e ∷ es)) q ∙ (first ∙ sym (passes m es (both s.0 x.rest) v)),
    )

-- ---- lists of elements

pub rest_from : {A : Type 0} (xs : List A) (i : ℕ) → take (length xs - i) (drop i xs) ≡ drop i xs
rest_from xs i = let e : length (drop i xs) ≤ length xs - i = omega (arith, length-drop i xs) in take_all (length xs - i) (drop i xs) e

-- ---- the element at a place of the list

abbrev pub from_place : ℕ → List SchemaItem → List SchemaElement
from_place i xs = map item_view (drop i xs)

at_place : (xs : List SchemaItem) (i : ℕ) (d : SchemaItem) → i < length xs → from_place i xs ≡ item_view (get_or xs i d) ∷ from_place (i + 1) xs
at_place xs i d h = ap (map item_view) (drop_more xs i d h)

-- the next element is a leaf
pub leaf_at_place : (xs : List SchemaItem) (i left leaves : ℕ) (d : SchemaItem) → i < length xs → 0 < left → IsSome (passed left (from_place i xs)) → None ≡ size_of_group (get_or xs i d).kind (get_or xs i d).children
    → IsSome (passed (left - 1) (from_place (i + 1) xs)) × (and_leaves (leaves + 1) (passed (left - 1) (from_place (i + 1) xs)) ≡ and_leaves leaves (passed left (from_place i xs)))
leaf_at_place xs i left leaves d h p k g =
    let e : from_place i xs ≡ item_view (get_or xs i d) ∷ from_place (i + 1) xs = at_place xs i d h in
    let q : left ≡ suc (left - 1) = omega (arith, p) in
    let x : IsSome (passed (left - 1) (from_place (i + 1) xs)) × (passed left (item_view (get_or xs i d) ∷ from_place (i + 1) xs) ≡ and_leaves 1 (passed (left - 1) (from_place (i + 1) xs))) =
    leaf_passed left (left - 1) (item_view (get_or xs i d)) (from_place (i + 1) xs) q (subst (λ (es : List SchemaElement). IsSome (passed left es)) e k) (sym g) in
    (x.0, sym (ap (λ (es : List SchemaElement). and_leaves leaves (passed left es)) e ∙ (ap (and_leaves leaves) x.1 ∙ one_more leaves (leaves + 1) (passed (left - 1) (from_place (i + 1) xs)) refl)))

-- the next element is a group
pub group_at_place : (xs : List SchemaItem) (i left leaves inner : ℕ) (d : SchemaItem) → i < length xs → 0 < left → IsSome (passed left (from_place i xs)) → Some inner ≡ size_of_group (get_or xs i d).kind (get_or xs i d).children
    → IsSome (passed (left - 1 + inner) (from_place (i + 1) xs)) × (and_leaves leaves (passed (left - 1 + inner) (from_place (i + 1) xs)) ≡ and_leaves leaves (passed left (from_place i xs)))
group_at_place xs i left leaves inner d h p k g =
    let e : from_place i xs ≡ item_view (get_or xs i d) ∷ from_place (i + 1) xs = at_place xs i d h in
    let q : left ≡ suc (left - 1) = omega (arith, p) in
    let x : IsSome (passed (left - 1 + inner) (from_place (i + 1) xs)) × (passed left (item_view (get_or xs i d) ∷ from_place (i + 1) xs) ≡ passed (left - 1 + inner) (from_place (i + 1) xs)) =
    group_passed left (left - 1) inner (left - 1 + inner) (item_view (get_or xs i d)) (from_place (i + 1) xs) q refl (subst (λ (es : List SchemaElement). IsSome (passed left es)) e k) (sym g) in
    (x.0, sym (ap (λ (es : List SchemaElement). and_leaves leaves (passed left es)) e ∙ ap (and_leaves leaves) x.1))

-- no more fields than elements
pub fields_within : (xs : List SchemaItem) (i n : ℕ) → IsSome (passed n (from_place i xs)) → n ≤ length xs
fields_within xs i n h = omega (arith, enough n (from_place i xs) h, length-map (drop i xs) item_view, length-drop i xs)

pub first_from : (xs : List SchemaItem) (i : ℕ) (x : SchemaItem) (ys : List SchemaItem) → take (length xs - i) (drop i xs) ≡ x ∷ ys → from_place i xs ≡ item_view x ∷ map item_view ys
first_from xs i x ys h = ap (map item_view) (sym (rest_from xs i) ∙ h)
