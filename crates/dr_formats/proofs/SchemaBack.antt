-- The schema elements that are written are read as the schema, and its leaves are the file's.
use Rattle.std.proofs.Common.{◌≡◌, ℕ, zero, suc, ◌≤◌, List, [], ◌∷◌, ◌++◌, map, length, Bool, true, false, not, ◌&&◌, refl, sym, ap, ap₂, ◌∙◌, subst, arith, pos, Some, None, append_assoc, append-nil}
use Rattle.std.specs.Prelude.{nat_le, bytes_eq}
use Rattle.std.specs.List.{list_any, list_all}
use Rattle.std.proofs.lemmas.Bool.{and_parts, and_from, leb-true, le-leb, not-true, or_parts, or_from, not_from_false, and_left, and_right}
use Rattle.std.proofs.lemmas.Slice.Eq.{bytes_eq-Decides}
use Rattle.std.proofs.lemmas.List.{length-append, map-append}
use Rattle.dr_meaning.specs.Schema.{Repetition, required, optional, repeated, Kind, bool_kind, int32_kind, int64_kind, text_kind, Fields, no_fields, field, Shape, leaf, group, Schema, field_names, is_short_name, is_group, is_shape, depth, shape_depth, same_kind}
use Rattle.dr_meaning.specs.Path.{Step, Leaf, same_repetition, leaf_below, leaves_from, shape_leaves, leaves}
use Rattle.dr_meaning.proofs.SchemaReadsBack.{FirstField, first_of_group, other_way}
use Rattle.dr_formats.specs.Metadata.{SchemaElement}
use Rattle.dr_formats.specs.FileSchema.{FileFields, no_file_fields, file_field, FileShape, file_leaf, file_group, repetition_from, fields_read, file_schema, open_kind, is_open_name, leaf_under, leaves_under, shape_leaves_under, within_depth, file_leaves, same_names, same_repetitions, is_leaf_for, place_of}
use Rattle.dr_formats.specs.OpenSchemaLaws.{file_leaf_of}
use Rattle.dr_formats.specs.WritingLaws.{nth_leaf}
use Rattle.dr_formats.specs.Writing.{type_from, repetition_number, converted_from, count_fields, elements, shape_elements, schema_elements}

-- a schema's fields as a file's
abbrev mutual
  pub file_fields_of : Fields → FileFields
  file_fields_of no_fields = no_file_fields
  file_fields_of (field n r s fs) = file_field n r (file_shape_of s) (file_fields_of fs)

  pub file_shape_of : Shape → FileShape
  file_shape_of (leaf k) = file_leaf (pos (type_from k)) (converted_from k)
  file_shape_of (group fs) = file_group (file_fields_of fs)

repetition_back : (r : Repetition) → repetition_from (Some (pos (repetition_number r))) ≡ Some r
repetition_back required = refl
repetition_back optional = refl
repetition_back repeated = refl

abbrev FieldsBack : Fields → ℕ → Type 0
FieldsBack fs k = (es : List SchemaElement) → fields_read k (count_fields fs) (elements fs ++ es) ≡ Some (record { fields = file_fields_of fs; behind = es })

shape_has_element : (n : List ℕ) (r : Repetition) (s : Shape) → 1 ≤ length (shape_elements n r s)
shape_has_element n r (leaf k) = omega arith
shape_has_element n r (group fs) = omega arith

mutual
  fields_back : (fs : Fields) (k : ℕ) → length (elements fs) ≤ k → FieldsBack fs k
  fields_back no_fields k l es = refl
  fields_back (field n r s fs) zero l es = absurd (omega (arith, l, length-append (shape_elements n r s) (elements fs), shape_has_element n r s))
  fields_back (field n r s fs) (suc k) l es = shape_back n r s fs k (omega (arith, l, length-append (shape_elements n r s) (elements fs))) es (fields_back fs k (omega (arith, l, length-append (shape_elements n r s) (elements fs), shape_has_element n r s)) es)

  shape_back : (n : List ℕ) (r : Repetition) (s : Shape) (fs : Fields) (k : ℕ) → length (shape_elements n r s) ≤ suc k → (es : List SchemaElement) → fields_read k (count_fields fs) (elements fs ++ es) ≡ Some (record { fields = file_fields_of fs; behind = es }) → fields_read (suc k) (suc (count_fields fs)) ((shape_elements n r s ++ elements fs) ++ es) ≡ Some (record { fields = file_field n r (file_shape_of s) (file_fields_of fs); behind = es })
  shape_back n r (leaf t) fs k l es h = rw (repetition_back r, h) refl
  shape_back n r (group gs) fs k l es h = rw (append_assoc (elements gs) (elements fs) es, repetition_back r, fields_back gs k (omega (arith, l)) (elements fs ++ es), h) refl

pub schema_back : (s : Schema) → file_schema (schema_elements s) ≡ Some (record { name = s.name; fields = file_fields_of s.fields })
schema_back s =
    let h : fields_read (length (elements s.fields)) (count_fields s.fields) (elements s.fields ++ []) ≡ Some (record { fields = file_fields_of s.fields; behind = [] }) = fields_back s.fields (length (elements s.fields)) (omega arith) [] in
    let g : fields_read (length (elements s.fields)) (count_fields s.fields) (elements s.fields) ≡ Some (record { fields = file_fields_of s.fields; behind = [] }) = rw append-nil at h in
    rw g refl

-- ---- leaves

pub kind_back : (k : Kind) → open_kind (pos (type_from k)) (converted_from k) ≡ Some k
kind_back bool_kind = refl
kind_back int32_kind = refl
kind_back int64_kind = refl
kind_back text_kind = refl

-- no field of these has an earlier name
abbrev pub Fresh : List (List ℕ) → Fields → Type 0
Fresh earlier no_fields = Unit {0}
Fresh earlier (field n r s fs) = (list_any (bytes_eq n) earlier ≡ false) × Fresh earlier fs

pub fresh_more : (n : List ℕ) (earlier : List (List ℕ)) (fs : Fields) → list_any (bytes_eq n) (field_names fs) ≡ false → Fresh earlier fs → Fresh (n ∷ earlier) fs
fresh_more n earlier no_fields h f = tt
fresh_more n earlier (field m r s fs) h f =
    let p : (bytes_eq n m ≡ false) × (list_any (bytes_eq n) (field_names fs) ≡ false) = or_parts _ _ h in
    (or_from _ _ (other_way n m p.0) f.0, fresh_more n earlier fs p.1 f.1)

pub fresh_at_first : (fs : Fields) → Fresh [] fs
fresh_at_first no_fields = tt
fresh_at_first (field n r s fs) = (refl, fresh_at_first fs)

pub open_if : (earlier : List (List ℕ)) (n : List ℕ) → is_short_name n ≡ true → list_any (bytes_eq n) earlier ≡ false → is_open_name earlier n ≡ true
open_if earlier n h f = and_from _ _ h (not_from_false _ f)

map_under : (n : List ℕ) (i : ℕ) (r : Repetition) (ls : List Leaf) → map (leaf_under n r true) (map file_leaf_of ls) ≡ map file_leaf_of (map (leaf_below n (record { place = i; repetition = r })) ls)
map_under n i r [] = refl
map_under n i r (l ∷ ls) = ap (λ xs. file_leaf_of (leaf_below n (record { place = i; repetition = r }) l) ∷ xs) (map_under n i r ls)

mutual
  leaves_back : (fs : Fields) (i : ℕ) (earlier : List (List ℕ)) → is_group fs ≡ true → Fresh earlier fs → leaves_under earlier (file_fields_of fs) ≡ map file_leaf_of (leaves_from fs i)
  leaves_back no_fields i earlier h f = refl
  leaves_back (field n r s fs) i earlier h f =
      let p : FirstField n s fs = first_of_group n r s fs h in
      let a : leaves_under (n ∷ earlier) (file_fields_of fs) ≡ map file_leaf_of (leaves_from fs (suc i)) = leaves_back fs (suc i) (n ∷ earlier) p.3 (fresh_more n earlier fs p.1 f.1) in
      let b : shape_leaves_under (file_shape_of s) ≡ map file_leaf_of (shape_leaves s) = shape_leaves_back s p.2 in
      let c : map (leaf_under n r true) (shape_leaves_under (file_shape_of s)) ≡ map file_leaf_of (map (leaf_below n (record { place = i; repetition = r })) (shape_leaves s)) = ap (map (leaf_under n r true)) b ∙ map_under n i r (shape_leaves s) in
      rw (open_if earlier n p.0 f.0) (ap₂ (λ x y. x ++ y) c a ∙ sym (map-append file_leaf_of (map (leaf_below n (record { place = i; repetition = r })) (shape_leaves s)) (leaves_from fs (suc i))))

  shape_leaves_back : (s : Shape) → is_shape s ≡ true → shape_leaves_under (file_shape_of s) ≡ map file_leaf_of (shape_leaves s)
  shape_leaves_back (leaf k) h = rw (kind_back k) refl
  shape_leaves_back (group fs) h = leaves_back fs 0 [] (and_parts _ _ h).1 (fresh_at_first fs)

-- ---- the depth of leaves

abbrev pub AllLeaves : (Leaf → Bool) → List Leaf → Type 0
AllLeaves t ls = list_all t ls ≡ true

all_append : (t : Leaf → Bool) (xs ys : List Leaf) → AllLeaves t xs → AllLeaves t ys → AllLeaves t (xs ++ ys)
all_append t [] ys h k = k
all_append t (x ∷ xs) ys h k = let p : (t x ≡ true) × AllLeaves t xs = and_parts _ _ h in and_from _ _ p.0 (all_append t xs ys p.1 k)

abbrev pub is_within : ℕ → Leaf → Bool
is_within d l = nat_le (length l.names) d

below_within : (n : List ℕ) (s : Step) (d e : ℕ) (ls : List Leaf) → suc e ≤ d → AllLeaves (is_within e) ls → AllLeaves (is_within d) (map (leaf_below n s) ls)
below_within n s d e [] l h = refl
below_within n s d e (x ∷ ls) l h =
    let p : (is_within e x ≡ true) × AllLeaves (is_within e) ls = and_parts _ _ h in
    and_from _ _ (le-leb (suc (length x.names)) d (omega (arith, l, leb-true _ _ p.0))) (below_within n s d e ls l p.1)

mutual
  pub leaves_within : (fs : Fields) (i d : ℕ) → depth fs ≤ d → AllLeaves (is_within d) (leaves_from fs i)
  leaves_within no_fields i d l = refl
  leaves_within (field n r s fs) i d l = all_append (is_within d) (map (leaf_below n (record { place = i; repetition = r })) (shape_leaves s)) (leaves_from fs (suc i)) (below_within n (record { place = i; repetition = r }) d (shape_depth s) (shape_leaves s) (omega (arith, l)) (shape_within s (shape_depth s) (omega arith))) (leaves_within fs (suc i) d (omega (arith, l)))

  shape_within : (s : Shape) (d : ℕ) → shape_depth s ≤ d → AllLeaves (is_within d) (shape_leaves s)
  shape_within (leaf k) d l = and_from _ _ (le-leb 0 d (omega arith)) refl
  shape_within (group fs) d l = leaves_within fs 0 d l

within_kept : (ls : List Leaf) → AllLeaves (is_within 32) ls → map within_depth (map file_leaf_of ls) ≡ map file_leaf_of ls
within_kept [] h = refl
within_kept (l ∷ ls) h =
    let p : (is_within 32 l ≡ true) × AllLeaves (is_within 32) ls = and_parts _ _ h in
    rw p.0 (ap (λ xs. file_leaf_of l ∷ xs) (within_kept ls p.1))

-- the leaves of the file are those of the schema
pub file_leaves_back : (fs : Fields) → is_group fs ≡ true → depth fs ≤ 32 → file_leaves (file_fields_of fs) ≡ map file_leaf_of (leaves fs)
file_leaves_back fs h l = ap (map within_depth) (leaves_back fs 0 [] h (fresh_at_first fs)) ∙ within_kept (leaves fs) (leaves_within fs 0 32 l)

-- ---- the place of a leaf

abbrev has_other_names : List (List ℕ) → Leaf → Bool
has_other_names ns l = not (same_names l.names ns)

-- no two leaves have the same names
abbrev Apart : List Leaf → Type 0
Apart [] = Unit {0}
Apart (l ∷ ls) = AllLeaves (has_other_names l.names) ls × Apart ls

apart_append : (xs ys : List Leaf) → Apart xs → Apart ys → ((x : Leaf) → (i : ℕ) → nth_leaf xs i ≡ Some x → AllLeaves (has_other_names x.names) ys) → Apart (xs ++ ys)
apart_append [] ys a b f = b
apart_append (x ∷ xs) ys a b f = (all_append (has_other_names x.names) xs ys a.0 (f x 0 refl), apart_append xs ys a.1 b (λ y i e. f y (suc i) e))

others_below : (n : List ℕ) (s : Step) (ns : List (List ℕ)) (ls : List Leaf) → AllLeaves (has_other_names ns) ls → AllLeaves (has_other_names (n ∷ ns)) (map (leaf_below n s) ls)
others_below n s ns [] h = refl
others_below n s ns (l ∷ ls) h =
    let p : (not (same_names l.names ns) ≡ true) × AllLeaves (has_other_names ns) ls = and_parts _ _ h in
    let e : (bytes_eq n n && same_names l.names ns) ≡ false = and_right (bytes_eq n n) (same_names l.names ns) (not-true _ p.0) in
    and_from _ _ (not_from_false _ e) (others_below n s ns ls p.1)

apart_below : (n : List ℕ) (s : Step) (ls : List Leaf) → Apart ls → Apart (map (leaf_below n s) ls)
apart_below n s [] h = tt
apart_below n s (l ∷ ls) h = (others_below n s l.names ls h.0, apart_below n s ls h.1)

-- leaves of fields with other names have other names
others_of_field : (n m : List ℕ) (s : Step) (ns : List (List ℕ)) (ls : List Leaf) → bytes_eq m n ≡ false → AllLeaves (has_other_names (n ∷ ns)) (map (leaf_below m s) ls)
others_of_field n m s ns [] h = refl
others_of_field n m s ns (l ∷ ls) h = and_from _ _ (not_from_false _ (and_left (bytes_eq m n) (same_names l.names ns) h)) (others_of_field n m s ns ls h)

others_of_fields : (n : List ℕ) (ns : List (List ℕ)) (fs : Fields) (i : ℕ) → list_any (bytes_eq n) (field_names fs) ≡ false → AllLeaves (has_other_names (n ∷ ns)) (leaves_from fs i)
others_of_fields n ns no_fields i h = refl
others_of_fields n ns (field m r s fs) i h =
    let p : (bytes_eq n m ≡ false) × (list_any (bytes_eq n) (field_names fs) ≡ false) = or_parts _ _ h in
    all_append (has_other_names (n ∷ ns)) (map (leaf_below m (record { place = i; repetition = r })) (shape_leaves s)) (leaves_from fs (suc i)) (others_of_field n m (record { place = i; repetition = r }) ns (shape_leaves s) (other_way n m p.0)) (others_of_fields n ns fs (suc i) p.1)

some_leaf : (l m : Leaf) → Some l ≡ Some m → l ≡ m
some_leaf l m e = cc

no_leaf : (m : Leaf) → None ≡ Some m → ⊥
no_leaf m e = cc

-- the leaves of a field begin with its name
under_name : (n : List ℕ) (s : Step) (ls : List Leaf) (i : ℕ) (x : Leaf) → nth_leaf (map (leaf_below n s) ls) i ≡ Some x → (l : Leaf) × (leaf_below n s l ≡ x)
under_name n s [] i x e = absurd (no_leaf x e)
under_name n s (l ∷ ls) zero x e = (l, some_leaf (leaf_below n s l) x e)
under_name n s (l ∷ ls) (suc i) x e = under_name n s ls i x e

mutual
  fields_apart : (fs : Fields) (i : ℕ) → is_group fs ≡ true → Apart (leaves_from fs i)
  fields_apart no_fields i h = tt
  fields_apart (field n r s fs) i h =
      let p : FirstField n s fs = first_of_group n r s fs h in
      apart_append (map (leaf_below n (record { place = i; repetition = r })) (shape_leaves s)) (leaves_from fs (suc i)) (apart_below n (record { place = i; repetition = r }) (shape_leaves s) (shape_apart s p.2)) (fields_apart fs (suc i) p.3)
      (λ x j e. let u = under_name n (record { place = i; repetition = r }) (shape_leaves s) j x e in subst (λ (y : Leaf). AllLeaves (has_other_names y.names) (leaves_from fs (suc i))) u.1 (others_of_fields n u.0.names fs (suc i) p.1))

  shape_apart : (s : Shape) → is_shape s ≡ true → Apart (shape_leaves s)
  shape_apart (leaf k) h = (refl, tt)
  shape_apart (group fs) h = fields_apart fs 0 (and_parts _ _ h).1

names_same : (ns : List (List ℕ)) → same_names ns ns ≡ true
names_same [] = refl
names_same (n ∷ ns) = and_from _ _ ((bytes_eq-Decides n n).1 refl) (names_same ns)

repetitions_same : (p : List Step) → same_repetitions p (map (λ (s : Step). s.repetition) p) ≡ true
repetitions_same [] = refl
repetitions_same (s ∷ p) = and_from _ _ (repetition_same s.repetition) (repetitions_same p)
  where
    repetition_same : (r : Repetition) → same_repetition r r ≡ true
    repetition_same required = refl
    repetition_same optional = refl
    repetition_same repeated = refl

kind_same : (k : Kind) → same_kind k k ≡ true
kind_same bool_kind = refl
kind_same int32_kind = refl
kind_same int64_kind = refl
kind_same text_kind = refl

leaf_for_itself : (l : Leaf) → is_leaf_for l (file_leaf_of l) ≡ true
leaf_for_itself l = and_from _ _ (and_from _ _ (names_same l.names) (repetitions_same l.path)) (kind_same l.kind)

leaf_not_for : (l m : Leaf) → same_names l.names m.names ≡ false → is_leaf_for l (file_leaf_of m) ≡ false
leaf_not_for l m h = and_left _ _ (and_left _ _ h)

at_nth : (t : Leaf → Bool) (ls : List Leaf) (i : ℕ) (l : Leaf) → AllLeaves t ls → nth_leaf ls i ≡ Some l → t l ≡ true
at_nth t [] i l h e = absurd (no_leaf l e)
at_nth t (m ∷ ls) zero l h e = subst (λ (x : Leaf). t x ≡ true) (some_leaf m l e) (and_parts _ _ h).0
at_nth t (m ∷ ls) (suc i) l h e = at_nth t ls i l (and_parts _ _ h).1 e

place_back : (ls : List Leaf) → Apart ls → (i : ℕ) (l : Leaf) → nth_leaf ls i ≡ Some l → place_of l (map file_leaf_of ls) ≡ Some i
place_back [] a i l e = absurd (no_leaf l e)
place_back (m ∷ ls) a zero l e = rw (subst (λ (x : Leaf). is_leaf_for x (file_leaf_of m) ≡ true) (some_leaf m l e) (leaf_for_itself m)) refl
place_back (m ∷ ls) a (suc i) l e = rw (leaf_not_for l m (not-true _ (at_nth (has_other_names m.names) ls i l a.0 e)), place_back ls a.1 i l e) refl

-- a leaf of the schema is found at its place
pub leaf_found : (fs : Fields) (i : ℕ) (l : Leaf) → is_group fs ≡ true → nth_leaf (leaves fs) i ≡ Some l → place_of l (map file_leaf_of (leaves fs)) ≡ Some i
leaf_found fs i l h e = place_back (leaves fs) (fields_apart fs 0 h) i l e
