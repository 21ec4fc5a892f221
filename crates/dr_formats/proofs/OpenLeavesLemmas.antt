-- The leaves of the open part of a file's schema are the first open leaves of the file.
use Rattle.std.proofs.Common.{◌≡◌, ℕ, zero, suc, ◌-◌, ◌<◌, ◌≤◌, ◌⊎◌, inl, inr, List, [], ◌∷◌, ◌++◌, map, length, take, Bool, true, false, refl, sym, ap, ap₂, ◌∙◌, subst, arith, Some, None, Option, length-append}
use Rattle.std.specs.Prelude.{nat_le, if◌then◌else◌}
use Rattle.std.proofs.lemmas.Bool.{lt-leb, le-leb, cases_lt}
use Rattle.std.proofs.lemmas.List.{map-append}
use Rattle.std.proofs.lemmas.List.Elements.{filter-append}
use Rattle.dr_meaning.specs.Schema.{Repetition, Kind, Fields, no_fields, field, Shape, greatest_depth, most_leaves}
use Rattle.dr_meaning.specs.Path.{Leaf, leaf_below, leaves_from, shape_leaves}
use Rattle.dr_formats.specs.FileSchema.{FileFields, no_file_fields, file_field, FileShape, file_leaf, file_group, open_kind, is_open_name, FileLeaf, only_if, leaf_under, leaves_under, shape_leaves_under, OpenFields, OpenShape, open_leaf, group_unless_empty, closed_shape, put_field, put_open, open_fields, open_below, schema_unless_empty}
use Rattle.dr_formats.specs.OpenSchemaLaws.{file_leaf_of, has_kind, open_ones, leaves_of_part, OpenPartHasOpenLeaves}

-- ---- open leaves of lists

-- a leaf below a field
abbrev under : List ℕ → Repetition → FileLeaf → FileLeaf
under n r l = record { names = n ∷ l.names; repetitions = r ∷ l.repetitions; kind = l.kind }

open_under : (n : List ℕ) (r : Repetition) (ls : List FileLeaf) → open_ones (map (under n r) ls) ≡ map (under n r) (open_ones ls)
open_under n r [] = refl
open_under n r (l ∷ ls) = by_test (has_kind l.kind) (open_under n r ls)
  where
    by_test : (b : Bool) → open_ones (map (under n r) ls) ≡ map (under n r) (open_ones ls) → (if b then under n r l ∷ open_ones (map (under n r) ls) else open_ones (map (under n r) ls)) ≡ map (under n r) (if b then l ∷ open_ones ls else open_ones ls)
    by_test true e = ap (λ z. under n r l ∷ z) e
    by_test false e = e

-- a leaf that is closed
abbrev closed : FileLeaf → FileLeaf
closed l = record l { kind = None }

none_open : (f : FileLeaf → FileLeaf) → ((l : FileLeaf) → has_kind (f l).kind ≡ false) → (ls : List FileLeaf) → open_ones (map f ls) ≡ []
none_open f h [] = refl
none_open f h (l ∷ ls) = rw (h l) (none_open f h ls)

map_same : (f g : FileLeaf → FileLeaf) → ((l : FileLeaf) → f l ≡ g l) → (ls : List FileLeaf) → map f ls ≡ map g ls
map_same f g h [] = refl
map_same f g h (l ∷ ls) = ap₂ (λ x xs. x ∷ xs) (h l) (map_same f g h ls)

map_map : (f g : FileLeaf → FileLeaf) (ls : List FileLeaf) → map f (map g ls) ≡ map (λ l. f (g l)) ls
map_map f g [] = refl
map_map f g (l ∷ ls) = ap (λ xs. f (g l) ∷ xs) (map_map f g ls)

length_under : (n : List ℕ) (r : Repetition) (ls : List FileLeaf) → length (map (under n r) ls) ≡ length ls
length_under n r [] = refl
length_under n r (l ∷ ls) = ap suc (length_under n r ls)

take_under : (n : List ℕ) (r : Repetition) (k : ℕ) (ls : List FileLeaf) → take k (map (under n r) ls) ≡ map (under n r) (take k ls)
take_under n r zero ls = refl
take_under n r (suc k) [] = refl
take_under n r (suc k) (l ∷ ls) = ap (λ xs. under n r l ∷ xs) (take_under n r k ls)

take_both : (k : ℕ) (xs ys : List FileLeaf) → take k (xs ++ ys) ≡ take k xs ++ take (k - length xs) ys
take_both k [] ys = let e : k - 0 ≡ k = omega arith in rw e (none k)
  where
    none : (k : ℕ) → take k ys ≡ take k [] ++ take k ys
    none zero = refl
    none (suc k) = refl
take_both zero (x ∷ xs) ys = let e : 0 - suc (length xs) ≡ 0 = omega arith in rw e refl
take_both (suc k) (x ∷ xs) ys = let e : suc k - suc (length xs) ≡ k - length xs = omega arith in rw e (ap (λ z. x ∷ z) (take_both k xs ys))

-- ---- depth

-- a leaf, closed where it has more than d parts; the same where a part of a field comes before
abbrev within : ℕ → FileLeaf → FileLeaf
within d l = record l { kind = only_if (nat_le (length l.names) d) l.kind }

abbrev within_field : ℕ → FileLeaf → FileLeaf
within_field zero l = closed l
within_field (suc d) l = within d l

one_less : (a b : ℕ) → nat_le (suc a) (suc b) ≡ nat_le a b
one_less a b = by_order (cases_lt b a)
  where
    by_order : (b < a) ⊎ (a ≤ b) → nat_le (suc a) (suc b) ≡ nat_le a b
    by_order (inl h) = lt-leb (suc a) (suc b) (omega arith) ∙ sym (lt-leb a b h)
    by_order (inr h) = le-leb (suc a) (suc b) (omega arith) ∙ sym (le-leb a b h)

within_under : (n : List ℕ) (r : Repetition) (d : ℕ) (l : FileLeaf) → within d (leaf_under n r true l) ≡ under n r (within_field d l)
within_under n r zero l = ap (λ b. with_kind (only_if b l.kind)) (lt-leb (suc (length l.names)) 0 (omega arith))
  where
    with_kind : Option Kind → FileLeaf
    with_kind k = record { names = n ∷ l.names; repetitions = r ∷ l.repetitions; kind = k }
within_under n r (suc d) l = ap (λ b. with_kind (only_if b l.kind)) (one_less (length l.names) d)
  where
    with_kind : Option Kind → FileLeaf
    with_kind k = record { names = n ∷ l.names; repetitions = r ∷ l.repetitions; kind = k }

closed_kind : (b : Bool) (k : Option Kind) → has_kind (only_if b (only_if false k)) ≡ false
closed_kind true k = refl
closed_kind false k = refl

-- the open leaves below a field: those of its shape, where its name is open
of_field : (n : List ℕ) (r : Repetition) (d : ℕ) (ls : List FileLeaf) → open_ones (map (within d) (map (leaf_under n r true) ls)) ≡ map (under n r) (open_ones (map (within_field d) ls))
of_field n r d ls = ap open_ones (map_map (within d) (leaf_under n r true) ls ∙ map_same (λ l. within d (leaf_under n r true l)) (λ l. under n r (within_field d l)) (within_under n r d) ls ∙ sym (map_map (under n r) (within_field d) ls)) ∙ open_under n r (map (within_field d) ls)

of_closed : (n : List ℕ) (r : Repetition) (d : ℕ) (ls : List FileLeaf) → open_ones (map (within d) (map (leaf_under n r false) ls)) ≡ []
of_closed n r d ls = ap open_ones (map_map (within d) (leaf_under n r false) ls) ∙ none_open (λ l. within d (leaf_under n r false l)) (λ l. closed_kind (nat_le (length (n ∷ l.names)) d) l.kind) ls

-- ---- the open part

abbrev shape_leaves_of : Option Shape → List FileLeaf
shape_leaves_of None = []
shape_leaves_of (Some s) = map file_leaf_of (shape_leaves s)

-- the open part has the first n of these, and so many may still come
abbrev FieldsHave : OpenFields → ℕ → List FileLeaf → Type 0
FieldsHave o n ls = ((i : ℕ) → map file_leaf_of (leaves_from o.fields i) ≡ take n ls) × (o.left ≡ n - length ls)

abbrev ShapeHas : OpenShape → ℕ → List FileLeaf → Type 0
ShapeHas o n ls = (shape_leaves_of o.shape ≡ take n ls) × (o.left ≡ n - length ls)

take_none : (n : ℕ) → take n (◌++◌ {A = FileLeaf} [] []) ≡ []
take_none zero = refl
take_none (suc n) = refl

closed_has : (n : ℕ) → ShapeHas (closed_shape n) n []
closed_has n = (sym (take_none n), omega arith)

file_below : (m : List ℕ) (i : ℕ) (r : Repetition) (ls : List Leaf) → map file_leaf_of (map (leaf_below m (record { place = i; repetition = r })) ls) ≡ map (under m r) (map file_leaf_of ls)
file_below m i r [] = refl
file_below m i r (l ∷ ls) = ap (λ xs. under m r (file_leaf_of l) ∷ xs) (file_below m i r ls)

-- a field's open part, and that of the fields behind it
both_have : (m : List ℕ) (r : Repetition) (n : ℕ) (o : OpenShape) (rest : ℕ → OpenFields) (xs ys : List FileLeaf) → ShapeHas o n xs → ((k : ℕ) → FieldsHave (rest k) k ys) → FieldsHave (put_open m r o rest) n (map (under m r) xs ++ ys)
both_have m r n o rest xs ys h g = (λ i. have i, omega (arith, h.1, (g o.left).1, length-append (map (under m r) xs) ys, length_under m r xs))
  where
    parts : (i : ℕ) (s : Option Shape) → map file_leaf_of (leaves_from (put_field m r s (rest o.left).fields) i) ≡ map (under m r) (shape_leaves_of s) ++ take o.left ys
    parts i None = (g o.left).0 i
    parts i (Some s) = map-append file_leaf_of (map (leaf_below m (record { place = i; repetition = r })) (shape_leaves s)) (leaves_from (rest o.left).fields (suc i)) ∙ ap₂ (λ a b. a ++ b) (file_below m i r (shape_leaves s)) ((g o.left).0 (suc i))

    have : (i : ℕ) → map file_leaf_of (leaves_from (put_open m r o rest).fields i) ≡ take n (map (under m r) xs ++ ys)
    have i = parts i o.shape ∙ ap₂ (λ a b. map (under m r) a ++ take b ys) h.0 h.1 ∙ ap₂ (λ a b. a ++ take b ys) (sym (take_under m r n xs)) (ap (λ z. n - z) (sym (length_under m r xs))) ∙ sym (take_both n (map (under m r) xs) ys)

leaf_has : (k : Option Kind) (n : ℕ) → ShapeHas (open_leaf k n) n (open_ones (record { names = []; repetitions = []; kind = k } ∷ []))
leaf_has None n = closed_has n
leaf_has (Some k) zero = (refl, omega arith)
leaf_has (Some k) (suc n) = (ap (λ xs. record { names = []; repetitions = []; kind = Some k } ∷ xs) (sym (take_none n)), omega arith)

first_part : (k : Option Kind) (d : ℕ) → map (within_field (suc d)) (record { names = []; repetitions = []; kind = k } ∷ []) ≡ record { names = []; repetitions = []; kind = k } ∷ []
first_part k d = ap (λ b. record { names = []; repetitions = []; kind = only_if b k } ∷ []) (le-leb 0 d (omega arith))

group_has : (fs : Fields) (left n : ℕ) (ls : List FileLeaf) → FieldsHave (record { fields = fs; left = left }) n ls → ShapeHas (record { shape = group_unless_empty fs; left = left }) n ls
group_has no_fields left n ls h = (h.0 0, h.1)
group_has (field m r s fs) left n ls h = (h.0 0, h.1)

by_name : (m : List ℕ) (r : Repetition) (d n : ℕ) (b : Bool) (o : OpenShape) (rest : ℕ → OpenFields) (ls : List FileLeaf) (ys : List FileLeaf) → ShapeHas o n (open_ones (map (within_field d) ls)) → ((k : ℕ) → FieldsHave (rest k) k (open_ones (map (within d) ys)))
    → FieldsHave (put_open m r (if b then o else closed_shape n) rest) n (open_ones (map (within d) (map (leaf_under m r b) ls ++ ys)))
by_name m r d n true o rest ls ys h g =
    let e : open_ones (map (within d) (map (leaf_under m r true) ls ++ ys)) ≡ map (under m r) (open_ones (map (within_field d) ls)) ++ open_ones (map (within d) ys) =
    ap open_ones (map-append (within d) (map (leaf_under m r true) ls) ys) ∙ filter-append (λ (x : FileLeaf). has_kind x.kind) (map (within d) (map (leaf_under m r true) ls)) (map (within d) ys) ∙ ap (λ xs. xs ++ open_ones (map (within d) ys)) (of_field m r d ls) in
    subst (FieldsHave (put_open m r o rest) n) (sym e) (both_have m r n o rest (open_ones (map (within_field d) ls)) (open_ones (map (within d) ys)) h g)
by_name m r d n false o rest ls ys h g =
    let e : open_ones (map (within d) (map (leaf_under m r false) ls ++ ys)) ≡ open_ones (map (within d) ys) =
    ap open_ones (map-append (within d) (map (leaf_under m r false) ls) ys) ∙ filter-append (λ (x : FileLeaf). has_kind x.kind) (map (within d) (map (leaf_under m r false) ls)) (map (within d) ys) ∙ ap (λ xs. xs ++ open_ones (map (within d) ys)) (of_closed m r d ls) in
    subst (FieldsHave (put_open m r (closed_shape n) rest) n) (sym e) (both_have m r n (closed_shape n) rest [] (open_ones (map (within d) ys)) (closed_has n) g)

mutual
  fields_have : (fs : FileFields) (earlier : List (List ℕ)) (d n : ℕ) → FieldsHave (open_fields earlier d fs n) n (open_ones (map (within d) (leaves_under earlier fs)))
  fields_have no_file_fields earlier d n = (λ i. sym (take_none n), omega arith)
  fields_have (file_field m r s fs) earlier d n = by_name m r d n (is_open_name earlier m) (open_below d s n) (open_fields (m ∷ earlier) d fs) (shape_leaves_under s) (leaves_under (m ∷ earlier) fs) (shape_has s d n) (λ k. fields_have fs (m ∷ earlier) d k)

  shape_has : (s : FileShape) (d n : ℕ) → ShapeHas (open_below d s n) n (open_ones (map (within_field d) (shape_leaves_under s)))
  shape_has s zero n = subst (ShapeHas (closed_shape n) n) (sym (none_open closed (λ l. refl) (shape_leaves_under s))) (closed_has n)
  shape_has (file_leaf t c) (suc d) n = subst (λ ls. ShapeHas (open_leaf (open_kind t c) n) n (open_ones ls)) (sym (first_part (open_kind t c) d)) (leaf_has (open_kind t c) n)
  shape_has (file_group fs) (suc d) n = group_has (open_fields [] d fs n).fields (open_fields [] d fs n).left n (open_ones (map (within d) (leaves_under [] fs))) (fields_have fs [] d n)

of_part : (n : List ℕ) (fs : Fields) → leaves_of_part (schema_unless_empty n fs) ≡ map file_leaf_of (leaves_from fs 0)
of_part n no_fields = refl
of_part n (field m r s fs) = refl

pub open_part_has_open_leaves : OpenPartHasOpenLeaves
open_part_has_open_leaves f = of_part f.name (open_fields [] greatest_depth f.fields most_leaves).fields ∙ (fields_have f.fields [] greatest_depth most_leaves).0 0
