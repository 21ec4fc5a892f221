-- The open part of a file's schema is a schema, and of a schema that was written it is the schema itself.
use Rattle.std.proofs.Common.{◌≡◌, ◌≤◌, ℕ, zero, suc, ◌+◌, ◌-◌, List, [], ◌∷◌, Bool, true, false, not, ◌&&◌, Some, None, refl, sym, ap, ◌∙◌, subst, true≢false, arith}
use Rattle.std.specs.Prelude.{if◌then◌else◌, bytes_eq, nat_le, Option, codes}
use Rattle.std.specs.List.{list_any}
use Rattle.std.proofs.lemmas.Bool.{and_parts, and_from, leb-true, le-leb, not-true, not_from_false, or_parts, or_from}
use Rattle.dr_meaning.specs.Schema.{Repetition, Kind, Fields, no_fields, field, Shape, leaf, group, Schema, field_names, is_short_name, is_group, is_shape, is_nonempty, is_schema, depth, shape_depth, leaf_count, shape_leaf_count, greatest_depth, most_leaves}
use Rattle.dr_meaning.proofs.SchemaReadsBack.{FirstField, first_of_group, other_way}
use Rattle.dr_meaning.proofs.Blocks.{and₃_parts}
use Rattle.dr_formats.specs.FileSchema.{FileFields, no_file_fields, file_field, FileShape, file_leaf, file_group, open_kind, is_open_name, OpenFields, OpenShape, open_leaf, group_unless_empty, closed_shape, put_shape, put_open, open_fields, open_below, open_name, schema_unless_empty, open_schema}
use Rattle.dr_formats.specs.OpenSchemaLaws.{OpenPartIsSchema}
use Rattle.dr_formats.proofs.SchemaBack.{file_fields_of, file_shape_of, Fresh, fresh_more, fresh_at_first, open_if, kind_back}

-- ---- the open part is a schema

-- names that no earlier field has, in groups of the rules, within these parts and this many leaves
abbrev FieldsGood : List (List ℕ) → ℕ → ℕ → OpenFields → Type 0
FieldsGood earlier d n f = (is_group f.fields ≡ true) × Fresh earlier f.fields × (depth f.fields ≤ d) × (leaf_count f.fields + f.left ≤ n)

abbrev ShapeGood : ℕ → ℕ → Option Shape → ℕ → Type 0
ShapeGood d n None left = left ≤ n
ShapeGood d n (Some s) left = (is_shape s ≡ true) × (suc (shape_depth s) ≤ d) × (shape_leaf_count s + left ≤ n)

fresh_less : (m : List ℕ) (earlier : List (List ℕ)) (fs : Fields) → Fresh (m ∷ earlier) fs → Fresh earlier fs
fresh_less m earlier no_fields h = tt
fresh_less m earlier (field n r s fs) h = ((or_parts _ _ h.0).1, fresh_less m earlier fs h.1)

not_again : (m : List ℕ) (earlier : List (List ℕ)) (fs : Fields) → Fresh (m ∷ earlier) fs → list_any (bytes_eq m) (field_names fs) ≡ false
not_again m earlier no_fields h = refl
not_again m earlier (field n r s fs) h = or_from _ _ (other_way n m (or_parts _ _ h.0).0) (not_again m earlier fs h.1)

-- a field before others that are good
put_good : (earlier : List (List ℕ)) (d n left : ℕ) (m : List ℕ) (r : Repetition) (o : Option Shape) (f : OpenFields) → (is_short_name m ≡ true) × (list_any (bytes_eq m) earlier ≡ false) → ShapeGood d n o left → FieldsGood (m ∷ earlier) d left f → FieldsGood earlier d n (put_shape m r o f)
put_good earlier d n left m r None f k h g = (g.0, fresh_less m earlier f.fields g.1, g.2, omega (arith, g.3, h))
put_good earlier d n left m r (Some s) f k h g = (
  and_from _ _ (and_from _ _ (and_from _ _ k.0 (not_from_false _ (not_again m earlier f.fields g.1))) h.0) g.0,
  (k.1, fresh_less m earlier f.fields g.1),
  omega (arith, h.1, g.2),
  omega (arith, h.2, g.3),
)

closed_good : (earlier : List (List ℕ)) (d n : ℕ) (m : List ℕ) (r : Repetition) (f : OpenFields) → FieldsGood (m ∷ earlier) d n f → FieldsGood earlier d n (put_shape m r None f)
closed_good earlier d n m r f g = (g.0, fresh_less m earlier f.fields g.1, g.2, g.3)

leaf_good : (d n : ℕ) (k : Option Kind) → ShapeGood (suc d) n (open_leaf k n).shape (open_leaf k n).left
leaf_good d n None = omega arith
leaf_good d zero (Some k) = omega arith
leaf_good d (suc n) (Some k) = (refl, omega arith, omega arith)

group_good : (d n : ℕ) (fs : Fields) (left : ℕ) → FieldsGood [] d n (record { fields = fs; left = left }) → ShapeGood (suc d) n (group_unless_empty fs) left
group_good d n no_fields left g = omega (arith, g.3)
group_good d n (field m r s fs) left g = (g.0, omega (arith, g.2), g.3)

named_good : (earlier : List (List ℕ)) (d n : ℕ) (m : List ℕ) (r : Repetition) (o : OpenShape) (rest : ℕ → OpenFields) → ((left : ℕ) → FieldsGood (m ∷ earlier) d left (rest left)) → ShapeGood d n o.shape o.left
    → (b : Bool) → is_open_name earlier m ≡ b → FieldsGood earlier d n (put_open m r (if b then o else closed_shape n) rest)
named_good earlier d n m r o rest g h false e = closed_good earlier d n m r (rest n) (g n)
named_good earlier d n m r o rest g h true e =
    let k : (is_short_name m ≡ true) × (not (list_any (bytes_eq m) earlier) ≡ true) = and_parts _ _ e in
    put_good earlier d n o.left m r o.shape (rest o.left) (k.0, not-true _ k.1) h (g o.left)

mutual
  fields_good : (earlier : List (List ℕ)) (d : ℕ) (fs : FileFields) (n : ℕ) → FieldsGood earlier d n (open_fields earlier d fs n)
  fields_good earlier d no_file_fields n = (refl, tt, omega arith, omega arith)
  fields_good earlier d (file_field m r s fs) n = named_good earlier d n m r (open_below d s n) (open_fields (m ∷ earlier) d fs) (λ left. fields_good (m ∷ earlier) d fs left) (shape_good d s n) (is_open_name earlier m) refl

  shape_good : (d : ℕ) (s : FileShape) (n : ℕ) → ShapeGood d n (open_below d s n).shape (open_below d s n).left
  shape_good zero s n = omega arith
  shape_good (suc d) (file_leaf t c) n = leaf_good d n (open_kind t c)
  shape_good (suc d) (file_group fs) n = group_good d n (open_fields [] d fs n).fields (open_fields [] d fs n).left (fields_good [] d fs n)

short_root : (n : List ℕ) (b : Bool) → is_short_name n ≡ b → is_short_name (if b then n else codes "Records") ≡ true
short_root n true e = e
short_root n false e = refl

of_fields : (n : List ℕ) (fs : Fields) (left : ℕ) (s : Schema) → FieldsGood [] greatest_depth most_leaves (record { fields = fs; left = left }) → schema_unless_empty n fs ≡ Some s → is_schema s ≡ true
of_fields n no_fields left s g h = absurd (none h)
  where
    none : None ≡ Some s → ⊥
    none e = cc
of_fields n (field m r t fs) left s g h = subst (λ (x : Schema). is_schema x ≡ true) (same (record { name = open_name n; fields = field m r t fs }) h)
    (and_from _ _ (and_from _ _ (and_from _ _ (short_root n (is_short_name n) refl) g.0) (le-leb _ _ g.2)) (le-leb (leaf_count (field m r t fs)) most_leaves (omega (arith, g.3))))
  where
    same : (x : Schema) → Some x ≡ Some s → x ≡ s
    same x e = cc

pub open_part_is_schema : OpenPartIsSchema
open_part_is_schema f s h = of_fields f.name (open_fields [] greatest_depth f.fields most_leaves).fields (open_fields [] greatest_depth f.fields most_leaves).left s (fields_good [] greatest_depth f.fields most_leaves) h

-- ---- the open part of a schema is the schema

-- the fields of a group are its open part, with room for its leaves
abbrev Opened : List (List ℕ) → ℕ → Fields → ℕ → Type 0
Opened earlier d fs left = open_fields earlier d (file_fields_of fs) (leaf_count fs + left) ≡ record { fields = fs; left = left }

room_first : (a b c : ℕ) → a + b + c ≡ a + (b + c)
room_first a b c = omega arith

mutual
  fields_opened : (fs : Fields) (earlier : List (List ℕ)) (d left : ℕ) → is_group fs ≡ true → Fresh earlier fs → depth fs ≤ d → Opened earlier d fs left
  fields_opened no_fields earlier d left h f l = ap (λ (n : ℕ). record { fields = no_fields; left = n }) (no_shift left)
    where
      no_shift : (n : ℕ) → 0 + n ≡ n
      no_shift n = omega arith
  fields_opened (field n r s fs) earlier d left h f l =
      let p : FirstField n s fs = first_of_group n r s fs h in
      let a : open_below d (file_shape_of s) (shape_leaf_count s + (leaf_count fs + left)) ≡ record { shape = Some s; left = leaf_count fs + left } = shape_opened s d (leaf_count fs + left) p.2 (omega (arith, l)) in
      let b : Opened (n ∷ earlier) d fs left = fields_opened fs (n ∷ earlier) d left p.3 (fresh_more n earlier fs p.1 f.1) (omega (arith, l)) in
      rw (room_first (shape_leaf_count s) (leaf_count fs) left, open_if earlier n p.0 f.0, a, b) refl

  shape_opened : (s : Shape) (d left : ℕ) → is_shape s ≡ true → suc (shape_depth s) ≤ d → open_below d (file_shape_of s) (shape_leaf_count s + left) ≡ record { shape = Some s; left = left }
  shape_opened s zero left h l = absurd (omega (arith, l))
  shape_opened (leaf k) (suc d) left h l =
      let e : 1 + left ≡ suc left = omega arith in
      rw (kind_back k, e) refl
  shape_opened (group fs) (suc d) left h l =
      let g : (is_nonempty fs ≡ true) × (is_group fs ≡ true) = and_parts _ _ h in
      let b : Opened [] d fs left = fields_opened fs [] d left g.1 (fresh_at_first fs) (omega (arith, l)) in
      rw b (ap (λ (o : Option Shape). record { shape = o; left = left }) (whole fs g.0))
    where
      whole : (fs : Fields) → is_nonempty fs ≡ true → group_unless_empty fs ≡ Some (group fs)
      whole no_fields e = absurd (true≢false (sym e))
      whole (field n r s fs) e = refl

of_whole : (s : Schema) → is_short_name s.name ≡ true → is_nonempty s.fields ≡ true → schema_unless_empty s.name s.fields ≡ Some s
of_whole s h g = by_fields s.name s.fields h g
  where
    by_fields : (n : List ℕ) (fs : Fields) → is_short_name n ≡ true → is_nonempty fs ≡ true → schema_unless_empty n fs ≡ Some (record { name = n; fields = fs })
    by_fields n no_fields h g = absurd (true≢false (sym g))
    by_fields n (field m r t fs) h g = rw h refl

pub written_opened : (s : Schema) → is_schema s ≡ true → open_schema (record { name = s.name; fields = file_fields_of s.fields }) ≡ Some s
written_opened s h =
    let a : ((is_short_name s.name && is_shape (group s.fields) && nat_le (depth s.fields) greatest_depth) ≡ true) × (nat_le (leaf_count s.fields) most_leaves ≡ true) = and_parts _ _ h in
    let b : (is_short_name s.name ≡ true) × (is_shape (group s.fields) ≡ true) × (nat_le (depth s.fields) greatest_depth ≡ true) = and₃_parts _ _ _ a.0 in
    let g : (is_nonempty s.fields ≡ true) × (is_group s.fields ≡ true) = and_parts _ _ b.1 in
    let d : depth s.fields ≤ 32 = leb-true (depth s.fields) greatest_depth b.2 in
    let c : leaf_count s.fields ≤ 1024 = leb-true (leaf_count s.fields) most_leaves a.1 in
    let e : leaf_count s.fields + (1024 - leaf_count s.fields) ≡ 1024 = omega (arith, c) in
    let o : Opened [] greatest_depth s.fields (1024 - leaf_count s.fields) = fields_opened s.fields [] greatest_depth (1024 - leaf_count s.fields) g.1 (fresh_at_first s.fields) d in
    ap (λ (f : OpenFields). schema_unless_empty s.name f.fields) (ap (open_fields [] greatest_depth (file_fields_of s.fields)) (sym e) ∙ o) ∙ of_whole s b.0 g.0
