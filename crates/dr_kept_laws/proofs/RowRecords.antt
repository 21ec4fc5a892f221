-- The rows of a record are records, and what holds of all rows holds of the kept rows.
use Rattle.std.proofs.Common.{◌≡◌, ℕ, zero, suc, List, [], ◌∷◌, Bool, true, false, ◌&&◌, refl, sym, ap, subst, ◌∙◌, true≢false}
use Rattle.std.specs.Prelude.{map, ◌==◌, if◌then◌else◌}
use Rattle.std.specs.List.{list_any}
use Rattle.std.proofs.lemmas.Bool.{and_parts, eqb-true}
use Rattle.dr_meaning.specs.Schema.{Repetition, required, optional, repeated, Fields, no_fields, field, Shape, leaf, group}
use Rattle.dr_meaning.specs.Path.{Step}
use Rattle.dr_meaning.specs.Record.{Node, no_slots, slot, gap, Instances, no_instances, instance, Instance, atom, inner, single, count_instances, fits_repetition, all_instances, is_record, is_instance, instances_at, put_at}
use Rattle.dr_meaning.specs.Rows.{instance_rows, each_instance_rows, field_rows, rows}
use Rattle.dr_meaning.proofs.Blocks.{and₃_parts}
use Rattle.dr_kept_laws.specs.RowsOfKept.{rows_where_any, kept_instance_rows, each_kept_rows, kept_field_rows, kept_rows}
use Rattle.dr_kept_laws.proofs.RowLists.{AllOf, all_append, all_first, all_second, all_mapped, all_unmapped, all_weaker}

-- ---- rows of a record

abbrev AreRecords : List Step → Type 0
AreRecords p = (fs : Fields) (n : Node) → is_record fs n ≡ true → AllOf (λ (r : Node). is_record fs r ≡ true) (rows p n)

-- one instance alone, of this shape
abbrev IsAlone : Shape → Instances → Type 0
IsAlone h xs = (y : Instance) × (xs ≡ single y) × (is_instance h y ≡ true)

instance_alone : (p : List Step) → AreRecords p → (h : Shape) (x : Instance) → is_instance h x ≡ true → AllOf (IsAlone h) (instance_rows (rows p) x)
instance_alone p f h (atom v) z = ((atom v, refl, z), tt)
instance_alone p f (leaf k) (inner n) z = absurd (true≢false (sym z))
instance_alone p f (group fs) (inner n) z = all_mapped (IsAlone (group fs)) (λ (r : Node). is_record fs r ≡ true) (λ r. single (inner r)) (λ r w. (inner r, refl, w)) (rows p n) (f fs n z)

each_alone : (p : List Step) → AreRecords p → (h : Shape) (xs : Instances) → all_instances (is_instance h) xs ≡ true → AllOf (IsAlone h) (each_instance_rows (rows p) xs)
each_alone p f h no_instances z = tt
each_alone p f h (instance x xs) z =
    let k : (is_instance h x ≡ true) × (all_instances (is_instance h) xs ≡ true) = and_parts _ _ z in
    all_append (IsAlone h) (instance_rows (rows p) x) (each_instance_rows (rows p) xs) (instance_alone p f h x k.0) (each_alone p f h xs k.1)

one_fits : (r : Repetition) → fits_repetition r 1 ≡ true
one_fits required = refl
one_fits optional = refl
one_fits repeated = refl

-- one of the rows of a field in a record
alone_record : (r : Repetition) (h : Shape) (fs : Fields) (n : Node) → is_record fs n ≡ true → (xs : Instances) → IsAlone h xs → (fits_repetition r (count_instances xs) && all_instances (is_instance h) xs && is_record fs n) ≡ true
alone_record r h fs n z xs a = ap (λ (xs : Instances). fits_repetition r (count_instances xs) && all_instances (is_instance h) xs && is_record fs n) a.1 ∙ all_three (fits_repetition r 1) (is_instance h a.0) (is_record fs n) (one_fits r) a.2 z
  where
    all_three : (b c d : Bool) → b ≡ true → c ≡ true → d ≡ true → (b && (c && true) && d) ≡ true
    all_three true true true e f g = refl
    all_three true true false e f g = g
    all_three true false d e f g = absurd (true≢false (sym f))
    all_three false c d e f g = absurd (true≢false (sym e))

field_records : (p : List Step) → AreRecords p → (fs : Fields) (j : ℕ) (n : Node) → is_record fs n ≡ true → AllOf (λ (xs : Instances). is_record fs (put_at j xs n) ≡ true) (field_rows (rows p) (instances_at j n))
field_records p f no_fields j no_slots z = (refl, tt)
field_records p f no_fields j (slot xs n) z = absurd (true≢false (sym z))
field_records p f no_fields j (gap n) z = absurd (true≢false (sym z))
field_records p f (field m r h fs) j no_slots z = absurd (true≢false (sym z))
field_records p f (field m r h fs) j (gap n) z = absurd (true≢false (sym z))
field_records p f (field m r h fs) zero (slot no_instances n) z = (z, tt)
field_records p f (field m r h fs) zero (slot (instance x xs) n) z =
    let k : (fits_repetition r (count_instances (instance x xs)) ≡ true) × (all_instances (is_instance h) (instance x xs) ≡ true) × (is_record fs n ≡ true) = and₃_parts (fits_repetition r (count_instances (instance x xs))) (all_instances (is_instance h) (instance x xs)) (is_record fs n) z in
    all_weaker (λ (zs : Instances). is_record (field m r h fs) (slot zs n) ≡ true) (IsAlone h) (λ zs a. alone_record r h fs n k.2 zs a) (each_instance_rows (rows p) (instance x xs)) (each_alone p f h (instance x xs) k.1)
field_records p f (field m r h fs) (suc j) (slot ys n) z =
    let k : (fits_repetition r (count_instances ys) ≡ true) × (all_instances (is_instance h) ys ≡ true) × (is_record fs n ≡ true) = and₃_parts (fits_repetition r (count_instances ys)) (all_instances (is_instance h) ys) (is_record fs n) z in
    all_weaker (λ (xs : Instances). is_record (field m r h fs) (slot ys (put_at j xs n)) ≡ true) (λ (xs : Instances). is_record fs (put_at j xs n) ≡ true)
    (λ xs a. ap (λ (b : Bool). fits_repetition r (count_instances ys) && all_instances (is_instance h) ys && b) a ∙ sym (ap (λ (b : Bool). fits_repetition r (count_instances ys) && all_instances (is_instance h) ys && b) k.2) ∙ z)
    (field_rows (rows p) (instances_at j n)) (field_records p f fs j n k.2)

pub rows_records : (p : List Step) → AreRecords p
rows_records [] fs n z = (z, tt)
rows_records (s ∷ p) fs n z = all_mapped (λ (r : Node). is_record fs r ≡ true) (λ (xs : Instances). is_record fs (put_at s.place xs n) ≡ true) (λ xs. put_at s.place xs n) (λ xs a. a) (field_rows (rows p) (instances_at s.place n)) (field_records p (rows_records p) fs s.place n z)

-- ---- kept rows are among the rows

abbrev AllKept : List Step → List Step → Type 1
AllKept p c = (P : Node → Type 0) (test : Node → Bool) (n : Node) → AllOf P (rows p n) → AllOf P (kept_rows p c test n)

all_if : {X : Type 0} (P : X → Type 0) (b : Bool) (xs : List X) → AllOf P xs → AllOf P (if b then xs else [])
all_if P true xs h = h
all_if P false xs h = tt

instance_all : (p c : List Step) → AllKept p c → (Q : Instances → Type 0) (row : Instance → Node) (test : Node → Bool) (x : Instance) → AllOf Q (instance_rows (rows p) x) → AllOf Q (kept_instance_rows (kept_rows p c) row test x)
instance_all p c f Q row test (atom v) h = all_if Q (test (row (atom v))) (single (atom v) ∷ []) h
instance_all p c f Q row test (inner n) h =
    all_mapped Q (λ (m : Node). Q (single (inner m))) (λ m. single (inner m)) (λ m a. a) (kept_rows p c (λ m. test (row (inner m))) n)
    (f (λ (m : Node). Q (single (inner m))) (λ m. test (row (inner m))) n (all_unmapped Q (λ m. single (inner m)) (rows p n) h))

each_all : (p c : List Step) → AllKept p c → (Q : Instances → Type 0) (row : Instance → Node) (test : Node → Bool) (xs : Instances) → AllOf Q (each_instance_rows (rows p) xs) → AllOf Q (each_kept_rows (kept_instance_rows (kept_rows p c) row test) xs)
each_all p c f Q row test no_instances h = tt
each_all p c f Q row test (instance x xs) h =
    all_append Q (kept_instance_rows (kept_rows p c) row test x) (each_kept_rows (kept_instance_rows (kept_rows p c) row test) xs)
    (instance_all p c f Q row test x (all_first Q (instance_rows (rows p) x) (each_instance_rows (rows p) xs) h))
    (each_all p c f Q row test xs (all_second Q (instance_rows (rows p) x) (each_instance_rows (rows p) xs) h))

pub all_kept : (p c : List Step) → AllKept p c
all_kept [] c P test n h = all_if P (list_any test (rows c n)) (n ∷ []) h
all_kept (s ∷ p) [] P test n h = all_if P (list_any test (n ∷ [])) (rows (s ∷ p) n) h
all_kept (s ∷ p) (t ∷ c) P test n h = by_place (s.place == t.place) refl (all_kept p c)
  where
    by_slot : (xs : Instances) → AllKept p c → AllOf (λ (zs : Instances). P (put_at t.place zs n)) (field_rows (rows p) xs)
        → AllOf (λ (zs : Instances). P (put_at t.place zs n)) (kept_field_rows (test n) (kept_instance_rows (kept_rows p c) (λ x. put_at t.place (single x) n) test) xs)
    by_slot no_instances f a = all_if (λ (zs : Instances). P (put_at t.place zs n)) (test n) (no_instances ∷ []) a
    by_slot (instance x xs) f a = each_all p c f (λ (zs : Instances). P (put_at t.place zs n)) (λ x. put_at t.place (single x) n) test (instance x xs) a

    by_place : (d : Bool) → (s.place == t.place) ≡ d → AllKept p c
        → AllOf P (if d then map (λ xs. put_at t.place xs n) (kept_field_rows (test n) (kept_instance_rows (kept_rows p c) (λ x. put_at t.place (single x) n) test) (instances_at t.place n)) else rows_where_any (s ∷ p) (t ∷ c) test n)
    by_place true d f =
        all_mapped P (λ (zs : Instances). P (put_at t.place zs n)) (λ xs. put_at t.place xs n) (λ xs a. a) (kept_field_rows (test n) (kept_instance_rows (kept_rows p c) (λ x. put_at t.place (single x) n) test) (instances_at t.place n))
        (by_slot (instances_at t.place n) f
        (subst (λ (j : ℕ). AllOf (λ (zs : Instances). P (put_at j zs n)) (field_rows (rows p) (instances_at j n))) (eqb-true s.place t.place d)
        (all_unmapped P (λ xs. put_at s.place xs n) (field_rows (rows p) (instances_at s.place n)) h)))
    by_place false d f = all_if P (list_any test (rows (t ∷ c) n)) (rows (s ∷ p) n) h

-- so those of a record are records
pub kept_records : (fs : Fields) (p c : List Step) (test : Node → Bool) (n : Node) → is_record fs n ≡ true → AllOf (λ (r : Node). is_record fs r ≡ true) (kept_rows p c test n)
kept_records fs p c test n z = all_kept p c (λ (r : Node). is_record fs r ≡ true) test n (rows_records p fs n z)
