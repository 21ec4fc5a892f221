-- The laws of the rows of what is kept, from what is looked up in them.
use Rattle.std.proofs.Common.{◌≡◌, List, [], ◌∷◌, ◌++◌, Bool, true, false, Option, None, Some, refl, sym, ap, ap₂, ◌∙◌, true≢false}
use Rattle.std.specs.Prelude.{map, filter, if◌then◌else◌, ◌||◌, ◌&&◌}
use Rattle.std.proofs.lemmas.List.Elements.{filter-append}
use Rattle.std.proofs.lemmas.Bool.{eq-eqb}
use Rattle.dr_meaning.specs.Schema.{repeated}
use Rattle.dr_meaning.specs.Path.{Step, chain_end, up_to, begins_with}
use Rattle.dr_meaning.specs.Record.{Value, Node, Instances, no_instances, instance, Instance, atom, inner, single, instances_at, instances_in, put_at}
use Rattle.dr_meaning.specs.Rows.{instance_rows, each_instance_rows, field_rows, rows, first_value, value_in, value_at, first_present, is_present_in, is_present}
use Rattle.dr_meaning.specs.Kept.{kept_along}
use Rattle.dr_meaning.proofs.Blocks.{EachInstance}
use Rattle.dr_kept_laws.specs.RowsOfKept.{rows_where_any, kept_instance_rows, each_kept_rows, kept_field_rows, kept_rows, rows_left}
use Rattle.dr_kept_laws.specs.RowsOfKeptLaws.{RowsOfKept, PresentInKept, EndInKept, TrueRowsAreKept}
use Rattle.dr_kept_laws.proofs.PutLemmas.{put_none}
use Rattle.dr_kept_laws.proofs.RowsOfKeptLemmas.{FewOn, look, none_kept, same_rows}
use Rattle.dr_kept_laws.proofs.FewLemmas.{record_few, front_few}
use Rattle.dr_moves.proofs.RowsRead.{map_same}

-- ---- values, and what is there

looked_value : (q : List Step) (x : Instance) → value_in q x ≡ look (Option Value) None Some None q x
looked_value [] (atom v) = refl
looked_value [] (inner n) = refl
looked_value (s ∷ q) x = in_first (instances_in s.place x) (looked_value q)
  where
    in_first : (xs : Instances) → ((y : Instance) → value_in q y ≡ look (Option Value) None Some None q y) → first_value (value_in q) xs ≡ first_value (look (Option Value) None Some None q) xs
    in_first no_instances f = refl
    in_first (instance y ys) f = f y

looked_presence : (q : List Step) (x : Instance) → is_present_in q x ≡ look Bool false (λ v. true) true q x
looked_presence [] (atom v) = refl
looked_presence [] (inner n) = refl
looked_presence (s ∷ q) x = in_first (instances_in s.place x) (looked_presence q)
  where
    in_first : (xs : Instances) → ((y : Instance) → is_present_in q y ≡ look Bool false (λ v. true) true q y) → first_present (is_present_in q) xs ≡ first_present (look Bool false (λ v. true) true q) xs
    in_first no_instances f = refl
    in_first (instance y ys) f = f y

-- the same of what is left, whether anything is or not
same_left : {X : Type 0} (p c : List Step) (test : Node → Bool) (n : Node) (f : Node → X) → ((m : Node) → kept_along c test n ≡ Some m → map f (rows p m) ≡ map f (kept_rows p c test n))
    → map f (rows_left p (kept_along c test n)) ≡ map f (kept_rows p c test n)
same_left p c test n f g = by_kept (kept_along c test n) refl
  where
    by_kept : (o : Option Node) → kept_along c test n ≡ o → map f (rows_left p o) ≡ map f (kept_rows p c test n)
    by_kept None e = ap (map f) (sym (none_kept p c test n e))
    by_kept (Some m) e = g m e

pub rows_of_kept : RowsOfKept
rows_of_kept fs n p c q test z u b = same_left p c test n (value_at q) (λ m e.
    map_same (value_at q) (λ r. look (Option Value) None Some None q (inner r)) (λ r. looked_value q (inner r)) (rows p m)
    ∙ same_rows (Option Value) None Some None p c q test n m b (record_few fs q n u z) e
    ∙ sym (map_same (value_at q) (λ r. look (Option Value) None Some None q (inner r)) (λ r. looked_value q (inner r)) (kept_rows p c test n)))

pub present_in_kept : PresentInKept
present_in_kept fs n p c q below test z u b = same_left p c test n (is_present q) (λ m e.
    map_same (is_present q) (λ r. look Bool false (λ v. true) true q (inner r)) (λ r. looked_presence q (inner r)) (rows p m)
    ∙ same_rows Bool false (λ v. true) true p c q test n m b (front_few fs q below n u z) e
    ∙ sym (map_same (is_present q) (λ r. look Bool false (λ v. true) true q (inner r)) (λ r. looked_presence q (inner r)) (kept_rows p c test n)))

-- ---- the end of the rows' own path

-- the same places, each of a repeated field
abbrev as_repeated : List Step → List Step
as_repeated [] = []
as_repeated (s ∷ p) = record { place = s.place; repetition = repeated } ∷ as_repeated p

repeated_level : (p : List Step) → chain_end (as_repeated p) ≡ as_repeated p
repeated_level [] = refl
repeated_level (s ∷ p) = ap (up_to (record { place = s.place; repetition = repeated })) (repeated_level p) ∙ by_rest (as_repeated p)
  where
    by_rest : (L : List Step) → up_to (record { place = s.place; repetition = repeated }) L ≡ record { place = s.place; repetition = repeated } ∷ L
    by_rest [] = refl
    by_rest (u ∷ L) = refl

repeated_begins : (p : List Step) → begins_with (as_repeated p) p ≡ true
repeated_begins [] = refl
repeated_begins (s ∷ p) = ap₂ (λ (a b : Bool). a && b) (eq-eqb s.place s.place refl) (repeated_begins p)

repeated_few : (p : List Step) (x : Instance) → FewOn (as_repeated p) x
repeated_few [] x = tt
repeated_few (s ∷ p) x = ((λ e. absurd (true≢false e)), each (instances_in s.place x) (repeated_few p))
  where
    each : (xs : Instances) → ((y : Instance) → FewOn (as_repeated p) y) → EachInstance (FewOn (as_repeated p)) xs
    each no_instances f = tt
    each (instance y ys) f = (f y, each ys f)

looked_end : (p : List Step) (x : Instance) → is_present_in p x ≡ look Bool false (λ v. true) true (as_repeated p) x
looked_end [] (atom v) = refl
looked_end [] (inner n) = refl
looked_end (s ∷ p) x = in_first (instances_in s.place x) (looked_end p)
  where
    in_first : (xs : Instances) → ((y : Instance) → is_present_in p y ≡ look Bool false (λ v. true) true (as_repeated p) y) → first_present (is_present_in p) xs ≡ first_present (look Bool false (λ v. true) true (as_repeated p)) xs
    in_first no_instances f = refl
    in_first (instance y ys) f = f y

pub end_in_kept : EndInKept
end_in_kept p c test n = same_left p c test n (is_present p) (λ m e.
    map_same (is_present p) (λ r. look Bool false (λ v. true) true (as_repeated p) (inner r)) (λ r. looked_end p (inner r)) (rows p m)
    ∙ same_rows Bool false (λ v. true) true p c (as_repeated p) test n m (ap (λ (L : List Step). begins_with L p) (repeated_level p) ∙ repeated_begins p) (repeated_few p (inner n)) e
    ∙ sym (map_same (is_present p) (λ r. look Bool false (λ v. true) true (as_repeated p) (inner r)) (λ r. looked_end p (inner r)) (kept_rows p c test n)))

-- ---- the chain's own rows

filtered_map : {X Y : Type 0} (f : X → Bool) (g : Y → X) (ys : List Y) → filter f (map g ys) ≡ map g (filter (λ y. f (g y)) ys)
filtered_map f g [] = refl
filtered_map f g (y ∷ ys) = by_test (f (g y)) (filtered_map f g ys)
  where
    by_test : (b : Bool) → filter f (map g ys) ≡ map g (filter (λ y. f (g y)) ys) → (if b then g y ∷ filter f (map g ys) else filter f (map g ys)) ≡ map g (if b then y ∷ filter (λ y. f (g y)) ys else filter (λ y. f (g y)) ys)
    by_test true e = ap (λ x. g y ∷ x) e
    by_test false e = e

single_filtered : {X : Type 0} (b : Bool) (x : X) → (if b || false then x ∷ [] else []) ≡ (if b then x ∷ [] else [])
single_filtered true x = refl
single_filtered false x = refl

abbrev TrueRows : List Step → Type 0
TrueRows p = (test : Node → Bool) (n : Node) → kept_rows p p test n ≡ filter test (rows p n)

true_instance_rows : (p : List Step) → TrueRows p → (row : Instances → Node) (test : Node → Bool) (x : Instance)
    → kept_instance_rows (kept_rows p p) (λ y. row (single y)) test x ≡ filter (λ xs. test (row xs)) (instance_rows (rows p) x)
true_instance_rows p f row test (atom v) = refl
true_instance_rows p f row test (inner n) = ap (map (λ m. single (inner m))) (f (λ m. test (row (single (inner m)))) n) ∙ sym (filtered_map (λ xs. test (row xs)) (λ m. single (inner m)) (rows p n))

true_each_rows : (p : List Step) → TrueRows p → (row : Instances → Node) (test : Node → Bool) (xs : Instances)
    → each_kept_rows (kept_instance_rows (kept_rows p p) (λ y. row (single y)) test) xs ≡ filter (λ xs. test (row xs)) (each_instance_rows (rows p) xs)
true_each_rows p f row test no_instances = refl
true_each_rows p f row test (instance x xs) =
    ap₂ (λ (a b : List Instances). a ++ b) (true_instance_rows p f row test x) (true_each_rows p f row test xs)
    ∙ sym (filter-append (λ xs. test (row xs)) (instance_rows (rows p) x) (each_instance_rows (rows p) xs))

pub true_rows_are_kept : TrueRowsAreKept
true_rows_are_kept [] test n = single_filtered (test n) n
true_rows_are_kept (s ∷ p) test n = ap (λ (b : Bool). if b then map (λ xs. put_at s.place xs n) (kept_field_rows (test n) (kept_instance_rows (kept_rows p p) (λ x. put_at s.place (single x) n) test) (instances_at s.place n)) else rows_where_any (s ∷ p) (s ∷ p) test n) (eq-eqb s.place s.place refl)
    ∙ by_slot (instances_at s.place n) refl (true_rows_are_kept p)
  where
    by_slot : (xs : Instances) → instances_at s.place n ≡ xs → TrueRows p
        → map (λ xs. put_at s.place xs n) (kept_field_rows (test n) (kept_instance_rows (kept_rows p p) (λ x. put_at s.place (single x) n) test) xs) ≡ filter test (map (λ xs. put_at s.place xs n) (field_rows (rows p) xs))
    by_slot no_instances h f = ap (λ (m : Node). map (λ xs. put_at s.place xs n) (if test m then no_instances ∷ [] else [])) (sym (put_none s.place n h)) ∙ by_test (test (put_at s.place no_instances n))
      where
        by_test : (b : Bool) → map (λ xs. put_at s.place xs n) (if b then no_instances ∷ [] else []) ≡ (if b then put_at s.place no_instances n ∷ [] else [])
        by_test true = refl
        by_test false = refl
    by_slot (instance x xs) h f = ap (map (λ xs. put_at s.place xs n)) (true_each_rows p f (λ xs. put_at s.place xs n) test (instance x xs)) ∙ sym (filtered_map test (λ xs. put_at s.place xs n) (each_instance_rows (rows p) (instance x xs)))
