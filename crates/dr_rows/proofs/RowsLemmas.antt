-- The rows that are gone through are the rows of the level.
use Rattle.std.specs.Prelude.{◌≡◌, ◌≢◌, ℕ, List, [], ◌∷◌, ◌++◌, length, map, Bool, true, false, ◌==◌, if◌then◌else◌, Option, Some, None}
use Rattle.std.proofs.Common.{refl, sym, ap, ap₂, ◌∙◌, arith}
use Rattle.std.proofs.lemmas.List.{map-append}
use Rattle.std.proofs.lemmas.Simd.{map-map}
use Rattle.std.proofs.lemmas.Bool.Decides.{nat_tests}
use Rattle.std.proofs.Math.Path.{fun_ext}
use Rattle.dr_meaning.specs.Path.{Step}
use Rattle.dr_meaning.specs.Record.{Value, Node, Instances, no_instances, instance, Instance, atom, inner, single, instances_at, put_at}
use Rattle.dr_meaning.specs.Rows.{instance_rows, each_instance_rows, field_rows, rows, first_value, value_in, value_at}
use Rattle.dr_rows.specs.Known.{Known, known, end_in, first_end, values_at}
use Rattle.dr_rows.specs.Walking.{behind, filled, filled_one, for_each, for_some, rows_below}
use Rattle.dr_rows.proofs.PuttingLemmas.{put_there, put_apart, put_same}
use Rattle.dr_rows.proofs.WalkingLemmas.{behind_step, behind_further}

-- the rows of an instance, as instances
abbrev pub rows_in : List Step → Instance → List Instance
rows_in p (atom v) = atom v ∷ []
rows_in p (inner n) = map inner (rows p n)

-- what is known of a row, where the leaves not below the end of a path have other values
abbrev pub known_below : List (List Step) → List Step → List (Option Value) → List Step → Instance → Known
known_below leaves q vs p y = record { values = filled q y leaves vs; end = end_in p y }

-- ---- the values of a row below an instance of it

apart : (i j : ℕ) → (i == j) ≡ false → i ≢ j
apart i j h = λ e. grind (arith, nat_tests)

same_place : (i j : ℕ) → (i == j) ≡ true → i ≡ j
same_place i j h = grind (arith, nat_tests)

first_step : (b : Bool) (s t : Step) (l : List Step) (y z : Instance) (zs : Instances) (n : Node) → (s.place == t.place) ≡ b → instances_at s.place n ≡ instance z zs
    → first_value (value_in l) (instances_at t.place (put_at s.place (single y) n)) ≡ filled_one (if b then Some l else None) y (first_value (value_in l) (instances_at t.place n))
first_step true s t l y z zs n h e =
    ap (λ (k : ℕ). first_value (value_in l) (instances_at k (put_at s.place (single y) n))) (sym (same_place s.place t.place h)) ∙ ap (first_value (value_in l)) (put_there s.place (single y) zs z n e)
first_step false s t l y z zs n h e = ap (first_value (value_in l)) (put_apart s.place t.place (single y) n (apart s.place t.place h))

one_value : (o : Option (List Step)) (s : Step) (y z : Instance) (zs : Instances) (n : Node) (v : Option Value) → instances_at s.place n ≡ instance z zs
    → filled_one o (inner (put_at s.place (single y) n)) v ≡ filled_one (behind_step s o) y (filled_one o (inner n) v)
one_value None s y z zs n v e = refl
one_value (Some []) s y z zs n v e = refl
one_value (Some (t ∷ l)) s y z zs n v e = first_step (s.place == t.place) s t l y z zs n refl e

row_values : (q : List Step) (s : Step) (y z : Instance) (zs : Instances) (n : Node) (ps : List (List Step)) (vs : List (Option Value)) → instances_at s.place n ≡ instance z zs
    → filled q (inner (put_at s.place (single y) n)) ps vs ≡ filled (q ++ s ∷ []) y ps (filled q (inner n) ps vs)
row_values q s y z zs n [] vs e = refl
row_values q s y z zs n (p ∷ ps) [] e = refl
row_values q s y z zs n (p ∷ ps) (v ∷ vs) e =
    ap₂ (λ (o : Option Value) (os : List (Option Value)). o ∷ os)
    (one_value (behind q p) s y z zs n v e ∙ ap (λ (o : Option (List Step)). filled_one o y (filled_one (behind q p) (inner n) v)) (sym (behind_further q s p)))
    (row_values q s y z zs n ps vs e)

known_row : (q : List Step) (s : Step) (p : List Step) (y z : Instance) (zs : Instances) (n : Node) (ps : List (List Step)) (vs : List (Option Value)) → instances_at s.place n ≡ instance z zs
    → known_below ps q vs (s ∷ p) (inner (put_at s.place (single y) n)) ≡ known_below ps (q ++ s ∷ []) (filled q (inner n) ps vs) p y
known_row q s p y z zs n ps vs e =
    ap₂ (λ (us : List (Option Value)) (o : Option Instance). record { values = us; end = o }) (row_values q s y z zs n ps vs e)
    (ap (first_end (end_in p)) (put_there s.place (single y) zs z n e))

-- ---- rows of a field

single_rows : (p : List Step) (x : Instance) → instance_rows (rows p) x ≡ map single (rows_in p x)
single_rows p (atom v) = refl
single_rows p (inner n) = sym (map-map single inner (rows p n))

-- one instance
one_field : (q : List Step) (s : Step) (p : List Step) (x z : Instance) (zs : Instances) (n : Node) (ps : List (List Step)) (vs : List (Option Value)) → instances_at s.place n ≡ instance z zs
    → ((us : List (Option Value)) → rows_below ps (q ++ s ∷ []) p x us ≡ map (known_below ps (q ++ s ∷ []) us p) (rows_in p x))
    → rows_below ps (q ++ s ∷ []) p x (filled q (inner n) ps vs)
    ≡ map (λ (xs : Instances). known_below ps q vs (s ∷ p) (inner (put_at s.place xs n))) (instance_rows (rows p) x)
one_field q s p x z zs n ps vs e ih =
    ih (filled q (inner n) ps vs)
    ∙ ap (λ (f : Instance → Known). map f (rows_in p x)) (fun_ext (λ y. sym (known_row q s p y z zs n ps vs e)))
    ∙ sym (map-map (λ (xs : Instances). known_below ps q vs (s ∷ p) (inner (put_at s.place xs n))) single (rows_in p x))
    ∙ ap (map (λ (xs : Instances). known_below ps q vs (s ∷ p) (inner (put_at s.place xs n)))) (sym (single_rows p x))

each_field : (q : List Step) (s : Step) (p : List Step) (xs : Instances) (z : Instance) (zs : Instances) (n : Node) (ps : List (List Step)) (vs : List (Option Value)) → instances_at s.place n ≡ instance z zs
    → ((x : Instance) (us : List (Option Value)) → rows_below ps (q ++ s ∷ []) p x us ≡ map (known_below ps (q ++ s ∷ []) us p) (rows_in p x))
    → for_each (λ (x : Instance). rows_below ps (q ++ s ∷ []) p x (filled q (inner n) ps vs)) xs
    ≡ map (λ (ys : Instances). known_below ps q vs (s ∷ p) (inner (put_at s.place ys n))) (each_instance_rows (rows p) xs)
each_field q s p no_instances z zs n ps vs e ih = refl
each_field q s p (instance x xs) z zs n ps vs e ih =
    ap₂ ◌++◌ (one_field q s p x z zs n ps vs e (ih x)) (each_field q s p xs z zs n ps vs e ih)
    ∙ sym (map-append (λ (ys : Instances). known_below ps q vs (s ∷ p) (inner (put_at s.place ys n))) (instance_rows (rows p) x) (each_instance_rows (rows p) xs))

all_of_field : (q : List Step) (s : Step) (p : List Step) (xs : Instances) (n : Node) (ps : List (List Step)) (vs : List (Option Value)) → instances_at s.place n ≡ xs
    → ((x : Instance) (us : List (Option Value)) → rows_below ps (q ++ s ∷ []) p x us ≡ map (known_below ps (q ++ s ∷ []) us p) (rows_in p x))
    → for_some (λ (x : Instance). rows_below ps (q ++ s ∷ []) p x (filled q (inner n) ps vs)) (filled q (inner n) ps vs) xs
    ≡ map (λ (ys : Instances). known_below ps q vs (s ∷ p) (inner (put_at s.place ys n))) (field_rows (rows p) xs)
all_of_field q s p no_instances n ps vs e ih =
    let same : n ≡ put_at s.place no_instances n = sym (put_same s.place n) ∙ ap (λ (ys : Instances). put_at s.place ys n) e in
    ap₂ (λ (us : List (Option Value)) (o : Option Instance). record { values = us; end = o } ∷ []) (ap (λ (m : Node). filled q (inner m) ps vs) same)
    (sym (ap (first_end (end_in p)) e) ∙ ap (λ (m : Node). first_end (end_in p) (instances_at s.place m)) same)
all_of_field q s p (instance x xs) n ps vs e ih = each_field q s p (instance x xs) x xs n ps vs e ih

-- ---- all rows

pub below_are : (p : List Step) (q : List Step) (ps : List (List Step)) (x : Instance) (vs : List (Option Value)) → rows_below ps q p x vs ≡ map (known_below ps q vs p) (rows_in p x)
below_are [] q ps (atom v) vs = refl
below_are [] q ps (inner n) vs = refl
below_are (s ∷ p) q ps (atom v) vs = refl
below_are (s ∷ p) q ps (inner n) vs =
    all_of_field q s p (instances_at s.place n) n ps vs refl (λ x us. below_are p (q ++ s ∷ []) ps x us)
    ∙ sym (map-map (λ (m : Node). known_below ps q vs (s ∷ p) (inner m)) (λ (ys : Instances). put_at s.place ys n) (field_rows (rows p) (instances_at s.place n)))
    ∙ sym (map-map (known_below ps q vs (s ∷ p)) inner (rows (s ∷ p) n))

pub values_from_start : (ps : List (List Step)) (n : Node) (vs : List (Option Value)) → length vs ≡ length ps → filled [] (inner n) ps vs ≡ values_at ps n
values_from_start [] n vs h = refl
values_from_start (p ∷ ps) n [] h = absurd (omega arith)
values_from_start (p ∷ ps) n (v ∷ vs) h = ap (λ (os : List (Option Value)). value_at p n ∷ os) (values_from_start ps n vs (omega arith))

-- the rows of a record, as the values of leaves and the ends of the level
pub rows_are : (ps : List (List Step)) (chain : List Step) (n : Node) (vs : List (Option Value)) → length vs ≡ length ps
    → rows_below ps [] chain (inner n) vs ≡ map (known ps chain) (rows chain n)
rows_are ps chain n vs h =
    below_are chain [] ps (inner n) vs ∙ map-map (known_below ps [] vs chain) inner (rows chain n)
    ∙ ap (λ (f : Node → Known). map f (rows chain n)) (fun_ext (λ m. ap (λ (us : List (Option Value)). record { values = us; end = end_in chain (inner m) }) (values_from_start ps m vs h)))
