-- A row at the first steps of a longer level.
use Rattle.std.specs.Prelude.{◌≡◌, ◌≤◌, ◌==◌, ℕ, List, [], ◌∷◌, length, map, take, true, ◌&&◌, Result, Ok, Err, OnOk, IfOk}
use Rattle.std.proofs.Common.{refl, sym, ap, ap₂, ◌∙◌, arith}
use Rattle.std.proofs.lemmas.Bool.{and_parts}
use Rattle.std.proofs.lemmas.Bool.Decides.{nat_tests}
use Rattle.std.proofs.lemmas.List.{take-map, length-map}
use Rattle.dr_meaning.specs.Path.{Step, begins_with, same_path}
use Rattle.dr_meaning.specs.Record.{Node}
use Rattle.dr_nested.specs.PathView.{step_view, paths_view}
use Rattle.dr_nested.specs.declared.path.Path.{Path}
use Rattle.dr_nested.specs.declared.path.Step as steps
use Rattle.dr_rows.specs.Known.{Known, known, is_cut}
use Rattle.dr_rows.proofs.RowLawLemmas.{places_tell}
use Rattle.dr_mean.specs.RowsOf.{IsRow}

other_way : (i j : ℕ) → (i == j) ≡ true → (j == i) ≡ true
other_way i j h = grind (arith, nat_tests)

pub begins_take : (p q : List Step) → begins_with p q ≡ true → same_path p (take (length p) q) ≡ true
begins_take [] q h = refl
begins_take (s ∷ p) [] h = cc
begins_take (s ∷ p) (t ∷ q) h =
    let b : ((s.place == t.place) ≡ true) × (begins_with p q ≡ true) = and_parts _ _ h in
    let d : (begins_with p (take (length p) q) ≡ true) × (begins_with (take (length p) q) p ≡ true) = and_parts _ _ (begins_take p q b.1) in
    ap₂ ◌&&◌ (ap₂ ◌&&◌ b.0 d.0) (ap₂ ◌&&◌ (other_way s.place t.place b.0) d.1)

pub begins_short : (p q : List Step) → begins_with p q ≡ true → length p ≤ length q
begins_short [] q h = omega arith
begins_short (s ∷ p) [] h = cc
begins_short (s ∷ p) (t ∷ q) h =
    let b : ((s.place == t.place) ≡ true) × (begins_with p q ≡ true) = and_parts _ _ h in
    omega (arith, begins_short p q b.1)

-- what is known of it is known at the first steps of the longer level, and it is cut along these
pub row_within : (ls : List Path) (chain : List Step) (longer : List steps.Step) (n : ℕ) (k : Known) (whole : Node) → IsRow ls chain k whole → begins_with chain (map step_view longer) ≡ true
    → (length chain ≤ length longer → n ≡ length chain)
    → (is_cut (map step_view (take n longer)) whole ≡ true) × (k ≡ known (paths_view ls) (map step_view (take n longer)) whole)
row_within ls chain longer n k whole r h m =
    let short : length chain ≤ length longer = omega (arith, begins_short chain (map step_view longer) h, length-map longer step_view) in
    let front : take (length chain) (map step_view longer) ≡ map step_view (take n longer) =
    take-map step_view (length chain) longer ∙ ap (λ (i : ℕ). map step_view (take i longer)) (sym (m short)) in
    let same : same_path chain (map step_view (take n longer)) ≡ true = ap (same_path chain) (sym front) ∙ begins_take chain (map step_view longer) h in
    let told = places_tell (paths_view ls) chain (map step_view (take n longer)) whole same in
    (sym told.2 ∙ r.cut, r.is ∙ told.1)

pub on_ok_by : {A E : Type 0} (r : Result A E) (P Q : Type 0) → OnOk r P → (P → Q) → OnOk r Q
on_ok_by (Ok a) P Q h f = f h
on_ok_by (Err e) P Q h f = tt

pub if_ok_by : {A E : Type 0} (r : Result A E) (P Q : A → Type 0) → IfOk r P → ((a : A) → P a → Q a) → IfOk r Q
if_ok_by (Ok a) P Q h f = f a h
if_ok_by (Err e) P Q h f = tt
