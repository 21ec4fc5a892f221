-- The records of each tablet.
use Rattle.std.specs.Prelude.{◌≡◌, ℕ, ◌≤◌, List, [], ◌∷◌, length, Bool, true}
use Rattle.std.specs.List.{list_all}
use Rattle.std.proofs.Common.{arith, sym, ◌∙◌}
use Rattle.std.proofs.lemmas.List.Folds.{list_all-append}
use Rattle.std.proofs.lemmas.Bool.{and_parts}
use Rattle.dr_meaning.specs.Record.{Node}
use Rattle.dr_formats.specs.TabletLaws.{all_records, AreFull}

-- each of these tablets has at most so many records, all of which pass
abbrev pub AllFit : ℕ → (Node → Bool) → List (List Node) → Type 0
AllFit n test [] = Unit {0}
AllFit n test (t ∷ ts) = (length t ≤ n) × (list_all test t ≡ true) × AllFit n test ts

pub all_fit : (n : ℕ) (test : Node → Bool) (ts : List (List Node)) → AreFull n ts → list_all test (all_records ts) ≡ true → AllFit n test ts
all_fit n test [] a e = tt
all_fit n test (t ∷ []) a e =
    let g = and_parts (list_all test t) (list_all test []) (sym (list_all-append test t []) ∙ e) in
    (a, g.0, tt)
all_fit n test (t ∷ u ∷ ts) a e =
    let g = and_parts (list_all test t) (list_all test (all_records (u ∷ ts))) (sym (list_all-append test t (all_records (u ∷ ts))) ∙ e) in
    (omega (arith, a.0), g.0, all_fit n test (u ∷ ts) a.1 g.1)

-- there is one
pub some_tablet : (n : ℕ) (ts : List (List Node)) → AreFull n ts → 1 ≤ length ts
some_tablet n [] a = absurd a
some_tablet n (t ∷ ts) a = omega arith
