-- Answers of tests in rows.
use Rattle.std.specs.Prelude.{◌≡◌, ℕ, List, map, Bool}
use Rattle.dr_meaning.specs.Column.{Triplet}
use Rattle.dr_meaning.specs.Expression.{is_true}
use Rattle.dr_plan.specs.declared.expression.Truth.{Truth}
use Rattle.dr_scalar.specs.OverSlots.{truth_over}
use Rattle.dr_rows_beside.specs.Rows.{Row, slot_at, in_slot}

-- whether a test is true in a row
abbrev pub holds_in : Truth → Row → Bool
holds_in t r = is_true (truth_over (slot_at r.slots) t)

-- in whatever rows of a leaf's triplets, these are the answers of a test
abbrev pub AreAnswers : Truth → ℕ → List Triplet → List Bool → Type 0
AreAnswers t leaf ts bs = (rows : List Row) → in_slot leaf rows ≡ map (λ (x : Triplet). x.value) ts → bs ≡ map (holds_in t) rows
