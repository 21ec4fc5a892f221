-- What the calls tell of a row, of which the leaves were read.
use Rattle.std.proofs.Common.{◌≡◌, ℕ, Result, Ok, Err, IfOk, List, [], ◌∷◌, map, Bool, true, ◌&&◌, Option, refl, sym, ap, ap₂, ◌∙◌}
use Rattle.std.specs.List.{list_all}
use Rattle.dr_meaning.specs.Path.{Leaf}
use Rattle.dr_meaning.specs.Record.{Value, Node}
use Rattle.dr_meaning.specs.Expression.{Expression, evaluate, is_true}
use Rattle.dr_levels.specs.declared.triplet.ValueRef.{ValueRef}
use Rattle.dr_plan.specs.Conjuncts.{conjuncts}
use Rattle.dr_plan.specs.Fitting.{truth_fits}
use Rattle.dr_plan.specs.Views.{truth_view}
use Rattle.dr_plan.specs.declared.expression.Expr.{Expr}
use Rattle.dr_plan.specs.declared.expression.Truth.{Truth}
use Rattle.dr_plan.proofs.ConjunctLemmas.{true_where_each_is}
use Rattle.dr_scalar.specs.Leaves.{truth_leaves, tests_leaves}
use Rattle.dr_scalar.specs.LeafLaws.{AreRead, are_typed, LeavesTell, TestLeavesTell}
use Rattle.dr_scalar.specs.OverSlots.{tests_over}
use Rattle.dr_scalar.specs.Slots.{AreValues, slot_value}
use Rattle.dr_scalar.specs.Tests.{all_true}
use Rattle.dr_scalar.proofs.LeafLemmas.{first_holds, second_holds, slots_are_read}
use Rattle.dr_scalar.proofs.ReadLemmas.{first_read, second_read}
use Rattle.dr_scalar.proofs.NumberLemmas.{number_means}
use Rattle.dr_scalar.proofs.TextLemmas.{text_means}
use Rattle.dr_scalar.proofs.TruthLemmas.{truth_means}

pub leaves_tell : LeavesTell
leaves_tell ls (Expr.Truth a) read row h v r = truth_means ls read row v a h r
leaves_tell ls (Expr.Number a) read row h v r = number_means ls read row v a h r
leaves_tell ls (Expr.Text a) read row h v r = text_means ls read row v a h r

-- what a call gives over the slots is what it gives in the row
pub told : {A E : Type 0} (r : Result A E) (see : A → Option Value) (over : Option Value) (slots : List (Option ValueRef)) (fits : List Leaf → Bool) (view : List Leaf → Expression)
    → ((ls : List Leaf) (row : Node) → AreValues ls slots row → fits ls ≡ true → over ≡ evaluate (view ls) row) → IfOk r (λ a. see a ≡ over)
    → IfOk r (λ a. (ls : List Leaf) (row : Node) → AreValues ls slots row → fits ls ≡ true → see a ≡ evaluate (view ls) row)
told (Ok a) see over slots fits view m e = λ ls row v h. e ∙ m ls row v h
told (Err x) see over slots fits view m e = e

-- ---- tests

pub tests_mean : (ls : List Leaf) (ts : List Truth) (read : ℕ → Option Value) (row : Node) → list_all (truth_fits ls) ts ≡ true → are_typed ls row ≡ true
    → AreRead ls (tests_leaves ts) read row → tests_over read ts ≡ all_true (map (truth_view ls) ts) row
tests_mean ls [] read row h v r = refl
tests_mean ls (t ∷ ts) read row h v r =
    ap₂ (λ x y. x && y)
    (ap is_true (truth_means ls read row v t (first_holds (truth_fits ls t) (list_all (truth_fits ls) ts) h) (first_read ls (truth_leaves t) (tests_leaves ts) read row r)))
    (tests_mean ls ts read row (second_holds (truth_fits ls t) (list_all (truth_fits ls) ts) h) v (second_read ls (truth_leaves t) (tests_leaves ts) read row r))

pub test_leaves_tell : TestLeavesTell
test_leaves_tell ls ts c read row h v e r = tests_mean ls ts read row h v r ∙ (ap (λ es. all_true es row) e ∙ sym (true_where_each_is c row))

pub told_each : {E : Type 0} (r : Result Bool E) (slots : List (Option ValueRef)) (ts : List Truth) → IfOk r (λ b. b ≡ tests_over (slot_value slots) ts)
    → IfOk r (λ b. (ls : List Leaf) (row : Node) → AreValues ls slots row → list_all (truth_fits ls) ts ≡ true → b ≡ all_true (map (truth_view ls) ts) row)
told_each (Ok b) slots ts e = λ ls row v h. e ∙ tests_mean ls ts (slot_value slots) row h v.types (slots_are_read ls slots row v (tests_leaves ts))
told_each (Err x) slots ts e = e

pub told_condition : {E : Type 0} (r : Result Bool E) (slots : List (Option ValueRef)) (ts : List Truth) → IfOk r (λ b. b ≡ tests_over (slot_value slots) ts)
    → IfOk r (λ b. (ls : List Leaf) (row : Node) (c : Expression) → AreValues ls slots row → list_all (truth_fits ls) ts ≡ true → map (truth_view ls) ts ≡ conjuncts c → b ≡ is_true (evaluate c row))
told_condition (Ok b) slots ts e = λ ls row c v h k. e ∙ test_leaves_tell ls ts c (slot_value slots) row h v.types k (slots_are_read ls slots row v (tests_leaves ts))
told_condition (Err x) slots ts e = e
