-- Parts of a query above its expressions, as they were bound, against what the definitions make of them.
use Rattle.std.specs.Prelude.{◌≡◌, List, [], ◌∷◌, map, true, string_bytes, Option, Some, None, option_map}
use Rattle.dr_meaning.specs.Schema.{Fields}
use Rattle.dr_meaning.specs.Path.{Leaf}
use Rattle.dr_meaning.specs.Expression.{paths_of}
use Rattle.dr_meaning.specs.BoundExpression as meant
use Rattle.dr_meaning.specs.Binding as binding
use Rattle.dr_nested.specs.PathView.{step_view}
use Rattle.dr_plan.specs.Views.{truth_view, fold_view}
use Rattle.dr_plan.specs.Fitting.{truth_fits}
use Rattle.dr_paths.specs.Views.{bound_path_view, paths_at}
use Rattle.dr_resolve.specs.Bound.{AreReal, Covers, IsExpression}
use Rattle.dr_resolve.specs.declared.bound.BoundCondition.{BoundCondition}
use Rattle.dr_resolve.specs.declared.bound.BoundExpression.{BoundExpression}
use Rattle.dr_resolve.specs.declared.bound.BoundWithin.{BoundWithin}
use Rattle.dr_resolve.specs.declared.bound.BoundTerm.{BoundTerm}
use Rattle.dr_resolve.specs.declared.bound.BoundItem.{BoundItem}

-- ---- the condition

-- a truth value as it was bound
pub record IsTruth (fs : Fields) (ls : List Leaf) (b : meant.BoundExpression) (c : BoundCondition) : Type 0 where
  pub paths : map bound_path_view c.paths.items ≡ b.paths
  pub own : paths_of b.expression ≡ paths_at b.paths
  pub real : AreReal fs b.paths
  pub view : Covers ls b.paths → truth_view ls c.truth.value ≡ b.expression
  pub fits : Covers ls b.paths → truth_fits ls c.truth.value ≡ true

-- the condition, if there is one
abbrev pub IsCondition : Fields → List Leaf → Option meant.BoundExpression → Option BoundCondition → Type 0
IsCondition fs ls None None = Unit {0}
IsCondition fs ls None (Some c) = ⊥
IsCondition fs ls (Some b) None = ⊥
IsCondition fs ls (Some b) (Some c) = IsTruth fs ls b c

-- ---- items

abbrev pub within_view : BoundWithin → binding.BoundWithin
within_view w = record { place = w.place; node = map step_view w.node.items; is_whole = w.is_whole }

abbrev pub IsWithin : Option binding.BoundWithin → Option BoundWithin → Type 0
IsWithin b w = option_map within_view w ≡ b

abbrev pub IsTerm : Fields → List Leaf → binding.BoundTerm → BoundTerm → Type 0
IsTerm fs ls (binding.plain e) (BoundTerm.Value x) = IsExpression fs ls e x
IsTerm fs ls (binding.plain e) (BoundTerm.Rows v) = ⊥
IsTerm fs ls (binding.plain e) (BoundTerm.Aggregated f x v) = ⊥
IsTerm fs ls (binding.rows_counted w) (BoundTerm.Value x) = ⊥
IsTerm fs ls (binding.rows_counted w) (BoundTerm.Rows v) = IsWithin w v
IsTerm fs ls (binding.rows_counted w) (BoundTerm.Aggregated f x v) = ⊥
IsTerm fs ls (binding.aggregated a e w) (BoundTerm.Value x) = ⊥
IsTerm fs ls (binding.aggregated a e w) (BoundTerm.Rows v) = ⊥
IsTerm fs ls (binding.aggregated a e w) (BoundTerm.Aggregated f x v) = (fold_view f ≡ a) × IsExpression fs ls e x × IsWithin w v

pub record IsItem (fs : Fields) (ls : List Leaf) (b : binding.BoundItem) (x : BoundItem) : Type 0 where
  pub place : x.place ≡ b.place
  pub name : string_bytes x.name ≡ b.name
  pub term : IsTerm fs ls b.term x.term

-- items in their order
abbrev pub AreItems : Fields → List Leaf → List binding.BoundItem → List BoundItem → Type 0
AreItems fs ls [] [] = Unit {0}
AreItems fs ls [] (x ∷ xs) = ⊥
AreItems fs ls (b ∷ bs) [] = ⊥
AreItems fs ls (b ∷ bs) (x ∷ xs) = IsItem fs ls b x × AreItems fs ls bs xs

-- expressions in their order
abbrev pub AreExpressions : Fields → List Leaf → List meant.BoundExpression → List BoundExpression → Type 0
AreExpressions fs ls [] [] = Unit {0}
AreExpressions fs ls [] (x ∷ xs) = ⊥
AreExpressions fs ls (b ∷ bs) [] = ⊥
AreExpressions fs ls (b ∷ bs) (x ∷ xs) = IsExpression fs ls b x × AreExpressions fs ls bs xs
