-- The parts of a query as they were bound, against what the definitions make of them.
use Rattle.std.specs.Prelude.{◌≡◌, ◌==◌, List, map, length, Option, Some, None}
use Rattle.dr_meaning.specs.Schema.{Fields}
use Rattle.dr_meaning.specs.Path.{Leaf}
use Rattle.dr_meaning.specs.BoundExpression as meant
use Rattle.dr_meaning.specs.BoundExpression.{Checked, passes, fails}
use Rattle.dr_meaning.specs.Binding as binding
use Rattle.dr_paths.specs.Views.{bound_path_view}
use Rattle.dr_resolve.specs.Items.{IsCondition, AreItems, AreExpressions}
use Rattle.dr_resolve.specs.declared.bound.BoundCondition.{BoundCondition}
use Rattle.dr_resolve.specs.declared.bound.BoundParts.{BoundParts}

-- a condition that passes is bound; of one that fails there is none
abbrev pub IsCheckedCondition : Fields → List Leaf → Checked (Option meant.BoundExpression) → Option BoundCondition → Type 0
IsCheckedCondition fs ls (passes b) c = IsCondition fs ls b c
IsCheckedCondition fs ls (fails e es) None = Unit {0}
IsCheckedCondition fs ls (fails e es) (Some c) = ⊥

pub record AreParts (fs : Fields) (ls : List Leaf) (b : binding.BoundParts) (p : BoundParts) : Type 0 where
  pub record_query : p.is_record_query ≡ b.is_record_query
  pub condition : IsCheckedCondition fs ls b.condition p.condition
  pub items : AreItems fs ls (binding.passing b.items) p.items.items
  pub arguments : AreExpressions fs ls b.arguments p.arguments.items
  pub keys : map bound_path_view p.keys.items ≡ binding.passing b.keys
  pub all_keys : p.has_all_keys ≡ (length (binding.passing b.keys) == length b.keys)
