use Rattle.dr_nested.specs.SchemaView.{schema_view}
use Rattle.dr_plan.specs.Planned.{plan_view}
use Rattle.dr_tree.specs.Views.{tree_view}
use Rattle.dr_test_partials.proofs.AddedLemmas.{HasGrown}
use Rattle.dr_test_partials.proofs.growing_tests.grown.Given as goal

-- this has grown of the pieces of the tablets so far
abbrev pub invariant-order : goal.invariant-order
invariant-order g l = HasGrown (plan_view l.plan) (schema_view l.schema).fields (tree_view l.tree) l.has_piece.items l.growing
