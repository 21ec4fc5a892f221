use Rattle.std.proofs.Common.{◌∙◌, List, map, ap, subst}
use Rattle.dr_meaning.specs.Path.{Leaf}
use Rattle.dr_nested.specs.PathView.{path_view}
use Rattle.dr_agreement.specs.Alone.{AreTestsOf}
use Rattle.dr_columns.proofs.StepLemmas.{begins_behind}
use Rattle.dr_columns.proofs.chunks.Chunks.start.Goals as goal

pub returns-clause-begun : goal.returns-clause-begun
returns-clause-begun c = λ s b. record {
  behind = begins_behind s c.args.plan.now c.args.records c.args.leaves.items c.args.scan b.taken b.none;
  taken = b.taken;
  for_plan = record {
    of_schema = b.of_schema;
    as_many = b.as_many;
    are_tests = subst (λ (L : List Leaf). AreTestsOf L c.in_ok-tests.tests.items) (ap (map path_view) c.deref.ensures.value) c.in_ok-tests.ensures;
  };
}
