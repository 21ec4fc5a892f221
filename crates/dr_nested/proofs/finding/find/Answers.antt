use Rattle.dr_meaning.specs.Path.{cut_at_dots, find_path}
use Rattle.std.specs.Prelude.{map}
use Rattle.std.proofs.Common.{ap, rules}
use Rattle.dr_meaning.specs.Schema.{leaf}
use Rattle.dr_nested.specs.Views.{fields_view, kind_view}
use Rattle.dr_nested.specs.PathView.{step_view}
use Rattle.dr_nested.specs.SchemaView.{schema_view}
use Rattle.dr_nested.proofs.FindingLemmas.{leaf_refused}
use Rattle.dr_nested.proofs.DepthLemmas.{steps_within}
use Rattle.dr_nested.proofs.finding.find.Goals as goal

pub returns-in_err-kind : goal.returns-in_err-kind
returns-in_err-kind c =
    let parts = cut_at_dots c.args.text.now in
    let refused = leaf_refused c.in_err-kind.field-0.0 parts (find_path parts (fields_view c.args.schema.now.fields.items)) c.in_err-kind.ensures in
    search rules

pub invariant_of-result : goal.invariant_of-result
invariant_of-result c = record { within = steps_within (cut_at_dots c.args.text.now) (schema_view c.args.schema.now) (map step_view c.new-steps.result.items) c.walk.new.steps.items (leaf (kind_view c.in_ok-kind.kind)) c.args.schema.now.valid (ap (map step_view) c.new-steps.ensures.items) c.in_ok-kind.ensures }
