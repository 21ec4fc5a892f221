use Rattle.std.proofs.Common.{sym, ap, ◌∙◌, map}
use Rattle.std.specs.Prelude.{option_map}
use Rattle.dr_nested.specs.SchemaView.{schema_view}
use Rattle.dr_resolve.specs.Resolved.{found_view, end_view}
use Rattle.dr_resolve.proofs.PathLemmas.{found_within}
use Rattle.dr_resolve.proofs.names.Binder.path.Goals as goal
use Rattle.dr_sql.specs.Views.{lent}

pub invariant_of-leaf : goal.invariant_of-leaf
invariant_of-leaf c = record {
  within = found_within (map lent c.deref.result.now) (schema_view c.args.self.schema.now) c.in-Some.found.steps.items (end_view c.in-Some.found.end) c.args.self.schema.now.valid
      (sym (ap (option_map found_view) (sym c.in-Some.is) ∙ c.in_ok-found.ensures));
}
