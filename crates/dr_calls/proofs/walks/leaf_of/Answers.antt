use Rattle.dr_meaning.proofs.FoundLemmas.{found_is_leaf}
use Rattle.dr_nested.specs.Views.{fields_view}
use Rattle.dr_nested.specs.PathView.{path_view}
use Rattle.dr_striper.proofs.FoundLemmas.{found_is_of}
use Rattle.dr_calls.proofs.walks.leaf_of.Goals as goal

pub returns-in-Ok : goal.returns-in-Ok
returns-in-Ok c = record {
  leaf = found_is_of c.args.name.now (fields_view c.args.schema.now.fields.items) (path_view c.in-Ok.field) c.in-Ok.ensures;
  path = found_is_leaf c.args.name.now (fields_view c.args.schema.now.fields.items) (path_view c.in-Ok.field) c.in-Ok.ensures;
}
