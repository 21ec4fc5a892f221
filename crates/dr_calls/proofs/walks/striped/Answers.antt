use Rattle.dr_nested.specs.Views.{fields_view}
use Rattle.dr_calls.proofs.walks.striped.Goals as goal

pub new-requires : goal.new-requires
new-requires c = (fields_view c.args.schema.now.fields.items, c.requires)
