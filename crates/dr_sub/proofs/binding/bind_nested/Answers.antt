use Rattle.std.proofs.Common.{map, List, subst}
use Rattle.dr_nested.specs.SchemaView.{schema_view}
use Rattle.dr_sql.specs.Views.{select_view}
use Rattle.dr_sql.specs.declared.query.Select.{Select}
use Rattle.dr_sub_meaning.specs.NestedBinding as meant
use Rattle.dr_sub.specs.NestedPlans.{BindsNested}
use Rattle.dr_sub.proofs.binding.bind_nested.Goals as goal

pub returns : goal.returns
unfolding meant.bind_nested
returns c =
    subst (λ (xs : List Select). BindsNested (schema_view c.args.schema.now).fields (meant.bind_from (map select_view xs) (select_view c.args.query.now.first) (schema_view c.args.schema.now)) c.bind_from.result) c.deref.ensures.value c.bind_from.ensures
