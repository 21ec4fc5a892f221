use Rattle.std.proofs.Common.{refl}
use Rattle.dr_nested.specs.SchemaView.{schema_view}
use Rattle.dr_striper.proofs.SchemaLeafLemmas.{leaves_of_schema}
use Rattle.dr_session.proofs.KeptLemmas.{none_kept}
use Rattle.dr_session.proofs.kept.Kept.new.Goals as goal

pub new-requires : goal.new-requires
new-requires c = leaves_of_schema (schema_view c.args.schema.now).fields _ c.requires

pub returns : goal.returns
returns c = none_kept (schema_view c.args.schema.now) _ c.requires c.in_ok-striper.ensures.leaves c.in_ok-striper.ensures.columns refl
