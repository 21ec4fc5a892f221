use Rattle.std.proofs.Common.{sym}
use Rattle.dr_nested.specs.Views.{fields_view, node_view}
use Rattle.dr_striper.specs.Stripers.{striped_leaves}
use Rattle.dr_striper.proofs.FitLemmas.{record_fits_all}
use Rattle.dr_calls.proofs.walks.stripe_line.Goals as goal

pub add-requires : goal.add-requires
add-requires c = record { fits = record_fits_all (fields_view c.args.schema.now.fields.items) (striped_leaves c.args.striper.now) (node_view c.in-Ok.node) c.requires (sym c.if-not-is_record.ensures) }
