use Rattle.std.proofs.Common.{ap}
use Rattle.std.specs.Fmt.{styled_decimal}
use Rattle.dr_table.proofs.PathLemmas.{path_is_written}
use Rattle.dr_table.proofs.placing.tablet_path.Goals as goal

pub returns : goal.returns
returns c = path_is_written c.args.directory.now c.args.tablet _ _ (ap (λ s. styled_decimal s c.args.tablet) c.laid_out.ensures) c.in_ok-format.ensures.ok
