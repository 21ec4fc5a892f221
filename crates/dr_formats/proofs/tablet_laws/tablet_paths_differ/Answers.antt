use Rattle.dr_formats.proofs.TabletLemmas.{paths_differ}
use Rattle.dr_formats.proofs.tablet_laws.tablet_paths_differ.Goals as goal

pub returns : goal.returns
returns c = paths_differ
