use Rattle.dr_formats.proofs.TabletLemmas.{tablets_are_full, tablets_are_not_empty, tablets_hold_records}
use Rattle.dr_formats.proofs.tablet_laws.tablets_hold_records.Goals as goal

pub returns : goal.returns
returns c = record { records = tablets_hold_records; full = tablets_are_full; none_empty = tablets_are_not_empty }
