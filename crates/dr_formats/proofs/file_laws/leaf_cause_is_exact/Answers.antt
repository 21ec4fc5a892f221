use Rattle.dr_formats.proofs.OpeningLemmas.{leaf_cause_is_exact, no_leaf_cause_is_file}
use Rattle.dr_formats.proofs.file_laws.leaf_cause_is_exact.Goals as goal

pub returns : goal.returns
returns c = record { cause = leaf_cause_is_exact; file = no_leaf_cause_is_file }
