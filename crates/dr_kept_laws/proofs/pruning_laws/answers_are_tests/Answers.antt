use Rattle.dr_kept_laws.proofs.PartLemmas.{answers_are_tests}
use Rattle.dr_kept_laws.proofs.pruning_laws.answers_are_tests.Goals as goal

pub returns : goal.returns
returns c = answers_are_tests
