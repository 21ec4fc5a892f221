use Rattle.dr_meaning.proofs.NestingLemmas.{walk_nests}
use Rattle.dr_meaning.proofs.walk_laws.walk_nests.Goals as goal

pub returns : goal.returns
returns c = walk_nests
