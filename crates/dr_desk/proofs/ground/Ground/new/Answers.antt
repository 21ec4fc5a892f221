use Rattle.dr_desk.proofs.Allowed.{begins}
use Rattle.dr_desk.proofs.ground.Ground.new.Goals as goal

pub of_words-requires : goal.of_words-requires
of_words-requires c = begins _
