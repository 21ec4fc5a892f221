use Rattle.dr_hybrid.specs.Views.{left_of, width_of, values_of}
use Rattle.dr_hybrid.proofs.RunLemmas.{no_more_than_wanted}
use Rattle.dr_hybrid.proofs.runs.Runs.next.Goals as goal

pub returns-clause-wanted : goal.returns-clause-wanted
returns-clause-wanted c = no_more_than_wanted (width_of c.args.self.now) c.args.wanted (left_of c.args.self.now) (values_of c.in_ok-run.run') _ c.in_ok-run.ensures.read
