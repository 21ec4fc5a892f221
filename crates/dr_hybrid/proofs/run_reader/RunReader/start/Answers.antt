use Rattle.dr_hybrid.specs.Reader.{ahead}
use Rattle.dr_hybrid.proofs.ReaderLemmas.{repeat_over}
use Rattle.dr_hybrid.proofs.run_reader.RunReader.start.Goals as goal

pub returns-clause-ahead : goal.returns-clause-ahead
unfolding ahead
returns-clause-ahead c = λ n bytes. repeat_over c.args.width 0 n bytes
