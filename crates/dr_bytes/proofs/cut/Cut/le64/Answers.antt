use Rattle.std.proofs.Common.{sym}
use Rattle.std.proofs.lemmas.List.{drop-drop}
use Rattle.dr_bytes.proofs.cut.Cut.le64.Goals as goal

pub returns-in-Some-clause-behind : goal.returns-in-Some-clause-behind
returns-in-Some-clause-behind c = sym (drop-drop 8 c.args.self.now.place c.args.self.now.bytes.now)
