use Rattle.std.proofs.Common.{sym, ◌∙◌, arith}
use Rattle.dr_write.proofs.CuttingLemmas.{end_passed_at, end_here_at, end_behind_all}
use Rattle.dr_write.proofs.cutting.record_end.Goals as goal

pub returns-then-levels-place-eq0 : goal.returns-then-levels-place-eq0
returns-then-levels-place-eq0 c = sym (end_here_at c.args.levels.now c.levels.place _ (omega arith) c.if-levels-place-eq0.true) ∙ sym c.levels.invariant

pub levels-preserved : goal.levels-preserved
levels-preserved c = c.levels.invariant ∙ end_passed_at c.args.levels.now c.levels.place _ (omega arith) c.if-levels-place-eq0.false

pub returns : goal.returns
returns c = sym (end_behind_all c.args.levels.now c.levels.place (omega arith)) ∙ sym c.levels.invariant
