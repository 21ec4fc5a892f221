use Rattle.std.proofs.Common.{◌∙◌, arith}
use Rattle.dr_paths.proofs.ChainLemmas.{level_here, level_before}
use Rattle.dr_paths.proofs.chains.chain_end.Goals as goal

pub returns-in-Repeated : goal.returns-in-Repeated
returns-in-Repeated c = level_here c.args.steps.now c.steps.rest _ _ (omega arith) (omega arith) c.in-Repeated.is ∙ c.steps.invariant.same

pub steps-preserved : goal.steps-preserved
steps-preserved c = record {
  within = omega arith;
  same = level_before c.args.steps.now c.steps.rest _ _ (omega arith) (omega arith) c.in_default.not-Repeated ∙ c.steps.invariant.same;
}
