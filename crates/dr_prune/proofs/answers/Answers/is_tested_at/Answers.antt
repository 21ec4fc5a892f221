use Rattle.std.proofs.Common.{◌≡◌, ℕ, suc, ◌+◌, ap, ◌∙◌, arith}
use Rattle.dr_prune.specs.PartAnswers.{tested_to}
use Rattle.dr_prune.proofs.PartAnswerLemmas.{last_at, passed_next}
use Rattle.dr_prune.proofs.answers.Answers.is_tested_at.Goals as goal

pub returns-clause-stays : goal.returns-clause-stays
returns-clause-stays c e t d ps h =
    let n = c.args.part in
    let i = c.args.leaf in
    let xs = c.args.self.now.parts.items in
    let next : suc n ≡ n + 1 = omega arith in
    passed_next i d t xs n 0 c.index.result.now.last ps (last_at xs n c.index.result.now c.requires c.index.ensures) e h
    ∙ ap (λ (m : ℕ). tested_to m i d ps) next
