use Rattle.std.proofs.Common.{◌≡◌, ℕ, suc, ◌+◌, Some, ap, ◌∙◌, arith}
use Rattle.std.specs.List.{slice_get}
use Rattle.std.proofs.Math.Seq.{map-set_same}
use Rattle.dr_prune.specs.PartAnswers.{lasts_of, tested_to}
use Rattle.dr_prune.proofs.PartAnswerLemmas.{last_of, last_at, tested_next}
use Rattle.dr_prune.proofs.answers.Answers.set.Goals as goal

pub returns-clause-lasts : goal.returns-clause-lasts
returns-clause-lasts c =
    let x = c.index_mut.result.now in
    map-set_same last_of c.args.self.now.parts.items c.args.part (record { last = x.last; is_true = c.args.is_true }) x (ap last_of c.index_mut.ensures.value)

pub returns-clause-tested : goal.returns-clause-tested
returns-clause-tested c t d ps i g e h =
    let n = c.args.part in
    let x = c.index_mut.result.now in
    let f : slice_get (lasts_of c.args.self.now) n ≡ Some x.last = last_at c.args.self.now.parts.items n x c.requires c.index_mut.ensures.value in
    let same : x.last ≡ i = cc in
    let next : suc n ≡ n + 1 = omega arith in
    tested_next i d t c.args.self.now.parts.items n 0 n (record { last = x.last; is_true = c.args.is_true }) ps (omega arith) g same e h
    ∙ ap (λ (m : ℕ). tested_to m i d ps) next
