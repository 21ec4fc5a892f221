use Rattle.std.proofs.Common.{◌≡◌, ◌∙◌, rules}
use Rattle.std.specs.Prelude.{◌==◌, count_by}
use Rattle.dr_levels.specs.declared.triplet.Levels.{Levels}
use Rattle.dr_write.proofs.HeadLemmas.{starts_counted}
use Rattle.dr_write.proofs.heads.count_starts.Goals as goal

pub returns : goal.returns
returns c = λ ts e.
    let k : c.count.result ≡ count_by (λ (l : Levels). l.repetition == 0) c.args.levels.now = search rules in
    k ∙ starts_counted c.args.levels.now ts e
