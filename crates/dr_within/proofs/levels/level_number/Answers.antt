use Rattle.std.proofs.Common.{◌≡◌, ◌∙◌, ◌<◌, ◌-◌, ℕ, length, get_or, sym, ap, arith}
use Rattle.dr_within.specs.LevelTable.{last_or}
use Rattle.dr_within.proofs.LevelSteps.{last_at}
use Rattle.dr_within.proofs.levels.level_number.Goals as goal

pub returns : goal.returns
returns c =
    let ks = c.in_ok-numbers.numbers.items in
    let x = c.index.result.now in
    let n : c.len-count.result ≡ length ks = omega (arith, c.len-count.ensures, c.in_ok-numbers.numbers.ok.0) in
    let some : 0 < length ks = omega (arith, n, c.if-count-eq0.false) in
    let here : x ≡ get_or ks (c.len-count.result - 1) x = c.index.ensures in
    here ∙ ap (λ (k : ℕ). get_or ks (k - 1) x) n ∙ sym (last_at 0 ks x some) ∙ ap (last_or 0) c.in_ok-numbers.ensures.numbers
