use Rattle.std.proofs.Common.{◌≡◌, length, sym, ap, ◌∙◌, arith}
use Rattle.std.proofs.lemmas.List.{length-map, length-replicate}
use Rattle.dr_within.specs.Rows.{last_value, value_in}
use Rattle.dr_within.proofs.RowLemmas.{no_value, none_in}
use Rattle.dr_within.proofs.last_read.LastRead.new.Goals as goal

pub returns : goal.returns
returns c =
    let vs = c.leaves.values.items in
    let n = c.leaves.counter in
    let all : n ≡ c.args.leaves = omega (arith, c.leaves-test.false, c.leaves.auto.counter-end) in
    (sym (length-map vs last_value) ∙ (ap length c.leaves.invariant ∙ (length-replicate n no_value ∙ all)), none_in n ∙ ap value_in (sym c.leaves.invariant))
