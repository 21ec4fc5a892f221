use Rattle.std.proofs.Common.{ℕ, Option, ap₂, ◌∙◌, arith}
use Rattle.dr_meaning.specs.Record.{Value}
use Rattle.dr_moves.specs.Context.{with_value}
use Rattle.dr_scalar.specs.Slots.{slot_value}
use Rattle.dr_within.proofs.BehindLemmas.{one_read, leaf_is}
use Rattle.dr_within.proofs.slots.keep_value.Goals as goal

pub returns-then-at-len-clause-here : goal.returns-then-at-len-clause-here
returns-then-at-len-clause-here c = λ i t e l.
    let xs = c.args.slots.now.items in
    let q = leaf_is c.args.read.now c.in-Leaf.leaf c.in-Leaf.triplet i t c.in-Leaf.is e in
    one_read xs c.in-Leaf.leaf c.in-Leaf.triplet.value (omega (arith, q.0, l)) ∙ ap₂ (λ (j : ℕ) (v : Option Value). with_value j v (slot_value xs)) q.0 q.1

pub returns-else-at-len-clause-here : goal.returns-else-at-len-clause-here
returns-else-at-len-clause-here c = λ i t e l.
    let q = leaf_is c.args.read.now c.in-Leaf.leaf c.in-Leaf.triplet i t c.in-Leaf.is e in
    absurd (omega (arith, q.0, l, c.if-at-len.false, c.len.ensures, c.args.slots.now.ok.0))
