use Rattle.std.proofs.Common.{◌≡◌, ◌+◌, ◌-◌, vec_len}
use Rattle.dr_nested.specs.SelectionView.{padded}
use Rattle.dr_nested.proofs.selection.reach.Given as goal

abbrev pub invariant-loop-fields : goal.invariant-loop-fields
invariant-loop-fields l = padded (l.place + 1) l.fields.items ≡ padded (l.place + 1) l.initial.fields.items

abbrev pub decreases-loop-fields : goal.decreases-loop-fields
decreases-loop-fields l = l.place + 1 - vec_len l.fields
