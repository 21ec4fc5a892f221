use Rattle.std.proofs.Common.{arith, sym, ap, ◌∙◌, ◌+◌}
use Rattle.dr_nested.specs.SelectionView.{padded}
use Rattle.dr_nested.proofs.SelectionLemmas.{padded_push, padded_enough}
use Rattle.dr_nested.proofs.selection.reach.Goals as goal

pub loop-fields-preserved : goal.loop-fields-preserved
loop-fields-preserved c = ap (padded (c.args.place + 1)) c.in_ok-push.ensures.items ∙ padded_push (c.args.place + 1) c.loop-fields.fields.items (omega arith) ∙ c.loop-fields.invariant

pub returns : goal.returns
returns c = sym (padded_enough (c.args.place + 1) c.loop-fields.fields.items (omega arith)) ∙ c.loop-fields.invariant
