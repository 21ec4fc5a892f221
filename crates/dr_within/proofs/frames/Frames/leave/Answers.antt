use Rattle.std.proofs.Common.{length, refl, sym, ap, ◌∙◌, take, ◌++◌, arith}
use Rattle.std.specs.Prelude.{reverse}
use Rattle.dr_scalar.specs.Slots.{slot_value}
use Rattle.dr_within.specs.Takings.{all_read, takings_view}
use Rattle.dr_within.proofs.FramingLemmas.{cut_if, kept_if, left_kept, stays, nothing_open, none_left, on_ok}
use Rattle.dr_within.proofs.frames.Frames.leave.Goals as goal

pub returns-then-is_dropped-clause-left : goal.returns-then-is_dropped-clause-left
returns-then-is_dropped-clause-left c = λ p made b settled mark marks h d.
    let n = length c.args.keys.now in
    let more = all_read c.args.keys.now (takings_view c.args.takings.now) (slot_value c.args.slots.now) in
    cut_if p n c.args.is_dropped made (made ++ more) b settled mark marks c.in-Some.mark c.args.self.now _ c.if-is_dropped.true h (d c.if-is_dropped.true) c.in-Some.ensures.items refl (c.truncate.ensures.rows h.whole) (c.truncate.ensures.whole h.whole) c.truncate.ensures.width

pub returns-clause-left : goal.returns-clause-left
returns-clause-left c =
    let n = length c.args.keys.now in
    let more = all_read c.args.keys.now (takings_view c.args.takings.now) (slot_value c.args.slots.now) in
    on_ok c.fire.result _ _ (λ rows p made b settled mark marks h d.
    let k = left_kept p n made b settled mark marks c.in-Some.mark c.args.self.now _ h c.in-Some.ensures.items refl refl in
    kept_if p n c.args.is_dropped (take mark made) (made ++ more) settled marks c.fire.new.self c.if-is_dropped.false
    (rows p made settled settled marks k (stays settled) (λ e. nothing_open (length k.given) settled marks _ k.marked (ap reverse (none_left c.pop.new.self.items c.pop.new.self.len (omega (arith, c.pop.new.self.ok.0)) (sym c.is_empty-is_outermost.ensures ∙ e))))))
    c.fire.ensures.rows
