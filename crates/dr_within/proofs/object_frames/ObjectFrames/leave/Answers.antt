use Rattle.std.proofs.Common.{◌≡◌, ◌∷◌, ◌++◌, [], List, take, drop, sym, ap, subst, ◌∙◌, true≢false}
use Rattle.std.specs.Prelude.{reverse, if◌then◌else◌}
use Rattle.std.proofs.lemmas.List.{reverse-append}
use Rattle.dr_made_laws.specs.ObjectFlow.{Made, items_of, left_items}
use Rattle.dr_scalar.specs.Slots.{slot_value}
use Rattle.dr_within.specs.ObjectFraming.{HoldsFrame, HoldsFrames}
use Rattle.dr_within.specs.declared.object_frames.ObjectFrames.{ObjectFrames}
use Rattle.dr_within.proofs.ObjectFrameLemmas.{frames_left}
use Rattle.dr_within.proofs.object_frames.ObjectFrames.leave.Goals as goal
use Rattle.dr_within.proofs.object_frames.ObjectFrames.leave.Goals.{then-not-is_dropped+in_ok-leave, else-not-is_dropped}

pub returns-clause-left : goal.returns-clause-left
returns-clause-left c = λ ls rs levels made mark marks r level h.
    let items = items_of rs in
    let ctx = slot_value c.args.slots.now in
    let front = c.pop.new.self.items in
    let outer = c.in-Some.outer in
    let f = c.args.self.now.inner in
    let b = c.args.is_dropped in
    let left : List Made → List Made = λ inner. left_items rs levels c.args.number ctx inner in
    let back : reverse c.args.self.now.around.items ≡ outer ∷ reverse front = ap reverse c.in-Some.ensures.items ∙ reverse-append front (outer ∷ []) in
    let opened : HoldsFrames items (mark ∷ marks) made f (outer ∷ reverse front) = subst (HoldsFrames items (mark ∷ marks) made f) back h in
    let Held : ObjectFrames → Type 0 = λ s. HoldsFrames items marks (if b then take mark made else take mark made ++ left (drop mark made)) s.inner (reverse s.around.items) in
    elim c.if-not-is_dropped.branch [
      | then-not-is_dropped+in_ok-leave w ↦ subst Held (sym w.self-is)
          (frames_left items made mark marks left f w.leave.new.self outer (reverse front) b
          (λ e. absurd (true≢false (sym e ∙ w.if-not-is_dropped.true)))
          (λ e before inner k n. w.in_ok-leave.ensures ls rs levels before inner r level (subst (HoldsFrame items before) (sym c.replace-inner.ensures.after) k) (subst (HoldsFrame items inner) (sym c.replace-inner.ensures.value) n)) opened)
      | else-not-is_dropped w ↦ subst Held (sym w.self-is)
          (frames_left items made mark marks left f c.replace-inner.new.dest outer (reverse front) b
          (λ e. c.replace-inner.ensures.after)
          (λ e. absurd (true≢false (sym w.if-not-is_dropped.false ∙ e))) opened)
    ]
