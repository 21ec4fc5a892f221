use Rattle.std.proofs.Common.{◌≡◌, ◌∷◌, ◌++◌, [], length, sym, ap, subst, ◌∙◌}
use Rattle.std.specs.Prelude.{reverse}
use Rattle.std.proofs.lemmas.List.{reverse-append}
use Rattle.dr_within.specs.ObjectFraming.{HoldsFrame, HoldsFrames}
use Rattle.dr_within.specs.declared.object_frame.ObjectFrame.{ObjectFrame}
use Rattle.dr_within.proofs.ObjectFrameLemmas.{frames_entered}
use Rattle.dr_within.proofs.object_frames.ObjectFrames.enter.Goals as goal

pub returns : goal.returns
returns c = λ items made marks h.
    let around = c.args.self.now.around.items in
    let f = c.args.self.now.inner in
    let g = c.replace-outer.new.dest in
    let one : c.push.new.self.items ≡ around ++ f ∷ [] = c.in_ok-push.ensures.items ∙ ap (λ (x : ObjectFrame). around ++ x ∷ []) c.replace-outer.ensures.value in
    let nothing : HoldsFrame items [] g = subst (HoldsFrame items []) (sym c.replace-outer.ensures.after) (c.clear.ensures items) in
    subst (HoldsFrames items (length made ∷ marks) made g) (sym (ap reverse one ∙ reverse-append around (f ∷ []))) (frames_entered items made marks f g (reverse around) h nothing)
