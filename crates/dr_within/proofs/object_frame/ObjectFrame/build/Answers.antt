use Rattle.std.proofs.Common.{◌≡◌, ◌++◌, ◌∷◌, [], ℕ, suc, List, Bool, length, refl, sym, ap, ◌∙◌}
use Rattle.std.specs.Prelude.{if◌then◌else◌}
use Rattle.dr_cells.specs.Results.{ResultCell, object_cells}
use Rattle.dr_made_laws.specs.ObjectFlow.{built, items_of, object_made, passed_on, values_for}
use Rattle.dr_scalar.specs.Slots.{slot_value}
use Rattle.dr_within.specs.WithinValues.{is_among}
use Rattle.dr_within.proofs.FramingLemmas.{on_ok}
use Rattle.dr_within.proofs.ObjectParts.{left_record, left_instance, passed_built, passed_objects, passed_values, among_own}
use Rattle.dr_within.proofs.ObjectFrameLemmas.{frame_left, values_same, values_joined}
use Rattle.dr_within.proofs.object_frame.ObjectFrame.build.Goals as goal

pub returns-then-number-eq0 : goal.returns-then-number-eq0
returns-then-number-eq0 c = λ ls rs levels made more r level h w.
    let m = level.0 in
    let k = c.args.number in
    let ctx = slot_value c.args.slots.now in
    let o = object_made rs (suc k) m ctx more in
    let cells = c.in_ok-push_object.ensures ls rs more k m r w level.3 ∙ ap (λ (x : List ResultCell). x ++ object_cells o) h.built.cells in
    let first = c.len-first.ensures ∙ ap length h.built.cells in
    frame_left (items_of rs) made k o [] _ _ (left_record rs levels k ctx more m level.1 level.2 c.if-number-eq0.true)
    (c.in_ok-add_object.ensures made o h.built.runs cells first) refl refl (values_same (items_of rs) made (built k o ∷ []) c.args.self.now.values h.values (λ j. refl))

pub returns : goal.returns
returns c = on_ok c.join_others.result _ _ (λ call ls rs levels made more r level h w.
    let m = level.0 in
    let k = c.args.number in
    let ctx = slot_value c.args.slots.now in
    let items = items_of rs in
    let o = object_made rs (suc k) m ctx more in
    let on = passed_on items m.path more in
    let own = c.deref.result.now in
    let cells = c.in_ok-push_object.ensures ls rs more k m r w level.3 ∙ ap (λ (x : List ResultCell). x ++ object_cells o) h.built.cells in
    let first = c.len-first.ensures ∙ ap length h.built.cells in
    let goes : (j : ℕ) → values_for j (built k o ∷ on) ≡ (if is_among own j then [] else values_for j more) =
    λ j. passed_values items m.path j more
    ∙ ap (λ (b : Bool). if b then [] else values_for j more) (sym (ap (λ (js : List ℕ). is_among js j) (c.deref.ensures.value ∙ level.3.places) ∙ among_own items m.path j)) in
    frame_left items made k o on _ _ (left_instance rs levels k ctx more m level.1 level.2 c.if-number-eq0.false)
    (c.in_ok-add_object.ensures made o h.built.runs cells first) (passed_built items m.path more) (passed_objects items m.path more)
    (values_joined items made more (built k o ∷ on) c.args.self.now.values c.args.inner.now.values c.join_others.new.self own h.values w.values (call items h.values.typed w.values.typed) goes)) c.join_others.ensures
