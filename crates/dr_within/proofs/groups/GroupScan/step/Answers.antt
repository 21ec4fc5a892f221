use Rattle.std.proofs.Common.{◌≡◌, ◌<◌, ℕ, List, [], ◌∷◌, ◌++◌, length, None, refl, sym, ap, ap₂, subst, ◌∙◌}
use Rattle.dr_levels.specs.Views.{move_view, triplet_view}
use Rattle.dr_meaning.specs.Walk.{Move, enter, value, leave}
use Rattle.dr_moves.specs.Context.{Context, with_value}
use Rattle.dr_kept_laws.specs.GroupFlow.{all_fired, all_left, left_with}
use Rattle.dr_kept_laws.specs.MovedContexts.{after_moves}
use Rattle.dr_scalar.specs.Slots.{slot_value}
use Rattle.dr_condition.specs.Conditions.{watch_in}
use Rattle.dr_condition.specs.Watching.{TellsKept, dropped_at}
use Rattle.dr_within.specs.Behind.{readings_at}
use Rattle.dr_within.specs.Rows.{IsOfLeaf}
use Rattle.dr_within.specs.Takings.{Take, all_read}
use Rattle.dr_within.proofs.FramingLemmas.{on_ok, on_both}
use Rattle.dr_within.proofs.FramedLemmas.{framed_context}
use Rattle.dr_within.proofs.StepLemmas.{is_behind, after_snoc, enter_made, read_made, leave_made, HoldsBehind, one_more, fired_rows, left_taken}
use Rattle.dr_within.proofs.groups.GroupScan.step.Goals as goal

pub returns-in-Enter-clause-behind : goal.returns-in-Enter-clause-behind
returns-in-Enter-clause-behind c = on_ok c.enter.result _ _ (λ call p ls ts ms b r of.
    let old = c.args.self.now in
    let keys = old.keys.now in
    let W = watch_in old.condition in
    let m = move_view c.args.read.now in
    let slots = c.keep.new.self.slots.items in
    let q : m ≡ enter c.in-Enter.field-0 = ap move_view c.in-Enter.is in
    let read : after_moves (λ i. None) (ms ++ m ∷ []) ≡ slot_value slots =
    ap (λ (x : Move). after_moves (λ i. None) (ms ++ x ∷ [])) q ∙ after_snoc (λ i. None) ms (enter c.in-Enter.field-0) ∙ r.1 ∙ ap slot_value (sym (c.keep.ensures.enter c.in-Enter.field-0 q)) in
    let there = read ∙ ap slot_value (sym c.deref.ensures.value) in
    is_behind p ls ts ms m old _ b refl refl c.step.ensures.watches (c.in_ok-told.ensures.watched ms b.watched there)
    (subst (λ (x : Move). HoldsBehind ls keys ts W p (length keys) (ms ++ x ∷ []) (one_more ls keys ts W ms x) c.enter.new.self) (sym q)
    (enter_made ls keys ts W p (length keys) ms c.in-Enter.field-0 old.frames c.enter.new.self call b.made))) c.enter.ensures

pub returns-in-Leaf-clause-behind : goal.returns-in-Leaf-clause-behind
returns-in-Leaf-clause-behind c = on_ok c.fire.result _ _ (λ call p ls ts ms b r of.
    let old = c.args.self.now in
    let keys = old.keys.now in
    let W = watch_in old.condition in
    let m = move_view c.args.read.now in
    let slots = c.keep.new.self.slots.items in
    let i = c.in-Leaf.leaf in
    let t = triplet_view c.in-Leaf.field-1 in
    let q : m ≡ value i t = ap move_view c.in-Leaf.is in
    let l : i < length ls = subst (λ (x : Move). IsOfLeaf (length ls) x) q of in
    let here = c.keep.ensures.here i t q (subst (λ (n : ℕ). i < n) (sym r.0) l) in
    let read : after_moves (λ i. None) (ms ++ m ∷ []) ≡ slot_value slots =
    ap (λ (x : Move). after_moves (λ i. None) (ms ++ x ∷ [])) q ∙ after_snoc (λ i. None) ms (value i t) ∙ ap (with_value i t.value) r.1 ∙ sym here in
    let there = read ∙ ap slot_value (sym c.deref.ensures.value) in
    let told = c.in_ok-told.ensures.kept ms b.watched there in
    let context : slot_value c.deref-in-Leaf.result.now ≡ with_value i t.value (after_moves (λ i. None) ms) = ap slot_value c.deref-in-Leaf.ensures.value ∙ here ∙ ap (with_value i t.value) (sym r.1) in
    let rows = ap₂ (λ (ts : List Take) (x : Context). all_read keys ts x) (c.at.ensures ∙ b.fires.leaf i l) (context ∙ ap (with_value i t.value) (sym (framed_context (all_fired (readings_at ls keys ts)) (left_with (all_left (readings_at ls keys ts))) W ms)))
    ∙ sym (fired_rows ls keys ts 0 i _) in
    is_behind p ls ts ms m old _ b refl refl c.step.ensures.watches (c.in_ok-told.ensures.watched ms b.watched there)
    (subst (λ (x : Move). HoldsBehind ls keys ts W p (length keys) (ms ++ x ∷ []) (one_more ls keys ts W ms x) c.fire.new.self) (sym q)
    (read_made ls keys ts W p (length keys) ms i t c.in_ok-told.told.is_kept _ old.frames c.fire.new.self call (subst (λ (x : Move). TellsKept W ms x c.in_ok-told.told.is_kept) q told) rows b.made))) c.fire.ensures.rows

pub returns-in-Leave-clause-behind : goal.returns-in-Leave-clause-behind
returns-in-Leave-clause-behind c = on_both c.leave.result _ _ _ (λ call none p ls ts ms b r of.
    let old = c.args.self.now in
    let keys = old.keys.now in
    let W = watch_in old.condition in
    let m = move_view c.args.read.now in
    let slots = c.keep.new.self.slots.items in
    let k = c.in-Leave.number in
    let q : m ≡ leave k = ap move_view c.in-Leave.is in
    let same = c.keep.ensures.leave k q in
    let read : after_moves (λ i. None) (ms ++ m ∷ []) ≡ slot_value slots =
    ap (λ (x : Move). after_moves (λ i. None) (ms ++ x ∷ [])) q ∙ after_snoc (λ i. None) ms (leave k) ∙ r.1 ∙ ap slot_value (sym same) in
    let there = read ∙ ap slot_value (sym c.deref.ensures.value) in
    let dropped = c.in_ok-told.ensures.dropped ms b.watched there ∙ ap (λ (x : Move). dropped_at W ms x) q in
    let context : slot_value c.deref-in-Leave.result.now ≡ after_moves (λ i. None) ms = ap slot_value c.deref-in-Leave.ensures.value ∙ ap slot_value same ∙ sym r.1 in
    let rows = ap₂ (λ (ts : List Take) (x : Context). all_read keys ts x) c.at_leave.ensures (context ∙ sym (framed_context (all_fired (readings_at ls keys ts)) (left_with (all_left (readings_at ls keys ts))) W ms)) ∙ left_taken ls keys ts old.firing k _ b.fires in
    is_behind p ls ts ms m old _ b refl refl c.step.ensures.watches (c.in_ok-told.ensures.watched ms b.watched there)
    (subst (λ (x : Move). HoldsBehind ls keys ts W p (length keys) (ms ++ x ∷ []) (one_more ls keys ts W ms x) c.leave.new.self) (sym q)
    (leave_made ls keys ts W p (length keys) ms k c.in_ok-told.told.is_dropped _ old.frames c.leave.new.self call none dropped rows b.made))) c.leave.ensures.left c.leave.ensures.none
