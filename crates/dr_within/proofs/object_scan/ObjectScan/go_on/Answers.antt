use Rattle.std.proofs.Common.{◌≡◌, ◌<◌, ℕ, List, [], ◌∷◌, ◌++◌, length, None, refl, sym, ap, subst, ◌∙◌}
use Rattle.dr_levels.specs.Views.{move_view, triplet_view}
use Rattle.dr_meaning.specs.Query.{levels_of}
use Rattle.dr_meaning.specs.Walk.{Move, enter, value, leave}
use Rattle.dr_moves.specs.Context.{Context, with_value}
use Rattle.dr_made_laws.specs.ObjectFlow.{items_of, seen_items, left_items}
use Rattle.dr_plan.specs.Planned.{plan_leaves}
use Rattle.dr_plan.specs.declared.plan.RecordItem.{RecordItem}
use Rattle.dr_kept_laws.specs.MovedContexts.{after_moves}
use Rattle.dr_scalar.specs.Slots.{slot_value}
use Rattle.dr_condition.specs.Conditions.{watch_in}
use Rattle.dr_condition.specs.Watching.{dropped_at}
use Rattle.dr_within.specs.Rows.{IsOfLeaf}
use Rattle.dr_within.specs.ObjectFraming.{HoldsObjects, AreReadItems}
use Rattle.dr_within.specs.ObjectLevels.{IsLevelAt}
use Rattle.dr_within.specs.ObjectsBehind.{read_items}
use Rattle.dr_within.proofs.FramingLemmas.{on_ok, on_both}
use Rattle.dr_within.proofs.FramedLemmas.{framed_context}
use Rattle.dr_within.proofs.StepLemmas.{after_snoc}
use Rattle.dr_within.proofs.ObjectSteps.{items_are_read, fired_are, HoldsMade, behind_objects, next_objects, left_holds, scans_next}
use Rattle.dr_within.proofs.object_scan.ObjectScan.go_on.Goals as goal

pub returns-in-Enter-clause-scans : goal.returns-in-Enter-clause-scans
returns-in-Enter-clause-scans c = on_ok c.enter.result _ _ (λ call s p ms g r of.
    let old = c.args.self.now in
    let items = g.items.items in
    let rs = read_items (plan_leaves p) items in
    let W = watch_in old.condition in
    let m = move_view c.args.read.now in
    let slots = c.keep.new.self.slots.items in
    let q : m ≡ enter c.in-Enter.field-0 = ap move_view c.in-Enter.is in
    let read : after_moves (λ i. None) (ms ++ m ∷ []) ≡ slot_value slots =
    ap (λ (x : Move). after_moves (λ i. None) (ms ++ x ∷ [])) q ∙ after_snoc (λ i. None) ms (enter c.in-Enter.field-0) ∙ r.1 ∙ ap slot_value (sym (c.keep.ensures.enter c.in-Enter.field-0 q)) in
    let there = read ∙ ap slot_value (sym c.deref.ensures.value) in
    let f = behind_objects s p items W ms in
    scans_next s p ms m old _ g refl refl refl refl c.step.ensures.watches (c.in_ok-told.ensures.watched ms g.behind.watched there)
    (subst (λ (x : Move). HoldsMade (items_of rs) (next_objects s p items W ms x) c.enter.new.self) (sym q) (call (items_of rs) f.made f.marks g.behind.made))) c.enter.ensures

pub returns-in-Leaf-clause-scans : goal.returns-in-Leaf-clause-scans
returns-in-Leaf-clause-scans c = on_ok c.take.result _ _ (λ call s p ms g r of.
    let old = c.args.self.now in
    let ls = plan_leaves p in
    let items = g.items.items in
    let rs = read_items ls items in
    let W = watch_in old.condition in
    let m = move_view c.args.read.now in
    let slots = c.keep.new.self.slots.items in
    let i = c.in-Leaf.leaf in
    let t = triplet_view c.in-Leaf.field-1 in
    let q : m ≡ value i t = ap move_view c.in-Leaf.is in
    let l : i < length ls = subst (λ (x : Move). IsOfLeaf (length ls) x) q of in
    let here = c.keep.ensures.here i t q (subst (λ (n : ℕ). i < n) (sym r.0) l) in
    let read : after_moves (λ i. None) (ms ++ m ∷ []) ≡ slot_value slots =
    ap (λ (x : Move). after_moves (λ i. None) (ms ++ x ∷ [])) q ∙ after_snoc (λ i. None) ms (value i t) ∙ ap (with_value i t.value) r.1 ∙ sym here in
    let there = read ∙ ap slot_value (sym c.deref.ensures.value) in
    let f = behind_objects s p items W ms in
    let context : slot_value c.deref-in-Leaf.result.now ≡ with_value i t.value f.context =
    ap slot_value c.deref-in-Leaf.ensures.value ∙ (here ∙ ap (with_value i t.value) (sym r.1 ∙ sym (framed_context (seen_items rs) (left_items rs (levels_of s.fields)) W ms))) in
    let places = c.at-places.ensures ∙ g.is_for.fires.leaf i l ∙ fired_are ls 0 items i in
    let known : AreReadItems ls old.items.now rs = subst (λ (xs : List RecordItem). AreReadItems ls xs rs) (sym g.is_for.items_are) (items_are_read ls items) in
    scans_next s p ms m old _ g refl refl refl refl c.step.ensures.watches (c.in_ok-told.ensures.watched ms g.behind.watched there)
    (subst (λ (x : Move). HoldsMade (items_of rs) (next_objects s p items W ms x) c.take.new.self) (sym q)
    (subst (λ (x : Context). HoldsObjects (items_of rs) (f.made ++ seen_items rs i x) f.marks c.take.new.self) context
    (call ls rs i f.made f.marks known places g.behind.made)))) c.take.ensures

pub returns-in-Leave-clause-scans : goal.returns-in-Leave-clause-scans
returns-in-Leave-clause-scans c = on_both c.leave.result _ _ _ (λ call none s p ms g r of.
    let old = c.args.self.now in
    let ls = plan_leaves p in
    let items = g.items.items in
    let rs = read_items ls items in
    let W = watch_in old.condition in
    let m = move_view c.args.read.now in
    let slots = c.keep.new.self.slots.items in
    let k = c.in-Leave.number in
    let q : m ≡ leave k = ap move_view c.in-Leave.is in
    let same = c.keep.ensures.leave k q in
    let read : after_moves (λ i. None) (ms ++ m ∷ []) ≡ slot_value slots =
    ap (λ (x : Move). after_moves (λ i. None) (ms ++ x ∷ [])) q ∙ after_snoc (λ i. None) ms (leave k) ∙ r.1 ∙ ap slot_value (sym same) in
    let there = read ∙ ap slot_value (sym c.deref.ensures.value) in
    let f = behind_objects s p items W ms in
    let dropped = c.in_ok-told.ensures.dropped ms g.behind.watched there ∙ ap (λ (x : Move). dropped_at W ms x) q in
    let context : slot_value c.deref-in-Leave.result.now ≡ f.context =
    ap slot_value c.deref-in-Leave.ensures.value ∙ (ap slot_value same ∙ (sym r.1 ∙ sym (framed_context (seen_items rs) (left_items rs (levels_of s.fields)) W ms))) in
    let known : AreReadItems ls old.items.now rs = subst (λ (xs : List RecordItem). AreReadItems ls xs rs) (sym g.is_for.items_are) (items_are_read ls items) in
    let level = subst (λ l. IsLevelAt (items_of rs) (levels_of s.fields) k l) (sym c.at.ensures) (g.is_for.levels k) in
    scans_next s p ms m old _ g refl refl refl refl c.step.ensures.watches (c.in_ok-told.ensures.watched ms g.behind.watched there)
    (subst (λ (x : Move). HoldsMade (items_of rs) (next_objects s p items W ms x) c.leave.new.self) (sym q)
    (left_holds (items_of rs) (left_items rs (levels_of s.fields)) k f c.in_ok-told.told.is_dropped _ (slot_value c.deref-in-Leave.result.now) old.frames c.leave.new.self
    (λ made mark marks h. call ls rs (levels_of s.fields) made mark marks known level h) (λ made h. none (items_of rs) made h) dropped context g.behind.made))) c.leave.ensures.left c.leave.ensures.none
