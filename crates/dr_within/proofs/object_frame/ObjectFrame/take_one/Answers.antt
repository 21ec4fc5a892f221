use Rattle.std.proofs.Common.{◌++◌, ◌∷◌, [], List, length, Option, Some, None, refl, sym, ap, subst, ◌∙◌}
use Rattle.std.specs.Prelude.{option_map}
use Rattle.std.proofs.lemmas.Option.{slice_get_read, slice_get_past}
use Rattle.dr_meaning.specs.Record.{Value}
use Rattle.dr_levels.specs.Views.{lent_value}
use Rattle.dr_made_laws.specs.ObjectFlow.{Made, taken, items_of}
use Rattle.dr_scalar.specs.Slots.{slot_value}
use Rattle.dr_scalar.specs.Views.{evaluated_view}
use Rattle.dr_within.specs.ObjectFraming.{HoldsFrame}
use Rattle.dr_within.specs.declared.object_frame.ObjectFrame.{ObjectFrame}
use Rattle.dr_within.proofs.FramingLemmas.{on_ok}
use Rattle.dr_within.proofs.ItemLemmas.{read_at, none_at, within_aggregate, taken_none, taken_value, taken_within}
use Rattle.dr_within.proofs.ObjectFrameLemmas.{frame_same, frame_taken, value_taken, null_taken}
use Rattle.dr_within.proofs.object_frame.ObjectFrame.take_one.Goals as goal

pub returns-in_default : goal.returns-in_default
returns-in_default c = λ ls rs made r h.
    let is = c.args.items.now in
    let j = c.args.place in
    frame_same (items_of rs) made _ c.args.self.now h (taken_none rs (slot_value c.args.slots.now) j (none_at ls is rs j r (slice_get_past is j c.in_default.ensures.lookup.3)))

pub returns-in-Value : goal.returns-in-Value
returns-in-Value c = λ ls rs made r h.
    let is = c.args.items.now in
    let j = c.args.place in
    let x = c.in-Some.item.now in
    let l = c.in-Some.ensures.lookup in
    let a = read_at ls is rs j x r (slice_get_read is (length is) j x refl l.3.0 l.1) in
    frame_same (items_of rs) made _ c.args.self.now h (taken_value ls x rs (slot_value c.args.slots.now) j _ a c.in-Value.is)

pub returns-in-Some-2 : goal.returns-in-Some-2
returns-in-Some-2 c = on_ok c.take.result _ _ (λ call ls rs made r h.
    let is = c.args.items.now in
    let j = c.args.place in
    let ctx = slot_value c.args.slots.now in
    let x = c.in-Some.item.now in
    let l = c.in-Some.ensures.lookup in
    let a = read_at ls is rs j x r (slice_get_read is (length is) j x refl l.3.0 l.1) in
    let fold = within_aggregate ls x rs j _ a c.in-Within.is in
    let v = lent_value c.lend.result in
    let f = c.args.self.now in
    let g : ObjectFrame = record { built = f.built; values = c.take.new.self } in
    let value = sym c.in_ok-value-in-Within.ensures.slots ∙ ap (option_map evaluated_view) c.in-Some-2.is ∙ ap (λ (y : Value). Some y) (sym c.lend.ensures) in
    subst (λ (ms : List Made). HoldsFrame (items_of rs) (made ++ ms) g) (sym (taken_within ls x rs ctx j _ a c.in-Within.is ∙ ap (λ (o : Option Value). taken j o ∷ []) value))
    (frame_taken (items_of rs) made j (Some v) f g h refl (value_taken (items_of rs) made f.values g.values j _ v h.values fold (call (items_of rs) fold h.values.typed)))) c.take.ensures

pub returns-in-None : goal.returns-in-None
returns-in-None c = λ ls rs made r h.
    let is = c.args.items.now in
    let j = c.args.place in
    let ctx = slot_value c.args.slots.now in
    let x = c.in-Some.item.now in
    let l = c.in-Some.ensures.lookup in
    let a = read_at ls is rs j x r (slice_get_read is (length is) j x refl l.3.0 l.1) in
    let f = c.args.self.now in
    let value = sym c.in_ok-value-in-Within.ensures.slots ∙ ap (option_map evaluated_view) c.in-None.is in
    subst (λ (ms : List Made). HoldsFrame (items_of rs) (made ++ ms) f) (sym (taken_within ls x rs ctx j _ a c.in-Within.is ∙ ap (λ (o : Option Value). taken j o ∷ []) value))
    (frame_taken (items_of rs) made j None f f h refl (null_taken (items_of rs) made f.values j h.values))
