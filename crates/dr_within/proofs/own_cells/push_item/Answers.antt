use Rattle.std.proofs.Common.{◌++◌, List, length, Option, refl, sym, ap, ◌∙◌, append-nil}
use Rattle.std.proofs.lemmas.Option.{slice_get_read, slice_get_past}
use Rattle.dr_cells.specs.Results.{ResultCell}
use Rattle.dr_cells.specs.Views.{cells_view}
use Rattle.dr_made_laws.specs.ObjectFlow.{ReadItem, items_of}
use Rattle.dr_scalar.specs.Slots.{slot_value}
use Rattle.dr_within.specs.OwnCells.{cells_of_item}
use Rattle.dr_within.proofs.FramingLemmas.{on_ok}
use Rattle.dr_within.proofs.ItemLemmas.{read_at, none_at, within_aggregate}
use Rattle.dr_within.proofs.ItemCells.{value_item, within_item}
use Rattle.dr_within.proofs.own_cells.push_item.Goals as goal

pub returns-in_default : goal.returns-in_default
returns-in_default c = λ ls rs made h v.
    let before = cells_view c.args.cells.now in
    let none = none_at ls c.args.items.now rs c.args.item h (slice_get_past c.args.items.now c.args.item c.in_default.ensures.lookup.3) in
    sym (append-nil before) ∙ ap (λ (o : Option ReadItem). before ++ cells_of_item (slot_value c.args.slots.now) made c.args.item o) (sym none)

pub returns-in-Value : goal.returns-in-Value
returns-in-Value c = on_ok c.push_value.result _ _ (λ call ls rs made h v.
    let is = c.args.items.now in
    let j = c.args.item in
    let x = c.in-Some.found.now in
    let l = c.in-Some.ensures.lookup in
    let r = read_at ls is rs j x h (slice_get_read is (length is) j x refl l.3.0 l.1) in
    call ∙ ap (λ (cs : List ResultCell). cells_view c.args.cells.now ++ cs) (sym (value_item ls x rs (slot_value c.args.slots.now) made j _ r c.in-Value.is))) c.push_value.ensures

pub returns-in_ok-gathered-in-Within : goal.returns-in_ok-gathered-in-Within
returns-in_ok-gathered-in-Within c = on_ok c.push_gathered.result _ _ (λ call ls rs made h v.
    let is = c.args.items.now in
    let j = c.args.item in
    let x = c.in-Some.found.now in
    let l = c.in-Some.ensures.lookup in
    let r = read_at ls is rs j x h (slice_get_read is (length is) j x refl l.3.0 l.1) in
    let gathered = c.in_ok-gathered-in-Within.ensures (items_of rs) made v (within_aggregate ls x rs j _ r c.in-Within.is) in
    call ∙ ap (λ (cs : List ResultCell). cells_view c.args.cells.now ++ cs) (sym (within_item ls x rs (slot_value c.args.slots.now) made j _ _ r c.in-Within.is gathered))) c.push_gathered.ensures
