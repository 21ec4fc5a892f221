use Rattle.std.proofs.Common.{◌≡◌, ◌++◌, ℕ, suc, List, sym, ap, ap₂, ◌∙◌, append_assoc}
use Rattle.dr_cells.specs.Results.{ResultCell}
use Rattle.dr_cells.specs.Views.{cells_view}
use Rattle.dr_made_laws.specs.ObjectFlow.{items_of}
use Rattle.dr_plan.specs.Objects.{places_at}
use Rattle.dr_scalar.specs.Slots.{slot_value}
use Rattle.dr_within.specs.ObjectLevels.{list_numbers}
use Rattle.dr_within.specs.OwnCells.{own_cells, list_counts, list_cells}
use Rattle.dr_within.proofs.FramingLemmas.{on_ok}
use Rattle.dr_within.proofs.ObjectParts.{made_cells}
use Rattle.dr_within.proofs.object_frame.push_object.Goals as goal

pub returns : goal.returns
returns c = on_ok c.push_lists.result _ _ (λ call ls rs made k m r h l.
    let ctx = slot_value c.args.slots.now in
    let before = cells_view c.args.cells.now in
    let own = own_cells rs ctx made (places_at 0 (items_of rs) m.path) in
    let numbers = list_numbers (items_of rs) (suc k) m.below in
    let counts = list_counts made numbers in
    let lists = list_cells made numbers in
    let first : cells_view c.push_own.new.cells ≡ before ++ own = c.in_ok-push_own.ensures ls rs made r h.values ∙ ap (λ (js : List ℕ). before ++ own_cells rs ctx made js) (c.deref.ensures.value ∙ l.places) in
    let second : cells_view c.push_counts.new.cells ≡ (before ++ own) ++ counts = c.in_ok-push_counts.ensures made h.built ∙ ap₂ (λ (x : List ResultCell) (js : List ℕ). x ++ list_counts made js) first (c.deref-2.ensures.value ∙ l.lists) in
    call made h.built ∙ ap₂ (λ (x : List ResultCell) (js : List ℕ). x ++ list_cells made js) second (c.deref-3.ensures.value ∙ l.lists)
    ∙ ap (λ (x : List ResultCell). x ++ lists) (append_assoc before own counts) ∙ append_assoc before (own ++ counts) lists
    ∙ ap (λ (x : List ResultCell). before ++ x) (append_assoc own counts lists ∙ sym (made_cells rs (suc k) m ctx made))) c.push_lists.ensures
