use Rattle.std.proofs.Common.{◌≡◌, ◌∙◌, ◌+◌, ◌*◌, ℕ, ◌∷◌, ◌++◌, [], ap, ap₂, sym, arith, Option, map, length}
use Rattle.std.specs.Prelude.{option_map}
use Rattle.std.proofs.lemmas.List.{map_push, length-map, length-append, length_push}
use Rattle.dr_meaning.specs.Record.{Value}
use Rattle.dr_cells.specs.Results.{value_cell}
use Rattle.dr_cells.specs.Views.{cells_view}
use Rattle.dr_levels.specs.Views.{lent_value}
use Rattle.dr_partials.specs.Putting.{Taken}
use Rattle.dr_scalar.specs.Slots.{slot_value}
use Rattle.dr_within.specs.Takings.{taking_view, taken_with, value_read, aggregate_for}
use Rattle.dr_within.specs.Late.{cell_value, cell_values, all_taken, late_puts}
use Rattle.dr_within.proofs.LateLemmas.{puts_push, whole_push, taken_push, taken_same, taken_count}
use Rattle.dr_within.proofs.late.LateRows.push.Goals as goal

pub returns-clause-row : goal.returns-clause-row
returns-clause-row c =
    let r = c.args.self.now in
    let t = taking_view c.args.taking in
    let read = slot_value c.args.slots.now in
    let os = r.aggregates.items in
    let V = cell_values (cells_view r.taken) in
    let v = value_read t read in
    let value : cell_values (cells_view c.push.new.self) ≡ V ++ v ∷ [] =
    ap cell_values c.in_ok-push.ensures ∙ (map_push cell_value (cells_view r.taken) (value_cell (option_map lent_value c.lent.result))
    ∙ ap (λ (x : Option Value). V ++ x ∷ []) (c.lent.ensures ∙ c.in_ok-value.ensures)) in
    let number = c.in_ok-push-2.ensures.items ∙ ap (λ (o : Option ℕ). os ++ o ∷ []) c.aggregate_of.ensures in
    λ h e.
    ap₂ (late_puts r.width) c.in_ok-push_own_key.ensures
    (ap₂ all_taken number value ∙ (taken_push os (aggregate_for t) V v (length-map (cells_view r.taken) cell_value ∙ h.1)
    ∙ ap (λ (x : Option Taken). all_taken os V ++ x ∷ []) (taken_same t v)))
    ∙ puts_push r.width (cell_values (cells_view r.cells)) (map read c.args.keys.now) (all_taken os V) (taken_with t v)
    (length-map (cells_view r.cells) cell_value ∙ (h.0 ∙ ap (λ (x : ℕ). x * r.width) (sym (taken_count os V))))
    (length-map c.args.keys.now read ∙ sym e)

pub returns-clause-whole : goal.returns-clause-whole
returns-clause-whole c =
    let r = c.args.self.now in
    let read = slot_value c.args.slots.now in
    let old = cell_values (cells_view r.cells) in
    λ h e.
    let n : length (cell_values (cells_view c.push_own_key.new.cells)) ≡ length (old ++ map read c.args.keys.now) = ap length c.in_ok-push_own_key.ensures in
    let a : length (cells_view c.push_own_key.new.cells) ≡ length (cells_view r.cells) + r.width =
    omega (
      arith,
      n,
      length-map (cells_view c.push_own_key.new.cells) cell_value,
      length-append old (map read c.args.keys.now),
      length-map (cells_view r.cells) cell_value,
      length-map c.args.keys.now read,
      e,
    ) in
    let b : length c.push-2.new.self.items ≡ length r.aggregates.items + 1 =
    ap length c.in_ok-push-2.ensures.items ∙ length_push r.aggregates.items c.aggregate_of.result in
    let d : length (cells_view c.push.new.self) ≡ length (cells_view r.taken) + 1 =
    ap length c.in_ok-push.ensures ∙ length_push (cells_view r.taken) (value_cell (option_map lent_value c.lent.result)) in (
      whole_push (length (cells_view r.cells)) (length (cells_view c.push_own_key.new.cells)) (length r.aggregates.items) (length c.push-2.new.self.items) r.width h.0 a b,
      omega (arith, b, d, h.1),
    )
