use Rattle.std.proofs.Common.{◌≡◌, ◌∙◌, ◌^◌, ◌-◌, ◌*◌, ap, ap₂, sym, arith, ℕ, take, length}
use Rattle.std.specs.Prelude.{min}
use Rattle.std.proofs.lemmas.List.{take-map, length-take, length-map}
use Rattle.dr_cells.specs.Held.{cell_view}
use Rattle.dr_cells.specs.Views.{cells_view}
use Rattle.dr_within.specs.Late.{cell_value, cell_values, all_taken, late_puts, rows_of}
use Rattle.dr_within.specs.declared.late.LateRows.{LateRows}
use Rattle.dr_within.proofs.LateLemmas.{puts_cut, taken_cut, whole_cut, take_within}
use Rattle.dr_within.proofs.late.LateRows.truncate.Goals as goal

-- a bound of 64 bits cuts nothing
cells_cut : (r : LateRows) (k : ℕ) → take (min k (2 ^ 64 - 1)) (cells_view r.cells) ≡ take k (cells_view r.cells)
cells_cut r k =
    let n = length-map r.cells.cells.items (cell_view r.cells.bytes.items) in
    take_within k (2 ^ 64 - 1) (cells_view r.cells) (omega (arith, n, r.cells.cells.ok.0, r.cells.cells.small))

pub returns-then-rows-eq0-clause-rows : goal.returns-then-rows-eq0-clause-rows
returns-then-rows-eq0-clause-rows c = λ h. c.clear.ensures.none ∙ sym (ap (λ (k : ℕ). take k (rows_of c.args.self.now)) c.if-rows-eq0.true)

pub returns-clause-rows : goal.returns-clause-rows
returns-clause-rows c =
    let r = c.args.self.now in
    let k = c.args.rows * r.width in
    let cut : cells_view c.truncate.new.self ≡ take k (cells_view r.cells) =
    c.truncate.ensures ∙ (ap (λ (i : ℕ). take i (cells_view r.cells)) c.saturating_mul.ensures ∙ cells_cut r k) in
    λ h. ap₂ (late_puts r.width) (ap cell_values cut ∙ sym (take-map cell_value k (cells_view r.cells)))
    (ap₂ all_taken c.truncate-2.ensures.items (ap cell_values c.truncate-3.ensures ∙ sym (take-map cell_value c.args.rows (cells_view r.taken)))
    ∙ taken_cut c.args.rows r.aggregates.items (cell_values (cells_view r.taken)))
    ∙ puts_cut r.width c.args.rows (cell_values (cells_view r.cells)) (all_taken r.aggregates.items (cell_values (cells_view r.taken)))

pub returns-clause-whole : goal.returns-clause-whole
returns-clause-whole c =
    let r = c.args.self.now in
    let k = c.args.rows * r.width in
    let cut : cells_view c.truncate.new.self ≡ take k (cells_view r.cells) =
    c.truncate.ensures ∙ (ap (λ (i : ℕ). take i (cells_view r.cells)) c.saturating_mul.ensures ∙ cells_cut r k) in
    let n = ap length c.truncate-2.ensures.items ∙ length-take c.args.rows r.aggregates.items in
    let m = ap length c.truncate-3.ensures ∙ length-take c.args.rows (cells_view r.taken) in
    λ h. (
      ap length cut ∙ (length-take k (cells_view r.cells) ∙ (whole_cut (length (cells_view r.cells)) (length r.aggregates.items) r.width c.args.rows h.0
          ∙ ap (λ (i : ℕ). i * r.width) (sym n))),
      m ∙ (ap (min c.args.rows) h.1 ∙ sym n),
    )
