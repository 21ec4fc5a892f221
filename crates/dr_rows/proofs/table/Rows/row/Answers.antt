use Rattle.std.proofs.Common.{◌≡◌, ◌<◌, ◌≤◌, ◌+◌, ◌-◌, ◌*◌, ◌∷◌, ap, ◌∙◌, sym, List, Option, length, take, drop, arith, option_map}
use Rattle.dr_levels.specs.declared.triplet.ValueRef.{ValueRef}
use Rattle.dr_rows.specs.Views.{lent_cells, lent_instance, rows_view}
use Rattle.dr_rows.proofs.TableLemmas.{rows_from-length, row_within, row_there}
use Rattle.dr_rows.proofs.table.Rows.row.Goals as goal

pub overflow_mul-from : goal.overflow_mul-from
overflow_mul-from c =
    let t = c.args.self.now in
    let h : c.args.number < length t.ends.items = omega (arith, c.requires, rows_from-length t.width t.values.items t.ends.items) in
    let k : c.args.number * t.width + t.width ≤ length t.values.items = row_within c.args.number (length t.ends.items) t.width (length t.values.items) h t.even in
    omega (arith, t.values.ok.0)

pub index-end-requires : goal.index-end-requires
index-end-requires c =
    let t = c.args.self.now in
    omega (arith, c.requires, rows_from-length t.width t.values.items t.ends.items, t.ends.ok.0)

pub overflow_add-result : goal.overflow_add-result
overflow_add-result c =
    let t = c.args.self.now in
    let h : c.args.number < length t.ends.items = omega (arith, c.requires, rows_from-length t.width t.values.items t.ends.items) in
    let k : c.args.number * t.width + t.width ≤ length t.values.items = row_within c.args.number (length t.ends.items) t.width (length t.values.items) h t.even in
    omega (arith, t.values.ok.0)

pub offset_bounds-deref-from : goal.offset_bounds-deref-from
offset_bounds-deref-from c =
    let t = c.args.self.now in
    let h : c.args.number < length t.ends.items = omega (arith, c.requires, rows_from-length t.width t.values.items t.ends.items) in
    let k : c.args.number * t.width + t.width ≤ length t.values.items = row_within c.args.number (length t.ends.items) t.width (length t.values.items) h t.even in
    omega (arith, t.values.ok.0, c.deref.type_inv.1, c.deref.ensures.len)

pub slice_bounds-result-end : goal.slice_bounds-result-end
slice_bounds-result-end c =
    let t = c.args.self.now in
    let h : c.args.number < length t.ends.items = omega (arith, c.requires, rows_from-length t.width t.values.items t.ends.items) in
    let k : c.args.number * t.width + t.width ≤ length t.values.items = row_within c.args.number (length t.ends.items) t.width (length t.values.items) h t.even in
    omega (arith, t.values.ok.0, c.deref.type_inv.1, c.deref.ensures.len)

pub returns-clause-row : goal.returns-clause-row
returns-clause-row c =
    let t = c.args.self.now in
    let i = c.args.number in
    let h : i < length t.ends.items = omega (arith, c.requires, rows_from-length t.width t.values.items t.ends.items) in
    let n : i * t.width + t.width - i * t.width ≡ t.width = omega arith in
    row_there t.width t.values.items t.ends.items i c.index-end.result.now h c.index-end.ensures
    ∙ ap (λ (vs : List (Option ValueRef)). record { values = lent_cells vs; end = option_map lent_instance c.index-end.result.now } ∷ drop (i + 1) (rows_view t))
    (ap (λ k. take k (drop (i * t.width) t.values.items)) (sym n) ∙ ap (λ (vs : List (Option ValueRef)). take (i * t.width + t.width - i * t.width) (drop (i * t.width) vs)) (sym c.deref.ensures.value))
