use Rattle.std.specs.Prelude.{replicate, None, vec_len}
use Rattle.std.proofs.lemmas.List.{take_all}
use Rattle.std.proofs.Common.{◌≡◌, ◌<◌, ◌≤◌, ◌∙◌, map, length, ap, arith, get_or}
use Rattle.dr_levels.specs.Views.{triplets_view}
use Rattle.dr_beside.specs.Neighbours.{column_at}
use Rattle.dr_rows_beside.specs.declared.source.Beside.{Beside}
use Rattle.dr_rows_beside.specs.Places.{place_left}
use Rattle.dr_rows_beside.specs.Rows.{picked, source_view, follower_view, slots_view}
use Rattle.dr_rows_beside.proofs.RowLemmas.{source_fed, resized, same_run}
use Rattle.dr_rows_beside.proofs.rows.Rows.kept.Goals as goal

pub new-requires : goal.new-requires
new-requires c =
    let C = map triplets_view c.args.columns.now in
    let d : Beside = record { leaf = 0; depth = 0 } in
    let e : c.deref-other-items.result.now ≡ c.args.source.now.beside.items = c.deref-other-items.ensures.value in
    let k : c.beside.other-index < length c.args.source.now.beside.items = omega (arith, c.beside-test.true, ap length e) in
    omega (arith, source_fed C (column_at C c.args.source.now.leaf) (length c.args.columns.now) c.args.source.now.beside.items c.beside.other-index d k c.requires.fed, ap (λ bs. (get_or bs c.beside.other-index d).leaf) e)

pub returns : goal.returns
returns c =
    let C = map triplets_view c.args.columns.now in
    let e : c.deref-other-items.result.now ≡ c.args.source.now.beside.items = c.deref-other-items.ensures.value in
    let k : length c.args.source.now.beside.items ≤ c.beside.other-index = omega (arith, c.beside-test.false, ap length e) in
    ap (picked c.args.bits.now) (same_run c.new-2.result.leaf c.args.source.now.leaf (map follower_view c.beside.beside.items) (map (source_view C) c.args.source.now.beside.items) (slots_view c.resize.new.self.items) (replicate (length c.args.columns.now) None)
    (place_left c.new-2.result) (column_at C c.args.source.now.leaf)
    c.new-2.ensures.leaf
    (c.beside.invariant ∙ ap (map (source_view C)) (take_all c.beside.other-index c.args.source.now.beside.items k))
    (resized (length c.args.columns.now) (vec_len c.new-slots.result) c.new-slots.result.items c.resize.new.self.items c.in_ok-resize.ensures.items c.new-slots.ensures.items c.new-slots.ensures.len)
    c.new-2.ensures.left)
