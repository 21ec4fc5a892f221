use Rattle.std.proofs.Common.{◌∙◌, [], map, ap}
use Rattle.dr_levels.specs.Views.{columns_view, triplets_view}
use Rattle.dr_moves.specs.Leading.{columns_of}
use Rattle.dr_walk.specs.Checking.{rest_at}
use Rattle.dr_scan.proofs.WholeLemmas.{scanned_whole, ends_whole}
use Rattle.dr_scan.proofs.of_columns.make_whole.Goals as goal

pub make_stretch-requires : goal.make_stretch-requires
make_stretch-requires c =
    let cs = columns_view c.args.columns.now in
    let r = c.requires in
    let given = ap (map triplets_view) c.as_mut_slice-rests.ensures.value ∙ c.in_ok-held.ensures in
    (r.0, r.1, r.2, columns_of cs, [], r.3.planned, scanned_whole r.0 r.1 r.2 c.args.walk.now cs c.args.making.now c.args.none.now c.deref.result.now c.as_mut_slice-rests.result.now c.in_ok-row.row r.3 given c.in_ok-row.ensures)

pub returns : goal.returns
returns c = λ s p rows h.
    let cs = columns_view c.args.columns.now in
    let given = ap (map triplets_view) c.as_mut_slice-rests.ensures.value ∙ c.in_ok-held.ensures in
    ends_whole s p rows cs c.deref.result.now c.make_stretch.new.walk (rest_at c.make_stretch.new.rests) c.make_stretch.new.making c.make_stretch.new.row c.make_stretch.result
    (c.make_stretch.ensures.ends s p rows (columns_of cs) [] h.planned
    (scanned_whole s p rows c.args.walk.now cs c.args.making.now c.args.none.now c.deref.result.now c.as_mut_slice-rests.result.now c.in_ok-row.row h given c.in_ok-row.ensures))
