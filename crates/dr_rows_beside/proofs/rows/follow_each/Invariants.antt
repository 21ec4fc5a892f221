use Rattle.std.proofs.Common.{◌≡◌, map, take}
use Rattle.dr_rows_beside.specs.Rows.{put_each, follower_view, slots_view}
use Rattle.dr_rows_beside.proofs.RowLemmas.{stepped_to}
use Rattle.dr_rows_beside.proofs.rows.follow_each.Given as goal

-- the leaves before this one are read on
abbrev pub invariant-beside : goal.invariant-beside
invariant-beside l = record {
  places : map follower_view l.beside ≡ stepped_to l.repetition l.other-index (map follower_view l.fn.beside);
  slots : slots_view l.slots ≡ put_each l.repetition (take l.other-index (map follower_view l.fn.beside)) (slots_view l.fn.slots);
}
