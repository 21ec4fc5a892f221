use Rattle.std.proofs.Common.{◌≡◌, ◌-◌, map, length}
use Rattle.dr_nested.specs.Views.{fields_view, node_view}
use Rattle.dr_assemble.specs.Restoring as restoring
use Rattle.dr_assemble.specs.Views.{strips_view}
use Rattle.dr_assemble.proofs.LoopLemmas.{behind}
use Rattle.dr_assemble.proofs.assembling.restore_rows.Given as goal

-- the records from this one on are still to be restored of what the earlier ones left
abbrev pub invariant-rows : goal.invariant-rows
invariant-rows l =
    let f = restoring.assembled (fields_view l.fields.items) 0 0 0 in
    record {
      lengths : length l.first.items ≡ length l.left.items;
      so_far : restoring.restored_each f 0 l.rows (strips_view l.strips) ≡ behind (map node_view l.nodes.items) (restoring.restored_each f 0 (l.rows - l.done) (strips_view l.left.items));
    }
