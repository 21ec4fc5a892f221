use Rattle.std.proofs.Common.{◌≡◌, length, rules, map}
use Rattle.dr_levels.specs.Columns.{Adds}
use Rattle.dr_cells.specs.Held.{moved_cell}
use Rattle.dr_cells.proofs.CellLemmas.{all_after, seen_after}
use Rattle.dr_cells.proofs.cells.Cells.append.Goals as goal

pub invariant_of-self-2 : goal.invariant_of-self-2
invariant_of-self-2 c =
    let s = c.args.self.now in
    let m = c.args.more.now in
    let b : c.in-Ok.behind ≡ length s.bytes.items = search rules in
    let p : Adds s.cells.items c.push_moved.new.cells.items (map (moved_cell (length s.bytes.items)) m.cells.items) c.push_moved.result = search rules in
    record { texts = all_after c.push_moved.result s.bytes.items m.bytes.items c.extend_from_slice.new.self.items s.cells.items m.cells.items c.push_moved.new.cells.items p (search rules) s.texts m.texts }

pub returns : goal.returns
returns c =
    let s = c.args.self.now in
    let m = c.args.more.now in
    let b : c.in-Ok.behind ≡ length s.bytes.items = search rules in
    let p : Adds s.cells.items c.push_moved.new.cells.items (map (moved_cell (length s.bytes.items)) m.cells.items) c.push_moved.result = search rules in
    seen_after c.push_moved.result s.bytes.items m.bytes.items c.extend_from_slice.new.self.items s.cells.items m.cells.items c.push_moved.new.cells.items p (search rules) s.texts
