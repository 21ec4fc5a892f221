use Rattle.std.proofs.Common.{◌≡◌, [], drop}
use Rattle.dr_nested.specs.PathView.{paths_view}
use Rattle.dr_rows_beside.specs.Sources.{all_beside}
use Rattle.dr_rows_beside.proofs.source.Source.new.Given as goal

-- with those from this one on they are all
abbrev pub invariant-read : goal.invariant-read
invariant-read l = all_beside (paths_view l.leaves) l.last l.beside.items (drop l.leaf-index l.read) ≡ all_beside (paths_view l.leaves) l.last [] l.read
