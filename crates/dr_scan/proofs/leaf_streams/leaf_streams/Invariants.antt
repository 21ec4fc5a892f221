use Rattle.std.proofs.Common.{◌≡◌, ℕ, List, length, Some, []}
use Rattle.std.specs.Prelude.{Option}
use Rattle.std.specs.List.{slice_get}
use Rattle.dr_meaning.specs.Path.{Leaf}
use Rattle.dr_levels.specs.Views.{column_view}
use Rattle.dr_outside.specs.Link.{Files}
use Rattle.dr_scan.specs.Streamed.{IsLeafStream}
use Rattle.dr_scan.specs.declared.leaf_stream.LeafStream.{LeafStream}
use Rattle.dr_scan.proofs.leaf_streams.leaf_streams.Given as goal

-- those so far are before their first triplets
abbrev pub invariant-leaves : goal.invariant-leaves
invariant-leaves l = record {
  as_many : length l.streams.items ≡ l.index;
  each : (i : ℕ) (x : LeafStream) → slice_get l.streams.items i ≡ Some x → (held : Option Files) (F : List Leaf) (m : Leaf) → slice_get F i ≡ Some m → IsLeafStream held l.file F m [] x;
  none : (i : ℕ) (x : LeafStream) → slice_get l.streams.items i ≡ Some x → column_view x.batch ≡ [];
}
