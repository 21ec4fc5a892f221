use Rattle.std.proofs.Common.{◌≡◌, ℕ, List, length, Some, []}
use Rattle.std.specs.Prelude.{Option}
use Rattle.std.specs.List.{slice_get}
use Rattle.dr_meaning.specs.Path.{Leaf}
use Rattle.dr_outside.specs.Link.{Files}
use Rattle.dr_dump.specs.Leaves.{rest_of, IsLeafRecords}
use Rattle.dr_dump.specs.declared.leaf_records.LeafRecords.{LeafRecords}
use Rattle.dr_dump.proofs.slices.leaf_records.Given as goal

-- those so far are before their first triplets
abbrev pub invariant-leaves : goal.invariant-leaves
invariant-leaves l = record {
  as_many : length l.records.items ≡ l.index;
  each : (i : ℕ) (x : LeafRecords) → slice_get l.records.items i ≡ Some x → (held : Option Files) (F : List Leaf) (m : Leaf) → slice_get F i ≡ Some m → IsLeafRecords held l.file F m [] x;
  none : (i : ℕ) (x : LeafRecords) → slice_get l.records.items i ≡ Some x → rest_of x ≡ [];
}
