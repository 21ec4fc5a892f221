use Rattle.std.proofs.Common.{◌≡◌, ◌<◌, ℕ, List, map, true}
use Rattle.std.specs.Prelude.{Some}
use Rattle.std.specs.List.{slice_get}
use Rattle.dr_meaning.specs.Path.{Leaf}
use Rattle.dr_meaning.specs.OneColumn.{is_column}
use Rattle.dr_levels.specs.Views.{triplets_view}
use Rattle.dr_beside.specs.Neighbours.{column_at}
use Rattle.dr_agreement.specs.Alone.{AreTestsOf}
use Rattle.dr_agreement.proofs.alone.each_alone.Given as goal

-- those before this one are columns
abbrev pub invariant-tests : goal.invariant-tests
invariant-tests v = (L : List Leaf) → AreTestsOf L v.tests → (i : ℕ) (l : Leaf) → i < v.at → slice_get L i ≡ Some l → is_column l v.records (column_at (map triplets_view v.columns) i) ≡ true
