-- How far the triplets of some rows have come.
use Rattle.std.specs.Prelude.{◌≡◌, ℕ, ◌+◌, List, [], ◌∷◌, Bool, true, ◌&&◌, ◌==◌, Option, Some, None}
use Rattle.dr_meaning.specs.Path.{Step}
use Rattle.dr_meaning.specs.Column.{Triplet, triplet}
use Rattle.dr_meaning.specs.OneColumn.{starts, all_follow, is_in_order}
use Rattle.dr_file.specs.declared.row_order.RowOrder.{RowOrder}

-- the definition level of the last of triplets, behind one of this level
abbrev pub last_from : ℕ → List Triplet → ℕ
last_from d [] = d
last_from d (t ∷ ts) = last_from t.definition ts

-- the definition level of the last of triplets
abbrev pub last_level : List Triplet → Option ℕ
last_level [] = None
last_level (t ∷ ts) = Some (last_from t.definition ts)

-- whether triplets stand where they may, and are those of so many rows
abbrev pub are_rows : List Step → ℕ → List Triplet → Bool
are_rows p rows ts = is_in_order p ts && (starts ts == rows)

-- these triplets came, each where it may stand
pub record IsOrder (p : List Step) (rows : ℕ) (ts : List Triplet) (o : RowOrder) : Type 0 where
  pub order : is_in_order p ts ≡ true
  pub begun : starts ts + o.rows ≡ rows
  pub last : o.last ≡ last_level ts

-- whether triplets stand where they may behind those whose last has this definition level
abbrev pub go_behind : List Step → Option ℕ → List Triplet → Bool
go_behind p None us = is_in_order p us
go_behind p (Some d) us = all_follow p (triplet 0 d None) us
