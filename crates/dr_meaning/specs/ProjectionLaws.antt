-- What a projection to leaves keeps: the rows and the values along the paths that lead on to these leaves.
use Rattle.std.specs.Prelude.{◌≡◌, List, [], ◌∷◌, map, Bool, true}
use Rattle.std.specs.List.{list_any}
use Rattle.dr_meaning.specs.Path.{Step, begins_with}
use Rattle.dr_meaning.specs.Record.{Node, project}
use Rattle.dr_meaning.specs.Rows.{rows, value_at, is_present}

-- whether a path leads on to one of these leaves: it is the front of the leaf's path; the empty path, the record's, always does
abbrev pub leads : List Step → List (List Step) → Bool
leads [] F = true
leads (s ∷ p) F = list_any (begins_with (s ∷ p)) F

-- the rows of a projection are the projected rows
abbrev pub RowsOfProjection : Type 0
RowsOfProjection = (F : List (List Step)) (p : List Step) (n : Node) → leads p F ≡ true → rows p (project F n) ≡ map (project F) (rows p n)

-- a projection has the values of the record
abbrev pub ValuesOfProjection : Type 0
ValuesOfProjection = (F : List (List Step)) (p : List Step) (n : Node) → leads p F ≡ true → value_at p (project F n) ≡ value_at p n

-- in a projection is present what is present in the record
abbrev pub PresentInProjection : Type 0
PresentInProjection = (F : List (List Step)) (p : List Step) (n : Node) → leads p F ≡ true → is_present p (project F n) ≡ is_present p n
