-- Laws of rows.
use Rattle.std.specs.Prelude.{◌≡◌, List, true, is_some}
use Rattle.std.specs.List.{list_all}
use Rattle.dr_meaning.specs.Path.{Step, same_path}
use Rattle.dr_meaning.specs.Record.{Node, inner}
use Rattle.dr_meaning.specs.Rows.{rows, is_present}
use Rattle.dr_rows.specs.Known.{known, end_in, is_cut}

-- each row of a chain is cut along it
abbrev pub RowsAreCut : Type 0
RowsAreCut = (p : List Step) (n : Node) → list_all (is_cut p) (rows p n) ≡ true

-- a chain's end is present in a row where an instance stands at it
abbrev pub PresentHasEnd : Type 0
PresentHasEnd = (p : List Step) (row : Node) → is_present p row ≡ is_some (end_in p (inner row))

-- a path that goes through the same places has the same rows, of which the same is known
abbrev pub PlacesTell : Type 0
PlacesTell = (ps : List (List Step)) (p q : List Step) (n : Node) → same_path p q ≡ true
    → (rows p n ≡ rows q n) × (known ps p n ≡ known ps q n) × (is_cut p n ≡ is_cut q n)
