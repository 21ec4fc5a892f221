-- How the column of a leaf is told.
use Rattle.std.specs.Prelude.{ℕ, List, Bool, true, nat_lt, None, replicate}
use Rattle.dr_meaning.specs.Column.{Triplet, triplet}
use Rattle.dr_formats.specs.Lacking.{outline}
use Rattle.dr_file.specs.declared.opened_field.Telling.{Telling}

-- by the column of the leaf that is read: it is that; a NULL for each row; the outline of that
pub data ShownTelling : Type 0 where
  itself : ShownTelling
  nulls : ShownTelling
  outlined : ℕ → ℕ → ShownTelling

abbrev pub telling_view : Telling → ShownTelling
telling_view Telling.Itself = itself
telling_view Telling.Nulls = nulls
telling_view (Telling.Outline l) = outlined l.repetition l.definition

-- whether a NULL that it tells is below this greatest definition level
abbrev pub is_lower : Telling → ℕ → Bool
is_lower Telling.Itself g = true
is_lower Telling.Nulls g = nat_lt 0 g
is_lower (Telling.Outline l) g = nat_lt l.definition g

-- the triplets, by those of the leaf that is read, in so many rows
abbrev pub told : ShownTelling → ℕ → List Triplet → List Triplet
told itself rows ts = ts
told nulls rows ts = replicate rows (triplet 0 0 None)
told (outlined r d) rows ts = outline r d ts
