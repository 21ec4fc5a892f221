-- Levels that are read a piece at a time.
use Rattle.std.specs.Prelude.{◌≡◌, ◌⊎◌, ℕ, ◌+◌, List, ◌++◌, length, Option, Some, None, Result, Ok, Err, ⊤}
use Rattle.dr_formats.specs.Page.{level_width, levels}
use Rattle.dr_page.specs.declared.fault.PageFault.{PageFault}
use Rattle.dr_page.specs.declared.part.BodyParts.{BodyParts}
use Rattle.dr_page.specs.declared.level_cursor.LevelCursor.{LevelCursor}
use Rattle.dr_page.specs.declared.level_pairs.LevelPairs.{LevelPairs}
use Rattle.dr_page.specs.Reads.{WhereNone}
use Rattle.dr_page.specs.Parts.{part_in, AreInside}
use Rattle.dr_page.specs.RunReading.{HasRead}

-- the last piece
abbrev pub piece_of : LevelCursor → List ℕ
piece_of c = c.levels.items

-- a cursor that gave these levels of a part
pub record HasLevels (part given : List ℕ) (c : LevelCursor) : Type 0 where
  pub taken : levels c.greatest (length given) part ≡ Some given
  pub runs : (c.greatest ≡ 0 → ⊥) → HasRead (level_width c.greatest) part given c.runs

-- n more of them came, or the part doesn't have so many
abbrev pub TakesLevels : {B : Type 0} → List ℕ → List ℕ → ℕ → ℕ → LevelCursor → Result B PageFault → Type 0
TakesLevels part given n greatest c (Ok u) = HasLevels part (given ++ piece_of c) c
TakesLevels part given n greatest c (Err e) = WhereNone e (levels greatest (length given + n) part)

-- cursors that gave these repetition and definition levels of a body
pub record HavePairs (bytes : List ℕ) (p : BodyParts) (rs ds : List ℕ) (l : LevelPairs) : Type 0 where
  pub repetitions : HasLevels (part_in bytes p.repetitions) rs l.repetitions
  pub definitions : HasLevels (part_in bytes p.definitions) ds l.definitions

-- one of the level parts doesn't have so many
abbrev pub WhereNotBoth : PageFault → Option (List ℕ) → Option (List ℕ) → Type 0
WhereNotBoth PageFault.NoMemory rs ds = ⊤
WhereNotBoth PageFault.BadData rs ds = (rs ≡ None) ⊎ (ds ≡ None)

-- n more of each came, or a part doesn't have so many
abbrev pub TakesPairs : {B : Type 0} → List ℕ → BodyParts → List ℕ → List ℕ → ℕ → ℕ → ℕ → LevelPairs → Result B PageFault → Type 0
TakesPairs bytes p rs ds n r d l (Ok u) = HavePairs bytes p (rs ++ piece_of l.repetitions) (ds ++ piece_of l.definitions) l
TakesPairs bytes p rs ds n r d l (Err e) = WhereNotBoth e (levels r (length rs + n) (part_in bytes p.repetitions)) (levels d (length ds + n) (part_in bytes p.definitions))

-- after whatever pairs came, n more come next; or a part doesn't have so many
abbrev pub TakesNextPairs : {B : Type 0} → List ℕ → BodyParts → ℕ → LevelPairs → LevelPairs → Result B PageFault → Type 0
TakesNextPairs bytes p n l l' result =
    (rs ds : List ℕ) → AreInside bytes p → HavePairs bytes p rs ds l
    → TakesPairs bytes p rs ds n l.repetitions.greatest l.definitions.greatest l' result
