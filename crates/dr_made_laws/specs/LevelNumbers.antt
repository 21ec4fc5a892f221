-- The numbers of levels are those by which moves name the repeated fields.
use Rattle.std.specs.Prelude.{◌≡◌, ℕ, suc, option_map}
use Rattle.dr_meaning.specs.Schema.{Fields}
use Rattle.dr_meaning.specs.Query.{levels_of}
use Rattle.dr_kept_laws.specs.ChainNumbers.{numbered_path}
use Rattle.dr_made_laws.specs.ObjectFlow.{Level, level_from}

-- the level with a number is that of the repeated field with this number, and there is one exactly where there is such a field
abbrev pub LevelsAreNumbered : Type 0
LevelsAreNumbered = (fs : Fields) (k : ℕ) → option_map (λ (l : Level). l.path) (level_from 1 (levels_of fs) (suc k)) ≡ numbered_path fs (suc k)
