-- The levels of a record query by the numbers of the repeated fields: which items belong to each, and which lists its objects have.
use Rattle.std.specs.Prelude.{◌≡◌, ℕ, zero, suc, ◌+◌, List, [], ◌∷◌, Bool, true, false, Option, None, Some}
use Rattle.dr_meaning.specs.Path.{Step}
use Rattle.dr_meaning.specs.Query.{RecordItem, Levels, no_levels, deeper, leads_to_items}
use Rattle.dr_made_laws.specs.ObjectFlow.{Level as MeantLevel, level_count, level_from}
use Rattle.dr_plan.specs.Objects.{places_at}
use Rattle.dr_within.specs.declared.levels.Level.{Level}

-- the level of a number: that of the record (0), or of a repeated field
abbrev pub level_at : Levels → ℕ → Option MeantLevel
level_at ls zero = Some (record { path = []; below = ls })
level_at ls (suc k) = level_from 1 ls (suc k)

abbrev pub with_number : Bool → ℕ → List ℕ → List ℕ
with_number true k ks = k ∷ ks
with_number false k ks = ks

-- the numbers of those of these levels that lead to items, where the first has the number k
abbrev pub list_numbers : List RecordItem → ℕ → Levels → List ℕ
list_numbers items k no_levels = []
list_numbers items k (deeper names p below beside) = with_number (leads_to_items items p) k (list_numbers items (suc k + level_count below) beside)

-- the places of a level's items, and the numbers of its lists
pub record IsLevel (items : List RecordItem) (k : ℕ) (m : MeantLevel) (l : Level) : Type 0 where
  pub places : l.items.items ≡ places_at 0 items m.path
  pub lists : l.lists.items ≡ list_numbers items (suc k) m.below

-- whether an instance of it is made into an object: a record always is
abbrev pub makes_objects : List RecordItem → ℕ → List Step → Bool
makes_objects items zero p = true
makes_objects items (suc k) p = leads_to_items items p

-- what is known of the level of a number: its items and lists; or no object is made of it, or there is none
abbrev pub IsLevelAt : List RecordItem → Levels → ℕ → Option Level → Type 0
IsLevelAt items ls k (Some l) = (m : MeantLevel) × (level_at ls k ≡ Some m) × (makes_objects items k m.path ≡ true) × IsLevel items k m l
IsLevelAt items ls k None = (m : MeantLevel) → level_at ls k ≡ Some m → makes_objects items k m.path ≡ false
