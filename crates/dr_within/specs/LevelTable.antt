-- The table of a record query's levels by their numbers, as the tree of its objects gives it.
use Rattle.std.specs.Prelude.{ℕ, zero, suc, List, [], ◌∷◌, ◌==◌, if◌then◌else◌, Option, None, Some, option_map, ◌≡◌}
use denote.Ref.{Bor}
use Rattle.dr_meaning.specs.Schema.{Fields}
use Rattle.dr_meaning.specs.Path.{Step}
use Rattle.dr_meaning.specs.Query.{RecordItem, Levels as MeantLevels, levels_of}
use Rattle.dr_kept_laws.specs.ChainNumbers.{chain_numbers}
use Rattle.dr_plan.specs.Objects.{ObjectTree, object_tree, ListTrees, no_lists, list_tree, object_tree_of}
use Rattle.dr_within.specs.ObjectLevels.{IsLevelAt}
use Rattle.dr_within.specs.declared.levels.Level.{Level}
use Rattle.dr_within.specs.declared.levels.Levels.{Levels}

-- ---- rows

-- the places of a level's items, and the numbers of its lists
pub record Row : Type 0 where
  pub places : List ℕ
  pub lists : List ℕ

-- a row for each number, where there is one
abbrev pub Rows : Type 0
Rows = ℕ → Option Row

abbrev pub no_rows : Rows
no_rows = λ k. None

abbrev pub with_row : ℕ → Row → Rows → Rows
with_row k r t = λ j. if k == j then Some r else t j

-- ---- by a tree

-- the last of some numbers, or another one
abbrev pub last_or : ℕ → List ℕ → ℕ
last_or d [] = d
last_or d (k ∷ ks) = last_or k ks

-- the number of a level, by its path
abbrev pub level_number : Fields → List Step → ℕ
level_number fs p = last_or 0 (chain_numbers fs p)

abbrev pub tree_numbers : Fields → ListTrees → List ℕ
tree_numbers fs no_lists = []
tree_numbers fs (list_tree n p o ls) = level_number fs p ∷ tree_numbers fs ls

abbrev mutual
  -- the rows of an object of the level of a number, and of all below, beside others
  pub tree_rows : Fields → ℕ → ObjectTree → Rows → Rows
  tree_rows fs k (object_tree ns ls) t = with_row k (record { places = ns; lists = tree_numbers fs ls }) (list_rows fs ls t)

  pub list_rows : Fields → ListTrees → Rows → Rows
  list_rows fs no_lists t = t
  list_rows fs (list_tree n p o ls) t = list_rows fs ls (tree_rows fs (level_number fs p) o t)

-- ---- in code

-- the level of a number, where there is one
abbrev pub level_in : List (Option Level) → ℕ → Option Level
level_in [] k = None
level_in (l ∷ ls) zero = l
level_in (l ∷ ls) (suc k) = level_in ls k

abbrev pub level_row : Level → Row
level_row l = record { places = l.items.items; lists = l.lists.items }

abbrev pub rows_in : List (Option Level) → Rows
rows_in ls = λ k. option_map level_row (level_in ls k)

-- what is lent
abbrev pub lent_level : Option (Bor Level) → Option Level
lent_level l = option_map (λ (b : Bor Level). b.now) l

-- the table has the level of each number
abbrev pub AreLevels : List RecordItem → MeantLevels → Levels → Type 0
AreLevels items ls t = (k : ℕ) → IsLevelAt items ls k (level_in t.rows.items k)

-- it has those of a schema, for a tree of objects by items
abbrev pub HasLevelsOf : Fields → ObjectTree → Levels → Type 0
HasLevelsOf fs tree t = (items : List RecordItem) → tree ≡ object_tree_of fs items → AreLevels items (levels_of fs) t
