-- Partials that are gathered together.
use Rattle.std.specs.Prelude.{◌≡◌, ℕ, ◌+◌, ◌^◌, ◌≤◌, ⊤, true, List, [], ◌∷◌, map, ◌++◌}
use Rattle.std.specs.List.{list_all}
use Rattle.dr_meaning.specs.Schema.{Fields}
use Rattle.dr_meaning.specs.Query.{Query}
use Rattle.dr_partials.specs.Partials as meant
use Rattle.dr_partials.specs.Trees as trees
use Rattle.dr_partials.specs.Trees.{gathered_behind, tablets_of, tablets_of_all}
use Rattle.dr_partials.specs.PartialTypes.{is_partial}
use Rattle.dr_partials.specs.PartialBounds.{PartialCanBeOf}
use Rattle.dr_plan.specs.Planned.{Planned}
use Rattle.dr_group.specs.Partials.{partial_view, IsPartialOf}
use Rattle.dr_group.specs.declared.partial.Partial.{Partial}
use Rattle.dr_tree.specs.Views.{tree_view, trees_view}
use Rattle.dr_tree.specs.declared.tree.Tree.{Tree}

abbrev pub partials_view : List Partial → List meant.Partial
partials_view ps = map partial_view ps

-- each of them is a partial of the plan
abbrev pub AreOfPlan : Planned → List Partial → Type 0
AreOfPlan p [] = ⊤
AreOfPlan p (r ∷ rs) = IsPartialOf p r × AreOfPlan p rs

-- they can be of so many values together: the first of some, the others of the rest
abbrev pub CanBeTogether : ℕ → List meant.Partial → Type 0
CanBeTogether n [] = ⊤
CanBeTogether n (p ∷ ps) = (m : ℕ) × (k : ℕ) × (m + k ≤ n) × PartialCanBeOf m p × CanBeTogether k ps

-- partials of one query, which can be of so many values together
pub record AreBounded (fs : Fields) (q : Query) (most : ℕ) (ps : List meant.Partial) : Type 0 where
  pub partials : list_all (is_partial fs q) ps ≡ true
  pub bounded : CanBeTogether most ps

-- they can be merged, all together
pub record Together (ps : List Partial) : Type 0 where
  pub plan : Planned
  pub of_plan : AreOfPlan plan ps
  pub fields : Fields
  pub query : Query
  pub most : ℕ
  pub bounds : AreBounded fields query most (partials_view ps)
  pub room : most ≤ 2 ^ 60

-- it is a partial of the query, and can be of so many values
abbrev pub IsBounded : Fields → Query → ℕ → meant.Partial → Type 0
IsBounded fs q n p = (is_partial fs q p ≡ true) × PartialCanBeOf n p

-- what is gathered of partials, where these tablets have them, in order: what is meant of each tablet's; a partial of their plan, and of as many values as
-- they together
pub record IsGathered (tablets : List ℕ) (gathers : (ℕ → meant.Partial) → meant.Partial) (ps : List Partial) (r : Partial) : Type 0 where
  pub gathered : (piece : ℕ → meant.Partial) → map piece tablets ≡ partials_view ps → partial_view r ≡ gathers piece
  pub of_plan : (p : Planned) → AreOfPlan p ps → IsPartialOf p r
  pub bounded : (fs : Fields) (q : Query) (most : ℕ) → AreBounded fs q most (partials_view ps) → IsBounded fs q most (partial_view r)

-- two partials of one plan, merged
pub record IsMerged (a b r : Partial) : Type 0 where
  pub partial : partial_view r ≡ meant.merge (partial_view a) (partial_view b)
  pub of_plan : (p : Planned) → IsPartialOf p a → IsPartialOf p r

-- the tablets of a child and of further ones, and what they gather
abbrev pub tablets_under : Tree → List Tree → List ℕ
tablets_under first rest = tablets_of (tree_view first) ++ tablets_of_all (trees_view rest)

abbrev pub gathered_under : Tree → List Tree → (ℕ → meant.Partial) → meant.Partial
gathered_under first rest piece = gathered_behind piece (trees.gathered piece (tree_view first)) (trees_view rest)

-- with a last child behind them
abbrev pub tablets_with : Tree → List Tree → Tree → List ℕ
tablets_with first front last = tablets_under first front ++ tablets_of (tree_view last)

abbrev pub gathered_with : Tree → List Tree → Tree → (ℕ → meant.Partial) → meant.Partial
gathered_with first front last piece = meant.merge (gathered_under first front piece) (trees.gathered piece (tree_view last))
