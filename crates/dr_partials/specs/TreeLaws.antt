-- Laws of serving trees.
use Rattle.std.specs.Prelude.{◌≡◌, ℕ, ◌*◌, ◌≤◌, true, List, [], ◌∷◌, length}
use Rattle.std.specs.List.{list_all, flat_map, range_with_len}
use Rattle.dr_meaning.specs.Schema.{Fields}
use Rattle.dr_meaning.specs.Record.{Node, is_record}
use Rattle.dr_meaning.specs.Query.{Query, meaning}
use Rattle.dr_partials.specs.Partials.{Partial, Stands, finished}
use Rattle.dr_partials.specs.PartialTypes.{is_partial}
use Rattle.dr_partials.specs.PartialBounds.{PartialCanBeOf}
use Rattle.dr_partials.specs.PartialLaws.{is_mergeable}
use Rattle.dr_partials.specs.Trees.{Tree, tablets_of, gathered, of_fan, children_at_most}

-- the records of tablets, in order
abbrev pub records_of : (ℕ → List Node) → List ℕ → List Node
records_of R tablets = flat_map R tablets

-- for each of these tablets the piece stands for its records, which are records of the schema
abbrev pub StandsForEach : Fields → Query → (ℕ → List Node) → (ℕ → Partial) → List ℕ → Type 0
StandsForEach fs q R piece [] = Unit {0}
StandsForEach fs q R piece (t ∷ ts) = (list_all (is_record fs) (R t) ≡ true) × Stands fs q (R t) (piece t) × StandsForEach fs q R piece ts

-- whatever the tree, what it gathers of pieces that stand for their tablets' records stands for the records of all its tablets, in order
abbrev pub GatheredStands : Type 0
GatheredStands = (fs : Fields) (q : Query) (R : ℕ → List Node) (piece : ℕ → Partial) (tree : Tree) → is_mergeable fs q ≡ true
    → StandsForEach fs q R piece (tablets_of tree) → Stands fs q (records_of R (tablets_of tree)) (gathered piece tree)

-- and, finished, it is what the query means on these
abbrev pub GatheredMeansQuery : Type 0
GatheredMeansQuery = (fs : Fields) (q : Query) (R : ℕ → List Node) (piece : ℕ → Partial) (tree : Tree) → is_mergeable fs q ≡ true
    → StandsForEach fs q R piece (tablets_of tree) → finished q (gathered piece tree) ≡ meaning fs q (records_of R (tablets_of tree))

-- of pieces that are partials of the query it gathers one
abbrev pub AreAllPartials : Fields → Query → (ℕ → Partial) → List ℕ → Type 0
AreAllPartials fs q piece [] = Unit {0}
AreAllPartials fs q piece (t ∷ ts) = (is_partial fs q (piece t) ≡ true) × AreAllPartials fs q piece ts

abbrev pub GatheredIsPartial : Type 0
GatheredIsPartial = (fs : Fields) (q : Query) (piece : ℕ → Partial) (tree : Tree) → AreAllPartials fs q piece (tablets_of tree)
    → is_partial fs q (gathered piece tree) ≡ true

-- of pieces each of which can be of m values it gathers what can be of m for each tablet
abbrev pub CanAllBeOf : ℕ → (ℕ → Partial) → List ℕ → Type 0
CanAllBeOf m piece [] = Unit {0}
CanAllBeOf m piece (t ∷ ts) = PartialCanBeOf m (piece t) × CanAllBeOf m piece ts

abbrev pub GatheredIsBounded : Type 0
GatheredIsBounded = (fs : Fields) (q : Query) (m : ℕ) (piece : ℕ → Partial) (tree : Tree) → AreAllPartials fs q piece (tablets_of tree)
    → CanAllBeOf m piece (tablets_of tree) → PartialCanBeOf (length (tablets_of tree) * m) (gathered piece tree)

-- and two trees with the same tablets, in one order, gather the same
abbrev pub TreesGatherAlike : Type 0
TreesGatherAlike = (fs : Fields) (q : Query) (piece : ℕ → Partial) (a b : Tree) → AreAllPartials fs q piece (tablets_of a) → tablets_of a ≡ tablets_of b
    → gathered piece a ≡ gathered piece b

-- the tree of n tablets has the tablets 0 to n - 1, in order
abbrev pub FanHasAllTablets : Type 0
FanHasAllTablets = (n fan : ℕ) → 1 ≤ n → tablets_of (of_fan n fan) ≡ range_with_len 0 n

-- and no server has more than `fan` children
abbrev pub FanIsKept : Type 0
FanIsKept = (n fan : ℕ) → 1 ≤ n → 2 ≤ fan → children_at_most fan (of_fan n fan) ≡ true
