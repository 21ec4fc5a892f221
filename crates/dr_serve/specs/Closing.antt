-- The closing round: what has grown of the workers' pieces, and what the first link gives of the other tablets.
use Rattle.std.specs.Prelude.{◌≡◌, ℕ, zero, suc, ⊤, true, false, Bool, List, [], ◌∷◌, ◌++◌, map, length, Option, None, Some, option_map, IfSome}
use Rattle.dr_formats.specs.TableFile.{Table}
use Rattle.dr_outside.specs.Link.{LinkShown}
use Rattle.dr_outside.specs.declared.cause.Cause.{Cause}
use Rattle.dr_partials.specs.PartialTypes.{is_partial}
use Rattle.dr_partials.specs.PartialBounds.{PartialCanBeOf}
use Rattle.dr_partials.specs.Trees.{Tree}
use Rattle.dr_group.specs.Partials.{partial_view, IsPartialOf}
use Rattle.dr_group.specs.declared.partial.Partial.{Partial}
use Rattle.dr_plan.specs.Planned.{plan_leaves, plan_view, planned_query}
use Rattle.dr_plan.specs.declared.plan.Plan.{Plan}
use Rattle.dr_reading.specs.Causes.{RisesApart, LeadTo}
use Rattle.dr_reading.specs.Left.{LeftTablet, AreTried, causes_of, causes_met}
use Rattle.dr_reading.specs.InTurn.{TabletRead, read_given, read_left, IsTabletRead, causes_at as read_causes}
use Rattle.dr_reading.specs.Scan.{copies_from}
use Rattle.dr_reading.specs.Truth.{most_values}
use Rattle.dr_table.specs.LeftViews.{all_tried_view}
use Rattle.dr_scan.specs.declared.tablet.Scanned.{Scanned}
use Rattle.dr_tree.specs.Grows.{Growth, CanAdd, Grows, with_added}
use Rattle.dr_tree.specs.Places.{Place}
use Rattle.dr_tree.specs.declared.growing.Growing.{Growing}
use Rattle.dr_serve.specs.declared.found.Found.{Found}
use Rattle.dr_serve.specs.Links.{Worked}
use Rattle.dr_serve.specs.Rounds.{HasRead, OfEachFrom}
use Rattle.dr_serve.specs.Working.{found}

-- ---- pieces by their tablets

-- the place of a tablet, with its piece if it has one
abbrev pub place_of : List (Option Partial) → ℕ → Option Partial
place_of [] t = None
place_of (o ∷ os) zero = o
place_of (o ∷ os) (suc t) = place_of os t

abbrev pub has_some : Option Partial → Bool
has_some None = false
has_some (Some p) = true

abbrev pub IsTruePlace : (ℕ → Found → Type 0) → ℕ → Option Partial → Type 0
IsTruePlace is_true t o = IfSome o (λ p. is_true t (found t p))

-- ---- a tree that grows of them

-- a partial of the plan, small enough for those of all tablets to be merged
pub record IsAddable (t : Table) (plan : Plan) (p : Partial) : Type 0 where
  pub of_plan : IsPartialOf (plan_view plan) p
  pub partial : is_partial t.schema.fields (planned_query (plan_view plan)) (partial_view p) ≡ true
  pub bounded : PartialCanBeOf most_values (partial_view p)

-- what is true of a tablet is one
abbrev pub AreAddable : Table → Plan → (ℕ → Found → Type 0) → Type 0
AreAddable t plan is_true = (tablet : ℕ) (f : Found) → is_true tablet f → IsAddable t plan f.partial

-- the places of tablets, the first of which has the number t
abbrev pub places_from : ℕ → List (Option Partial) → List Place
places_from t [] = []
places_from t (o ∷ os) = record { tablet = t; piece = option_map partial_view o } ∷ places_from (suc t) os

-- a tree to which these pieces were added
abbrev pub growth_by : Table → Plan → Tree → List (Option Partial) → Growth
growth_by t plan tree places = record { plan = plan_view plan; fields = t.schema.fields; tree = tree; places = places_from 0 places }

-- what has grown of pieces of the table's tablets, each true of its own
pub record HasFound (t : Table) (plan : Plan) (tree : Tree) (is_true : ℕ → Found → Type 0) (places : List (Option Partial)) (grown : Growing) : Type 0 where
  pub count : length places ≡ t.tablets
  pub truths : OfEachFrom (IsTruePlace is_true) 0 places
  pub grows : Grows (growth_by t plan tree places) grown

-- this has grown of some pieces, and just these tablets have one
abbrev pub HasAnswered : Table → Plan → Tree → (ℕ → Found → Type 0) → Growing → List Bool → Type 0
HasAnswered t plan tree is_true grown has_piece = (places : List (Option Partial)) × HasFound t plan tree is_true places grown × (has_piece ≡ map has_some places)

-- ---- what comes of each tablet

-- a piece that is true of it, or the copies that were tried, each of them
abbrev pub IsOutcomeOf : Table → Plan → (ℕ → Found → Type 0) → LinkShown → ℕ → Scanned → Type 0
IsOutcomeOf t plan is_true link tablet (Scanned.Given p) = is_true tablet (found tablet p)
IsOutcomeOf t plan is_true link tablet (Scanned.Left tried) = AreTried t.schema (plan_leaves plan) link (copies_from t.leaves tablet 0 t.copies) (all_tried_view tried.items)

-- a piece that was found is kept
abbrev pub KeepsPlace : Option Partial → Scanned → Type 0
KeepsPlace o outcome = IfSome o (λ p. outcome ≡ Scanned.Given p)

abbrev pub KeepsPlaces : List (Option Partial) → List Scanned → Type 0
KeepsPlaces [] [] = ⊤
KeepsPlaces (o ∷ os) (x ∷ xs) = KeepsPlace o x × KeepsPlaces os xs
KeepsPlaces os xs = ⊥

-- the causes for which copies of it gave nothing
abbrev pub causes_at : Scanned → List Cause
causes_at (Scanned.Given p) = []
causes_at (Scanned.Left tried) = causes_of (all_tried_view tried.items)

-- the tablets that are left, the first of which has the number t
abbrev pub left_from : ℕ → List Scanned → List LeftTablet
left_from t [] = []
left_from t (Scanned.Given p ∷ xs) = left_from (suc t) xs
left_from t (Scanned.Left tried ∷ xs) = record { tablet = t; tried = all_tried_view tried.items } ∷ left_from (suc t) xs

-- what the link read of it, so far as that is told: why the copies before it gave nothing, and its count of faults
abbrev pub IsOfRead : TabletRead → Scanned → Type 0
IsOfRead (read_given ts R) (Scanned.Given p) = ⊤
IsOfRead (read_left ts) (Scanned.Left tried) = all_tried_view tried.items ≡ ts
IsOfRead r x = ⊥

abbrev pub IsReadAs : Table → Plan → LinkShown → LinkShown → ℕ → Scanned → Type 0
IsReadAs t plan link now tablet x = (r : TabletRead) × IsTabletRead t.schema (plan_leaves plan) link (copies_from t.leaves tablet 0 t.copies) r
    × LeadTo link.faults (read_causes r) now.faults × IsOfRead r x

-- ---- the tablets in their order

-- the piece of what came of a tablet
abbrev pub piece_of : Scanned → Option Partial
piece_of (Scanned.Given p) = Some p
piece_of (Scanned.Left tried) = None

abbrev pub pieces_of : List Scanned → List (Option Partial)
pieces_of xs = map piece_of xs

-- what came of a tablet without a piece can be kept: its partial can be added
abbrev pub CanKeep : ℕ → Scanned → Growing → Type 0
CanKeep t (Scanned.Given p) grown = (w : Growth) × Grows w grown × CanAdd w t p
CanKeep t (Scanned.Left tried) grown = ⊤

-- it is kept: its partial was added, or nothing has grown
abbrev pub HasKept : ℕ → Scanned → Growing → Growing → Type 0
HasKept t (Scanned.Given p) before now = (w : Growth) → Grows w before → CanAdd w t p → Grows (with_added w t (partial_view p)) now
HasKept t (Scanned.Left tried) before now = now ≡ before

-- what came of the first m tablets, since the link showed this first, and has grown of it and of the pieces of the rest
pub record HasClosed (t : Table) (plan : Plan) (tree : Tree) (is_true : ℕ → Found → Type 0) (first now : LinkShown) (all rest : List (Option Partial)) (m : ℕ)
    (grown : Growing) (left : List LeftTablet) : Type 0 where
  pub outcomes : List Scanned
  pub done : List (Option Partial)
  pub split : all ≡ done ++ rest
  pub count : length outcomes ≡ m
  pub each : OfEachFrom (IsOutcomeOf t plan is_true first) 0 outcomes
  pub keeps : KeepsPlaces done outcomes
  pub left_are : left ≡ left_from 0 outcomes
  pub rises : RisesApart first.faults (causes_met left) now.faults
  pub read : HasRead t (plan_leaves plan) first now m left
  pub worked : Worked t plan first now
  pub found : HasFound t plan tree is_true (pieces_of outcomes ++ rest) grown

-- the tablet m is the next, and has its piece or not
pub record IsNext (t : Table) (plan : Plan) (is_true : ℕ → Found → Type 0) (now : LinkShown) (m : ℕ) (is_answered : Bool) (grown : Growing) (left : List LeftTablet) : Type 0 where
  pub tree : Tree
  pub first : LinkShown
  pub all : List (Option Partial)
  pub place : Option Partial
  pub rest : List (Option Partial)
  pub closed : HasClosed t plan tree is_true first now all (place ∷ rest) m grown left
  pub same : is_answered ≡ has_some place

-- by what came of each tablet, where pieces that were found are kept, the tree has grown, and these tablets are left
pub record Closes (t : Table) (plan : Plan) (tree : Tree) (is_true : ℕ → Found → Type 0) (link : LinkShown) (places : List (Option Partial))
    (grown : Growing) (left : List LeftTablet) : Type 0 where
  pub outcomes : List Scanned
  pub count : length outcomes ≡ t.tablets
  pub each : OfEachFrom (IsOutcomeOf t plan is_true link) 0 outcomes
  pub keeps : KeepsPlaces places outcomes
  pub grows : Grows (growth_by t plan tree (pieces_of outcomes)) grown
  pub left_are : left ≡ left_from 0 outcomes
