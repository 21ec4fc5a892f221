-- What serving a table ends with.
use Rattle.std.specs.Prelude.{◌≡◌, ◌≤◌, ◌*◌, ℕ, suc, ⊤, false, List, [], ◌∷◌, map, length, Option, None}
use Rattle.std.specs.List.{range_with_len}
use Rattle.dr_meaning.specs.Schema.{Schema}
use Rattle.dr_meaning.specs.Query.{Query}
use Rattle.dr_formats.specs.TableFile.{Table}
use Rattle.dr_outside.specs.Link.{LinkShown}
use Rattle.dr_partials.specs.Partials as meant
use Rattle.dr_partials.specs.Partials.{Stands}
use Rattle.dr_partials.specs.Rewriting.{leaf_query}
use Rattle.dr_partials.specs.Trees.{Tree, tablets_of, gathered}
use Rattle.dr_group.specs.Partials.{partial_view, IsPartialOf}
use Rattle.dr_group.specs.declared.partial.Partial.{Partial}
use Rattle.dr_tree.specs.Grows.{Growth, Grows, grown_query}
use Rattle.dr_tree.specs.Places.{pieces_at}
use Rattle.dr_tree.specs.declared.growing.Growing.{Growing}
use Rattle.dr_plan.specs.Planned.{plan_leaves}
use Rattle.dr_plan.specs.declared.plan.Plan.{Plan}
use Rattle.dr_reading.specs.Causes.{RisesApart}
use Rattle.dr_reading.specs.Left.{Tried, LeftTablet, causes_met}
use Rattle.dr_reading.specs.Scan.{Copy}
use Rattle.dr_table.specs.LeftViews.{all_left_view}
use Rattle.dr_reading.specs.Truth.{IsTrueOf}
use Rattle.dr_reading.specs.Outcome.{Serving, truth_of}
use Rattle.dr_serve.specs.declared.found.Found.{Found}
use Rattle.dr_serve.specs.declared.outcome.Outcome.{Outcome}
use Rattle.dr_serve.specs.Closing.{Closes}
use Rattle.dr_serve.specs.Links.{Worked}
use Rattle.dr_serve.specs.Rounds.{HasRead}

-- of no link: nothing is told
abbrev pub no_link : LinkShown
no_link = record { held = None; asked = None; puts = None; faults = 0; is_steady = false }

-- the serving of a query by these links, one at least, as they are before it
abbrev pub serving_by : Schema → Query → List (List Copy) → List LinkShown → Serving
serving_by s q tablets [] = record { schema = s; query = q; first_link = no_link; other_links = []; tablets = tablets }
serving_by s q tablets (first ∷ others) =
    record { schema = s; query = q; first_link = first; other_links = map (λ (l : LinkShown). l.held) others; tablets = tablets }

-- what the first of these links shows
abbrev pub first_shown : List LinkShown → LinkShown
first_shown [] = no_link
first_shown (first ∷ others) = first

-- the closing round came after the workers: the first link had worked, and what is left is justified by what it did since
pub record ClosesAfter (t : Table) (plan : Plan) (tree : Tree) (is_true : ℕ → Found → Type 0) (before now : LinkShown)
    (grown : Growing) (left : List LeftTablet) : Type 0 where
  pub middle : LinkShown
  pub worked : Worked t plan before middle
  pub places : List (Option Partial)
  pub closes : Closes t plan tree is_true middle places grown left
  pub rises : RisesApart middle.faults (causes_met left) now.faults
  pub read : HasRead t (plan_leaves plan) middle now t.tablets left

-- ---- where some tablets are left

-- so many of all tablets are at least this share of them, in hundredths
abbrev pub IsShare : ℕ → ℕ → ℕ → Type 0
IsShare least counted all = least * all ≤ 100 * counted

-- of each tablet, the first of which is the tth, a piece that is true of it; of one that is left a piece of no records
pub data TrueUnlessLeft (s : Serving) (piece : ℕ → meant.Partial) : ℕ → List (List Copy) → List LeftTablet → Type 0 where
  no_more : (t : ℕ) → TrueUnlessLeft s piece t [] []
  is_counted : (t : ℕ) (cs : List Copy) (rest : List (List Copy)) (left : List LeftTablet)
      → IsTrueOf (truth_of s cs) (piece t) → TrueUnlessLeft s piece (suc t) rest left → TrueUnlessLeft s piece t (cs ∷ rest) left
  is_not_counted : (t : ℕ) (cs : List Copy) (rest : List (List Copy)) (left : List LeftTablet) (tried : List Tried)
      → Stands s.schema.fields (leaf_query s.query) [] (piece t) → TrueUnlessLeft s piece (suc t) rest left
      → TrueUnlessLeft s piece t (cs ∷ rest) (record { tablet = t; tried = tried } ∷ left)

-- finished but for the tablets that are left: what a tree of all tablets gathers of a piece of each other one that is true of it
abbrev pub IsFinishedBut : Serving → Tree → List LeftTablet → meant.Partial → Type 0
IsFinishedBut s tree left p = (piece : ℕ → meant.Partial) × (tablets_of tree ≡ range_with_len 0 (length s.tablets))
    × TrueUnlessLeft s piece 0 s.tablets left × (p ≡ gathered piece tree)

-- ---- what has grown

-- it is what a tree gathers that has grown so
abbrev pub IsGrownOf : Growing → Partial → Type 0
IsGrownOf grown p = (w : Growth) (piece : ℕ → meant.Partial) → Grows w grown → map piece (tablets_of w.tree) ≡ pieces_at (grown_query w) w.places
    → partial_view p ≡ gathered piece w.tree

-- and a partial of its plan
abbrev pub IsOfGrown : Growing → Partial → Type 0
IsOfGrown grown p = (w : Growth) → Grows w grown → IsPartialOf w.plan p

-- ---- by cases

-- where serving is finished, this holds of the partial
abbrev pub WhereFinished : (Partial → Type 0) → Outcome → Type 0
WhereFinished P (Outcome.Finished p) = P p
WhereFinished P (Outcome.Most p left) = ⊤
WhereFinished P (Outcome.Unfinished left) = ⊤

-- where it is finished but for some tablets, this holds of the partial and of the tablets that are left
abbrev pub WhereMost : (Partial → List LeftTablet → Type 0) → Outcome → Type 0
WhereMost P (Outcome.Finished p) = ⊤
WhereMost P (Outcome.Most p left) = P p (all_left_view left.items)
WhereMost P (Outcome.Unfinished left) = ⊤

-- where it is unfinished, this holds of the tablets that are left
abbrev pub WhereUnfinished : (List LeftTablet → Type 0) → Outcome → Type 0
WhereUnfinished P (Outcome.Finished p) = ⊤
WhereUnfinished P (Outcome.Most p left) = ⊤
WhereUnfinished P (Outcome.Unfinished left) = P (all_left_view left.items)
