-- What serving a table ends with, by cases.
use Rattle.std.specs.Prelude.{◌≡◌, ◌<◌, ◌*◌, ◌-◌, ℕ, true, false, List, [], ◌∷◌, length, ⊤}
use Rattle.dr_meaning.specs.Query.{Query}
use Rattle.dr_meaning.specs.QueryLeaves.{query_leaves}
use Rattle.dr_formats.specs.TableFile.{Table}
use Rattle.dr_outside.specs.Link.{LinkShown}
use Rattle.dr_dispatch.specs.Job.{Job}
use Rattle.dr_dispatch.specs.History.{has_answer, is_history}
use Rattle.dr_dispatch.specs.declared.event.Event.{Event}
use Rattle.dr_partials.specs.Trees.{Tree}
use Rattle.dr_group.specs.Partials.{partial_view, IsPartialOf}
use Rattle.dr_group.specs.declared.partial.Partial.{Partial}
use Rattle.dr_plan.specs.Planned.{plan_view}
use Rattle.dr_plan.specs.declared.plan.Plan.{Plan}
use Rattle.dr_reading.specs.Left.{LeftTablet}
use Rattle.dr_reading.specs.Scan.{tablets_of}
use Rattle.dr_table.specs.LeftViews.{all_left_view}
use Rattle.dr_reading.specs.Outcome.{Serving, IsFinished, IsUnfinished}
use Rattle.dr_serve.specs.declared.outcome.Outcome.{Outcome}
use Rattle.dr_serve.specs.Counted.{StandsForCounted, AreLeftOf, held_of}
use Rattle.dr_serve.specs.Rounds.{Rounds}
use Rattle.dr_serve.specs.Serving.{serving_by, first_shown, IsShare, IsFinishedBut}

-- ---- the history of the desk

-- none of the tablets that are left was answered
abbrev pub NoneWasAnswered : List Event → List LeftTablet → Type 0
NoneWasAnswered history [] = ⊤
NoneWasAnswered history (l ∷ ls) = (has_answer history l.tablet ≡ false) × NoneWasAnswered history ls

-- a history of the job, where these tablets are left: so each tablet that it answers is counted
pub record IsHistoryOf (j : Job) (history : List Event) (left : List LeftTablet) : Type 0 where
  pub recorded : is_history j history ≡ true
  pub unanswered : NoneWasAnswered history left

-- ---- by cases

-- the tablets that are left
abbrev pub left_in : Outcome → List LeftTablet
left_in (Outcome.Finished p) = []
left_in (Outcome.Most p ls) = all_left_view ls.items
left_in (Outcome.Unfinished ls) = all_left_view ls.items

module _ (t : Table) (plan : Plan) (q : Query) (tree : Tree) (least : ℕ) (links : List LinkShown) (now : LinkShown) where
  abbrev pub the_serving : Serving
  the_serving = serving_by t.schema q (tablets_of t) links

  -- no tablet is left: a partial of all
  pub record Finishes (p : Partial) : Type 0 where
    pub finished : IsFinished the_serving tree (partial_view p)
    pub finished_plan : IsPartialOf (plan_view plan) p
    pub finished_records : StandsForCounted t q (held_of links) [] (partial_view p)

  -- these are left, and the others are the share that was asked for: a partial of the others
  pub record FinishesMost (p : Partial) (left : List LeftTablet) : Type 0 where
    pub most : IsFinishedBut the_serving tree left (partial_view p)
    pub most_plan : IsPartialOf (plan_view plan) p
    pub most_records : StandsForCounted t q (held_of links) left (partial_view p)
    pub most_left : IsUnfinished the_serving now.faults left
    pub left_tablets : AreLeftOf t.schema (query_leaves t.schema.fields q) (tablets_of t) links now.faults left
    pub share : IsShare least (t.tablets - length left) t.tablets
    pub all : least ≡ 100 → ⊥

  -- these are left, and the others are less than that share
  pub record LeavesSome (left : List LeftTablet) : Type 0 where
    pub unfinished : IsUnfinished the_serving now.faults left
    pub left_tablets : AreLeftOf t.schema (query_leaves t.schema.fields q) (tablets_of t) links now.faults left
    pub short : 100 * (t.tablets - length left) < least * t.tablets

  abbrev pub EndsAs : Outcome → Type 0
  EndsAs (Outcome.Finished p) = Finishes p
  EndsAs (Outcome.Most p ls) = FinishesMost p (all_left_view ls.items)
  EndsAs (Outcome.Unfinished ls) = LeavesSome (all_left_view ls.items)

  -- a query is served over the table by these links, the first of which shows this now
  pub record ServedAs (x : Outcome) : Type 0 where
    pub ends : EndsAs x
    -- after the workers the first link read the tablets without a piece, and so its count of faults rose to what it is now
    pub round : Rounds t (query_leaves t.schema.fields q) (first_shown links) now (left_in x)
