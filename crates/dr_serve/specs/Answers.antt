-- What a query prints of a table's records, or which of its tablets are left.
use Rattle.std.specs.Prelude.{◌≡◌, ◌<◌, ◌*◌, ◌-◌, ℕ, List, [], length, string_bytes}
use Rattle.dr_meaning.specs.Schema.{Schema}
use Rattle.dr_meaning.specs.Record.{Node}
use Rattle.dr_partials.specs.Partials.{Partial}
use Rattle.dr_sub_meaning.specs.Nested.{NestedQuery, query_leaves}
use Rattle.dr_sub_meaning.specs.NestedAsk.{nested_answer_text}
use Rattle.dr_formats.specs.TableFile.{Table}
use Rattle.dr_outside.specs.Link.{LinkShown}
use Rattle.dr_reading.specs.Scan.{joined, tablets_of}
use Rattle.dr_reading.specs.Left.{LeftTablet}
use Rattle.dr_stages.specs.Results.{StandsInnermost}
use Rattle.dr_sub.specs.Texts.{ArePlansOf}
use Rattle.dr_sub.specs.declared.nested_plan.NestedPlan.{NestedPlan}
use Rattle.dr_serve.specs.Counted.{AreCounted, AreLeftOf, held_of}
use Rattle.dr_serve.specs.Rounds.{Rounds}
use Rattle.dr_serve.specs.Serving.{IsShare, first_shown}
use Rattle.dr_table.specs.LeftViews.{all_left_view}
use Rattle.dr_serve.specs.declared.queried.Queried.{Queried}

-- a text is what the query prints of the records of the tablets that aren't left, each tablet's once, in their order
abbrev pub IsAnswerBut : Table → NestedQuery → List LinkShown → List LeftTablet → List ℕ → Type 0
IsAnswerBut t n links left text = (Rs : List (List Node)) × AreCounted t.schema (query_leaves t.schema.fields n) (held_of links) 0 (tablets_of t) left Rs
    × (text ≡ nested_answer_text t.schema n (joined Rs))

-- of whatever query and records, a text is what the query prints on the records
abbrev pub PrintsFinished : Schema → NestedPlan → Partial → List ℕ → Type 0
PrintsFinished s p x text = (n : NestedQuery) (R : List Node) → ArePlansOf s n p → StandsInnermost s n R x → text ≡ nested_answer_text s n R

-- the tablets that are left
abbrev pub left_in : Queried → List LeftTablet
left_in (Queried.Text s) = []
left_in (Queried.Most s v) = all_left_view v.items
left_in (Queried.Left v) = all_left_view v.items

module _ (t : Table) (n : NestedQuery) (least : ℕ) (links : List LinkShown) (now : LinkShown) where
  -- no tablet is left: a text of all
  pub record AnswersAll (printed : List ℕ) : Type 0 where
    pub text : IsAnswerBut t n links [] printed

  -- these are left, and the others are the share that was asked for: a text of the others
  pub record AnswersMost (printed : List ℕ) (those : List LeftTablet) : Type 0 where
    pub most : IsAnswerBut t n links those printed
    pub share : IsShare least (t.tablets - length those) t.tablets
    pub left : AreLeftOf t.schema (query_leaves t.schema.fields n) (tablets_of t) links now.faults those
    pub all : least ≡ 100 → ⊥

  -- these are left, and the others are less than that share
  pub record LeavesSome (those : List LeftTablet) : Type 0 where
    pub short : 100 * (t.tablets - length those) < least * t.tablets
    pub left : AreLeftOf t.schema (query_leaves t.schema.fields n) (tablets_of t) links now.faults those

  abbrev pub EndsAs : Queried → Type 0
  EndsAs (Queried.Text s) = AnswersAll (string_bytes s)
  EndsAs (Queried.Most s v) = AnswersMost (string_bytes s) (all_left_view v.items)
  EndsAs (Queried.Left v) = LeavesSome (all_left_view v.items)

  -- a query is answered over the table by these links, the first of which shows this now
  pub record AnsweredAs (x : Queried) : Type 0 where
    pub ends : EndsAs x
    -- after the workers the first link read the tablets without a piece, and so its count of faults rose to what it is now
    pub round : Rounds t (query_leaves t.schema.fields n) (first_shown links) now (left_in x)
