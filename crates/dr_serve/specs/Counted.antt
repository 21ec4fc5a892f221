-- The records that a query counts: those of each tablet but the ones that are left.
use Rattle.std.specs.Prelude.{◌≢◌, ℕ, suc, List, [], ◌∷◌, map, Option, ◌⊎◌}
use Rattle.dr_meaning.specs.Schema.{Schema}
use Rattle.dr_meaning.specs.Path.{Leaf}
use Rattle.dr_meaning.specs.Record.{Node}
use Rattle.dr_meaning.specs.Query.{Query}
use Rattle.dr_meaning.specs.QueryLeaves.{query_leaves}
use Rattle.dr_formats.specs.TableFile.{Table}
use Rattle.dr_outside.specs.Link.{Files, LinkShown}
use Rattle.dr_partials.specs.Partials.{Partial, Stands}
use Rattle.dr_reading.specs.Given.{IsGiven}
use Rattle.dr_reading.specs.Causes.{RisesApart}
use Rattle.dr_reading.specs.Left.{Tried, LeftTablet, LeftUnanswered, causes_met}
use Rattle.dr_reading.specs.Scan.{Copy, joined, tablets_of}
use Rattle.dr_serve.specs.Serving.{first_shown}

-- what each of these links holds, as far as it tells
abbrev pub held_of : List LinkShown → List (Option Files)
held_of links = map (λ (l : LinkShown). l.held) links

-- one of these links gives the records of a tablet of these copies
abbrev pub OneGives : Schema → List Leaf → List (Option Files) → List Copy → List Node → Type 0
OneGives s F [] cs R = ⊥
OneGives s F (held ∷ links) cs R = IsGiven s F held cs R ⊎ OneGives s F links cs R

-- of each tablet, the first of which is the tth, records that a link gives, but of one that is left none
pub data AreCounted (s : Schema) (F : List Leaf) (links : List (Option Files)) : ℕ → List (List Copy) → List LeftTablet → List (List Node) → Type 0 where
  no_more : (t : ℕ) → AreCounted s F links t [] [] []
  is_counted : (t : ℕ) (cs : List Copy) (rest : List (List Copy)) (left : List LeftTablet) (R : List Node) (Rs : List (List Node))
      → OneGives s F links cs R → AreCounted s F links (suc t) rest left Rs → AreCounted s F links t (cs ∷ rest) left (R ∷ Rs)
  is_not_counted : (t : ℕ) (cs : List Copy) (rest : List (List Copy)) (left : List LeftTablet) (tried : List Tried) (Rs : List (List Node))
      → AreCounted s F links (suc t) rest left Rs → AreCounted s F links t (cs ∷ rest) (record { tablet = t; tried = tried } ∷ left) Rs

-- a partial stands for the query on the records of the tablets that aren't left, each tablet's once, in their order
abbrev pub StandsForCounted : Table → Query → List (Option Files) → List LeftTablet → Partial → Type 0
StandsForCounted t q links left p = (Rs : List (List Node)) × AreCounted t.schema (query_leaves t.schema.fields q) links 0 (tablets_of t) left Rs
    × Stands t.schema.fields q (joined Rs) p

-- just these of the tablets are left, some at least: the first link tried each of their copies, and of each other tablet a link gives records; each
-- failed read among the causes has a rise of the first link's count of its own, up to what that is now
abbrev pub AreLeftOf : Schema → List Leaf → List (List Copy) → List LinkShown → ℕ → List LeftTablet → Type 0
AreLeftOf s F tablets links now left = (left ≢ [])
    × LeftUnanswered s F (first_shown links) (λ cs. (R : List Node) × OneGives s F (held_of links) cs R) 0 tablets left
    × RisesApart (first_shown links).faults (causes_met left) now
