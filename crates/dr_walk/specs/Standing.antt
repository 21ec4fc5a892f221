-- Where a walk stands in the array: its place, and the places to which it returns, stand for what is still to be gone through.
use Rattle.std.specs.Prelude.{◌≡◌, ℕ, suc, ◌<◌, ◌≤◌, ⊤, List, [], ◌∷◌, ◌++◌, map, reverse, Bool, if◌then◌else◌, Option, Some, None, option_map}
use Rattle.std.specs.List.{slice_get}
use Rattle.dr_meaning.specs.Schema.{Kind}
use Rattle.dr_meaning.specs.Record.{Value}
use Rattle.dr_meaning.specs.Column.{Triplet}
use Rattle.dr_meaning.specs.Walk.{Move, enter, value, leave}
use Rattle.dr_levels.specs.Views.{levels_pair, triplet_levels}
use Rattle.dr_levels.specs.declared.triplet.Levels.{Levels}
use Rattle.dr_nested.specs.Views.{kind_view}
use Rattle.dr_nested.specs.declared.shape.Kind as code_kind
use Rattle.dr_moves.specs.Course.{Visit, Items}
use Rattle.dr_moves.specs.Turning.{Stack, between, in_record, in_items, in_absent, lapped, entering, Turn as MeantTurn, gives, goes_on, done, stops, turn, is_value_of, is_no_value}
use Rattle.dr_walk.specs.Laying.{FlatItem, flat_null, flat_end, Lap, lap_of}
use Rattle.dr_walk.specs.Seen.{first_shut, next_definitions, AreLevelsOf, looks_there}
use Rattle.dr_walk.specs.Views.{items_view}
use Rattle.dr_walk.specs.Flat.{IsRun, IsCode, IsBody, gates_of, is_table}
use Rattle.dr_walk.specs.declared.course.Course.{Course}
use Rattle.dr_walk.specs.declared.spot.Frame.{Frame}
use Rattle.dr_walk.specs.declared.spot.Stage.{Stage}
use Rattle.dr_walk.specs.declared.spot.Spot.{Spot}
use Rattle.dr_walk.specs.declared.turn.Turn.{Turn}

-- what was seen of the gates of items as their level began, that of the last item first
abbrev pub seen : (ℕ → ℕ) → Items → List (Option ℕ)
seen next I = map (first_shut next) (reverse (gates_of I))

-- ---- places

-- what is round an instance: the fields' ends, the places to which the walk returns and what was seen there, innermost last
pub data IsAround (code : List FlatItem) : Option Lap → List Frame → List (Option ℕ) → Stack → Type 0 where
  around_record : (n : ℕ) → IsAround code None [] [] (in_record n)
  around_instance : (o : Option Lap) (before all : List Frame) (f : Frame) (below shut : List (Option ℕ)) (v : Visit) (body : ℕ) (B I : Items) (next : ℕ → ℕ) (S : Stack)
      → all ≡ before ++ f ∷ [] → shut ≡ below ++ seen next I → IsBody code (Some (lap_of v body)) body B → IsCode code o f.place I → IsAround code o before below S
      → IsAround code (Some (lap_of v body)) all shut (lapped v B (in_items I f.begun next S))

-- the records that are still to come, below all
abbrev pub rows_below : Stack → ℕ
rows_below (between n) = n
rows_below (in_record n) = n
rows_below (in_items I r next S) = rows_below S
rows_below (in_absent is r d S) = rows_below S
rows_below (lapped v B S) = rows_below S
rows_below (entering v B S) = rows_below S

-- where a walk stands for what is still to be gone through
pub data IsSpot (code : List FlatItem) (p : Spot) : Stack → Type 0 where
  spot_between : p.stage ≡ Stage.Between → p.returns.items ≡ [] → p.shut.items ≡ [] → IsSpot code p (between p.rows)
  spot_items : (o : Option Lap) (below : List (Option ℕ)) (I : Items) (next : ℕ → ℕ) (S : Stack) → p.stage ≡ Stage.Within → IsCode code o p.here.place I
      → p.shut.items ≡ below ++ seen next I → IsAround code o p.returns.items below S → rows_below S ≡ p.rows → IsSpot code p (in_items I p.here.begun next S)
  spot_absent : (o : Option Lap) (below : List (Option ℕ)) (is : List ℕ) (at : ℕ) (I : Items) (next : ℕ → ℕ) (S : Stack) → p.stage ≡ Stage.Within → IsRun code p.here.place (map flat_null is) at
      → IsCode code o at I → p.shut.items ≡ below ++ seen next I → IsAround code o p.returns.items below S → rows_below S ≡ p.rows
      → IsSpot code p (in_absent is p.here.begun p.absent (in_items I p.here.begun next S))
  spot_again : (v : Visit) (body : ℕ) (B : Items) (S : Stack) → p.stage ≡ Stage.Again → slice_get code p.here.place ≡ Some (flat_end (Some (lap_of v body)))
      → IsAround code (Some (lap_of v body)) p.returns.items p.shut.items (lapped v B S) → rows_below S ≡ p.rows → IsSpot code p (entering v B S)

-- a course that stands where this is still to be gone through
pub record Stands (top : Items) (c : Course) (S : Stack) : Type 0 where
  pub table : is_table top c.table
  pub spot : IsSpot (items_view c.table.items.items) c.spot S

-- ---- turns

-- no value, or one of this kind
abbrev pub fits : Option Kind → Option Value → Bool
fits None v = is_no_value v
fits (Some k) v = is_value_of k v

-- turns without a move lead from one stack to another
pub data GoesOn (top : Items) (ts : ℕ → Option Triplet) : Stack → Stack → Type 0 where
  stays_here : (S : Stack) → GoesOn top ts S S
  goes_further : (S U V : Stack) → turn top S ts ≡ goes_on U → GoesOn top ts U V → GoesOn top ts S V

-- a move is made
pub record MakesMove (code : List FlatItem) (top : Items) (S : Stack) (ts : ℕ → Option Triplet) (p : Spot) (m : Move) : Type 0 where
  pub from : Stack
  pub to : Stack
  pub comes : GoesOn top ts S from
  pub made : turn top from ts ≡ gives m to
  pub stands : IsSpot code p to

-- a leaf's triplet is given where its value is as it must be
pub record GivesLeaf (code : List FlatItem) (top : Items) (S : Stack) (ts : ℕ → Option Triplet) (p : Spot) (i : ℕ) (l : Levels) (k : Option code_kind.Kind) : Type 0 where
  pub from : Stack
  pub to : Stack
  pub comes : GoesOn top ts S from
  pub entry : Triplet
  pub next : ts i ≡ Some entry
  pub levels : triplet_levels entry ≡ levels_pair l
  pub made : turn top from ts ≡ (if fits (option_map kind_view k) entry.value then gives (value i entry) to else stops)
  pub stands : IsSpot code p to

pub record ComesTo (top : Items) (S : Stack) (ts : ℕ → Option Triplet) (end : MeantTurn) : Type 0 where
  pub from : Stack
  pub comes : GoesOn top ts S from
  pub made : turn top from ts ≡ end

-- all was gone through
pub record Finishes (code : List FlatItem) (top : Items) (S : Stack) (ts : ℕ → Option Triplet) (p : Spot) : Type 0 where
  pub from : Stack
  pub comes : GoesOn top ts S from
  pub made : turn top from ts ≡ done
  pub stands : IsSpot code p from

-- what is answered is the turn of what is stood for, by whatever triplets have the levels that come next, but for the value of a leaf
abbrev pub IsTurn : List FlatItem → Items → Stack → (ℕ → Option Triplet) → Spot → Turn → Type 0
IsTurn code top S ts p Turn.Done = Finishes code top S ts p
IsTurn code top S ts p Turn.Stops = ComesTo top S ts stops
IsTurn code top S ts p Turn.Passes = (U : Stack) × GoesOn top ts S U × IsSpot code p U
IsTurn code top S ts p (Turn.Enters k) = MakesMove code top S ts p (enter k)
IsTurn code top S ts p (Turn.Leaves k) = MakesMove code top S ts p (leave k)
IsTurn code top S ts p (Turn.Gives i l k) = GivesLeaf code top S ts p i l k

abbrev pub Turns : List FlatItem → ℕ → List (Option Levels) → Spot → Spot → Turn → Type 0
Turns code root heads old new t = (top : Items) (S : Stack) (ts : ℕ → Option Triplet) → IsBody code None root top → IsSpot code old S → AreLevelsOf heads ts → IsTurn code top S ts new t

-- in an instance, where this is the next item
abbrev pub TurnsAt : List FlatItem → FlatItem → ℕ → List (Option Levels) → Spot → Spot → Turn → Type 0
TurnsAt code x root heads old new t = old.stage ≡ Stage.Within → slice_get code old.here.place ≡ Some x → Turns code root heads old new t

-- an instance is begun at the place of its items
abbrev pub Begins : List FlatItem → List (Option Levels) → ℕ → ℕ → Spot → Spot → Type 0
Begins code heads body begun old new = (new.stage ≡ Stage.Within) × (new.here ≡ record { place = suc body; begun = begun })
    × (new.shut.items ≡ old.shut.items ++ map (first_shut (next_definitions heads)) (looks_there (slice_get code body)))

-- a turn that makes no move, as none ends anything, leads on among so many items
abbrev pub Passes : ℕ → ℕ → ℕ → Turn → Type 0
Passes n old new Turn.Passes = (old < new) × (new ≤ n)
Passes n old new t = ⊤

abbrev pub IsStep : Items → Stack → (ℕ → Option Triplet) → Course → Turn → Type 0
IsStep top S ts c t = IsTurn (items_view c.table.items.items) top S ts c.spot t × is_table top c.table
