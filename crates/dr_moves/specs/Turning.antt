-- A turn of the walk's machine: which move it makes where it is, by the triplets that come next.
use Rattle.std.specs.Prelude.{ℕ, zero, suc, List, [], ◌∷◌, Bool, true, false, ◌&&◌, ◌==◌, nat_lt, if◌then◌else◌, Option, Some, None}
use Rattle.dr_meaning.specs.Schema.{Kind}
use Rattle.dr_meaning.specs.Record.{Value, is_of_kind}
use Rattle.dr_meaning.specs.Column.{Triplet}
use Rattle.dr_meaning.specs.Walk.{Move, enter, value, leave}
use Rattle.dr_moves.specs.Course.{reach, are_open, comes_to, Give, Visit, Items, nothing, give, visit}

-- what is still to be gone through, the innermost first
pub data Stack : Type 0 where
  -- so many records
  between : ℕ → Stack
  -- the end of a record, and then so many records
  in_record : ℕ → Stack
  -- these items of an instance, with the repetition level with which it began and each leaf's definition level that came next then
  in_items : Items → ℕ → (ℕ → ℕ) → Stack → Stack
  -- a NULL of each of these leaves, at this repetition and definition level
  in_absent : List ℕ → ℕ → ℕ → Stack → Stack
  -- the end of an instance of a repeated field, which has these items, and then its later instances
  lapped : Visit → Items → Stack → Stack
  -- one more instance of it
  entering : Visit → Items → Stack → Stack

-- a value, and of this kind
abbrev pub is_value_of : Kind → Option Value → Bool
is_value_of k None = false
is_value_of k (Some v) = is_of_kind k v

-- no value
abbrev pub is_no_value : Option Value → Bool
is_no_value None = true
is_no_value (Some v) = false

-- a value of the leaf's kind exactly at the greatest definition level
abbrev pub has_its_value : Give → Triplet → Bool
has_its_value g t = if t.definition == g.full then is_value_of g.kind t.value else is_no_value t.value

-- what a turn comes to
pub data Turn : Type 0 where
  -- a move, and what is still to be gone through
  gives : Move → Stack → Turn
  -- no move, and what is still to be gone through
  goes_on : Stack → Turn
  -- all records were gone through
  done : Turn
  -- no records have these columns
  stops : Turn

-- the definition level of the triplet that comes next, 0 where there is none
abbrev pub definition_of : Option Triplet → ℕ
definition_of None = 0
definition_of (Some t) = t.definition

-- its repetition level
abbrev pub level_of : Option Triplet → ℕ
level_of None = 0
level_of (Some t) = t.repetition

-- each leaf's next definition level
abbrev pub definitions_of : (ℕ → Option Triplet) → ℕ → ℕ
definitions_of heads i = definition_of (heads i)

-- whether a triplet may be a leaf's next in an instance that began with the level r
abbrev pub is_due : Give → ℕ → (ℕ → ℕ) → Triplet → Bool
is_due g r next t = (t.repetition == r) && (comes_to next g t.definition && has_its_value g t)

-- the leaf's next triplet is given where it is due
abbrev pub turn_given : Give → Items → ℕ → (ℕ → ℕ) → Stack → Option Triplet → Turn
turn_given g I r next S None = stops
turn_given g I r next S (Some t) = if is_due g r next t then gives (value g.leaf t) (in_items I r next S) else stops

-- a NULL at these levels
abbrev pub is_null : ℕ → ℕ → Triplet → Bool
is_null r d t = (t.repetition == r) && ((t.definition == d) && is_no_value t.value)

-- the leaf's next triplet is given where it is this NULL
abbrev pub turn_absent : ℕ → List ℕ → ℕ → ℕ → Stack → Option Triplet → Turn
turn_absent i is r d S None = stops
turn_absent i is r d S (Some t) = if is_null r d t then gives (value i t) (in_absent is r d S) else stops

-- one turn, by each leaf's next triplet
abbrev pub turn : Items → Stack → (ℕ → Option Triplet) → Turn
turn top (between zero) heads = done
turn top (between (suc n)) heads = gives (enter 0) (in_items top 0 (definitions_of heads) (in_record n))
turn top (in_record n) heads = gives (leave 0) (between n)
turn top (in_items nothing r next S) heads = goes_on S
turn top (in_items (give g I) r next S) heads = turn_given g I r next S (heads g.leaf)
turn top (in_items (visit v B I) r next S) heads = if are_open next v.gates && nat_lt v.low (definition_of (heads v.leaf))
    then gives (enter v.number) (in_items B r (definitions_of heads) (lapped v B (in_items I r next S)))
    else goes_on (in_absent v.leaves r (reach next v.gates v.low) (in_items I r next S))
turn top (in_absent [] r d S) heads = goes_on S
turn top (in_absent (i ∷ is) r d S) heads = turn_absent i is r d S (heads i)
turn top (lapped v B S) heads = gives (leave v.number) (if level_of (heads v.leaf) == v.level then entering v B S else S)
turn top (entering v B S) heads = gives (enter v.number) (in_items B v.level (definitions_of heads) (lapped v B S))
