-- Moves that follow a course: those that the walk's machine makes of their own triplets.
use Rattle.std.specs.Prelude.{◌≡◌, ℕ, suc, List, [], ◌∷◌, true, false, ◌&&◌, ◌==◌, nat_lt, if◌then◌else◌, Option, Some, None}
use Rattle.dr_meaning.specs.Column.{Triplet, triplet}
use Rattle.dr_meaning.specs.Walk.{Move, enter, value, leave}
use Rattle.dr_meaning.specs.AutomatonLaws.{next_level}
use Rattle.dr_moves.specs.Course.{reach, are_open, comes_to, Give, Visit, Items, nothing, give, visit}
use Rattle.dr_moves.specs.Turning.{Stack, between, in_record, in_items, in_absent, lapped, entering, has_its_value}

-- the definition level of a leaf's next triplet, or 0 where there is none
abbrev pub next_definition : List Move → ℕ → ℕ
next_definition [] i = 0
next_definition (enter k ∷ ms) i = next_definition ms i
next_definition (value j t ∷ ms) i = if j == i then t.definition else next_definition ms i
next_definition (leave k ∷ ms) i = next_definition ms i

-- the triplets that come next in moves
abbrev pub heads_of : List Move → ℕ → Option Triplet
heads_of [] i = None
heads_of (enter k ∷ ms) i = heads_of ms i
heads_of (value j t ∷ ms) i = if j == i then Some t else heads_of ms i
heads_of (leave k ∷ ms) i = heads_of ms i

-- these moves, and no others, are what is still to be gone through over their own columns
pub data Follows (top : Items) : Stack → List Move → Type 0 where
  ended : Follows top (between 0) []
  record_begun : (n : ℕ) (ms : List Move) → Follows top (in_items top 0 (next_definition ms) (in_record n)) ms → Follows top (between (suc n)) (enter 0 ∷ ms)
  record_ended : (n : ℕ) (ms : List Move) → Follows top (between n) ms → Follows top (in_record n) (leave 0 ∷ ms)
  items_done : (r : ℕ) (next : ℕ → ℕ) (S : Stack) (ms : List Move) → Follows top S ms → Follows top (in_items nothing r next S) ms
  given : (g : Give) (I : Items) (r : ℕ) (next : ℕ → ℕ) (S : Stack) (t : Triplet) (ms : List Move) → t.repetition ≡ r → comes_to next g t.definition ≡ true
      → has_its_value g t ≡ true → Follows top (in_items I r next S) ms → Follows top (in_items (give g I) r next S) (value g.leaf t ∷ ms)
  visited : (v : Visit) (B I : Items) (r : ℕ) (next : ℕ → ℕ) (S : Stack) (ms : List Move) → (are_open next v.gates && nat_lt v.low (next_definition ms v.leaf)) ≡ true
      → Follows top (in_items B r (next_definition ms) (lapped v B (in_items I r next S))) ms → Follows top (in_items (visit v B I) r next S) (enter v.number ∷ ms)
  skipped : (v : Visit) (B I : Items) (r : ℕ) (next : ℕ → ℕ) (S : Stack) (ms : List Move) → (are_open next v.gates && nat_lt v.low (next_definition ms v.leaf)) ≡ false
      → Follows top (in_absent v.leaves r (reach next v.gates v.low) (in_items I r next S)) ms → Follows top (in_items (visit v B I) r next S) ms
  absent_done : (r d : ℕ) (S : Stack) (ms : List Move) → Follows top S ms → Follows top (in_absent [] r d S) ms
  absent_given : (i : ℕ) (is : List ℕ) (r d : ℕ) (S : Stack) (ms : List Move) → Follows top (in_absent is r d S) ms
      → Follows top (in_absent (i ∷ is) r d S) (value i (triplet r d None) ∷ ms)
  lap_more : (v : Visit) (B : Items) (S : Stack) (ms : List Move) → (next_level v.leaf ms == v.level) ≡ true → Follows top (entering v B S) ms
      → Follows top (lapped v B S) (leave v.number ∷ ms)
  lap_last : (v : Visit) (B : Items) (S : Stack) (ms : List Move) → (next_level v.leaf ms == v.level) ≡ false → Follows top S ms
      → Follows top (lapped v B S) (leave v.number ∷ ms)
  entered : (v : Visit) (B : Items) (S : Stack) (ms : List Move) → Follows top (in_items B v.level (next_definition ms) (lapped v B S)) ms
      → Follows top (entering v B S) (enter v.number ∷ ms)
