-- Turns over columns, by computation: over those of records, and over columns that no records have.
use Rattle.std.specs.Prelude.{◌≡◌, ℕ, zero, suc, List, [], ◌∷◌, map, length, Option, Some, None, option_map, pos, codes, refl}
use Rattle.std.specs.Str.{is_utf8, chars}
use Rattle.dr_meaning.specs.Schema.{Fields, no_fields, field, leaf, group, required, optional, repeated, int64_kind, text_kind}
use Rattle.dr_meaning.specs.Path.{Step}
use Rattle.dr_meaning.specs.Record.{Value, int_value, text_value, Node, no_slots, slot, no_instances, instance, Instance, atom, inner, single}
use Rattle.dr_meaning.specs.Column.{Triplet, triplet}
use Rattle.dr_meaning.specs.Walk.{Move, enter, value, leave, walk}
use Rattle.dr_meaning.proofs.WorkedSchemas.{document}
use Rattle.dr_meaning.proofs.WorkedRecords.{record_10, record_20, record_30}
use Rattle.dr_meaning.proofs.WorkedPaths.{step, doc_id, backward, forward, code, country, url}
use Rattle.dr_moves.specs.Course.{Items, course}
use Rattle.dr_moves.specs.Turning.{Stack, between, Turn, gives, goes_on, done, stops, turn}
use Rattle.dr_moves.specs.Leading.{Left, heads, behind_move, columns_of, has_columns}
use Rattle.dr_moves.proofs.WorkedCourse.{fs, F}

-- the moves of turns that come to the end, and how many triplets are then left of each of the first columns
pub record Run : Type 0 where
  pub moves : List Move
  pub left : Left

abbrev after_turn : (Stack → Left → Option Run) → Left → Turn → Option Run
after_turn go left (gives m S) = option_map (λ (r : Run). record r { moves = m ∷ r.moves }) (go S (behind_move m left))
after_turn go left (goes_on S) = go S left
after_turn go left done = Some (record { moves = []; left = left })
after_turn go left stops = None

-- none where a turn stops, or where so many turns don't come to the end
abbrev run : Items → ℕ → Stack → Left → Option Run
run T zero S left = None
run T (suc n) S left = after_turn (λ U rest. run T n U rest) left (turn T S (heads left))

pub record Outcome : Type 0 where
  pub moves : List Move
  pub left : List ℕ

abbrev outcome : Fields → List (List Step) → ℕ → Left → Option Outcome
outcome fs F n C = option_map (λ (r : Run). record { moves = r.moves; left = map (λ i. length (r.left i)) (0 ∷ 1 ∷ 2 ∷ 3 ∷ 4 ∷ 5 ∷ []) }) (run (course fs F) 200 (between n) C)

abbrev whole : List Move → Option Outcome
whole ms = Some (record { moves = ms; left = 0 ∷ 0 ∷ 0 ∷ 0 ∷ 0 ∷ 0 ∷ [] })

abbrev word : List ℕ → Option Value
word t = Some (text_value t)

abbrev number : ℕ → Option Value
number n = Some (int_value (pos n))

abbrev null_at : ℕ → ℕ → Triplet
null_at r d = triplet r d None

-- ---- over the columns of records

abbrev six : List (List Step)
six = doc_id ∷ backward ∷ forward ∷ code ∷ country ∷ url ∷ []

pub six_leaves : outcome document six 3 (has_columns six (record_10 ∷ record_20 ∷ record_30 ∷ [])) ≡ whole (walk document six (record_10 ∷ record_20 ∷ record_30 ∷ []))
unfolding walk is_utf8 chars lib.Utf8.encode
six_leaves = refl

-- one leaf alone; leaves in another order than they are read in
pub few_leaves : (outcome document (doc_id ∷ []) 2 (has_columns (doc_id ∷ []) (record_10 ∷ record_20 ∷ [])) ≡ whole (walk document (doc_id ∷ []) (record_10 ∷ record_20 ∷ [])))
    × (outcome document (country ∷ []) 2 (has_columns (country ∷ []) (record_10 ∷ record_20 ∷ [])) ≡ whole (walk document (country ∷ []) (record_10 ∷ record_20 ∷ [])))
    × (outcome document (country ∷ url ∷ backward ∷ []) 2 (has_columns (country ∷ url ∷ backward ∷ []) (record_20 ∷ record_30 ∷ [])) ≡ whole (walk document (country ∷ url ∷ backward ∷ []) (record_20 ∷ record_30 ∷ [])))
unfolding walk is_utf8 chars lib.Utf8.encode
few_leaves = (refl, refl, refl)

-- spelled out
pub country_moves : outcome document (doc_id ∷ country ∷ []) 1 (has_columns (doc_id ∷ country ∷ []) (record_10 ∷ [])) ≡ whole (
    enter 0 ∷ value 0 (triplet 0 0 (number 10))
    ∷ enter 3 ∷ enter 4 ∷ value 1 (triplet 0 3 (word (codes "us"))) ∷ leave 4 ∷ enter 4 ∷ value 1 (null_at 2 2) ∷ leave 4 ∷ leave 3
    ∷ enter 3 ∷ value 1 (null_at 1 1) ∷ leave 3
    ∷ enter 3 ∷ enter 4 ∷ value 1 (triplet 1 3 (word (codes "gb"))) ∷ leave 4 ∷ leave 3
    ∷ leave 0 ∷ [])
unfolding is_utf8 chars lib.Utf8.encode
country_moves = refl

-- no leaf: each record is entered and left; no record: no moves
pub of_nothing : (outcome document [] 2 (columns_of []) ≡ whole (enter 0 ∷ leave 0 ∷ enter 0 ∷ leave 0 ∷ [])) × (outcome document six 0 (columns_of []) ≡ whole [])
of_nothing = (refl, refl)

-- ---- optional groups inside and outside of repeated ones

abbrev int : ℕ → Instance
int n = atom (int_value (pos n))

-- an instance of h with a and b, with b alone, and without i
abbrev with_both : ℕ → ℕ → Instance
with_both a b = inner (slot (single (inner (slot (single (int a)) (slot (single (int b)) no_slots)))) no_slots)

abbrev with_b : ℕ → Instance
with_b b = inner (slot (single (inner (slot no_instances (slot (single (int b)) no_slots)))) no_slots)

abbrev without_i : Instance
without_i = inner (slot no_instances no_slots)

-- all is there; nothing is; the groups are there and empty
abbrev full : Node
full = slot (single (inner (slot (instance (with_both 1 2) (instance (with_b 3) (single without_i))) (slot (single (inner (slot (single (int 4)) no_slots))) no_slots)))) (slot (instance (int 5) (single (int 6))) no_slots)

abbrev bare : Node
bare = slot no_instances (slot no_instances no_slots)

abbrev empty : Node
empty = slot (single (inner (slot no_instances (slot (single (inner (slot no_instances no_slots))) no_slots)))) (slot no_instances no_slots)

pub groups : outcome fs F 4 (has_columns F (full ∷ bare ∷ empty ∷ full ∷ [])) ≡ whole (walk fs F (full ∷ bare ∷ empty ∷ full ∷ []))
unfolding walk
groups = refl

pub full_moves : outcome fs F 1 (has_columns F (full ∷ [])) ≡ whole (
    enter 0 ∷ value 2 (triplet 0 2 (number 4))
    ∷ enter 1 ∷ value 0 (triplet 0 4 (number 1)) ∷ value 1 (triplet 0 3 (number 2)) ∷ leave 1
    ∷ enter 1 ∷ value 0 (null_at 1 3) ∷ value 1 (triplet 1 3 (number 3)) ∷ leave 1
    ∷ enter 1 ∷ value 0 (null_at 1 2) ∷ value 1 (null_at 1 2) ∷ leave 1
    ∷ enter 2 ∷ value 3 (triplet 0 1 (number 5)) ∷ leave 2 ∷ enter 2 ∷ value 3 (triplet 1 1 (number 6)) ∷ leave 2
    ∷ leave 0 ∷ [])
full_moves = refl

pub bare_moves : outcome fs F 2 (has_columns F (bare ∷ empty ∷ [])) ≡ whole (
    enter 0 ∷ value 2 (null_at 0 0) ∷ value 0 (null_at 0 0) ∷ value 1 (null_at 0 0) ∷ value 3 (null_at 0 0) ∷ leave 0
    ∷ enter 0 ∷ value 2 (null_at 0 1) ∷ value 0 (null_at 0 1) ∷ value 1 (null_at 0 1) ∷ value 3 (null_at 0 0) ∷ leave 0 ∷ [])
bare_moves = refl

-- ---- columns that no records have: each differs in one place from those of a record

-- over the columns of the leaves a, b, c and d, as one record
abbrev of_one : List Triplet → List Triplet → List Triplet → List Triplet → Option Outcome
of_one a b c d = outcome fs F 1 (columns_of (a ∷ b ∷ c ∷ d ∷ []))

abbrev a₁ : List Triplet
a₁ = triplet 0 4 (number 1) ∷ []

abbrev b₁ : List Triplet
b₁ = triplet 0 3 (number 2) ∷ []

abbrev c₁ : List Triplet
c₁ = triplet 0 2 (number 4) ∷ []

abbrev d₁ : List Triplet
d₁ = triplet 0 1 (number 5) ∷ []

abbrev one_moves : List Move
one_moves = enter 0 ∷ value 2 (triplet 0 2 (number 4)) ∷ enter 1 ∷ value 0 (triplet 0 4 (number 1)) ∷ value 1 (triplet 0 3 (number 2)) ∷ leave 1
    ∷ enter 2 ∷ value 3 (triplet 0 1 (number 5)) ∷ leave 2 ∷ leave 0 ∷ []

pub right : of_one a₁ b₁ c₁ d₁ ≡ whole one_moves
right = refl

-- a column ends too early: of a leaf of the record, of an instance, of what is absent
pub too_short : (of_one a₁ b₁ [] d₁ ≡ None) × (of_one a₁ [] c₁ d₁ ≡ None) × (of_one a₁ b₁ c₁ [] ≡ None) × (of_one [] b₁ c₁ d₁ ≡ None)
too_short = (refl, refl, refl, refl)

-- a record, and an instance, begins with another repetition level than its own
pub wrong_begin : (of_one a₁ b₁ (triplet 1 2 (number 4) ∷ []) d₁ ≡ None) × (of_one (triplet 1 4 (number 1) ∷ []) b₁ c₁ d₁ ≡ None) × (of_one a₁ b₁ c₁ (null_at 1 0 ∷ []) ≡ None)
wrong_begin = (refl, refl, refl)

-- two leaves of an instance that begin it with different levels; one that has an instance less
pub apart : (of_one (triplet 0 4 (number 1) ∷ triplet 1 4 (number 1) ∷ []) (triplet 0 3 (number 2) ∷ triplet 0 3 (number 2) ∷ []) c₁ d₁ ≡ None)
    × (of_one (triplet 0 4 (number 1) ∷ triplet 1 4 (number 1) ∷ []) b₁ c₁ d₁ ≡ None)
apart = (refl, refl)

-- a definition level that no leaf comes to: above the greatest, or of a required leaf that is absent, or between
pub wrong_level : (of_one a₁ b₁ (triplet 0 3 (number 4) ∷ []) d₁ ≡ None) × (of_one a₁ (null_at 0 2 ∷ []) c₁ d₁ ≡ None) × (of_one a₁ (null_at 0 1 ∷ []) c₁ d₁ ≡ None) × (of_one a₁ b₁ c₁ (triplet 0 2 (number 5) ∷ []) ≡ None)
wrong_level = (refl, refl, refl, refl)

-- leaves that disagree whether an optional group is there: outside a repeated group, and inside
pub groups_disagree : (of_one a₁ b₁ (null_at 0 0 ∷ []) d₁ ≡ None) × (of_one (null_at 0 0 ∷ []) (null_at 0 0 ∷ []) c₁ d₁ ≡ None) × (of_one (null_at 0 0 ∷ []) (null_at 0 1 ∷ []) (null_at 0 0 ∷ []) d₁ ≡ None)
    × (of_one (null_at 0 2 ∷ []) b₁ c₁ d₁ ≡ None)
groups_disagree = (refl, refl, refl, refl)

-- leaves that disagree whether a repeated group has an instance
pub instances_disagree : (of_one (null_at 0 1 ∷ []) b₁ c₁ d₁ ≡ None) × (of_one (null_at 0 1 ∷ []) (null_at 0 2 ∷ []) c₁ d₁ ≡ None)
instances_disagree = (refl, refl)

-- a NULL at the greatest level, a value below it, a value of another kind; where all is absent, too
pub wrong_values : (of_one a₁ b₁ (null_at 0 2 ∷ []) d₁ ≡ None) × (of_one a₁ b₁ (triplet 0 1 (number 4) ∷ []) d₁ ≡ None) × (of_one a₁ b₁ (triplet 0 2 (Some (text_value [])) ∷ []) d₁ ≡ None)
    × (of_one a₁ b₁ c₁ (triplet 0 0 (number 5) ∷ []) ≡ None) × (of_one a₁ b₁ c₁ (triplet 0 1 None ∷ []) ≡ None)
unfolding is_utf8 chars
wrong_values = (refl, refl, refl, refl, refl)

-- an empty list and then one more: all is done, and a triplet is left; so are the triplets of a leaf that has an instance more
pub left_over : (of_one (null_at 0 0 ∷ []) (null_at 0 0 ∷ []) (null_at 0 0 ∷ []) (null_at 0 0 ∷ triplet 1 1 (number 7) ∷ []) ≡ Some (record { moves = enter 0 ∷ value 2 (null_at 0 0) ∷ value 0 (null_at 0 0) ∷ value 1 (null_at 0 0) ∷ value 3 (null_at 0 0) ∷ leave 0 ∷ []; left = 0 ∷ 0 ∷ 0 ∷ 1 ∷ 0 ∷ 0 ∷ [] }))
    × (of_one a₁ (triplet 0 3 (number 2) ∷ triplet 1 3 (number 2) ∷ []) c₁ d₁ ≡ Some (record { moves = one_moves; left = 0 ∷ 1 ∷ 0 ∷ 0 ∷ 0 ∷ 0 ∷ [] }))
    × (of_one (triplet 0 4 (number 1) ∷ triplet 2 4 (number 1) ∷ []) b₁ c₁ d₁ ≡ Some (record { moves = one_moves; left = 1 ∷ 0 ∷ 0 ∷ 0 ∷ 0 ∷ 0 ∷ [] }))
left_over = (refl, refl, refl)

-- with one record more than the columns have a turn stops; with one fewer all is left
pub other_counts : (outcome fs F 2 (columns_of (a₁ ∷ b₁ ∷ c₁ ∷ d₁ ∷ [])) ≡ None) × (outcome fs F 0 (columns_of (a₁ ∷ b₁ ∷ c₁ ∷ d₁ ∷ [])) ≡ Some (record { moves = []; left = 1 ∷ 1 ∷ 1 ∷ 1 ∷ 0 ∷ 0 ∷ [] }))
other_counts = (refl, refl)

-- ---- the record whose turns docs/DEFINITIONS.md shows

abbrev pictured_fields : Fields
pictured_fields = field [] required (leaf int64_kind) (field [] repeated (group (field [] repeated (group (field [] optional (leaf text_kind) no_fields)) (field [] optional (leaf text_kind) no_fields))) no_fields)

abbrev pictured_leaves : List (List Step)
pictured_leaves = (step 0 required ∷ []) ∷ (step 1 repeated ∷ step 0 repeated ∷ step 0 optional ∷ []) ∷ (step 1 repeated ∷ step 1 optional ∷ []) ∷ []

pub pictured : outcome pictured_fields pictured_leaves 1 (columns_of ((triplet 0 0 (number 10) ∷ []) ∷ (triplet 0 3 (word (codes "us")) ∷ null_at 2 2 ∷ null_at 1 1 ∷ []) ∷ (triplet 0 2 (word (codes "http://A")) ∷ null_at 1 1 ∷ []) ∷ [])) ≡ whole (
    enter 0 ∷ value 0 (triplet 0 0 (number 10))
    ∷ enter 1 ∷ value 2 (triplet 0 2 (word (codes "http://A"))) ∷ enter 2 ∷ value 1 (triplet 0 3 (word (codes "us"))) ∷ leave 2 ∷ enter 2 ∷ value 1 (null_at 2 2) ∷ leave 2 ∷ leave 1
    ∷ enter 1 ∷ value 2 (null_at 1 1) ∷ value 1 (null_at 1 1) ∷ leave 1
    ∷ leave 0 ∷ [])
unfolding is_utf8 chars lib.Utf8.encode
pictured = refl
