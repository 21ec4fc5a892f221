-- The walk of records: their moves in reading order, and when a move nests on the fields that are open.
use Rattle.std.specs.Prelude.{ℕ, zero, suc, ◌+◌, List, [], ◌∷◌, ◌++◌, map, Bool, true, false, ◌&&◌, Option, Some, None, reverse}
use Rattle.std.specs.List.{flat_map, slice_get}
use Rattle.dr_meaning.specs.Schema.{Repetition, required, optional, repeated, Fields, no_fields, field, Shape, leaf, group, repetition_count}
use Rattle.dr_meaning.specs.Schema.{definition_count, shape_repeated_fields}
use Rattle.dr_meaning.specs.Path.{Step, Leaf, chain}
pub use Rattle.dr_meaning.specs.Path.{same_path}
use Rattle.dr_meaning.specs.Record.{Value, Node, no_slots, slot, gap, Instances, no_instances, instance, Instance, atom, inner, is_of_kind}
use Rattle.dr_meaning.specs.Column.{Triplet, triplet, value_of}
use Rattle.dr_meaning.specs.Automaton.{Pick, picks, first_picks, later_picks, indexes}

-- one move: into or out of the record (0) or an instance of the schema's nth repeated field, or a leaf's triplet, the leaf by its place in the selection
pub data Move : Type 0 where
  enter : ℕ → Move
  value : ℕ → Triplet → Move
  leave : ℕ → Move

-- the first of a field's instances; the other fields of a node
abbrev pub first_of : Instances → Option Instance
first_of no_instances = None
first_of (instance x xs) = Some x

abbrev pub first_slot : Node → Instances
first_slot no_slots = no_instances
first_slot (slot xs n) = xs
first_slot (gap n) = no_instances

abbrev pub other_slots : Node → Node
other_slots no_slots = no_slots
other_slots (slot xs n) = n
other_slots (gap n) = n

-- the node of a group's instance; nothing is there in an absent one
abbrev pub node_of : Option Instance → Node
node_of None = no_slots
node_of (Some (atom v)) = no_slots
node_of (Some (inner n)) = n

abbrev pub value_there : Option Instance → Option Value
value_there None = None
value_there (Some x) = value_of x

-- the definition level in a field's instance: one more where the field isn't required and the instance is there
abbrev pub definition_in : Repetition → ℕ → Option Instance → ℕ
definition_in r d None = d
definition_in r d (Some x) = d + definition_count r

abbrev pub triplet_moves : List ℕ → Triplet → List Move
triplet_moves is t = map (λ i. value i t) is

abbrev pub unless_repeated : Repetition → List Move → List Move
unless_repeated required ms = ms
unless_repeated optional ms = ms
unless_repeated repeated ms = []

-- an instance of the repeated field k
abbrev pub enclosed : ℕ → List Move → List Move
enclosed k ms = enter k ∷ (ms ++ leave k ∷ [])

-- nothing where no selected leaf is
abbrev pub where_selected : List Pick → List Move → List Move
where_selected [] ms = []
where_selected (f ∷ F) ms = ms

-- where the walk is: how many repeated fields are round it, the repetition level with which it begins, and the definition level
pub record Depth : Type 0 where
  pub level : ℕ
  pub repetition : ℕ
  pub definition : ℕ

-- the same in an instance of a field, or where the field is absent
abbrev pub inside : Repetition → Depth → Option Instance → Depth
inside r at x = record { level = at.level + repetition_count r; repetition = at.repetition; definition = definition_in r at.definition x }

-- the same for a later instance of a repeated field: it begins with the level of its field
abbrev pub begun_later : Depth → Depth
begun_later at = record at { repetition = suc at.level }

-- the moves of the instances behind the first, of the repeated field k
abbrev pub later_moves : ℕ → (Option Instance → List Move) → Instances → List Move
later_moves k moves no_instances = []
later_moves k moves (instance x xs) = enclosed k (moves (Some x)) ++ later_moves k moves xs

-- the moves of the instances of the repeated field k, given those of the first or of none, and those of a later one; what is absent isn't entered
abbrev pub repeated_moves : ℕ → (Option Instance → List Move) → (Option Instance → List Move) → Instances → List Move
repeated_moves k first later no_instances = first None
repeated_moves k first later (instance x xs) = enclosed k (first (Some x)) ++ later_moves k later xs

-- a repeated field's instances are entered and left; in any other field the walk goes on
abbrev pub by_repetition : Repetition → (Instances → List Move) → (Option Instance → List Move) → Instances → List Move
by_repetition required each only xs = only (first_of xs)
by_repetition optional each only xs = only (first_of xs)
by_repetition repeated each only xs = each xs

-- the moves in an instance of a repeated field, which may be absent: its own leaves, then its next repeated fields
abbrev pub moves_in : (Depth → Option Instance → List Move) → (Depth → Option Instance → List Move) → Depth → Option Instance → List Move
moves_in near far at x = near at x ++ far at x

-- the moves in the first instance of a field, and in a later one, which begins with the level of its field
abbrev pub first_instance_moves : (Depth → Option Instance → List Move) → (Depth → Option Instance → List Move) → Repetition → Depth
    → Option Instance → List Move
first_instance_moves near far r at x = moves_in near far (inside r at x) x

abbrev pub later_instance_moves : (Depth → Option Instance → List Move) → (Depth → Option Instance → List Move) → Repetition → Depth
    → Option Instance → List Move
later_instance_moves near far r at x = moves_in near far (inside r (begun_later at) x) x

abbrev mutual
  -- the moves of a level's own leaves
  pub near_moves : Fields → List Pick → Depth → Node → List Move
  near_moves no_fields F at n = []
  near_moves (field m r s fs) F at n =
      unless_repeated r (shape_near_moves s (first_picks F) (inside r at (first_of (first_slot n))) (first_of (first_slot n)))
      ++ near_moves fs (later_picks F) at (other_slots n)

  -- the moves of its next repeated fields, the first of which has the number k
  pub far_moves : Fields → List Pick → ℕ → Depth → Node → List Move
  far_moves no_fields F k at n = []
  far_moves (field m r s fs) F k at n =
      where_selected (first_picks F) (by_repetition r
      (repeated_moves k
      (first_instance_moves (shape_near_moves s (first_picks F)) (shape_far_moves s (first_picks F) (suc k)) r at)
      (later_instance_moves (shape_near_moves s (first_picks F)) (shape_far_moves s (first_picks F) (suc k)) r at))
      (λ x. shape_far_moves s (first_picks F) k (inside r at x) x)
      (first_slot n))
      ++ far_moves fs (later_picks F) (k + (repetition_count r + shape_repeated_fields s)) at (other_slots n)

  pub shape_near_moves : Shape → List Pick → Depth → Option Instance → List Move
  shape_near_moves (leaf k) F at x = triplet_moves (indexes F) (triplet at.repetition at.definition (value_there x))
  shape_near_moves (group fs) F at x = near_moves fs F at (node_of x)

  pub shape_far_moves : Shape → List Pick → ℕ → Depth → Option Instance → List Move
  shape_far_moves (leaf j) F k at x = []
  shape_far_moves (group fs) F k at x = far_moves fs F k at (node_of x)

-- where a record begins
abbrev pub top : Depth
top = record { level = 0; repetition = 0; definition = 0 }

-- a record: its own leaves, then its repeated fields, the first of which has the number 1
abbrev pub record_moves : Fields → List (List Step) → Node → List Move
record_moves fs F n = enclosed 0 (near_moves fs (picks F) top n ++ far_moves fs (picks F) 1 top n)

-- the moves of the records for the selected leaves, in reading order
unfoldable pub walk : Fields → List (List Step) → List Node → List Move
walk fs F ns = flat_map (record_moves fs F) ns

-- ---- when a move nests

abbrev pub own_path : Step → Repetition → List (List Step) → List (List Step)
own_path s required below = map (λ p. s ∷ p) below
own_path s optional below = map (λ p. s ∷ p) below
own_path s repeated below = (s ∷ []) ∷ map (λ p. s ∷ p) below

abbrev mutual
  -- the paths of the repeated fields of a group whose first field has the place i
  pub repeated_paths_from : Fields → ℕ → List (List Step)
  repeated_paths_from no_fields i = []
  repeated_paths_from (field m r s fs) i = own_path (record { place = i; repetition = r }) r (shape_repeated_paths s) ++ repeated_paths_from fs (suc i)

  pub shape_repeated_paths : Shape → List (List Step)
  shape_repeated_paths (leaf k) = []
  shape_repeated_paths (group fs) = repeated_paths_from fs 0

-- the paths of the schema's repeated fields, depth first: the nth has the number n, from 1
abbrev pub repeated_paths : Fields → List (List Step)
repeated_paths fs = repeated_paths_from fs 0

-- what is open: no record, or a record and in it the repeated fields of these paths, the innermost first
pub data Open : Type 0 where
  no_record : Open
  in_record : List (List Step) → Open

abbrev pub is_chain_front : List (List Step) → List (List Step) → Bool
is_chain_front [] ds = true
is_chain_front (c ∷ cs) [] = false
is_chain_front (c ∷ cs) (d ∷ ds) = same_path c d && is_chain_front cs ds

abbrev pub is_same_chain : List (List Step) → List (List Step) → Bool
is_same_chain cs ds = is_chain_front cs ds && is_chain_front ds cs

abbrev pub where_true : Bool → Open → Option Open
where_true true o = Some o
where_true false o = None

-- into a repeated field: where its chain is that of the open fields and itself
abbrev pub entered : List (List Step) → Option (List Step) → Option Open
entered c None = None
entered c (Some p) = where_true (is_same_chain (chain p) (reverse (p ∷ c))) (in_record (p ∷ c))

-- out of the innermost
abbrev pub left : List (List Step) → Option (List Step) → Option Open
left c None = None
left [] (Some p) = None
left (q ∷ c) (Some p) = where_true (same_path q p) (in_record c)

abbrev pub is_of_leaf : Leaf → Option Value → Bool
is_of_leaf l None = true
is_of_leaf l (Some v) = is_of_kind l.kind v

-- a leaf's triplet: where its chain begins with the open fields and its value is of its kind
abbrev pub passed_leaf : List (List Step) → Triplet → Option Leaf → Option Open
passed_leaf c t None = None
passed_leaf c t (Some l) = where_true (is_chain_front (reverse c) (chain l.path) && is_of_leaf l t.value) (in_record c)

abbrev pub in_record_after : List (List Step) → List Leaf → List (List Step) → Move → Option Open
in_record_after paths F c (enter zero) = None
in_record_after paths F c (enter (suc k)) = entered c (slice_get paths k)
in_record_after paths F c (value i t) = passed_leaf c t (slice_get F i)
in_record_after paths F [] (leave zero) = Some no_record
in_record_after paths F (p ∷ c) (leave zero) = None
in_record_after paths F c (leave (suc k)) = left c (slice_get paths k)

-- what is open after a move that nests on what is open; none where it doesn't nest
abbrev pub open_after : Fields → List Leaf → Open → Move → Option Open
open_after fs F no_record (enter zero) = Some (in_record [])
open_after fs F no_record (enter (suc k)) = None
open_after fs F no_record (value i t) = None
open_after fs F no_record (leave k) = None
open_after fs F (in_record c) m = in_record_after (repeated_paths fs) F c m
