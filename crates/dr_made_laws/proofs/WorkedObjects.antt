-- Objects made over the moves of small records, by computation.
use Rattle.std.specs.Prelude.{◌≡◌, ℕ, List, [], ◌∷◌, map, Bool, false, Option, None, Some, pos, codes, refl}
use Rattle.std.specs.Ordering.{int_cmp, is_gt}
use Rattle.std.specs.List.{filter_map}
use Rattle.dr_meaning.specs.Path.{Step, chain_end}
use Rattle.dr_meaning.specs.Record.{Value, int_value, Node}
use Rattle.dr_meaning.specs.Rows.{value_at}
use Rattle.dr_meaning.specs.Expression.{Expression, constant, path_value, evaluate, is_true}
use Rattle.dr_meaning.specs.Kept.{kept_along}
use Rattle.dr_meaning.specs.Query.{count, sum, expression, within, Object, no_entries, cell, list, no_objects, object, levels_of}
use Rattle.dr_meaning.specs.Walk.{walk, repeated_paths}
use Rattle.dr_moves.specs.Context.{Context}
use Rattle.dr_moves.specs.Condition.{Watch}
use Rattle.dr_kept_laws.specs.ChainNumbers.{chain_numbers}
use Rattle.dr_kept_laws.specs.Frames.{frame_moves}
use Rattle.dr_kept_laws.specs.Telling.{nothing_read}
use Rattle.dr_kept_laws.specs.GroupFlow.{Reading}
use Rattle.dr_kept_laws.proofs.WorkedGroupFlow.{fs, F}
use Rattle.dr_kept_laws.proofs.WorkedRowsOfKept.{a, b, c, d, e, h, x, y, above as above_leaf, some_number, whole, without_g}
use Rattle.dr_made_laws.specs.FramesPartial.{no_frames, all_moves}
use Rattle.dr_made_laws.specs.ObjectFlow.{Made, built, taken, ReadItem, items_of, seen_items, Level, level_count, level_from, left_items}
use Rattle.dr_made_laws.specs.ObjectFlowLaws.{built_of}

-- ---- items; leaves of the selection: x 0, y 1, c 2, d 3, e 4, h 5

-- the value of a leaf
abbrev read_leaf : ℕ → List Step → Reading (Option Value)
read_leaf i p = record { leaf = Some i; fires = λ r. r i; level = chain_end p; means = value_at p }

-- a leaf's value
abbrev plain : List ℕ → ℕ → List Step → ReadItem
plain n i p = record { item = record { name = n; term = expression (path_value p) }; reading = read_leaf i p }

-- the sum of a leaf within a node
abbrev sum_within : List ℕ → ℕ → List Step → List Step → ReadItem
sum_within n i p node = record { item = record { name = n; term = within sum (path_value p) node }; reading = read_leaf i p }

abbrev one : Expression
one = constant (int_value (pos 1))

-- a number, without a leaf
abbrev read_one : Reading (Option Value)
read_one = record { leaf = None; fires = λ r. some_number 1; level = []; means = λ row. some_number 1 }

-- SELECT d, SUM(y) WITHIN a, c, SUM(y) WITHIN b, SUM(y) WITHIN RECORD, 1, COUNT(1) WITHIN RECORD, x
abbrev items : List ReadItem
items = plain (codes "d") 3 d ∷ sum_within (codes "a") 1 y a ∷ plain (codes "c") 2 c ∷ sum_within (codes "b") 1 y b ∷ sum_within (codes "r") 1 y []
    ∷ record { item = record { name = codes "1"; term = expression one }; reading = read_one } ∷ record { item = record { name = codes "n"; term = within count one [] }; reading = read_one }
    ∷ plain (codes "x") 0 x ∷ []

-- ---- the levels: a 1, b 2, y 3, c 4, e 5, h 6

pub numbers_of_levels : repeated_paths fs ≡ a ∷ b ∷ y ∷ c ∷ e ∷ h ∷ []
numbers_of_levels = refl

pub six_levels : level_count (levels_of fs) ≡ 6
six_levels = refl

-- the path of the level with a number
abbrev path_of : Option Level → Option (List Step)
path_of None = None
path_of (Some l) = Some l.path

pub level_paths : map (λ k. path_of (level_from 1 (levels_of fs) k)) (0 ∷ 1 ∷ 2 ∷ 3 ∷ 4 ∷ 5 ∷ 6 ∷ 7 ∷ []) ≡ None ∷ Some a ∷ Some b ∷ Some y ∷ Some c ∷ Some e ∷ Some h ∷ None ∷ []
level_paths = refl

-- ---- what an instance is left with

abbrev left : ℕ → Context → List Made → List Made
left = left_items items (levels_of fs)

abbrev nothing : Context
nothing k = None

-- a b with an x and two y: its sum and its x; the two y go on to its a
pub left_b : left 2 (λ k. some_number 7) (taken 1 (some_number 3) ∷ taken 3 (some_number 3) ∷ taken 1 (some_number 4) ∷ taken 3 (some_number 4) ∷ [])
    ≡ built 2 (cell (codes "b") (some_number 7) (cell (codes "x") (some_number 7) no_entries)) ∷ taken 1 (some_number 3) ∷ taken 1 (some_number 4) ∷ []
left_b = refl

-- a y leads to no item
pub left_y : left 3 nothing (taken 1 (some_number 3) ∷ taken 3 (some_number 3) ∷ []) ≡ taken 1 (some_number 3) ∷ taken 3 (some_number 3) ∷ []
left_y = refl

-- ---- along the walk of records

abbrev number_cell : List ℕ → ℕ → Object → Object
number_cell n k o = cell n (some_number k) o

-- the record's own cells
abbrev of_record : Option Value → Object → Object
of_record v o = cell (codes "r") v (cell (codes "1") (some_number 1) (cell (codes "n") (some_number 1) o))

abbrev c_of : ℕ → Object
c_of k = number_cell (codes "c") k no_entries

-- a b by its sum of y and its x
abbrev b_with : Option Value → ℕ → Object
b_with v k = cell (codes "b") v (number_cell (codes "x") k no_entries)

-- whether a number is greater than another
abbrev is_above : ℕ → Option Value → Bool
is_above n (Some (int_value z)) = is_gt (int_cmp z (pos n))
is_above n v = false

abbrev watch : ℕ → ℕ → List Step → Watch
watch n i p = record { chain = chain_numbers fs p; last = i; test = λ r. is_above n (r i) }

-- what is made by a condition
abbrev made : List ReadItem → Watch → List Node → List Made
made rs w R = (frame_moves (seen_items rs) (left_items rs (levels_of fs)) w nothing_read (walk fs F R) no_frames).made

-- what the condition keeps
abbrev kept_by : ℕ → List Step → List Node → List Node
kept_by n p R = filter_map (kept_along (chain_end p) (λ row. is_true (evaluate (above_leaf n p) row))) R

-- where x > 5
abbrev by_x : Object
by_x = of_record (some_number 254) (list [] (
    object (number_cell (codes "d") 31 (number_cell (codes "a") 71 (list [] (object (b_with (some_number 71) 7) no_objects) (list [] (object (c_of 21) (object (c_of 22) no_objects)) no_entries))))
    (object (cell (codes "d") None (number_cell (codes "a") 183 (list [] (object (b_with None 8) (object (b_with (some_number 183) 9) no_objects)) (list [] no_objects no_entries))))
    no_objects)) no_entries)

pub made_by_x : made items (watch 5 0 x) (whole ∷ []) ≡ built 0 by_x ∷ []
unfolding walk
made_by_x = refl

pub kept_by_x : built_of fs (items_of items) (kept_by 5 x (whole ∷ [])) ≡ built 0 by_x ∷ []
kept_by_x = refl

-- of two records, the second without g and e
pub two_by_x : made items (watch 5 0 x) (whole ∷ without_g ∷ []) ≡ built_of fs (items_of items) (kept_by 5 x (whole ∷ without_g ∷ []))
unfolding walk
two_by_x = refl

-- where d > 32: all that is in the one a
abbrev by_d : Object
by_d = of_record (some_number 33) (list [] (
    object (number_cell (codes "d") 33 (number_cell (codes "a") 33 (list [] (object (b_with None 2) (object (b_with (some_number 33) 3) no_objects)) (list [] (object (c_of 24) no_objects) no_entries))))
    no_objects) no_entries)

pub made_by_d : made items (watch 32 3 d) (whole ∷ without_g ∷ []) ≡ built 0 by_d ∷ []
unfolding walk
made_by_d = refl

-- a record of which all is dropped
pub made_by_none : made items (watch 99 0 x) (whole ∷ without_g ∷ []) ≡ []
unfolding walk
made_by_none = refl

-- where e > 41, a list beside: what isn't on its chain stays
pub made_by_e : made items (watch 41 4 e) (whole ∷ without_g ∷ []) ≡ built_of fs (items_of items) (kept_by 41 e (whole ∷ without_g ∷ []))
unfolding walk
made_by_e = refl

-- ---- without a condition

abbrev all_made : List ReadItem → List Node → List Made
all_made rs R = (all_moves (seen_items rs) (left_items rs (levels_of fs)) (walk fs F R) no_frames).made

pub made_of_all : all_made items (whole ∷ without_g ∷ []) ≡ built_of fs (items_of items) (whole ∷ without_g ∷ [])
unfolding walk
made_of_all = refl

-- SELECT e, SUM(h) WITHIN RECORD, h
abbrev few_items : List ReadItem
few_items = plain (codes "e") 4 e ∷ sum_within (codes "s") 5 h [] ∷ plain (codes "h") 5 h ∷ []

-- e is empty, and h in a group that is absent
pub made_without_g : all_made few_items (without_g ∷ []) ≡ built 0 (cell (codes "s") None (list [] no_objects (list (codes ".") no_objects no_entries))) ∷ []
unfolding walk
made_without_g = refl

pub made_with_g : all_made few_items (whole ∷ [])
    ≡ built 0 (number_cell (codes "s") 103 (list [] (object (number_cell (codes "e") 41 no_entries) (object (number_cell (codes "e") 42 no_entries) no_objects))
    (list (codes ".") (object (number_cell (codes "h") 51 no_entries) (object (number_cell (codes "h") 52 no_entries) no_objects)) no_entries))) ∷ []
unfolding walk
made_with_g = refl

-- without items, and without leaves
pub made_of_none : all_made [] (whole ∷ []) ≡ built 0 no_entries ∷ []
unfolding walk
made_of_none = refl
