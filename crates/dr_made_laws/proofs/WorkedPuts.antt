-- What is put into groups over two records, by computation.
use Rattle.std.specs.Prelude.{◌≡◌, ℕ, zero, suc, List, [], ◌∷◌, Bool, true, false, Option, None, Some, pos, refl}
use Rattle.std.specs.Ordering.{int_cmp, is_gt}
use Rattle.std.specs.List.{filter_map}
use Rattle.dr_meaning.specs.Path.{Step, paths_of_leaves, chain_end}
use Rattle.dr_meaning.specs.Record.{Value, int_value, Node}
use Rattle.dr_meaning.specs.Expression.{path_value, longest_chain}
use Rattle.dr_meaning.specs.Kept.{kept}
use Rattle.dr_meaning.specs.Query.{sum, key, count_rows, aggregate, GroupItem, groups, Query}
use Rattle.dr_meaning.specs.QueryLeaves.{query_leaves}
use Rattle.dr_meaning.specs.Automaton.{reading_order}
use Rattle.dr_meaning.specs.Walk.{walk}
use Rattle.dr_moves.specs.Condition.{Watch}
use Rattle.dr_kept_laws.specs.ChainNumbers.{chain_numbers}
use Rattle.dr_kept_laws.specs.Frames.{frame_moves}
use Rattle.dr_kept_laws.specs.Telling.{nothing_read}
use Rattle.dr_kept_laws.specs.GroupFlow.{Reading, all_fired, all_left, left_with}
use Rattle.dr_kept_laws.specs.GroupFlowLaws.{all_means}
use Rattle.dr_kept_laws.proofs.WorkedRowsOfKept.{c, d, e, h, x, y, some_number, above, whole, without_g}
use Rattle.dr_kept_laws.proofs.WorkedGroupFlow.{fs}
use Rattle.dr_partials.specs.Accumulators.{Accumulator, counted, summed}
use Rattle.dr_partials.specs.Partials.{Group, grouped, partial_of, empty_partial}
use Rattle.dr_partials.specs.PartialLaws.{all_related}
use Rattle.dr_partials.specs.Putting.{Put, put, put_all, puts_of}
use Rattle.dr_made_laws.specs.LastRead.{paths_at, greatest}
use Rattle.dr_made_laws.specs.Readings.{Trigger, group_readings}
use Rattle.dr_made_laws.specs.FramesPartial.{no_frames, all_moves}

-- ---- leaves in reading order: d 0, x 1, y 2, c 3, e 4, h 5

abbrev F : List (List Step)
F = d ∷ x ∷ y ∷ c ∷ e ∷ h ∷ []

pub in_order : reading_order fs F ≡ 0 ∷ 1 ∷ 2 ∷ 3 ∷ 4 ∷ 5 ∷ []
in_order = refl

pub no_greatest : greatest [] ≡ None
no_greatest = refl

pub greatest_behind : greatest (0 ∷ 3 ∷ []) ≡ Some 3
greatest_behind = refl

pub greatest_before : greatest (2 ∷ 0 ∷ 1 ∷ 2 ∷ []) ≡ Some 2
greatest_before = refl

-- d is beside the list c of its a, and y's list is in a b: the later has the longest chain
pub d_with_c : paths_at F (3 ∷ 0 ∷ []) ≡ c ∷ d ∷ []
d_with_c = refl

pub related : all_related (paths_at F (3 ∷ 0 ∷ [])) ≡ true
related = refl

pub c_is_longest : longest_chain (paths_at F (3 ∷ 0 ∷ [])) ≡ chain_end c
c_is_longest = refl

pub y_is_longest : longest_chain (paths_at F (0 ∷ 1 ∷ 2 ∷ [])) ≡ chain_end y
y_is_longest = refl

-- x and c are in lists beside one another
pub unrelated : all_related (paths_at F (1 ∷ 3 ∷ [])) ≡ false
unrelated = refl

-- ---- SELECT d, COUNT(*), SUM(c) .. WHERE 5 < x GROUP BY d

abbrev items : List GroupItem
items = record { name = []; term = key 0 } ∷ record { name = []; term = count_rows } ∷ record { name = []; term = aggregate sum (path_value c) } ∷ []

abbrev q : Query
q = record { condition = Some (above 5 x); selection = groups (d ∷ []) items }

-- its leaves, in reading order
pub leaves_in_order : paths_of_leaves (query_leaves fs q) ≡ d ∷ x ∷ c ∷ []
unfolding query_leaves
leaves_in_order = refl

abbrev G : List (List Step)
G = d ∷ x ∷ c ∷ []

abbrev records : List Node
records = whole ∷ without_g ∷ []

-- ---- its readings: at each d its group, and a row; at each c a value

abbrev a_put : Option Value → Put
a_put k = record { keys = k ∷ []; taken = None }

abbrev a_value : Option Value → ℕ → Option Value → Put
a_value k i v = record { keys = k ∷ []; taken = Some (record { aggregate = i; value = v }) }

abbrev first : Trigger
first = record { leaf = Some 0; fires = λ r. a_put (r 0) }

abbrev each : ℕ → Trigger
each zero = record { leaf = Some 0; fires = λ r. a_value (r 0) 0 None }
each (suc i) = record { leaf = Some 2; fires = λ r. a_value (r 0) (suc i) (r 2) }

abbrev readings : List (Reading Put)
readings = group_readings (d ∷ []) items first each

-- of a record with two a that are kept, of which the first has d 31 and c 21 and 22, and the second neither
pub meant : all_means readings (filter_map (kept q.condition) (whole ∷ []))
    ≡ a_put (some_number 31) ∷ a_put None ∷ a_value (some_number 31) 0 None ∷ a_value None 0 None ∷ a_value (some_number 31) 1 (some_number 21)
    ∷ a_value (some_number 31) 1 (some_number 22) ∷ a_value None 1 None ∷ []
meant = refl

pub put_of_record : puts_of q (whole ∷ []) ≡ all_means readings (filter_map (kept q.condition) (whole ∷ []))
put_of_record = refl

-- ---- the partial of both records

abbrev a_group : Option Value → List Accumulator → Group
a_group k xs = record { keys = k ∷ []; accumulators = xs }

abbrev watch : Watch
watch = record { chain = chain_numbers fs x; last = 1; test = λ r. is_above (r 1) }
  where
    is_above : Option Value → Bool
    is_above (Some (int_value z)) = is_gt (int_cmp z (pos 5))
    is_above v = false

abbrev made : List Put
made = (frame_moves (all_fired readings) (left_with (all_left readings)) watch nothing_read (walk fs G records) no_frames).made

pub along_moves : put_all q made (empty_partial q)
    ≡ grouped (a_group None (counted 1 ∷ summed None ∷ []) ∷ a_group (some_number 31) (counted 2 ∷ summed (Some (pos 86)) ∷ []) ∷ [])
unfolding walk put empty_partial
along_moves = refl

pub of_both : partial_of fs q records
    ≡ grouped (a_group None (counted 1 ∷ summed None ∷ []) ∷ a_group (some_number 31) (counted 2 ∷ summed (Some (pos 86)) ∷ []) ∷ [])
unfolding partial_of
of_both = refl

-- without a condition no branch is dropped
abbrev whole_query : Query
whole_query = record q { condition = None }

abbrev all_made : List Put
all_made = (all_moves (all_fired readings) (left_with (all_left readings)) (walk fs G records) no_frames).made

pub along_all_moves : put_all whole_query all_made (empty_partial whole_query) ≡ partial_of fs whole_query records
unfolding walk put empty_partial partial_of
along_all_moves = refl

-- where it keeps no record nothing is put
abbrev none_query : Query
none_query = record q { condition = Some (above 99 x) }

pub of_none : partial_of fs none_query records ≡ grouped []
unfolding partial_of
of_none = refl

-- puts in another order
pub other_order : put_all q (a_value None 1 (some_number 2) ∷ a_put (some_number 31) ∷ a_value None 1 (some_number 3) ∷ []) (empty_partial q)
    ≡ put_all q (a_value None 1 (some_number 3) ∷ a_value None 1 (some_number 2) ∷ a_put (some_number 31) ∷ []) (empty_partial q)
unfolding put empty_partial
other_order = refl
