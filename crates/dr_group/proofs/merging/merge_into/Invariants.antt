use Rattle.std.proofs.Common.{◌≤◌, ◌+◌, ◌++◌, ◌^◌, length, map, vec_len, vec_capacity}
use Rattle.dr_partials.specs.Partials.{merge_groups}
use Rattle.dr_group.specs.Groups.{group_view, picked}
use Rattle.dr_group.proofs.TurnLemmas.{Left}
use Rattle.dr_group.proofs.merging.merge_into.Given as goal

-- what is left is still to be merged, and there is room for it
abbrev pub invariant-turns : goal.invariant-turns
invariant-turns l =
    Left (2 ^ 60) l.mine.items l.my_rest l.theirs.items l.their_rest l.merged.items
    (map group_view l.fn.merged.items ++ merge_groups (picked l.fn.mine.items l.fn.my_order) (picked l.fn.theirs.items l.fn.their_order))
    × (vec_len l.merged + length l.my_rest + length l.their_rest ≤ vec_len l.fn.merged + length l.fn.my_order + length l.fn.their_order)
    × (vec_capacity l.fn.merged ≤ vec_capacity l.merged)

abbrev pub decreases-turns : goal.decreases-turns
decreases-turns l = length l.my_rest + length l.their_rest
