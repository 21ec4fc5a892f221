-- Where a group can be looked for.
use Rattle.std.specs.Prelude.{◌≡◌, ◌<◌, length, Option, Some, None, ⊤}
use Rattle.dr_group.specs.declared.group_map.GroupMap.{GroupMap}
use Rattle.dr_group.specs.declared.ordered_index.OrderedIndex.{OrderedIndex}

-- all groups are indexed by their hashes, and there are buckets
abbrev pub IsIndexed : GroupMap → Type 0
IsIndexed m = (0 < length m.index.heads.items) × (length m.index.links.items ≡ length m.groups.items)

-- all are in order, as a map's type says; or else indexed by their hashes
abbrev pub UnlessOrdered : Option OrderedIndex → Type 0 → Type 0
UnlessOrdered None P = P
UnlessOrdered (Some o) P = ⊤

abbrev pub IsReady : GroupMap → Type 0
IsReady m = UnlessOrdered m.ordered (IsIndexed m)
