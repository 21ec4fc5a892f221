use Rattle.std.proofs.Common.{◌≡◌, replicate}
use Rattle.std.specs.Prelude.{[], Some, option_map}
use Rattle.dr_levels.specs.Views.{lent_value}
use Rattle.dr_group.specs.Groups.{put_of}
use Rattle.dr_group.specs.Maps.{gatherings_view, tuples_view}
use Rattle.dr_columns.specs.Numbers.{HasPut}
use Rattle.dr_columns.proofs.taking.put_times.Given as goal

-- it is put so many times
abbrev pub invariant-times : goal.invariant-times
invariant-times l = record {
  put : HasPut l.initial.groups (replicate l.counter (put_of [] (Some (record { aggregate = l.aggregate; value = option_map lent_value l.value })))) l.groups;
  gatherings : gatherings_view l.groups ≡ gatherings_view l.initial.groups;
  tuples : tuples_view l.groups ≡ tuples_view l.initial.groups;
}
