use Rattle.std.proofs.Common.{◌≡◌, ◌++◌, length, take}
use Rattle.dr_scalar.specs.Slots.{slot_value}
use Rattle.dr_within.specs.Takings.{all_read, takings_view}
use Rattle.dr_within.specs.Late.{IsWhole, rows_of}
use Rattle.dr_within.proofs.putting.keep_each.Given as goal

-- behind what was there come the rows of the takings so far
abbrev pub invariant-takings : goal.invariant-takings
invariant-takings l =
    record {
      rows : IsWhole l.initial.late → l.initial.late.width ≡ length l.keys
          → rows_of l.late ≡ rows_of l.initial.late ++ all_read l.keys (takings_view (take l.taking-index l.takings)) (slot_value l.slots);
      whole : IsWhole l.initial.late → l.initial.late.width ≡ length l.keys → IsWhole l.late;
      width : l.late.width ≡ l.initial.late.width;
    }
