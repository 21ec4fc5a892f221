use Rattle.std.proofs.Common.{◌≤◌, ◌+◌, ◌-◌, ◌*◌, [], map, length}
use Rattle.std.specs.Prelude.{IsSome}
use Rattle.dr_meta.specs.Views.{item_view}
use Rattle.dr_nested.specs.Views.{field_view}
use Rattle.dr_open.specs.Places.{passed}
use Rattle.dr_open.specs.Opens.{fields_part}
use Rattle.dr_open.proofs.PassingLemmas.{from_place}
use Rattle.dr_open.proofs.OpeningLemmas.{Opening}
use Rattle.dr_open.proofs.opening.+opening.Given as goal

-- a group, each field of it, and that field's shape, for each part of a path
abbrev pub decreases-open_shape : goal.decreases-open_shape
decreases-open_shape l = 3 * l.depth

abbrev pub decreases-open_field : goal.decreases-open_field
decreases-open_field l = 3 * l.depth + 1

abbrev pub decreases-open_fields : goal.decreases-open_fields
decreases-open_fields l = 3 * l.depth + 2

-- the open part of the fields so far and of those still to come is the whole
abbrev pub invariant-open_fields-fields : goal.invariant-open_fields-fields
invariant-open_fields-fields l = record {
  within : l.elements ≤ length l.items;
  are_fields : IsSome (passed (l.fn.fields - l.counter) (from_place l.elements l.items));
  opening : Opening l.earlier (map field_view l.opened.items) l.fn.depth l.left (l.fn.fields - l.counter) (from_place l.elements l.items) (fields_part [] l.fn.depth l.fn.room l.fn.fields (map item_view l.items));
}
