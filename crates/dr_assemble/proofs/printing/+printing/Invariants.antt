use Rattle.std.proofs.Common.{◌≡◌, ◌≤◌, ◌+◌, ◌-◌, ◌*◌, ◌++◌, length, drop, false, string_bytes}
use Rattle.std.specs.Prelude.{nat_lt}
use Rattle.dr_meaning.specs.Lists.{separated}
use Rattle.dr_meaning.specs.Schema.{depth, shape_depth}
use Rattle.dr_nested.specs.Views.{shape_view, fields_view}
use Rattle.dr_assemble.specs.Lines.{text_each, text_one, text_members}
use Rattle.dr_assemble.specs.Views.{strips_view}
use Rattle.dr_assemble.proofs.printing.+printing.Given as goal

-- ---- how deep the schema still goes, and then which function calls which at one depth

abbrev pub decreases-push_member : goal.decreases-push_member
decreases-push_member l = 8 * shape_depth (shape_view (l.field.now).shape) + 6

abbrev pub decreases-push_held : goal.decreases-push_held
decreases-push_held l = 8 * shape_depth (shape_view (l.field.now).shape) + 5

abbrev pub decreases-push_each : goal.decreases-push_each
decreases-push_each l = 8 * shape_depth (shape_view l.shape.now) + 4

abbrev pub decreases-push_instance : goal.decreases-push_instance
decreases-push_instance l = 8 * shape_depth (shape_view l.shape.now) + 3

abbrev pub decreases-push_group : goal.decreases-push_group
decreases-push_group l = 8 * depth (fields_view (l.fields.now).items) + 2

abbrev pub decreases-push_members : goal.decreases-push_members
decreases-push_members l = 8 * depth (fields_view (l.fields.now).items) + 1

-- ---- what was printed, before what is left

-- the instances from this one on are still to be printed of what the earlier ones left
abbrev pub invariant-push_each-instances : goal.invariant-push_each-instances
invariant-push_each-instances l =
    let f = text_one (shape_view l.shape) l.level l.definition in
    record {
      lengths : length l.first.items ≡ length l.left.items;
      so_far : string_bytes l.text ++ separated (nat_lt 0 l.done) (text_each f l.level (l.count - l.done) (strips_view l.left.items))
          ≡ string_bytes l.fn.text ++ separated false (text_each f l.level l.count (strips_view l.strips));
    }

-- the members from this field on are still to be printed of the strips from there on
abbrev pub invariant-push_members-fields : goal.invariant-push_members-fields
invariant-push_members-fields l = record {
  within : l.from ≤ length l.strips;
  so_far : string_bytes l.text ++ separated l.behind (text_members (fields_view (drop l.place l.fields.items)) l.place l.level l.definition (strips_view (drop l.from l.strips)))
      ≡ string_bytes l.fn.text ++ separated false (text_members (fields_view l.fields.items) 0 l.level l.definition (strips_view l.strips));
}
