use Rattle.std.proofs.Common.{◌≡◌, drop}
use Rattle.dr_meaning.specs.SchemaText.{append_fields}
use Rattle.dr_nested.specs.Views.{fields_view}
use Rattle.dr_sub.specs.ResultFields.{leaves_of, leaves_at}
use Rattle.dr_sub.proofs.fields.push_leaves.Given as goal

-- the leaves from this place on are still to join
abbrev pub invariant-places : goal.invariant-places
invariant-places l =
    append_fields (fields_view l.fields.items) (leaves_at (leaves_of l.items) (drop l.place-index l.places)) ≡ append_fields (fields_view l.fn.fields.items) (leaves_at (leaves_of l.items) l.places)
