use Rattle.std.proofs.Common.{◌≡◌, drop}
use Rattle.dr_meaning.specs.Path.{named_field}
use Rattle.dr_nested.specs.Views.{fields_view}
use Rattle.dr_resolve.proofs.resolving.find_field.Given as goal

-- the name is still to be found among the fields from this place on
abbrev pub invariant-fields : goal.invariant-fields
invariant-fields l = named_field l.name l.place (fields_view (drop l.place l.fields.items)) ≡ named_field l.name 0 (fields_view l.fields.items)
