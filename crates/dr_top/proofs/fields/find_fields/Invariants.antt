use Rattle.std.proofs.Common.{◌≡◌, [], map, drop, string_bytes}
use Rattle.dr_meaning.specs.Fsm.{named_leaves}
use Rattle.dr_nested.specs.Views.{fields_view}
use Rattle.dr_nested.specs.PathView.{path_view}
use Rattle.dr_top.proofs.fields.find_fields.Given as goal

-- the words from this one on are still to be found
abbrev pub invariant-texts : goal.invariant-texts
invariant-texts l =
    named_leaves (fields_view l.schema.fields.items) (map path_view l.leaves.items) l.number (map string_bytes (drop l.number l.texts))
    ≡ named_leaves (fields_view l.schema.fields.items) [] 0 (map string_bytes l.texts)
