use Rattle.std.proofs.Common.{◌≡◌, ◌≤◌, ◌-◌, ℕ, List, ◌∷◌, map, length, drop}
use Rattle.std.specs.Prelude.{IsSome}
use Rattle.dr_meaning.specs.Path.{Leaf}
use Rattle.dr_meta.specs.Views.{item_view}
use Rattle.dr_open.specs.Places.{passed, place_among, behind_leaves}
use Rattle.dr_open.specs.Sources.{first_named}
use Rattle.dr_open.proofs.skipping.field_named.Given as goal

-- a leaf that begins with the name stands among the fields still to come
abbrev pub invariant-fields : goal.invariant-fields
invariant-fields l = record {
  in_list : l.at ≤ length l.items;
  within : l.before ≤ l.at;
  are_fields : IsSome (passed (l.fn.fields - l.counter) (map item_view (drop l.at l.items)));
  same : (f : Leaf) (ns : List (List ℕ)) → f.names ≡ l.name ∷ ns → place_among f l.fn.fields (map item_view l.items) ≡ behind_leaves l.before (place_among f (l.fn.fields - l.counter) (map item_view (drop l.at l.items)));
  named : first_named l.name l.fn.fields (map item_view l.items) ≡ first_named l.name (l.fn.fields - l.counter) (map item_view (drop l.at l.items));
}
