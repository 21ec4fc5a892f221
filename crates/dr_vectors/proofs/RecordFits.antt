-- Nodes that are records of a schema, and nodes that are none, by computation.
use Rattle.std.specs.Prelude.{◌≡◌, ℕ, List, [], ◌∷◌, map, true, false, ℤ, pos, neg_ℤ, codes, refl}
use Rattle.std.specs.Str.{is_utf8, chars}
use Rattle.dr_meaning.specs.Schema.{Fields, no_fields, field, leaf, group, required, optional, repeated, int32_kind, text_kind}
use Rattle.dr_meaning.specs.Record.{Node, no_slots, slot, gap, Instances, no_instances, instance, single, atom, inner, int_value, text_value, is_record, project}

-- message T { required int32 a; optional group g { repeated string s; } }
abbrev small : Fields
small = field (codes "a") required (leaf int32_kind) (field (codes "g") optional (group (field (codes "s") repeated (leaf text_kind) no_fields)) no_fields)

abbrev numbers : List ℤ → Instances
numbers [] = no_instances
numbers (n ∷ ns) = instance (atom (int_value n)) (numbers ns)

abbrev texts : List (List ℕ) → Instances
texts [] = no_instances
texts (t ∷ ts) = instance (atom (text_value t)) (texts ts)

-- one group, whose field has these texts
abbrev one_group : List (List ℕ) → Instances
one_group ts = single (inner (slot (texts ts) no_slots))

abbrev node : Instances → Instances → Node
node a g = slot a (slot g no_slots)

-- with texts in the group, with none, without the group; the least number of 32 bits, and the greatest
pub fits : map (is_record small) (node (numbers (pos 5 ∷ [])) (one_group (codes "x" ∷ codes "y" ∷ [])) ∷ node (numbers (neg_ℤ (pos 2147483648) ∷ [])) (one_group [])
    ∷ node (numbers (pos 2147483647 ∷ [])) no_instances ∷ []) ≡ true ∷ true ∷ true ∷ []
unfolding is_utf8 chars lib.Utf8.encode
fits = refl

-- a number that is too great or too small; none, and two; a number for a group; a gap; a group for a number; a field too few
pub fits_not : map (is_record small) (node (numbers (pos 2147483648 ∷ [])) no_instances ∷ node (numbers (neg_ℤ (pos 2147483649) ∷ [])) no_instances
    ∷ node no_instances no_instances ∷ node (numbers (pos 1 ∷ pos 2 ∷ [])) no_instances ∷ node (numbers (pos 1 ∷ [])) (numbers (pos 1 ∷ []))
    ∷ slot (numbers (pos 1 ∷ [])) (gap no_slots) ∷ node (one_group []) no_instances ∷ slot (numbers (pos 5 ∷ [])) no_slots ∷ [])
    ≡ false ∷ false ∷ false ∷ false ∷ false ∷ false ∷ false ∷ false ∷ []
fits_not = refl

-- the projection to no leaf has gaps alone
pub projected_to_none : project [] (node (numbers (pos 5 ∷ [])) (one_group (codes "x" ∷ []))) ≡ gap (gap no_slots)
projected_to_none = refl
