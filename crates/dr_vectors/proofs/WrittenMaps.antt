-- The bytes that are written for a map that no bytes are read as, by computation.
use Rattle.std.specs.Prelude.{◌≡◌, [], ◌∷◌, true, false, pos, codes, refl}
use Rattle.dr_formats.specs.Compact.{stop, struct_field, truth_item, byte_item, struct_bytes, false_type, byte_type}
use Rattle.dr_compact.specs.Views.{map_from}
use Rattle.dr_formats.proofs.Hexadecimal.{hex}

-- a map of two keys and one value, as no bytes spell one: what has no partner is left out
pub map_without_partners : struct_bytes (struct_field (pos 20) (map_from (record { element = false_type; values = truth_item true ∷ truth_item false ∷ [] })
    (record { element = byte_type; values = byte_item 7 ∷ [] })) stop) ≡ hex (codes "0B 28 01 23 01 07 00")
unfolding struct_bytes
map_without_partners = refl
