-- Page bodies that no page of a file has, by computation.
use Rattle.std.specs.Prelude.{◌≡◌, ℕ, [], ◌∷◌, true, false, pos, Some, None, codes, refl}
use Rattle.std.specs.Str.{is_utf8, chars}
use Rattle.dr_meaning.specs.Schema.{Kind, bool_kind}
use Rattle.dr_meaning.specs.Record.{bool_value}
use Rattle.dr_meaning.specs.Column.{triplet}
use Rattle.dr_formats.specs.Hybrid.{hybrid}
use Rattle.dr_formats.specs.Page.{PageShape, data_page_v1, page_triplets}
use Rattle.dr_formats.proofs.Hexadecimal.{hex}

-- the shape of a page of n triplets, its values in this encoding, its repetition levels in that
abbrev shape : Kind → ℕ → ℕ → ℕ → ℕ → ℕ → PageShape
shape k max_r max_d n encoding levels_encoding = record {
  form = data_page_v1;
  triplets = n;
  encoding = pos encoding;
  definition_encoding = pos 3;
  repetition_encoding = pos levels_encoding;
  definition_bytes = 0;
  repetition_bytes = 0;
  kind = k;
  max_repetition = max_r;
  max_definition = max_d;
}

-- a repeated leaf that is always there; its levels in another encoding than RLE; fewer levels than triplets
pub repeated_and_there : (page_triplets (shape bool_kind 1 0 3 0 3) [] (hex (codes "02000000 0306 05"))
    ≡ Some (triplet 0 0 (Some (bool_value true)) ∷ triplet 1 0 (Some (bool_value false)) ∷ triplet 1 0 (Some (bool_value true)) ∷ []))
    × (page_triplets (shape bool_kind 1 0 3 0 0) [] (hex (codes "02000000 0306 05")) ≡ None)
    × (page_triplets (shape bool_kind 1 0 3 0 3) [] (hex (codes "02000000 0602 05")) ≡ None)
unfolding page_triplets hybrid is_utf8 chars lib.Utf8.encode
repeated_and_there = (refl, refl, refl)
