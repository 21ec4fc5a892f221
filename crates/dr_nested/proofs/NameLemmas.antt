-- The bytes of names are ASCII.
use Rattle.std.specs.Prelude.{◌≡◌, ℕ, zero, suc, ◌<◌, ◌&&◌, List, [], ◌∷◌, Bool, true, slice_index, IsUtf8}
use Rattle.std.specs.List.{list_all}
use Rattle.std.proofs.Common.{arith, lit<}
use Rattle.std.proofs.lemmas.Bool.Decides.{nat_tests}
use Rattle.std.proofs.lemmas.Str.{IsUtf8-from_ascii}
use Rattle.dr_meaning.specs.Schema.{continues_name}

both : (a b : Bool) → (a && b) ≡ true → (a ≡ true) × (b ≡ true)
both a b h = grind arith

name_byte_is_ascii : (b : ℕ) → continues_name b ≡ true → b < 128
name_byte_is_ascii b h = grind (arith, nat_tests)

name_is_ascii : (w : List ℕ) → list_all continues_name w ≡ true → (i : ℕ) → slice_index w i < 128
name_is_ascii [] h i = lit< tt
name_is_ascii (b ∷ bs) h zero = name_byte_is_ascii b (both (continues_name b) (list_all continues_name bs) h).0
name_is_ascii (b ∷ bs) h (suc i) = name_is_ascii bs (both (continues_name b) (list_all continues_name bs) h).1 i

pub name_is_utf8 : (w : List ℕ) → list_all continues_name w ≡ true → IsUtf8 w
name_is_utf8 w h = IsUtf8-from_ascii w (name_is_ascii w h)
