-- Numbers that options have, by computation.
use Rattle.std.specs.Prelude.{◌≡◌, [], ◌∷◌, map, false, Some, None, codes, refl}
use Rattle.dr_words.specs.Numbers.{number_in, is_number_in}

-- a number between 2 and 64, digits alone, behind a plus where there is one; what isn't given or none of these is the other
pub numbers_read : map (number_in 2 64 8) (Some (codes "2") ∷ Some (codes "64") ∷ Some (codes "+007") ∷ Some (codes "10") ∷ None ∷ []) ≡ 2 ∷ 64 ∷ 7 ∷ 10 ∷ 8 ∷ []
numbers_read = refl

pub no_numbers : map (is_number_in 2 64) (codes "1" ∷ codes "65" ∷ [] ∷ codes "+" ∷ codes "++7" ∷ codes "7 " ∷ codes "0x7" ∷ codes "-7" ∷ codes "a" ∷ []) ≡
    false ∷ false ∷ false ∷ false ∷ false ∷ false ∷ false ∷ false ∷ false ∷ []
no_numbers = refl
