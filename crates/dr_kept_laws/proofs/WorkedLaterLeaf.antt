-- Which leaves come first in reading order, by computation.
use Rattle.std.specs.Prelude.{◌≡◌, [], ◌∷◌, true, false, refl}
use Rattle.dr_meaning.specs.Automaton.{reading_order}
use Rattle.dr_kept_laws.specs.LaterLeaf.{comes_first}
use Rattle.dr_kept_laws.proofs.WorkedGroupFlow.{fs, F}

-- d is a leaf of a itself; x is below b, and y below x's level; c, e and h come behind
pub order : reading_order fs F ≡ 3 ∷ 0 ∷ 1 ∷ 2 ∷ 4 ∷ 5 ∷ []
order = refl

pub d_before_x : comes_first 3 0 (reading_order fs F) ≡ true
d_before_x = refl

pub x_not_before_d : comes_first 0 3 (reading_order fs F) ≡ false
x_not_before_d = refl

pub x_before_y : comes_first 0 1 (reading_order fs F) ≡ true
x_before_y = refl

pub d_before_c : comes_first 3 2 (reading_order fs F) ≡ true
d_before_c = refl

pub c_not_before_d : comes_first 2 3 (reading_order fs F) ≡ false
c_not_before_d = refl

-- a leaf comes no later than itself
pub y_with_itself : comes_first 1 1 (reading_order fs F) ≡ true
y_with_itself = refl

-- of two that aren't there
pub neither : comes_first 7 8 (reading_order fs F) ≡ true
neither = refl
