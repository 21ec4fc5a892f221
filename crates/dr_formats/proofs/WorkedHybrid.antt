-- Hybrid data, by computation.
use Rattle.std.specs.Prelude.{◌≡◌, [], ◌∷◌, replicate, Some, None, refl}
use Rattle.dr_formats.specs.Hybrid.{hybrid, hybrid_bytes}

-- one packed group of width 3
pub eight_packed : hybrid 3 8 (3 ∷ 136 ∷ 198 ∷ 250 ∷ []) ≡ Some (0 ∷ 1 ∷ 2 ∷ 3 ∷ 4 ∷ 5 ∷ 6 ∷ 7 ∷ [])
unfolding hybrid
eight_packed = refl

pub five_packed : hybrid 3 5 (3 ∷ 136 ∷ 198 ∷ 250 ∷ []) ≡ Some (0 ∷ 1 ∷ 2 ∷ 3 ∷ 4 ∷ [])
unfolding hybrid
five_packed = refl

pub nine_are_not_there : hybrid 3 9 (3 ∷ 136 ∷ 198 ∷ 250 ∷ []) ≡ None
unfolding hybrid
nine_are_not_there = refl

-- a packed run needs only the bytes that hold wanted values
pub five_of_cut_group : hybrid 3 5 (3 ∷ 136 ∷ 198 ∷ []) ≡ Some (0 ∷ 1 ∷ 2 ∷ 3 ∷ 4 ∷ [])
unfolding hybrid
five_of_cut_group = refl

pub six_of_cut_group : hybrid 3 6 (3 ∷ 136 ∷ 198 ∷ []) ≡ None
unfolding hybrid
six_of_cut_group = refl

-- a repeat of eight
pub eight_fives : hybrid 3 8 (16 ∷ 5 ∷ []) ≡ Some (replicate 8 5)
unfolding hybrid
eight_fives = refl

-- a repeat of none
pub none_wanted : hybrid 3 0 (0 ∷ []) ≡ Some []
unfolding hybrid
none_wanted = refl

pub one_wanted : hybrid 3 1 (0 ∷ []) ≡ None
unfolding hybrid
one_wanted = refl

-- width 0 takes no bytes
pub eight_zeros : hybrid 0 8 (16 ∷ []) ≡ Some (replicate 8 0)
unfolding hybrid
eight_zeros = refl

-- what is written: the levels of a column of five triplets, and of eight equal ones
pub written_group : hybrid_bytes 2 (3 ∷ 2 ∷ 1 ∷ 3 ∷ 1 ∷ []) ≡ 3 ∷ 219 ∷ 1 ∷ []
unfolding hybrid_bytes
written_group = refl

pub written_repeat : hybrid_bytes 3 (replicate 8 5) ≡ 16 ∷ 5 ∷ []
unfolding hybrid_bytes
written_repeat = refl

-- nine values of which the last are equal: a group of eight, then a repeat of one
pub written_both : hybrid_bytes 3 (0 ∷ 1 ∷ 2 ∷ 3 ∷ 4 ∷ 5 ∷ 6 ∷ 7 ∷ 7 ∷ []) ≡ 3 ∷ 136 ∷ 198 ∷ 250 ∷ 2 ∷ 7 ∷ []
unfolding hybrid_bytes
written_both = refl
