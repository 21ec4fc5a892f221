-- What moves make by a flag for each branch, and fronts of chains, by computation.
use Rattle.std.specs.Prelude.{◌≡◌, ℕ, ◌*◌, List, [], ◌∷◌, ◌++◌, map, Bool, true, false, Option, Some, None, pos, refl}
use Rattle.dr_meaning.specs.Record.{Value, int_value}
use Rattle.dr_meaning.specs.Column.{triplet}
use Rattle.dr_moves.specs.Context.{Context}
use Rattle.dr_moves.specs.Tour.{Tour, over, saw, inside}
use Rattle.dr_kept_laws.specs.FlaggedFlow.{branch_count, flagged_flow, flags_of}
use Rattle.dr_kept_laws.specs.Leavings.{Leaving}
use Rattle.dr_kept_laws.specs.OpenNumbers.{is_front, rest_open}
use Rattle.dr_meaning.specs.Lists.{first_answer}

abbrev number : ℕ → Option Value
number n = Some (int_value (pos n))

-- a triplet of leaf 0
abbrev sees : ℕ → Tour → Tour
sees n T = saw 0 (triplet 0 1 (number n)) T

-- a record with two branches, of which the first has one in it
abbrev tour : Tour
tour = inside 0 (sees 1 (inside 3 (sees 2 (inside 4 (sees 3 over) (sees 4 over))) (inside 3 (sees 5 over) (sees 6 over)))) (sees 7 over)

pub counted : (branch_count tour ≡ 4) × (branch_count over ≡ 0) × (branch_count (sees 1 over) ≡ 0) × (branch_count (inside 3 over (inside 3 over over)) ≡ 2)
counted = (refl, refl, refl, refl)

-- each value that is read; behind each branch that is left, its number
abbrev made : List Bool → List (Option Value)
made flags = flagged_flow (λ i (d : Context). d i ∷ []) (λ k d ms. ms ++ number (100 * k) ∷ []) flags (λ i. None) tour

-- one flag for each branch in the order in which they are left: the inner one, the two of the field 3, the record
pub none_dropped : made (false ∷ false ∷ false ∷ false ∷ []) ≡
    number 1 ∷ number 2 ∷ number 3 ∷ number 400 ∷ number 4 ∷ number 300 ∷ number 5 ∷ number 300 ∷ number 6 ∷ number 0 ∷ number 7 ∷ []
none_dropped = refl

pub some_dropped : (made (true ∷ false ∷ false ∷ false ∷ []) ≡ number 1 ∷ number 2 ∷ number 4 ∷ number 300 ∷ number 5 ∷ number 300 ∷ number 6 ∷ number 0 ∷ number 7 ∷ [])
    × (made (false ∷ true ∷ false ∷ false ∷ []) ≡ number 1 ∷ number 5 ∷ number 300 ∷ number 6 ∷ number 0 ∷ number 7 ∷ [])
    × (made (false ∷ false ∷ true ∷ false ∷ []) ≡ number 1 ∷ number 2 ∷ number 3 ∷ number 400 ∷ number 4 ∷ number 300 ∷ number 6 ∷ number 0 ∷ number 7 ∷ [])
    × (made (false ∷ false ∷ false ∷ true ∷ []) ≡ number 7 ∷ [])
some_dropped = (refl, refl, refl, refl)

-- a branch without a flag isn't dropped
pub no_flag : (first_answer [] ≡ false) × (made [] ≡ made (false ∷ false ∷ false ∷ false ∷ []))
no_flag = (refl, refl)

pub flags : flags_of (record { number = 4; dropped = true } ∷ record { number = 0; dropped = false } ∷ []) ≡ true ∷ false ∷ []
flags = refl

-- a front is the first numbers of a list, or all of them, and no more
pub fronts : map (λ K. is_front K (0 ∷ 3 ∷ 4 ∷ [])) ([] ∷ (0 ∷ []) ∷ (0 ∷ 3 ∷ 4 ∷ []) ∷ (3 ∷ []) ∷ (0 ∷ 4 ∷ []) ∷ (0 ∷ 3 ∷ 4 ∷ 5 ∷ []) ∷ []) ≡ true ∷ true ∷ true ∷ false ∷ false ∷ false ∷ []
fronts = refl

pub left_open : (rest_open (4 ∷ 3 ∷ 0 ∷ []) ≡ 3 ∷ 0 ∷ []) × (rest_open [] ≡ [])
left_open = (refl, refl)
