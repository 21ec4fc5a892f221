-- Rows of which the bit is set.
use Rattle.std.proofs.Common.{◌≡◌, ℕ, List, [], ◌∷◌, map, Bool, true, false, Option, Some, None, refl, sym, ap, ◌∙◌, true≢false}
use Rattle.std.specs.Prelude.{if◌then◌else◌}
use Rattle.dr_meaning.specs.Record.{Value}
use Rattle.dr_rows_beside.specs.Rows.{Row, NextRow, picked, IsFirstBit}

pub picked_none : {A : Type 0} (bs : List Bool) → picked {A = A} bs [] ≡ []
picked_none [] = refl
picked_none (b ∷ bs) = refl

-- the first one comes
pub picked_first : {A : Type 0} (bs rest : List Bool) (b : Bool) (x : A) (xs : List A) → IsFirstBit bs b rest → b ≡ true → picked bs (x ∷ xs) ≡ x ∷ picked rest xs
picked_first [] rest b x xs h e = ap (λ (cs : List Bool). x ∷ picked cs xs) (sym h.1)
picked_first (c ∷ bs) rest b x xs h e =
    ap (λ (d : Bool). if d then x ∷ picked bs xs else picked bs xs) (sym h.0 ∙ e) ∙ ap (λ (cs : List Bool). x ∷ picked cs xs) (sym h.1)

-- it doesn't
pub picked_past : {A : Type 0} (bs rest : List Bool) (b : Bool) (x : A) (xs : List A) → IsFirstBit bs b rest → b ≡ false → picked bs (x ∷ xs) ≡ picked rest xs
picked_past [] rest b x xs h e = absurd (true≢false (sym h.0 ∙ e))
picked_past (c ∷ bs) rest b x xs h e =
    ap (λ (d : Bool). if d then x ∷ picked bs xs else picked bs xs) (sym h.0 ∙ e) ∙ ap (λ (cs : List Bool). picked cs xs) (sym h.1)

-- no row is left
pub no_more_rows : (before after : List Row) (slots : List (Option Value)) (o : Option ℕ) (bs : List Bool) → NextRow before after slots o → ((r : ℕ) → o ≡ Some r → ⊥) → picked bs before ≡ []
no_more_rows before after slots None bs n h = ap (λ (rs : List Row). picked bs rs) n ∙ picked_none bs
no_more_rows before after slots (Some r) bs n h = absurd (h r refl)

-- what is made of each
pub picked_map : {A B : Type 0} (f : A → B) (bs : List Bool) (xs : List A) → map f (picked bs xs) ≡ picked bs (map f xs)
picked_map f [] xs = refl
picked_map f (b ∷ bs) [] = refl
picked_map f (true ∷ bs) (x ∷ xs) = ap (λ ys. f x ∷ ys) (picked_map f bs xs)
picked_map f (false ∷ bs) (x ∷ xs) = picked_map f bs xs
