-- Bits at the greatest depth.
use Rattle.std.proofs.Common.{◌≡◌, ℕ, List, [], ◌∷◌, Bool, true, false, refl, ap, ap₂, ◌∙◌, arith}
use Rattle.std.specs.Prelude.{◌||◌, if◌then◌else◌}
use Rattle.std.proofs.lemmas.Bool.{and_parts}
use Rattle.dr_rows_beside.specs.Bits.{any_bit, gathered, all_within, GathersItself}

none_behind : (k : ℕ) (rs : List ℕ) (bs : List Bool) → all_within k rs ≡ true → any_bit k rs bs ≡ false
none_behind k [] bs h = refl
none_behind k (r ∷ rs) [] h = refl
none_behind k (r ∷ rs) (b ∷ bs) h = ap (λ (t : Bool). if t then false else b || any_bit k rs bs) (and_parts _ _ h).0

or_none : (b : Bool) → (b || false) ≡ b
or_none true = refl
or_none false = refl

pub gathers_itself : GathersItself
gathers_itself k [] [] h e = refl
gathers_itself k [] (b ∷ bs) h e = absurd (omega (arith, e))
gathers_itself k (r ∷ rs) [] h e = absurd (omega (arith, e))
gathers_itself k (r ∷ rs) (b ∷ bs) h e =
    ap (λ (t : Bool). if t then (b || any_bit k rs bs) ∷ gathered k rs bs else gathered k rs bs) (and_parts _ _ h).0
    ∙ ap₂ (λ (x : Bool) (xs : List Bool). x ∷ xs) (ap (λ (x : Bool). b || x) (none_behind k rs bs (and_parts _ _ h).1) ∙ or_none b) (gathers_itself k rs bs (and_parts _ _ h).1 (omega (arith, e)))
