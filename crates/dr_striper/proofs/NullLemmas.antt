-- Levels without a value.
use Rattle.std.proofs.Common.{◌≡◌, ◌≤◌, ◌-◌, ℕ, suc, List, [], ◌∷◌, take, drop, Bool, true, false, None, refl, sym, ap, ◌∙◌, subst, arith}
use Rattle.std.specs.Prelude.{◌==◌, if◌then◌else◌, Result}
use Rattle.std.proofs.lemmas.List.{drop-take, drop-map}
use Rattle.dr_memory.specs.declared.NoMemory.{NoMemory}
use Rattle.dr_meaning.specs.Column.{Triplet, triplet}
use Rattle.dr_levels.specs.declared.triplet.Levels.{Levels}
use Rattle.dr_levels.specs.Dense.{present, joined, first_of}
use Rattle.dr_levels.specs.Columns.{Adds}
use Rattle.dr_striper.specs.Views.{null_of, nulls}

one-null : (b : Bool) (n : ℕ) (l : Levels) (ts us : List Triplet) → (n ≡ 0 → ts ≡ us) → (if b then suc n else n) ≡ 0 → (if b then triplet l.repetition l.definition (first_of []) ∷ ts else triplet l.repetition l.definition None ∷ ts) ≡ null_of l ∷ us
one-null true n l ts us f e = absurd (omega (arith, e))
one-null false n l ts us f e = ap (λ (xs : List Triplet). null_of l ∷ xs) (f e)

pub joined-nulls : (g : ℕ) (ls : List Levels) → present g ls ≡ 0 → joined g ls [] ≡ nulls ls
joined-nulls g [] e = refl
joined-nulls g (l ∷ ls) e = one-null (l.definition == g) (present g ls) l (joined g ls []) (nulls ls) (joined-nulls g ls) e

pub adds-same : {A : Type 0} (x : Result (Unit {0}) NoMemory) (old new more other : List A) → more ≡ other → Adds old new more x → Adds old new other x
adds-same x old new more other e h = subst (λ ts. Adds old new ts x) e h

-- what lies between two places, as the rest of a front
pub nulls-between : (n m : ℕ) (ls : List Levels) → n ≤ m → nulls (take (m - n) (drop n ls)) ≡ drop n (nulls (take m ls))
nulls-between n m ls h =
    ap nulls (sym (drop-take n (m - n) ls) ∙ ap (λ (k : ℕ). drop n (take k ls)) (omega (arith, h))) ∙ sym (drop-map null_of n (take m ls))
