-- The test whose rows all others are spread over reads the last of all leaves that are read.
use Rattle.std.proofs.Common.{◌≡◌, ℕ, zero, suc, ◌<◌, ◌≤◌, List, [], ◌∷◌, ◌++◌, map, length, max, get_or, Option, Some, None, refl, sym, ap, ap₂, ◌∙◌, arith}
use Rattle.std.proofs.lemmas.Bool.Decides.{nat_tests}
use Rattle.dr_meaning.specs.Path.{Step}
use Rattle.dr_plan.specs.declared.expression.Truth.{Truth}
use Rattle.dr_scalar.specs.Leaves.{greater, greatest, truth_leaves, tests_leaves}
use Rattle.dr_scalar.proofs.LastLemmas.{greatest_append}
use Rattle.dr_rows_beside.specs.declared.judging.Test.{Test}
use Rattle.dr_rows_beside.specs.declared.keeping.Keeping.{Keeping}
use Rattle.dr_rows_beside.specs.Makings.{onto_read, reading, AreMadeOf, leaf_at, IsLast, IsKeepingOf}
use Rattle.dr_rows_beside.proofs.MakingLemmas.{leaf_got}

-- ---- those that read a leaf

reading_greatest : (ts : List Truth) → greatest (tests_leaves ts) ≡ greatest (tests_leaves (reading ts))
reading_greatest [] = refl
reading_greatest (t ∷ ts) = greatest_append (truth_leaves t) (tests_leaves ts) ∙ by_leaf (greatest (truth_leaves t)) refl (reading_greatest ts)
  where
    by_leaf : (o : Option ℕ) → greatest (truth_leaves t) ≡ o → greatest (tests_leaves ts) ≡ greatest (tests_leaves (reading ts)) → greater o (greatest (tests_leaves ts)) ≡ greatest (tests_leaves (onto_read o t (reading ts)))
    by_leaf None g e = e
    by_leaf (Some k) g e =
        ap₂ greater (sym g) e ∙ sym (greatest_append (truth_leaves t) (tests_leaves (reading ts)))

abbrev leaves_of : List Test → List ℕ
leaves_of xs = map (λ (x : Test). x.source.leaf) xs

made_greatest : (F : List (List Step)) (ts : List Truth) (xs : List Test) → AreMadeOf F ts xs → greatest (tests_leaves ts) ≡ greatest (leaves_of xs)
made_greatest F [] [] m = refl
made_greatest F [] (x ∷ xs) m = absurd m
made_greatest F (t ∷ ts) [] m = absurd m
made_greatest F (t ∷ ts) (x ∷ xs) m = greatest_append (truth_leaves t) (tests_leaves ts) ∙ ap₂ greater m.0.last (made_greatest F ts xs m.1)

-- ---- the greatest of some numbers

first_greater : (n j : ℕ) → j ≤ n → max n j ≡ n
first_greater n j h = grind (arith, nat_tests)

second_greater : (n j : ℕ) → n ≤ j → max n j ≡ j
second_greater n j h = grind (arith, nat_tests)

abbrev EachAtMost : ℕ → List Test → Type 0
EachAtMost m xs = (i : ℕ) → i < length xs → leaf_at xs i ≤ m

none_greater : (xs : List Test) (m n : ℕ) → EachAtMost m xs → n ≡ m → greater (Some n) (greatest (leaves_of xs)) ≡ Some m
none_greater [] m n h e = ap Some e
none_greater (x ∷ xs) m n h e = by_rest (greatest (leaves_of xs)) (none_greater xs m n (λ i l. h (suc i) (omega (arith, l))) e) (h 0 (omega arith))
  where
    by_rest : (o : Option ℕ) → greater (Some n) o ≡ Some m → x.source.leaf ≤ m → greater (Some n) (greater (Some x.source.leaf) o) ≡ Some m
    by_rest None g l = ap Some (first_greater n x.source.leaf (omega (arith, l, e)) ∙ e)
    by_rest (Some j) g l =
        let z : max n j ≡ m = cc in
        ap Some (grind (arith, nat_tests))

is_greatest : (xs : List Test) (at m : ℕ) → EachAtMost m xs → at < length xs → leaf_at xs at ≡ m → greatest (leaves_of xs) ≡ Some m
is_greatest [] at m h l e = absurd (omega (arith, l))
is_greatest (x ∷ xs) zero m h l e = none_greater xs m x.source.leaf (λ i k. h (suc i) (omega (arith, k))) e
is_greatest (x ∷ xs) (suc at) m h l e =
    ap (greater (Some x.source.leaf)) (is_greatest xs at m (λ i k. h (suc i) (omega (arith, k))) (omega (arith, l)) e)
    ∙ ap Some (second_greater x.source.leaf m (h 0 (omega arith)))

-- ---- a condition made ready

pub own_is_last : (F : List (List Step)) (ts : List Truth) (k : Keeping) → IsKeepingOf F ts k → greatest (tests_leaves ts) ≡ Some k.own.source.leaf
own_is_last F ts k w =
    let own : k.own ≡ get_or w.tests w.at k.own = w.own in
    let leaf : leaf_at w.tests w.at ≡ k.own.source.leaf = leaf_got w.tests w.at k.own w.within ∙ ap (λ (x : Test). x.source.leaf) (sym own) in
    reading_greatest ts ∙ made_greatest F (reading ts) w.tests w.made
    ∙ is_greatest w.tests w.at (leaf_at w.tests w.at) (λ i l. w.last i l) w.within refl
    ∙ ap Some leaf
