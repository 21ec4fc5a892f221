-- Groups that are moved from the front of an order.
use Rattle.std.specs.Prelude.{◌≡◌, ◌<◌, ℕ, zero, suc, ◌+◌, List, [], ◌∷◌, ◌++◌, map, length, drop, get_or, true, nat_lt}
use Rattle.std.specs.List.{list_all, range_with_len}
use Rattle.std.proofs.Common.{sym, ap, ap₂, ◌∙◌, arith, add-one}
use Rattle.std.proofs.Math.ListN.{set}
use Rattle.std.proofs.lemmas.Bool.{and_parts, ltb-true}
use Rattle.std.proofs.lemmas.List.{map-set, length-map}
use Rattle.dr_partials.proofs.GroupLemmas.{ascending_groups}
use Rattle.dr_group.specs.Groups.{group_view, picked}
use Rattle.dr_group.specs.Merging.{are_numbers, AreAscending}
use Rattle.dr_group.specs.declared.group.Group.{Group}
use Rattle.dr_group.proofs.PickLemmas.{picks, picks_past}

-- the numbers from 0 on, one more
range_more : (a n : ℕ) → range_with_len a (suc n) ≡ range_with_len a n ++ (a + n) ∷ []
range_more a zero = ap (λ k. k ∷ []) (no_more a)
  where
    no_more : (a : ℕ) → a ≡ a + 0
    no_more a = omega arith
range_more a (suc n) = ap (λ (ks : List ℕ). a ∷ ks) (range_more (a + 1) n ∙ ap (λ k. range_with_len (a + 1) n ++ k ∷ []) (one_later a n))
  where
    one_later : (a n : ℕ) → a + 1 + n ≡ a + suc n
    one_later a n = omega arith

pub numbers_more : (ks after : List ℕ) (n m : ℕ) → ks ≡ range_with_len 0 n → m ≡ n → after ≡ ks ++ m ∷ [] → after ≡ range_with_len 0 (n + 1)
numbers_more ks after n m e f g = g ∙ ap₂ (λ (xs : List ℕ) k. xs ++ k ∷ []) e (f ∙ from_zero n) ∙ sym (rw (add-one n) (range_more 0 n))
  where
    from_zero : (n : ℕ) → n ≡ 0 + n
    from_zero n = omega arith

-- those behind the first stay where it is taken out
pub left_behind : (gs hs : List Group) (order : List ℕ) (d : ℕ) (g : Group) → hs ≡ set gs (get_or order 0 d) g → 0 < length order → are_numbers gs order ≡ true → AreAscending (picked gs order)
    → picked hs (drop 1 order) ≡ drop 1 (picked gs order)
left_behind gs hs [] d g e h a c = absurd (omega (arith, h))
left_behind gs hs (i ∷ order) d g e h a c =
    let inside : i < length gs = ltb-true i (length gs) (and_parts (nat_lt i (length gs)) (list_all (λ i. nat_lt i (length gs)) order) a).0 in
    ap (λ (xs : List Group). picked xs order) e
    ∙ ap (λ vs. picks vs order) (map-set group_view gs i g)
    ∙ picks_past (map group_view gs) order i (group_view g) (omega (arith, inside, length-map gs group_view)) (ascending_groups (picked gs (i ∷ order)) c).0
