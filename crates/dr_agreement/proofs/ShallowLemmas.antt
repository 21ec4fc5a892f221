-- Levels of a leaf that has few repeated fields.
use Rattle.std.proofs.Common.{◌≡◌, ℕ, zero, suc, ◌+◌, ◌<◌, ◌≤◌, List, [], ◌∷◌, map, length, take, drop, get_or, Bool, true, false, ◌&&◌, ◌⊎◌, inl, inr, refl, sym, ap, ap₂, ◌∙◌, true≢false, arith}
use Rattle.std.specs.Prelude.{nat_le}
use Rattle.std.proofs.lemmas.Bool.{cases_lt}
use Rattle.std.proofs.lemmas.Bool.Decides.{nat_tests}
use Rattle.dr_meaning.specs.Path.{Step, Leaf, max_repetition}
use Rattle.dr_levels.specs.Views.{levels_pair}
use Rattle.dr_levels.specs.declared.triplet.Levels.{Levels}
use Rattle.dr_agreement.specs.Alone.{least_levels, may_stand, each_may_stand, shallow_least, IsShallowOf, IsTestOf}
use Rattle.dr_levels.specs.Apart.{definitions, repetitions}
use Rattle.dr_agreement.specs.declared.column_of_leaf.LeafTest.{LeafTest}
use Rattle.dr_agreement.specs.declared.shallow.Shallow.{Shallow}
use Rattle.dr_agreement.proofs.AloneLemmas.{least_count, stand_more, stands_by, stands_not}
use Rattle.dr_levels.proofs.ApartLemmas.{as_many, definition_at, repetition_at}

is_le : (a b : ℕ) → a ≤ b → nat_le a b ≡ true
is_le a b h = grind (arith, nat_tests)

is_not_le : (a b : ℕ) → b < a → nat_le a b ≡ false
is_not_le a b h = grind (arith, nat_tests)

-- ---- one triplet's levels

pub shallow_stands : (p : List Step) (x : Shallow) (before r d least : ℕ) → IsShallowOf p x → least ≡ shallow_least x r
    → (nat_le r x.most && ((nat_le least before && nat_le least d) && nat_le d x.greatest)) ≡ may_stand p before (r, d)
shallow_stands p x before r d least h e = by_side (cases_lt (max_repetition p) r)
  where
    rest : Bool
    rest = (nat_le least before && nat_le least d) && nat_le d x.greatest

    by_side : (max_repetition p < r) ⊎ (r ≤ max_repetition p) → (nat_le r x.most && rest) ≡ may_stand p before (r, d)
    by_side (inl z) =
        let m : nat_le r x.most ≡ false = is_not_le r x.most (omega (arith, z, h.most)) in
        ap (λ (b : Bool). b && rest) m ∙ stands_not p before r d (omega (arith, z, least_count p 0))
    by_side (inr z) =
        let m : nat_le r x.most ≡ true = is_le r x.most (omega (arith, z, h.most)) in
        ap (λ (b : Bool). b && rest) m ∙ stands_by p before r d least x.greatest (omega (arith, z, least_count p 0)) (e ∙ h.least r z) h.greatest

-- the test of a leaf that has few repeated fields
pub shallow_test : (l : Leaf) (t : LeafTest) (x : Shallow) → IsTestOf l t → length t.least.items ≤ 4 → x.greatest ≡ t.greatest → x.most + 1 ≡ length t.least.items
    → x.first ≡ get_or t.least.items 1 0 → x.second ≡ get_or t.least.items 2 0 → x.third ≡ get_or t.least.items 3 0 → IsShallowOf l.path x
shallow_test l t x h few g m a b c = record {
  greatest = g ∙ h.greatest;
  most = omega (arith, m, ap length h.least, least_count l.path 0);
  least = λ r k. by r (omega (arith, k, few, ap length h.least, least_count l.path 0));
}
  where
    at : (r : ℕ) → get_or t.least.items r 0 ≡ get_or (0 ∷ least_levels 0 l.path) r 0
    at r = ap (λ (xs : List ℕ). get_or xs r 0) h.least

    by : (r : ℕ) → r ≤ 3 → shallow_least x r ≡ get_or (0 ∷ least_levels 0 l.path) r 0
    by zero k = refl
    by (suc zero) k = a ∙ at 1
    by (suc (suc zero)) k = b ∙ at 2
    by (suc (suc (suc zero))) k = c ∙ at 3
    by (suc (suc (suc (suc r)))) k = absurd (omega (arith, k))

-- ---- one after another

pub parts_more : (p : List Step) (last : ℕ) (ls : List Levels) (i : ℕ) (rs ds : List ℕ) (fits b : Bool) → repetitions ls ≡ rs → definitions ls ≡ ds → i < length rs → b ≡ may_stand p last (get_or rs i 0, get_or ds i 0)
    → (fits && each_may_stand p last (map levels_pair (drop i ls))) ≡ ((fits && b) && each_may_stand p (get_or ds i 0) (map levels_pair (drop (i + 1) ls)))
parts_more p last ls i rs ds fits b r d h e =
    let z : Levels = record { repetition = 0; definition = 0 } in
    let n : i < length ls = omega (arith, h, as_many ls rs r) in
    let x : (get_or ls i z).repetition ≡ get_or rs i 0 = repetition_at ls i z refl ∙ ap (λ (xs : List ℕ). get_or xs i 0) r in
    let y : (get_or ls i z).definition ≡ get_or ds i 0 = definition_at ls i z refl ∙ ap (λ (xs : List ℕ). get_or xs i 0) d in
    stand_more p last ls i z fits b n (e ∙ ap₂ (λ (a c : ℕ). may_stand p last (a, c)) (sym x) (sym y))
    ∙ ap (λ (k : ℕ). (fits && b) && each_may_stand p k (map levels_pair (drop (i + 1) ls))) y

pub parts_end : (p : List Step) (last : ℕ) (ls : List Levels) (i : ℕ) (rs : List ℕ) (fits : Bool) → repetitions ls ≡ rs → length rs ≤ i → (fits && each_may_stand p last (map levels_pair (drop i ls))) ≡ fits
parts_end p last ls i rs fits r h = by ls i (omega (arith, h, as_many ls rs r))
  where
    and_one : (b : Bool) → (b && true) ≡ b
    and_one true = refl
    and_one false = refl

    by : (ls : List Levels) (i : ℕ) → length ls ≤ i → (fits && each_may_stand p last (map levels_pair (drop i ls))) ≡ fits
    by [] zero h = and_one fits
    by [] (suc i) h = and_one fits
    by (l ∷ ls) zero h = absurd (omega (arith, h))
    by (l ∷ ls) (suc i) h = by ls i (omega (arith, h))

-- ---- a piece, and the others

-- levels of which the first so many mustn't stand
pub stand_front : (p : List Step) (before n : ℕ) (ls : List Levels) → each_may_stand p before (map levels_pair (take n ls)) ≡ false → each_may_stand p before (map levels_pair ls) ≡ false
stand_front p before zero [] e = absurd (true≢false e)
stand_front p before (suc n) [] e = absurd (true≢false e)
stand_front p before zero (l ∷ ls) e = absurd (true≢false e)
stand_front p before (suc n) (l ∷ ls) e =
    by_test (may_stand p before (levels_pair l)) (each_may_stand p l.definition (map levels_pair (take n ls))) (each_may_stand p l.definition (map levels_pair ls)) (stand_front p l.definition n ls) e
  where
    by_test : (b x y : Bool) → (x ≡ false → y ≡ false) → (b && x) ≡ false → (b && y) ≡ false
    by_test true x y f e = f e
    by_test false x y f e = refl

-- levels of which the first so many may
pub stand_back : (p : List Step) (before n : ℕ) (ls : List Levels) (d : Levels) → n < length ls → each_may_stand p before (map levels_pair (take (suc n) ls)) ≡ true
    → each_may_stand p before (map levels_pair ls) ≡ each_may_stand p (get_or (take (suc n) ls) n d).definition (map levels_pair (drop (suc n) ls))
stand_back p before n [] d h e = absurd (omega (arith, h))
stand_back p before zero (l ∷ ls) d h e =
    ap (λ (b : Bool). b && each_may_stand p l.definition (map levels_pair ls)) (left (may_stand p before (levels_pair l)) (each_may_stand p l.definition (map levels_pair (take zero ls))) e)
  where
    left : (a b : Bool) → (a && b) ≡ true → a ≡ true
    left true b e = refl
    left false b e = absurd (true≢false (sym e))
stand_back p before (suc n) (l ∷ ls) d h e =
    let m = both (may_stand p before (levels_pair l)) (each_may_stand p l.definition (map levels_pair (take (suc n) ls))) e in
    ap (λ (b : Bool). b && each_may_stand p l.definition (map levels_pair ls)) m.0 ∙ stand_back p l.definition n ls d (omega (arith, h)) m.1
  where
    both : (a b : Bool) → (a && b) ≡ true → (a ≡ true) × (b ≡ true)
    both true b e = (refl, e)
    both false b e = absurd (true≢false (sym e))
