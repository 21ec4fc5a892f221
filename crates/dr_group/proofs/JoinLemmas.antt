-- Accumulators of two groups, joined one with one.
use Rattle.std.specs.Prelude.{◌≡◌, ◌<◌, ◌≤◌, ℕ, zero, suc, ◌+◌, List, [], ◌∷◌, ◌++◌, length, take, drop, get_or}
use Rattle.std.proofs.Common.{refl, sym, ap, ap₂, ◌∙◌, subst, arith, append-nil, append_assoc, add-one}
use Rattle.std.proofs.Math.ListN.{set}
use Rattle.std.proofs.lemmas.List.{map-set, length-map, length-set, drop_more, drop_all, take_all, take-map}
use Rattle.dr_partials.specs.Accumulators as meant
use Rattle.dr_partials.specs.PartialBounds.{CanBeOf, AllCanBeOf}
use Rattle.dr_partials.specs.Partials.{join_all}
use Rattle.dr_group.specs.Views.{accumulator_view}
use Rattle.dr_group.specs.Groups.{accumulators_view}
use Rattle.dr_group.specs.declared.accumulator.Accumulator.{Accumulator}

-- those before this place are joined, those from it on are to be
pub record EachJoined (bound : ℕ) (xs ys whole : List meant.Accumulator) (k : ℕ) : Type 0 where
  pub same : take k xs ++ join_all (drop k xs) (drop k ys) ≡ whole
  pub long : length xs ≤ length ys
  pub mine : AllCanBeOf bound (drop k xs)
  pub theirs : AllCanBeOf bound (drop k ys)

taken_set : (xs : List meant.Accumulator) (k : ℕ) (w : meant.Accumulator) → k < length xs → take (k + 1) (set xs k w) ≡ take k xs ++ w ∷ []
taken_set xs k w h = rw add-one (taken_one xs k w h)
  where
    taken_one : (xs : List meant.Accumulator) (k : ℕ) (w : meant.Accumulator) → k < length xs → take (suc k) (set xs k w) ≡ take k xs ++ w ∷ []
    taken_one [] k w h = absurd (omega (arith, h))
    taken_one (x ∷ xs) zero w h = refl
    taken_one (x ∷ xs) (suc k) w h = ap (λ (ys : List meant.Accumulator). x ∷ ys) (taken_one xs k w (omega (arith, h)))

left_set : (xs : List meant.Accumulator) (k : ℕ) (w : meant.Accumulator) → drop (k + 1) (set xs k w) ≡ drop (k + 1) xs
left_set xs k w = rw add-one (left_one xs k w)
  where
    left_one : (xs : List meant.Accumulator) (k : ℕ) (w : meant.Accumulator) → drop (suc k) (set xs k w) ≡ drop (suc k) xs
    left_one [] k w = refl
    left_one (x ∷ xs) zero w = refl
    left_one (x ∷ xs) (suc k) w = left_one xs k w

from_here : (xs : List meant.Accumulator) (k : ℕ) (x : meant.Accumulator) → k < length xs → x ≡ get_or xs k x → drop k xs ≡ x ∷ drop (k + 1) xs
from_here xs k x h e = drop_more xs k x h ∙ ap (λ y. y ∷ drop (k + 1) xs) (sym e)

one_joined : (bound : ℕ) (xs ys whole : List meant.Accumulator) (k : ℕ) (x y w z : meant.Accumulator) → k < length xs → x ≡ get_or xs k x → y ≡ get_or ys k y → w ≡ meant.join x y
    → EachJoined bound xs ys whole k → EachJoined bound (set xs k w) (set ys k z) whole (k + 1)
one_joined bound xs ys whole k x y w z h e f g s =
    let j : k < length ys = omega (arith, h, s.long) in
    let more : List meant.Accumulator = join_all (drop (k + 1) xs) (drop (k + 1) ys) in
    record {
      same = ap₂ (λ (front back : List meant.Accumulator). front ++ back) (taken_set xs k w h) (ap₂ join_all (left_set xs k w) (left_set ys k z))
          ∙ append_assoc (take k xs) (w ∷ []) more
          ∙ ap (λ v. take k xs ++ v ∷ more) g
          ∙ sym (ap₂ (λ (a b : List meant.Accumulator). take k xs ++ join_all a b) (from_here xs k x h e) (from_here ys k y j f))
          ∙ s.same;
      long = omega (arith, s.long, length-set xs k w, length-set ys k z);
      mine = subst (AllCanBeOf bound) (sym (left_set xs k w)) (rest_of bound x (drop (k + 1) xs) (subst (AllCanBeOf bound) (from_here xs k x h e) s.mine));
      theirs = subst (AllCanBeOf bound) (sym (left_set ys k z)) (rest_of bound y (drop (k + 1) ys) (subst (AllCanBeOf bound) (from_here ys k y j f) s.theirs));
    }
  where
    rest_of : (bound : ℕ) (x : meant.Accumulator) (xs : List meant.Accumulator) → AllCanBeOf bound (x ∷ xs) → AllCanBeOf bound xs
    rest_of bound x xs h = h.1

-- ---- as the code has them

seen_at : (xs : List Accumulator) (k : ℕ) (x : Accumulator) → k < length xs → x ≡ get_or xs k x → accumulator_view x ≡ get_or (accumulators_view xs) k (accumulator_view x)
seen_at [] k x h e = absurd (omega (arith, h))
seen_at (y ∷ xs) zero x h e = ap accumulator_view e
seen_at (y ∷ xs) (suc k) x h e = seen_at xs k x (omega (arith, h)) e

bounded_at : (bound : ℕ) (xs : List meant.Accumulator) (k : ℕ) (x : meant.Accumulator) → k < length xs → x ≡ get_or xs k x → AllCanBeOf bound (drop k xs) → CanBeOf bound x
bounded_at bound xs k x h e s = first_of bound x (drop (k + 1) xs) (subst (AllCanBeOf bound) (from_here xs k x h e) s)
  where
    first_of : (bound : ℕ) (x : meant.Accumulator) (xs : List meant.Accumulator) → AllCanBeOf bound (x ∷ xs) → CanBeOf bound x
    first_of bound x xs h = h.0

pub held_bounded : (bound : ℕ) (xs : List Accumulator) (k : ℕ) (x : Accumulator) → k < length xs → x ≡ get_or xs k x → AllCanBeOf bound (drop k (accumulators_view xs)) → CanBeOf bound (accumulator_view x)
held_bounded bound xs k x h e s = bounded_at bound (accumulators_view xs) k (accumulator_view x) (omega (arith, h, length-map xs accumulator_view)) (seen_at xs k x h e) s

pub held_joined : (bound : ℕ) (xs ys : List Accumulator) (whole : List meant.Accumulator) (k : ℕ) (x y w z : Accumulator) → k < length xs → k < length ys → x ≡ get_or xs k x → y ≡ get_or ys k y
    → accumulator_view w ≡ meant.join (accumulator_view x) (accumulator_view y) → EachJoined bound (accumulators_view xs) (accumulators_view ys) whole k
    → EachJoined bound (accumulators_view (set xs k w)) (accumulators_view (set ys k z)) whole (k + 1)
held_joined bound xs ys whole k x y w z h j e f g s =
    subst (λ (as_list : List meant.Accumulator). EachJoined bound as_list (accumulators_view (set ys k z)) whole (k + 1)) (sym (map-set accumulator_view xs k w))
    (subst (λ (as_list : List meant.Accumulator). EachJoined bound (set (accumulators_view xs) k (accumulator_view w)) as_list whole (k + 1)) (sym (map-set accumulator_view ys k z))
    (one_joined bound (accumulators_view xs) (accumulators_view ys) whole k (accumulator_view x) (accumulator_view y) (accumulator_view w) (accumulator_view z)
    (omega (arith, h, length-map xs accumulator_view)) (seen_at xs k x h e) (seen_at ys k y j f) g s))

-- the same of lists that are equal to these
pub equal_joined : (bound : ℕ) (us xs vs ys : List Accumulator) (whole : List meant.Accumulator) (k : ℕ) → us ≡ xs → vs ≡ ys → EachJoined bound (accumulators_view xs) (accumulators_view ys) whole k
    → EachJoined bound (accumulators_view us) (accumulators_view vs) whole k
equal_joined bound us xs vs ys whole k e f s =
    subst (λ (some : List Accumulator). EachJoined bound (accumulators_view some) (accumulators_view vs) whole k) (sym e)
    (subst (λ (some : List Accumulator). EachJoined bound (accumulators_view xs) (accumulators_view some) whole k) (sym f) s)

-- ---- at both ends

as_long : (xs ys : List meant.Accumulator) → join_all (take (length ys) xs) ys ≡ join_all xs ys
as_long [] [] = refl
as_long [] (y ∷ ys) = refl
as_long (x ∷ xs) [] = refl
as_long (x ∷ xs) (y ∷ ys) = ap (λ (zs : List meant.Accumulator). meant.join x y ∷ zs) (as_long xs ys)

some_bounded : (bound n : ℕ) (xs : List meant.Accumulator) → AllCanBeOf bound xs → AllCanBeOf bound (take n xs)
some_bounded bound zero xs h = tt
some_bounded bound (suc n) [] h = tt
some_bounded bound (suc n) (x ∷ xs) h = (h.0, some_bounded bound n xs h.1)

not_longer : (n : ℕ) (xs : List meant.Accumulator) → length (take n xs) ≤ n
not_longer zero xs = omega arith
not_longer (suc n) [] = omega arith
not_longer (suc n) (x ∷ xs) = omega (arith, not_longer n xs)

pub each_begun : (bound : ℕ) (xs zs ys : List Accumulator) (n : ℕ) → n ≡ length ys → zs ≡ take n xs → AllCanBeOf bound (accumulators_view xs) → AllCanBeOf bound (accumulators_view ys)
    → EachJoined bound (accumulators_view zs) (accumulators_view ys) (join_all (accumulators_view xs) (accumulators_view ys)) 0
each_begun bound xs zs ys n e f h j =
    let seen : accumulators_view zs ≡ take (length (accumulators_view ys)) (accumulators_view xs) =
    ap accumulators_view f ∙ sym (take-map accumulator_view n xs) ∙ ap (λ m. take m (accumulators_view xs)) (e ∙ sym (length-map ys accumulator_view)) in
    subst (λ (as_list : List meant.Accumulator). EachJoined bound as_list (accumulators_view ys) (join_all (accumulators_view xs) (accumulators_view ys)) 0) (sym seen)
    (record {
      same = as_long (accumulators_view xs) (accumulators_view ys);
      long = not_longer (length (accumulators_view ys)) (accumulators_view xs);
      mine = some_bounded bound (length (accumulators_view ys)) (accumulators_view xs) h;
      theirs = j;
    })

pub each_done : (bound : ℕ) (xs ys : List Accumulator) (whole : List meant.Accumulator) (k : ℕ) → length xs ≤ k → EachJoined bound (accumulators_view xs) (accumulators_view ys) whole k → accumulators_view xs ≡ whole
each_done bound xs ys whole k h s =
    let long : length (accumulators_view xs) ≤ k = omega (arith, h, length-map xs accumulator_view) in
    sym (ap₂ (λ (a b : List meant.Accumulator). a ++ join_all b (drop k (accumulators_view ys))) (take_all k (accumulators_view xs) long) (drop_all k (accumulators_view xs) long) ∙ append-nil (accumulators_view xs))
    ∙ s.same
