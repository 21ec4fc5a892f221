-- Sorted groups of distinct key tuples are these groups in order.
use Rattle.std.specs.Prelude.{◌≡◌, ◌<◌, ℕ, zero, suc, ◌+◌, List, [], ◌∷◌, map, length, get_or, Bool, true, false, ◌&&◌, nat_lt, if◌then◌else◌, Option, Some, None, All, Contains}
use Rattle.std.specs.List.{list_all, range_with_len, sum_by}
use Rattle.std.specs.Fn.{Mut, Called}
use Rattle.std.specs.List.Sorted.{IsPermutation, IsSortedBy, IsSortedByClosure}
use Rattle.std.specs.Ordering.{is_lt}
use Rattle.std.specs.declared.cmp.Ordering.{Ordering}
use Rattle.std.specs.declared.cmp.Ordering.TheVariants.{Less, Equal, Greater}
use Rattle.std.proofs.Common.{Bor, refl, sym, ap, ap₂, ◌∙◌, subst, arith, true≢false}
use Rattle.std.proofs.lemmas.Bool.{lt-ltb}
use Rattle.std.proofs.lemmas.Fn.{always_returns_same}
use Rattle.std.proofs.lemmas.List.Elements.{All-head, All-tail, All-from_get_or}
use Rattle.std.proofs.lemmas.List.Recursion.{is_sum_by}
use Rattle.std.proofs.lemmas.List.Sorted.{ranks_by, IsPermutation-sym, IsPermutation-map, Contains-permutation, All-permutation, sum_by-IsPermutation}
use Rattle.dr_meaning.specs.Query.{tuple_order}
use Rattle.dr_partials.specs.Accumulators.{Accumulator}
use Rattle.dr_partials.specs.Partials as meant
use Rattle.dr_partials.proofs.ValueOrders.{tuple_order_total, tuple_order_exact}
use Rattle.dr_partials.proofs.GroupLemmas.{Tuple, same_tuple, same_is, Ascending, less_back, above_greater, find, found_alike}
use Rattle.dr_group.specs.Groups.{no_group, group_view, group_at, picked}
use Rattle.dr_group.specs.Distinct.{once, times, AreDistinct}
use Rattle.dr_group.specs.Maps.{in_order}
use Rattle.dr_group.specs.Merging.{are_numbers}
use Rattle.dr_group.specs.declared.group.Group.{Group}
use Rattle.dr_group.proofs.DistinctLemmas.{once_same, rest_distinct, find_there, order_ascends, find_ordered}
use Rattle.dr_group.proofs.NumberedLemmas.{picked_all, range_below}
use Rattle.dr_group.proofs.PickLemmas.{below_length}

-- ---- the same groups in another order

times_sum : (t : Tuple) (gs : List meant.Group) → times t gs ≡ sum_by (λ (g : meant.Group). once t g.keys) gs
times_sum t gs = is_sum_by (times t) (λ (g : meant.Group). once t g.keys) refl (λ g hs. refl) gs

moved_distinct : (gs hs : List meant.Group) → IsPermutation gs hs → AreDistinct gs → AreDistinct hs
moved_distinct gs hs m d = λ t. omega (arith, d t, times_sum t gs, times_sum t hs, sum_by-IsPermutation (λ (g : meant.Group). once t g.keys) gs hs m)

whichever : (gs : List meant.Group) (n : ℕ) (d e : meant.Group) → n < length gs → get_or gs n d ≡ get_or gs n e
whichever [] n d e h = absurd (omega (arith, h))
whichever (g ∷ gs) zero d e h = refl
whichever (g ∷ gs) (suc n) d e h = whichever gs n d e (omega (arith, h))

there_found : (gs : List meant.Group) (g : meant.Group) → AreDistinct gs → Contains gs g → find g.keys gs ≡ Some g.accumulators
there_found gs g d c =
    let same : get_or gs c.0 no_group ≡ g = whichever gs c.0 no_group g c.1 ∙ c.2 in
    subst (λ (h : meant.Group). find h.keys gs ≡ Some h.accumulators) same (find_there gs c.0 d c.1)

abbrev made : Tuple → List Accumulator → meant.Group
made t xs = record { keys = t; accumulators = xs }

same_accumulators : (xs ys : List Accumulator) → Some xs ≡ Some ys → xs ≡ ys
same_accumulators xs ys h = cc

found_there : (t : Tuple) (xs : List Accumulator) (gs : List meant.Group) → find t gs ≡ Some xs → Contains gs (made t xs)
found_there t xs [] h = absurd (cc)
found_there t xs (g ∷ gs) h = by_test (same_tuple t g.keys) refl h (found_there t xs gs)
  where
    by_test : (b : Bool) → same_tuple t g.keys ≡ b → (if b then Some g.accumulators else find t gs) ≡ Some xs → (find t gs ≡ Some xs → Contains gs (made t xs)) → Contains (g ∷ gs) (made t xs)
    by_test true e f r = (0, omega arith, ap₂ made (sym (same_is t g.keys e)) (same_accumulators g.accumulators xs f))
    by_test false e f r = let c = r f in (suc c.0, omega (arith, c.1), c.2)

moved_found : (gs hs : List meant.Group) → IsPermutation gs hs → AreDistinct gs → (t : Tuple) → find t hs ≡ find t gs
moved_found gs hs m d t = by_found (find t gs) refl
  where
    none : find t gs ≡ None → (o : Option (List Accumulator)) → find t hs ≡ o → o ≡ None
    none e None f = refl
    none e (Some xs) f =
        let s : find t gs ≡ Some xs = there_found gs (made t xs) d (Contains-permutation hs gs (made t xs) (IsPermutation-sym gs hs m) (found_there t xs hs f)) in
        absurd (cc)

    by_found : (o : Option (List Accumulator)) → find t gs ≡ o → find t hs ≡ o
    by_found None e = none e (find t hs) refl
    by_found (Some xs) e = there_found hs (made t xs) (moved_distinct gs hs m d) (Contains-permutation gs hs (made t xs) m (found_there t xs gs e))

-- ---- sorted by their key tuples

abbrev before : (ℕ → meant.Group) → ℕ → ℕ → Bool
before f i j = is_lt (tuple_order (f i).keys (f j).keys)

-- by a closure that compares the groups of two numbers
pub sorted_by : {F : Type 0} {g : Mut F (Bor ℕ × (Bor ℕ × Unit {0})) Ordering} {f : F} (gs : List Group) (is : List ℕ) → IsSortedByClosure g f is
    → ((a : Bor ℕ × (Bor ℕ × Unit {0})) (r : Ordering) (f' : F) → Called g f a r f' → (r ≡ tuple_order (group_at gs a.0.now).keys (group_at gs a.1.0.now).keys) × (f' ≡ f)) → IsSortedBy (before (group_at gs)) is
sorted_by {g = g} {f = f} gs is s h =
    s (before (group_at gs)) (ranks_by tuple_order_total (λ i. (group_at gs i).keys))
    (always_returns_same g (λ a r. is_lt r ≡ before (group_at gs) a.0.now a.1.0.now) f (λ a r f' k. (ap is_lt (h a r f' k).0, (h a r f' k).1)))

rest_sorted : (f : ℕ → meant.Group) (i : ℕ) (is : List ℕ) → IsSortedBy (before f) (i ∷ is) → IsSortedBy (before f) is
rest_sorted f i is s = λ k d h l. subst (λ m. before f (get_or (i ∷ is) m d) (get_or is k d) ≡ false) (further k) (s (suc k) d (omega arith) (omega (arith, l)))
  where
    further : (k : ℕ) → suc k + 1 ≡ suc (k + 1)
    further k = omega arith

sorted_ascends : (f : ℕ → meant.Group) (is : List ℕ) → IsSortedBy (before f) is → AreDistinct (map f is) → Ascending (map f is)
sorted_ascends f [] s d = tt
sorted_ascends f (i ∷ []) s d = (tt, tt)
sorted_ascends f (i ∷ j ∷ is) s d =
    let r : Ascending (map f (j ∷ is)) = sorted_ascends f (j ∷ is) (rest_sorted f i (j ∷ is) s) (rest_distinct (f i) (map f (j ∷ is)) d) in
    let e : tuple_order (f i).keys (f j).keys ≡ Less = by_order (tuple_order (f i).keys (f j).keys) refl in
    ((e, above_greater (f i).keys (f j).keys (map f is) e r.0), r)
  where
    by_order : (o : Ordering) → tuple_order (f i).keys (f j).keys ≡ o → o ≡ Less
    by_order Less e = refl
    by_order Equal e =
        let same : (f i).keys ≡ (f j).keys = tuple_order_exact (f i).keys (f j).keys e in
        absurd (omega (arith, d (f i).keys, once_same (f i).keys (f i).keys refl, once_same (f i).keys (f j).keys same))
    by_order Greater e =
        let l : before f j i ≡ true = ap is_lt (less_back (f i).keys (f j).keys e) in
        absurd (true≢false (sym l ∙ s 0 i (omega arith) (omega arith)))

pub sorted_order : (gs : List Group) (ns is : List ℕ) → ns ≡ range_with_len 0 (length gs) → IsPermutation ns is → IsSortedBy (before (group_at gs)) is → AreDistinct (map group_view gs) → picked gs is ≡ in_order (map group_view gs)
sorted_order gs ns is e m s d =
    let vs : List meant.Group = map group_view gs in
    let all : picked gs ns ≡ vs = ap (picked gs) e ∙ picked_all gs in
    let moved : IsPermutation vs (picked gs is) = subst (λ (ws : List meant.Group). IsPermutation ws (picked gs is)) all (IsPermutation-map (group_at gs) ns is m) in
    found_alike (picked gs is) (in_order vs) (sorted_ascends (group_at gs) is s (moved_distinct vs (picked gs is) moved d)) (order_ascends vs)
    (λ t. moved_found vs (picked gs is) moved d t ∙ sym (find_ordered t vs d))

-- ---- their numbers

all_below : (n : ℕ) (is : List ℕ) → All (λ i. i < n) is → list_all (λ i. nat_lt i n) is ≡ true
all_below n [] a = refl
all_below n (i ∷ is) a = ap₂ (λ b c. b && c) (lt-ltb i n (All-head (λ i. i < n) i is a)) (all_below n is (All-tail (λ i. i < n) i is a))

pub sorted_numbers : (gs : List Group) (ns is : List ℕ) → ns ≡ range_with_len 0 (length gs) → IsPermutation ns is → are_numbers gs is ≡ true
sorted_numbers gs ns is e m =
    let n = length gs in
    let below : list_all (λ i. nat_lt i n) ns ≡ true = ap (λ (xs : List ℕ). list_all (λ i. nat_lt i n) xs) e ∙ range_below n 0 n (omega arith) in
    all_below n is (All-permutation (λ i. i < n) ns is m (All-from_get_or (λ i. i < n) ns 0 (λ p h. below_length n ns p below h)))

-- as the code lends them
pub order_lent : (gs lent : List Group) (is lent_is : List ℕ) → lent ≡ gs → lent_is ≡ is → picked lent is ≡ in_order (map group_view lent) → picked gs lent_is ≡ in_order (map group_view gs)
order_lent gs lent is lent_is e f o = ap (picked gs) f ∙ subst (λ (xs : List Group). picked xs is ≡ in_order (map group_view xs)) e o
