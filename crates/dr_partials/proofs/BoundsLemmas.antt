-- What is merged of partials of m and of n values can be of m + n.
use Rattle.std.proofs.Common.{◌≡◌, ◌<◌, ◌≤◌, ℕ, suc, ◌+◌, ◌-◌, ◌*◌, ◌^◌, List, [], ◌∷◌, length, Bool, true, false, Option, Some, None, refl, sym, ap, subst, true≢false, arith}
use Rattle.std.specs.Prelude.{ℤ, pos, negsuc, ◌+ℤ◌, ⊤, if◌then◌else◌}
use Rattle.std.specs.Int.RustNames.{unsigned_abs}
use lib.IntN.{sub_ℕ}
use Rattle.std.proofs.lemmas.Bool.Decides.{nat_tests}
use Rattle.dr_meaning.specs.Schema.{Fields}
use Rattle.dr_meaning.specs.Record.{Value, bool_value, int_value, text_value, in_int64}
use Rattle.dr_meaning.specs.Query.{Aggregate, count, sum, least, greatest, Selection, objects, groups}
use Rattle.std.specs.List.{list_all}
use Rattle.std.proofs.lemmas.Bool.{and_parts, leb-true, ltb-true}
use Rattle.std.proofs.Math.IntN.{+ℤ_idr}
use Rattle.dr_partials.specs.Accumulators.{Accumulator, counted, summed, least_of, greatest_of, empty_accumulator, accumulator_of_cell, join_options, join, accumulated}
use Rattle.dr_partials.specs.Partials.{Group, Partial, lines, grouped, join_all, merge_groups, merge}
use Rattle.dr_partials.specs.PartialTypes.{is_of_selection, is_partial}
use Rattle.dr_partials.specs.PartialBounds.{CanBeOf, AllCanBeOf, GroupsCanBeOf, PartialCanBeOf, is_of_64_bits, GatheredCanBeOf, BoundsAddUp}
use Rattle.dr_partials.proofs.GroupLemmas.{Tuple, same_tuple, same_itself, same_is, AllAbove, Ascending, find, find_above, merged_ascends, find_merged}
use Rattle.dr_partials.proofs.PartialTypeLemmas.{are_groups}

size_of_difference : (a b : ℕ) → unsigned_abs (sub_ℕ a b) ≤ a + b
size_of_difference a b = grind (arith, nat_tests)

size_of_sum : (a b : ℤ) → unsigned_abs (a +ℤ b) ≤ unsigned_abs a + unsigned_abs b
size_of_sum (pos a) (pos b) = omega arith
size_of_sum (pos a) (negsuc b) = size_of_difference a (suc b)
size_of_sum (negsuc a) (pos b) = omega (arith, size_of_difference b (suc a))
size_of_sum (negsuc a) (negsuc b) = omega arith

more : (m n : ℕ) (x : Accumulator) → m ≤ n → CanBeOf m x → CanBeOf n x
more m n (counted k) h c = omega (arith, h, c)
more m n (summed None) h c = tt
more m n (summed (Some z)) h c = omega (arith, h, c)
more m n (least_of v) h c = tt
more m n (greatest_of v) h c = tt

joined : (m n : ℕ) (x y : Accumulator) → CanBeOf m x → CanBeOf n y → CanBeOf (m + n) (join x y)
joined m n (counted i) (counted j) h k = omega (arith, h, k)
joined m n (summed None) (summed s) h k = more n (m + n) (summed s) (omega arith) k
joined m n (summed (Some a)) (summed None) h k = more m (m + n) (summed (Some a)) (omega arith) h
joined m n (summed (Some a)) (summed (Some b)) h k = omega (arith, h, k, size_of_sum a b)
joined m n (least_of v) (least_of w) h k = tt
joined m n (greatest_of v) (greatest_of w) h k = tt
joined m n x _ h k = more m (m + n) x (omega arith) h

all_joined : (m n : ℕ) (xs ys : List Accumulator) → AllCanBeOf m xs → AllCanBeOf n ys → AllCanBeOf (m + n) (join_all xs ys)
all_joined m n [] ys h k = tt
all_joined m n (x ∷ xs) [] h k = tt
all_joined m n (x ∷ xs) (y ∷ ys) h k = (joined m n x y h.0 k.0, all_joined m n xs ys h.1 k.1)

all_more : (m n : ℕ) (xs : List Accumulator) → m ≤ n → AllCanBeOf m xs → AllCanBeOf n xs
all_more m n [] h c = tt
all_more m n (x ∷ xs) h c = (more m n x h c.0, all_more m n xs h c.1)

-- ---- by what is found at each key tuple

abbrev FoundCanBeOf : ℕ → Option (List Accumulator) → Type 0
FoundCanBeOf n None = ⊤
FoundCanBeOf n (Some xs) = AllCanBeOf n xs

found_of : (n : ℕ) (t : Tuple) (gs : List Group) → GroupsCanBeOf n gs → FoundCanBeOf n (find t gs)
found_of n t [] h = tt
found_of n t (g ∷ gs) h = by_test (same_tuple t g.keys) (found_of n t gs h.1)
  where
    by_test : (b : Bool) → FoundCanBeOf n (find t gs) → FoundCanBeOf n (if b then Some g.accumulators else find t gs)
    by_test true r = h.0
    by_test false r = r

of_found : (n : ℕ) (gs : List Group) → Ascending gs → ((t : Tuple) → FoundCanBeOf n (find t gs)) → GroupsCanBeOf n gs
of_found n [] a h = tt
of_found n (g ∷ gs) a h = (subst (FoundCanBeOf n) (ap (λ b. if b then Some g.accumulators else find g.keys gs) (same_itself g.keys)) (h g.keys), of_found n gs a.1 later)
  where
    later : (t : Tuple) → FoundCanBeOf n (find t gs)
    later t = by_test (same_tuple t g.keys) refl (h t)
      where
        by_test : (b : Bool) → same_tuple t g.keys ≡ b → FoundCanBeOf n (if b then Some g.accumulators else find t gs) → FoundCanBeOf n (find t gs)
        by_test true e r = subst (FoundCanBeOf n) (sym (find_above t gs (subst (λ (u : Tuple). AllAbove u gs) (sym (same_is t g.keys e)) a.0))) tt
        by_test false e r = r

found_joined : (m n : ℕ) (x y : Option (List Accumulator)) → FoundCanBeOf m x → FoundCanBeOf n y → FoundCanBeOf (m + n) (join_options join_all x y)
found_joined m n None None h k = tt
found_joined m n None (Some ys) h k = all_more n (m + n) ys (omega arith) k
found_joined m n (Some xs) None h k = all_more m (m + n) xs (omega arith) h
found_joined m n (Some xs) (Some ys) h k = all_joined m n xs ys h k

merged_groups_bound : (m n : ℕ) (gs hs : List Group) → Ascending gs → Ascending hs → GroupsCanBeOf m gs → GroupsCanBeOf n hs → GroupsCanBeOf (m + n) (merge_groups gs hs)
merged_groups_bound m n gs hs a b h k =
    of_found (m + n) (merge_groups gs hs) (merged_ascends gs hs b)
    (λ t. subst (FoundCanBeOf (m + n)) (sym (find_merged t gs hs a b)) (found_joined m n (find t gs) (find t hs) (found_of m t gs h) (found_of n t hs k)))

bounds_of : (fs : Fields) (s : Selection) (m n : ℕ) (p r : Partial) → is_of_selection fs s p ≡ true → is_of_selection fs s r ≡ true → PartialCanBeOf m p → PartialCanBeOf n r → PartialCanBeOf (m + n) (merge p r)
unfolding merge
bounds_of fs (objects items) m n (lines os) (lines ps) h k a b = tt
bounds_of fs (objects items) m n (lines os) (grouped hs) h k a b = absurd (true≢false (sym k))
bounds_of fs (objects items) m n (grouped gs) r h k a b = absurd (true≢false (sym h))
bounds_of fs (groups keys items) m n (lines os) r h k a b = absurd (true≢false (sym h))
bounds_of fs (groups keys items) m n (grouped gs) (lines ps) h k a b = absurd (true≢false (sym k))
bounds_of fs (groups keys items) m n (grouped gs) (grouped hs) h k a b =
    merged_groups_bound m n gs hs (are_groups fs keys items gs h).ascending (are_groups fs keys items hs k).ascending a b

pub bounds_add_up : BoundsAddUp
unfolding is_partial
bounds_add_up fs q m n p r h k a b = bounds_of fs q.selection m n p r h k a b

-- ---- of values

size_of_number : (z : ℤ) → in_int64 z ≡ true → unsigned_abs z ≤ 2 ^ 63
size_of_number (pos n) h = let l : n < 2 ^ 63 = ltb-true _ _ h in omega arith
size_of_number (negsuc n) h = let l : n ≤ 2 ^ 63 - 1 = leb-true _ _ (and_parts _ _ h).0 in omega arith

cell_can_be_of : (a : Aggregate) (v : Option Value) → is_of_64_bits v ≡ true → CanBeOf 1 (accumulator_of_cell a v)
cell_can_be_of count None h = omega arith
cell_can_be_of count (Some v) h = omega arith
cell_can_be_of sum None h = tt
cell_can_be_of sum (Some (bool_value b)) h = omega arith
cell_can_be_of sum (Some (int_value z)) h = let k = size_of_number z h in let e : z +ℤ pos 0 ≡ z = +ℤ_idr z in subst (λ y. unsigned_abs y ≤ 1 * 2 ^ 63) (sym e) (omega (arith, k))
cell_can_be_of sum (Some (text_value t)) h = omega arith
cell_can_be_of least None h = tt
cell_can_be_of least (Some v) h = tt
cell_can_be_of greatest None h = tt
cell_can_be_of greatest (Some v) h = tt

none_can_be_of : (a : Aggregate) → CanBeOf 0 (empty_accumulator a)
none_can_be_of count = omega arith
none_can_be_of sum = tt
none_can_be_of least = tt
none_can_be_of greatest = tt

pub gathered_can_be_of : GatheredCanBeOf
gathered_can_be_of a [] h = none_can_be_of a
gathered_can_be_of a (v ∷ vs) h =
    let k = and_parts (is_of_64_bits v) (list_all is_of_64_bits vs) h in
    let e : 1 + length vs ≡ suc (length vs) = omega arith in
    subst (λ n. CanBeOf n (accumulated a (v ∷ vs))) e (joined 1 (length vs) (accumulator_of_cell a v) (accumulated a vs) (cell_can_be_of a v k.0) (gathered_can_be_of a vs k.1))
