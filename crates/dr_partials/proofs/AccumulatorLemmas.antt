-- The laws of accumulators.
use Rattle.std.proofs.Common.{◌≡◌, ℕ, List, [], ◌∷◌, length, Bool, true, false, Option, Some, None, refl, sym, ap, ◌∙◌, true≢false, arith}
use Rattle.std.specs.Prelude.{ℤ, pos, ◌+ℤ◌, if◌then◌else◌, option_map}
use Rattle.std.specs.Cmp.{IsTotalOrder}
use Rattle.std.specs.Ordering.{is_lt, is_gt, ordering_reverse, flip_args}
use Rattle.std.specs.declared.cmp.Ordering.{Ordering}
use Rattle.std.specs.declared.cmp.Ordering.TheVariants.{Less, Equal, Greater}
use Rattle.std.proofs.Math.IntN.{+ℤ_assoc, +ℤ_comm, +ℤ_idl}
use Rattle.std.proofs.lemmas.Cmp.{upto, back_total}
use Rattle.std.proofs.lemmas.Map.Lookups.{CmpEqualImpliesEq}
use Rattle.dr_meaning.specs.Record.{Value, bool_value, int_value, text_value}
use Rattle.dr_meaning.specs.Query.{Aggregate, count, sum, least, greatest, integer_sum, smaller, larger, value_order, best_with, best_by, sum_of_some, present_values}
use Rattle.dr_partials.specs.Accumulators.{Accumulator, counted, summed, least_of, greatest_of, aggregate_of, empty_accumulator, accumulator_of_cell, join_options, join, accumulated, result_of}
use Rattle.dr_partials.specs.AccumulatorLaws.{JoinOfBoth, TakesNextValue, GivesAggregate, JoinIsAssociative, JoinIsCommutative, EmptyIsNeutral}
use Rattle.dr_partials.proofs.ValueOrders.{value_order_total, value_order_exact}

-- ---- the better of two by an order

abbrev pick : (Value → Value → Ordering) → Value → Value → Value
pick R a b = if is_lt (R b a) then b else a

lt_back : (o p : Ordering) → o ≡ ordering_reverse p → is_lt o ≡ is_gt p
lt_back o Less e = ap is_lt e
lt_back o Equal e = ap is_lt e
lt_back o Greater e = ap is_lt e

pick_comm : (R : Value → Value → Ordering) → IsTotalOrder R → CmpEqualImpliesEq R → (a b : Value) → pick R a b ≡ pick R b a
pick_comm R t exact a b = by_order (R a b) (R b a) refl (t.antisymm b a)
  where
    by_order : (o p : Ordering) → R a b ≡ o → p ≡ ordering_reverse (R a b) → (if is_lt p then b else a) ≡ (if is_lt o then a else b)
    by_order Less p e f = ap (λ q. if is_lt q then b else a) (f ∙ ap ordering_reverse e)
    by_order Equal p e f = ap (λ q. if is_lt q then b else a) (f ∙ ap ordering_reverse e) ∙ exact a b e
    by_order Greater p e f = ap (λ q. if is_lt q then b else a) (f ∙ ap ordering_reverse e)

pick_assoc : (R : Value → Value → Ordering) → IsTotalOrder R → (a b c : Value) → pick R (pick R a b) c ≡ pick R a (pick R b c)
pick_assoc R t a b c = by_tests (is_lt (R b a)) (is_lt (R c b)) refl refl
  where
    less : (x y z : Value) → is_lt (R y x) ≡ true → is_lt (R z y) ≡ true → is_lt (R z x) ≡ true
    less x y z h g = by_orders (R y x) (R z y) refl refl h g
      where
        by_orders : (o p : Ordering) → R y x ≡ o → R z y ≡ p → is_lt o ≡ true → is_lt p ≡ true → is_lt (R z x) ≡ true
        by_orders Less Less e f h g = ap is_lt (t.trans z y x f e)
        by_orders Less Equal e f h g = absurd (true≢false (sym g))
        by_orders Less Greater e f h g = absurd (true≢false (sym g))
        by_orders Equal p e f h g = absurd (true≢false (sym h))
        by_orders Greater p e f h g = absurd (true≢false (sym h))

    up : (x y z : Value) → is_lt (R y x) ≡ false → is_lt (R z y) ≡ false → is_lt (R z x) ≡ false
    up x y z h g = lt_back (R z x) (R x z) (t.antisymm z x)
        ∙ upto t x y z (sym (lt_back (R y x) (R x y) (t.antisymm y x)) ∙ h) (sym (lt_back (R z y) (R y z) (t.antisymm z y)) ∙ g)

    by_tests : (p q : Bool) → is_lt (R b a) ≡ p → is_lt (R c b) ≡ q → pick R (if p then b else a) c ≡ pick R a (if q then c else b)
    by_tests true true e f = ap (λ x. if x then c else b) f ∙ ap (λ x. if x then c else a) (sym (less a b c e f))
    by_tests true false e f = ap (λ x. if x then c else b) f ∙ ap (λ x. if x then b else a) (sym e)
    by_tests false true e f = refl
    by_tests false false e f = ap (λ x. if x then c else a) (up a b c e f) ∙ ap (λ x. if x then b else a) (sym e)

back_exact : CmpEqualImpliesEq (flip_args value_order)
back_exact x y h = sym (value_order_exact y x h)

-- ---- options

options_comm : {A : Type 0} (f : A → A → A) → ((a b : A) → f a b ≡ f b a) → (x y : Option A) → join_options f x y ≡ join_options f y x
options_comm f h None None = refl
options_comm f h None (Some b) = refl
options_comm f h (Some a) None = refl
options_comm f h (Some a) (Some b) = ap Some (h a b)

options_assoc : {A : Type 0} (f : A → A → A) → ((a b c : A) → f (f a b) c ≡ f a (f b c)) → (x y z : Option A) → join_options f (join_options f x y) z ≡ join_options f x (join_options f y z)
options_assoc f h None y z = refl
options_assoc f h (Some a) None z = refl
options_assoc f h (Some a) (Some b) None = refl
options_assoc f h (Some a) (Some b) (Some c) = ap Some (h a b c)

options_right : {A : Type 0} (f : A → A → A) (x : Option A) → join_options f x None ≡ x
options_right f None = refl
options_right f (Some a) = refl

-- ---- the laws of join

pub join_is_commutative : JoinIsCommutative
join_is_commutative (counted m) (counted n) h = ap counted (omega arith)
join_is_commutative (summed s) (summed t) h = ap summed (options_comm (λ x y. x +ℤ y) +ℤ_comm s t)
join_is_commutative (least_of v) (least_of w) h = ap least_of (options_comm smaller (pick_comm value_order value_order_total value_order_exact) v w)
join_is_commutative (greatest_of v) (greatest_of w) h = ap greatest_of (options_comm larger (pick_comm (flip_args value_order) (back_total value_order_total) back_exact) v w)
join_is_commutative (counted m) (summed t) h = absurd (cc)
join_is_commutative (counted m) (least_of w) h = absurd (cc)
join_is_commutative (counted m) (greatest_of w) h = absurd (cc)
join_is_commutative (summed s) (counted n) h = absurd (cc)
join_is_commutative (summed s) (least_of w) h = absurd (cc)
join_is_commutative (summed s) (greatest_of w) h = absurd (cc)
join_is_commutative (least_of v) (counted n) h = absurd (cc)
join_is_commutative (least_of v) (summed t) h = absurd (cc)
join_is_commutative (least_of v) (greatest_of w) h = absurd (cc)
join_is_commutative (greatest_of v) (counted n) h = absurd (cc)
join_is_commutative (greatest_of v) (summed t) h = absurd (cc)
join_is_commutative (greatest_of v) (least_of w) h = absurd (cc)

-- three of one aggregate
pub data OfOne : Accumulator → Accumulator → Type 0 where
  counts : (m n : ℕ) → OfOne (counted m) (counted n)
  sums : (s t : Option ℤ) → OfOne (summed s) (summed t)
  leasts : (v w : Option Value) → OfOne (least_of v) (least_of w)
  greatests : (v w : Option Value) → OfOne (greatest_of v) (greatest_of w)

pub of_one : (x y : Accumulator) → aggregate_of x ≡ aggregate_of y → OfOne x y
of_one (counted m) (counted n) h = counts m n
of_one (summed s) (summed t) h = sums s t
of_one (least_of v) (least_of w) h = leasts v w
of_one (greatest_of v) (greatest_of w) h = greatests v w
of_one (counted m) (summed t) h = absurd (cc)
of_one (counted m) (least_of w) h = absurd (cc)
of_one (counted m) (greatest_of w) h = absurd (cc)
of_one (summed s) (counted n) h = absurd (cc)
of_one (summed s) (least_of w) h = absurd (cc)
of_one (summed s) (greatest_of w) h = absurd (cc)
of_one (least_of v) (counted n) h = absurd (cc)
of_one (least_of v) (summed t) h = absurd (cc)
of_one (least_of v) (greatest_of w) h = absurd (cc)
of_one (greatest_of v) (counted n) h = absurd (cc)
of_one (greatest_of v) (summed t) h = absurd (cc)
of_one (greatest_of v) (least_of w) h = absurd (cc)

assoc_of : (x y z : Accumulator) → OfOne x y → OfOne y z → join (join x y) z ≡ join x (join y z)
assoc_of _ _ _ (counts m n) (counts _ k) = ap counted (omega arith)
assoc_of _ _ _ (sums s t) (sums _ u) = ap summed (options_assoc (λ x y. x +ℤ y) +ℤ_assoc s t u)
assoc_of _ _ _ (leasts v w) (leasts _ u) = ap least_of (options_assoc smaller (pick_assoc value_order value_order_total) v w u)
assoc_of _ _ _ (greatests v w) (greatests _ u) = ap greatest_of (options_assoc larger (pick_assoc (flip_args value_order) (back_total value_order_total)) v w u)

pub join_is_associative : JoinIsAssociative
join_is_associative x y z h g = assoc_of x y z (of_one x y h) (of_one y z g)

pub empty_is_neutral : EmptyIsNeutral
empty_is_neutral (counted n) = (ap counted (omega arith), ap counted (omega arith))
empty_is_neutral (summed s) = (refl, ap summed (options_right (λ x y. x +ℤ y) s))
empty_is_neutral (least_of v) = (refl, ap least_of (options_right smaller v))
empty_is_neutral (greatest_of v) = (refl, ap greatest_of (options_right larger v))

-- ---- which aggregate

joined_aggregate : (x y : Accumulator) → aggregate_of (join x y) ≡ aggregate_of x
joined_aggregate (counted m) (counted n) = refl
joined_aggregate (summed s) (summed t) = refl
joined_aggregate (least_of v) (least_of w) = refl
joined_aggregate (greatest_of v) (greatest_of w) = refl
joined_aggregate _ _ = refl

pub cell_aggregate : (a : Aggregate) (v : Option Value) → aggregate_of (accumulator_of_cell a v) ≡ a
cell_aggregate count None = refl
cell_aggregate count (Some v) = refl
cell_aggregate sum None = refl
cell_aggregate sum (Some v) = refl
cell_aggregate least None = refl
cell_aggregate least (Some v) = refl
cell_aggregate greatest None = refl
cell_aggregate greatest (Some v) = refl

pub accumulated_aggregate : (a : Aggregate) (vs : List (Option Value)) → aggregate_of (accumulated a vs) ≡ a
accumulated_aggregate a [] = cell_aggregate a None
accumulated_aggregate a (v ∷ vs) = joined_aggregate (accumulator_of_cell a v) (accumulated a vs) ∙ cell_aggregate a v

-- ---- what is gathered

pub empty_left : (a : Aggregate) (x : Accumulator) → aggregate_of x ≡ a → join (empty_accumulator a) x ≡ x
empty_left a x h = ap (λ b. join (empty_accumulator b) x) (sym h) ∙ (empty_is_neutral x).0

pub empty_right : (a : Aggregate) (x : Accumulator) → aggregate_of x ≡ a → join x (empty_accumulator a) ≡ x
empty_right a x h = ap (λ b. join x (empty_accumulator b)) (sym h) ∙ (empty_is_neutral x).1

pub join_of_both : JoinOfBoth
join_of_both a [] ws = sym (empty_left a (accumulated a ws) (accumulated_aggregate a ws))
join_of_both a (v ∷ vs) ws = ap (join (accumulator_of_cell a v)) (join_of_both a vs ws)
    ∙ sym (join_is_associative (accumulator_of_cell a v) (accumulated a vs) (accumulated a ws)
    (cell_aggregate a v ∙ sym (accumulated_aggregate a vs)) (accumulated_aggregate a vs ∙ sym (accumulated_aggregate a ws)))

pub takes_next_value : TakesNextValue
takes_next_value a vs v = join_of_both a vs (v ∷ [])
    ∙ (ap (join (accumulated a vs)) (empty_right a (accumulator_of_cell a v) (cell_aggregate a v))
    ∙ ap (λ b. join (accumulated a vs) (accumulator_of_cell b v)) (sym (accumulated_aggregate a vs)))

-- ---- what is given

counts_present : (vs : List (Option Value)) → accumulated count vs ≡ counted (length (present_values vs))
counts_present [] = refl
counts_present (None ∷ vs) = ap (join (counted 0)) (counts_present vs) ∙ ap counted (omega arith)
counts_present (Some v ∷ vs) = ap (join (counted 1)) (counts_present vs) ∙ ap counted (omega arith)

abbrev exact_sum : List Value → Option ℤ
exact_sum [] = None
exact_sum (v ∷ vs) = Some (integer_sum (v ∷ vs))

sum_of_first : (v : Value) (vs : List Value) → integer_sum (v ∷ []) +ℤ integer_sum vs ≡ integer_sum (v ∷ vs)
sum_of_first (bool_value b) vs = +ℤ_idl (integer_sum vs)
sum_of_first (int_value z) vs = +ℤ_assoc z (pos 0) (integer_sum vs) ∙ ap (λ s. z +ℤ s) (+ℤ_idl (integer_sum vs))
sum_of_first (text_value t) vs = +ℤ_idl (integer_sum vs)

sum_more : (v : Value) (vs : List Value) → join_options (λ x y. x +ℤ y) (Some (integer_sum (v ∷ []))) (exact_sum vs) ≡ exact_sum (v ∷ vs)
sum_more v [] = refl
sum_more v (w ∷ vs) = ap Some (sum_of_first v (w ∷ vs))

sums_present : (vs : List (Option Value)) → accumulated sum vs ≡ summed (exact_sum (present_values vs))
sums_present [] = refl
sums_present (None ∷ vs) = ap (join (summed None)) (sums_present vs)
sums_present (Some v ∷ vs) = ap (join (summed (Some (integer_sum (v ∷ []))))) (sums_present vs) ∙ ap summed (sum_more v (present_values vs))

sum_given : (vs : List Value) → option_map int_value (exact_sum vs) ≡ sum_of_some vs
sum_given [] = refl
sum_given (v ∷ vs) = refl

best_of_two : (better : Value → Value → Value) (v : Value) (o : Option Value) → join_options better (Some v) o ≡ best_with better v o
best_of_two better v None = refl
best_of_two better v (Some w) = refl

best_more : (better : Value → Value → Value) (v : Value) (vs : List Value) → join_options better (Some v) (best_by better vs) ≡ best_by better (v ∷ vs)
best_more better v [] = refl
best_more better v (w ∷ vs) = best_of_two better v (best_by better (w ∷ vs))

least_present : (vs : List (Option Value)) → accumulated least vs ≡ least_of (best_by smaller (present_values vs))
least_present [] = refl
least_present (None ∷ vs) = ap (join (least_of None)) (least_present vs)
least_present (Some v ∷ vs) = ap (join (least_of (Some v))) (least_present vs) ∙ ap least_of (best_more smaller v (present_values vs))

greatest_present : (vs : List (Option Value)) → accumulated greatest vs ≡ greatest_of (best_by larger (present_values vs))
greatest_present [] = refl
greatest_present (None ∷ vs) = ap (join (greatest_of None)) (greatest_present vs)
greatest_present (Some v ∷ vs) = ap (join (greatest_of (Some v))) (greatest_present vs) ∙ ap greatest_of (best_more larger v (present_values vs))

pub gives_aggregate : GivesAggregate
gives_aggregate count vs = ap result_of (counts_present vs)
gives_aggregate sum vs = ap result_of (sums_present vs) ∙ sum_given (present_values vs)
gives_aggregate least vs = ap result_of (least_present vs)
gives_aggregate greatest vs = ap result_of (greatest_present vs)
