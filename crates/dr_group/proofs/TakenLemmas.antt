-- Values that are taken one after another: counts, sums, and the best of numbers at once.
use Rattle.std.proofs.Common.{◌≡◌, ℕ, ◌+◌, ◌*◌, ◌++◌, neg_ℤ, add-one, ◌<◌, List, [], ◌∷◌, map, length, take, drop, get_or, fold, true, false, Option, Some, None, refl, sym, ap, ap₂, ◌∙◌, arith, ℤ, pos, ◌+ℤ◌, ◌<ℤ◌, ◌≤ℤ◌}
use Rattle.std.specs.Prelude.{if◌then◌else◌, Result, Ok, Err, IfOk, cond}
use Rattle.std.specs.Int.{int_min, int_max}
use Rattle.std.specs.Int.Signed.{lt_z}
use Rattle.std.specs.Ordering.{int_cmp, is_lt, MatchOrdering}
use Rattle.std.specs.Cmp.{int_ranks}
use Rattle.std.specs.declared.cmp.Ordering.{Ordering}
use Rattle.std.specs.declared.cmp.Ordering.TheVariants.{Less, Equal, Greater}
use Rattle.std.proofs.lemmas.Int.{ints}
use Rattle.std.proofs.lemmas.List.{drop_more, map-append}
use Rattle.std.proofs.Math.Seq.{take-suc}
use Rattle.std.proofs.Math.IntN.{+ℤ_assoc, +ℤ_idr}
use Rattle.dr_memory.specs.declared.NoMemory.{NoMemory}
use Rattle.dr_meaning.specs.Record.{Value, int_value}
use Rattle.dr_meaning.specs.Query.{Aggregate, smaller, larger}
use Rattle.dr_partials.specs.Accumulators.{Accumulator, counted, summed, least_of, greatest_of, join_options, join, take_value, aggregate_of, accumulator_of_cell, accumulated}
use Rattle.dr_partials.proofs.AccumulatorLemmas.{join_is_associative, empty_is_neutral, cell_aggregate, accumulated_aggregate}
use Rattle.dr_group.specs.Gathering.{Becomes}
use Rattle.dr_group.specs.TakenValues.{take_each, sum_of, IsBest, is_counted, TakenTogether}

-- ---- results

pub becomes_ok : {A : Type 0} (r : Result (Unit {0}) NoMemory) (before after meant want : A) → Becomes before after meant r → meant ≡ want → IfOk r (λ _. after ≡ want)
becomes_ok (Ok done) before after meant want b e = b ∙ e
becomes_ok (Err x) before after meant want b e = tt

-- ---- counts

pub count_each : (n : ℕ) (vs : List Value) → take_each (counted n) vs ≡ counted (n + length vs)
count_each n [] = ap counted (omega arith)
count_each n (v ∷ vs) = count_each (n + 1) vs ∙ ap counted (omega arith)

-- ---- sums

pub sum_each : (a : ℤ) (zs : List ℤ) → take_each (summed (Some a)) (map (λ x. int_value x) zs) ≡ summed (Some (a +ℤ sum_of zs))
sum_each a [] = ap (λ (x : ℤ). summed (Some x)) (sym (+ℤ_idr a))
sum_each a (z ∷ zs) =
    ap (λ (x : ℤ). take_each (summed (Some (a +ℤ x))) (map (λ x. int_value x) zs)) (+ℤ_idr z)
    ∙ sum_each (a +ℤ z) zs
    ∙ ap (λ (x : ℤ). summed (Some x)) (+ℤ_assoc a z (sum_of zs))

pub sum_first : (z : ℤ) (zs : List ℤ) → take_each (summed None) (map (λ x. int_value x) (z ∷ zs)) ≡ summed (Some (sum_of (z ∷ zs)))
sum_first z zs = ap (λ (x : ℤ). take_each (summed (Some x)) (map (λ x. int_value x) zs)) (+ℤ_idr z) ∙ sum_each z zs

pub sum_none : (s : Option ℤ) (zs : List ℤ) (t : ℤ) → s ≡ None → (length zs ≡ 0 → ⊥) → t ≡ sum_of zs → summed (Some t) ≡ take_each (summed s) (map (λ x. int_value x) zs)
sum_none s [] t e n h = absurd (n refl)
sum_none s (z ∷ zs) t e n h = ap (λ (x : ℤ). summed (Some x)) h ∙ sym (sum_first z zs) ∙ ap (λ (x : Option ℤ). take_each (summed x) (map (λ x. int_value x) (z ∷ zs))) (sym e)

pub sum_some : (s : Option ℤ) (a : ℤ) (zs : List ℤ) (t u : ℤ) → s ≡ Some a → u ≡ sum_of zs → t ≡ a +ℤ u → summed (Some t) ≡ take_each (summed s) (map (λ x. int_value x) zs)
sum_some s a zs t u e h g =
    ap (λ (x : ℤ). summed (Some x)) (g ∙ ap (λ (y : ℤ). a +ℤ y) h) ∙ sym (sum_each a zs) ∙ ap (λ (x : Option ℤ). take_each (summed x) (map (λ x. int_value x) zs)) (sym e)

-- ---- the best

lt_so : (a b : ℤ) → a <ℤ b → lt_z a b ≡ true
lt_so a b h = grind (arith, ints)

not_so : (a b : ℤ) → a <ℤ b → lt_z b a ≡ false
not_so a b h = grind (arith, ints)

irreflexive : (a : ℤ) → lt_z a a ≡ false
irreflexive a = grind (arith, ints)

min_by : (o : Ordering) (m z : ℤ) → MatchOrdering o (z <ℤ m) (z ≡ m) (m <ℤ z) → (if is_lt o then int_value z else int_value m) ≡ int_value (cond (lt_z z m) z m)
min_by Less m z h = rw (lt_so z m h) refl
min_by Equal m z h = rw (ap (λ (x : ℤ). lt_z x m) h ∙ irreflexive m) refl
min_by Greater m z h = rw (not_so m z h) refl

max_by : (o : Ordering) (m z : ℤ) → MatchOrdering o (m <ℤ z) (m ≡ z) (z <ℤ m) → (if is_lt o then int_value z else int_value m) ≡ int_value (cond (lt_z z m) m z)
max_by Less m z h = rw (not_so m z h) refl
max_by Equal m z h = rw (ap (λ (x : ℤ). lt_z z x) h ∙ irreflexive z) (ap (λ (x : ℤ). int_value x) h)
max_by Greater m z h = rw (lt_so z m h) refl

smaller_is_min : (m z : ℤ) → smaller (int_value m) (int_value z) ≡ int_value (int_min m z)
smaller_is_min m z = min_by (int_cmp z m) m z (int_ranks z m)

larger_is_max : (m z : ℤ) → larger (int_value m) (int_value z) ≡ int_value (int_max m z)
larger_is_max m z = max_by (int_cmp m z) m z (int_ranks m z)

least_each : (c : Option Value) (m : ℤ) (zs : List ℤ) → take_each (least_of (join_options smaller c (Some (int_value m)))) (map (λ x. int_value x) zs) ≡ least_of (join_options smaller c (Some (int_value (fold int_min m zs))))
least_each c m [] = refl
least_each c m (z ∷ zs) =
    ap (λ (x : Accumulator). take_each x (map (λ x. int_value x) zs)) (join_is_associative (least_of c) (least_of (Some (int_value m))) (least_of (Some (int_value z))) refl refl)
    ∙ ap (λ (v : Value). take_each (least_of (join_options smaller c (Some v))) (map (λ x. int_value x) zs)) (smaller_is_min m z)
    ∙ least_each c (int_min m z) zs

greatest_each : (c : Option Value) (m : ℤ) (zs : List ℤ) → take_each (greatest_of (join_options larger c (Some (int_value m)))) (map (λ x. int_value x) zs) ≡ greatest_of (join_options larger c (Some (int_value (fold int_max m zs))))
greatest_each c m [] = refl
greatest_each c m (z ∷ zs) =
    ap (λ (x : Accumulator). take_each x (map (λ x. int_value x) zs)) (join_is_associative (greatest_of c) (greatest_of (Some (int_value m))) (greatest_of (Some (int_value z))) refl refl)
    ∙ ap (λ (v : Value). take_each (greatest_of (join_options larger c (Some v))) (map (λ x. int_value x) zs)) (larger_is_max m z)
    ∙ greatest_each c (int_max m z) zs

pub least_taken : (x : Accumulator) (c : Option Value) (zs : List ℤ) (m : ℤ) → x ≡ least_of c → IsBest int_min zs (Some m) → least_of (join_options smaller c (Some (int_value m))) ≡ take_each x (map (λ x. int_value x) zs)
least_taken x c [] m e h = absurd (cc)
least_taken x c (z ∷ zs) m e h =
    let k : m ≡ fold int_min z zs = cc in
    ap (λ (y : ℤ). least_of (join_options smaller c (Some (int_value y)))) k ∙ sym (least_each c z zs) ∙ ap (λ (y : Accumulator). take_each y (map (λ x. int_value x) (z ∷ zs))) (sym e)

pub greatest_taken : (x : Accumulator) (c : Option Value) (zs : List ℤ) (m : ℤ) → x ≡ greatest_of c → IsBest int_max zs (Some m) → greatest_of (join_options larger c (Some (int_value m))) ≡ take_each x (map (λ x. int_value x) zs)
greatest_taken x c [] m e h = absurd (cc)
greatest_taken x c (z ∷ zs) m e h =
    let k : m ≡ fold int_max z zs = cc in
    ap (λ (y : ℤ). greatest_of (join_options larger c (Some (int_value y)))) k ∙ sym (greatest_each c z zs) ∙ ap (λ (y : Accumulator). take_each y (map (λ x. int_value x) (z ∷ zs))) (sym e)

-- where the field alone is told
pub keeps_ok : {A B : Type 0} (see : A → B) (r : Result (Unit {0}) NoMemory) (before after meant : A) (want : B) → Becomes before after meant r → see meant ≡ want → IfOk r (λ _. see after ≡ want)
keeps_ok see (Ok done) before after meant want b e = ap see b ∙ e
keeps_ok see (Err x) before after meant want b e = tt

pub sum_more : (zs : List ℤ) (i : ℕ) (t u : ℤ) → i < length zs → u ≡ t +ℤ get_or zs i (pos 0) → t +ℤ sum_of (drop i zs) ≡ sum_of zs → u +ℤ sum_of (drop (i + 1) zs) ≡ sum_of zs
sum_more zs i t u h e s =
    ap (λ (x : ℤ). x +ℤ sum_of (drop (i + 1) zs)) e ∙ +ℤ_assoc t (get_or zs i (pos 0)) (sum_of (drop (i + 1) zs))
    ∙ ap (λ (xs : List ℤ). t +ℤ sum_of xs) (sym (drop_more zs i (pos 0) h)) ∙ s

pub still_within : (T z : ℤ) (i : ℕ) → neg_ℤ (pos (9223372036854775808 * i)) ≤ℤ T → T ≤ℤ pos (9223372036854775808 * i) → neg_ℤ (pos 9223372036854775808) ≤ℤ z → z ≤ℤ pos 9223372036854775808
    → (neg_ℤ (pos (9223372036854775808 * (i + 1))) ≤ℤ (T +ℤ z)) × ((T +ℤ z) ≤ℤ pos (9223372036854775808 * (i + 1)))
still_within T z i a b c d = (omega (arith, ints), omega (arith, ints))

-- ---- one after another

take_behind : (x : Accumulator) (vs : List Value) (v : Value) → take_each x (vs ++ v ∷ []) ≡ take_value (take_each x vs) (Some v)
take_behind x [] v = refl
take_behind x (w ∷ vs) v = take_behind (take_value x (Some w)) vs v

pub one_taken : {A : Type 0} (see : A → Value) (xs : List A) (i : ℕ) (d : A) (x before after : Accumulator) (v : Value) → i < length xs → v ≡ see (get_or xs i d) → before ≡ take_each x (map see (take i xs)) → after ≡ take_value before (Some v)
    → after ≡ take_each x (map see (take (i + 1) xs))
one_taken see xs i d x before after v h w e f =
    f
    ∙ ap₂ (λ (y : Accumulator) (u : Value). take_value y (Some u)) e w
    ∙ sym (take_behind x (map see (take i xs)) (see (get_or xs i d)))
    ∙ ap (take_each x) (sym (map-append see (take i xs) (get_or xs i d ∷ [])))
    ∙ ap (λ ys. take_each x (map see ys)) (sym (take-suc xs i d h))
    ∙ ap (λ (j : ℕ). take_each x (map see (take j xs))) (sym (add-one i))

pub ok_value : (r : Result (Unit {0}) NoMemory) (done : Unit {0}) (before after meant : Accumulator) → r ≡ Ok done → Becomes before after meant r → after ≡ meant
ok_value (Ok x) done before after meant e b = b
ok_value (Err x) done before after meant e b = absurd (cc)

pub counts_each : (x : Accumulator) (vs : List Value) → is_counted x ≡ true → join x (counted (length vs)) ≡ take_each x vs
counts_each (counted n) vs h = sym (count_each n vs)
counts_each (summed s) vs h = absurd (cc)
counts_each (least_of v) vs h = absurd (cc)
counts_each (greatest_of v) vs h = absurd (cc)

-- ---- and all together

still_of : (x : Accumulator) (v : Value) → aggregate_of (take_value x (Some v)) ≡ aggregate_of x
still_of (counted n) v = refl
still_of (summed s) v = refl
still_of (least_of w) v = refl
still_of (greatest_of w) v = refl

pub taken_together : TakenTogether
taken_together x [] = sym (empty_is_neutral x).1
taken_together x (v ∷ vs) =
    let a = aggregate_of x in
    let ws = map (λ (v : Value). Some v) vs in
    taken_together (take_value x (Some v)) vs
    ∙ ap (λ (b : Aggregate). join (take_value x (Some v)) (accumulated b ws)) (still_of x v)
    ∙ join_is_associative x (accumulator_of_cell a (Some v)) (accumulated a ws) (sym (cell_aggregate a (Some v))) (cell_aggregate a (Some v) ∙ sym (accumulated_aggregate a ws))
