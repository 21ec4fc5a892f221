-- Groups of distinct key tuples, in any order: what is found among them, also once they are in order.
use Rattle.std.specs.Prelude.{◌≡◌, ◌<◌, ◌≤◌, ℕ, zero, suc, ◌+◌, List, [], ◌∷◌, ◌++◌, length, get_or, Bool, true, false, if◌then◌else◌, Option, Some, None}
use Rattle.std.specs.Ordering.{is_eq, match_ordering}
use Rattle.std.specs.declared.cmp.Ordering.{Ordering}
use Rattle.std.specs.declared.cmp.Ordering.TheVariants.{Less, Equal, Greater}
use Rattle.std.proofs.Common.{refl, sym, ap, ◌∙◌, arith}
use Rattle.std.proofs.Math.ListN.{set}
use Rattle.dr_meaning.specs.Query.{tuple_order}
use Rattle.dr_partials.specs.Accumulators.{Accumulator, join_options}
use Rattle.dr_partials.specs.Partials.{Group, join_all, join_groups, insert_group}
use Rattle.dr_partials.proofs.GroupLemmas.{Tuple, same_tuple, same_itself, same_is, AllAbove, Ascending, find, find_inserted, merged_ascends}
use Rattle.dr_group.specs.Groups.{no_group}
use Rattle.dr_group.specs.Distinct.{once, times, AreDistinct}
use Rattle.dr_group.specs.Maps.{in_order}

-- ---- how often a key tuple is there

abbrev counted : Bool → ℕ
counted b = if b then 1 else 0

once_is : (t u : Tuple) (b : Bool) → same_tuple t u ≡ b → once t u ≡ counted b
once_is t u b e = ap counted e

pub once_same : (t u : Tuple) → t ≡ u → once t u ≡ 1
once_same t u e = ap (once t) (sym e) ∙ once_is t t true (same_itself t)

pub rest_distinct : (g : Group) (gs : List Group) → AreDistinct (g ∷ gs) → AreDistinct gs
rest_distinct g gs d = λ t. omega (arith, d t)

-- no second one
pub none_left : (t : Tuple) (g : Group) (gs : List Group) → AreDistinct (g ∷ gs) → same_tuple t g.keys ≡ true → times t gs ≡ 0
none_left t g gs d e = omega (arith, d t, once_is t g.keys true e)

pub times_there : (t : Tuple) (gs : List Group) (n : ℕ) → n < length gs → t ≡ (get_or gs n no_group).keys → 1 ≤ times t gs
times_there t [] n h e = absurd (omega (arith, h))
times_there t (g ∷ gs) zero h e = omega (arith, once_same t g.keys e)
times_there t (g ∷ gs) (suc n) h e = omega (arith, times_there t gs n (omega (arith, h)) e)

pub times_push : (t : Tuple) (gs : List Group) (g : Group) → times t (gs ++ g ∷ []) ≡ times t gs + once t g.keys
times_push t [] g = omega arith
times_push t (f ∷ gs) g = omega (arith, times_push t gs g)

pub times_set : (t : Tuple) (gs : List Group) (n : ℕ) (g : Group) → n < length gs → g.keys ≡ (get_or gs n no_group).keys → times t (set gs n g) ≡ times t gs
times_set t [] n g h e = absurd (omega (arith, h))
times_set t (f ∷ gs) zero g h e = ap (λ (u : Tuple). once t u + times t gs) e
times_set t (f ∷ gs) (suc n) g h e = ap (λ k. once t f.keys + k) (times_set t gs n g (omega (arith, h)) e)

-- none has it where it is at no number
pub nowhere : (t : Tuple) (gs : List Group) → ((j : ℕ) → j < length gs → (get_or gs j no_group).keys ≡ t → ⊥) → times t gs ≡ 0
nowhere t [] n = refl
nowhere t (g ∷ gs) n = by_test (same_tuple t g.keys) refl (nowhere t gs (λ j h e. n (suc j) (omega (arith, h)) e))
  where
    by_test : (b : Bool) → same_tuple t g.keys ≡ b → times t gs ≡ 0 → once t g.keys + times t gs ≡ 0
    by_test true e r = absurd (n 0 (omega arith) (sym (same_is t g.keys e)))
    by_test false e r = omega (arith, once_is t g.keys false e, r)

pub push_distinct : (gs : List Group) (g : Group) → AreDistinct gs → times g.keys gs ≡ 0 → AreDistinct (gs ++ g ∷ [])
push_distinct gs g d z = λ t. by_test t (same_tuple t g.keys) refl
  where
    by_test : (t : Tuple) (b : Bool) → same_tuple t g.keys ≡ b → times t (gs ++ g ∷ []) ≤ 1
    by_test t true e = omega (arith, times_push t gs g, once_is t g.keys true e, ap (λ (u : Tuple). times u gs) (same_is t g.keys e), z)
    by_test t false e = omega (arith, times_push t gs g, once_is t g.keys false e, d t)

pub set_distinct : (gs : List Group) (n : ℕ) (g : Group) → n < length gs → g.keys ≡ (get_or gs n no_group).keys → AreDistinct gs → AreDistinct (set gs n g)
set_distinct gs n g h e d = λ t. omega (arith, times_set t gs n g h e, d t)

none_above : (t : Tuple) (gs : List Group) → AllAbove t gs → times t gs ≡ 0
none_above t [] a = refl
none_above t (g ∷ gs) a = omega (arith, ap (λ (o : Ordering). counted (is_eq o)) a.0, none_above t gs a.1)

pub ascending_distinct : (gs : List Group) → Ascending gs → AreDistinct gs
ascending_distinct [] a = λ t. omega arith
ascending_distinct (g ∷ gs) a = λ t. by_test t (same_tuple t g.keys) refl (ascending_distinct gs a.1 t)
  where
    by_test : (t : Tuple) (b : Bool) → same_tuple t g.keys ≡ b → times t gs ≤ 1 → once t g.keys + times t gs ≤ 1
    by_test t true e r = omega (arith, once_is t g.keys true e, ap (λ (u : Tuple). times u gs) (same_is t g.keys e), none_above g.keys gs a.0)
    by_test t false e r = omega (arith, once_is t g.keys false e, r)

-- ---- what is found

pub none_found : (t : Tuple) (gs : List Group) → times t gs ≡ 0 → find t gs ≡ None
none_found t [] h = refl
none_found t (g ∷ gs) h = by_test (same_tuple t g.keys) refl (none_found t gs (omega (arith, h)))
  where
    by_test : (b : Bool) → same_tuple t g.keys ≡ b → find t gs ≡ None → (if b then Some g.accumulators else find t gs) ≡ None
    by_test true e r = absurd (omega (arith, h, once_is t g.keys true e))
    by_test false e r = r

pub find_there : (gs : List Group) (n : ℕ) → AreDistinct gs → n < length gs → find (get_or gs n no_group).keys gs ≡ Some (get_or gs n no_group).accumulators
find_there [] n d h = absurd (omega (arith, h))
find_there (g ∷ gs) zero d h = ap (λ (b : Bool). if b then Some g.accumulators else find g.keys gs) (same_itself g.keys)
find_there (g ∷ gs) (suc n) d h =
    let k : n < length gs = omega (arith, h) in
    by_test (get_or gs n no_group).keys (get_or gs n no_group).accumulators (times_there (get_or gs n no_group).keys gs n k refl) (same_tuple (get_or gs n no_group).keys g.keys) refl
    (find_there gs n (rest_distinct g gs d) k)
  where
    by_test : (t : Tuple) (xs : List Accumulator) → 1 ≤ times t gs → (b : Bool) → same_tuple t g.keys ≡ b → find t gs ≡ Some xs → (if b then Some g.accumulators else find t gs) ≡ Some xs
    by_test t xs s true e r = absurd (omega (arith, s, none_left t g gs d e))
    by_test t xs s false e r = r

-- ---- in order

abbrev with_found : Bool → List Accumulator → Option (List Accumulator) → Option (List Accumulator)
with_found true xs o = join_options join_all (Some xs) o
with_found false xs o = o

pub order_ascends : (gs : List Group) → Ascending (in_order gs)
order_ascends gs = merged_ascends gs [] tt

pub find_ordered : (t : Tuple) (gs : List Group) → AreDistinct gs → find t (in_order gs) ≡ find t gs
find_ordered t [] d = refl
find_ordered t (g ∷ gs) d =
    find_inserted t g (in_order gs) (order_ascends gs)
    ∙ (ap (with_found (same_tuple t g.keys) g.accumulators) (find_ordered t gs (rest_distinct g gs d)) ∙ by_test (same_tuple t g.keys) refl)
  where
    by_test : (b : Bool) → same_tuple t g.keys ≡ b → with_found b g.accumulators (find t gs) ≡ (if b then Some g.accumulators else find t gs)
    by_test true e = ap (with_found true g.accumulators) (none_found t gs (none_left t g gs d e))
    by_test false e = refl

one_longer : (g : Group) (hs : List Group) → find g.keys hs ≡ None → length (insert_group g hs) ≡ length hs + 1
one_longer g [] n = refl
one_longer g (k ∷ hs) n = by_order (tuple_order g.keys k.keys) refl (one_longer g hs)
  where
    by_order : (o : Ordering) → tuple_order g.keys k.keys ≡ o → (find g.keys hs ≡ None → length (insert_group g hs) ≡ length hs + 1)
        → length (match_ordering o (g ∷ k ∷ hs) (join_groups g k ∷ hs) (k ∷ insert_group g hs)) ≡ length (k ∷ hs) + 1
    by_order Less e r = omega arith
    by_order Equal e r =
        let s : Some k.accumulators ≡ None = sym (ap (λ (o : Ordering). if is_eq o then Some k.accumulators else find g.keys hs) e) ∙ n in
        absurd (cc)
    by_order Greater e r = omega (arith, r (sym (ap (λ (o : Ordering). if is_eq o then Some k.accumulators else find g.keys hs) e) ∙ n))

pub order_length : (gs : List Group) → AreDistinct gs → length (in_order gs) ≡ length gs
order_length [] d = refl
order_length (g ∷ gs) d =
    let none : find g.keys (in_order gs) ≡ None = find_ordered g.keys gs (rest_distinct g gs d) ∙ none_found g.keys gs (none_left g.keys g gs d (same_itself g.keys)) in
    omega (arith, one_longer g (in_order gs) none, order_length gs (rest_distinct g gs d))
