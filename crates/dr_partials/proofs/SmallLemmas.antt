-- Values of 64 bits: those in records, in rows, and those of expressions.
use Rattle.std.proofs.Common.{◌≡◌, ◌<◌, ◌≤◌, ◌-◌, ◌^◌, ℕ, zero, suc, List, [], ◌∷◌, Bool, true, false, ◌&&◌, Option, Some, None, refl, sym, true≢false, arith}
use Rattle.std.specs.Prelude.{ℤ, pos, negsuc, ◌+ℤ◌, ◌-ℤ◌, ◌*ℤ◌, if◌then◌else◌, option_map}
use Rattle.std.proofs.lemmas.Bool.{and_parts, leb-true, ltb-true}
use Rattle.std.proofs.lemmas.Bool.Decides.{nat_tests}
use Rattle.std.specs.declared.cmp.Ordering.{Ordering}
use Rattle.dr_meaning.specs.Schema.{Kind, bool_kind, int32_kind, int64_kind, text_kind, Fields, no_fields, field, Shape, leaf, group}
use Rattle.dr_meaning.specs.Path.{Step}
use Rattle.dr_meaning.specs.Record.{Value, bool_value, int_value, text_value, in_int32, in_int64, is_of_kind, Node, no_slots, slot, gap, Instances, no_instances, instance, Instance, atom, inner, count_instances, fits_repetition, all_instances, is_record, is_instance, instances_at, instances_in, put_at, single}
use Rattle.dr_meaning.specs.Rows.{instance_rows, each_instance_rows, field_rows, rows, first_value, value_in}
use Rattle.dr_meaning.specs.Expression.{Arithmetic, plus, minus, times, Expression, constant, path_value, negative, arithmetic, comparison, like, contains, is_null, negation, conjunction, disjunction, exact_int64, add_values, subtract_values, multiply_values, combine, on_both, compare_values, compared, on_text, not_value, and_values, or_values, null_test, evaluate, Comparison, holds}
use Rattle.dr_partials.specs.PartialBounds.{is_of_64_bits}
use Rattle.dr_partials.proofs.RowLemmas.{Each, each_append, each_map}
use Rattle.dr_partials.specs.Few.{is_small}

-- ---- nodes each of whose values is of 64 bits

abbrev mutual
  pub SmallNode : Node → Type 0
  SmallNode no_slots = Unit {0}
  SmallNode (slot xs n) = SmallAll xs × SmallNode n
  SmallNode (gap n) = SmallNode n

  pub SmallAll : Instances → Type 0
  SmallAll no_instances = Unit {0}
  SmallAll (instance x xs) = SmallOne x × SmallAll xs

  pub SmallOne : Instance → Type 0
  SmallOne (atom v) = is_of_64_bits (Some v) ≡ true
  SmallOne (inner n) = SmallNode n

pub at_small : (i : ℕ) (n : Node) → SmallNode n → SmallAll (instances_at i n)
at_small i no_slots h = tt
at_small zero (slot xs n) h = h.0
at_small (suc i) (slot xs n) h = at_small i n h.1
at_small zero (gap n) h = tt
at_small (suc i) (gap n) h = at_small i n h

in_small : (i : ℕ) (x : Instance) → SmallOne x → SmallAll (instances_in i x)
in_small i (atom v) h = tt
in_small i (inner n) h = at_small i n h

pub put_small : (i : ℕ) (xs : Instances) (n : Node) → SmallAll xs → SmallNode n → SmallNode (put_at i xs n)
put_small i xs no_slots a h = tt
put_small zero xs (slot ys n) a h = (a, h.1)
put_small (suc i) xs (slot ys n) a h = (h.0, put_small i xs n a h.1)
put_small zero xs (gap n) a h = h
put_small (suc i) xs (gap n) a h = put_small i xs n a h

-- ---- records

wide : (z : ℤ) → in_int32 z ≡ true → in_int64 z ≡ true
wide (pos n) h = let l : n < 2 ^ 31 = ltb-true _ _ h in grind (arith, nat_tests)
wide (negsuc n) h = let l : n ≤ 2 ^ 31 - 1 = leb-true _ _ (and_parts _ _ h).0 in grind (arith, nat_tests)

of_kind_small : (k : Kind) (v : Value) → is_of_kind k v ≡ true → is_of_64_bits (Some v) ≡ true
of_kind_small k (bool_value b) h = refl
of_kind_small bool_kind (int_value z) h = absurd (true≢false (sym h))
of_kind_small int32_kind (int_value z) h = wide z h
of_kind_small int64_kind (int_value z) h = h
of_kind_small text_kind (int_value z) h = absurd (true≢false (sym h))
of_kind_small k (text_value t) h = refl

all_small : (f : Instance → Bool) → ((x : Instance) → f x ≡ true → SmallOne x) → (xs : Instances) → all_instances f xs ≡ true → SmallAll xs
all_small f h no_instances k = tt
all_small f h (instance x xs) k = let p = and_parts (f x) (all_instances f xs) k in (h x p.0, all_small f h xs p.1)

mutual
  pub record_small : (fs : Fields) (n : Node) → is_record fs n ≡ true → SmallNode n
  record_small no_fields no_slots h = tt
  record_small no_fields (slot xs n) h = absurd (true≢false (sym h))
  record_small no_fields (gap n) h = absurd (true≢false (sym h))
  record_small (field m r s fs) no_slots h = absurd (true≢false (sym h))
  record_small (field m r s fs) (slot xs n) h =
      let p : ((fits_repetition r (count_instances xs) && all_instances (is_instance s) xs) ≡ true) × (is_record fs n ≡ true) = and_parts _ _ h in
      (all_small (is_instance s) (instance_small s) xs (and_parts _ _ p.0).1, record_small fs n p.1)
  record_small (field m r s fs) (gap n) h = absurd (true≢false (sym h))

  instance_small : (s : Shape) (x : Instance) → is_instance s x ≡ true → SmallOne x
  instance_small (leaf k) (atom v) h = of_kind_small k v h
  instance_small (leaf k) (inner n) h = absurd (true≢false (sym h))
  instance_small (group fs) (atom v) h = absurd (true≢false (sym h))
  instance_small (group fs) (inner n) h = record_small fs n h

-- ---- rows

one_small : (f : Node → List Node) → ((n : Node) → SmallNode n → Each SmallNode (f n)) → (x : Instance) → SmallOne x → Each SmallAll (instance_rows f x)
one_small f h (atom v) k = ((k, tt), tt)
one_small f h (inner n) k = each_map SmallNode SmallAll (λ (m : Node). single (inner m)) (λ (m : Node) (g : SmallNode m). (g, tt)) (f n) (h n k)

each_small : (f : Node → List Node) → ((n : Node) → SmallNode n → Each SmallNode (f n)) → (xs : Instances) → SmallAll xs → Each SmallAll (each_instance_rows f xs)
each_small f h no_instances k = tt
each_small f h (instance x xs) k = each_append SmallAll (instance_rows f x) (each_instance_rows f xs) (one_small f h x k.0) (each_small f h xs k.1)

field_small : (f : Node → List Node) → ((n : Node) → SmallNode n → Each SmallNode (f n)) → (xs : Instances) → SmallAll xs → Each SmallAll (field_rows f xs)
field_small f h no_instances k = (tt, tt)
field_small f h (instance x xs) k = each_small f h (instance x xs) k

pub rows_small : (p : List Step) (n : Node) → SmallNode n → Each SmallNode (rows p n)
rows_small [] n h = (h, tt)
rows_small (s ∷ p) n h =
    each_map SmallAll SmallNode (λ (xs : Instances). put_at s.place xs n) (λ (xs : Instances) (a : SmallAll xs). put_small s.place xs n a h) (field_rows (rows p) (instances_at s.place n))
    (field_small (rows p) (rows_small p) (instances_at s.place n) (at_small s.place n h))

-- ---- expressions

first_small : (f : Instance → Option Value) → ((x : Instance) → SmallOne x → is_of_64_bits (f x) ≡ true) → (xs : Instances) → SmallAll xs → is_of_64_bits (first_value f xs) ≡ true
first_small f h no_instances k = refl
first_small f h (instance x xs) k = h x k.0

value_small : (p : List Step) (x : Instance) → SmallOne x → is_of_64_bits (value_in p x) ≡ true
value_small [] (atom v) h = h
value_small [] (inner n) h = refl
value_small (s ∷ p) x h = first_small (value_in p) (value_small p) (instances_in s.place x) (in_small s.place x h)

exact_small : (z : ℤ) → is_of_64_bits (exact_int64 z) ≡ true
exact_small z = by_test (in_int64 z) refl
  where
    by_test : (b : Bool) → in_int64 z ≡ b → is_of_64_bits (if b then Some (int_value z) else None) ≡ true
    by_test true e = e
    by_test false e = refl

added_small : (a b : Value) → is_of_64_bits (add_values a b) ≡ true
added_small (int_value x) (int_value y) = exact_small (x +ℤ y)
added_small (int_value x) (bool_value y) = refl
added_small (int_value x) (text_value y) = refl
added_small (text_value x) (text_value y) = refl
added_small (text_value x) (bool_value y) = refl
added_small (text_value x) (int_value y) = refl
added_small (bool_value x) b = refl

subtracted_small : (a b : Value) → is_of_64_bits (subtract_values a b) ≡ true
subtracted_small (int_value x) (int_value y) = exact_small (x -ℤ y)
subtracted_small (int_value x) (bool_value y) = refl
subtracted_small (int_value x) (text_value y) = refl
subtracted_small (text_value x) b = refl
subtracted_small (bool_value x) b = refl

multiplied_small : (a b : Value) → is_of_64_bits (multiply_values a b) ≡ true
multiplied_small (int_value x) (int_value y) = exact_small (x *ℤ y)
multiplied_small (int_value x) (bool_value y) = refl
multiplied_small (int_value x) (text_value y) = refl
multiplied_small (text_value x) b = refl
multiplied_small (bool_value x) b = refl

combined_small : (o : Arithmetic) (a b : Value) → is_of_64_bits (combine o a b) ≡ true
combined_small plus a b = added_small a b
combined_small minus a b = subtracted_small a b
combined_small times a b = multiplied_small a b

compared_small : (c : Comparison) (a b : Value) → is_of_64_bits (compared c a b) ≡ true
compared_small c a b = by_order (compare_values a b)
  where
    by_order : (o : Option Ordering) → is_of_64_bits (option_map (λ o. bool_value (holds c o)) o) ≡ true
    by_order None = refl
    by_order (Some o) = refl

both_small : (f : Value → Value → Option Value) → ((a b : Value) → is_of_64_bits (f a b) ≡ true) → (x y : Option Value) → is_of_64_bits (on_both f x y) ≡ true
both_small f h None y = refl
both_small f h (Some a) None = refl
both_small f h (Some a) (Some b) = h a b

text_test_small : (f : List ℕ → Bool) (x : Option Value) → is_of_64_bits (on_text f x) ≡ true
text_test_small f None = refl
text_test_small f (Some (bool_value b)) = refl
text_test_small f (Some (int_value z)) = refl
text_test_small f (Some (text_value t)) = refl

not_small : (x : Option Value) → is_of_64_bits (not_value x) ≡ true
not_small None = refl
not_small (Some (bool_value b)) = refl
not_small (Some (int_value z)) = refl
not_small (Some (text_value t)) = refl

null_test_small : (x : Option Value) → is_of_64_bits (null_test x) ≡ true
null_test_small None = refl
null_test_small (Some v) = refl

-- beside a first operand that decides nothing
abbrev Undecided : (Option Value → Option Value) → Type 0
Undecided f = (y : Option Value) → is_of_64_bits (f y) ≡ true

and_small : (x y : Option Value) → is_of_64_bits y ≡ true → is_of_64_bits (and_values x y) ≡ true
and_small (Some (bool_value false)) y h = refl
and_small (Some (bool_value true)) y h = h
and_small None y h = by_second y
  where
    by_second : Undecided (and_values None)
    by_second None = refl
    by_second (Some (bool_value true)) = refl
    by_second (Some (bool_value false)) = refl
    by_second (Some (int_value z)) = refl
    by_second (Some (text_value t)) = refl
and_small (Some (int_value i)) y h = by_second y
  where
    by_second : Undecided (and_values (Some (int_value i)))
    by_second None = refl
    by_second (Some (bool_value true)) = refl
    by_second (Some (bool_value false)) = refl
    by_second (Some (int_value z)) = refl
    by_second (Some (text_value t)) = refl
and_small (Some (text_value u)) y h = by_second y
  where
    by_second : Undecided (and_values (Some (text_value u)))
    by_second None = refl
    by_second (Some (bool_value true)) = refl
    by_second (Some (bool_value false)) = refl
    by_second (Some (int_value z)) = refl
    by_second (Some (text_value t)) = refl

or_small : (x y : Option Value) → is_of_64_bits y ≡ true → is_of_64_bits (or_values x y) ≡ true
or_small (Some (bool_value true)) y h = refl
or_small (Some (bool_value false)) y h = h
or_small None y h = by_second y
  where
    by_second : Undecided (or_values None)
    by_second None = refl
    by_second (Some (bool_value true)) = refl
    by_second (Some (bool_value false)) = refl
    by_second (Some (int_value z)) = refl
    by_second (Some (text_value t)) = refl
or_small (Some (int_value i)) y h = by_second y
  where
    by_second : Undecided (or_values (Some (int_value i)))
    by_second None = refl
    by_second (Some (bool_value true)) = refl
    by_second (Some (bool_value false)) = refl
    by_second (Some (int_value z)) = refl
    by_second (Some (text_value t)) = refl
or_small (Some (text_value u)) y h = by_second y
  where
    by_second : Undecided (or_values (Some (text_value u)))
    by_second None = refl
    by_second (Some (bool_value true)) = refl
    by_second (Some (bool_value false)) = refl
    by_second (Some (int_value z)) = refl
    by_second (Some (text_value t)) = refl

-- an expression that gives no great literal has values of 64 bits in such a node
pub expression_small : (e : Expression) (n : Node) → is_small e ≡ true → SmallNode n → is_of_64_bits (evaluate e n) ≡ true
expression_small (constant v) n h s = h
expression_small (path_value p) n h s = value_small p (inner n) s
expression_small (negative e) n h s = both_small subtract_values subtracted_small (Some (int_value (pos 0))) (evaluate e n)
expression_small (arithmetic o a b) n h s = both_small (combine o) (combined_small o) (evaluate a n) (evaluate b n)
expression_small (comparison c a b) n h s = both_small (compared c) (compared_small c) (evaluate a n) (evaluate b n)
expression_small (like e t) n h s = text_test_small _ (evaluate e n)
expression_small (contains e t) n h s = text_test_small _ (evaluate e n)
expression_small (is_null e) n h s = null_test_small (evaluate e n)
expression_small (negation e) n h s = not_small (evaluate e n)
expression_small (conjunction a b) n h s = let k = and_parts (is_small a) (is_small b) h in and_small (evaluate a n) (evaluate b n) (expression_small b n k.1 s)
expression_small (disjunction a b) n h s = let k = and_parts (is_small a) (is_small b) h in or_small (evaluate a n) (evaluate b n) (expression_small b n k.1 s)
