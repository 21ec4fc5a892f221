-- A record is kept exactly where its condition is true in one of the rows of the condition's chain.
use Rattle.std.proofs.Common.{◌≡◌, ℕ, zero, suc, List, [], ◌∷◌, ◌++◌, Bool, true, false, Option, None, Some, refl, sym, ap, ap₂, ◌∙◌}
use Rattle.std.specs.Prelude.{map, ◌||◌, if◌then◌else◌, option_map, is_some}
use Rattle.std.specs.List.{list_any}
use Rattle.dr_meaning.specs.Path.{Step}
use Rattle.dr_meaning.specs.Record.{Node, no_slots, slot, gap, Instances, no_instances, instance, Instance, atom, inner, single, instances_at, put_at}
use Rattle.dr_meaning.specs.Rows.{instance_rows, each_instance_rows, field_rows, rows}
use Rattle.dr_meaning.specs.Kept.{with_kept, keep_each, if_some_kept, keep_below, keep_instance, kept_along}

pub any_append : {X : Type 0} (f : X → Bool) (xs ys : List X) → list_any f (xs ++ ys) ≡ (list_any f xs || list_any f ys)
any_append f [] ys = refl
any_append f (x ∷ xs) ys = by_first (f x) (any_append f xs ys)
  where
    by_first : (b : Bool) → list_any f (xs ++ ys) ≡ (list_any f xs || list_any f ys) → (b || list_any f (xs ++ ys)) ≡ ((b || list_any f xs) || list_any f ys)
    by_first true e = refl
    by_first false e = e

pub any_map : {X Y : Type 0} (f : Y → Bool) (g : X → Y) (xs : List X) → list_any f (map g xs) ≡ list_any (λ x. f (g x)) xs
any_map f g [] = refl
any_map f g (x ∷ xs) = ap (λ (b : Bool). f (g x) || b) (any_map f g xs)

any_single : (b : Bool) → b ≡ (b || false)
any_single true = refl
any_single false = refl

test_kept : (n : Node) (b : Bool) → is_some (if b then Some n else None) ≡ b
test_kept n true = refl
test_kept n false = refl

put_none : (i : ℕ) (n : Node) → instances_at i n ≡ no_instances → put_at i no_instances n ≡ n
put_none i no_slots h = refl
put_none zero (slot xs n) h = ap (λ (x : Instances). slot x n) (sym h)
put_none (suc i) (slot xs n) h = ap (slot xs) (put_none i n h)
put_none zero (gap n) h = refl
put_none (suc i) (gap n) h = ap gap (put_none i n h)

is_any : Instances → Bool
is_any no_instances = false
is_any (instance x xs) = true

some_any : (f : Instances → Node) (xs : Instances) → is_some (if_some_kept f xs) ≡ is_any xs
unfolding is_any
some_any f no_instances = refl
some_any f (instance x xs) = refl

with_any : (o : Option Instance) (xs : Instances) → is_any (with_kept o xs) ≡ (is_some o || is_any xs)
unfolding is_any
with_any None xs = refl
with_any (Some x) xs = refl

mapped_some : (o : Option Node) → is_some (option_map inner o) ≡ is_some o
mapped_some None = refl
mapped_some (Some n) = refl

abbrev pub IsAny : List Step → Type 0
IsAny p = (test : Node → Bool) (n : Node) → is_some (kept_along p test n) ≡ list_any test (rows p n)

pub instance_any : (p : List Step) → IsAny p → (row : Instances → Node) (test : Node → Bool) (x : Instance) → is_some (keep_instance (kept_along p) (λ y. row (single y)) test x) ≡ list_any (λ (xs : Instances). test (row xs)) (instance_rows (rows p) x)
instance_any p f row test (atom v) = by_test (test (row (single (atom v))))
  where
    by_test : (b : Bool) → is_some (if b then Some (atom v) else None) ≡ (b || false)
    by_test true = refl
    by_test false = refl
instance_any p f row test (inner n) = mapped_some (kept_along p (λ m. test (row (single (inner m)))) n) ∙ f (λ m. test (row (single (inner m)))) n ∙ sym (any_map (λ (xs : Instances). test (row xs)) (λ m. single (inner m)) (rows p n))

each_any : (p : List Step) → IsAny p → (row : Instances → Node) (test : Node → Bool) (xs : Instances) → is_any (keep_each (keep_instance (kept_along p) (λ y. row (single y)) test) xs) ≡ list_any (λ (ys : Instances). test (row ys)) (each_instance_rows (rows p) xs)
unfolding is_any
each_any p f row test no_instances = refl
each_any p f row test (instance x xs) = with_any (keep_instance (kept_along p) (λ y. row (single y)) test x) (keep_each (keep_instance (kept_along p) (λ y. row (single y)) test) xs)
    ∙ ap₂ (λ (a b : Bool). a || b) (instance_any p f row test x) (each_any p f row test xs)
    ∙ sym (any_append (λ (ys : Instances). test (row ys)) (instance_rows (rows p) x) (each_instance_rows (rows p) xs))

pub kept_any : (p : List Step) → IsAny p
kept_any [] test n = test_kept n (test n) ∙ any_single (test n)
kept_any (s ∷ p) test n = by_slot (instances_at s.place n) refl (kept_any p)
  where
    by_slot : (xs : Instances) → instances_at s.place n ≡ xs → IsAny p
        → is_some (keep_below test (λ ys. put_at s.place ys n) (keep_instance (kept_along p) (λ x. put_at s.place (single x) n) test) n xs) ≡ list_any test (map (λ ys. put_at s.place ys n) (field_rows (rows p) xs))
    by_slot no_instances e f = test_kept n (test n) ∙ any_single (test n) ∙ ap (λ (x : Node). test x || false) (sym (put_none s.place n e))
    by_slot (instance x xs) e f = some_any (λ ys. put_at s.place ys n) (keep_each (keep_instance (kept_along p) (λ y. put_at s.place (single y) n) test) (instance x xs))
        ∙ each_any p f (λ ys. put_at s.place ys n) test (instance x xs) ∙ sym (any_map test (λ ys. put_at s.place ys n) (each_instance_rows (rows p) (instance x xs)))
