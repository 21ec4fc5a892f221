-- What WHERE keeps of a record has its values, and no more rows.
use Rattle.std.proofs.Common.{◌≤◌, ℕ, zero, suc, List, [], ◌∷◌, length, Bool, true, false, Option, Some, None, arith}
use Rattle.std.specs.Prelude.{if◌then◌else◌, option_map}
use Rattle.std.specs.List.{flat_map, filter_map, cons_option}
use Rattle.std.proofs.lemmas.List.{length-append}
use Rattle.dr_meaning.specs.Path.{Step}
use Rattle.dr_meaning.specs.Record.{Node, no_slots, slot, gap, Instances, no_instances, instance, Instance, atom, inner, instances_at, put_at, single}
use Rattle.dr_meaning.specs.Rows.{rows}
use Rattle.dr_meaning.specs.Expression.{Expression, expression_chain, evaluate, is_true}
use Rattle.dr_meaning.specs.Kept.{with_kept, keep_each, if_some_kept, keep_below, keep_instance, kept_along, kept}
use Rattle.dr_partials.proofs.RowLemmas.{Each}
use Rattle.dr_partials.proofs.SmallLemmas.{SmallNode, SmallAll, SmallOne, at_small, put_small}
use Rattle.dr_partials.proofs.RowCounts.{later_counts, field_count, row_count, more_rows}

-- ---- parts

-- what is of 64 bits in the one is so in the other, which has no more rows of any path
abbrev Part : Node → Node → Type 0
Part n m = (SmallNode n → SmallNode m) × ((p : List Step) → row_count p (inner m) ≤ row_count p (inner n))

abbrev PartOne : Instance → Instance → Type 0
PartOne x y = (SmallOne x → SmallOne y) × ((p : List Step) → row_count p y ≤ row_count p x)

abbrev PartAll : Instances → Instances → Type 0
PartAll xs ys = (SmallAll xs → SmallAll ys) × ((p : List Step) → later_counts (row_count p) ys ≤ later_counts (row_count p) xs)

abbrev KeptOf : Node → Option Node → Type 0
KeptOf n None = Unit {0}
KeptOf n (Some m) = Part n m

abbrev KeptOfOne : Instance → Option Instance → Type 0
KeptOfOne x None = Unit {0}
KeptOfOne x (Some y) = PartOne x y

put_rows : (f : Instance → ℕ) (i j : ℕ) (ys : Instances) (n : Node) → field_count f ys ≤ field_count f (instances_at i n) → field_count f (instances_at j (put_at i ys n)) ≤ field_count f (instances_at j n)
put_rows f i j ys no_slots h = omega arith
put_rows f zero zero ys (slot zs n) h = h
put_rows f zero (suc j) ys (slot zs n) h = omega arith
put_rows f (suc i) zero ys (slot zs n) h = omega arith
put_rows f (suc i) (suc j) ys (slot zs n) h = put_rows f i j ys n h
put_rows f zero zero ys (gap n) h = omega arith
put_rows f zero (suc j) ys (gap n) h = omega arith
put_rows f (suc i) zero ys (gap n) h = omega arith
put_rows f (suc i) (suc j) ys (gap n) h = put_rows f i j ys n h

some_rows : (f : Instance → ℕ) (xs : Instances) → later_counts f xs ≤ field_count f xs
some_rows f no_instances = omega arith
some_rows f (instance x xs) = omega arith

put_count : (i : ℕ) (n : Node) (y : Instance) (ys : Instances) → ((p : List Step) → later_counts (row_count p) (instance y ys) ≤ later_counts (row_count p) (instances_at i n))
    → (p : List Step) → row_count p (inner (put_at i (instance y ys) n)) ≤ row_count p (inner n)
put_count i n y ys h [] = omega arith
put_count i n y ys h (t ∷ p) = put_rows (row_count p) i t.place (instance y ys) n (omega (arith, h p, some_rows (row_count p) (instances_at i n)))

put_part : (i : ℕ) (n : Node) (y : Instance) (ys : Instances) → PartAll (instances_at i n) (instance y ys) → Part n (put_at i (instance y ys) n)
put_part i n y ys k = (λ (h : SmallNode n). put_small i (instance y ys) n (k.0 (at_small i n h)) h, put_count i n y ys k.1)

-- ---- kept branches

if_itself : (n : Node) (b : Bool) → KeptOf n (if b then Some n else None)
if_itself n true = (λ (h : SmallNode n). h, λ (p : List Step). omega arith)
if_itself n false = tt

atom_itself : (x : Instance) (b : Bool) → KeptOfOne x (if b then Some x else None)
atom_itself x true = (λ (h : SmallOne x). h, λ (p : List Step). omega arith)
atom_itself x false = tt

inner_kept : (n : Node) (o : Option Node) → KeptOf n o → KeptOfOne (inner n) (option_map inner o)
inner_kept n None h = tt
inner_kept n (Some m) h = h

one_kept : (p : List Step) → ((test : Node → Bool) (n : Node) → KeptOf n (kept_along p test n)) → (row : Instance → Node) (test : Node → Bool) (x : Instance) → KeptOfOne x (keep_instance (kept_along p) row test x)
one_kept p h row test (atom v) = atom_itself (atom v) (test (row (atom v)))
one_kept p h row test (inner n) = inner_kept n (kept_along p (λ m. test (row (inner m))) n) (h (λ m. test (row (inner m))) n)

with_kept_part : (x : Instance) (o : Option Instance) (xs ys : Instances) → KeptOfOne x o → PartAll xs ys → PartAll (instance x xs) (with_kept o ys)
with_kept_part x None xs ys h k = (λ (a : SmallAll (instance x xs)). k.0 a.1, λ (p : List Step). omega (arith, k.1 p))
with_kept_part x (Some y) xs ys h k = (λ (a : SmallAll (instance x xs)). (h.0 a.0, k.0 a.1), λ (p : List Step). omega (arith, h.1 p, k.1 p))

each_kept : (f : Instance → Option Instance) → ((x : Instance) → KeptOfOne x (f x)) → (xs : Instances) → PartAll xs (keep_each f xs)
each_kept f h no_instances = (λ (a : SmallAll no_instances). a, λ (p : List Step). omega arith)
each_kept f h (instance x xs) = with_kept_part x (f x) xs (keep_each f xs) (h x) (each_kept f h xs)

some_kept : (n : Node) (put : Instances → Node) (xs ys : Instances) → ((z : Instance) (zs : Instances) → PartAll xs (instance z zs) → Part n (put (instance z zs))) → PartAll xs ys → KeptOf n (if_some_kept put ys)
some_kept n put xs no_instances h k = tt
some_kept n put xs (instance y ys) h k = h y ys k

below_kept : (test : Node → Bool) (put : Instances → Node) (f : Instance → Option Instance) (n : Node) (xs : Instances) → ((x : Instance) → KeptOfOne x (f x))
    → ((z : Instance) (zs : Instances) → PartAll xs (instance z zs) → Part n (put (instance z zs))) → KeptOf n (keep_below test put f n xs)
below_kept test put f n no_instances h k = if_itself n (test n)
below_kept test put f n (instance x xs) h k = some_kept n put (instance x xs) (keep_each f (instance x xs)) k (each_kept f h (instance x xs))

along_kept : (p : List Step) (test : Node → Bool) (n : Node) → KeptOf n (kept_along p test n)
along_kept [] test n = if_itself n (test n)
along_kept (s ∷ p) test n = below_kept test (λ xs. put_at s.place xs n) (keep_instance (kept_along p) (λ x. put_at s.place (single x) n) test) n (instances_at s.place n)
    (one_kept p (along_kept p) (λ x. put_at s.place (single x) n) test) (put_part s.place n)

kept_part : (c : Option Expression) (n : Node) → KeptOf n (kept c n)
kept_part None n = if_itself n true
kept_part (Some e) n = along_kept (expression_chain e) (λ row. is_true (evaluate e row)) n

-- ---- of records

pub kept_small : (c : Option Expression) (R : List Node) → Each SmallNode R → Each SmallNode (filter_map (kept c) R)
kept_small c [] h = tt
kept_small c (n ∷ R) h = by_kept (kept c n) (kept_part c n) (kept_small c R h.1)
  where
    by_kept : (o : Option Node) → KeptOf n o → Each SmallNode (filter_map (kept c) R) → Each SmallNode (cons_option o (filter_map (kept c) R))
    by_kept None k r = r
    by_kept (Some m) k r = (k.0 h.0, r)

pub kept_rows : (c : Option Expression) (p : List Step) (R : List Node) → length (flat_map (rows p) (filter_map (kept c) R)) ≤ length (flat_map (rows p) R)
kept_rows c p [] = omega arith
kept_rows c p (n ∷ R) = by_kept (kept c n) (kept_part c n) (kept_rows c p R)
  where
    by_kept : (o : Option Node) → KeptOf n o → length (flat_map (rows p) (filter_map (kept c) R)) ≤ length (flat_map (rows p) R)
        → length (flat_map (rows p) (cons_option o (filter_map (kept c) R))) ≤ length (flat_map (rows p) (n ∷ R))
    by_kept None k r = omega (arith, length-append (rows p n) (flat_map (rows p) R))
    by_kept (Some m) k r =
        omega (arith, length-append (rows p n) (flat_map (rows p) R), length-append (rows p m) (flat_map (rows p) (filter_map (kept c) R)), more_rows p m n (k.1 p))
