-- What a node has where instances of a field are put, and where they are put twice.
use Rattle.std.specs.Prelude.{◌≡◌, ◌≢◌, ◌⊎◌, ℕ, zero, suc}
use Rattle.std.proofs.Common.{inl, inr, refl, sym, ap}
use Rattle.dr_meaning.specs.Record.{Node, no_slots, slot, gap, Instances, no_instances, instance, Instance, instances_at, put_at}

-- an absent field put as absent
pub put_none : (i : ℕ) (n : Node) → instances_at i n ≡ no_instances → put_at i no_instances n ≡ n
put_none i no_slots h = refl
put_none zero (slot xs n) h = ap (λ (x : Instances). slot x n) (sym h)
put_none (suc i) (slot xs n) h = ap (slot xs) (put_none i n h)
put_none zero (gap n) h = refl
put_none (suc i) (gap n) h = ap gap (put_none i n h)

-- a field that has an instance has what is put
pub put_there : (i : ℕ) (x : Instance) (xs ys : Instances) (n : Node) → instances_at i n ≡ instance x xs → instances_at i (put_at i ys n) ≡ ys
put_there i x xs ys no_slots h = absurd (cc)
put_there zero x xs ys (slot zs n) h = refl
put_there (suc i) x xs ys (slot zs n) h = put_there i x xs ys n h
put_there zero x xs ys (gap n) h = absurd (cc)
put_there (suc i) x xs ys (gap n) h = put_there i x xs ys n h

-- a field has what is put, or where the node has no such field what it had
pub put_either : (i : ℕ) (ys : Instances) (n : Node) → (instances_at i (put_at i ys n) ≡ ys) ⊎ (instances_at i (put_at i ys n) ≡ instances_at i n)
put_either i ys no_slots = inr refl
put_either zero ys (slot zs n) = inl refl
put_either (suc i) ys (slot zs n) = put_either i ys n
put_either zero ys (gap n) = inr refl
put_either (suc i) ys (gap n) = put_either i ys n

-- other fields are as they were
pub put_apart : (i j : ℕ) (ys : Instances) (n : Node) → i ≢ j → instances_at i (put_at j ys n) ≡ instances_at i n
put_apart i j ys no_slots h = refl
put_apart zero zero ys (slot xs n) h = absurd (h refl)
put_apart zero (suc j) ys (slot xs n) h = refl
put_apart (suc i) zero ys (slot xs n) h = refl
put_apart (suc i) (suc j) ys (slot xs n) h = put_apart i j ys n (λ e. h (ap (λ (k : ℕ). suc k) e))
put_apart zero zero ys (gap n) h = absurd (h refl)
put_apart zero (suc j) ys (gap n) h = refl
put_apart (suc i) zero ys (gap n) h = refl
put_apart (suc i) (suc j) ys (gap n) h = put_apart i j ys n (λ e. h (ap (λ (k : ℕ). suc k) e))

-- what is put last stays
pub put_twice : (i : ℕ) (xs ys : Instances) (n : Node) → put_at i xs (put_at i ys n) ≡ put_at i xs n
put_twice i xs ys no_slots = refl
put_twice zero xs ys (slot zs n) = refl
put_twice (suc i) xs ys (slot zs n) = ap (slot zs) (put_twice i xs ys n)
put_twice zero xs ys (gap n) = refl
put_twice (suc i) xs ys (gap n) = ap gap (put_twice i xs ys n)

-- what is put into two fields, in either order
pub put_swap : (i j : ℕ) (xs ys : Instances) (n : Node) → i ≢ j → put_at i xs (put_at j ys n) ≡ put_at j ys (put_at i xs n)
put_swap i j xs ys no_slots h = refl
put_swap zero zero xs ys (slot zs n) h = absurd (h refl)
put_swap zero (suc j) xs ys (slot zs n) h = refl
put_swap (suc i) zero xs ys (slot zs n) h = refl
put_swap (suc i) (suc j) xs ys (slot zs n) h = ap (slot zs) (put_swap i j xs ys n (λ e. h (ap (λ (k : ℕ). suc k) e)))
put_swap zero zero xs ys (gap n) h = refl
put_swap zero (suc j) xs ys (gap n) h = refl
put_swap (suc i) zero xs ys (gap n) h = refl
put_swap (suc i) (suc j) xs ys (gap n) h = ap gap (put_swap i j xs ys n (λ e. h (ap (λ (k : ℕ). suc k) e)))
