-- What a node has where instances of a field are put.
use Rattle.std.specs.Prelude.{◌≡◌, ◌≢◌, ℕ, zero, suc}
use Rattle.std.proofs.Common.{refl, ap}
use Rattle.dr_meaning.specs.Record.{Node, no_slots, slot, gap, Instances, instance, Instance, instances_at, put_at}

-- a field that has an instance has what is put
pub put_there : (i : ℕ) (xs zs : Instances) (z : Instance) (n : Node) → instances_at i n ≡ instance z zs → instances_at i (put_at i xs n) ≡ xs
put_there i xs zs z no_slots e = cc
put_there zero xs zs z (slot ys n) e = refl
put_there (suc i) xs zs z (slot ys n) e = put_there i xs zs z n e
put_there zero xs zs z (gap n) e = cc
put_there (suc i) xs zs z (gap n) e = put_there i xs zs z n e

-- other fields are as they were
pub put_apart : (i j : ℕ) (xs : Instances) (n : Node) → i ≢ j → instances_at j (put_at i xs n) ≡ instances_at j n
put_apart i j xs no_slots h = refl
put_apart zero zero xs (slot ys n) h = absurd (h refl)
put_apart zero (suc j) xs (slot ys n) h = refl
put_apart (suc i) zero xs (slot ys n) h = refl
put_apart (suc i) (suc j) xs (slot ys n) h = put_apart i j xs n (λ e. h (ap (λ (k : ℕ). suc k) e))
put_apart zero zero xs (gap n) h = refl
put_apart zero (suc j) xs (gap n) h = refl
put_apart (suc i) zero xs (gap n) h = refl
put_apart (suc i) (suc j) xs (gap n) h = put_apart i j xs n (λ e. h (ap (λ (k : ℕ). suc k) e))

-- what was there, put again
pub put_same : (i : ℕ) (n : Node) → put_at i (instances_at i n) n ≡ n
put_same i no_slots = refl
put_same zero (slot ys n) = refl
put_same (suc i) (slot ys n) = ap (slot ys) (put_same i n)
put_same zero (gap n) = refl
put_same (suc i) (gap n) = ap gap (put_same i n)
