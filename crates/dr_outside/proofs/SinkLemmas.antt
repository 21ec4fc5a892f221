-- Writes one after the other.
use Rattle.std.proofs.Common.{◌≡◌, ◌<◌, ◌≤◌, ◌+◌, ℕ, Bool, true, false, eqb, true≢false, List, [], ◌++◌, length, take, length-append, length-take, arith, None, Some, sym, ap, ◌∙◌, append_assoc, append-nil}
use Rattle.std.proofs.lemmas.Bool.Decides.{nat_tests}
use Rattle.std.specs.declared.option.Option.{Option}
use Rattle.dr_outside.specs.Faults.{raised}
use Rattle.dr_outside.specs.Sink.{Added}
use Rattle.dr_outside.proofs.FaultLemmas.{raised_by_one}

pub Added-nil : (a : Option (List ℕ)) → Added a a []
Added-nil None = tt
Added-nil (Some x) = sym (append-nil x)

pub Added-trans : (a b c : Option (List ℕ)) (first second : List ℕ) → Added a b first → Added b c second → Added a c (first ++ second)
Added-trans None b c first second p q = tt
Added-trans (Some x) None c first second p q = absurd p
Added-trans (Some x) (Some y) None first second p q = absurd q
Added-trans (Some x) (Some y) (Some z) first second p q = q ∙ ap (λ l. l ++ second) p ∙ append_assoc x first second

-- a list that isn't empty
pub longer_than_none : (n : ℕ) (e : Bool) → e ≡ eqb n 0 → e ≡ false → 0 < n
longer_than_none n true h k = absurd (true≢false k)
longer_than_none n false h k = grind (arith, nat_tests)

-- a write that took a byte is one write more for one byte or more
pub calls_after : (start now next n : ℕ) (front rest : List ℕ) → next ≡ raised now → now ≤ start + length front → 0 < n → n ≤ length rest → next ≤ start + length (front ++ take n rest)
calls_after start now next n front rest e h some fits = omega (arith, raised_by_one now, length-append front (take n rest), length-take n rest)
