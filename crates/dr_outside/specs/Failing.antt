-- Which calls of a thing in memory are to fail, and how many did.
use Rattle.std.specs.Prelude.{ℕ, Bool, ◌+◌, ◌-◌, ◌^◌, ◌==◌, ◌&&◌, nat_le, nat_lt, List, if◌then◌else◌}
use Rattle.std.specs.List.{list_all, list_any}
use Rattle.dr_outside.specs.Faults.{raised}

-- the numbers of the calls that are to fail, counted from 1; the calls so far; the faults so far
pub record Failing : Type 0 where
  pub listed : List ℕ
  pub calls : ℕ
  pub faults : ℕ

-- before the first call
abbrev pub unused : List ℕ → Failing
unused listed = record { listed = listed; calls = 0; faults = 0 }

-- the next call is to fail; calls past 2^64 - 1 have no number
abbrev pub is_due : Failing → Bool
is_due f = nat_lt f.calls (2 ^ 64 - 1) && list_any (λ n. n == f.calls + 1) f.listed

-- one more call was made
abbrev pub after_call : Failing → Failing
after_call f = record { listed = f.listed; calls = raised f.calls; faults = if is_due f then raised f.faults else f.faults }

-- one more fault
abbrev pub after_fault : Failing → Failing
after_fault f = record { listed = f.listed; calls = f.calls; faults = raised f.faults }

-- no call from here on is listed
abbrev pub is_quiet : Failing → Bool
is_quiet f = list_all (λ n. nat_le n f.calls) f.listed
