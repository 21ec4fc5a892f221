use Rattle.std.proofs.Common.{◌≡◌, ◌++◌, ℕ, drop, map}
use Rattle.dr_rewrite.specs.Items.{indexed}
use Rattle.dr_rewrite.specs.Merged.{key_numbers}
use Rattle.dr_rewrite.proofs.merged.key_numbers.Given as goal

-- those that are left are still to come
abbrev pub invariant-keys : goal.invariant-keys
invariant-keys l = map (λ (n : ℕ). n) l.numbers.items ++ indexed (λ (i k : ℕ). i) l.place (drop l.place l.keys) ≡ key_numbers l.keys
