use Rattle.std.proofs.Common.{◌≡◌, ◌++◌, ℕ, map, drop, string_bytes}
use Rattle.dr_rewrite.specs.Items.{indexed, key_name}
use Rattle.dr_rewrite.proofs.columns.key_names.Given as goal

-- those that are left are still to come
abbrev pub invariant-keys : goal.invariant-keys
invariant-keys l = map string_bytes l.texts.items ++ indexed (λ (i k : ℕ). key_name i) l.place (drop l.place l.keys) ≡ indexed (λ (i k : ℕ). key_name i) 0 l.keys
