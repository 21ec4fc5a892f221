use Rattle.std.proofs.Common.{◌≡◌, ◌++◌, ℕ, map, drop}
use Rattle.dr_rewrite.specs.Items.{indexed}
use Rattle.dr_rewrite.specs.ServerItems.{titled, titled_key, titled_keys}
use Rattle.dr_rewrite.proofs.server_items.server_items.Given as goal

-- those that are left are still to come
abbrev pub invariant-keys : goal.invariant-keys
invariant-keys l = map titled l.items.items ++ indexed (λ (i k : ℕ). titled_key i) l.place (drop l.place l.keys) ≡ titled_keys l.keys
