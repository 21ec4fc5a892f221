use Rattle.std.proofs.Common.{◌≡◌, ◌++◌, map, drop}
use Rattle.dr_rewrite.specs.ServerItems.{titled}
use Rattle.dr_rewrite.proofs.server_items.copied_items.Given as goal

-- those that are left are still to come
abbrev pub invariant-items : goal.invariant-items
invariant-items l = map titled l.copies.items ++ map titled (drop l.item-index l.items) ≡ map titled l.items
