use Rattle.std.proofs.Common.{◌≡◌, drop}
use Rattle.std.specs.Prelude.{◌&&◌, nat_le}
use Rattle.std.specs.List.{list_all}
use Rattle.dr_page.proofs.level_part.none_above.Given as goal

-- none of those before is above it, and the others are still to be looked at
abbrev pub invariant-levels : goal.invariant-levels
invariant-levels l = (nat_le l.most l.greatest && list_all (λ k. nat_le k l.greatest) (drop l.level-index l.levels)) ≡ list_all (λ k. nat_le k l.greatest) l.levels
