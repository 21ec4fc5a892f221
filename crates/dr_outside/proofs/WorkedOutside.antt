-- How counts move and what is told of puts, computed.
use Rattle.std.proofs.Common.{◌≡◌, ◌-◌, ◌+◌, ◌^◌, [], ◌∷◌, refl, Some, None}
use Rattle.std.specs.Prelude.{codes}
use Rattle.dr_outside.specs.Faults.{raised}
use Rattle.dr_outside.specs.Link.{PutShown, no_puts, with_put}

pub one_more : (raised 0 ≡ 1) × (raised 5 ≡ 6) × (raised (2 ^ 64 - 2) ≡ 2 ^ 64 - 1)
one_more = (refl, refl, refl)

-- it stands still at its last value, and would above that
pub no_more : (raised (2 ^ 64 - 1) ≡ 2 ^ 64 - 1) × (raised (2 ^ 64 + 1) ≡ 2 ^ 64 + 1)
no_more = (refl, refl)

abbrev first : PutShown
first = record { path = codes "a"; bytes = codes "1" }

abbrev second : PutShown
second = record { path = codes "a"; bytes = codes "2" }

-- puts are told in order, each time anew
pub puts_in_order : (with_put (with_put no_puts first) second ≡ Some (first ∷ second ∷ [])) × (with_put (with_put no_puts first) first ≡ Some (first ∷ first ∷ []))
puts_in_order = (refl, refl)

-- who doesn't tell them doesn't begin to
pub puts_untold : with_put None first ≡ None
puts_untold = refl
