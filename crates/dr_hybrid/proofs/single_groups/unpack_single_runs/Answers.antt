use Rattle.std.proofs.Common.{◌≡◌, ◌≤◌, ◌<◌, ◌-◌, ◌^◌, ℕ, arith, pow_mono, subst}
use Rattle.std.proofs.lemmas.Nat.{pow_pos}
use Rattle.dr_hybrid.proofs.UnpackLemmas.{mask_is}
use Rattle.dr_hybrid.proofs.single_groups.unpack_single_runs.Goals as goal

-- a mask of a width is held where the width is
mask_held : (width held : ℕ) → width ≤ held → 2 ^ width - 1 < 2 ^ held
mask_held width held l = omega (arith, pow_mono l, pow_pos width)

pub unpack_single_groups-requires-clause-held : goal.unpack_single_groups-requires-clause-held
unpack_single_groups-requires-clause-held g c = subst (λ (w : ℕ). 2 ^ w - 1 < 2 ^ g.T.Packable.greatest_width) c.in-1.is (mask_held c.args.width g.T.Packable.greatest_width c.requires.held)

pub unpack_single_groups-requires-in-2-clause-held :
    goal.unpack_single_groups-requires-in-2-clause-held
unpack_single_groups-requires-in-2-clause-held g c = subst (λ (w : ℕ). 2 ^ w - 1 < 2 ^ g.T.Packable.greatest_width) c.in-2.is (mask_held c.args.width g.T.Packable.greatest_width c.requires.held)

pub unpack_single_groups-requires-in-3-clause-held :
    goal.unpack_single_groups-requires-in-3-clause-held
unpack_single_groups-requires-in-3-clause-held g c = subst (λ (w : ℕ). 2 ^ w - 1 < 2 ^ g.T.Packable.greatest_width) c.in-3.is (mask_held c.args.width g.T.Packable.greatest_width c.requires.held)

pub unpack_single_groups-requires-in_default-clause-held :
    goal.unpack_single_groups-requires-in_default-clause-held
unpack_single_groups-requires-in_default-clause-held g c = omega (arith, mask_is c.args.width (omega (arith, c.requires.narrow)), mask_held c.args.width g.T.Packable.greatest_width c.requires.held)
