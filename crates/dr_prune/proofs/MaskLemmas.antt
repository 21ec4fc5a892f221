-- Bits of masks, and the branches that they are for.
use Rattle.std.proofs.Common.{◌≡◌, ℕ, ◌-◌, ◌^◌, ◌≤◌, ◌<◌, Bool, true, false, ◌||◌, refl, ap, ap₂, ◌∙◌, arith}
use Rattle.std.specs.Prelude.{nat_le, nat_lt, ◌==◌, if◌then◌else◌}
use Rattle.std.specs.Int.{bit_at}
use Rattle.std.proofs.lemmas.Bool.{leb-true, leb-false, ltb-true, ltb-false}
use Rattle.std.proofs.lemmas.Nat.Bits.{bit_at_mask_inside, bit_at_mask_below, bit_at_mask_above}
use Rattle.dr_levels.specs.Branches.{branch_at}
use Rattle.dr_levels.specs.declared.kept.Branch.{Branch}
use Rattle.dr_levels.specs.declared.kept.Kept.{Kept}
use Rattle.dr_kept_laws.specs.Telling.{Verdict, kept, dropped, undecided}
use Rattle.dr_prune.specs.Pruning.{verdict_of}

-- at a place, where of the outermost so many (along) those from `top` on are dropped, and the others from `hit` on undecided
abbrev pub verdict_between : ℕ → ℕ → ℕ → ℕ → Verdict
verdict_between hit top along i = if nat_le along i || nat_lt i hit then kept else if nat_le top i then dropped else undecided

-- a branch by its two bits
by_bits : (k : Kept) (i u d : ℕ) → bit_at k.undecided i ≡ u → bit_at k.dropped i ≡ d
    → verdict_of (branch_at k i) ≡ verdict_of (if u == 1 then Branch.Undecided else if d == 1 then Branch.Dropped else Branch.Kept)
by_bits k i u d e f = ap₂ (λ (x y : ℕ). verdict_of (if x == 1 then Branch.Undecided else if y == 1 then Branch.Dropped else Branch.Kept)) e f

module _ (hit top along : ℕ) (order : hit ≤ top) (within : top ≤ along) where
  pub between_bits : (k : Kept) → k.undecided ≡ 2 ^ top - 2 ^ hit → k.dropped ≡ 2 ^ along - 2 ^ top → (i : ℕ) → verdict_of (branch_at k i) ≡ verdict_between hit top along i
  between_bits k e f i = by_along (nat_le along i) refl
    where
      in_mask : (m lo hi x : ℕ) → m ≡ 2 ^ hi - 2 ^ lo → bit_at (2 ^ hi - 2 ^ lo) i ≡ x → bit_at m i ≡ x
      in_mask m lo hi x q h = ap (λ (y : ℕ). bit_at y i) q ∙ h

      by_top : (b : Bool) → nat_le top i ≡ b → hit ≤ i → i < along → verdict_of (branch_at k i) ≡ (if b then dropped else undecided)
      by_top true q h l = by_bits k i 0 1 (in_mask k.undecided hit top 0 e (bit_at_mask_above hit top i (leb-true top i q))) (in_mask k.dropped top along 1 f (bit_at_mask_inside top along i (leb-true top i q) l))
      by_top false q h l = by_bits k i 1 0 (in_mask k.undecided hit top 1 e (bit_at_mask_inside hit top i h (leb-false top i q))) (in_mask k.dropped top along 0 f (bit_at_mask_below top along i (leb-false top i q)))

      by_hit : (b : Bool) → nat_lt i hit ≡ b → i < along → verdict_of (branch_at k i) ≡ (if b then kept else if nat_le top i then dropped else undecided)
      by_hit true q l =
          let x : i < hit = ltb-true i hit q in
          by_bits k i 0 0 (in_mask k.undecided hit top 0 e (bit_at_mask_below hit top i x)) (in_mask k.dropped top along 0 f (bit_at_mask_below top along i (omega (arith, x, order))))
      by_hit false q l = by_top (nat_le top i) refl (ltb-false i hit q) l

      by_along : (b : Bool) → nat_le along i ≡ b → verdict_of (branch_at k i) ≡ (if b || nat_lt i hit then kept else if nat_le top i then dropped else undecided)
      by_along true q =
          let x : along ≤ i = leb-true along i q in
          by_bits k i 0 0 (in_mask k.undecided hit top 0 e (bit_at_mask_above hit top i (omega (arith, x, within)))) (in_mask k.dropped top along 0 f (bit_at_mask_above top along i x))
      by_along false q = by_hit (nat_lt i hit) refl (leb-false along i q)
