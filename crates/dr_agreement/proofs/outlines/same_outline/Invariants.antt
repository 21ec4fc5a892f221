use Rattle.std.proofs.Common.{◌≡◌, true, false, take}
use Rattle.dr_agreement.proofs.outlines.same_outline.Given as goal

-- whether they are the same up to this one
abbrev pub invariant-levels : goal.invariant-levels
invariant-levels l = record {
  same : l.differ ≡ false → take l.at l.one ≡ take l.at l.other;
  differ : l.differ ≡ true → l.one ≡ l.other → ⊥;
}
