use Rattle.std.proofs.Common.{◌≡◌, ◌<◌, ◌≤◌, ℕ, map, drop, get_or}
use Rattle.dr_agreement.specs.AtHand.{here_of, ends_of, form_of}
use Rattle.dr_agreement.proofs.leaves_at_hand.pass_each.Given as goal

-- those before this one are passed, the others are not
abbrev pub invariant-leaves : goal.invariant-leaves
invariant-leaves l = record {
  before : (i : ℕ) → i < l.at → here_of l.leaves i ≡ drop (get_or l.counts i 0) (here_of l.fn.leaves i);
  behind : (i : ℕ) → l.at ≤ i → here_of l.leaves i ≡ here_of l.fn.leaves i;
  ends : (i : ℕ) → ends_of l.leaves i ≡ ends_of l.fn.leaves i;
  forms : map form_of l.leaves ≡ map form_of l.fn.leaves;
}
