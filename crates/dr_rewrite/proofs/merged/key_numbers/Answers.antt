use Rattle.std.proofs.Common.{ℕ}
use Rattle.dr_rewrite.proofs.ListLemmas.{name_pushed, at_end}
use Rattle.dr_rewrite.proofs.merged.key_numbers.Goals as goal

pub keys-preserved : goal.keys-preserved
keys-preserved c =
    name_pushed (λ (n : ℕ). n) (λ (n : ℕ). n) c.args.keys.now c.keys.place c.keys.numbers.items c.push.new.self.items c.in_ok-number_of.field-0 _ c.keys-test.true c.in_ok-push.ensures.items c.in_ok-number_of.ensures c.keys.invariant

pub returns : goal.returns
returns c = at_end (λ (n : ℕ). n) c.args.keys.now c.keys.place c.keys.numbers.items _ c.keys-test.false c.keys.invariant
