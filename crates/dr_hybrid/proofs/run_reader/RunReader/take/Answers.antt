use Rattle.std.proofs.Common.{◌+◌, ◌-◌, ◌++◌, ◌∙◌, ℕ, length, sym, ap, ap₂, subst}
use Rattle.std.specs.Prelude.{option_map}
use Rattle.dr_hybrid.specs.Unread.{unread_ahead, HasMore, IsBegun}
use Rattle.dr_hybrid.specs.Ahead.{repeat_ahead}
use Rattle.dr_hybrid.specs.Reader.{ahead, bytes_left}
use Rattle.dr_hybrid.proofs.ReaderLemmas.{value_fits, repeat_read}
use Rattle.dr_hybrid.proofs.run_reader.RunReader.take.Goals as goal

pub fill-requires : goal.fill-requires
fill-requires g c =
    let b = subst (IsBegun c.args.self.now.width) c.in-Repeat.is c.args.self.now.begun in
    value_fits c.args.self.now.width g.T.Packable.greatest_width c.in-Repeat.value c.requires.held g.met.T.Packable.whole b

pub returns-in-Repeat-clause-rest : goal.returns-in-Repeat-clause-rest
unfolding ahead
returns-in-Repeat-clause-rest g c = λ n.
    let m = subst (λ u. HasMore u (length c.args.out.now)) c.in-Repeat.is c.requires.left in
    let k : ℕ = length c.args.out.now in
    ap (λ u. unread_ahead u c.args.self.now.width (k + n) (bytes_left c.args.self.now c.args.bytes.now)) c.in-Repeat.is
    ∙ (repeat_read c.args.self.now.width c.in-Repeat.value c.in-Repeat.left k n (bytes_left c.args.self.now c.args.bytes.now) m
    ∙ ap₂ (λ vs j. option_map (λ more. vs ++ more) (repeat_ahead c.args.self.now.width c.in-Repeat.value (c.in-Repeat.left - j) n (bytes_left c.args.self.now c.args.bytes.now))) (sym c.fill.ensures) (sym c.fill.auto.out))
