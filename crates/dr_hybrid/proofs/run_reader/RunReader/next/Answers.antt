use Rattle.std.proofs.Common.{◌≡◌, ◌+◌, ◌++◌, ◌∙◌, Some, length, refl, sym, ap, arith}
use Rattle.std.specs.Prelude.{option_map}
use Rattle.std.proofs.lemmas.List.{append-nil}
use Rattle.dr_hybrid.specs.Unread.{unread_ahead}
use Rattle.dr_hybrid.specs.Reader.{ahead, bytes_left}
use Rattle.dr_hybrid.proofs.ReaderLemmas.{none_wanted}
use Rattle.dr_hybrid.proofs.run_reader.RunReader.next.Goals as goal

pub returns-in-Short-clause-short : goal.returns-in-Short-clause-short
unfolding ahead
returns-in-Short-clause-short g c = λ n. ap (λ u. unread_ahead u c.args.self.now.width (length c.args.out.now + n) (bytes_left c.args.self.now c.args.bytes.now)) c.in-Short.is

pub returns-in-Short-clause-stays_short : goal.returns-in-Short-clause-stays_short
unfolding ahead
returns-in-Short-clause-stays_short g c = λ n bytes. ap (λ u. unread_ahead u c.args.self.now.width n (bytes_left c.args.self.now bytes)) c.in-Short.is

pub returns-in-Ok-clause-read : goal.returns-in-Ok-clause-read
unfolding ahead
returns-in-Ok-clause-read g c =
    let e : length c.args.out.now + 0 ≡ length c.args.out.now = omega arith in
    ap (λ k. ahead c.args.self.now k c.args.bytes.now) (sym e)
    ∙ (c.in-Ok.ensures.rest 0
    ∙ (ap (option_map (λ more. g.T.Packable.numbers c.read.new.out ++ more)) (none_wanted c.read.new.self.width c.read.new.self.unread (bytes_left c.read.new.self c.args.bytes.now) c.in-Ok.ensures.open)
    ∙ ap Some (append-nil (g.T.Packable.numbers c.read.new.out))))

pub returns-in-Err-clause-stays_short : goal.returns-in-Err-clause-stays_short
unfolding ahead
returns-in-Err-clause-stays_short g c = λ n bytes. refl
