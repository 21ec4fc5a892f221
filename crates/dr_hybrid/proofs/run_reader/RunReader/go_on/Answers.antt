use Rattle.std.proofs.Common.{◌≡◌, ◌<◌, ◌∙◌, ℕ, None, drop, sym, ap}
use Rattle.std.proofs.lemmas.List.{drop-drop}
use Rattle.dr_formats.specs.Hybrid.{hybrid}
use Rattle.dr_hybrid.specs.Unread.{unread_ahead}
use Rattle.dr_hybrid.specs.Reader.{ahead, bytes_left}
use Rattle.dr_hybrid.proofs.RunFacts.{on_err}
use Rattle.dr_hybrid.proofs.ReaderLemmas.{over_ahead}
use Rattle.dr_hybrid.proofs.run_reader.RunReader.go_on.Goals as goal

pub returns-in_err-unread-clause-short : goal.returns-in_err-unread-clause-short
unfolding ahead
returns-in_err-unread-clause-short c =
    on_err c.from_residual.result ((n : ℕ) → 0 < n → ahead c.args.self.now n c.args.bytes.now ≡ None) (λ n p.
    over_ahead c.args.self.now.width c.args.self.now.unread n (bytes_left c.args.self.now c.args.bytes.now) c.args.self.now.begun c.requires.over c.requires.open
    ∙ (ap (hybrid c.args.self.now.width n) (sym c.rest.ensures) ∙ c.in_err-unread.ensures.short n p))

pub returns-clause-rest : goal.returns-clause-rest
unfolding ahead
returns-clause-rest c = λ n p.
    over_ahead c.args.self.now.width c.args.self.now.unread n (bytes_left c.args.self.now c.args.bytes.now) c.args.self.now.begun c.requires.over c.requires.open
    ∙ (ap (hybrid c.args.self.now.width n) (sym c.rest.ensures)
    ∙ (c.in_ok-unread.ensures.ahead n p
    ∙ ap (unread_ahead c.in_ok-unread.unread c.args.self.now.width n) (ap (drop c.in_ok-unread.before) c.rest.ensures ∙ drop-drop c.in_ok-unread.before c.args.self.now.place c.args.bytes.now)))
