use Rattle.std.proofs.Common.{List, ℕ, take, drop, ap, ◌∙◌}
use Rattle.std.proofs.lemmas.List.{take_rest}
use Rattle.dr_gen.specs.Generator.{lines_from}
use Rattle.dr_gen.proofs.SourceLemmas.{given_piece}
use Rattle.dr_gen.proofs.source.GenSource.give.Goals as goal

pub returns-clause-bytes : goal.returns-clause-bytes
returns-clause-bytes c =
    given_piece c.args.self.now.line.items (lines_from c.args.self.now.next c.args.self.now.records) c.copy_front-count.new.room c.args.self.now.from c.copy_front-count.result
    (c.copy_front-count.ensures.bytes ∙ ap (λ (xs : List ℕ). take c.copy_front-count.result xs) (take_rest c.deref.result.now c.args.self.now.from) ∙ ap (λ (xs : List ℕ). take c.copy_front-count.result (drop c.args.self.now.from xs)) c.deref.ensures.value)
