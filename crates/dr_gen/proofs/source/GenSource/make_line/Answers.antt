use Rattle.std.proofs.Common.{◌≡◌, ◌++◌, List, ℕ, ap, ◌∙◌}
use Rattle.dr_gen.specs.Generator.{line_of}
use Rattle.dr_gen.proofs.SourceLemmas.{line_is_some}
use Rattle.dr_gen.proofs.source.GenSource.make_line.Goals as goal

pub returns-clause-some : goal.returns-clause-some
returns-clause-some c =
    let line : List ℕ = line_of c.args.self.now.next in
    let e : c.push_line.new.line.items ≡ line = c.push_line.ensures.bytes ∙ ap (λ (xs : List ℕ). xs ++ line) c.clear.ensures.items in
    rw e (line_is_some c.args.self.now.next)
