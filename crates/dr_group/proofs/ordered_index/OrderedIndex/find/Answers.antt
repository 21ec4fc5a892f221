use Rattle.std.proofs.Common.{sym, List, Option, Some, None, subst}
use Rattle.dr_meaning.specs.Record.{Value}
use Rattle.dr_group.specs.Distinct.{IsFound}
use Rattle.dr_group.proofs.OrderedLemmas.{numbered_is, numbered_none}
use Rattle.dr_group.proofs.ordered_index.OrderedIndex.find.Goals as goal

pub returns-in-Some : goal.returns-in-Some
returns-in-Some c = λ groups a.
    let k = c.in_ok-wanted.wanted in
    subst (λ (t : List (Option Value)). IsFound t groups (Some c.in-Some.number.now)) c.in_ok-wanted.ensures
    (numbered_is c.args.self.now.numbers groups k c.in-Some.number.now a (sym c.in-Some.ensures.value))

pub returns : goal.returns
returns c = λ groups a.
    let k = c.in_ok-wanted.wanted in
    subst (λ (t : List (Option Value)). IsFound t groups None) c.in_ok-wanted.ensures
    (numbered_none c.args.self.now.numbers groups k a (sym c.in-None.ensures.value))
