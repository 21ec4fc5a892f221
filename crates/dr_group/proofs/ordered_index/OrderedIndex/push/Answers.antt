use Rattle.std.proofs.Common.{rules, ◌≡◌, ◌∙◌, ◌++◌, ◌∷◌, [], sym, subst, List, Option, Some, ℕ}
use Rattle.std.specs.BTreeMap.{Updates}
use Rattle.dr_meaning.specs.Record.{Value}
use Rattle.dr_group.specs.Keys.{AreNumbered, key_order}
use Rattle.dr_group.proofs.OrderedLemmas.{numbered_more}
use Rattle.dr_group.proofs.ordered_index.OrderedIndex.push.Goals as goal

pub returns-clause-pushed : goal.returns-clause-pushed
returns-clause-pushed c = λ tuples e a.
    let m = c.args.self.now.numbers in
    let n = c.insert.new.self in
    let number : c.in-Ok.number ≡ c.args.number = search rules in
    subst (λ (t : List (Option Value)). AreNumbered n (tuples ++ t ∷ [])) c.in_ok-wanted.ensures
    (numbered_more m n tuples c.in_ok-wanted.wanted a (subst (λ (i : ℕ). Updates key_order m n c.in_ok-wanted.wanted (Some i)) (number ∙ sym e) c.in_ok-insert.ensures.updates))
