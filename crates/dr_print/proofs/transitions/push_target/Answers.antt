use Rattle.std.proofs.Common.{ap, sym, ◌∙◌, ◌++◌, string_bytes, append-nil}
use Rattle.std.proofs.lemmas.Result.{on_ok_weaker}
use Rattle.dr_meaning.specs.Automaton.{target_name}
use Rattle.dr_fsm.specs.Tables.{state_view}
use Rattle.dr_fsm.specs.declared.state.State.{State}
use Rattle.dr_print.specs.Transitions.{lent_leaves}
use Rattle.dr_print.proofs.AutomatonLemmas.{target_at, target_past}
use Rattle.dr_print.proofs.transitions.push_target.Goals as goal

pub returns-in-Some : goal.returns-in-Some
returns-in-Some c =
    let ps = c.args.leaves.now in
    let found = c.in-Some.ensures.lookup in
    on_ok_weaker c.push_leaf_name.result
    (λ e. e ∙ ap (λ x. string_bytes c.args.text.now ++ x)
    (sym (target_at ps c.in-Leaf.place c.in-Some.leaf.now found.3.0 found.1) ∙ ap (λ (s : State). target_name (lent_leaves ps) (state_view s)) (sym c.in-Leaf.is)))
    c.push_leaf_name.ensures

pub returns-in-None : goal.returns-in-None
returns-in-None c =
    let ps = c.args.leaves.now in
    let text = string_bytes c.args.text.now in
    sym (append-nil text)
    ∙ ap (λ x. text ++ x) (sym (target_past ps c.in-Leaf.place c.in-None.ensures.lookup.3) ∙ ap (λ (s : State). target_name (lent_leaves ps) (state_view s)) (sym c.in-Leaf.is))
