use Rattle.std.proofs.Common.{arith, ap, ◌∙◌, ◌≡◌, length, map}
use Rattle.std.proofs.lemmas.List.{length-map}
use Rattle.dr_meaning.specs.Fsm.{leaves_at}
use Rattle.dr_nested.specs.PathView.{path_view}
use Rattle.dr_fsm.specs.Automata.{leaves_of}
use Rattle.dr_print.specs.Transitions.{lent_leaf, lent_leaves}
use Rattle.dr_print.proofs.AutomatonLemmas.{automaton_of_leaves, as_many}
use Rattle.dr_print.proofs.transitions.automaton_text.Goals as goal

pub lines_of-requires-clause-next : goal.lines_of-requires-clause-next
lines_of-requires-clause-next c =
    automaton_of_leaves c.args.automaton.now c.args.fields.now (leaves_of c.args.automaton.now) (lent_leaves c.deref.result.now) c.requires.within
    (ap lent_leaves c.deref.ensures.value ∙ c.in_ok-leaves.ensures ∙ ap (leaves_at (map path_view c.args.fields.now)) c.leaves-places.ensures) c.requires.next

pub lines_of-requires-clause-few : goal.lines_of-requires-clause-few
lines_of-requires-clause-few c =
    let same : lent_leaves c.deref.result.now ≡ leaves_at (map path_view c.args.fields.now) (leaves_of c.args.automaton.now) =
    ap lent_leaves c.deref.ensures.value ∙ c.in_ok-leaves.ensures ∙ ap (leaves_at (map path_view c.args.fields.now)) c.leaves-places.ensures in
    let count : length c.leaves-places.result.now ≡ length (leaves_of c.args.automaton.now) = ap length c.leaves-places.ensures in
    omega (arith, c.if-places.false, count, length-map c.deref.result.now lent_leaf, as_many c.args.fields.now (leaves_of c.args.automaton.now) (lent_leaves c.deref.result.now) c.requires.within same)
