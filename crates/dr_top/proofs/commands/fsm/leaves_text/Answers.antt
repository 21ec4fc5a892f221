use Rattle.std.proofs.Common.{ap, map, sym, ◌∙◌, List, ℕ}
use Rattle.std.proofs.lemmas.Result.{IfOk-weaker}
use Rattle.dr_meaning.specs.Automaton.{automaton_text, schema_order}
use Rattle.dr_meaning.specs.Fsm.{leaves_at}
use Rattle.dr_nested.specs.Views.{fields_view}
use Rattle.dr_nested.specs.PathView.{path_view}
use Rattle.dr_top.proofs.FsmLemmas.{paths_of_leaves}
use Rattle.dr_top.proofs.commands.fsm.leaves_text.Goals as goal

pub returns : goal.returns
returns c =
    IfOk-weaker c.automaton_text.result _ _ (λ t h. h ∙ ap (λ (is : List ℕ). automaton_text (leaves_at (map path_view c.args.leaves.now) is)) (c.in_ok-automaton.ensures.order ∙ ap (schema_order (fields_view c.args.schema.now.fields.items)) (sym (paths_of_leaves c.args.leaves.now)))) c.automaton_text.ensures
