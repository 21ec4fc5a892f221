use Rattle.std.proofs.Common.{ap, ◌∙◌, List, Vec}
use Rattle.std.specs.declared.alloc.Global.{Global}
use Rattle.dr_fsm.specs.declared.state.State.{State}
use Rattle.dr_fsm.specs.Tables.{table_at}
use Rattle.dr_fsm.specs.Automata.{follow}
use Rattle.dr_fsm.proofs.automaton.Automaton.next.Goals as goal

pub returns-clause-state : goal.returns-clause-state
unfolding follow
returns-clause-state c = c.look_up.ensures ∙ ap (λ (rows : List (Vec State Global)). table_at rows c.args.leaf c.args.level) c.deref.ensures.value
