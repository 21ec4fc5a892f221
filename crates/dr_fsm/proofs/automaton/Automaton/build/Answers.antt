use Rattle.std.proofs.Common.{◌↔◌, suc, Option, None, ◌∙◌, ◌≡◌, ◌<◌, sym, subst, ℕ, List, length, map, get_or, []}
use Rattle.std.proofs.lemmas.List.{length-map}
use Rattle.dr_meaning.specs.Path.{Step}
use Rattle.dr_nested.specs.PathView.{path_view}
use Rattle.dr_nested.specs.declared.path.Path.{Path}
use Rattle.dr_fsm.specs.Tables.{paths_at}
use Rattle.dr_fsm.specs.Automata.{follow}
use Rattle.dr_fsm.proofs.TransitionLemmas.{transition_within, ends_behind_last}
use Rattle.dr_fsm.proofs.BuildLemmas.{transitions}
use Rattle.dr_fsm.proofs.automaton.Automaton.build.Goals as goal

pub invariant_of-result : goal.invariant_of-result
invariant_of-result c =
    let F : List (List Step) = map (λ (p : Path). (path_view p).path) c.args.fields.now in
    let is = c.in_ok-order.order.items in
    let count : length (paths_at F is) ≡ length is = length-map is (λ (i : ℕ). get_or F i []) in
    record { within = λ (i l j : ℕ) e. subst (λ (n : ℕ). j < n) count (transition_within (paths_at F is) i l j (sym (transitions F c.deref.result.now is c.in-Ok.rows.items c.deref.ensures.value c.in-Ok.ensures i l) ∙ e)) }

pub returns-in-Ok-clause-next : goal.returns-in-Ok-clause-next
unfolding follow
returns-in-Ok-clause-next c =
    let F : List (List Step) = map (λ (p : Path). (path_view p).path) c.args.fields.now in
    let is = c.in_ok-order.order.items in
    transitions F c.deref.result.now is c.in-Ok.rows.items c.deref.ensures.value c.in-Ok.ensures

pub returns-in-Ok-clause-ends : goal.returns-in-Ok-clause-ends
unfolding follow
returns-in-Ok-clause-ends c =
    let F : List (List Step) = map (λ (p : Path). (path_view p).path) c.args.fields.now in
    let is = c.in_ok-order.order.items in
    λ (i l : ℕ) h m. subst (λ (t : Option ℕ). (t ≡ None) ↔ ((suc i ≡ length (paths_at F is)) × (l ≡ 0))) (sym (transitions F c.deref.result.now is c.in-Ok.rows.items c.deref.ensures.value c.in-Ok.ensures i l)) (ends_behind_last (paths_at F is) i l h m)
