use Rattle.std.proofs.Common.{◌≡◌, ◌∙◌, ◌+◌, List, ◌∷◌, drop, Err, map, sym, ap, subst, arith}
use Rattle.std.proofs.lemmas.List.{drop_all}
use Rattle.dr_meaning.specs.Path.{Step, chain_end, begins_with}
use Rattle.dr_meaning.specs.BoundExpression as meant
use Rattle.dr_nested.specs.PathView.{step_view}
use Rattle.dr_paths.specs.Related.{joined_before}
use Rattle.dr_paths.specs.Views.{bound_path_view}
use Rattle.dr_paths.proofs.RelatedLemmas.{judged, judged_meant, judged_refused, paths_cut, Meets}
use Rattle.dr_paths.proofs.related.first_unrelated.Goals as goal

pub returns-then-not-begins_with-clause-unrelated : goal.returns-then-not-begins_with-clause-unrelated
returns-then-not-begins_with-clause-unrelated c = λ earlier s.
    let all = c.args.paths.now in
    let ps = map bound_path_view all in
    let p = c.path-item.result in
    let known = map step_view c.paths.known.now in
    let own : map step_view c.chain_end-own.result.now ≡ chain_end (map step_view p.leaf.steps.items) = c.chain_end-own.ensures ∙ ap (λ (steps : List _). chain_end (map step_view steps)) c.deref.ensures.value in
    let refused : judged known (bound_path_view p ∷ map bound_path_view (drop (c.paths.path-index + 1) all)) ≡ Err p.place =
    judged_refused known (bound_path_view p) _ (sym (c.if-begins_with.ensures ∙ ap (begins_with known) own))
    (sym (c.if-not-begins_with.ensures ∙ ap (λ (q : List Step). begins_with q known) own)) in
    subst (Meets (meant.unrelated_after earlier ps) (joined_before earlier ps))
    (c.paths.invariant ∙ ap (judged known) (paths_cut all c.paths.path-index p (omega arith) c.path-item.is) ∙ refused)
    (judged_meant (map step_view c.args.longest.now) ps earlier s)

pub returns-clause-related : goal.returns-clause-related
returns-clause-related c = λ earlier s.
    let ps = map bound_path_view c.args.paths.now in
    let l = map step_view c.args.longest.now in
    subst (Meets (meant.unrelated_after earlier ps) (joined_before earlier ps))
    (c.paths.invariant ∙ ap (λ (qs : List _). judged (map step_view c.paths.known.now) (map bound_path_view qs)) (drop_all c.paths.path-index c.args.paths.now (omega arith)))
    (judged_meant l ps earlier s)
