use Rattle.std.proofs.Common.{◌≡◌, List, [], map, subst}
use Rattle.dr_meaning.specs.BoundExpression.{unrelated, fault_at, unrelated_among}
use Rattle.dr_nested.specs.PathView.{step_view}
use Rattle.dr_paths.specs.Related.{Spans, joined_before}
use Rattle.dr_paths.specs.Views.{bound_path_view}
use Rattle.dr_paths.proofs.RelatedLemmas.{spans_none}
use Rattle.dr_paths.specs.declared.bound.BoundPath.{BoundPath}
use Rattle.dr_planning.proofs.RuleLemmas.{chain_unbound, chain_related, chain_unrelated}
use Rattle.dr_planning.proofs.rules.key_chain.Goals as goal

pub returns-then-not-parts : goal.returns-then-not-parts
returns-then-not-parts c = λ fs ls b h. chain_unbound fs ls b c.args.parts.now (cc) h

pub returns-in-Ok : goal.returns-in-Ok
returns-in-Ok c = λ fs ls b h.
    let l = c.in-Ok.longest in
    chain_related fs ls b c.args.parts.now l (cc)
    (subst (λ (ps : List BoundPath). (unrelated_among (map bound_path_view ps) ≡ []) × Spans (joined_before [] (map bound_path_view ps)) (map step_view l.now)) c.deref.ensures.value
    (c.in-Ok.ensures.related [] spans_none)) h

pub returns-in-Err : goal.returns-in-Err
returns-in-Err c = λ fs ls b h.
    chain_unrelated fs ls b c.args.parts.now c.in-Err.place (cc)
    (subst (λ (ps : List BoundPath). unrelated_among (map bound_path_view ps) ≡ fault_at c.in-Err.place unrelated) c.deref.ensures.value
    (c.in-Err.ensures.unrelated [] spans_none)) h
