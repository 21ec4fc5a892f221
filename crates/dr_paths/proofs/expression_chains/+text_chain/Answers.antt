use Rattle.std.proofs.Common.{◌∙◌, ap, map}
use Rattle.dr_meaning.specs.Expression.{expression_chain}
use Rattle.dr_plan.specs.declared.expression.TextOf as texts
use Rattle.dr_nested.specs.PathView.{path_view}
use Rattle.dr_plan.specs.Views.{text_view}
use Rattle.dr_paths.proofs.OperandLemmas.{of_operands, level-join}
use Rattle.dr_paths.proofs.expression_chains.+text_chain.Goals as goal

pub returns-in-Join : goal.returns-in-Join
returns-in-Join t c =
    let ls = map path_view c.args.leaves.now in
    let a = c.in-Join.left.value in
    let b = c.in-Join.right.value in
    of_operands (text_view ls c.args.text.now) (text_view ls a) (text_view ls b) _ _ _ (level-join ls c.args.text.now c.in-Join.left c.in-Join.right c.in-Join.is)
    (c.text_chain.ensures ∙ ap (λ (x : texts.TextOf). expression_chain (text_view ls x)) c.deref.ensures) (c.text_chain-in-Join.ensures ∙ ap (λ (x : texts.TextOf). expression_chain (text_view ls x)) c.deref-in-Join.ensures) c.longer.ensures
