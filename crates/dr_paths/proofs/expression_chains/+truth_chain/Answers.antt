use Rattle.std.proofs.Common.{◌∙◌, ap, map}
use Rattle.dr_meaning.specs.Expression.{expression_chain}
use Rattle.dr_plan.specs.declared.expression.Truth as truths
use Rattle.dr_nested.specs.PathView.{path_view}
use Rattle.dr_plan.specs.Views.{number_view, text_view, truth_view}
use Rattle.dr_paths.proofs.OperandLemmas.{of_operands, level-and, level-or, level-truths, level-numbers, level-texts}
use Rattle.dr_paths.proofs.expression_chains.+truth_chain.Goals as goal

pub returns-in-And : goal.returns-in-And
returns-in-And t c =
    let ls = map path_view c.args.leaves.now in
    let a = c.in-And.left.value in
    let b = c.in-And.right.value in
    of_operands (truth_view ls c.args.truth.now) (truth_view ls a) (truth_view ls b) _ _ _ (level-and ls c.args.truth.now c.in-And.left c.in-And.right c.in-And.is)
    (c.truth_chain.ensures ∙ ap (λ (x : truths.Truth). expression_chain (truth_view ls x)) c.deref.ensures) (c.truth_chain-in-And.ensures ∙ ap (λ (x : truths.Truth). expression_chain (truth_view ls x)) c.deref-in-And.ensures) c.longer.ensures

pub returns-in-Or : goal.returns-in-Or
returns-in-Or t c =
    let ls = map path_view c.args.leaves.now in
    let a = c.in-Or.left.value in
    let b = c.in-Or.right.value in
    of_operands (truth_view ls c.args.truth.now) (truth_view ls a) (truth_view ls b) _ _ _ (level-or ls c.args.truth.now c.in-Or.left c.in-Or.right c.in-Or.is)
    (c.truth_chain-in-Or.ensures ∙ ap (λ (x : truths.Truth). expression_chain (truth_view ls x)) c.deref-in-Or.ensures) (c.truth_chain-in-Or-2.ensures ∙ ap (λ (x : truths.Truth). expression_chain (truth_view ls x)) c.deref-in-Or-2.ensures) c.longer-in-Or.ensures

pub returns-in-Truths : goal.returns-in-Truths
returns-in-Truths t c =
    let ls = map path_view c.args.leaves.now in
    let a = c.in-Truths.left.value in
    let b = c.in-Truths.right.value in
    of_operands (truth_view ls c.args.truth.now) (truth_view ls a) (truth_view ls b) _ _ _ (level-truths ls c.args.truth.now c.in-Truths.field-0 c.in-Truths.left c.in-Truths.right c.in-Truths.is)
    (c.truth_chain-in-Truths.ensures ∙ ap (λ (x : truths.Truth). expression_chain (truth_view ls x)) c.deref-in-Truths.ensures) (c.truth_chain-in-Truths-2.ensures ∙ ap (λ (x : truths.Truth). expression_chain (truth_view ls x)) c.deref-in-Truths-2.ensures) c.longer-in-Truths.ensures

pub returns-in-Numbers : goal.returns-in-Numbers
returns-in-Numbers t c =
    let ls = map path_view c.args.leaves.now in
    let a = c.in-Numbers.left in
    let b = c.in-Numbers.right in
    of_operands (truth_view ls c.args.truth.now) (number_view ls a) (number_view ls b) _ _ _ (level-numbers ls c.args.truth.now c.in-Numbers.field-0 c.in-Numbers.left c.in-Numbers.right c.in-Numbers.is) c.number_chain.ensures c.number_chain-in-Numbers.ensures c.longer-in-Numbers.ensures

pub returns-in-Texts : goal.returns-in-Texts
returns-in-Texts t c =
    let ls = map path_view c.args.leaves.now in
    let a = c.in-Texts.left in
    let b = c.in-Texts.right in
    of_operands (truth_view ls c.args.truth.now) (text_view ls a) (text_view ls b) _ _ _ (level-texts ls c.args.truth.now c.in-Texts.field-0 c.in-Texts.left c.in-Texts.right c.in-Texts.is) c.text_chain.ensures c.text_chain-in-Texts.ensures c.longer-in-Texts.ensures
