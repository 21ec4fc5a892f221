use Rattle.std.proofs.Common.{◌∙◌, ap, map}
use Rattle.dr_meaning.specs.Expression.{expression_chain}
use Rattle.dr_plan.specs.declared.expression.Number as numbers
use Rattle.dr_nested.specs.PathView.{path_view}
use Rattle.dr_plan.specs.Views.{number_view}
use Rattle.dr_paths.proofs.OperandLemmas.{of_operands, level-add, level-subtract, level-multiply}
use Rattle.dr_paths.proofs.expression_chains.+number_chain.Goals as goal

pub returns-in-Add : goal.returns-in-Add
returns-in-Add t c =
    let ls = map path_view c.args.leaves.now in
    let a = c.in-Add.left.value in
    let b = c.in-Add.right.value in
    of_operands (number_view ls c.args.number.now) (number_view ls a) (number_view ls b) _ _ _ (level-add ls c.args.number.now c.in-Add.left c.in-Add.right c.in-Add.is)
    (c.number_chain-in-Add.ensures ∙ ap (λ (x : numbers.Number). expression_chain (number_view ls x)) c.deref-in-Add.ensures) (c.number_chain-in-Add-2.ensures ∙ ap (λ (x : numbers.Number). expression_chain (number_view ls x)) c.deref-in-Add-2.ensures) c.longer.ensures

pub returns-in-Subtract : goal.returns-in-Subtract
returns-in-Subtract t c =
    let ls = map path_view c.args.leaves.now in
    let a = c.in-Subtract.left.value in
    let b = c.in-Subtract.right.value in
    of_operands (number_view ls c.args.number.now) (number_view ls a) (number_view ls b) _ _ _ (level-subtract ls c.args.number.now c.in-Subtract.left c.in-Subtract.right c.in-Subtract.is)
    (c.number_chain-in-Subtract.ensures ∙ ap (λ (x : numbers.Number). expression_chain (number_view ls x)) c.deref-in-Subtract.ensures) (c.number_chain-in-Subtract-2.ensures ∙ ap (λ (x : numbers.Number). expression_chain (number_view ls x)) c.deref-in-Subtract-2.ensures) c.longer-in-Subtract.ensures

pub returns-in-Multiply : goal.returns-in-Multiply
returns-in-Multiply t c =
    let ls = map path_view c.args.leaves.now in
    let a = c.in-Multiply.left.value in
    let b = c.in-Multiply.right.value in
    of_operands (number_view ls c.args.number.now) (number_view ls a) (number_view ls b) _ _ _ (level-multiply ls c.args.number.now c.in-Multiply.left c.in-Multiply.right c.in-Multiply.is)
    (c.number_chain-in-Multiply.ensures ∙ ap (λ (x : numbers.Number). expression_chain (number_view ls x)) c.deref-in-Multiply.ensures) (c.number_chain-in-Multiply-2.ensures ∙ ap (λ (x : numbers.Number). expression_chain (number_view ls x)) c.deref-in-Multiply-2.ensures) c.longer-in-Multiply.ensures
