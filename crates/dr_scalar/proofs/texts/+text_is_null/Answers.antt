use Rattle.std.proofs.Common.{◌∙◌, Option, sym, ap, subst}
use Rattle.dr_meaning.specs.Record.{Value}
use Rattle.dr_plan.specs.declared.expression.TextOf.{TextOf}
use Rattle.dr_scalar.specs.Appending.{IsNullOrText}
use Rattle.dr_scalar.specs.OverSlots.{text_over}
use Rattle.dr_scalar.specs.Slots.{slot_value}
use Rattle.dr_scalar.proofs.OverLemmas.{over-join, over-text_leaf, null_or_lent, null_as_right}
use Rattle.dr_scalar.proofs.texts.+text_is_null.Goals as goal

pub returns-in-Leaf : goal.returns-in-Leaf
returns-in-Leaf t c =
    null_or_lent c.text_in.result (text_over (slot_value c.args.row.now) c.args.text.now) c.is_none.result c.is_none.ensures
    (c.text_in.ensures ∙ sym (ap (text_over (slot_value c.args.row.now)) c.in-Leaf.is ∙ over-text_leaf (slot_value c.args.row.now) c.in-Leaf.leaf))

pub returns-else-text_is_null : goal.returns-else-text_is_null
returns-else-text_is_null t c =
    let read = slot_value c.args.row.now in
    let left = subst (λ (e : TextOf). IsNullOrText (text_over read e) c.text_is_null.result) c.deref.ensures c.text_is_null.ensures in
    let right = subst (λ (e : TextOf). IsNullOrText (text_over read e) c.text_is_null-else-text_is_null.result) c.deref-else-text_is_null.ensures c.text_is_null-else-text_is_null.ensures in
    let whole = ap (text_over read) c.in-Join.is ∙ over-join read c.in-Join.left c.in-Join.right in
    subst (λ (v : Option Value). IsNullOrText v c.text_is_null-else-text_is_null.result) (sym whole)
    (null_as_right (text_over read c.in-Join.left.value) (text_over read c.in-Join.right.value) c.text_is_null-else-text_is_null.result
    (subst (IsNullOrText (text_over read c.in-Join.left.value)) c.if-text_is_null.false left) right)
