use Rattle.std.proofs.Common.{List, Option, ◌++◌, sym, subst}
use Rattle.std.specs.List.{flat_map}
use Rattle.dr_meaning.specs.BoundExpression as meant
use Rattle.dr_meaning.specs.BoundExpression.{BindFault}
use Rattle.dr_meaning.specs.Binding as binding
use Rattle.dr_resolve.specs.Faults.{first_view}
use Rattle.dr_resolve.specs.Items.{AreExpressions, AreItems}
use Rattle.dr_resolve.proofs.FaultLemmas.{noted_behind}
use Rattle.dr_planning.proofs.rules.note_unrelated.Goals as goal

pub returns : goal.returns
returns c = λ fs ls b h.
    let chain = c.key_chain-chain.ensures fs ls b h in
    let ks = binding.all_passed b.keys in
    let conditions : List BindFault = binding.where_passed (λ (o : Option meant.BoundExpression). meant.unrelated_among (binding.paths_of_condition o)) b.condition in
    let items : List BindFault = flat_map (λ (i : binding.BoundItem). binding.unrelated_in_term ks i.term) (binding.passing b.items) in
    let arguments : List BindFault = flat_map (binding.unrelated_behind ks) b.arguments in
    let keys : List BindFault = binding.where_passed meant.unrelated_among ks in
    let before = first_view c.args.first.now in
    let after_condition = first_view c.note_condition.new.first in
    let after_items = first_view c.note_unrelated_items.new.first in
    let after_arguments = first_view c.note_unrelated_arguments.new.first in
    let now = first_view c.note_keys.new.first in
    noted_behind before after_arguments now ((conditions ++ items) ++ arguments) keys
    (noted_behind before after_items after_arguments (conditions ++ items) arguments
    (noted_behind before after_condition after_items conditions items (c.note_condition.ensures fs ls b.condition h.condition)
    (c.note_unrelated_items.ensures fs ls ks (binding.passing b.items) chain (subst (AreItems fs ls (binding.passing b.items)) (sym c.deref.ensures.value) h.items)))
    (c.note_unrelated_arguments.ensures fs ls ks b.arguments chain (subst (AreExpressions fs ls b.arguments) (sym c.deref-2.ensures.value) h.arguments)))
    (c.note_keys.ensures ks chain)
