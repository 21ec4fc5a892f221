use Rattle.std.proofs.Common.{◌∙◌, ◌++◌, Bool, List, ap, sym, subst}
use Rattle.dr_meaning.specs.BoundExpression.{BindFault}
use Rattle.dr_meaning.specs.Query as query
use Rattle.dr_meaning.specs.Binding as binding
use Rattle.dr_resolve.specs.Faults.{earlier, first_view}
use Rattle.dr_resolve.specs.Items.{AreItems}
use Rattle.dr_resolve.proofs.FaultLemmas.{noted_behind}
use Rattle.dr_planning.proofs.rules.note_rules.Goals as goal

pub returns : goal.returns
returns c = λ fs ls b h v.
    let items = binding.passing b.items in
    let duplicates : List BindFault = binding.duplicate_faults (query.levels_of fs) b.is_record_query items in
    let before = first_view c.args.first.now in
    let after_unrelated = first_view c.note_unrelated.new.first in
    let after_items = first_view c.note_item_rules.new.first in
    let now = first_view c.note_duplicates.new.first in
    noted_behind before after_unrelated now (binding.unrelated_faults b) (binding.item_faults b ++ duplicates) (c.note_unrelated.ensures fs ls b h)
    (noted_behind after_unrelated after_items now (binding.item_faults b) duplicates (c.note_item_rules.ensures fs ls b h)
    (c.note_duplicates.ensures fs ls (query.levels_of fs) items v (subst (AreItems fs ls items) (sym c.deref.ensures.value) h.items)
    ∙ ap (λ (q : Bool). earlier after_items (binding.first_fault (binding.duplicate_faults (query.levels_of fs) q items))) h.record_query))
