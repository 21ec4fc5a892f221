use Rattle.std.proofs.Common.{◌≡◌, ◌∙◌, List, [], ap, map, sym, subst, false}
use Rattle.std.specs.Prelude.{if◌then◌else◌}
use Rattle.std.specs.List.{flat_map}
use Rattle.dr_meaning.specs.BoundExpression.{BindFault}
use Rattle.dr_meaning.specs.Binding as binding
use Rattle.dr_paths.specs.Views.{bound_path_view}
use Rattle.dr_resolve.specs.Faults.{first_view}
use Rattle.dr_resolve.specs.Items.{AreItems}
use Rattle.dr_resolve.proofs.FaultLemmas.{noted_behind}
use Rattle.dr_planning.proofs.RuleLemmas.{unless_told}
use Rattle.dr_planning.proofs.rules.note_item_rules.Goals as goal

pub returns-then-not-parts : goal.returns-then-not-parts
returns-then-not-parts c = λ fs ls b h.
    let items = binding.passing b.items in
    let whole : List BindFault = flat_map (λ (i : binding.BoundItem). binding.within_faults i.term) items in
    let grouping : List BindFault = flat_map (binding.grouping_faults (binding.passing b.keys)) items in
    let before = first_view c.args.first.now in
    let between = first_view c.note_within.new.first in
    let now = first_view c.note_grouping.new.first in
    let q : b.is_record_query ≡ false = sym h.record_query ∙ (cc) in
    noted_behind before between now whole (if b.is_record_query then [] else grouping)
    (c.note_within.ensures fs ls items (subst (AreItems fs ls items) (sym c.deref.ensures.value) h.items))
    (unless_told b.is_record_query grouping between now q
    (c.note_grouping.ensures fs ls (binding.passing b.keys) items (subst (AreItems fs ls items) (sym c.deref-then-not-parts-2.ensures.value) h.items) (ap (map bound_path_view) c.deref-then-not-parts.ensures.value ∙ h.keys)))
