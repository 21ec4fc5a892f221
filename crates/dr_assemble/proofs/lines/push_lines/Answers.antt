use Rattle.std.proofs.Common.{◌≡◌, ℕ, List, length, sym, ap, ◌∙◌, subst, string_bytes}
use Rattle.std.proofs.lemmas.List.{length-map}
use Rattle.std.specs.List.{list_all}
use Rattle.dr_meaning.specs.Schema.{group}
use Rattle.dr_meaning.specs.Path.{is_leaf_path}
use Rattle.dr_meaning.specs.Automaton.{schema_order}
use Rattle.dr_nested.specs.Views.{fields_view}
use Rattle.dr_nested.specs.PathView.{path_view, paths_view}
use Rattle.dr_nested.specs.declared.path.Path.{Path}
use Rattle.dr_levels.specs.Views.{column_view, columns_view}
use Rattle.dr_assemble.specs.Restoring.{Strip, strips_at, rests}
use Rattle.dr_assemble.specs.Ordered.{OrderedIn}
use Rattle.dr_assemble.specs.Views.{strips_view}
use Rattle.dr_assemble.proofs.OrderedAssembly.{strips_are_leaves, strips_are_ordered}
use Rattle.dr_assemble.proofs.AnswerLemmas.{judged, not_judged, fault_kept, printed_of}
use Rattle.dr_assemble.proofs.lines.push_lines.Goals as goal

pub judge-requires-clause-leaves : goal.judge-requires-clause-leaves
judge-requires-clause-leaves c =
    let fs = fields_view c.args.schema.now.fields.items in
    let F = paths_view c.args.fields.now in
    let C = columns_view c.args.columns.now in
    let joined : strips_view c.deref-2.result.now ≡ strips_at (schema_order fs F) F C = ap strips_view c.deref-2.ensures.value ∙ c.in_ok-strips.ensures ∙ ap (λ (is : List ℕ). strips_at is F C) (c.deref.ensures.value ∙ c.in_ok-order.ensures.order) in
    ap (λ (S : List Strip). list_all (is_leaf_path fs) (rests S)) joined ∙ strips_are_leaves fs F C c.args.rows c.requires

pub judge-requires-clause-order : goal.judge-requires-clause-order
judge-requires-clause-order c =
    let fs = fields_view c.args.schema.now.fields.items in
    let F = paths_view c.args.fields.now in
    let C = columns_view c.args.columns.now in
    let joined : strips_view c.deref-2.result.now ≡ strips_at (schema_order fs F) F C = ap strips_view c.deref-2.ensures.value ∙ c.in_ok-strips.ensures ∙ ap (λ (is : List ℕ). strips_at is F C) (c.deref.ensures.value ∙ c.in_ok-order.ensures.order) in
    subst (λ (S : List Strip). OrderedIn (group fs) (rests S)) (sym joined) (strips_are_ordered fs F C c.args.rows c.requires)

pub returns-in_err-judge-clause-refused : goal.returns-in_err-judge-clause-refused
returns-in_err-judge-clause-refused c = λ e.
    let fs = fields_view c.args.schema.now.fields.items in
    let F = paths_view c.args.fields.now in
    let C = columns_view c.args.columns.now in
    let joined : strips_view c.deref-2.result.now ≡ strips_at (schema_order fs F) F C = ap strips_view c.deref-2.ensures.value ∙ c.in_ok-strips.ensures ∙ ap (λ (is : List ℕ). strips_at is F C) (c.deref.ensures.value ∙ c.in_ok-order.ensures.order) in
    not_judged fs F C c.args.rows c.requires (strips_view c.deref-2.result.now) joined (c.judge.ensures.none (fault_kept _ _ c.in_err-judge.field-0.0 c.in_err-judge.was c.from_residual-in_err-judge.ensures.1 e))

pub returns-clause-lines : goal.returns-clause-lines
returns-clause-lines c =
    let fs = fields_view c.args.schema.now.fields.items in
    let F = paths_view c.args.fields.now in
    let C = columns_view c.args.columns.now in
    let order : List ℕ = schema_order fs F in
    let joined : strips_view c.deref-2.result.now ≡ strips_at order F C = ap strips_view c.deref-2.ensures.value ∙ c.in_ok-strips.ensures ∙ ap (λ (is : List ℕ). strips_at is F C) (c.deref.ensures.value ∙ c.in_ok-order.ensures.order) in
    let again : strips_view c.deref-3.result.now ≡ strips_at order F C = ap strips_view c.deref-3.ensures.value ∙ c.in_ok-strips.ensures ∙ ap (λ (is : List ℕ). strips_at is F C) (c.deref.ensures.value ∙ c.in_ok-order.ensures.order) in
    let lengths : length C ≡ length F = length-map c.args.columns.now column_view ∙ (sym c.if-fields-columns.false ∙ sym (length-map c.args.fields.now (λ (p : Path). (path_view p).path))) in
    printed_of fs F C c.args.rows c.requires (strips_view c.deref-3.result.now) again (string_bytes c.args.text.now) (string_bytes c.push_rows.new.text) c.in_ok-push_rows.ensures
    (judged fs F C c.args.rows c.requires lengths (strips_view c.deref-2.result.now) joined c.in_ok-judge.ensures.have)
