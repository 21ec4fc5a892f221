use Rattle.std.proofs.Common.{◌≡◌, ◌∙◌, sym, ap, ◌++◌, ◌<◌, ◌≤◌, [], List, get_or, length, map, arith}
use Rattle.std.proofs.lemmas.List.{drop_all, map-append}
use Rattle.dr_nested.specs.PathView.{step_view}
use Rattle.dr_nested.specs.Views.{fields_view, shape_view}
use Rattle.dr_meaning.specs.Schema.{Shape}
use Rattle.dr_nested.specs.declared.shape.Field.{Field}
use Rattle.dr_nested.specs.declared.path.Step.{Step}
use Rattle.dr_planning.specs.NamedLevels.{append_named, levels_view, fields_named, shape_named}
use Rattle.dr_planning.specs.declared.listed.Listed.{Listed}
use Rattle.dr_planning.proofs.LevelLemmas.{append_named-none, fields_more, level_more}
use Rattle.dr_nested.proofs.ViewLemmas.{view-leaf}
use Rattle.dr_planning.proofs.levels.+levels.Goals as goal

pub push_fields-fields-preserved : goal.push_fields-fields-preserved
push_fields-fields-preserved t c =
    let fs = c.args.fields.now.items in
    let k = c.fields.place in
    let f = c.field-item.result in
    let more : k < length fs = omega (arith, ap length c.deref-field-items.ensures.value) in
    let at : f ≡ get_or fs k f = c.field-item.is ∙ ap (λ (xs : List Field). get_or xs k f) c.deref-field-items.ensures.value in
    fields_more fs k f c.args.names.now (map step_view c.args.path.now) (map step_view c.in_ok-steps.steps.items) _ (levels_view c.fields.levels.items) (levels_view c.push_field.new.levels.items) more at
    (c.in_ok-name.ensures ∙ ap (λ (n : List _). c.args.names.now ++ n) c.as_str.ensures.value)
    (ap (map step_view) c.in_ok-steps.ensures ∙ map-append step_view c.args.path.now _)
    c.in_ok-push_field.ensures
    ∙ c.fields.invariant

pub push_fields-returns : goal.push_fields-returns
push_fields-returns t c =
    let fs = c.args.fields.now.items in
    let k = c.fields.place in
    let end : length fs ≤ k = omega (arith, ap length c.deref-field-items.ensures.value) in
    sym (append_named-none (levels_view c.fields.levels.items))
    ∙ ap (λ (gs : List Field). append_named (levels_view c.fields.levels.items) (fields_named (fields_view gs) k c.args.names.now (map step_view c.args.path.now))) (sym (drop_all k fs end))
    ∙ c.fields.invariant

pub push_field-returns-in_ok-push-in-Repeated : goal.push_field-returns-in_ok-push-in-Repeated
push_field-returns-in_ok-push-in-Repeated t c =
    let s = shape_view c.args.shape.now in
    level_more c.args.levels.now.items c.push.new.self.items c.args.name c.args.path c.push_shape-in-Repeated.new.levels c.args.rep s c.in-Repeated.is c.in_ok-push-in-Repeated.ensures.items
    (c.in_ok-push_shape-in-Repeated.ensures
    ∙ ap (λ (ls : List Listed). append_named (levels_view ls) (shape_named s [] (map step_view c.deref-in-Repeated.result.now))) c.new-below.ensures.items
    ∙ ap (λ (p : List Step). shape_named s [] (map step_view p)) c.deref-in-Repeated.ensures.value)

pub push_shape-returns-in-Leaf : goal.push_shape-returns-in-Leaf
push_shape-returns-in-Leaf t c = sym (ap (λ (s : Shape). append_named (levels_view c.args.levels.now.items) (shape_named s c.args.names.now (map step_view c.args.path.now))) (ap shape_view c.in-Leaf.is ∙ view-leaf _) ∙ append_named-none (levels_view c.args.levels.now.items))
