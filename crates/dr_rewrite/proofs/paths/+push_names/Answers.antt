use Rattle.std.proofs.Common.{◌++◌, ◌∷◌, ◌∙◌, ap, map, take, drop, length, ◌-◌, string_bytes}
use Rattle.std.proofs.lemmas.Result.{on_ok_weaker}
use Rattle.dr_nested.specs.PathView.{step_view}
use Rattle.dr_nested.specs.Views.{kind_view, shape_view}
use Rattle.dr_nested.proofs.ViewLemmas.{view-leaf, view-group}
use Rattle.dr_partials.specs.RewritingText.{path_names, name_text}
use Rattle.dr_rewrite.proofs.NameLemmas.{no_names, name_and_more, name_and_rest, below_leaf, no_name, last_name, names_behind}
use Rattle.dr_rewrite.proofs.paths.+push_names.Goals as goal

pub returns-in-None : goal.returns-in-None
returns-in-None t c =
    no_name (string_bytes c.args.out.now) c.args.before.now _ (no_names c.args.fields.now.items c.args.steps.now _ c.in-len1-up.len_at_least c.in-None.ensures)

pub returns-in-Leaf : goal.returns-in-Leaf
returns-in-Leaf t c =
    last_name (string_bytes c.args.out.now) (string_bytes c.push_str.new.self) (string_bytes c.push_name.new.out) c.args.before.now (string_bytes c.in-Some.field.now.name) _
    (name_and_more c.args.fields.now.items c.args.steps.now _ c.in-Some.field.now c.in-len1-up.len_at_least c.in-Some.ensures
    ∙ ap (λ ns. string_bytes c.in-Some.field.now.name ∷ ns) (ap (path_names (map step_view (drop 1 c.args.steps.now))) (ap shape_view c.in-Leaf.is ∙ view-leaf c.in-Leaf.field-0) ∙ below_leaf (kind_view c.in-Leaf.field-0) (map step_view (drop 1 c.args.steps.now))))
    c.in_ok-push_str-in-Some.ensures.bytes
    (c.in_ok-push_name-in-Some.ensures ∙ ap (λ n. string_bytes c.push_str.new.self ++ name_text n) c.as_str.ensures.value)

pub returns-in-Group : goal.returns-in-Group
returns-in-Group t c =
    on_ok_weaker c.push_names.result
    (names_behind (string_bytes c.args.out.now) (string_bytes c.push_str.new.self) (string_bytes c.push_name.new.out) (string_bytes c.push_names.new.out) c.args.before.now (string_bytes c.in-Some.field.now.name) _ _
    (name_and_rest c.args.fields.now.items c.args.steps.now _ c.in-Some.field.now c.in-len1-up.len_at_least c.in-Some.ensures
    ∙ ap (λ ns. string_bytes c.in-Some.field.now.name ∷ ns) (ap (path_names (map step_view (take (length c.args.steps.now - 1) (drop 1 c.args.steps.now)))) (ap shape_view c.in-Group.is ∙ view-group c.in-Group.inner)))
    c.in_ok-push_str-in-Some.ensures.bytes
    (c.in_ok-push_name-in-Some.ensures ∙ ap (λ n. string_bytes c.push_str.new.self ++ name_text n) c.as_str.ensures.value))
    c.push_names.ensures
