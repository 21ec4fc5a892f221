use Rattle.std.proofs.Common.{◌≡◌, ◌∙◌, sym, ap, ap₂, List, map, arith}
use Rattle.std.proofs.lemmas.List.{drop_all}
use Rattle.dr_nested.specs.PathView.{lent_path, step_view}
use Rattle.dr_meaning.specs.Path.{Step as MeantStep}
use Rattle.dr_planning.specs.NamedLevels.{NamedLevels, level_view, levels_view}
use Rattle.dr_planning.specs.Trees.{leads_to, append_lists, lists_view, named_trees, numbers_at}
use Rattle.dr_plan.specs.Objects.{object_tree, object_view, ListTrees}
use Rattle.dr_planning.specs.declared.listed.Listed.{Listed}
use Rattle.dr_planning.proofs.LevelLemmas.{path-level, below-level}
use Rattle.dr_planning.proofs.ObjectLemmas.{view-object, append_lists-none, leads_to-lent, no_list_more, list_more, trees_more}
use Rattle.dr_planning.proofs.objects.+objects.Goals as goal

pub object_at-levels-preserved : goal.object_at-levels-preserved
object_at-levels-preserved t c =
    trees_more (map lent_path c.args.items.now) c.args.below.now c.levels.next-index c.next-item.result (lists_view c.levels.lists.items) (lists_view c.push_list.new.lists.items)
    (omega arith) c.next-item.is c.in_ok-push_list.ensures
    ∙ c.levels.invariant

pub object_at-returns : goal.object_at-returns
object_at-returns t c =
    let qs = map lent_path c.args.items.now in
    let ls = c.args.below.now in
    let done : ListTrees = lists_view c.levels.lists.items in
    view-object c.in_ok-own.own c.levels.lists
    ∙ ap₂ object_tree c.in_ok-own.ensures (sym (append_lists-none done)
    ∙ ap (λ (l : List Listed). append_lists done (named_trees qs (levels_view l))) (sym (drop_all c.levels.next-index ls (omega arith)))
    ∙ c.levels.invariant)

pub push_list-returns-then-not-leads_to : goal.push_list-returns-then-not-leads_to
push_list-returns-then-not-leads_to t c =
    let p : map step_view c.deref.result.now ≡ (level_view c.args.level.now).path = ap (map step_view) c.deref.ensures.value ∙ path-level c.args.level.now in
    no_list_more (map lent_path c.args.items.now) c.args.level.now (lists_view c.args.lists.now.items)
    (sym (c.if-not-leads_to.ensures ∙ leads_to-lent c.args.items.now _ ∙ ap (leads_to (map lent_path c.args.items.now)) p))

pub push_list-returns : goal.push_list-returns
push_list-returns t c =
    let qs = map lent_path c.args.items.now in
    let l = c.args.level.now in
    let p : map step_view c.deref.result.now ≡ (level_view l).path = ap (map step_view) c.deref.ensures.value ∙ path-level l in
    let q : map step_view c.deref-3.result.now ≡ (level_view l).path = ap (map step_view) c.deref-3.ensures.value ∙ path-level l in
    let b : levels_view c.deref-2.result.now ≡ (level_view l).below = ap levels_view c.deref-2.ensures.value ∙ below-level l in
    list_more qs l c.args.lists.now.items c.push.new.self.items c.in_ok-list_of.field-0 (object_view c.in_ok-object.object) c.in_ok-push.ensures.items
    (sym (c.if-not-leads_to.ensures ∙ leads_to-lent c.args.items.now _ ∙ ap (leads_to qs) p))
    c.in_ok-list_of.ensures
    (c.in_ok-object.ensures ∙ ap₂ (λ (r : List MeantStep) (ls : NamedLevels). object_tree (numbers_at 0 qs r) (named_trees qs ls)) q b)
