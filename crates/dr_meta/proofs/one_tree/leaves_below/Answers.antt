use Rattle.std.proofs.Common.{◌≡◌, ◌∷◌, ◌∙◌, [], ap, sym, arith, map, drop}
use Rattle.std.specs.Prelude.{Some}
use Rattle.std.proofs.lemmas.List.{drop_all}
use Rattle.std.proofs.lemmas.Grind.{common_steps}
use Rattle.dr_meta.specs.Views.{item_view}
use Rattle.dr_meta.specs.OneTree.{leaves_left, and_leaves, still_open}
use Rattle.dr_meta.proofs.OneTreeLemmas.{root_count, nothing_counted, open_at_end}
use Rattle.dr_meta.proofs.one_tree.leaves_below.Goals as goal

pub items-init : goal.items-init
items-init c =
    let es = map item_view c.args.rest.now in (
      omega arith,
      nothing_counted (leaves_left (still_open c.open_group.new.groups.items) es)
          ∙ (c.in_ok-open_group.ensures es
          ∙ (ap (λ kept. leaves_left (c.in-Some.fields ∷ still_open kept) es) c.new-groups.ensures.items
          ∙ sym (root_count (item_view c.args.root.now) c.in-Some.fields es (sym c.in-Some.ensures)))),
    )

pub returns : goal.returns
returns c =
    let none_left : drop c.items.item-index c.args.rest.now ≡ [] = drop_all c.items.item-index c.args.rest.now c.items-test.false in
    let still : c.items.groups.items ≡ [] → ⊥ = λ e. grind (arith, common_steps) in
    sym (ap (and_leaves (Some c.items.leaves)) (ap (λ xs. leaves_left (still_open c.items.groups.items) (map item_view xs)) none_left ∙ open_at_end c.items.groups.items still))
    ∙ c.items.invariant.1
