use Rattle.std.proofs.Common.{◌++◌, ◌∷◌, [], List, ap, ◌∙◌}
use Rattle.dr_walk.specs.Views.{items_view}
use Rattle.dr_walk.specs.declared.items.Item.{Item}
use Rattle.dr_walk.proofs.LayingLemmas.{closed_items}
use Rattle.dr_walk.proofs.laying.close.Goals as goal

pub returns : goal.returns
returns c =
    ap items_view (c.in_ok-push-2.ensures.items ∙ ap (λ (xs : List Item). xs ++ Item.End c.args.end ∷ []) (c.in_ok-append.ensures.items ∙ ap (λ (xs : List Item). xs ++ c.args.level.items.items) c.in_ok-push.ensures.items))
    ∙ closed_items c.args.code.now.items c.args.level.items.items c.args.level.gates.items c.reverse.new.self c.args.end c.reverse.ensures.items
