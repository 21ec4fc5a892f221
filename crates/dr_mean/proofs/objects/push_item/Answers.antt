use Rattle.std.proofs.Common.{◌++◌, ◌∙◌, sym, ap, map, append-nil}
use Rattle.dr_levels.proofs.TextLemmas.{all_there}
use Rattle.dr_nested.specs.PathView.{path_view}
use Rattle.dr_plan.specs.Fitting.{record_term_fits}
use Rattle.dr_plan.specs.declared.plan.RecordItem.{RecordItem as PlanItem}
use Rattle.dr_cells.specs.Views.{cells_view}
use Rattle.dr_mean.specs.Nested.{item_is_below}
use Rattle.dr_mean.specs.ObjectCells.{item_cells}
use Rattle.dr_mean.proofs.ItemLemmas.{item_there, item_past}
use Rattle.dr_mean.proofs.WithinLemmas.{on_ok_by}
use Rattle.dr_mean.proofs.objects.push_item.Goals as goal

pub returns-in-Some : goal.returns-in-Some
returns-in-Some c =
    let ls = c.args.items.leaves.now in
    let is = c.args.items.items.now in
    let x = c.in-Some.item.now in
    let l = c.in-Some.ensures.lookup in
    let e = item_there ls is c.args.place x l.3.0 l.1 in
    let fits = all_there (λ (i : PlanItem). record_term_fits (map path_view ls) i.term) is c.args.place x l.3.0 l.1 c.args.items.fit in
    on_ok_by c.push_term.result _ _ c.push_term.ensures (λ pushed. λ p whole r d b.
    pushed p whole r d fits (ap (item_is_below p) (sym e) ∙ b) ∙ ap (λ o. cells_view c.args.cells.now ++ item_cells o whole) (sym e))

pub returns-in-None : goal.returns-in-None
returns-in-None c = λ p whole r d b.
    sym (append-nil (cells_view c.args.cells.now))
    ∙ ap (λ o. cells_view c.args.cells.now ++ item_cells o whole) (sym (item_past c.args.items.leaves.now c.args.items.items.now c.args.place c.in-None.ensures.lookup.3))
