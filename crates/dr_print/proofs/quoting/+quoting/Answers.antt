use Rattle.std.proofs.Common.{◌≡◌, ◌∙◌, sym, ap, List, arith, length, get_or}
use Rattle.std.proofs.lemmas.List.{drop_all}
use Rattle.dr_cells.specs.declared.shape.ListShape as plain
use Rattle.dr_cells.specs.Results.{ListShapes}
use Rattle.dr_cells.specs.Shapes.{lists_view}
use Rattle.dr_cells.specs.PlanShapes.{append_shapes}
use Rattle.dr_cells.proofs.ShapeLemmas.{append_shapes-none}
use Rattle.dr_print.specs.Quoted.{lists_in_quotes, quoted_lists_view, name_in_quotes}
use Rattle.dr_print.proofs.QuotedLemmas.{list_quoted}
use Rattle.dr_print.proofs.quoting.+quoting.Goals as goal

pub quote_lists-lists-preserved : goal.quote_lists-lists-preserved
quote_lists-lists-preserved t c =
    let ls = c.args.lists.now.items in
    let e : c.deref-list-items.result.now ≡ ls = c.deref-list-items.ensures.value in
    list_quoted ls c.lists.list-index c.list-item.result c.lists.quotes.items c.push.new.self.items c.in_ok-name.name c.in_ok-shape.shape
    (omega (arith, ap length e)) (c.list-item.is ∙ ap (λ (xs : List plain.ListShape). get_or xs c.lists.list-index c.list-item.result) e)
    (c.in_ok-name.ensures ∙ ap name_in_quotes c.as_str.ensures.value) c.in_ok-shape.ensures c.in_ok-push.ensures.items
    ∙ c.lists.invariant

pub quote_lists-returns : goal.quote_lists-returns
quote_lists-returns t c =
    let ls = c.args.lists.now.items in
    let done : ListShapes = quoted_lists_view c.lists.quotes.items in
    sym (append_shapes-none done)
    ∙ ap (λ (l : List plain.ListShape). append_shapes done (lists_in_quotes (lists_view l))) (sym (drop_all c.lists.list-index ls (omega (arith, ap length c.deref-list-items.ensures.value))))
    ∙ c.lists.invariant
