use Rattle.std.proofs.Common.{◌++◌, ◌∷◌, [], ◌∙◌, sym, ap, map}
use Rattle.dr_meaning.specs.Query.{term_value}
use Rattle.dr_nested.specs.PathView.{path_view}
use Rattle.dr_plan.specs.Fitting.{record_term_fits}
use Rattle.dr_plan.specs.Views.{record_term_view}
use Rattle.dr_plan.specs.declared.plan.RecordTerm.{RecordTerm}
use Rattle.dr_cells.specs.Results.{value_cell}
use Rattle.dr_cells.specs.Views.{cells_view}
use Rattle.dr_mean.proofs.RowIsLemmas.{row_values}
use Rattle.dr_mean.proofs.WithinLemmas.{on_ok_by}
use Rattle.dr_mean.proofs.objects.push_term.Goals as goal

pub returns-in-Value : goal.returns-in-Value
returns-in-Value c =
    let ls = c.args.leaves.now in
    on_ok_by c.push_value.result _ _ c.push_value.ensures (λ pushed. λ p whole r d f b.
    pushed (map path_view ls) whole (row_values ls p whole c.args.row r) (ap (record_term_fits (map path_view ls)) (sym c.in-Value.is) ∙ f)
    ∙ ap (λ (t : RecordTerm). cells_view c.args.cells.now ++ value_cell (term_value (record_term_view (map path_view ls) t) whole) ∷ []) (sym c.in-Value.is))
