use Rattle.std.proofs.Common.{◌≡◌, ◌∙◌, ℕ, List, Option, None, map, length, replicate, ap, sym, subst}
use Rattle.std.proofs.lemmas.Result.{IfOk-weaker}
use Rattle.std.proofs.lemmas.List.{length-map}
use Rattle.dr_meaning.specs.Record.{Value}
use Rattle.dr_partials.specs.Putting.{Put}
use Rattle.dr_levels.specs.Views.{triplets_view}
use Rattle.dr_beside.specs.Neighbours.{column_at}
use Rattle.dr_group.specs.Maps.{tuples_view}
use Rattle.dr_rows_beside.specs.ExprRows.{value_in}
use Rattle.dr_rows_beside.specs.RecordRows.{rows_of}
use Rattle.dr_rows_beside.specs.Rows.{Row, run, picked, source_view}
use Rattle.dr_rows_beside.specs.RowsView.{rows_view}
use Rattle.dr_columns.specs.Numbers.{row_puts, value_puts, tuples_at, HasPut}
use Rattle.dr_columns.specs.Takings.{puts_by}
use Rattle.dr_columns.proofs.NumberLemmas.{rows_put, values_put}
use Rattle.dr_columns.proofs.kept_sourcing.take_kept_one.Goals as goal

pub returns-in-Rows-clause-put : goal.returns-in-Rows-clause-put
returns-in-Rows-clause-put c =
    let C = map triplets_view c.args.columns.now in
    let rs : List Row = picked c.args.bits.now (rows_of c.args.fired.now.source.leaf c.args.fired.now.source.beside.items C) in
    let i = c.args.taking.number in
    IfOk-weaker c.take_rows.result _ _ (λ done h ks e. subst (λ (ps : List Put). HasPut c.args.groups.now ps c.take_rows.new.groups)
    (ap (row_puts i) e ∙ (rows_put ks i rs ∙ ap (puts_by ks rs i) (sym c.in-Rows.is))) h) c.take_rows.ensures.put

pub returns-in_ok-rows-in-Of-clause-put : goal.returns-in_ok-rows-in-Of-clause-put
returns-in_ok-rows-in-Of-clause-put c =
    let C = map triplets_view c.args.columns.now in
    let leaf = c.args.fired.now.source.leaf in
    let bs = c.args.fired.now.source.beside.items in
    let rs : List Row = picked c.args.bits.now (rows_of leaf bs C) in
    let i = c.args.taking.number in
    let x = c.in-Of.expression in
    let same : rows_view c.in_ok-rows-in-Of.rows ≡ rs =
    c.in_ok-rows-in-Of.ensures ∙ ap (λ (n : ℕ). picked c.args.bits.now (run leaf (map (source_view C) bs) (replicate n None) (column_at C leaf))) (sym (length-map c.args.columns.now triplets_view)) in
    IfOk-weaker c.take_values.result _ _ (λ done h ks e. subst (λ (ps : List Put). HasPut c.args.groups.now ps c.take_values.new.groups)
    (ap (λ (us : List Row). value_puts i (tuples_at (tuples_view c.args.groups.now) c.args.numbers.now) (map (value_in x) us)) same
    ∙ (ap (λ (ts : List (List (Option Value))). value_puts i ts (map (value_in x) rs)) e ∙ (values_put ks i (value_in x) rs ∙ ap (puts_by ks rs i) (sym c.in-Of.is)))) h) c.take_values.ensures.put
