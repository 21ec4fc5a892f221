use Rattle.std.proofs.Common.{◌≡◌, ◌∙◌, ℕ, List, None, map, replicate, ap, sym, subst}
use Rattle.std.proofs.lemmas.List.{length-map}
use Rattle.std.proofs.lemmas.Result.{IfOk-weaker}
use Rattle.dr_partials.specs.Putting.{Put}
use Rattle.dr_levels.specs.Views.{triplets_view}
use Rattle.dr_beside.specs.Neighbours.{column_at}
use Rattle.dr_columns.specs.Numbers.{HasPut}
use Rattle.dr_columns.specs.LeafRows.{cell_tuples}
use Rattle.dr_columns.specs.LeafRowsView.{leaf_left}
use Rattle.dr_rows_beside.specs.RecordRows.{rows_of}
use Rattle.dr_columns.specs.RowPuts.{keys_in, groups_in}
use Rattle.dr_rows_beside.specs.Rows.{Row, run, source_view}
use Rattle.dr_rows_beside.specs.RowsView.{rows_view}
use Rattle.dr_columns.specs.Takings.{fired_view, fired_rows}
use Rattle.dr_columns.proofs.LeafRowLemmas.{groups_of_rows}
use Rattle.dr_columns.proofs.numbering.number_rows.Goals as goal

pub returns-in-Some : goal.returns-in-Some
returns-in-Some c =
    let rs : List Row = fired_rows (map triplets_view c.args.columns.now) (fired_view c.args.fired.now) in
    let ks = c.args.keys.now in
    let vs = leaf_left c.in-Some.rows in
    let tuples : cell_tuples vs ≡ map (keys_in ks) rs = c.in-Some.ensures in
    record {
      put = IfOk-weaker c.put_leaf_numbers.result _ _ (λ done h. subst (λ (ps : List Put). HasPut c.args.groups.now ps c.put_leaf_numbers.new.groups) (groups_of_rows ks rs vs tuples) h) c.put_leaf_numbers.ensures.put;
      gatherings = c.put_leaf_numbers.ensures.gatherings;
      numbers = IfOk-weaker c.put_leaf_numbers.result _ _ (λ done h. h ∙ tuples) c.put_leaf_numbers.ensures.numbers;
      among = c.put_leaf_numbers.ensures.among;
    }

pub returns-clause-put : goal.returns-clause-put
returns-clause-put c =
    let C = map triplets_view c.args.columns.now in
    let leaf = c.args.fired.now.source.leaf in
    let bs = c.args.fired.now.source.beside.items in
    let rs : List Row = rows_of leaf bs C in
    let same : rows_view c.in_ok-rows.rows ≡ rs = c.in_ok-rows.ensures ∙ ap (λ (n : ℕ). run leaf (map (source_view C) bs) (replicate n None) (column_at C leaf)) (sym (length-map c.args.columns.now triplets_view)) in
    IfOk-weaker c.put_numbers.result _ _ (λ done h. subst (λ (us : List Row). HasPut c.args.groups.now (groups_in c.args.keys.now us) c.put_numbers.new.groups) same h) c.put_numbers.ensures.put

pub returns-clause-numbers : goal.returns-clause-numbers
returns-clause-numbers c =
    let C = map triplets_view c.args.columns.now in
    let leaf = c.args.fired.now.source.leaf in
    let bs = c.args.fired.now.source.beside.items in
    let rs : List Row = rows_of leaf bs C in
    let same : rows_view c.in_ok-rows.rows ≡ rs = c.in_ok-rows.ensures ∙ ap (λ (n : ℕ). run leaf (map (source_view C) bs) (replicate n None) (column_at C leaf)) (sym (length-map c.args.columns.now triplets_view)) in
    IfOk-weaker c.put_numbers.result _ _ (λ done h. h ∙ ap (map (keys_in c.args.keys.now)) same) c.put_numbers.ensures.numbers
