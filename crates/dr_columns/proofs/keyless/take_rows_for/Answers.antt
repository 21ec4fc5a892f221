use Rattle.std.proofs.Common.{◌≡◌, ◌<◌, ◌∙◌, [], ℕ, List, None, length, map, replicate, ap, sym, subst, arith}
use Rattle.std.proofs.lemmas.Result.{IfOk-weaker}
use Rattle.std.proofs.lemmas.List.{length-map}
use Rattle.dr_meaning.specs.Column.{Triplet}
use Rattle.dr_partials.specs.Putting.{Put}
use Rattle.dr_levels.specs.Views.{triplets_view}
use Rattle.dr_agreement.proofs.OutlinedLemmas.{column_of}
use Rattle.dr_beside.specs.Neighbours.{column_at}
use Rattle.dr_group.specs.ManyTaken.{many_puts}
use Rattle.dr_rows_beside.specs.ExprRows.{value_in}
use Rattle.dr_columns.specs.Numbers.{HasPut}
use Rattle.dr_rows_beside.specs.RecordRows.{rows_of}
use Rattle.dr_columns.specs.RowPuts.{puts_in}
use Rattle.dr_rows_beside.specs.Rows.{Row, run, source_view}
use Rattle.dr_rows_beside.specs.RowsView.{rows_view}
use Rattle.dr_columns.specs.Takings.{puts_by, takings_view}
use Rattle.dr_columns.proofs.KeylessLemmas.{rows_at_once, own_at_once}
use Rattle.dr_columns.proofs.keyless.take_rows_for.Goals as goal

pub returns-in-Rows-clause-put : goal.returns-in-Rows-clause-put
returns-in-Rows-clause-put c =
    let C = map triplets_view c.args.columns.now in
    let leaf = c.args.fired.now.source.leaf in
    let bs = c.args.fired.now.source.beside.items in
    let t = c.index-columns-leaf.result in
    let ks : List ℕ = [] in
    let rs : List Row = rows_of leaf bs C in
    let i = c.args.taking.number in
    let within : leaf < length c.args.columns.now = omega (arith, c.requires.fires.leaf, length-map c.args.columns.now triplets_view) in
    let same : triplets_view t ≡ column_at C leaf = column_of c.args.columns.now leaf t within c.index-columns-leaf.is in
    let many : c.len.result ≡ length (column_at C leaf) = c.len.ensures ∙ ap (λ (ts : List Triplet). length ts) same in
    IfOk-weaker c.put_many.result _ _ (λ done h. subst (λ (ps : List Put). HasPut c.args.groups.now ps c.put_many.new.groups)
    (ap (λ (n : ℕ). many_puts [] i (replicate n None)) many ∙ (rows_at_once i leaf (column_at C leaf) (map (source_view C) bs) (replicate (length C) None) ∙ ap (puts_by ks rs i) (sym c.in-Rows.is))) h) c.put_many.ensures.put

pub returns-then-is_own-clause-put : goal.returns-then-is_own-clause-put
returns-then-is_own-clause-put c =
    let C = map triplets_view c.args.columns.now in
    let leaf = c.args.fired.now.source.leaf in
    let bs = c.args.fired.now.source.beside.items in
    let t = c.index-columns-leaf.result in
    let ks : List ℕ = [] in
    let rs : List Row = rows_of leaf bs C in
    let i = c.args.taking.number in
    let within : leaf < length c.args.columns.now = omega (arith, c.requires.fires.leaf, length-map c.args.columns.now triplets_view) in
    let same : triplets_view t ≡ column_at C leaf = column_of c.args.columns.now leaf t within c.index-columns-leaf.is in
    IfOk-weaker c.put_many-then-is_own.result _ _ (λ done h. subst (λ (ps : List Put). HasPut c.args.groups.now ps c.put_many-then-is_own.new.groups)
    (own_at_once i c.in-Of.expression leaf c.args.fired.now.is_needed (takings_view c.args.fired.now.takings.items) bs C (triplets_view t) c.requires.fires same (c.is_own.ensures c.if-is_own.true) ∙ ap (puts_by ks rs i) (sym c.in-Of.is)) h) c.put_many-then-is_own.ensures.put

pub returns-in_ok-rows-in-Of-clause-put : goal.returns-in_ok-rows-in-Of-clause-put
returns-in_ok-rows-in-Of-clause-put c =
    let C = map triplets_view c.args.columns.now in
    let leaf = c.args.fired.now.source.leaf in
    let bs = c.args.fired.now.source.beside.items in
    let ks : List ℕ = [] in
    let rs : List Row = rows_of leaf bs C in
    let i = c.args.taking.number in
    let x = c.in-Of.expression in
    let same : rows_view c.in_ok-rows-in-Of.rows ≡ rs = c.in_ok-rows-in-Of.ensures ∙ ap (λ (n : ℕ). run leaf (map (source_view C) bs) (replicate n None) (column_at C leaf)) (sym (length-map c.args.columns.now triplets_view)) in
    IfOk-weaker c.take_each_row.result _ _ (λ done h. subst (λ (ps : List Put). HasPut c.args.groups.now ps c.take_each_row.new.groups)
    (ap (puts_in ks i (value_in x)) same ∙ ap (puts_by ks rs i) (sym c.in-Of.is)) h) c.take_each_row.ensures.put
