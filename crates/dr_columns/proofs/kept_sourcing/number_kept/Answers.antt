use Rattle.std.proofs.Common.{◌≡◌, ◌∙◌, [], ℕ, List, None, map, length, replicate, ap, sym, subst}
use Rattle.std.proofs.lemmas.Bool.{eqb-true}
use Rattle.std.proofs.lemmas.List.{length-map, nil_from_length}
use Rattle.std.proofs.lemmas.Result.{IfOk-weaker}
use Rattle.dr_levels.specs.Views.{triplets_view}
use Rattle.dr_beside.specs.Neighbours.{column_at}
use Rattle.dr_rows_beside.specs.RecordRows.{rows_of}
use Rattle.dr_rows_beside.specs.Rows.{Row, run, picked, source_view}
use Rattle.dr_rows_beside.specs.RowsView.{rows_view}
use Rattle.dr_columns.specs.Numbers.{HasPut}
use Rattle.dr_columns.specs.RowPuts.{keys_in, groups_in}
use Rattle.dr_columns.proofs.KeylessLemmas.{as_many_rows}
use Rattle.dr_columns.proofs.KeptSourceLemmas.{picked_long}
use Rattle.dr_columns.proofs.kept_sourcing.number_kept.Goals as goal

pub returns-then-is_empty-clause-put : goal.returns-then-is_empty-clause-put
returns-then-is_empty-clause-put c =
    let C = map triplets_view c.args.columns.now in
    let leaf = c.args.fired.now.source.leaf in
    let all : List Row = rows_of leaf c.args.fired.now.source.beside.items C in
    let bits = c.args.bits.now in
    let none : c.args.keys.now ≡ [] = nil_from_length c.args.keys.now (eqb-true (length c.args.keys.now) 0 (sym c.is_empty.ensures ∙ c.if-is_empty.true)) in
    let many : length (picked bits all) ≡ c.count_set.result = picked_long bits all (c.requires.bits ∙ sym (as_many_rows leaf (column_at C leaf) _ _)) ∙ sym c.count_set.ensures in
    IfOk-weaker c.number_alone.result _ _ (λ done h. subst (λ (ks : List ℕ). HasPut c.args.groups.now (groups_in ks (picked bits all)) c.number_alone.new.groups) (sym none) (h (picked bits all) many)) c.number_alone.ensures.put

pub returns-then-is_empty-clause-numbers : goal.returns-then-is_empty-clause-numbers
returns-then-is_empty-clause-numbers c =
    let C = map triplets_view c.args.columns.now in
    let leaf = c.args.fired.now.source.leaf in
    let all : List Row = rows_of leaf c.args.fired.now.source.beside.items C in
    let bits = c.args.bits.now in
    let none : c.args.keys.now ≡ [] = nil_from_length c.args.keys.now (eqb-true (length c.args.keys.now) 0 (sym c.is_empty.ensures ∙ c.if-is_empty.true)) in
    let many : length (picked bits all) ≡ c.count_set.result = picked_long bits all (c.requires.bits ∙ sym (as_many_rows leaf (column_at C leaf) _ _)) ∙ sym c.count_set.ensures in
    IfOk-weaker c.number_alone.result _ _ (λ done h. h (picked bits all) many ∙ ap (λ (ks : List ℕ). map (keys_in ks) (picked bits all)) (sym none)) c.number_alone.ensures.numbers

pub returns-clause-put : goal.returns-clause-put
returns-clause-put c =
    let C = map triplets_view c.args.columns.now in
    let leaf = c.args.fired.now.source.leaf in
    let bs = c.args.fired.now.source.beside.items in
    let bits = c.args.bits.now in
    let same : rows_view c.in_ok-rows.rows ≡ picked bits (rows_of leaf bs C) =
    c.in_ok-rows.ensures ∙ ap (λ (n : ℕ). picked bits (run leaf (map (source_view C) bs) (replicate n None) (column_at C leaf))) (sym (length-map c.args.columns.now triplets_view)) in
    IfOk-weaker c.put_numbers.result _ _ (λ done h. subst (λ (us : List Row). HasPut c.args.groups.now (groups_in c.args.keys.now us) c.put_numbers.new.groups) same h) c.put_numbers.ensures.put
