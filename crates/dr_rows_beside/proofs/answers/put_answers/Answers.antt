use Rattle.std.proofs.Common.{◌≡◌, ◌∙◌, ap, sym, map, length, List, arith, Bool}
use Rattle.std.specs.Prelude.{Option, None, replicate}
use Rattle.std.proofs.lemmas.List.{length-replicate}
use Rattle.dr_meaning.specs.Record.{Value}
use Rattle.dr_meaning.specs.Column.{Triplet}
use Rattle.dr_levels.specs.Views.{triplets_view}
use Rattle.dr_beside.specs.Neighbours.{column_at}
use Rattle.dr_rows_beside.specs.Rows.{Row, Follower, source_view, run}
use Rattle.dr_rows_beside.specs.RowsView.{rows_view}
use Rattle.dr_agreement.proofs.OutlinedLemmas.{column_of}
use Rattle.dr_rows_beside.proofs.RunLemmas.{own_slots, as_many_rows}
use Rattle.dr_rows_beside.proofs.answers.put_answers.Goals as goal

pub returns-then-put_quickly : goal.returns-then-put_quickly
returns-then-put_quickly c =
    let C = map triplets_view c.args.columns.now in
    let leaf = c.args.source.now.leaf in
    let F : List Follower = map (source_view C) c.args.source.now.beside.items in
    let vs : List (Option Value) = replicate (length c.args.columns.now) None in
    let e : triplets_view c.index-columns-source.result ≡ column_at C leaf = column_of c.args.columns.now leaf c.index-columns-source.result c.requires.leaf c.index-columns-source.is in
    let long : length vs ≡ length c.args.columns.now = length-replicate (length c.args.columns.now) None in
    c.put_quickly.ensures.put c.if-put_quickly.true (run leaf F vs (column_at C leaf))
    (own_slots leaf F vs (column_at C leaf) (omega (arith, c.requires.leaf, long)) c.requires.apart ∙ ap (λ (ts : List Triplet). map (λ (t : Triplet). t.value) ts) (sym e))

pub put_truths-requires : goal.put_truths-requires
put_truths-requires c =
    let C = map triplets_view c.args.columns.now in
    let leaf = c.args.source.now.leaf in
    let F : List Follower = map (source_view C) c.args.source.now.beside.items in
    let vs : List (Option Value) = replicate (length c.args.columns.now) None in
    let e : triplets_view c.index-columns-source.result ≡ column_at C leaf = column_of c.args.columns.now leaf c.index-columns-source.result c.requires.leaf c.index-columns-source.is in
    let rows : length (rows_view c.in_ok-rows.rows) ≡ length (triplets_view c.index-columns-source.result) =
    ap (λ (rs : List Row). length rs) c.in_ok-rows.ensures ∙ as_many_rows leaf F vs (column_at C leaf) ∙ ap (λ (ts : List Triplet). length ts) (sym e) in
    let none : length c.put_quickly.new.out.items ≡ 0 = ap (λ (bs : List Bool). length bs) (c.put_quickly.ensures.items c.if-put_quickly.false) in
    record {
      room = omega (arith, rows, none, c.put_quickly.new.out.ok.0, c.put_quickly.ensures.room c.if-put_quickly.false, c.in_ok-reserve.ensures.ok, c.len.ensures);
    }
