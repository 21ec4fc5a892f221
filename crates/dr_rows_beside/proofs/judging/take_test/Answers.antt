use Rattle.std.proofs.Common.{◌≡◌, ◌∙◌, List, Bool, ap, map, length, arith}
use Rattle.std.specs.Prelude.{Option, None, replicate}
use Rattle.std.proofs.lemmas.List.{length-map}
use Rattle.dr_meaning.specs.Record.{Value}
use Rattle.dr_levels.specs.Views.{triplets_view}
use Rattle.dr_beside.specs.Neighbours.{column_at}
use Rattle.dr_rows_beside.specs.Rows.{Row, Follower, source_view, run}
use Rattle.dr_rows_beside.specs.Answers.{holds_in}
use Rattle.dr_rows_beside.proofs.RunLemmas.{as_many_rows}
use Rattle.dr_rows_beside.proofs.judging.take_test.Goals as goal

pub narrow-requires-clause-as_many : goal.narrow-requires-clause-as_many
narrow-requires-clause-as_many c =
    let C = map triplets_view c.args.columns.now in
    let t = c.args.test.now in
    let F : List Follower = map (source_view C) t.source.beside.items in
    let vs : List (Option Value) = replicate (length c.args.columns.now) None in
    let rows : List Row = run t.source.leaf F vs (column_at C t.source.leaf) in
    let long : length c.deref.result.now ≡ length (column_at C t.source.leaf) =
    ap (λ (bs : List Bool). length bs) (c.deref.ensures.value ∙ c.in_ok-put_answers.ensures) ∙ length-map rows (holds_in t.truth.now) ∙ as_many_rows t.source.leaf F vs (column_at C t.source.leaf) in
    omega (arith, long, c.requires.answers.as_many)
