use Rattle.std.proofs.Common.{◌≡◌, ◌+◌, refl, ap, ◌∙◌, length, replicate, arith}
use Rattle.std.specs.Prelude.{None}
use Rattle.std.proofs.lemmas.List.{length-append, length-replicate}
use Rattle.dr_meaning.specs.Column.{triplet}
use Rattle.dr_levels.specs.Views.{column_view}
use Rattle.dr_file.proofs.StreamLemmas.{rows_on, rows_fills}
use Rattle.dr_file.proofs.stream.Stream.give_rows.Goals as goal

pub returns-in-Ok-clause-more : goal.returns-in-Ok-clause-more
returns-in-Ok-clause-more c = λ bytes l given s.
    rows_on bytes l s.leaf.read given s.source _ _ c.min-count.result c.args.self.now.rows _ _ s.goes_on refl c.requires.told s.leaf.told_by s.tells s.at c.min-count.ensures (omega (arith, c.min-count.ensures)) c.in-Ok.ensures.nulls

pub returns-in-Ok-clause-fills : goal.returns-in-Ok-clause-fills
returns-in-Ok-clause-fills c =
    let k = c.min-count.result in
    let e : length (column_view c.push_rows.new.out) ≡ length (column_view c.args.out.now) + k =
    ap length c.in-Ok.ensures.nulls ∙ (length-append (column_view c.args.out.now) (replicate k (triplet 0 0 None)) ∙ ap (λ n. length (column_view c.args.out.now) + n) (length-replicate k (triplet 0 0 None))) in
    rows_fills _ k _ _ c.args.self.now _ refl c.requires.told c.requires.told e c.min-count.ensures (omega (arith, c.min-count.ensures))

pub returns-in-Ok-clause-front : goal.returns-in-Ok-clause-front
returns-in-Ok-clause-front c = (replicate c.min-count.result (triplet 0 0 None), c.in-Ok.ensures.nulls)
