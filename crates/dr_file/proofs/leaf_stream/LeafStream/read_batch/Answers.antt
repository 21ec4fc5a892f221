use Rattle.std.proofs.Common.{◌≡◌, ◌∙◌, map, refl, ap, arith}
use Rattle.std.proofs.lemmas.Result.{err_from_is_err_and}
use Rattle.dr_levels.specs.Views.{column_view}
use Rattle.dr_chunk.specs.Taking.{range_of}
use Rattle.dr_file.specs.Floors.{bare, strip}
use Rattle.dr_file.proofs.LeafStreamLemmas.{asks_chunk, joined_behind, joined_before}
use Rattle.dr_file.proofs.LeafPlaceLemmas.{in_chunk_of, is_at, place_of, reader_refused, order_refused, rows_lack, more_read}
use Rattle.dr_file.proofs.leaf_stream.LeafStream.read_batch.Goals as goal

pub returns-in_err-count-clause-bad : goal.returns-in_err-count-clause-bad
returns-in_err-count-clause-bad g c = λ bytes l given at told e.
    let h = in_chunk_of bytes l given c.args.self.now at c.requires.some in
    let p = err_from_is_err_and c.from_residual.result c.from_residual.ensures.1 in
    reader_refused bytes l given c.args.self.now h (c.in_err-count.ensures.bad l h.chunk.values bytes h.read h.takes told (cc (p.1, p.2, e)))

pub returns-in_err-count-clause-asked : goal.returns-in_err-count-clause-asked
returns-in_err-count-clause-asked g c = asks_chunk _ _ _ _ (range_of c.args.self.now.reader) _ _ (c.args.self.now.chunk c.requires.some) c.next.ensures.asked

pub returns-then-not-go_on-clause-bad : goal.returns-then-not-go_on-clause-bad
returns-then-not-go_on-clause-bad g c = λ bytes l given at told e.
    let h = in_chunk_of bytes l given c.args.self.now at c.requires.some in
    let t = c.in_ok-count.ensures.takes l h.chunk.values bytes h.read h.takes told in
    let levels = c.levels_behind.ensures ∙ ap (map strip) (joined_behind _ (column_view c.args.out.now) _ t.0 t.1 c.len-before.ensures) in
    order_refused bytes l given t.0 (map bare c.levels_behind.result.now) c.args.self.now c.next.new.self h levels t.2 c.next.ensures.range
    (λ rest. c.go_on.ensures.stuck l.path h.chunk.rows (map strip h.read) rest at.floors h.order c.if-not-go_on.true)

pub returns-then-not-go_on-clause-stays : goal.returns-then-not-go_on-clause-stays
returns-then-not-go_on-clause-stays g c = c.truncate.ensures.triplets ∙ joined_before _ (column_view c.args.out.now) _ c.in_ok-count.ensures.longer.0 c.in_ok-count.ensures.longer.2 c.len-before.ensures

pub returns-then-not-go_on-clause-asked : goal.returns-then-not-go_on-clause-asked
returns-then-not-go_on-clause-asked g c = asks_chunk _ _ _ _ (range_of c.args.self.now.reader) _ _ (c.args.self.now.chunk c.requires.some) c.next.ensures.asked

pub returns-in-Err-clause-bad : goal.returns-in-Err-clause-bad
returns-in-Err-clause-bad g c = λ bytes l given at told e.
    let h = in_chunk_of bytes l given c.args.self.now at c.requires.some in
    let t = c.in_ok-count.ensures.takes l h.chunk.values bytes h.read h.takes told in
    let levels = c.levels_behind.ensures ∙ ap (map strip) (joined_behind _ (column_view c.args.out.now) _ t.0 t.1 c.len-before.ensures) in
    rows_lack bytes l given t.0 (map bare c.levels_behind.result.now) c.args.self.now c.next.new.self c.go_on.new.self h levels t.2 c.next.ensures.range
    (c.go_on.ensures.on l.path h.chunk.rows (map strip h.read) at.floors h.order c.if-not-go_on.false) (c.in-Err.ensures.bad (cc e)) (c.in-Err.ensures.bad_rows (cc e))

pub returns-in-Err-clause-stays : goal.returns-in-Err-clause-stays
returns-in-Err-clause-stays g c = c.truncate-in-Err.ensures.triplets ∙ joined_before _ (column_view c.args.out.now) _ c.in_ok-count.ensures.longer.0 c.in_ok-count.ensures.longer.2 c.len-before.ensures

pub returns-in-Err-clause-asked : goal.returns-in-Err-clause-asked
returns-in-Err-clause-asked g c = asks_chunk _ _ _ _ (range_of c.args.self.now.reader) _ _ (c.args.self.now.chunk c.requires.some) c.next.ensures.asked

pub returns-in-Ok-clause-more : goal.returns-in-Ok-clause-more
returns-in-Ok-clause-more g c = λ bytes l given at told.
    let h = in_chunk_of bytes l given c.args.self.now at c.requires.some in
    let t = c.in_ok-count.ensures.takes l h.chunk.values bytes h.read h.takes told in
    let levels = c.levels_behind.ensures ∙ ap (map strip) (joined_behind _ (column_view c.args.out.now) _ t.0 t.1 c.len-before.ensures) in (
      t.0,
      t.1,
      is_at bytes l _ _ at.leaf at.floors at.within
          (place_of bytes l _ _ (more_read bytes l given t.0 (map bare c.levels_behind.result.now) c.args.self.now _ h levels t.2 c.next.ensures.range
          (c.go_on.ensures.on l.path h.chunk.rows (map strip h.read) at.floors h.order c.if-not-go_on.false) refl refl refl) c.in-Ok.ensures.begun),
    )

pub returns-in-Ok-clause-asked : goal.returns-in-Ok-clause-asked
returns-in-Ok-clause-asked g c = asks_chunk _ _ _ _ (range_of c.args.self.now.reader) _ _ (c.args.self.now.chunk c.requires.some) c.next.ensures.asked

pub returns-in-Ok-clause-front : goal.returns-in-Ok-clause-front
returns-in-Ok-clause-front g c = let j = c.in_ok-count.ensures.longer in (j.0, j.2)
