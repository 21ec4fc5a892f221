use Rattle.std.proofs.Common.{◌≡◌, ◌∙◌, ◌++◌, ℕ, ◌<◌, List, length, refl, sym, ap, subst, arith}
use Rattle.std.specs.Prelude.{Ok}
use Rattle.dr_formats.specs.Lacking.{outline}
use Rattle.dr_levels.specs.Views.{column_view}
use Rattle.dr_outside.specs.Telling.{Tells}
use Rattle.dr_file.proofs.StreamLemmas.{more_from, outline_on, outline_same, outline_column, outlined_less, outlined_short, outlined_few, outlined_falls, chunks_back}
use Rattle.dr_file.proofs.stream.Stream.tell_batch.Goals as goal

pub returns-then-branch-eq0-clause-more : goal.returns-then-branch-eq0-clause-more
returns-then-branch-eq0-clause-more g c = λ bytes l given s told.
    let t = subst (λ (p : List ℕ). Tells (g.L.Link.shows c.args.link.now) p bytes) (sym c.args.self.now.of_file.path) told in
    let m = c.in_ok-next.ensures.more bytes s.leaf.read s.source s.at t in
    let n = more_from c.in_ok-next.field-0 _ _ m.0 m.1 c.in_ok-next.ensures.count ∙ c.if-branch-eq0.true in
    let e = chunks_back bytes s.leaf.read c.args.self.now.leaf c.args.self.now.file.now c.args.self.now.field.now _ c.args.self.now.of_file (c.in_ok-next.ensures.whole bytes s.leaf.read s.source s.at t (ap (λ k. Ok k) c.if-branch-eq0.true)) in (
      refl,
      outline_column bytes l s.leaf.read given s.source c.args.most.repetition c.args.most.definition _ c.args.self.now c.requires.told s.leaf.told_by s.tells e,
      outline_same bytes l s.leaf.read given s.source m.0 c.args.most.repetition c.args.most.definition _ _ s.goes_on c.requires.told s.leaf.told_by s.tells m.2 n,
    )

pub returns-then-branch-eq0-clause-reads : goal.returns-then-branch-eq0-clause-reads
returns-then-branch-eq0-clause-reads g c = (refl, outlined_less c.in_ok-next.field-0 c.args.most.repetition c.args.most.definition c.args.self.now _ c.requires.told c.requires.told c.in_ok-next.ensures.left)

pub returns-in-Ok-clause-more : goal.returns-in-Ok-clause-more
returns-in-Ok-clause-more g c = λ bytes l given s told.
    let t = subst (λ (p : List ℕ). Tells (g.L.Link.shows c.args.link.now) p bytes) (sym c.args.self.now.of_file.path) told in
    let m = c.in_ok-next.ensures.more bytes s.leaf.read s.source s.at t in
    let r = c.args.most.repetition in
    let d = c.args.most.definition in (
      outline r d m.0,
      c.in-Ok.ensures.outline ∙ ap (λ ts. column_view c.args.out.now ++ outline r d ts) (m.1 ∙ ap (λ ts. ts ++ m.0) c.clear.ensures.empty),
      outline_on bytes l s.leaf.read given s.source m.0 r d _ _ s.goes_on c.requires.told s.leaf.told_by s.tells m.2,
    )

pub returns-in-Ok-clause-reads : goal.returns-in-Ok-clause-reads
returns-in-Ok-clause-reads g c =
    let n = c.in_ok-next.field-0 in
    let ts = column_view c.next.new.out in
    let e : length ts ≡ n = omega (arith, c.in_ok-next.ensures.count, ap length c.clear.ensures.empty) in
    let z : 0 < n = omega (arith, c.if-branch-eq0.false) in
    let r = c.args.most.repetition in
    let d = c.args.most.definition in (
      outline r d ts,
      c.in-Ok.ensures.outline,
      outlined_short n r d ts e c.in_ok-next.ensures.batch,
      outlined_few n r d ts c.args.self.now _ c.requires.told c.requires.told e c.in_ok-next.ensures.left,
      outlined_falls n r d c.args.self.now _ c.requires.told c.requires.told c.in_ok-next.ensures.left z,
    )
