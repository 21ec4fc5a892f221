use Rattle.std.specs.Prelude.{reverse}
use Rattle.dr_cells.specs.Shapes.{shape_view}
use Rattle.dr_cells.proofs.ReadingLemmas.{are_rows}
use Rattle.dr_made_laws.specs.ObjectFlowLaws.{made_objects}
use Rattle.dr_within.proofs.ObjectFrameLemmas.{frames_closed}
use Rattle.dr_within.proofs.object_frames.ObjectFrames.close.Goals as goal

pub of-requires : goal.of-requires
of-requires c =
    let h = c.requires in
    let f = frames_closed h.items h.made c.args.self.inner (reverse c.args.self.around.items) h.holds in
    are_rows (shape_view c.args.shape) (made_objects h.made) _ _ h.fits f.built.cells (c.in_ok-count.ensures h.made f.built)

pub returns-clause-rows : goal.returns-clause-rows
returns-clause-rows c = λ items made h fits.
    let f = frames_closed items made c.args.self.inner (reverse c.args.self.around.items) h in
    c.of.ensures.rows (made_objects made) fits f.built.cells (c.in_ok-count.ensures made f.built)
