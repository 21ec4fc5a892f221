use Rattle.std.proofs.Common.{◌∙◌, arith, refl, sym, ap, List, drop}
use Rattle.dr_cells.specs.Results.{ResultCell, read_object}
use Rattle.dr_cells.specs.Shapes.{shape_view}
use Rattle.dr_cells.specs.Views.{cells_view}
use Rattle.dr_striper.specs.Stripers.{striped, striped_leaves, striped_paths}
use Rattle.dr_ends.proofs.EndLemmas.{object_passed}
use Rattle.dr_sub.proofs.StripingLemmas.{none_gained, next_gained, front_added, same_paths, next_fits_at}
use Rattle.dr_sub.proofs.striping.stripe_objects.Goals as goal

pub objects-init : goal.objects-init
objects-init c = record {
  place = refl;
  columns = none_gained (shape_view c.args.shape.now) (striped_paths c.args.striper.now) (cells_view c.args.cells.now) (striped c.args.striper.now);
  leaves = refl;
}

pub add_held-requires-clause-fits : goal.add_held-requires-clause-fits
add_held-requires-clause-fits c =
    next_fits_at (striped_leaves c.args.striper.now) (striped_leaves c.objects.striper) (shape_view c.args.shape.now) c.objects.counter c.args.count (cells_view c.args.cells.now) (drop c.objects.at (cells_view c.args.cells.now))
    c.objects.invariant.leaves c.objects.invariant.place (omega (arith, c.objects-test.true)) c.requires.fits

pub returns-in_err-add_held-clause-columns : goal.returns-in_err-add_held-clause-columns
returns-in_err-add_held-clause-columns c =
    front_added (shape_view c.args.shape.now) (striped_paths c.args.striper.now) c.objects.counter c.args.count (cells_view c.args.cells.now) (striped c.args.striper.now) (striped c.objects.striper) (striped c.add_held.new.self) c.from_residual.result c.in_err-add_held.field-0.0
    (omega (arith, c.objects-test.true)) c.objects.invariant.columns c.in_err-add_held.ensures.columns c.from_residual.ensures.1

pub objects-preserved : goal.objects-preserved
objects-preserved c =
    let s = shape_view c.args.shape.now in
    let cells : List ResultCell = cells_view c.args.cells.now in
    record {
      place = c.end_of_object-at.ensures ∙ ap (λ (xs : List ResultCell). (read_object s xs).rest) c.objects.invariant.place ∙ sym (object_passed (read_object s) c.objects.counter cells);
      columns = next_gained s (striped_paths c.args.striper.now) (striped_paths c.objects.striper) c.objects.counter cells (drop c.objects.at cells) (striped c.args.striper.now) (striped c.objects.striper) (striped c.add_held.new.self)
          (same_paths c.objects.striper c.args.striper.now c.objects.invariant.leaves) c.objects.invariant.place c.objects.invariant.columns c.in_ok-add_held.ensures.columns;
      leaves = c.in_ok-add_held.ensures.leaves ∙ c.objects.invariant.leaves;
    }
