use Rattle.std.proofs.Common.{◌≡◌}
use Rattle.dr_levels.specs.Views.{column_form}
use Rattle.dr_file.specs.Streams.{stream_form}
use Rattle.dr_calls.proofs.streams.all_batches.Given as goal

abbrev pub invariant-batches : goal.invariant-batches
invariant-batches l = column_form l.batch ≡ stream_form l.stream
