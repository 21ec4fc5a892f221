use Rattle.std.proofs.Common.{◌≡◌, ◌++◌, length}
use Rattle.dr_levels.specs.Views.{column_form, column_view, triplets_form, triplets_view}
use Rattle.dr_dump.proofs.append.append.Given as goal

-- what is left is still to join
abbrev pub invariant-triplets : goal.invariant-triplets
invariant-triplets l = record {
  joined : column_view l.out ++ triplets_view l.rest ≡ column_view l.fn.out ++ triplets_view l.front;
  form : column_form l.out ≡ column_form l.fn.out;
  same : triplets_form l.rest ≡ column_form l.out;
}

abbrev pub decreases-triplets : goal.decreases-triplets
decreases-triplets l = length (triplets_view l.rest)
