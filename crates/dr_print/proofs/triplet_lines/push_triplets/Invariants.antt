use Rattle.std.proofs.Common.{◌≡◌, ◌++◌, length, string_bytes}
use Rattle.dr_meaning.specs.Stripe.{column_text}
use Rattle.dr_levels.specs.Views.{triplets_view}
use Rattle.dr_print.proofs.triplet_lines.push_triplets.Given as goal

-- the lines of the triplets that are left are still to join
abbrev pub invariant-triplets : goal.invariant-triplets
invariant-triplets l = string_bytes l.text ++ column_text (triplets_view l.rest) ≡ string_bytes l.fn.text ++ column_text (triplets_view l.fn.rest)

abbrev pub decreases-triplets : goal.decreases-triplets
decreases-triplets l = length (triplets_view l.rest)
