use Rattle.std.proofs.Common.{◌∙◌, sym, string_bytes}
use Rattle.dr_levels.specs.Views.{triplet_view, triplets_view}
use Rattle.dr_print.proofs.PrintLemmas.{one_printed, all_printed}
use Rattle.dr_print.proofs.triplet_lines.push_triplets.Goals as goal

pub triplets-preserved : goal.triplets-preserved
triplets-preserved c =
    one_printed (triplet_view c.in-Some.triplet) (triplets_view c.next.new.self) (triplets_view c.triplets.rest) (string_bytes c.triplets.text) (string_bytes c.push_triplet.new.text) c.in-Some.ensures.triplet c.in_ok-push_triplet-in-Some.ensures ∙ c.triplets.invariant

pub returns-in-None : goal.returns-in-None
returns-in-None c = sym (all_printed (triplets_view c.triplets.rest) (string_bytes c.triplets.text) c.in-None.ensures.triplet) ∙ c.triplets.invariant
