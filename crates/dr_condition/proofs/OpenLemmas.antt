-- How many branches are open for a condition.
use Rattle.std.proofs.Common.{◌<◌, ◌≤◌, ◌+◌, Option, None, Some, arith}
use Rattle.dr_meaning.specs.Schema.{greatest_depth}
use Rattle.dr_kept_laws.specs.Parts.{all_tests}
use Rattle.dr_prune.specs.PartAnswers.{lasts_of, untested}
use Rattle.dr_prune.specs.Pruning.{open_in}
use Rattle.dr_prune.proofs.OpenLemmas.{few_are_pruned}
use Rattle.dr_condition.specs.Parted.{lent_tests, test_at}
use Rattle.dr_condition.specs.Conditions.{HasWatchedIf, open_if}
use Rattle.dr_condition.specs.ConditionLaws.{FewAreWatched}
use Rattle.dr_condition.specs.declared.watched.Watched.{Watched}

-- behind moves that nest at most one for each level of a schema, and the record
pub few_are_watched : FewAreWatched
few_are_watched fs ls ms c deep nests seen = by_watched c.watched seen
  where
    by_watched : (o : Option Watched) → HasWatchedIf o ms → open_if o < 64
    by_watched None s = omega arith
    by_watched (Some x) s =
        let ts = lent_tests x.tests.items in
        let ls_of = lasts_of x.answers in
        let few : open_in x.pruner ≤ 1 + greatest_depth =
        few_are_pruned fs ls ms (all_tests (untested (test_at ts) ls_of)) (test_at ts) ls_of x.pruner deep nests s.pruned in
        omega (arith, few)
