use Rattle.std.proofs.Common.{◌∙◌, refl, ap, List, ℕ, ◌++◌, length}
use Rattle.dr_nested.specs.PathView.{paths_view}
use Rattle.dr_scalar.specs.Leaves.{truth_leaves}
use Rattle.dr_rows_beside.proofs.SourceLemmas.{greatest_there}
use Rattle.dr_rows_beside.proofs.MakingLemmas.{is_made}
use Rattle.dr_rows_beside.proofs.judging.Test.of.Goals as goal

pub front_of-whole-requires-clause-one : goal.front_of-whole-requires-clause-one
front_of-whole-requires-clause-one c = greatest_there (length c.args.leaves.now) (truth_leaves c.args.truth.now) c.args.last c.requires.read c.requires.last

pub front_of-whole-requires-clause-other : goal.front_of-whole-requires-clause-other
front_of-whole-requires-clause-other c = greatest_there (length c.args.leaves.now) (truth_leaves c.args.truth.now) c.args.last c.requires.read c.requires.last

pub returns : goal.returns
returns c =
    is_made (paths_view c.args.leaves.now) c.args.truth.now _ c.args.last c.deref.result.now c.front_of-whole.result
    refl c.requires.last c.in_ok-source.ensures.leaf refl c.front_of-whole.ensures c.in_ok-source.ensures.beside
    (c.deref.ensures.value ∙ c.in_ok-push_truth.ensures ∙ ap (λ (ks : List ℕ). ks ++ truth_leaves c.args.truth.now) c.new-read.ensures.items)
