-- A condition of several tests.
use Rattle.std.specs.Prelude.{◌≡◌, ◌≢◌, List, [], ◌∷◌, length, map}
use Rattle.std.proofs.Common.{refl}
use Rattle.dr_meaning.specs.Path.{Leaf}
use Rattle.dr_meaning.specs.Record.{Node}
use Rattle.dr_meaning.specs.Kept.{kept, kept_along}
use Rattle.dr_plan.specs.Conjuncts.{all_of}
use Rattle.dr_plan.specs.Views.{truth_view}
use Rattle.dr_plan.specs.declared.expression.Truth.{Truth}
use Rattle.dr_scalar.specs.Tests.{all_true}
use Rattle.dr_scalar.proofs.ConditionLemmas.{kept_by_all}
use Rattle.dr_paths.specs.Chains.{expressions_chain}

-- what is kept by all of some tests
pub kept_by_tests : (ls : List Leaf) (ts : List Truth) (n : Node) → length ts ≢ 0
    → kept (all_of (map (truth_view ls) ts)) n ≡ kept_along (expressions_chain (map (truth_view ls) ts)) (all_true (map (truth_view ls) ts)) n
kept_by_tests ls [] n h = absurd (h refl)
kept_by_tests ls (t ∷ ts) n h = kept_by_all (truth_view ls t) (map (truth_view ls) ts) n
