-- Which of several chains is the longest.
use Rattle.std.specs.Prelude.{◌≡◌, List, [], ◌∷◌, Bool, true, ◌&&◌}
use Rattle.std.specs.List.{list_all}
use Rattle.dr_meaning.specs.Schema.{Fields}
use Rattle.dr_meaning.specs.Path.{Step, is_leaf_path}
use Rattle.dr_meaning.specs.Expression.{longest_chain}
use Rattle.dr_meaning.specs.BoundExpression.{are_related}
use Rattle.dr_meaning.specs.Binding.{deepest_chain}
use Rattle.dr_partials.specs.PartialLaws.{all_related}

-- of leaves of one schema whose paths are related the chain with the most repeated fields is the one with the most fields
abbrev pub DeepestIsLongest : Type 0
DeepestIsLongest = (fs : Fields) (ps : List (List Step)) → list_all (is_leaf_path fs) ps ≡ true → all_related ps ≡ true → deepest_chain ps ≡ longest_chain ps
