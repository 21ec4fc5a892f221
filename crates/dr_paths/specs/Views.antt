-- What a bound path stands for.
use Rattle.std.specs.Prelude.{List, map}
use Rattle.dr_meaning.specs.BoundExpression as meant
use Rattle.dr_meaning.specs.Path.{Step}
use Rattle.dr_nested.specs.PathView.{path_view}
use Rattle.dr_paths.specs.declared.bound.BoundPath.{BoundPath}

abbrev pub bound_path_view : BoundPath → meant.BoundPath
bound_path_view p = record { place = p.place; leaf = path_view p.leaf }

-- their steps alone
abbrev pub paths_at : List meant.BoundPath → List (List Step)
paths_at ps = map (λ (p : meant.BoundPath). p.leaf.path) ps
