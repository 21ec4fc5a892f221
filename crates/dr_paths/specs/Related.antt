-- A chain that stands for all the paths before one.
use Rattle.std.specs.Prelude.{◌≡◌, List, [], ◌∷◌, Bool, ◌||◌}
use Rattle.std.specs.List.{list_all}
use Rattle.dr_meaning.specs.BoundExpression.{BoundPath, are_related}
use Rattle.dr_meaning.specs.Path.{Step, chain_end, begins_with}

-- whether one chain begins with the other
abbrev pub chains_related : List Step → List Step → Bool
chains_related a b = begins_with a b || begins_with b a

-- a path is related to all the earlier ones exactly where its chain is related to this one
pub record Spans (earlier : List (List Step)) (longest : List Step) : Type 0 where
  pub alike : (p : List Step) → list_all (are_related p) earlier ≡ chains_related (chain_end p) longest

-- the earlier paths, and these behind them, the last one first
abbrev pub joined_before : List (List Step) → List BoundPath → List (List Step)
joined_before earlier [] = earlier
joined_before earlier (p ∷ ps) = joined_before (p.leaf.path ∷ earlier) ps
