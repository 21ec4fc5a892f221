-- The chain of several expressions together.
use Rattle.std.specs.Prelude.{List}
use Rattle.std.specs.List.{flat_map}
use Rattle.dr_meaning.specs.Path.{Step}
use Rattle.dr_meaning.specs.Expression.{Expression, paths_of, longest_chain}

-- the longest chain among the paths of expressions
abbrev pub expressions_chain : List Expression → List Step
expressions_chain es = longest_chain (flat_map paths_of es)
