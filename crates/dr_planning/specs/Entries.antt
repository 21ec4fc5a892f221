-- The lists that lead from object to object, over levels with joined names.
use Rattle.std.specs.Prelude.{ℕ, List, [], ◌∷◌, if◌then◌else◌, Option, Some, None}
use Rattle.std.specs.Option.{option_or}
use Rattle.dr_meaning.specs.Path.{Step, begins_with, same_path}
use Rattle.dr_planning.specs.NamedLevels.{NamedLevels, no_named, named}

-- the name of the list, among those of these levels, that leads to the level at a path
abbrev pub named_list : List Step → NamedLevels → Option (List ℕ)
named_list p no_named = None
named_list p (named n q below others) = if begins_with q p then Some n else named_list p others

-- the same among the levels next inside that at the path o
abbrev pub list_inside : List Step → List Step → NamedLevels → Option (List ℕ)
list_inside o p no_named = None
list_inside o p (named n q below others) = if same_path o q then named_list p below else option_or (list_inside o p below) (list_inside o p others)

abbrev pub next_list : List Step → List Step → NamedLevels → Option (List ℕ)
next_list [] p ls = named_list p ls
next_list (s ∷ o) p ls = list_inside (s ∷ o) p ls

-- the name of the list that leads from the object at the level o to an item of another level p, if one does
abbrev pub named_between : NamedLevels → List Step → List Step → Option (List ℕ)
named_between ls o p = if same_path o p then None else next_list o p ls
