-- The number of a leaf among leaves, by its path.
use Rattle.std.specs.Prelude.{ℕ, suc, List, [], ◌∷◌, Option, Some, None, option_map, if◌then◌else◌}
use Rattle.dr_meaning.specs.Path.{Step, Leaf, same_path}

-- the number of the first of these leaves that has this path
abbrev pub number_among : List Leaf → List Step → Option ℕ
number_among [] p = None
number_among (l ∷ ls) p = if same_path l.path p then Some 0 else option_map (λ i. suc i) (number_among ls p)
