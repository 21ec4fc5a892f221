-- Texts in a list.
use Rattle.std.specs.Prelude.{ℕ, List, [], ◌∷◌, ◌++◌, codes}

-- texts behind others, with commas before each
abbrev pub further_commas : List (List ℕ) → List ℕ
further_commas [] = []
further_commas (t ∷ ts) = codes ", " ++ (t ++ further_commas ts)
