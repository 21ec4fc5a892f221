-- The text of a table by its parts.
use Rattle.std.specs.Prelude.{ℕ, List, [], ◌∷◌, ◌++◌, codes}
use Rattle.std.specs.Fmt.{decimal}

-- the lines before the leaves
abbrev pub head_lines : ℕ → ℕ → List ℕ
head_lines copies tablets = codes "dremel-table 1\ntablets " ++ (decimal tablets ++ (codes "\ncopies " ++ (decimal copies ++ codes "\n")))

-- a leaf line
abbrev pub leaf_line_text : List ℕ → List ℕ
leaf_line_text d = codes "leaf " ++ (d ++ codes "\n")

-- leaf lines
abbrev pub leaf_lines_text : List (List ℕ) → List ℕ
leaf_lines_text [] = []
leaf_lines_text (d ∷ ds) = leaf_line_text d ++ leaf_lines_text ds
