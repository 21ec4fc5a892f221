-- The leaves of an automaton, lent, and the lines of its transitions.
use Rattle.std.specs.Prelude.{ℕ, List, [], ◌∷◌, ◌++◌, map, Option, decimal}
use Rattle.std.specs.List.{join_with_byte, flat_map}
use denote.Ref.{Bor}
use Rattle.dr_meaning.specs.Path.{Step, Leaf}
use Rattle.dr_meaning.specs.Automaton.{leaf_name, target_name}
use Rattle.dr_nested.specs.PathView.{path_view}
use Rattle.dr_nested.specs.declared.path.Path.{Path}

-- a leaf that is lent
abbrev pub lent_leaf : Bor Path → Leaf
lent_leaf p = path_view p.now

-- leaves that are lent
abbrev pub lent_leaves : List (Bor Path) → List Leaf
lent_leaves ps = map lent_leaf ps

-- names, with a dot before each
abbrev pub dotted : List (List ℕ) → List ℕ
dotted ns = flat_map (λ (n : List ℕ). 46 ∷ n) ns

-- the line of a leaf's level that leads to a target
abbrev pub line_to : List Leaf → Leaf → ℕ → Option ℕ → List ℕ
line_to ls f l t = join_with_byte 32 (leaf_name f ∷ decimal l ∷ target_name ls t ∷ []) ++ 10 ∷ []
