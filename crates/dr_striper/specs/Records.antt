-- Records added to a tree, at the paths of some leaves.
use Rattle.std.specs.Prelude.{◌≡◌, ◌≤◌, ◌⊎◌, ⊤, List, [], ◌∷◌, map, length, true}
use Rattle.std.specs.List.{list_all}
use Rattle.dr_meaning.specs.Path.{Step, Leaf, max_definition}
use Rattle.dr_meaning.specs.Record.{Node}
use Rattle.dr_meaning.specs.Column.{Triplet, record_column}
use Rattle.dr_levels.specs.Views.{LeafForm}
use Rattle.dr_levels.specs.Columns.{takes}
use Rattle.dr_striper.specs.Added.{Twigs, column_in, Leads, Within}
use Rattle.dr_striper.specs.Shapes.{Shapes, LeadsTo, AllLive, max_repetition, AllTaken}
use Rattle.dr_striper.specs.Striping.{leaf_form}

-- the columns of paths, below the levels of the records
abbrev pub columns_in : List (List Step) → List Triplet → Twigs → List (List Triplet)
columns_in ps L bs = map (λ p. column_in p L bs) ps

-- a path with its form is that of one of the leaves
abbrev pub IsAmong : List Step → LeafForm → List Leaf → Type 0
IsAmong p f [] = ⊥
IsAmong p f (l ∷ ls) = ((l.path ≡ p) × (leaf_form l ≡ f)) ⊎ IsAmong p f ls

-- a leaf at a path takes what each record gives it that leaves take
abbrev pub IsFitted : List Step → LeafForm → List Leaf → Type 0
IsFitted p f ls = (n : Node) → list_all (λ l. list_all (takes (leaf_form l)) (record_column l.path n)) ls ≡ true → AllTaken f (record_column p n)

-- each leaf is in the tree
abbrev pub AllLead : List Leaf → Shapes → Type 0
AllLead [] ss = ⊤
AllLead (l ∷ ls) ss = LeadsTo l.path (leaf_form l) ss × AllLead ls ss

-- a tree of exactly these leaves, whose columns they take
abbrev pub Grows : List Leaf → List Triplet → Shapes → Twigs → Type 0
Grows ls L ss bs =
    AllLive ss × AllLead ls ss
    × ((p : List Step) (f : LeafForm) → LeadsTo p f ss
    → (Leads p bs × Within p (length L) bs) × AllTaken f (column_in p L bs) × ((max_repetition p ≤ 255) × (max_definition p ≤ 255)) × IsFitted p f ls)
