-- Columns lent at the end.
use Rattle.std.specs.Prelude.{◌≡◌, ◌≤◌, ⊤, List, [], ◌∷◌, length}
use Rattle.dr_meaning.specs.Schema.{Repetition}
use Rattle.dr_meaning.specs.Path.{Step, Leaf}
use Rattle.dr_meaning.specs.Column.{Triplet}
use Rattle.dr_levels.specs.Views.{LeafForm}
use Rattle.dr_striper.specs.Added.{grown}
use Rattle.dr_striper.specs.Added.{Twig, nothing, leaf, group, Twigs, twig_at, twig_column, column_in}
use Rattle.dr_striper.specs.Shapes.{Shape, Shapes, ShapeLeads, LeadsTo, AllTaken}
use Rattle.dr_striper.specs.Striping.{leaf_form}

-- what has anything of its own has all that is above it
abbrev pub TwigEnds : (List Triplet → Twigs → Type 0) → List Triplet → Twig → Type 0
TwigEnds R L nothing = ⊤
TwigEnds R L (leaf k n own) = (n ≤ length L) × (1 ≤ length own → n ≡ length L)
TwigEnds R L (group k n own bs) = ((n ≤ length L) × (1 ≤ length own → n ≡ length L)) × R (grown n own L) bs

abbrev pub Ends : List Step → List Triplet → Twigs → Type 0
Ends [] L bs = ⊤
Ends (s ∷ p) L bs = TwigEnds (Ends p) L (twig_at s.place bs)

-- a branch that may be lent, and branches
abbrev pub LendsOne : Repetition → List Step → LeafForm → List Triplet → Shape → Twig → Type 0
LendsOne k p f L sh b = ShapeLeads k p f (LeadsTo p f) sh × TwigEnds (Ends p) L b × AllTaken f (twig_column (column_in p) L b)

abbrev pub Lends : List Step → LeafForm → List Triplet → Shapes → Twigs → Type 0
Lends p f L ss bs = LeadsTo p f ss × Ends p L bs × AllTaken f (column_in p L bs)

abbrev pub AllLend : List Leaf → List Triplet → Shapes → Twigs → Type 0
AllLend [] L ss bs = ⊤
AllLend (l ∷ ls) L ss bs = Lends l.path (leaf_form l) L ss bs × AllLend ls L ss bs
