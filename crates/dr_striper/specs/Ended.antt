-- The end of a tablet: what has anything takes over the rest of what is above it.
use Rattle.std.specs.Prelude.{◌≡◌, ℕ, List, [], ◌∷◌, length}
use Rattle.dr_meaning.specs.Schema.{Repetition}
use Rattle.dr_meaning.specs.Path.{Step}
use Rattle.dr_meaning.specs.Column.{Triplet}
use Rattle.dr_levels.specs.Views.{LeafForm}
use Rattle.dr_striper.specs.Added.{grown}
use Rattle.dr_striper.specs.Added.{Twig, nothing, leaf, group, Twigs, no_twigs, twig, twig_at, twig_column, column_in, TwigLeads, Leads, TwigWithin, Within}
use Rattle.dr_striper.specs.Shapes.{Shape, Shapes, shape_at, ShapeLeads, LeadsTo, Lives, AllLive, AllTaken}

abbrev pub ended_own : ℕ → List Triplet → List Triplet → List Triplet
ended_own n L [] = []
ended_own n L (t ∷ ts) = grown n (t ∷ ts) L

abbrev pub ended_seen : ℕ → List Triplet → List Triplet → ℕ
ended_seen n L [] = n
ended_seen n L (t ∷ ts) = length L

abbrev mutual
  pub ended_one : List Triplet → Twig → Twig
  ended_one L nothing = nothing
  ended_one L (leaf k n own) = leaf k (ended_seen n L own) (ended_own n L own)
  ended_one L (group k n own bs) = group k (ended_seen n L own) (ended_own n L own) (ended_each (grown n own L) bs)

  pub ended_each : List Triplet → Twigs → Twigs
  ended_each L no_twigs = no_twigs
  ended_each L (twig b bs) = twig (ended_one L b) (ended_each L bs)

-- a branch that may end
abbrev pub OneEnds : List Triplet → Shape → Twig → Type 0
OneEnds L sh b =
    Lives sh × ((k : Repetition) (p : List Step) (f : LeafForm) → ShapeLeads k p f (LeadsTo p f) sh
    → (TwigLeads k p (Leads p) b × TwigWithin (Within p) (length L) b) × AllTaken f (twig_column (column_in p) L b))

abbrev pub AllEnd : List Triplet → Shapes → Twigs → Type 0
AllEnd L ss bs =
    AllLive ss × ((s : Step) (p : List Step) (f : LeafForm) → ShapeLeads s.repetition p f (LeadsTo p f) (shape_at s.place ss)
    → (TwigLeads s.repetition p (Leads p) (twig_at s.place bs) × TwigWithin (Within p) (length L) (twig_at s.place bs)) × AllTaken f (twig_column (column_in p) L (twig_at s.place bs)))

-- no column is another at the end
abbrev pub EndsSame : Type 0
EndsSame = (p : List Step) (L : List Triplet) (bs : Twigs) → Leads p bs → Within p (length L) bs
    → (column_in p L (ended_each L bs) ≡ column_in p L bs) × Leads p (ended_each L bs)
