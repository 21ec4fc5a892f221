-- Trees that are made: without records yet.
use Rattle.std.specs.Prelude.{◌≡◌, ℕ, zero, suc, List, [], ◌∷◌}
use Rattle.dr_meaning.specs.Schema.{Repetition}
use Rattle.dr_meaning.specs.Path.{Step, Leaf}
use Rattle.dr_levels.specs.Views.{LeafForm}
use Rattle.dr_striper.specs.Added as added
use Rattle.dr_striper.specs.Added.{Twig, Twigs, no_twigs, twig}
use Rattle.dr_striper.specs.declared.branch.Branch.{Branch}
use Rattle.dr_striper.specs.Shapes.{Shape, Shapes, nothing, leaf, group, no_shapes, shape}
use Rattle.dr_striper.specs.Views.{twig_view, twigs_view, shape_view, shapes_view}
use Rattle.dr_striper.specs.Striping.{leaf_form}
use Rattle.dr_striper.specs.Records.{AllLead}

-- a tree's branches, with nothing in them
abbrev mutual
  pub fresh_one : Shape → Twig
  fresh_one nothing = added.nothing
  fresh_one (leaf k f) = added.leaf k 0 []
  fresh_one (group k ss) = added.group k 0 [] (fresh_each ss)

  pub fresh_each : Shapes → Twigs
  fresh_each no_shapes = no_twigs
  fresh_each (shape s ss) = twig (fresh_one s) (fresh_each ss)

abbrev pub IsFresh : Branch → Type 0
IsFresh b = twig_view b ≡ fresh_one (shape_view b)

abbrev pub AreFresh : List Branch → Type 0
AreFresh bs = twigs_view bs ≡ fresh_each (shapes_view bs)

-- another shape at a place
abbrev pub change_at : ℕ → (Shape → Shape) → Shapes → Shapes
change_at zero F no_shapes = shape (F nothing) no_shapes
change_at zero F (shape s ss) = shape (F s) ss
change_at (suc i) F no_shapes = shape nothing (change_at i F no_shapes)
change_at (suc i) F (shape s ss) = shape s (change_at i F ss)

-- a path put into a tree; what is in its way stays
abbrev pub put_one : Repetition → List Step → LeafForm → (Shapes → Shapes) → Shape → Shape
put_one k [] f R nothing = leaf k f
put_one k (s ∷ p) f R nothing = group k (R no_shapes)
put_one k p f R (leaf j g) = leaf j g
put_one k [] f R (group j ss) = group j ss
put_one k (s ∷ p) f R (group j ss) = group j (R ss)

abbrev pub put : List Step → LeafForm → Shapes → Shapes
put [] f ss = ss
put (s ∷ p) f ss = change_at s.place (put_one s.repetition p f (put p f)) ss

abbrev pub put_each : List Leaf → Shapes → Shapes
put_each [] ss = ss
put_each (l ∷ ls) ss = put_each ls (put l.path (leaf_form l) ss)

-- the leaves are those of one tree, as those of a schema are
abbrev pub OfOneTree : List Leaf → Type 0
OfOneTree ls = (S : Shapes) × AllLead ls S
