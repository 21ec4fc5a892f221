-- What a tree is known to be, it is in one way.
use Rattle.std.specs.Prelude.{◌≡◌, ◌≤◌, ℕ, List, [], ◌∷◌, length}
use Rattle.std.specs.Coded.{×_prop, Unit-prop, le_prop}
use Rattle.std.proofs.Props.{props}
use Rattle.dr_meaning.specs.Schema.{Repetition}
use Rattle.dr_meaning.specs.Path.{Step, Leaf}
use Rattle.dr_meaning.specs.Column.{Triplet}
use Rattle.dr_levels.specs.Views.{LeafForm}
use Rattle.dr_striper.specs.Added as added
use Rattle.dr_striper.specs.Added.{Twig, Twigs, twig_at, TwigLeads, Leads, TwigWithin, Within}
use Rattle.dr_striper.specs.Shapes.{Shape, Shapes, nothing, leaf, group, no_shapes, shape, shape_at, ShapeLeads, LeadsTo, Lives, AllLive}
use Rattle.dr_striper.specs.Striping.{leaf_form}
use Rattle.dr_striper.specs.Records.{AllLead, Grows}

mutual
  Lives-prop : (s : Shape) → IsProp (Lives s)
  Lives-prop nothing = Unit-prop
  Lives-prop (leaf k f) = Unit-prop
  Lives-prop (group k ss) = ×_prop (Prim.hlevel props) (AllLive-prop ss)

  AllLive-prop : (ss : Shapes) → IsProp (AllLive ss)
  AllLive-prop no_shapes = Unit-prop
  AllLive-prop (shape s ss) = ×_prop (Lives-prop s) (AllLive-prop ss)

ShapeLeads-prop : (k : Repetition) (p : List Step) (f : LeafForm) (R : Shapes → Type 0) → ((ss : Shapes) → IsProp (R ss)) → (s : Shape) → IsProp (ShapeLeads k p f R s)
ShapeLeads-prop k p f R each nothing = λ x y. absurd x
ShapeLeads-prop k p f R each (leaf j g) = Prim.hlevel props
ShapeLeads-prop k p f R each (group j ss) = ×_prop (Prim.hlevel props) (each ss)

LeadsTo-prop : (p : List Step) (f : LeafForm) (ss : Shapes) → IsProp (LeadsTo p f ss)
LeadsTo-prop [] f ss = λ x y. absurd x
LeadsTo-prop (s ∷ p) f ss = ShapeLeads-prop s.repetition p f (LeadsTo p f) (LeadsTo-prop p f) (shape_at s.place ss)

AllLead-prop : (ls : List Leaf) (ss : Shapes) → IsProp (AllLead ls ss)
AllLead-prop [] ss = Unit-prop
AllLead-prop (l ∷ ls) ss = ×_prop (LeadsTo-prop l.path (leaf_form l) ss) (AllLead-prop ls ss)

TwigLeads-prop : (k : Repetition) (p : List Step) (R : Twigs → Type 0) → ((bs : Twigs) → IsProp (R bs)) → (b : Twig) → IsProp (TwigLeads k p R b)
TwigLeads-prop k p R each added.nothing = λ x y. absurd x
TwigLeads-prop k p R each (added.leaf j n own) = Prim.hlevel props
TwigLeads-prop k p R each (added.group j n own bs) = ×_prop (Prim.hlevel props) (each bs)

Leads-prop : (p : List Step) (bs : Twigs) → IsProp (Leads p bs)
Leads-prop [] bs = λ x y. absurd x
Leads-prop (s ∷ p) bs = TwigLeads-prop s.repetition p (Leads p) (Leads-prop p) (twig_at s.place bs)

TwigWithin-prop : (R : ℕ → Twigs → Type 0) → ((m : ℕ) (bs : Twigs) → IsProp (R m bs)) → (m : ℕ) (b : Twig) → IsProp (TwigWithin R m b)
TwigWithin-prop R each m added.nothing = Unit-prop
TwigWithin-prop R each m (added.leaf j n own) = le_prop
TwigWithin-prop R each m (added.group j n own bs) = ×_prop le_prop (each (length own) bs)

Within-prop : (p : List Step) (m : ℕ) (bs : Twigs) → IsProp (Within p m bs)
Within-prop [] m bs = Unit-prop
Within-prop (s ∷ p) m bs = TwigWithin-prop (Within p) (Within-prop p) m (twig_at s.place bs)

ruleset tree_props = (props, AllLive-prop, AllLead-prop, Leads-prop, Within-prop)

pub Grows-prop : (ls : List Leaf) (L : List Triplet) (ss : Shapes) (bs : Twigs) → IsProp (Grows ls L ss bs)
Grows-prop ls L ss bs = Prim.hlevel tree_props
