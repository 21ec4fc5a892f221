-- What never changes in a tree: which fields lead to leaves, their repetitions, and the leaves' forms.
use Rattle.std.specs.Prelude.{◌≡◌, ◌≤◌, ⊤, ℕ, zero, suc, ◌+◌, List, [], ◌∷◌, length, Bool, true}
use Rattle.std.specs.List.{list_all}
use Rattle.dr_meaning.specs.Schema.{Repetition, repetition_count, definition_count}
use Rattle.dr_meaning.specs.Path.{Step, max_definition}
use Rattle.dr_meaning.specs.Record.{Instance, Instances, instances_in}
use Rattle.dr_meaning.specs.Column.{Triplet, each_later, spread, instance_column}
use Rattle.dr_levels.specs.Views.{LeafForm}
use Rattle.dr_levels.specs.Columns.{takes}
use Rattle.dr_striper.specs.Added.{Twig, Twigs, twig, no_twigs, twig_at, twig_column, column_in, TwigLeads, Leads, TwigWithin, Within, field_added}

mutual
  pub data Shape : Type 0 where
    nothing : Shape
    leaf : Repetition → LeafForm → Shape
    group : Repetition → Shapes → Shape

  pub data Shapes : Type 0 where
    no_shapes : Shapes
    shape : Shape → Shapes → Shapes

abbrev pub shape_at : ℕ → Shapes → Shape
shape_at i no_shapes = nothing
shape_at zero (shape s ss) = s
shape_at (suc i) (shape s ss) = shape_at i ss

-- a path leads to a leaf of this form
abbrev pub ShapeLeads : Repetition → List Step → LeafForm → (Shapes → Type 0) → Shape → Type 0
ShapeLeads k p f R nothing = ⊥
ShapeLeads k p f R (leaf j g) = (j ≡ k) × (p ≡ []) × (g ≡ f)
ShapeLeads k p f R (group j ss) = (j ≡ k) × R ss

abbrev pub LeadsTo : List Step → LeafForm → Shapes → Type 0
LeadsTo [] f ss = ⊥
LeadsTo (s ∷ p) f ss = ShapeLeads s.repetition p f (LeadsTo p f) (shape_at s.place ss)

-- each group leads to some leaf: what holds at each leaf in it holds
abbrev mutual
  pub Lives : Shape → Type 0
  Lives nothing = ⊤
  Lives (leaf k f) = ⊤
  Lives (group k ss) = ((b : Bool) → ((p : List Step) (f : LeafForm) → LeadsTo p f ss → b ≡ true) → b ≡ true) × AllLive ss

  pub AllLive : Shapes → Type 0
  AllLive no_shapes = ⊤
  AllLive (shape s ss) = Lives s × AllLive ss

-- how many fields there are below
abbrev mutual
  pub size_one : Shape → ℕ
  size_one nothing = 0
  size_one (leaf k f) = 0
  size_one (group k ss) = 2 + size_each ss

  pub size_each : Shapes → ℕ
  size_each no_shapes = 0
  size_each (shape s ss) = suc (size_one s + size_each ss)

-- how many fields of a path are repeated
abbrev pub max_repetition : List Step → ℕ
max_repetition [] = 0
max_repetition (s ∷ p) = repetition_count s.repetition + max_repetition p

-- a leaf of this form takes all of these
abbrev pub AllTaken : LeafForm → List Triplet → Type 0
AllTaken f ts = list_all (takes f) ts ≡ true

-- these instances may be added to a branch: its column is that of a leaf, and so is what they give; levels are those of a path
abbrev pub TwigReady : Repetition → List Step → LeafForm → ℕ → ℕ → ℕ → List Triplet → Instances → Twig → Type 0
TwigReady k p f level d r L xs b =
    (TwigLeads k p (Leads p) b × TwigWithin (Within p) (length L) b)
    × (AllTaken f (twig_column (column_in p) L b)
    × AllTaken f (spread (instance_column p (level + repetition_count k) (d + definition_count k)) (level + repetition_count k) d r xs))
    × ((level + repetition_count k + max_repetition p ≤ 255) × (d + definition_count k + max_definition p ≤ 255))

abbrev pub FieldReady : ℕ → ℕ → ℕ → List Triplet → Instances → Shape → Twig → Type 0
FieldReady level d r L xs sh b =
    Lives sh × ((k : Repetition) (p : List Step) (f : LeafForm) → ShapeLeads k p f (LeadsTo p f) sh → TwigReady k p f level d r L xs b)

-- so may an instance to the branches of a group
abbrev pub Ready : ℕ → ℕ → ℕ → List Triplet → Instance → Shapes → Twigs → Type 0
Ready level d r L x ss bs =
    AllLive ss × ((s : Step) (p : List Step) (f : LeafForm) → ShapeLeads s.repetition p f (LeadsTo p f) (shape_at s.place ss)
    → TwigReady s.repetition p f level d r L (instances_in s.place x) (twig_at s.place bs))

-- later instances of a group, behind its own levels
abbrev pub LaterReady : ℕ → ℕ → List Triplet → Instances → Shapes → Twigs → Type 0
LaterReady level d own xs ss bs =
    AllLive ss × ((p : List Step) (f : LeafForm) → LeadsTo p f ss
    → (Leads p bs × Within p (length own) bs) × (AllTaken f (column_in p own bs) × AllTaken f (each_later (instance_column p level d) level xs))
    × ((level + max_repetition p ≤ 255) × (d + max_definition p ≤ 255)))

-- what the fields of an instance from a place on add to branches
abbrev pub added_from : ℕ → Instance → ℕ → ℕ → ℕ → List Triplet → Twigs → Twigs
added_from i x level d r L no_twigs = no_twigs
added_from i x level d r L (twig b bs) = twig (field_added (instances_in i x) level d r L b) (added_from (suc i) x level d r L bs)
