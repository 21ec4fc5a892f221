-- The columns of leaves, and what they gain.
use Rattle.std.specs.Prelude.{List, [], ◌∷◌, ◌++◌, map}
use Rattle.dr_meaning.specs.Path.{Step, Leaf, max_definition}
use Rattle.dr_meaning.specs.Record as tree
use Rattle.dr_meaning.specs.Column.{Triplet}
use Rattle.dr_nested.specs.Views.{value_view, node_view}
use Rattle.dr_nested.specs.PathView.{path_view}
use Rattle.dr_nested.specs.declared.record.Value.{Value}
use Rattle.dr_nested.specs.declared.path.Path.{Path}
use Rattle.dr_striper.specs.declared.inside.Inside.{Inside}
use Rattle.dr_levels.specs.Views.{LeafForm, form}
use denote.Ref.{Bor}

-- what is inside an instance of a node
abbrev pub inside_view : Inside → tree.Instance
inside_view (Inside.Atom v) = tree.atom (value_view v.now)
inside_view (Inside.Group n) = tree.inner (node_view n.now)

-- the leaf that a column at a path is made for
abbrev pub leaf_form : Leaf → LeafForm
leaf_form l = form l.kind (max_definition l.path)

abbrev pub leaves_of : List Path → List Leaf
leaves_of ps = map path_view ps

abbrev pub forms_of : List Leaf → List LeafForm
forms_of ls = map leaf_form ls

-- each column with what its path gives behind it
abbrev pub gained : (List Step → List Triplet) → List (List Step) → List (List Triplet) → List (List Triplet)
gained f [] cs = cs
gained f (p ∷ ps) [] = []
gained f (p ∷ ps) (c ∷ cs) = (c ++ f p) ∷ gained f ps cs
