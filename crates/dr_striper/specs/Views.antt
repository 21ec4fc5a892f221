-- What branches stand for.
use Rattle.std.specs.Prelude.{List, [], ◌∷◌, map, None, ◌-◌, length, take}
use Rattle.dr_meaning.specs.Column as meant
use Rattle.dr_meaning.specs.Column.{triplet}
use Rattle.dr_striper.specs.Added as added
use Rattle.dr_nested.specs.Views.{rep_view}
use Rattle.dr_levels.specs.declared.triplet.Levels.{Levels}
use Rattle.dr_levels.specs.Views.{column_view, column_form}
use Rattle.dr_striper.specs.Shapes as shapes
use Rattle.dr_striper.specs.declared.branch.Branch.{Branch, fold-Branch}
use Rattle.dr_striper.specs.declared.branch.Branch.TheOpen.{Branch-F}

-- levels without a value
abbrev pub null_of : Levels → meant.Triplet
null_of l = triplet l.repetition l.definition None

abbrev pub nulls : List Levels → List meant.Triplet
nulls ls = map null_of ls

-- the levels before the last one
abbrev pub before : List Levels → List meant.Triplet
before ls = nulls (take (length ls - 1) ls)

-- with each field's repetition
abbrev pub twigs_of : List added.Twig → added.Twigs
twigs_of [] = added.no_twigs
twigs_of (b ∷ bs) = added.twig b (twigs_of bs)

abbrev pub twig_step : Branch-F added.Twig → added.Twig
twig_step Branch-F.Nothing = added.nothing
twig_step (Branch-F.Leaf k l) = added.leaf (rep_view k) l.seen (column_view l.column)
twig_step (Branch-F.Group k g bs) = added.group (rep_view k) g.seen (nulls g.levels.items) (twigs_of bs.items)

abbrev pub twig_view : Branch → added.Twig
twig_view = fold-Branch added.Twig twig_step

abbrev pub twigs_view : List Branch → added.Twigs
twigs_view bs = twigs_of (map twig_view bs)

-- what never changes in them

abbrev pub shapes_of : List shapes.Shape → shapes.Shapes
shapes_of [] = shapes.no_shapes
shapes_of (b ∷ bs) = shapes.shape b (shapes_of bs)

abbrev pub shape_step : Branch-F shapes.Shape → shapes.Shape
shape_step Branch-F.Nothing = shapes.nothing
shape_step (Branch-F.Leaf k l) = shapes.leaf (rep_view k) (column_form l.column)
shape_step (Branch-F.Group k g bs) = shapes.group (rep_view k) (shapes_of bs.items)

abbrev pub shape_view : Branch → shapes.Shape
shape_view = fold-Branch shapes.Shape shape_step

abbrev pub shapes_view : List Branch → shapes.Shapes
shapes_view bs = shapes_of (map shape_view bs)
