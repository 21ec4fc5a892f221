-- The shape of a plan's result objects, by computation.
use Rattle.std.specs.Prelude.{◌≡◌, [], ◌∷◌, Option, Some, None, codes, refl}
use Rattle.std.specs.Fmt.{digits}
use Rattle.dr_meaning.specs.Query.{Query}
use Rattle.dr_meaning.specs.Parse.{parse_query, items, keys, whole_expression, argument}
use Rattle.dr_meaning.specs.Binding.{bind}
use Rattle.dr_plan.specs.Planned.{planned}
use Rattle.dr_cells.specs.Results.{ShapeTree, shape_tree, no_list_shapes, list_shape}
use Rattle.dr_cells.specs.Shapes.{plan_shape}
use Rattle.dr_meaning.proofs.WorkedSchemas.{document}
use Rattle.dr_vectors.proofs.BoundQueries.{query_of}

abbrev shape_of : Option Query → ShapeTree
shape_of None = shape_tree [] no_list_shapes
shape_of (Some q) = plan_shape (planned document q)

-- one value at the top, and a list whose objects have two
pub shape_of_records : shape_of (query_of (codes "SELECT DocId AS Id, COUNT(Name.Language.Code) WITHIN Name AS Cnt, Name.Url FROM Document")) ≡
    shape_tree (codes "Id" ∷ []) (list_shape (codes "Name") (shape_tree (codes "Cnt" ∷ codes "Name.Url" ∷ []) no_list_shapes) no_list_shapes)
unfolding bind parse_query items keys whole_expression argument digits plan_shape
shape_of_records = refl
