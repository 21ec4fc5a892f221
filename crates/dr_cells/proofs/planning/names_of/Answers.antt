use Rattle.std.proofs.Common.{◌∙◌, map, string_bytes}
use Rattle.dr_cells.specs.PlanShapes.{item_names}
use Rattle.dr_cells.proofs.ShapeLemmas.{names_more}
use Rattle.dr_cells.proofs.planning.names_of.Goals as goal

pub places-preserved : goal.places-preserved
places-preserved c =
    names_more (item_names c.args.items.now) c.args.places.now c.places.place-index 0 (map string_bytes c.places.names.items) (map string_bytes c.push_name.new.names.items)
    c.places-test.true c.in_ok-push_name.ensures
    ∙ c.places.invariant
