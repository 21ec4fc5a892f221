use Rattle.std.proofs.Common.{◌∙◌, arith}
use Rattle.dr_nested.specs.Views.{fields_view}
use Rattle.dr_sub.specs.ResultFields.{leaves_of}
use Rattle.dr_sub.proofs.FieldLemmas.{leaves_more, leaves_done}
use Rattle.dr_sub.proofs.fields.push_leaves.Goals as goal

pub places-preserved : goal.places-preserved
places-preserved c =
    leaves_more (leaves_of c.args.items.now) c.args.places.now c.places.place-index 0 (fields_view c.places.fields.items) (fields_view c.push_leaf.new.fields.items)
    c.places-test.true c.in_ok-push_leaf.ensures
    ∙ c.places.invariant

pub returns : goal.returns
returns c =
    leaves_done (leaves_of c.args.items.now) c.args.places.now c.places.place-index (fields_view c.places.fields.items) (omega (arith, c.places-test.false))
    ∙ c.places.invariant
