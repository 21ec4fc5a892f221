use Rattle.std.proofs.Common.{◌≡◌, ◌≤◌, ◌-◌, ◌∷◌, [], None}
use Rattle.dr_meaning.specs.Stripe.{most_striped}
use Rattle.dr_nested.specs.Views.{fields_view}
use Rattle.dr_nested.specs.PathView.{path_view}
use Rattle.dr_input.specs.Records.{fields_of, most_of, number_of, fault_of, left_of}
use Rattle.dr_striper.specs.Stripers.{striped, striped_leaves}
use Rattle.dr_top.specs.Records.{HasRead, AreColumns}
use Rattle.dr_top.proofs.commands.stripe.stripe_records.Given as goal

abbrev pub invariant-lines : goal.invariant-lines
invariant-lines g l = record {
  has_read : HasRead (fields_view l.schema.fields.items) most_striped (AreColumns ((path_view l.field).path ∷ []) (striped l.striper)) (g.S.Source.shows l.fn.source).left (left_of l.records (g.S.Source.shows l.source).left) (number_of l.records);
  fields_are : fields_of l.records ≡ fields_view l.schema.fields.items;
  most_is : most_of l.records ≡ most_striped;
  leaves : striped_leaves l.striper ≡ path_view l.field ∷ [];
  not_stopped : fault_of l.records ≡ None;
  within : number_of l.records ≤ 4096000000;
  calm : (g.S.Source.shows l.source).faults ≡ (g.S.Source.shows l.fn.source).faults;
}

abbrev pub decreases-lines : goal.decreases-lines
decreases-lines g l = 4096000001 - number_of l.records
