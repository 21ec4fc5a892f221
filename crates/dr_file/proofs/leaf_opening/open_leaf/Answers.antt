use Rattle.std.proofs.Common.{map, length, ap, arith}
use Rattle.std.proofs.lemmas.Bool.{leb-true}
use Rattle.dr_meta.specs.Views.{group_view}
use Rattle.dr_file.proofs.GroupLemmas.{values_shown}
use Rattle.dr_file.proofs.leaf_opening.open_leaf.Goals as goal

pub invariant_of-result : goal.invariant_of-result
invariant_of-result c =
    let gs = map group_view c.args.groups.now in
    record {
      short = omega (arith, ap length c.in_ok-steps.ensures.items, ap length c.deref.ensures.value, c.args.path.now.within);
      few = omega (arith, values_shown c.args.place gs c.in_ok-chunk_places.field-0.items c.in_ok-chunk_places.ensures, leb-true _ _ c.requires.triplets);
    }
