use Rattle.std.proofs.Common.{◌≡◌, ◌<◌, length, get_or, arith, ap, ◌∙◌}
use Rattle.dr_assemble.specs.Restoring.{strip}
use Rattle.dr_assemble.specs.Views.{strip_view}
use Rattle.dr_assemble.proofs.CuttingLemmas.{long_enough, same_there, same_behind, first_more, other_more}
use Rattle.dr_assemble.proofs.strip.cut.Goals as goal

pub strips-preserved : goal.strips-preserved
strips-preserved c =
    let ss = c.args.left.now in
    let ls = c.strips.left in
    let fs = c.strips.first in
    let k = c.strips.place in
    let s = c.index-left-place.result in
    let here : k < length ls = omega arith in
    let there : k < length fs = omega arith in
    let long : k < length ss = long_enough ss ls k s here c.strips.invariant.rest in
    let is : s ≡ get_or ss k s = c.index-left-place.is ∙ same_there ss ls k s here c.strips.invariant.rest in
    record {
      first = first_more c.args.level ss fs k s _ there long (ap (strip (strip_view s).rest) (c.split_at.ensures.front ∙ c.first_length.ensures.first)) is c.strips.invariant.first;
      others = other_more c.args.level ss ls k s _ here long (ap (strip (strip_view s).rest) (c.split_at.ensures.back ∙ c.first_length.ensures.later)) is c.strips.invariant.others;
      rest = same_behind ss ls k s here c.strips.invariant.rest _;
    }
