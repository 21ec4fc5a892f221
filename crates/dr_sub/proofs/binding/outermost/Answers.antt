use Rattle.std.proofs.Common.{refl}
use Rattle.dr_sql.specs.Views.{select_view}
use Rattle.dr_sub.proofs.NestedLemmas.{outermost_bound}
use Rattle.dr_sub.proofs.binding.outermost.Goals as goal

pub returns : goal.returns
returns c = λ fs q h. outermost_bound fs (select_view c.args.select.now) q _ c.args.plan c.in_ok-order.order h c.in_ok-order.ensures c.new.ensures.items refl refl refl
