use Rattle.std.proofs.Common.{arith, refl}
use Rattle.dr_tree.proofs.AppendLemmas.{first_moved}
use Rattle.dr_tree.proofs.waiting.append_first.Goals as goal

pub returns : goal.returns
returns c =
    first_moved c.args.rows.now c.append.new.self c.in-Some-lines.lines c.args.waiting.now.items c.pop_front.new.self.items c.in-Some.first.now (let some = c.in-Some.ensures.variant.0 refl in omega (arith, some, c.args.waiting.now.ok))
    c.in-Some.ensures.lookup c.pop_front.ensures.rest c.in-Some-lines.is c.in-Ok.ensures.rows c.append.ensures.shape
