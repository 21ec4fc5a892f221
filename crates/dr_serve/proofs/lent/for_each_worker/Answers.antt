use Rattle.std.proofs.Common.{subst, slice_index_or}
use Rattle.dr_serve.specs.Lent.{ChangesLent}
use Rattle.dr_serve.proofs.lent.for_each_worker.Goals as goal

pub returns : goal.returns
returns g c = λ i x lt. let ch = (c.for_each_mut.ensures i x lt).1 in
    subst (λ (y : g.row.L.Denot). ChangesLent g.F.Fn c.args.f.now c.args.plan c.args.table c.args.desk c.args.grown i (slice_index_or c.args.links.now i x) y) ch.left
    (subst (λ (y : g.row.L.Denot). ChangesLent g.F.Fn c.args.f.now c.args.plan c.args.table c.args.desk c.args.grown i y ch.after_call.now) ch.argument_is ch.call)
