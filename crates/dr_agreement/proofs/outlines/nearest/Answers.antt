use Rattle.std.proofs.Common.{refl, ap, ◌∙◌, arith}
use Rattle.std.specs.Prelude.{nat_lt}
use Rattle.dr_nested.specs.PathView.{paths_view}
use Rattle.dr_agreement.specs.declared.outlines.Neighbours.{Neighbours}
use Rattle.dr_agreement.proofs.OutlinedLemmas.{nearest_first, nearest_more, nearest_all, leaf_by}
use Rattle.dr_agreement.proofs.outlines.nearest.Goals as goal

pub earlier-init : goal.earlier-init
earlier-init c = record {
  best = nearest_first (paths_view c.args.leaves.now) c.args.leaf (record { leaf = c.args.leaf; earlier = 0; front = c.front_of.result }) refl c.front_of.ensures;
  leaf = refl;
}

pub earlier-preserved : goal.earlier-preserved
earlier-preserved c =
    let other : Neighbours = record { leaf = c.args.leaf; earlier = c.earlier.earlier; front = c.front_of-in-earlier.result } in
    record {
      best = nearest_more (paths_view c.args.leaves.now) c.args.leaf c.earlier.earlier c.earlier.best other c.longer-best.result c.longer-best.ensures c.earlier.invariant.best refl c.front_of-in-earlier.ensures;
      leaf = ap (λ (n : Neighbours). n.leaf) c.longer-best.ensures ∙ leaf_by (nat_lt c.earlier.best.front.steps other.front.steps) c.earlier.best other c.args.leaf c.earlier.invariant.leaf refl;
    }

pub returns-clause-nearest : goal.returns-clause-nearest
returns-clause-nearest c = nearest_all (paths_view c.args.leaves.now) c.args.leaf c.earlier.earlier c.earlier.best (omega arith) c.earlier.invariant.best
