use Rattle.std.proofs.Common.{arith, sym, ◌∙◌}
use Rattle.dr_tree.proofs.AppendLemmas.{free_at, not_free_at}
use Rattle.dr_tree.proofs.waiting.free_place.Goals as goal

pub returns-then-is_free-clause-first : goal.returns-then-is_free-clause-first
returns-then-is_free-clause-first c =
    λ r. free_at c.args.tablet r c.args.waiting.now.items c.places.at c.index.result.now (omega (arith, c.places-test.true, c.len-at-end.ensures, c.args.waiting.now.ok)) c.index.ensures (sym c.is_free.ensures ∙ c.if-is_free.true) (c.places.invariant r)

pub places-preserved : goal.places-preserved
places-preserved c =
    λ r. not_free_at c.args.tablet r c.args.waiting.now.items c.places.at c.index.result.now (omega (arith, c.places-test.true, c.len-at-end.ensures, c.args.waiting.now.ok)) c.index.ensures (sym c.is_free.ensures ∙ c.if-is_free.false) (c.places.invariant r)
