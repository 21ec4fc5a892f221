use Rattle.std.proofs.Common.{◌≡◌, ◌∙◌, sym, length, get_or, arith}
use Rattle.dr_hybrid.proofs.NumberLemmas.{Told, length-numbers, number_read}
use Rattle.dr_hybrid.proofs.PackLemmas.{counting_more, counting_ends, counting_all}
use Rattle.dr_hybrid.proofs.encoding.equal_near.Goals as goal

pub returns-then-widened-value-clause-count : goal.returns-then-widened-value-clause-count
returns-then-widened-value-clause-count g c =
    let t : Told g.row.T.Denot = record { number = g.T.Packable.number; numbers = g.T.Packable.numbers; none = g.met.T.Packable.none; more = g.met.T.Packable.more } in
    let r : c.widened.result ≡ get_or (t.numbers c.args.values.now) c.loop-index.index 0 = c.widened.ensures ∙ number_read g.row.T.Denot t c.args.values.now c.loop-index.index c.index-values-index.result (omega arith) c.index-values-index.is in
    counting_ends c.args.value (t.numbers c.args.values.now) c.loop-index.index (omega (arith, length-numbers g.row.T.Denot t c.args.values.now)) (λ e. c.if-widened-value.true (r ∙ e)) c.loop-index.invariant

pub loop-index-preserved : goal.loop-index-preserved
loop-index-preserved g c =
    let t : Told g.row.T.Denot = record { number = g.T.Packable.number; numbers = g.T.Packable.numbers; none = g.met.T.Packable.none; more = g.met.T.Packable.more } in
    let r : c.widened.result ≡ get_or (t.numbers c.args.values.now) c.loop-index.index 0 = c.widened.ensures ∙ number_read g.row.T.Denot t c.args.values.now c.loop-index.index c.index-values-index.result (omega arith) c.index-values-index.is in
    counting_more c.args.value (t.numbers c.args.values.now) c.loop-index.index (omega (arith, length-numbers g.row.T.Denot t c.args.values.now)) (sym r ∙ c.if-widened-value.false) c.loop-index.invariant

pub returns-clause-count : goal.returns-clause-count
returns-clause-count g c =
    let t : Told g.row.T.Denot = record { number = g.T.Packable.number; numbers = g.T.Packable.numbers; none = g.met.T.Packable.none; more = g.met.T.Packable.more } in
    let e : c.loop-index.index ≡ length c.args.values.now = omega arith in
    sym (counting_all c.args.value (t.numbers c.args.values.now) c.loop-index.index (omega (arith, length-numbers g.row.T.Denot t c.args.values.now)) c.loop-index.invariant ∙ e)
