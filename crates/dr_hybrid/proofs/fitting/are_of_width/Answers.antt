use Rattle.std.proofs.Common.{◌≡◌, ◌∙◌, ◌*◌, ◌%◌, ◌^◌, sym, get_or, arith}
use Rattle.std.proofs.lemmas.Nat.{one_shl}
use Rattle.dr_hybrid.proofs.NumberLemmas.{Told, length-numbers, number_read}
use Rattle.dr_hybrid.proofs.FittingLemmas.{fitting_more, fitting_ends, fitting_all}
use Rattle.dr_hybrid.proofs.fitting.are_of_width.Goals as goal

pub returns-then-from-bound : goal.returns-then-from-bound
returns-then-from-bound g c =
    let t : Told g.row.T.Denot = record { number = g.T.Packable.number; numbers = g.T.Packable.numbers; none = g.met.T.Packable.none; more = g.met.T.Packable.more } in
    let b : 1 * 2 ^ c.args.width % 2 ^ 64 ≡ 2 ^ c.args.width = one_shl c.args.width 64 (omega (arith, c.requires)) in
    let r : c.from.result ≡ get_or (t.numbers c.args.values.now) c.values.value-index 0 = c.from.ensures ∙ (c.widened.ensures ∙ number_read g.row.T.Denot t c.args.values.now c.values.value-index c.value-item.result (omega arith) c.value-item.is) in
    sym (fitting_ends c.args.width (t.numbers c.args.values.now) c.values.value-index (omega (arith, length-numbers g.row.T.Denot t c.args.values.now)) (omega (arith, b, r, c.if-from-bound.true)) c.values.invariant)

pub values-preserved : goal.values-preserved
values-preserved g c =
    let t : Told g.row.T.Denot = record { number = g.T.Packable.number; numbers = g.T.Packable.numbers; none = g.met.T.Packable.none; more = g.met.T.Packable.more } in
    let b : 1 * 2 ^ c.args.width % 2 ^ 64 ≡ 2 ^ c.args.width = one_shl c.args.width 64 (omega (arith, c.requires)) in
    let r : c.from.result ≡ get_or (t.numbers c.args.values.now) c.values.value-index 0 = c.from.ensures ∙ (c.widened.ensures ∙ number_read g.row.T.Denot t c.args.values.now c.values.value-index c.value-item.result (omega arith) c.value-item.is) in
    fitting_more c.args.width (t.numbers c.args.values.now) c.values.value-index (omega (arith, length-numbers g.row.T.Denot t c.args.values.now)) (omega (arith, b, r, c.if-from-bound.false)) c.values.invariant

pub returns : goal.returns
returns g c =
    let t : Told g.row.T.Denot = record { number = g.T.Packable.number; numbers = g.T.Packable.numbers; none = g.met.T.Packable.none; more = g.met.T.Packable.more } in
    sym (fitting_all c.args.width (t.numbers c.args.values.now) c.values.value-index (omega (arith, length-numbers g.row.T.Denot t c.args.values.now)) c.values.invariant)
