use Rattle.std.proofs.Common.{◌∙◌, arith}
use Rattle.dr_hybrid.proofs.NumberLemmas.{Told, length-numbers, number_read, none_behind}
use Rattle.dr_hybrid.proofs.encoding.value_at.Goals as goal

pub returns-then-index-values : goal.returns-then-index-values
returns-then-index-values g c =
    let t : Told g.row.T.Denot = record { number = g.T.Packable.number; numbers = g.T.Packable.numbers; none = g.met.T.Packable.none; more = g.met.T.Packable.more } in
    c.widened.ensures ∙ number_read g.row.T.Denot t c.args.values.now c.args.index c.index-values-index.result (omega arith) c.index-values-index.is

pub returns-else-index-values : goal.returns-else-index-values
returns-else-index-values g c =
    let t : Told g.row.T.Denot = record { number = g.T.Packable.number; numbers = g.T.Packable.numbers; none = g.met.T.Packable.none; more = g.met.T.Packable.more } in
    none_behind (t.numbers c.args.values.now) c.args.index (omega (arith, length-numbers g.row.T.Denot t c.args.values.now))
