use Rattle.std.proofs.Common.{map, sym, arith}
use Rattle.std.proofs.lemmas.List.{length-map}
use Rattle.dr_nested.specs.PathView.{step_view}
use Rattle.dr_paths.proofs.ChainLemmas.{longer-first, longer-second}
use Rattle.dr_paths.proofs.chains.longer.Goals as goal

pub returns-then-one-other : goal.returns-then-one-other
returns-then-one-other c =
    let a = c.args.one.now in
    let b = c.args.other.now in
    sym (longer-second (map step_view a) (map step_view b) (omega (arith, length-map a step_view, length-map b step_view)))

pub returns-else-one-other : goal.returns-else-one-other
returns-else-one-other c =
    let a = c.args.one.now in
    let b = c.args.other.now in
    sym (longer-first (map step_view a) (map step_view b) (omega (arith, length-map a step_view, length-map b step_view)))
