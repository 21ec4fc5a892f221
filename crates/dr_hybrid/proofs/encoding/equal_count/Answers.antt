use Rattle.std.proofs.Common.{◌≡◌, ◌≤◌, ◌+◌, ◌-◌, ◌∙◌, ℕ, List, length, take, drop, ap, sym, arith}
use Rattle.dr_formats.specs.Hybrid.{equal_front}
use Rattle.dr_hybrid.proofs.NumberLemmas.{Told, length-numbers, numbers-take, numbers-drop, numbers_rest}
use Rattle.dr_hybrid.proofs.FrontLemmas.{front_of_taken, more_equal}
use Rattle.dr_hybrid.proofs.encoding.equal_count.Goals as goal

pub blocks-2-init : goal.blocks-2-init
blocks-2-init g c =
    let t : Told g.row.T.Denot = record { number = g.T.Packable.number; numbers = g.T.Packable.numbers; none = g.met.T.Packable.none; more = g.met.T.Packable.more } in
    let near : ℕ = c.min-near.result in
    let e : c.equal_near-equal.result ≡ equal_front c.args.value (take near (t.numbers c.args.values.now)) = c.equal_near-equal.ensures.count ∙ ap (equal_front c.args.value) (numbers-take g.row.T.Denot t near c.args.values.now) in
    (omega (arith, c.min-near.ensures), front_of_taken c.args.value near (t.numbers c.args.values.now) (omega (arith, c.if-equal-near.false, e)))

pub blocks-2-preserved : goal.blocks-2-preserved
blocks-2-preserved g c =
    let t : Told g.row.T.Denot = record { number = g.T.Packable.number; numbers = g.T.Packable.numbers; none = g.met.T.Packable.none; more = g.met.T.Packable.more } in
    let l : length (t.numbers c.args.values.now) ≡ length c.args.values.now = length-numbers g.row.T.Denot t c.args.values.now in
    let some : c.blocks-2.done + 64 ≤ length c.args.values.now = omega (arith, c.blocks-2-test.true) in
    let n : c.blocks-2.done + 64 - c.blocks-2.done ≡ 64 = omega arith in (
      some,
      more_equal c.args.value 64 c.blocks-2.done (t.numbers c.args.values.now) _
          (numbers-take g.row.T.Denot t _ (drop c.blocks-2.done c.args.values.now) ∙ ap (take _) (numbers-drop g.row.T.Denot t c.blocks-2.done c.args.values.now) ∙ ap (λ (k : ℕ). take k (drop c.blocks-2.done (t.numbers c.args.values.now))) n)
          (c.are_all.ensures c.if-are_all.true) (omega (arith, some, l)) c.blocks-2.invariant.1,
    )

pub returns-clause-count : goal.returns-clause-count
returns-clause-count g c =
    let t : Told g.row.T.Denot = record { number = g.T.Packable.number; numbers = g.T.Packable.numbers; none = g.met.T.Packable.none; more = g.met.T.Packable.more } in
    let e : c.equal_near.result ≡ equal_front c.args.value (drop c.blocks-2.done (t.numbers c.args.values.now)) = c.equal_near.ensures.count ∙ ap (equal_front c.args.value) (numbers_rest g.row.T.Denot t c.blocks-2.done c.args.values.now) in
    omega (arith, e, c.blocks-2.invariant.1)
