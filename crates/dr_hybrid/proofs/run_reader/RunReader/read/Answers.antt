use Rattle.std.proofs.Common.{◌≡◌, ◌+◌, ◌-◌, ◌∙◌, ℕ, List, None, length, take, drop, refl, sym, ap, subst, arith}
use Rattle.std.proofs.lemmas.List.{length-take, length-drop}
use borrow.Rule.Slice.PartMut.{put_mid}
use Rattle.dr_hybrid.specs.Unread.{IsOpen}
use Rattle.dr_hybrid.specs.Reader.{ahead}
use Rattle.dr_hybrid.proofs.NumberLemmas.{Told, length-numbers, numbers-put_mid}
use Rattle.dr_hybrid.proofs.RunFacts.{on_err}
use Rattle.dr_hybrid.proofs.ReaderLemmas.{Handed, none_handed, handed_on, more_handed, all_handed, not_handed}
use Rattle.dr_hybrid.proofs.GroupLemmas.{length-rest_put, rest_handed}
use Rattle.dr_hybrid.proofs.run_reader.RunReader.read.Goals as goal

pub pieces-init : goal.pieces-init
pieces-init g c = record {
  runs = c.requires.open;
  width = refl;
  handed = none_handed c.args.self.now c.args.bytes.now (g.T.Packable.numbers c.args.out.now);
}

pub pieces-preserved-in-Continue-1 : goal.pieces-preserved-in-Continue-1
pieces-preserved-in-Continue-1 g c =
    let t : Told g.row.T.Denot = record { number = g.T.Packable.number; numbers = g.T.Packable.numbers; none = g.met.T.Packable.none; more = g.met.T.Packable.more } in
    let part : List g.row.T.Denot = c.take_single_groups-done.new.out in
    let out : List g.row.T.Denot = put_mid c.pieces.done (length c.pieces.out - c.pieces.done) c.pieces.out part in
    let done : ℕ = c.pieces.done + c.take_single_groups-done.result in
    let e : length (t.numbers out) ≡ length c.pieces.out = length-rest_put g.row.T.Denot t c.pieces.out part c.pieces.done c.take_single_groups-done.auto.out (omega (arith, c.pieces.auto.out)) in
    record {
      runs = c.in_ok-go_on.ensures.open;
      width = c.in_ok-go_on.ensures.width ∙ (c.take_single_groups-done.ensures.width ∙ c.pieces.invariant.width);
      handed = handed_on c.args.self.now c.take_single_groups-done.new.self c.go_on.new.self c.args.bytes.now (t.numbers out) done
          (rest_handed g.row.T.Denot t c.pieces.out part c.pieces.done c.take_single_groups-done.auto.out c.args.self.now c.pieces.self c.take_single_groups-done.new.self c.args.bytes.now c.take_single_groups-done.result c.pieces.invariant.handed c.take_single_groups-done.ensures.room c.take_single_groups-done.ensures.read)
          (omega (arith, e, c.pieces.auto.out)) c.in_ok-go_on.ensures.rest;
    }

pub pieces-preserved-else-done-out : goal.pieces-preserved-else-done-out
pieces-preserved-else-done-out g c =
    let t : Told g.row.T.Denot = record { number = g.T.Packable.number; numbers = g.T.Packable.numbers; none = g.met.T.Packable.none; more = g.met.T.Packable.more } in
    record {
      runs = subst IsOpen (sym c.take_single_groups-done.ensures.unread) c.pieces.invariant.runs;
      width = c.take_single_groups-done.ensures.width ∙ c.pieces.invariant.width;
      handed = rest_handed g.row.T.Denot t c.pieces.out c.take_single_groups-done.new.out c.pieces.done c.take_single_groups-done.auto.out c.args.self.now c.pieces.self c.take_single_groups-done.new.self c.args.bytes.now c.take_single_groups-done.result c.pieces.invariant.handed c.take_single_groups-done.ensures.room c.take_single_groups-done.ensures.read;
    }

pub returns-in_err-go_on-clause-short : goal.returns-in_err-go_on-clause-short
returns-in_err-go_on-clause-short g c =
    let t : Told g.row.T.Denot = record { number = g.T.Packable.number; numbers = g.T.Packable.numbers; none = g.met.T.Packable.none; more = g.met.T.Packable.more } in
    let part : List g.row.T.Denot = c.take_single_groups-done.new.out in
    let out : List g.row.T.Denot = put_mid c.pieces.done (length c.pieces.out - c.pieces.done) c.pieces.out part in
    let done : ℕ = c.pieces.done + c.take_single_groups-done.result in
    let k : length (t.numbers out) ≡ length c.pieces.out = length-rest_put g.row.T.Denot t c.pieces.out part c.pieces.done c.take_single_groups-done.auto.out (omega (arith, c.pieces.auto.out)) in
    let e : length (t.numbers out) ≡ length c.args.out.now = k ∙ c.pieces.auto.out in
    on_err c.from_residual.result ((n : ℕ) → ahead c.args.self.now (length c.args.out.now + n) c.args.bytes.now ≡ None) (λ n.
    ap (λ k. ahead c.args.self.now (k + n) c.args.bytes.now) (sym e)
    ∙ not_handed c.args.self.now c.take_single_groups-done.new.self c.args.bytes.now (t.numbers out) done 1 n
    (rest_handed g.row.T.Denot t c.pieces.out part c.pieces.done c.take_single_groups-done.auto.out c.args.self.now c.pieces.self c.take_single_groups-done.new.self c.args.bytes.now c.take_single_groups-done.result c.pieces.invariant.handed c.take_single_groups-done.ensures.room c.take_single_groups-done.ensures.read)
    (omega (arith, e, k, c.pieces.auto.out)) (λ m. c.in_err-go_on.ensures.short (1 + m) (omega arith)))

pub returns-in_err-take-clause-short : goal.returns-in_err-take-clause-short
returns-in_err-take-clause-short g c =
    let t : Told g.row.T.Denot = record { number = g.T.Packable.number; numbers = g.T.Packable.numbers; none = g.met.T.Packable.none; more = g.met.T.Packable.more } in
    let e : length (t.numbers c.pieces.out) ≡ length c.args.out.now = length-numbers g.row.T.Denot t c.pieces.out ∙ c.pieces.auto.out in
    let piece : length (take (c.pieces.done + c.at_once-count.result - c.pieces.done) (drop c.pieces.done c.pieces.out)) ≡ c.at_once-count.result = omega (arith, length-take (c.pieces.done + c.at_once-count.result - c.pieces.done) (drop c.pieces.done c.pieces.out), length-drop c.pieces.done c.pieces.out) in
    on_err c.from_residual-in_err-take.result ((n : ℕ) → ahead c.args.self.now (length c.args.out.now + n) c.args.bytes.now ≡ None) (λ n.
    ap (λ k. ahead c.args.self.now (k + n) c.args.bytes.now) (sym e)
    ∙ not_handed c.args.self.now c.pieces.self c.args.bytes.now (t.numbers c.pieces.out) c.pieces.done c.at_once-count.result n c.pieces.invariant.handed (omega (arith, e, c.pieces.auto.out))
    (λ m. ap (λ k. ahead c.pieces.self (k + m) c.args.bytes.now) (sym piece) ∙ c.in_err-take.ensures.short m))

pub pieces-preserved : goal.pieces-preserved
pieces-preserved g c =
    let t : Told g.row.T.Denot = record { number = g.T.Packable.number; numbers = g.T.Packable.numbers; none = g.met.T.Packable.none; more = g.met.T.Packable.more } in
    let e : length (t.numbers c.pieces.out) ≡ length c.args.out.now = length-numbers g.row.T.Denot t c.pieces.out ∙ c.pieces.auto.out in
    let piece : length (take (c.pieces.done + c.at_once-count.result - c.pieces.done) (drop c.pieces.done c.pieces.out)) ≡ c.at_once-count.result = omega (arith, length-take (c.pieces.done + c.at_once-count.result - c.pieces.done) (drop c.pieces.done c.pieces.out), length-drop c.pieces.done c.pieces.out) in
    let size : length (t.numbers c.take.new.out) ≡ c.at_once-count.result = length-numbers g.row.T.Denot t c.take.new.out ∙ (c.take.auto.out ∙ piece) in
    let count : c.pieces.done + c.at_once-count.result - c.pieces.done ≡ c.at_once-count.result = omega arith in
    let out : t.numbers (put_mid c.pieces.done (c.pieces.done + c.at_once-count.result - c.pieces.done) c.pieces.out c.take.new.out) ≡ put_mid c.pieces.done c.at_once-count.result (t.numbers c.pieces.out) (t.numbers c.take.new.out) =
    numbers-put_mid g.row.T.Denot t c.pieces.done (c.pieces.done + c.at_once-count.result - c.pieces.done) c.pieces.out c.take.new.out ∙ ap (λ k. put_mid c.pieces.done k (t.numbers c.pieces.out) (t.numbers c.take.new.out)) count in
    record {
      runs = c.in_ok-take.ensures.open;
      width = c.in_ok-take.ensures.width ∙ c.pieces.invariant.width;
      handed = subst (λ (ns : List ℕ). Handed c.args.self.now c.take.new.self c.args.bytes.now ns (c.pieces.done + c.at_once-count.result)) (sym out)
          (more_handed c.args.self.now c.pieces.self c.take.new.self c.args.bytes.now (t.numbers c.pieces.out) c.pieces.done c.at_once-count.result (t.numbers c.take.new.out) c.pieces.invariant.handed (omega (arith, e, c.pieces.auto.out)) size
          (λ n. ap (λ k. ahead c.pieces.self (k + n) c.args.bytes.now) (sym piece) ∙ c.in_ok-take.ensures.rest n));
    }

pub returns-clause-rest : goal.returns-clause-rest
returns-clause-rest g c = λ n.
    let t : Told g.row.T.Denot = record { number = g.T.Packable.number; numbers = g.T.Packable.numbers; none = g.met.T.Packable.none; more = g.met.T.Packable.more } in
    let e : length (t.numbers c.pieces.out) ≡ length c.args.out.now = length-numbers g.row.T.Denot t c.pieces.out ∙ c.pieces.auto.out in
    ap (λ k. ahead c.args.self.now (k + n) c.args.bytes.now) (sym e)
    ∙ all_handed c.args.self.now c.pieces.self c.args.bytes.now (t.numbers c.pieces.out) c.pieces.done n c.pieces.invariant.handed (omega (arith, e, c.pieces.auto.out))
