use Rattle.std.proofs.Common.{◌≡◌, ℕ, List, ◌+◌, ◌-◌, ◌∙◌, ◌++◌, suc, length, drop, take, get_or, arith, ap, sym, subst, ◌≤◌, ◌⊎◌}
use Rattle.std.specs.Prelude.{min}
use Rattle.dr_formats.specs.Hybrid.{equal_front, group_of}
use Rattle.dr_hybrid.specs.Writing.{AreBelow}
use Rattle.dr_hybrid.proofs.NumberLemmas.{Told, length-numbers, number_read, numbers_rest, length_rest}
use Rattle.dr_hybrid.proofs.PackLemmas.{Written, repeat_written, group_written, written_all, below_dropped, either_ends}
use Rattle.dr_hybrid.proofs.encoding.append_runs.Goals as goal

pub runs-preserved-then-equal-rest : goal.runs-preserved-then-equal-rest
runs-preserved-then-equal-rest g c =
    let t : Told g.row.T.Denot = record { number = g.T.Packable.number; numbers = g.T.Packable.numbers; none = g.met.T.Packable.none; more = g.met.T.Packable.more } in
    let ns : List ℕ = t.numbers c.args.values.now in
    let l : length ns ≡ length c.args.values.now = length-numbers g.row.T.Denot t c.args.values.now in
    let v : ℕ = c.widened-first.result in
    let r : v ≡ get_or ns c.runs.done 0 = c.widened-first.ensures ∙ number_read g.row.T.Denot t c.args.values.now c.runs.done _ (omega arith) c.index-values-done.is in
    let equal : ℕ = 1 + c.equal_count-equal.result in
    let e : equal ≡ suc (equal_front v (drop (c.runs.done + 1) ns)) = omega (arith, c.equal_count-equal.ensures.count ∙ ap (equal_front v) (numbers_rest g.row.T.Denot t (c.runs.done + 1) c.args.values.now)) in
    let b : (8 ≤ equal) ⊎ (equal ≡ length ns - c.runs.done) = either_ends equal (length (take (length c.args.values.now - c.runs.done) (drop c.runs.done c.args.values.now))) (length ns - c.runs.done) (length_rest c.runs.done c.args.values.now ∙ ap (λ n. n - c.runs.done) (sym l)) c.if-equal-rest.either in
    repeat_written c.args.width ns c.args.out.now.items c.runs.out.items c.append_repeat.new.out.items c.runs.done v equal c.runs.invariant (omega (arith, l)) r e b (omega (arith, l)) c.in_ok-append_repeat.ensures.written

pub append_group-requires-clause-below : goal.append_group-requires-clause-below
append_group-requires-clause-below g c =
    let t : Told g.row.T.Denot = record { number = g.T.Packable.number; numbers = g.T.Packable.numbers; none = g.met.T.Packable.none; more = g.met.T.Packable.more } in
    subst (AreBelow c.args.width) (sym (numbers_rest g.row.T.Denot t c.runs.done c.args.values.now)) (below_dropped c.args.width c.runs.done (t.numbers c.args.values.now) c.requires.below)

pub runs-preserved : goal.runs-preserved
runs-preserved g c =
    let t : Told g.row.T.Denot = record { number = g.T.Packable.number; numbers = g.T.Packable.numbers; none = g.met.T.Packable.none; more = g.met.T.Packable.more } in
    let ns : List ℕ = t.numbers c.args.values.now in
    let l : length ns ≡ length c.args.values.now = length-numbers g.row.T.Denot t c.args.values.now in
    let v : ℕ = c.widened-first.result in
    let r : v ≡ get_or ns c.runs.done 0 = c.widened-first.ensures ∙ number_read g.row.T.Denot t c.args.values.now c.runs.done _ (omega arith) c.index-values-done.is in
    let equal : ℕ = 1 + c.equal_count-equal.result in
    let e : equal ≡ suc (equal_front v (drop (c.runs.done + 1) ns)) = omega (arith, c.equal_count-equal.ensures.count ∙ ap (equal_front v) (numbers_rest g.row.T.Denot t (c.runs.done + 1) c.args.values.now)) in
    let k : length (take (length c.args.values.now - c.runs.done) (drop c.runs.done c.args.values.now)) ≡ length ns - c.runs.done = length_rest c.runs.done c.args.values.now ∙ ap (λ n. n - c.runs.done) (sym l) in
    let m : min (length ns - c.runs.done) 8 ≡ c.min-done.result = ap (λ n. min n 8) (sym k) ∙ sym c.min-done.ensures in
    subst (λ (n : ℕ). Written c.args.width ns c.args.out.now.items c.append_group.new.out.items (c.runs.done + n)) m
    (group_written c.args.width ns c.args.out.now.items c.runs.out.items c.append_group.new.out.items c.runs.done v equal c.runs.invariant (omega (arith, l)) r e c.if-equal-rest.false.0 (λ n. c.if-equal-rest.false.1 (n ∙ sym k)) (c.in_ok-append_group.ensures.written ∙ ap (λ xs. c.runs.out.items ++ (group_of c.args.width xs).bytes) (numbers_rest g.row.T.Denot t c.runs.done c.args.values.now)))

pub returns-clause-written : goal.returns-clause-written
returns-clause-written g c =
    let t : Told g.row.T.Denot = record { number = g.T.Packable.number; numbers = g.T.Packable.numbers; none = g.met.T.Packable.none; more = g.met.T.Packable.more } in
    written_all c.args.width (t.numbers c.args.values.now) c.args.out.now.items c.runs.out.items c.runs.done c.runs.invariant (omega (arith, length-numbers g.row.T.Denot t c.args.values.now))
