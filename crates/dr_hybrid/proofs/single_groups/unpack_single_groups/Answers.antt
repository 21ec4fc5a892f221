use Rattle.std.proofs.Common.{◌+◌, ◌-◌, ◌*◌, ◌∙◌, ℕ, List, subst, sym, ap, arith}
use Rattle.std.proofs.lemmas.List.{take_rest}
use Rattle.dr_hybrid.proofs.NumberLemmas.{Told, length-numbers, numbers-put_mid}
use Rattle.dr_hybrid.proofs.GroupLemmas.{Groups, no_groups, group_more, groups_end}
use Rattle.dr_hybrid.proofs.single_groups.unpack_single_groups.Goals as goal

pub runs-init : goal.runs-init
runs-init g c = no_groups c.args.width c.args.bytes.now (g.T.Packable.numbers c.args.out.now)

pub runs-preserved : goal.runs-preserved
runs-preserved g c =
    let t : Told g.row.T.Denot = record { number = g.T.Packable.number; numbers = g.T.Packable.numbers; none = g.met.T.Packable.none; more = g.met.T.Packable.more } in
    let bs : List ℕ = c.args.bytes.now in
    let done : ℕ = 8 * c.runs.groups in
    let one = c.in-Some.ensures in
    subst (λ (ns : List ℕ). Groups c.args.width bs ns (c.runs.groups + 1) (c.runs.place + (c.args.width + 1))) (sym (numbers-put_mid g.row.T.Denot t done (done + 8 - done) c.runs.out c.copy_from_slice.new.self))
    (group_more c.args.width bs (t.numbers c.runs.out) c.runs.groups c.runs.place c.in-Some.word one.0 (t.numbers c.copy_from_slice.new.self) (λ i. omega (arith, c.type_inv.bytes i)) c.requires.narrow c.runs.invariant
    (omega (arith, length-numbers g.row.T.Denot t c.runs.out)) (sym (take_rest bs c.runs.place) ∙ one.1) one.2 one.3 (ap t.numbers c.copy_from_slice.ensures.after ∙ c.group_of-group.ensures))

pub returns-in_default : goal.returns-in_default
returns-in_default g c =
    let t : Told g.row.T.Denot = record { number = g.T.Packable.number; numbers = g.T.Packable.numbers; none = g.met.T.Packable.none; more = g.met.T.Packable.more } in
    record {
      room = omega (arith, c.runs.invariant.room, length-numbers g.row.T.Denot t c.runs.out, c.runs.auto.out);
      within = omega (arith, c.runs.invariant.ends, c.runs.invariant.within);
      read = groups_end c.args.width c.args.bytes.now (t.numbers c.runs.out) c.runs.groups c.runs.place c.runs.invariant;
    }

pub returns : goal.returns
returns g c =
    let t : Told g.row.T.Denot = record { number = g.T.Packable.number; numbers = g.T.Packable.numbers; none = g.met.T.Packable.none; more = g.met.T.Packable.more } in
    record {
      room = omega (arith, c.runs.invariant.room, length-numbers g.row.T.Denot t c.runs.out, c.runs.auto.out);
      within = omega (arith, c.runs.invariant.ends, c.runs.invariant.within);
      read = groups_end c.args.width c.args.bytes.now (t.numbers c.runs.out) c.runs.groups c.runs.place c.runs.invariant;
    }
