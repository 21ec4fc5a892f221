use Rattle.std.proofs.Common.{◌≡◌, ◌+◌, ◌*◌, arith, ◌∙◌, ℕ, List, subst, sym, ap, take, drop, length, ◌/◌, ◌%◌, ◌^◌, pow_mono}
use Rattle.std.proofs.lemmas.List.{take_rest, take_all}
use Rattle.std.proofs.lemmas.Nat.{pow_pos}
use Rattle.dr_formats.specs.LittleEndian.{little_endian, unpacked}
use Rattle.dr_hybrid.proofs.NumberLemmas.{Told, length-numbers, numbers-set}
use Rattle.dr_hybrid.proofs.UnpackLemmas.{Behind, behind_none, behind_more, few_bits, mask_is, masked}
use Rattle.dr_hybrid.proofs.unpacking.unpack_each.Goals as goal

pub overflow_mul-bits : goal.overflow_mul-bits
overflow_mul-bits g c = omega (arith, few_bits c.args.skipped c.args.width c.requires.few c.requires.narrow)

pub values-init : goal.values-init
values-init g c =
    let t : Told g.row.T.Denot = record { number = g.T.Packable.number; numbers = g.T.Packable.numbers; none = g.met.T.Packable.none; more = g.met.T.Packable.more } in
    record { part = omega arith; behind = behind_none c.args.bytes.now c.args.width c.args.skipped (t.numbers c.args.out.now) }

pub masked-requires : goal.masked-requires
masked-requires g c = omega (arith, mask_is c.args.width c.requires.narrow, pow_mono c.requires.held, pow_pos c.args.width)

pub values-preserved : goal.values-preserved
values-preserved g c =
    let t : Told g.row.T.Denot = record { number = g.T.Packable.number; numbers = g.T.Packable.numbers; none = g.met.T.Packable.none; more = g.met.T.Packable.more } in
    record {
      part = omega arith;
      behind = subst (λ (ns : List ℕ). Behind c.args.bytes.now c.args.width c.args.skipped ns (c.values.index + 1) (8 * (c.values.place + (c.values.shift + c.args.width) / 8) + (c.values.shift + c.args.width) % 8)) (sym (numbers-set g.row.T.Denot t c.values.out c.values.index c.masked.result))
          (behind_more c.args.bytes.now c.args.width c.args.skipped (t.numbers c.values.out) c.values.index c.values.place c.values.shift (t.number c.masked.result) (λ i. omega (arith, c.type_inv.bytes i)) c.requires.narrow c.values.invariant.part c.values.invariant.behind (omega (arith, length-numbers g.row.T.Denot t c.values.out))
          (c.masked.ensures ∙ (masked c.args.width _ _ (mask_is c.args.width c.requires.narrow) ∙ ap (λ x. x / 2 ^ c.values.shift % 2 ^ c.args.width) (c.front_word.ensures ∙ ap (λ xs. little_endian (take 8 xs)) (take_rest c.args.bytes.now c.values.place)))));
    }

pub returns : goal.returns
returns g c =
    let t : Told g.row.T.Denot = record { number = g.T.Packable.number; numbers = g.T.Packable.numbers; none = g.met.T.Packable.none; more = g.met.T.Packable.more } in
    let e : c.values.index ≡ length c.args.out.now = omega arith in
    sym (take_all c.values.index (t.numbers c.values.out) (omega (arith, length-numbers g.row.T.Denot t c.values.out))) ∙ (c.values.invariant.behind.front ∙ ap (λ n. drop c.args.skipped (unpacked (c.args.skipped + n) c.args.width (little_endian c.args.bytes.now))) e)
