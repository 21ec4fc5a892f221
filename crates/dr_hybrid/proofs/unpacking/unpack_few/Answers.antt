use Rattle.std.proofs.Common.{◌≡◌, ◌∙◌, ◌+◌, ◌*◌, ◌/◌, ◌%◌, ◌^◌, refl, sym, ap, take, length, arith}
use Rattle.dr_formats.specs.LittleEndian.{unpacked}
use Rattle.std.proofs.lemmas.List.{take_all}
use Rattle.dr_hybrid.proofs.NumberLemmas.{Told, length-numbers, numbers-set}
use Rattle.dr_hybrid.proofs.UnpackLemmas.{masked, rest_all, rest_more, few_more}
use Rattle.dr_hybrid.proofs.unpacking.unpack_few.Goals as goal

pub values-init : goal.values-init
values-init g c = record { rest = rest_all c.args.word c.args.width; front = refl }

pub values-preserved : goal.values-preserved
values-preserved g c =
    let t : Told g.row.T.Denot = record { number = g.T.Packable.number; numbers = g.T.Packable.numbers; none = g.met.T.Packable.none; more = g.met.T.Packable.more } in
    let v : t.number c.masked.result ≡ c.args.word / 2 ^ (c.values.index * c.args.width) % 2 ^ c.args.width = c.masked.ensures ∙ (masked c.args.width c.values.rest c.args.mask c.requires.low ∙ ap (λ x. x % 2 ^ c.args.width) c.values.invariant.rest) in
    record {
      rest = ap (λ x. x / 2 ^ c.args.width) c.values.invariant.rest ∙ rest_more c.args.word c.args.width c.values.index;
      front = ap (take (c.values.index + 1)) (numbers-set g.row.T.Denot t c.values.out c.values.index c.masked.result)
          ∙ few_more c.args.word c.args.width (t.numbers c.values.out) c.values.index (t.number c.masked.result) (omega (arith, length-numbers g.row.T.Denot t c.values.out)) c.values.invariant.front v;
    }

pub returns : goal.returns
returns g c =
    let t : Told g.row.T.Denot = record { number = g.T.Packable.number; numbers = g.T.Packable.numbers; none = g.met.T.Packable.none; more = g.met.T.Packable.more } in
    let e : c.values.index ≡ length c.args.out.now = omega arith in
    sym (take_all c.values.index (t.numbers c.values.out) (omega (arith, length-numbers g.row.T.Denot t c.values.out))) ∙ (c.values.invariant.front ∙ ap (λ n. unpacked n c.args.width c.args.word) e)
