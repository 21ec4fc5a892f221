use Rattle.std.proofs.Common.{◌-◌, ◌∙◌, ◌++◌, List, Bool, ap, arith, map}
use Rattle.dr_meaning.specs.Record.{bool_value}
use Rattle.dr_plain.specs.Pieces.{bits_of}
use Rattle.dr_plain.proofs.ReadSteps.{truths_all}
use Rattle.dr_plain.proofs.reading.append_bools.Goals as goal

pub returns-clause-read : goal.returns-clause-read
returns-clause-read c =
    truths_all c.args.count c.bytes_of_bits.result c.args.bytes.now c.args.out.now.items c.push_bits.new.out.items c.bytes_of_bits.ensures (omega arith)
    (c.push_bits.ensures ∙ ap (λ (xs : List Bool). map bool_value xs ++ bits_of c.args.bytes.now 0 (c.args.count - 0)) c.reserve.ensures.items)
