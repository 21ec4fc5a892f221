use Rattle.std.proofs.Common.{◌≡◌, ◌+◌, ◌-◌, ◌∙◌, ◌++◌, List, Bool, refl, ap, arith, map}
use Rattle.dr_meaning.specs.Record.{bool_value}
use Rattle.dr_plain.specs.Pieces.{bits_of}
use Rattle.dr_plain.proofs.PieceSteps.{bits_length}
use Rattle.dr_plain.proofs.ReaderSteps.{bools_more, joined_count}
use Rattle.dr_plain.proofs.plain_reader.PlainReader.next_bools.Goals as goal

pub returns-clause-next : goal.returns-clause-next
returns-clause-next c =
    let place = c.args.self.now.place in
    let e : c.in-Some-checked_add.end ≡ place + c.args.count = omega arith in
    let n : c.in-Some-checked_add.end - place ≡ c.args.count = omega (arith, e) in
    λ given h. bools_more c.args.count c.args.bytes.now given (map bool_value c.args.out.now.items) (map bool_value c.push_bits.new.out.items) c.args.self.now (record { place = c.in-Some-checked_add.end; refused = c.args.self.now.refused }) h
    (omega (arith, e, c.bytes_of_bits.ensures))
    (c.push_bits.ensures ∙ (ap (λ (xs : List Bool). map bool_value xs ++ bits_of c.args.bytes.now place (c.in-Some-checked_add.end - place)) c.reserve.ensures.items ∙ ap (λ k. map bool_value c.args.out.now.items ++ bits_of c.args.bytes.now place k) n)) e refl

pub returns-clause-count : goal.returns-clause-count
returns-clause-count c =
    let place = c.args.self.now.place in
    let e : c.in-Some-checked_add.end ≡ place + c.args.count = omega arith in
    let n : c.in-Some-checked_add.end - place ≡ c.args.count = omega (arith, e) in
    joined_count bool_value c.args.count c.args.out.now.items c.push_bits.new.out.items (bits_of c.args.bytes.now place (c.in-Some-checked_add.end - place))
    (c.push_bits.ensures ∙ ap (λ (xs : List Bool). map bool_value xs ++ bits_of c.args.bytes.now place (c.in-Some-checked_add.end - place)) c.reserve.ensures.items)
    (bits_length c.args.bytes.now place (c.in-Some-checked_add.end - place) ∙ n)
