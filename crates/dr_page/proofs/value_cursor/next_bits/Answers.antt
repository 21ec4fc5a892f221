use Rattle.std.proofs.Common.{drop, refl}
use Rattle.dr_page.specs.Parts.{part_in}
use Rattle.dr_page.proofs.BitSteps.{bits_same, bits_taken}
use Rattle.dr_page.proofs.value_cursor.next_bits.Goals as goal

pub returns-then-count-eq0-clause-next : goal.returns-then-count-eq0-clause-next
returns-then-count-eq0-clause-next c = λ given h. bits_same c.args.bytes.now given c.clear.new.self.items c.args.bits.now _ refl refl c.clear.ensures.items h

pub returns-clause-next : goal.returns-clause-next
returns-clause-next c =
    let part = c.in_ok-part.part in
    let bs = c.args.bytes.now in
    λ given h. bits_taken bs (part_in bs part) (drop part.end bs) given c.args.count c.args.bits.now c.next.new.self c.next.result c.if-count-eq0.false c.in_ok-part.ensures.found c.next.ensures.greatest h
    (c.next.ensures.next given (h.levels (part_in bs part) (drop part.end bs) c.in_ok-part.ensures.found))
