use Rattle.std.proofs.Common.{arith, ◌+◌}
use Rattle.dr_meaning.specs.Print.{atom_text}
use Rattle.dr_gen.specs.Generator.{number}
use Rattle.dr_gen.proofs.PieceLemmas.{parts_more, parts_end}
use Rattle.dr_gen.proofs.line.push_numbers.Goals as goal

pub numbers-preserved : goal.numbers-preserved
numbers-preserved c = record {
  text = parts_more atom_text (λ j. number (c.args.first + j)) c.args.count c.numbers.place c.args.line.now.items c.numbers.line.items c.push_comma.new.line.items c.push_number.new.line.items c.numbers-test.true c.push_comma.ensures.bytes c.push_number.ensures.bytes c.numbers.invariant.text;
  length = omega (arith, c.push_comma.ensures.length, c.push_number.ensures.length, c.numbers.invariant.length);
  capacity = omega (arith, c.push_comma.ensures.capacity, c.push_number.ensures.capacity, c.numbers.invariant.capacity);
}

pub returns-clause-bytes : goal.returns-clause-bytes
returns-clause-bytes c = parts_end atom_text (λ j. number (c.args.first + j)) c.args.count c.numbers.place c.args.line.now.items c.numbers.line.items c.numbers-test.false c.numbers.invariant.text
