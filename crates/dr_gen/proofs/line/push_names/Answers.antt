use Rattle.std.proofs.Common.{arith}
use Rattle.dr_gen.specs.Generator.{name}
use Rattle.dr_gen.specs.Pieces.{name_text}
use Rattle.dr_gen.proofs.PieceLemmas.{parts_more, parts_end}
use Rattle.dr_gen.proofs.line.push_names.Goals as goal

pub names-preserved : goal.names-preserved
names-preserved c = record {
  text = parts_more name_text (name c.args.x) c.args.count c.names.j c.args.line.now.items c.names.line.items c.push_comma.new.line.items c.push_name.new.line.items c.names-test.true c.push_comma.ensures.bytes c.push_name.ensures.bytes c.names.invariant.text;
  length = omega (arith, c.push_comma.ensures.length, c.push_name.ensures.length, c.names.invariant.length);
  capacity = omega (arith, c.push_comma.ensures.capacity, c.push_name.ensures.capacity, c.names.invariant.capacity);
}

pub returns-clause-bytes : goal.returns-clause-bytes
returns-clause-bytes c = parts_end name_text (name c.args.x) c.args.count c.names.j c.args.line.now.items c.names.line.items c.names-test.false c.names.invariant.text
