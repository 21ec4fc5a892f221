use Rattle.std.proofs.Common.{arith}
use Rattle.dr_gen.specs.Generator.{language}
use Rattle.dr_gen.specs.Pieces.{language_text}
use Rattle.dr_gen.proofs.PieceLemmas.{parts_more, parts_end}
use Rattle.dr_gen.proofs.line.push_languages.Goals as goal

pub languages-preserved : goal.languages-preserved
languages-preserved c = record {
  text = parts_more language_text (language c.args.x c.args.j) c.args.count c.languages.k c.args.line.now.items c.languages.line.items c.push_comma.new.line.items c.push_language.new.line.items c.languages-test.true c.push_comma.ensures.bytes c.push_language.ensures.bytes c.languages.invariant.text;
  length = omega (arith, c.push_comma.ensures.length, c.push_language.ensures.length, c.languages.invariant.length);
  capacity = omega (arith, c.push_comma.ensures.capacity, c.push_language.ensures.capacity, c.languages.invariant.capacity);
}

pub returns-clause-bytes : goal.returns-clause-bytes
returns-clause-bytes c = parts_end language_text (language c.args.x c.args.j) c.args.count c.languages.k c.args.line.now.items c.languages.line.items c.languages-test.false c.languages.invariant.text
