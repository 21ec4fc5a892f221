use Rattle.dr_gen.proofs.PieceLemmas.{language_done}
use Rattle.dr_gen.proofs.line.push_language.Goals as goal

pub returns-clause-bytes : goal.returns-clause-bytes
returns-clause-bytes c =
    language_done c.args.x c.args.j c.args.k c.args.line.now.items c.push_numbered.new.line.items c.push_country.new.line.items c.push.new.line.items
    c.push_numbered.ensures.bytes c.push_country.ensures.bytes c.push.ensures.bytes
