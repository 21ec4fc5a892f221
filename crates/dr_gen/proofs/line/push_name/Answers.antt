use Rattle.std.proofs.Common.{arith}
use Rattle.dr_gen.proofs.PieceLemmas.{name_done}
use Rattle.dr_gen.proofs.line.push_name.Goals as goal

pub returns-clause-bytes : goal.returns-clause-bytes
returns-clause-bytes c =
    name_done c.args.x c.args.j c.args.line.now.items c.push.new.line.items c.push_languages.new.line.items c.push-2.new.line.items c.push_url.new.line.items c.push-3.new.line.items
    (omega (arith, c.requires.small, c.requires.name))
    c.push.ensures.bytes c.push_languages.ensures.bytes c.push-2.ensures.bytes c.push_url.ensures.bytes c.push-3.ensures.bytes
