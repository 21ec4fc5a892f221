use Rattle.dr_gen.proofs.PieceLemmas.{line_done}
use Rattle.dr_gen.proofs.line.push_line.Goals as goal

pub returns-clause-bytes : goal.returns-clause-bytes
returns-clause-bytes c =
    line_done c.args.x c.args.line.now.items c.push_numbered.new.line.items c.push_given_links.new.line.items c.push.new.line.items c.push_names.new.line.items c.push-2.new.line.items
    c.push_numbered.ensures.bytes c.push_given_links.ensures.bytes c.push.ensures.bytes c.push_names.ensures.bytes c.push-2.ensures.bytes
