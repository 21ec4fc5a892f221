use Rattle.dr_gen.proofs.PieceLemmas.{links_done}
use Rattle.dr_gen.proofs.line.push_links.Goals as goal

pub returns-clause-bytes : goal.returns-clause-bytes
returns-clause-bytes c =
    links_done c.args.x c.args.line.now.items c.push.new.line.items c.push_numbers.new.line.items c.push-2.new.line.items c.push_numbers-2.new.line.items c.push-3.new.line.items
    c.push.ensures.bytes c.push_numbers.ensures.bytes c.push-2.ensures.bytes c.push_numbers-2.ensures.bytes c.push-3.ensures.bytes
