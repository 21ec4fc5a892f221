use Rattle.dr_tree.proofs.FanLemmas.{next_server_is}
use Rattle.dr_tree.proofs.fan.next_server.Goals as goal

pub returns-clause-servers : goal.returns-clause-servers
returns-clause-servers c =
    next_server_is c.args.more c.in-Some.first c.in_ok-new.field-0 c.in_ok-rest.rest c.args.trees.now.items c.pop_front.new.self.items c.next_trees.new.trees.items
    c.in-Some.ensures.items c.in_ok-new.ensures.ok c.in_ok-rest.ensures.taken c.in_ok-rest.ensures.left
