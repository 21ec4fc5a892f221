use Rattle.dr_tree.proofs.FanLemmas.{server_more}
use Rattle.dr_tree.proofs.fan.leaf_servers.Goals as goal

pub tablets-preserved : goal.tablets-preserved
tablets-preserved c = server_more c.tablets.tablet c.tablets.servers.items c.push_back.new.self.items c.tablets.invariant c.in_ok-push_back.ensures.items
