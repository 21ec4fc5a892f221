use Rattle.std.proofs.Common.{◌≡◌, map}
use Rattle.std.specs.List.{range_with_len}
use Rattle.dr_partials.specs.Trees as meant
use Rattle.dr_tree.specs.Views.{all_views}
use Rattle.dr_tree.proofs.fan.leaf_servers.Given as goal

abbrev pub invariant-tablets : goal.invariant-tablets
invariant-tablets l = all_views l.servers.items ≡ map meant.leaf_server (range_with_len 0 l.tablet)
