use Rattle.std.proofs.Common.{◌≡◌, ◌++◌, map, take}
use Rattle.dr_walk.specs.Views.{groups_view}
use Rattle.dr_walk.specs.Seen.{next_definitions}
use Rattle.dr_walk.specs.Seen.{first_shut as meant_shut}
use Rattle.dr_walk.proofs.heads.look.Given as goal

-- what was seen of the groups so far has joined
abbrev pub invariant-groups : goal.invariant-groups
invariant-groups l = l.shut.items ≡ l.fn.shut.items ++ map (meant_shut (next_definitions l.heads)) (groups_view (take l.gates-index l.groups))
