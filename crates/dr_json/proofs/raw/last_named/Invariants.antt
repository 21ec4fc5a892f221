use Rattle.std.proofs.Common.{◌≡◌, ◌≤◌, length, take}
use Rattle.json.specs.Find.{get_member}
use Rattle.json.specs.Value.{members_view}
use Rattle.dr_json.proofs.raw.last_named.Given as goal

abbrev pub invariant-members : goal.invariant-members
invariant-members l = (get_member l.name (members_view l.members) ≡ get_member l.name (members_view (take l.left l.members))) × (l.left ≤ length l.members)

abbrev pub decreases-members : goal.decreases-members
decreases-members l = l.left
