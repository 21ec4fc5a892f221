use Rattle.std.proofs.Common.{◌≡◌, length}
use Rattle.dremel.proofs.links_of.Given as goal

-- a link for each turn so far
abbrev pub invariant-links : goal.invariant-links
invariant-links l = length l.links.items ≡ l.counter
