-- How long it takes at most to look for a group by its hash, whatever the key tuples.
use Rattle.std.specs.Prelude.{◌≡◌, ℕ, true}
use Rattle.dr_group.specs.Chains.{most_linked, head_of, ends_within}
use Rattle.dr_group.specs.declared.index.Index.{Index}

-- the chain of each bucket ends within 16 steps
abbrev pub ChainsAreShort : Type 0
ChainsAreShort = (x : Index) (b : ℕ) → ends_within most_linked x.links.items (head_of x.heads.items b) ≡ true
