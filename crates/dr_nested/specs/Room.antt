-- Room for one more leaf.
use Rattle.std.specs.Prelude.{ℕ, Bool, nat_le, nat_lt}
use Rattle.dr_meaning.specs.Schema.{most_leaves}
use Rattle.dr_nested.specs.declared.state.Expected.{Expected}

-- at most 1,024 leaves have been read, and fewer where a leaf is about to end
abbrev pub has_room : Expected → ℕ → Bool
has_room (Expected.LeafEnd r k) n = nat_lt n most_leaves
has_room e n = nat_le n most_leaves
