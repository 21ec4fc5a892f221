use Rattle.std.proofs.Common.{◌≤◌, ◌-◌, ◌++◌, drop, List, length}
use Rattle.dr_meaning.specs.Tokens.{PlacedToken}
use Rattle.dr_meaning.specs.TokenLaws.{AreQueryTokens}
use Rattle.dr_sql.specs.TokenViews.{placed_views}
use Rattle.dr_sql.proofs.lexing.tokens_of.Given as goal

-- the tokens so far, with any of the bytes that are left, are the text's
abbrev pub invariant-bytes : goal.invariant-bytes
invariant-bytes l =
    ((ts : List PlacedToken) → AreQueryTokens l.place (drop l.place l.bytes) ts → AreQueryTokens 0 l.bytes (placed_views l.tokens.items ++ ts))
    × (l.place ≤ length l.bytes)

abbrev pub decreases-bytes : goal.decreases-bytes
decreases-bytes l = length l.bytes - l.place
