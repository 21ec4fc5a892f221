use Rattle.std.proofs.Common.{◌≡◌, ◌++◌, length, string_bytes}
use denote.Text.{Utf8}
use denote.Shadow.{shadow}
use Rattle.dr_sql.specs.TokenViews.{undoubled}
use Rattle.dr_sql.proofs.unquoting.unquoted.Given as goal

-- the rest is still to come
abbrev pub invariant-quotes : goal.invariant-quotes
invariant-quotes l = record {
  text : shadow (Utf8 l.rest);
  bytes : string_bytes l.text ++ undoubled l.rest ≡ undoubled l.quoted;
}

abbrev pub decreases-quotes : goal.decreases-quotes
decreases-quotes l = length l.rest
