use Rattle.std.proofs.Common.{◌≡◌, ◌++◌, length, string_bytes}
use denote.Text.{Utf8}
use denote.Shadow.{shadow}
use Rattle.dr_meaning.specs.TokenLaws.{doubled}
use Rattle.dr_rewrite.proofs.literals.push_doubled.Given as goal

-- the rest is still to come
abbrev pub invariant-quotes : goal.invariant-quotes
invariant-quotes l = record {
  text : shadow (Utf8 l.rest);
  bytes : string_bytes l.out ++ doubled l.rest ≡ string_bytes l.fn.out ++ doubled l.text;
}

abbrev pub decreases-quotes : goal.decreases-quotes
decreases-quotes l = length l.rest
