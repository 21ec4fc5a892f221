use Rattle.std.proofs.Common.{◌≡◌, ◌++◌, length, map, string_bytes}
use denote.Text.{Utf8}
use denote.Shadow.{shadow}
use Rattle.dr_meaning.specs.Path.{cut_at_dots}
use Rattle.dr_nested.proofs.finding.cut_at_dots.Given as goal

-- the parts of the rest are still to come
abbrev pub invariant-parts : goal.invariant-parts
invariant-parts l = record {
  text : shadow (Utf8 l.rest);
  parts : map string_bytes l.names.items ++ cut_at_dots l.rest ≡ cut_at_dots l.text;
}

abbrev pub decreases-parts : goal.decreases-parts
decreases-parts l = length l.rest
