use Rattle.std.proofs.Common.{◌≡◌, ◌-◌, [], map, string_bytes, vec_len}
use denote.Shadow.{shadow}
use denote.Text.{Utf8}
use Rattle.dr_table.specs.Parsing.{from_leaves}
use Rattle.dr_table.proofs.parsing.read_leaves.Given as goal

-- the leaf lines so far are read, and the others are still to be read
abbrev pub invariant-leaves : goal.invariant-leaves
invariant-leaves l = record {
  text : shadow (Utf8 l.rest);
  count : vec_len l.leaves ≡ l.counter;
  rest : from_leaves (64 - l.counter) l.tablets l.copies (map string_bytes l.leaves.items) l.rest ≡ from_leaves 64 l.tablets l.copies [] l.text;
}
