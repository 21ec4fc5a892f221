use Rattle.std.proofs.Common.{◌≡◌, ◌≤◌, ◌-◌, length, take, drop, true}
use Rattle.std.specs.List.{list_all}
use Rattle.dr_meaning.specs.Schema.{continues_name}
use Rattle.dr_meaning.specs.SchemaText.{read_tokens, tokens_from, tokens_of, reading_start}
use Rattle.dr_nested.specs.Reading.{reading_view}
use Rattle.dr_nested.proofs.parsing.read_text.Given as goal

-- the word that has begun and the rest of the text are still to be read
abbrev pub invariant-bytes : goal.invariant-bytes
invariant-bytes l = record {
  within : l.begun ≤ l.offset;
  word : list_all continues_name (take (l.offset - l.begun) (drop l.begun l.text)) ≡ true;
  rest : read_tokens (length l.text) (tokens_from l.offset (take (l.offset - l.begun) (drop l.begun l.text)) (drop l.offset l.text)) (reading_view l.reading)
      ≡ read_tokens (length l.text) (tokens_of l.text) reading_start;
}
