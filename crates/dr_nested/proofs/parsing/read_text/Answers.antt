use Rattle.std.proofs.Common.{arith, sym, ap, ◌∙◌, ◌+◌, ◌<◌, ℕ, length, drop}
use Rattle.std.specs.List.{list_all}
use Rattle.dr_meaning.specs.Schema.{continues_name}
use Rattle.dr_meaning.specs.SchemaText.{Reading, read_tokens, tokens_from, tokens_of, reading_start}
use Rattle.dr_nested.specs.Reading.{reading_view}
use Rattle.dr_nested.proofs.ScanLemmas.{word, word_restarts, name_grows, rest_grows, rest_restarts, rest_ends}
use Rattle.dr_nested.proofs.parsing.read_text.Goals as goal
use Rattle.dr_nested.proofs.parsing.read_text.Goals.{then-not-goes_on+in-Ok, else-not-goes_on}

pub bytes-preserved : goal.bytes-preserved
bytes-preserved c =
    let text = c.args.text.now in
    let i = c.bytes.offset in
    let more : c.bytes.offset < length c.args.text.now = omega arith in
    elim c.if-not-goes_on.branch [
      | then-not-goes_on+in-Ok w ↦ record {
        within = omega arith;
        word = ap (list_all continues_name) (word_restarts text c.if-not-goes_on.begun (i + 1) w.begun-is);
        rest = ap (λ (m : Reading). read_tokens (length text) (tokens_from (i + 1) (word text c.if-not-goes_on.begun (i + 1)) (drop (i + 1) text)) m) (ap reading_view w.reading-is)
            ∙ rest_restarts text c.bytes.begun i c.if-not-goes_on.begun (reading_view c.bytes.reading) (reading_view w.read_piece.new.reading) (read_tokens (length text) (tokens_of text) reading_start)
            more w.begun-is (sym c.goes_on.ensures ∙ w.if-not-goes_on.true) w.in-Ok.ensures c.bytes.invariant.rest;
      }
      | else-not-goes_on w ↦ record {
        within = omega arith;
        word = ap (λ (s : ℕ). list_all continues_name (word text s (i + 1))) w.begun-is
            ∙ name_grows text c.bytes.begun i c.bytes.invariant.within more c.bytes.invariant.word (sym c.goes_on.ensures ∙ w.if-not-goes_on.false);
        rest = ap (λ (m : Reading). read_tokens (length text) (tokens_from (i + 1) (word text c.if-not-goes_on.begun (i + 1)) (drop (i + 1) text)) m) (ap reading_view w.reading-is)
            ∙ ap (λ (s : ℕ). read_tokens (length text) (tokens_from (i + 1) (word text s (i + 1)) (drop (i + 1) text)) (reading_view c.bytes.reading)) w.begun-is
            ∙ rest_grows text c.bytes.begun i (reading_view c.bytes.reading) (read_tokens (length text) (tokens_of text) reading_start)
            c.bytes.invariant.within more (sym c.goes_on.ensures ∙ w.if-not-goes_on.false) c.bytes.invariant.rest;
      }
    ]

pub returns-in-Ok-read_word : goal.returns-in-Ok-read_word
returns-in-Ok-read_word c =
    rest_ends c.args.text.now c.bytes.begun c.bytes.offset (reading_view c.bytes.reading) (reading_view c.read_word.new.reading)
    (read_tokens (length c.args.text.now) (tokens_of c.args.text.now) reading_start) (omega arith) c.in-Ok-read_word.ensures c.bytes.invariant.rest
