use Rattle.std.proofs.Common.{sym}
use Rattle.dr_sql.proofs.LexLemmas.{one_byte_more, two_quotes_more, text_ends}
use Rattle.dr_sql.proofs.lexing.text_length.Goals as goal

pub bytes-preserved-then-not-has_quote_at : goal.bytes-preserved-then-not-has_quote_at
bytes-preserved-then-not-has_quote_at c = one_byte_more c.args.bytes.now c.bytes.length c.bytes.invariant c.bytes-test.true (sym c.if-not-has_quote_at.ensures)

pub bytes-preserved : goal.bytes-preserved
bytes-preserved c = two_quotes_more c.args.bytes.now c.bytes.length c.bytes.invariant (sym c.if-not-has_quote_at.ensures) (sym c.if-has_quote_at.ensures)

pub returns-else-has_quote_at : goal.returns-else-has_quote_at
returns-else-has_quote_at c = text_ends c.args.bytes.now c.bytes.length c.bytes.invariant (sym c.if-not-has_quote_at.ensures) (sym c.if-has_quote_at.ensures)
