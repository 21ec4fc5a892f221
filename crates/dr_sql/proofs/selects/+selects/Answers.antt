use Rattle.std.proofs.Common.{sym, subst}
use Rattle.dr_meaning.specs.Parse.{Parsed}
use Rattle.dr_sub_meaning.specs.NestedParse.{FromSyntax}
use Rattle.dr_sql.specs.Reads.{unread, Reads}
use Rattle.dr_sql.specs.Views.{source_view}
use Rattle.dr_sql.proofs.SelectLemmas.{source_is_parenthesized, source_is_table}
use Rattle.dr_sql.proofs.selects.+selects.Goals as goal

pub from_clause-returns-then-next_is_sign : goal.from_clause-returns-then-next_is_sign
from_clause-returns-then-next_is_sign t c =
    let P : Parsed FromSyntax → Type 0 = λ p. Reads source_view p (unread c.in_parentheses.new.cursor) c.in_parentheses.result in
    subst P (sym (source_is_parenthesized c.args.depth (unread c.args.cursor.now) (sym c.if-next_is_sign.ensures))) c.in_parentheses.ensures

pub from_clause-returns-else-next_is_sign : goal.from_clause-returns-else-next_is_sign
from_clause-returns-else-next_is_sign t c =
    let P : Parsed FromSyntax → Type 0 = λ p. Reads source_view p (unread c.named.new.cursor) c.named.result in
    subst P (sym (source_is_table c.args.depth (unread c.args.cursor.now) (sym c.if-next_is_sign.ensures))) c.named.ensures
