use Rattle.std.proofs.Common.{sym}
use Rattle.dr_meaning.specs.Tokens.{not_word, is_word}
use Rattle.dr_meaning.specs.Parse.{is_the_word, if_next, plain, denied_test, null_test, text_test, give}
use Rattle.dr_sql.specs.Reads.{unread}
use Rattle.dr_sql.specs.Tests.{tested}
use Rattle.dr_sql.proofs.ReadLemmas.{reads_first, reads_other}
use Rattle.dr_sql.proofs.word_tests.next_test.Goals as goal

pub returns-then-next_is_word : goal.returns-then-next_is_word
returns-then-next_is_word c =
    λ e. reads_first (tested e) (is_the_word not_word) (denied_test e) (if_next (is_the_word is_word) (null_test e) (text_test plain e (give e))) (unread c.args.cursor.now)
    (unread c.denied_test.new.cursor) c.denied_test.result (sym c.if-next_is_word.ensures) (c.denied_test.ensures e)

pub returns-then-next_is_word-2 : goal.returns-then-next_is_word-2
returns-then-next_is_word-2 c =
    let u = unread c.args.cursor.now in
    let r = c.null_test.result in
    let w = unread c.null_test.new.cursor in
    λ e. reads_other (tested e) (is_the_word not_word) (denied_test e) (if_next (is_the_word is_word) (null_test e) (text_test plain e (give e))) u w r
    (sym c.if-next_is_word.ensures)
    (reads_first (tested e) (is_the_word is_word) (null_test e) (text_test plain e (give e)) u w r (sym c.if-next_is_word-2.ensures) (c.null_test.ensures e))

pub returns-else-next_is_word-2 : goal.returns-else-next_is_word-2
returns-else-next_is_word-2 c =
    let u = unread c.args.cursor.now in
    let r = c.text_test.result in
    let w = unread c.text_test.new.cursor in
    λ e. reads_other (tested e) (is_the_word not_word) (denied_test e) (if_next (is_the_word is_word) (null_test e) (text_test plain e (give e))) u w r
    (sym c.if-next_is_word.ensures)
    (reads_other (tested e) (is_the_word is_word) (null_test e) (text_test plain e (give e)) u w r (sym c.if-next_is_word-2.ensures) (c.text_test.ensures e))
