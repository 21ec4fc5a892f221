use Rattle.std.proofs.Common.{sym}
use Rattle.dr_meaning.specs.Tokens.{like_word, contains_word}
use Rattle.dr_meaning.specs.Parse.{is_the_word, if_next, plain, like_test, contains_test, give}
use Rattle.dr_sql.specs.Reads.{unread}
use Rattle.dr_sql.specs.Tests.{tested}
use Rattle.dr_sql.proofs.ReadLemmas.{reads_first, reads_other}
use Rattle.dr_sql.proofs.word_tests.text_test.Goals as goal

pub returns-then-next_is_word : goal.returns-then-next_is_word
returns-then-next_is_word c =
    λ e. reads_first (tested e) (is_the_word like_word) (like_test plain e) (if_next (is_the_word contains_word) (contains_test plain e) (give e)) (unread c.args.cursor.now)
    (unread c.text_behind.new.cursor) c.text_behind.result (sym c.if-next_is_word.ensures) (c.text_behind.ensures e)

pub returns-then-next_is_word-2 : goal.returns-then-next_is_word-2
returns-then-next_is_word-2 c =
    let u = unread c.args.cursor.now in
    let r = c.text_behind-then-next_is_word-2.result in
    let w = unread c.text_behind-then-next_is_word-2.new.cursor in
    λ e. reads_other (tested e) (is_the_word like_word) (like_test plain e) (if_next (is_the_word contains_word) (contains_test plain e) (give e)) u w r
    (sym c.if-next_is_word.ensures)
    (reads_first (tested e) (is_the_word contains_word) (contains_test plain e) (give e) u w r (sym c.if-next_is_word-2.ensures)
    (c.text_behind-then-next_is_word-2.ensures e))
