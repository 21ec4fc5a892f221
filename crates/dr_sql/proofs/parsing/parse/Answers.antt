use Rattle.std.proofs.Common.{ap, ◌∙◌, ◌≡◌}
use Rattle.dr_meaning.specs.Tokens.{query_tokens}
use Rattle.dr_sql.specs.TokenViews.{placed_views}
use Rattle.dr_sql.specs.Reads.{unread}
use Rattle.dr_sql.proofs.ParseLemmas.{long_text, all_parsed}
use Rattle.dr_sql.proofs.parsing.parse.Goals as goal

pub returns-then-text-gt-LONGEST_QUERY : goal.returns-then-text-gt-LONGEST_QUERY
returns-then-text-gt-LONGEST_QUERY c = long_text c.args.text.now c.if-text-gt-LONGEST_QUERY.true

pub returns : goal.returns
returns c =
    let tokens : placed_views c.deref.result.now ≡ query_tokens c.args.text.now = ap placed_views c.deref.ensures.value ∙ c.in_ok-tokens.ensures in
    all_parsed c.args.text.now (placed_views c.deref.result.now) (unread c.query.new.cursor) c.query.result c.if-text-gt-LONGEST_QUERY.false tokens c.query.ensures
