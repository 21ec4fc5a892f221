use Rattle.std.proofs.Common.{ap, ◌∙◌, ◌≡◌}
use Rattle.dr_meaning.specs.Tokens.{query_tokens}
use Rattle.dr_sql.specs.TokenViews.{placed_views}
use Rattle.dr_sql.specs.Reads.{unread}
use Rattle.dr_sql.proofs.ParseLemmas.{long_nested, all_selects_parsed, selects_have_items}
use Rattle.dr_sql.proofs.parsing.parse_nested.Goals as goal

pub returns-then-text-gt-LONGEST_QUERY-clause-tree : goal.returns-then-text-gt-LONGEST_QUERY-clause-tree
returns-then-text-gt-LONGEST_QUERY-clause-tree c = long_nested c.args.text.now c.if-text-gt-LONGEST_QUERY.true

pub returns-clause-tree : goal.returns-clause-tree
returns-clause-tree c =
    let tokens : placed_views c.deref.result.now ≡ query_tokens c.args.text.now = ap placed_views c.deref.ensures.value ∙ c.in_ok-tokens.ensures in
    all_selects_parsed c.args.text.now (placed_views c.deref.result.now) (unread c.selects.new.cursor) c.selects.result c.if-text-gt-LONGEST_QUERY.false tokens c.selects.ensures

pub returns-clause-items : goal.returns-clause-items
returns-clause-items c =
    let tokens : placed_views c.deref.result.now ≡ query_tokens c.args.text.now = ap placed_views c.deref.ensures.value ∙ c.in_ok-tokens.ensures in
    selects_have_items c.args.text.now c.selects.result
    (all_selects_parsed c.args.text.now (placed_views c.deref.result.now) (unread c.selects.new.cursor) c.selects.result c.if-text-gt-LONGEST_QUERY.false tokens c.selects.ensures)
