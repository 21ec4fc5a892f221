use Rattle.std.proofs.Common.{lit<}
use Rattle.std.proofs.lemmas.Str.Pattern.{split_parts}
use Rattle.dr_rewrite.proofs.LiteralLemmas.{parts_are_doubled}
use Rattle.dr_rewrite.proofs.literals.cut_at_quote.Goals as goal

pub returns-clause-cut : goal.returns-clause-cut
returns-clause-cut c = parts_are_doubled c.args.text.now c.split_once.result (split_parts 39 c.args.text.now c.split_once.result c.split_once.ensures.cases (lit< tt))
