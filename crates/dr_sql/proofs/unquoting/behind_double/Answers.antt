use Rattle.std.proofs.Common.{None, lit<}
use Rattle.std.proofs.lemmas.Str.Pattern.{strip_prefix_char}
use Rattle.dr_sql.proofs.QuoteLemmas.{undoubled_behind}
use Rattle.dr_sql.proofs.unquoting.behind_double.Goals as goal

pub returns-in-None-clause-rest : goal.returns-in-None-clause-rest
returns-in-None-clause-rest c = undoubled_behind c.args.text.now (strip_prefix_char 39 c.args.text.now None c.in-None.ensures.cases (lit< tt))
