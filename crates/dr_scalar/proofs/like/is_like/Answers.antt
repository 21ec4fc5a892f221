use Rattle.std.proofs.Common.{◌∙◌, sym, chars}
use Rattle.dr_scalar.proofs.LikeLemmas.{ended_matches, stopped_fails, open_matches}
use Rattle.dr_scalar.proofs.like.is_like.Goals as goal

pub returns-in-End : goal.returns-in-End
returns-in-End c = sym (ended_matches (chars c.args.pattern.now) (chars c.args.text.now) c.in-End.ensures)

pub returns-in-Apart : goal.returns-in-Apart
returns-in-Apart c = sym (stopped_fails (chars c.args.pattern.now) (chars c.args.text.now) c.in-Apart.ensures)

pub returns-in-Percent : goal.returns-in-Percent
returns-in-Percent c =
    c.some_end_is_like.ensures
    ∙ sym (open_matches (chars c.args.pattern.now) (chars c.args.text.now) (chars c.in-Percent.behind.now) (chars c.in-Percent.rest.now) c.in-Percent.ensures)
