use Rattle.dr_tree.proofs.AppendLemmas.{moved_more}
use Rattle.dr_tree.proofs.waiting.append_ready.Goals as goal

pub returns-then-not-append_first : goal.returns-then-not-append_first
returns-then-not-append_first c =
    moved_more c.args.rows.now c.firsts.rows c.append_first.new.rows c.args.waiting.now.items c.firsts.waiting.items c.append_first.new.waiting.items c.firsts.invariant.0 c.append_first.ensures

pub firsts-preserved : goal.firsts-preserved
firsts-preserved c = (
  moved_more c.args.rows.now c.firsts.rows c.append_first.new.rows c.args.waiting.now.items c.firsts.waiting.items c.append_first.new.waiting.items c.firsts.invariant.0 c.append_first.ensures,
  c.append_first.ensures.shaped c.firsts.invariant.1,
)
