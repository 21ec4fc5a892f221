use Rattle.std.proofs.Common.{arith}
use Rattle.dr_sub.specs.ResultNames.{name_view}
use Rattle.dr_sub.proofs.NameLemmas.{known_passes, long_fails, taken_fails}
use Rattle.dr_sub.proofs.names.is_refused.Goals as goal

pub returns-then-is_list_among : goal.returns-then-is_list_among
returns-then-is_list_among c = known_passes c.args.earlier.now (name_view c.args.name.now) c.is_list_among.result c.is_list_among.ensures c.if-is_list_among.true

pub returns-then-len-gt-LONGEST_NAME : goal.returns-then-len-gt-LONGEST_NAME
returns-then-len-gt-LONGEST_NAME c =
    long_fails c.args.earlier.now (name_view c.args.name.now) c.is_list_among.result c.len.result c.is_list_among.ensures c.if-is_list_among.false (omega (arith, c.len.ensures, c.args.name.now.name.bytes.ok.0)) c.if-len-gt-LONGEST_NAME.true

pub returns : goal.returns
returns c =
    taken_fails c.args.earlier.now (name_view c.args.name.now) c.is_list_among.result c.is_taken.result c.len.result c.is_list_among.ensures c.if-is_list_among.false (omega (arith, c.len.ensures, c.args.name.now.name.bytes.ok.0)) c.if-len-gt-LONGEST_NAME.false c.is_taken.ensures
