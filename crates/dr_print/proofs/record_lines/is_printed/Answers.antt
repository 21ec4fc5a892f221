use Rattle.std.proofs.Common.{arith, vec_len}
use Rattle.dr_print.proofs.MemberLemmas.{printed_by}
use Rattle.dr_print.proofs.record_lines.is_printed.Goals as goal

pub returns-in-Required : goal.returns-in-Required
returns-in-Required c =
    let xs = c.args.instances.now in
    printed_by c.args.field.now xs.items c.is_empty.result (vec_len xs) c.in-Required.is (omega (arith, xs.ok.0)) c.is_empty.ensures
