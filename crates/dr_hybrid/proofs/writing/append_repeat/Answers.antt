use Rattle.std.proofs.Common.{◌+◌, ◌/◌, ◌∙◌, ◌++◌, ap, take, arith}
use Rattle.dr_hybrid.proofs.PackLemmas.{then_appended, value_bytes}
use Rattle.dr_hybrid.proofs.writing.append_repeat.Goals as goal

pub returns-clause-written : goal.returns-clause-written
returns-clause-written c = then_appended c.append-2.result c.args.out.now.items c.append.new.out.items c.append-2.new.out.items _ _ _ (c.in_ok-append.ensures.written ∙ ap (λ xs. c.args.out.now.items ++ xs) (c.as_slice.ensures ∙ c.new.ensures)) (ap (take ((c.args.width + 7) / 8)) c.to_le_bytes.ensures ∙ value_bytes ((c.args.width + 7) / 8) c.args.value (omega arith)) c.append-2.ensures.written
