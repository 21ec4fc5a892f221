use Rattle.std.proofs.Common.{◌≡◌, ◌+◌, length, drop, refl, ap, arith}
use Rattle.std.proofs.lemmas.List.{take_at}
use Rattle.std.proofs.lemmas.Result.{err_from_is_err_and}
use Rattle.dr_page.specs.declared.fault.PageFault.{PageFault}
use Rattle.dr_page.proofs.RunSteps.{more_read, not_read}
use Rattle.dr_page.proofs.CursorLemmas.{no_indices}
use Rattle.dr_page.proofs.ValueSteps.{no_items, indices_read, indices_same}
use Rattle.dr_page.proofs.index_cursor.IndexCursor.next.Goals as goal

pub returns-then-count-eq0-clause-next : goal.returns-then-count-eq0-clause-next
returns-then-count-eq0-clause-next c = λ given h.
    indices_same c.args.bytes.now given c.args.self.now _ refl (no_items c.resize.new.self.items (omega (arith, c.resize.new.self.ok.0, c.in_ok-resize.ensures.len))) h

pub returns-in_err-next-in-Some-clause-next : goal.returns-in_err-next-in-Some-clause-next
returns-in_err-next-in-Some-clause-next c = λ given h.
    let w = c.in-Some.field-0-0 in
    let bs = c.in-Some.runs.now in
    let p = err_from_is_err_and c.from_residual-in_err-next-in-Some.result c.from_residual-in_err-next-in-Some.ensures.1 in
    let m : length c.deref_mut.result.now ≡ c.args.count = omega (arith, ap length c.deref_mut.ensures.value, c.resize.new.self.ok.0, c.in_ok-resize.ensures.len) in
    let r = h.runs w bs c.in-Some.ensures.some.0 c.in-Some.ensures.some.1 in
    rw (p.1, p.2) (no_indices w (length given + c.args.count) c.args.bytes.now bs PageFault.BadData (λ z. c.if-count-eq0.false (omega (arith, z))) c.in-Some.ensures.some.0
    (not_read w (length c.deref_mut.result.now) c.args.count bs given c.args.self.now.runs r m c.in_err-next-in-Some.ensures.short))

pub returns-in_ok-next-in-Some-clause-next : goal.returns-in_ok-next-in-Some-clause-next
returns-in_ok-next-in-Some-clause-next c = λ given h.
    let w = c.in-Some.field-0-0 in
    let bs = c.in-Some.runs.now in
    let v = c.resize.new.self in
    let ws = c.next.new.out in
    let l : length ws ≡ v.len = omega (arith, ap length c.deref_mut.ensures.value, c.next.auto.out, v.ok.0) in
    let r = h.runs w bs c.in-Some.ensures.some.0 c.in-Some.ensures.some.1 in
    indices_read w c.args.bytes.now bs given ws _ c.in-Some.ensures.some.0 c.in-Some.ensures.some.1 (take_at ws (drop (length ws) v.items) v.len l)
    (more_read w (length c.deref_mut.result.now) bs given ws c.args.self.now.runs c.next.new.self r c.next.auto.out c.in_ok-next-in-Some.ensures.read c.in_ok-next-in-Some.ensures.rest)
