use Rattle.std.proofs.Common.{◌≡◌, ◌+◌, ◌∙◌, ◌++◌, List, ℕ, true, false, Some, length, take, drop, refl, sym, ap, subst, arith}
use Rattle.std.specs.Prelude.{nat_le}
use Rattle.std.specs.List.{list_all}
use Rattle.std.proofs.lemmas.List.{length-append, take_at}
use Rattle.dr_formats.specs.Hybrid.{hybrid}
use Rattle.dr_formats.specs.Page.{level_width, levels}
use Rattle.dr_page.specs.RunReading.{HasRead}
use Rattle.std.proofs.lemmas.Result.{err_from_is_err_and}
use Rattle.dr_page.specs.declared.fault.PageFault.{PageFault}
use Rattle.dr_page.proofs.LevelLemmas.{no_runs}
use Rattle.dr_page.proofs.RunSteps.{more_read, not_read}
use Rattle.dr_page.proofs.CursorLemmas.{levels_behind, zeros_behind}
use Rattle.dr_page.proofs.level_cursor.LevelCursor.next.Goals as goal

pub returns-then-self-eq0-clause-next : goal.returns-then-self-eq0-clause-next
returns-then-self-eq0-clause-next c = λ given h. record {
  taken = zeros_behind c.args.self.now.greatest c.args.count c.args.part.now given c.put_zeros.new.levels.items c.if-self-eq0.true c.in_ok-put_zeros.ensures h.taken;
  runs = λ z. absurd (z c.if-self-eq0.true);
}

pub returns-in_err-next-clause-next : goal.returns-in_err-next-clause-next
returns-in_err-next-clause-next c = λ given h.
    let g = c.args.self.now.greatest in
    let part = c.args.part.now in
    let v = c.resize.new.self in
    let p = err_from_is_err_and c.from_residual-in_err-next.result c.from_residual-in_err-next.ensures.1 in
    let m : length c.deref_mut.result.now ≡ c.args.count = omega (arith, ap length c.deref_mut.ensures.value, v.ok.0, c.in_ok-resize.ensures.len) in
    rw (p.1, p.2) (no_runs g (length given + c.args.count) (level_width g) part PageFault.BadData c.if-self-eq0.false refl
    (not_read (level_width g) (length c.deref_mut.result.now) c.args.count part given c.args.self.now.runs (h.runs c.if-self-eq0.false) m c.in_err-next.ensures.short))

pub returns-then-none_above-clause-next : goal.returns-then-none_above-clause-next
returns-then-none_above-clause-next c =
    let g = c.args.self.now.greatest in
    let part = c.args.part.now in
    let v = c.resize.new.self in
    let ws = c.next.new.out in
    let l : length ws ≡ v.len = omega (arith, ap length c.deref_mut.ensures.value, c.next.auto.out, v.ok.0) in
    let same : take v.len (ws ++ drop (length ws) v.items) ≡ ws = take_at ws (drop (length ws) v.items) v.len l in
    let all : list_all (λ k. nat_le k g) ws ≡ true = ap (list_all (λ k. nat_le k g)) (sym (c.deref.ensures.value ∙ same)) ∙ sym c.if-none_above.ensures in
    λ given h.
    let r = more_read (level_width g) (length c.deref_mut.result.now) part given ws c.args.self.now.runs c.next.new.self (h.runs c.if-self-eq0.false) c.next.auto.out c.in_ok-next.ensures.read c.in_ok-next.ensures.rest in
    let t = levels_behind g (length (given ++ ws)) part given ws true c.if-self-eq0.false h.taken r.front all in
    record {
      taken = subst (λ (xs : List ℕ). levels g (length (given ++ xs)) part ≡ Some (given ++ xs)) (sym same) t;
      runs = λ z. subst (λ (xs : List ℕ). HasRead (level_width g) part (given ++ xs) c.next.new.self) (sym same) r;
    }

pub returns-else-none_above-clause-next : goal.returns-else-none_above-clause-next
returns-else-none_above-clause-next c =
    let g = c.args.self.now.greatest in
    let part = c.args.part.now in
    let v = c.resize.new.self in
    let ws = c.next.new.out in
    let l : length ws ≡ v.len = omega (arith, ap length c.deref_mut.ensures.value, c.next.auto.out, v.ok.0) in
    let m : length ws ≡ c.args.count = omega (arith, l, v.ok.0, c.in_ok-resize.ensures.len) in
    let same : take v.len (ws ++ drop (length ws) v.items) ≡ ws = take_at ws (drop (length ws) v.items) v.len l in
    let all : list_all (λ k. nat_le k g) ws ≡ false = ap (list_all (λ k. nat_le k g)) (sym (c.deref.ensures.value ∙ same)) ∙ sym c.if-none_above.ensures in
    λ given h.
    let r = more_read (level_width g) (length c.deref_mut.result.now) part given ws c.args.self.now.runs c.next.new.self (h.runs c.if-self-eq0.false) c.next.auto.out c.in_ok-next.ensures.read c.in_ok-next.ensures.rest in
    let n : length given + c.args.count ≡ length (given ++ ws) = omega (arith, length-append given ws, m) in
    levels_behind g (length given + c.args.count) part given ws false c.if-self-eq0.false h.taken (ap (λ k. hybrid (level_width g) k part) n ∙ r.front) all
