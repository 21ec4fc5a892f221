use Rattle.std.proofs.Common.{◌≡◌, ℕ, Some, None, Ok, Err, sym, ap, subst, ◌∙◌}
use Rattle.std.specs.Prelude.{option_map, is_some}
use Rattle.dr_levels.specs.Views.{triplet_view}
use Rattle.dr_walk.specs.Checking.{rest_at, rest_behind, next_at}
use Rattle.dr_walk.proofs.CheckingLemmas.{comes_on, goes_on, ok_on, gave_where, none_where, fails_with}
use Rattle.dr_walk.proofs.checking.step_on.Goals as goal

pub returns-in-Ok-Some : goal.returns-in-Ok-Some
returns-in-Ok-Some c = λ fs F C rows p d on.
    let ms = on.0 in
    let old = c.args.walk.now in
    let rests = c.args.rests.now in
    let more = c.take_next-more.result in
    let n : option_map triplet_view more ≡ next_at old.levels.wanted (rest_at rests) = subst (λ o. option_map triplet_view more ≡ next_at o (rest_at rests)) c.wants.ensures c.take_next-more.ensures.next in
    let r : (i : ℕ) → rest_at c.take_next-more.new.rests i ≡ rest_behind old.levels.wanted i (rest_at rests i) = subst (λ o. (i : ℕ) → rest_at c.take_next-more.new.rests i ≡ rest_behind o i (rest_at rests i)) c.wants.ensures c.take_next-more.ensures.rests in
    let comes = comes_on fs F C rows ms old rests more on.1 n in
    let is = c.in-Ok-Some.is ∙ ap Ok c.in-Ok-Some.field-0-is in
    let at = ok_on _ c.next.result (Some c.in-Ok-Some.field-0-0) is (c.next.ensures.on F fs rows C ms on.1.left on.1.at comes) in
    let w = ok_on _ c.next.result (Some c.in-Ok-Some.field-0-0) is (c.next.ensures.wants F fs rows C ms on.1.left on.1.at comes) in
    gave_where fs F C rows _ c.next.new.self c.take_next-more.new.rests
    (goes_on fs F C rows ms old c.next.new.self rests c.take_next-more.new.rests (Some c.in-Ok-Some.field-0-0) on.1 r at w)

pub returns-in-Ok-None : goal.returns-in-Ok-None
returns-in-Ok-None c = λ fs F C rows p d on.
    let ms = on.0 in
    let old = c.args.walk.now in
    let rests = c.args.rests.now in
    let more = c.take_next-more.result in
    let n : option_map triplet_view more ≡ next_at old.levels.wanted (rest_at rests) = subst (λ o. option_map triplet_view more ≡ next_at o (rest_at rests)) c.wants.ensures c.take_next-more.ensures.next in
    let r : (i : ℕ) → rest_at c.take_next-more.new.rests i ≡ rest_behind old.levels.wanted i (rest_at rests i) = subst (λ o. (i : ℕ) → rest_at c.take_next-more.new.rests i ≡ rest_behind o i (rest_at rests i)) c.wants.ensures c.take_next-more.ensures.rests in
    let comes = comes_on fs F C rows ms old rests more on.1 n in
    let is = c.in-Ok-None.is ∙ ap Ok c.in-Ok-None.field-0-is in
    let at = ok_on _ c.next.result None is (c.next.ensures.on F fs rows C ms on.1.left on.1.at comes) in
    let w = ok_on _ c.next.result None is (c.next.ensures.wants F fs rows C ms on.1.left on.1.at comes) in
    none_where fs F C rows _ c.next.new.self c.take_next-more.new.rests c.is_none.result (sym c.is_none.ensures ∙ ap is_some c.wants-in-Ok-None.ensures)
    (goes_on fs F C rows ms old c.next.new.self rests c.take_next-more.new.rests None on.1 r at w)
    (λ z. let x = c.next.ensures.whole F fs rows C ms on.1.left on.1.at comes p d is z in (x.0, x.1))

pub returns-in-Err : goal.returns-in-Err
returns-in-Err c = λ fs F C rows p d on.
    let ms = on.0 in
    let old = c.args.walk.now in
    let rests = c.args.rests.now in
    let more = c.take_next-more.result in
    let n : option_map triplet_view more ≡ next_at old.levels.wanted (rest_at rests) = subst (λ o. option_map triplet_view more ≡ next_at o (rest_at rests)) c.wants.ensures c.take_next-more.ensures.next in
    let comes = comes_on fs F C rows ms old rests more on.1 n in
    fails_with fs F C rows c.next.new.self c.take_next-more.new.rests c.in-Err.fault (λ e. c.next.ensures.bad F fs rows C ms on.1.left on.1.at comes p (c.in-Err.is ∙ ap Err e))
