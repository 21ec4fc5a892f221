use Rattle.std.proofs.Common.{◌≡◌, ◌<◌, ◌∙◌, map, length, get_or, ap, ap₂, sym, arith, take, add-one}
use Rattle.std.proofs.lemmas.List.{length-map}
use Rattle.dr_rows_beside.specs.Rows.{Follower, follower_view, can_step, put_each, put_next, stepped, slots_view}
use Rattle.dr_rows_beside.proofs.RowLemmas.{stepped_to, stepped_all, one_stepped, not_yet, one_put, test_at}
use Rattle.dr_rows_beside.proofs.rows.follow_each.Goals as goal

pub follow-requires : goal.follow-requires
follow-requires c =
    let F = map follower_view c.args.beside.now in
    let i = c.beside.other-index in
    let x = c.other-item.result in
    let within : i < length c.beside.beside = omega (arith, c.beside-test.true, c.beside.auto.beside) in
    let long : i < length F = omega (arith, c.beside-test.true, c.beside.auto.beside, length-map c.args.beside.now follower_view) in
    let slots : length c.beside.slots ≡ length c.args.slots.now = c.beside.auto.slots in
    let e : follower_view x ≡ get_or F i (follower_view x) = not_yet c.args.repetition i F c.beside.beside x (follower_view x) within c.other-item.is c.beside.invariant.places in
    ap₂ (λ n (f : Follower). can_step c.args.repetition n f) slots (ap follower_view (sym c.other-item.is) ∙ e)
    ∙ test_at (can_step c.args.repetition (length c.args.slots.now)) F i (follower_view x) long c.requires

pub beside-preserved : goal.beside-preserved
beside-preserved c =
    let F = map follower_view c.args.beside.now in
    let r = c.args.repetition in
    let i = c.beside.other-index in
    let x = c.other-item.result in
    let within : i < length c.beside.beside = omega (arith, c.beside-test.true, c.beside.auto.beside) in
    let long : i < length F = omega (arith, c.beside-test.true, c.beside.auto.beside, length-map c.args.beside.now follower_view) in
    let e : follower_view x ≡ get_or F i (follower_view x) = not_yet r i F c.beside.beside x (follower_view x) within c.other-item.is c.beside.invariant.places in
    let same : follower_view (get_or c.beside.beside i x) ≡ follower_view x = ap follower_view (sym c.other-item.is) in
    record {
      places = one_stepped r i F c.beside.beside x c.follow.new.other within c.other-item.is c.beside.invariant.places (c.follow.ensures.place ∙ ap (stepped r) same) ∙ ap (λ k. stepped_to r k F) (sym (add-one i));
      slots =
          c.follow.ensures.slots
          ∙ ap (λ vs. put_next r (follower_view (get_or c.beside.beside i x)) vs) c.beside.invariant.slots
          ∙ ap (λ (f : Follower). put_next r f (put_each r (take i F) (slots_view c.args.slots.now))) (same ∙ e)
          ∙ sym (one_put r i F (slots_view c.args.slots.now) (follower_view x) long)
          ∙ ap (λ k. put_each r (take k F) (slots_view c.args.slots.now)) (sym (add-one i));
    }

pub returns-clause-places : goal.returns-clause-places
returns-clause-places c =
    let F = map follower_view c.args.beside.now in
    let e : c.beside.other-index ≡ length F = omega (arith, c.beside-test.false, c.beside.auto.beside, c.beside.auto.other-index-end, length-map c.args.beside.now follower_view) in
    c.beside.invariant.places ∙ ap (λ k. stepped_to c.args.repetition k F) e ∙ stepped_all c.args.repetition F
