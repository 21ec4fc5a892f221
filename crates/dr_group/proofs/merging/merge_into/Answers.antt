use Rattle.std.proofs.Common.{◌≡◌, ◌++◌, ◌+◌, ◌^◌, ◌∙◌, ap₂, sym, length, map, List, arith, vec_len}
use Rattle.dr_partials.specs.Partials as meant
use Rattle.dr_partials.specs.Partials.{merge_groups}
use Rattle.dr_group.specs.Groups.{group_view, picked}
use Rattle.dr_group.specs.Turns.{turn_of}
use Rattle.dr_group.specs.declared.group.Group.{Group}
use Rattle.dr_group.specs.declared.turn.Turn.{Turn}
use Rattle.dr_group.proofs.TurnLemmas.{mine_moved, theirs_moved, both_moved, some_mine, some_theirs, some_both, front_left, room_mine, room_theirs, room_both}
use Rattle.dr_group.proofs.merging.merge_into.Goals as goal

pub turns-preserved-in-Mine : goal.turns-preserved-in-Mine
turns-preserved-in-Mine c =
    let mine = c.turns.mine.items in
    let my = c.turns.my_rest.now in
    let theirs = c.turns.theirs.items in
    let their = c.turns.their_rest.now in
    let whole : List meant.Group = map group_view c.args.merged.now.items ++ merge_groups (picked c.args.mine.now.items c.args.my_order.now) (picked c.args.theirs.now.items c.args.their_order.now) in
    let t : turn_of (picked mine my) (picked theirs their) ≡ Turn.Mine =
    ap₂ (λ (gs hs : List Group). turn_of (picked gs my) (picked hs their)) (sym c.deref.ensures.value) (sym c.deref-in-turns.ensures.value) ∙ sym c.next_turn.ensures ∙ c.in-Mine.is in
    let total = vec_len c.args.merged.now + length c.args.my_order.now + length c.args.their_order.now in (
      mine_moved (2 ^ 60) mine c.move_first.new.from.items my _ theirs their c.turns.merged.items c.move_first.new.merged.items whole t (front_left my) c.move_first.ensures.merged c.move_first.ensures.left
          c.move_first.ensures.length c.turns.invariant.0,
      room_mine my _ (vec_len c.turns.merged) (vec_len c.move_first.new.merged) (length their) total (front_left my) (some_mine mine my (picked theirs their) t) c.move_first.ensures.len c.turns.invariant.1,
      omega (arith, c.turns.invariant.2, c.move_first.ensures.capacity),
    )

pub turns-preserved-in-Theirs : goal.turns-preserved-in-Theirs
turns-preserved-in-Theirs c =
    let mine = c.turns.mine.items in
    let my = c.turns.my_rest.now in
    let theirs = c.turns.theirs.items in
    let their = c.turns.their_rest.now in
    let whole : List meant.Group = map group_view c.args.merged.now.items ++ merge_groups (picked c.args.mine.now.items c.args.my_order.now) (picked c.args.theirs.now.items c.args.their_order.now) in
    let t : turn_of (picked mine my) (picked theirs their) ≡ Turn.Theirs =
    ap₂ (λ (gs hs : List Group). turn_of (picked gs my) (picked hs their)) (sym c.deref.ensures.value) (sym c.deref-in-turns.ensures.value) ∙ sym c.next_turn.ensures ∙ c.in-Theirs.is in
    let total = vec_len c.args.merged.now + length c.args.my_order.now + length c.args.their_order.now in
    let moved = c.move_first-in-Theirs in (
      theirs_moved (2 ^ 60) mine my theirs moved.new.from.items their _ c.turns.merged.items moved.new.merged.items whole t (front_left their) moved.ensures.merged moved.ensures.left moved.ensures.length c.turns.invariant.0,
      room_theirs their _ (vec_len c.turns.merged) (vec_len moved.new.merged) (length my) total (front_left their) (some_theirs (picked mine my) theirs their t) moved.ensures.len c.turns.invariant.1,
      omega (arith, c.turns.invariant.2, moved.ensures.capacity),
    )

pub turns-preserved : goal.turns-preserved
turns-preserved c =
    let mine = c.turns.mine.items in
    let my = c.turns.my_rest.now in
    let theirs = c.turns.theirs.items in
    let their = c.turns.their_rest.now in
    let whole : List meant.Group = map group_view c.args.merged.now.items ++ merge_groups (picked c.args.mine.now.items c.args.my_order.now) (picked c.args.theirs.now.items c.args.their_order.now) in
    let t : turn_of (picked mine my) (picked theirs their) ≡ Turn.Both =
    ap₂ (λ (gs hs : List Group). turn_of (picked gs my) (picked hs their)) (sym c.deref.ensures.value) (sym c.deref-in-turns.ensures.value) ∙ sym c.next_turn.ensures ∙ c.in-Both.is in
    let total = vec_len c.args.merged.now + length c.args.my_order.now + length c.args.their_order.now in
    let some = some_both mine my theirs their t in
    let moved = c.move_joined in (
      both_moved (2 ^ 60) mine moved.new.mine.items my _ theirs moved.new.theirs.items their _ c.turns.merged.items moved.new.merged.items whole t (front_left my) (front_left their) moved.ensures.merged moved.ensures.mine
          moved.ensures.theirs moved.ensures.my_length moved.ensures.their_length c.turns.invariant.0,
      room_both my _ their _ (vec_len c.turns.merged) (vec_len moved.new.merged) total (front_left my) (front_left their) some.0 some.1 moved.ensures.len c.turns.invariant.1,
      omega (arith, c.turns.invariant.2, moved.ensures.capacity),
    )
