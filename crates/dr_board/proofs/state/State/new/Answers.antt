use Rattle.std.proofs.Common.{rules, arith, ◌≡◌, ◌≤◌, ℕ, List, length, map, Vec, Global, sym, ap, ◌∙◌}
use Rattle.dr_dispatch.specs.Job.{pairs, pairs_of}
use Rattle.dr_board.specs.Shown.{first_state}
use Rattle.dr_board.specs.Tablets.{new_tablet}
use Rattle.dr_board.proofs.StateLemmas.{first_state_keeps, first_state_is}
use Rattle.dr_board.proofs.state.State.new.Goals as goal

abbrev rows_of : List (Vec ℕ Global) → List (List ℕ)
rows_of leaves = map (λ (v : Vec ℕ Global). v.items) leaves

pub invariant_of-result : goal.invariant_of-result
invariant_of-result c =
    let rows = rows_of c.job.inside.leaves.items in
    let pairs_is : c.in_ok-most_events.field-0 ≡ pairs_of rows = c.in_ok-most_events.ensures.count ∙ sym (ap pairs c.job.view_is) in
    let small : length rows ≤ 4294967296 = search rules in
    let tablets : c.in_ok-tablets.tablets.items ≡ map new_tablet rows = search rules in
    first_state_keeps c.job.inside.lag rows c.in_ok-history.history.items c.in_ok-tablets.tablets.items _ c.in_ok-history.ensures.items tablets
    (omega (arith, pairs_is, c.in_ok-history.ensures.capacity)) (omega (arith, pairs_is, c.in_ok-most_events.ensures.bound)) small

pub returns : goal.returns
returns c =
    let rows = rows_of c.job.inside.leaves.items in
    let tablets : c.in_ok-tablets.tablets.items ≡ map new_tablet rows = search rules in
    first_state_is c.job.inside.lag rows c.in_ok-history.history.items c.in_ok-tablets.tablets.items c.in_ok-history.ensures.items tablets ∙ ap first_state c.job.view_is
