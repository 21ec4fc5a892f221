use Rattle.std.proofs.Common.{arith, ◌∙◌, ◌+◌, ◌≤◌, ◌<◌, string_bytes}
use Rattle.dr_meaning.specs.Path.{max_repetition}
use Rattle.dr_nested.specs.PathView.{path_view}
use Rattle.dr_fsm.specs.Tables.{state_view}
use Rattle.dr_print.specs.Transitions.{lent_leaves}
use Rattle.dr_print.proofs.AutomatonLemmas.{one_level, all_levels}
use Rattle.dr_print.proofs.transitions.push_leaf.Goals as goal

pub levels-preserved : goal.levels-preserved
levels-preserved c =
    let f = path_view c.args.leaf.now in
    let m = max_repetition f.path in
    let k = c.levels.level in
    let within : k ≤ m = omega (arith, c.levels-test.true, c.max_r-level-end.ensures) in
    one_level (lent_leaves c.args.leaves.now) f c.args.place m k (state_view c.next.result) (string_bytes c.args.text.now) (string_bytes c.levels.text) (string_bytes c.push_transition.new.text)
    within (c.next.ensures.state ∙ c.requires.next c.args.place k) c.in_ok-push_transition.ensures c.levels.invariant

pub returns-in_ok-push_transition : goal.returns-in_ok-push_transition
returns-in_ok-push_transition c =
    let ls = lent_leaves c.args.leaves.now in
    let f = path_view c.args.leaf.now in
    let m = max_repetition f.path in
    let k = c.levels.level in
    let old = string_bytes c.args.text.now in
    let new = string_bytes c.push_transition.new.text in
    let within : k ≤ m = omega (arith, c.levels-test.true, c.max_r-level-end.ensures) in
    let last : m < k + 1 = omega (arith, c.max_r-level-end.ensures) in
    all_levels ls f c.args.place (k + 1) old new last
    (one_level ls f c.args.place m k (state_view c.next.result) old (string_bytes c.levels.text) new within (c.next.ensures.state ∙ c.requires.next c.args.place k) c.in_ok-push_transition.ensures c.levels.invariant)
