use Rattle.std.proofs.Common.{◌∙◌, ◌<◌, ◌+◌, [], ◌∷◌, List, Option, Some, length, subst, sym, get_or, drop}
use Rattle.std.specs.Prelude.{option_map}
use Rattle.dr_levels.specs.Views.{lent_value}
use Rattle.dr_meaning.specs.Record.{Value}
use Rattle.dr_group.specs.Maps.{tuples_view}
use Rattle.dr_columns.specs.LeafRows.{NextValue}
use Rattle.dr_columns.specs.LeafRowsView.{leaf_left}
use Rattle.dr_columns.specs.Numbers.{put_at, value_puts, tuples_at, LeavesToPut, HasPut}
use Rattle.dr_columns.proofs.NumberLemmas.{one_put, among_at, next_value_put}
use Rattle.dr_columns.proofs.LeafRowLemmas.{no_more_puts}
use Rattle.dr_columns.proofs.leaf_groups.take_leaf.Goals as goal

pub put_value-requires : goal.put_value-requires
put_value-requires c =
    let T = tuples_view c.args.groups.now in
    subst (λ (U : List (List (Option Value))). get_or c.args.numbers.now c.numbers.number-index 0 < length U) (sym c.numbers.invariant.tuples)
    (among_at (length T) c.args.numbers.now c.numbers.number-index 0 c.numbers-test.true c.requires)

pub numbers-preserved : goal.numbers-preserved
numbers-preserved c =
    let old = c.args.groups.now in
    let now = c.numbers.groups in
    let next = c.put_value.new.groups in
    let T = tuples_view old in
    let i = c.args.aggregate in
    let ns = c.args.numbers.now in
    let k = c.numbers.number-index in
    let n = get_or ns k 0 in
    let before = leaf_left c.numbers.rows in
    let after = leaf_left c.next.new.self in
    let row : NextValue before after (Some c.in-Some.value) = c.in-Some.ensures in
    let v : Option Value = option_map lent_value c.in-Some.value in
    let all = value_puts i (tuples_at T ns) (leaf_left c.args.rows) in
    record {
      put = one_put old now next all (value_puts i (tuples_at T (drop (k + 1) ns)) after) (put_at T n i v) c.numbers.invariant.gatherings
          (subst (LeavesToPut old all now) (next_value_put T i ns k 0 v after c.numbers-test.true)
          (subst (λ (vs : List (Option Value)). LeavesToPut old all now (value_puts i (tuples_at T (drop k ns)) vs)) row c.numbers.invariant.put))
          (subst (λ (U : List (List (Option Value))). HasPut now (put_at U n i v ∷ []) next) c.numbers.invariant.tuples c.in_ok-put_value.ensures.put);
      gatherings = c.put_value.ensures.gatherings ∙ c.numbers.invariant.gatherings;
      tuples = c.put_value.ensures.tuples ∙ c.numbers.invariant.tuples;
    }

pub returns-in_default-clause-put : goal.returns-in_default-clause-put
returns-in_default-clause-put c =
    let old = c.args.groups.now in
    let T = tuples_view old in
    let i = c.args.aggregate in
    let all = value_puts i (tuples_at T c.args.numbers.now) (leaf_left c.args.rows) in
    subst (LeavesToPut old all c.numbers.groups)
    (no_more_puts i (tuples_at T (drop c.numbers.number-index c.args.numbers.now)) (leaf_left c.numbers.rows) (leaf_left c.next.new.self) c.next.result c.next.ensures c.in_default.not-Some)
    c.numbers.invariant.put
