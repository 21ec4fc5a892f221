use Rattle.std.proofs.Common.{◌∙◌, ◌<◌, ◌+◌, [], ◌∷◌, List, Option, None, length, subst, sym, get_or, drop}
use Rattle.dr_meaning.specs.Record.{Value}
use Rattle.dr_group.specs.Maps.{tuples_view}
use Rattle.dr_columns.specs.Numbers.{put_at, row_puts, tuples_at, LeavesToPut, HasPut}
use Rattle.dr_columns.proofs.NumberLemmas.{one_put, among_at, next_row_put}
use Rattle.dr_columns.proofs.taking.take_rows.Goals as goal

pub put_value-requires : goal.put_value-requires
put_value-requires c =
    let T = tuples_view c.args.groups.now in
    subst (λ (U : List (List (Option Value))). get_or c.args.numbers.now c.numbers.number-index 0 < length U) (sym c.numbers.invariant.tuples)
    (among_at (length T) c.args.numbers.now c.numbers.number-index 0 c.numbers-test.true c.requires)

pub numbers-preserved : goal.numbers-preserved
numbers-preserved c =
    let old = c.args.groups.now in
    let now = c.numbers.groups in
    let next = c.put_value.new.groups in
    let T = tuples_view old in
    let i = c.args.aggregate in
    let ns = c.args.numbers.now in
    let k = c.numbers.number-index in
    let n = get_or ns k 0 in
    let all = row_puts i (tuples_at T ns) in
    record {
      put = one_put old now next all (row_puts i (tuples_at T (drop (k + 1) ns))) (put_at T n i None) c.numbers.invariant.gatherings
          (subst (LeavesToPut old all now) (next_row_put T i ns k 0 c.numbers-test.true) c.numbers.invariant.put)
          (subst (λ (U : List (List (Option Value))). HasPut now (put_at U n i None ∷ []) next) c.numbers.invariant.tuples c.in_ok-put_value.ensures.put);
      gatherings = c.put_value.ensures.gatherings ∙ c.numbers.invariant.gatherings;
      tuples = c.put_value.ensures.tuples ∙ c.numbers.invariant.tuples;
    }
