use Rattle.std.proofs.Common.{arith, ap, ◌∙◌, ◌≤◌, ◌+◌, List, length, map}
use Rattle.std.proofs.lemmas.List.{length-map, length_push}
use Rattle.dr_meaning.specs.Path.{Step}
use Rattle.dr_fsm.specs.Tables.{lent_leaf}
use Rattle.dr_fsm.proofs.RowLemmas.{row_ends, next_row, table_ends}
use Rattle.dr_fsm.proofs.table.rows_of.Goals as goal

pub rows-preserved : goal.rows-preserved
rows-preserved c =
    let ls = c.args.leaves.now in
    let order : List (List Step) = map lent_leaf ls in
    let k = c.rows.place in
    let r = c.in_ok-row_of.field-0 in
    let end : length order ≤ length ls = omega (arith, length-map ls lent_leaf) in
    record {
      count = ap length c.in_ok-push.ensures.items ∙ length_push c.rows.rows.items r ∙ ap (λ n. n + 1) c.rows.invariant.count;
      exact = next_row order c.rows.rows.items c.push.new.self.items r k c.rows.invariant.count c.in_ok-push.ensures.items c.rows.invariant.exact (row_ends order k (length ls) r.items end c.in_ok-row_of.ensures);
    }

pub returns : goal.returns
returns c =
    let ls = c.args.leaves.now in
    let order : List (List Step) = map lent_leaf ls in
    let end : length order ≤ c.rows.place = omega (arith, length-map ls lent_leaf) in
    table_ends order c.rows.rows.items c.rows.place c.rows.invariant.count end c.rows.invariant.exact
