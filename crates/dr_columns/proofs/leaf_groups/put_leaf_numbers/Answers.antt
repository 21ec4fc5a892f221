use Rattle.std.proofs.Common.{◌≡◌, ◌∙◌, ◌++◌, [], ◌∷◌, List, Option, Some, None, subst}
use Rattle.std.specs.List.{slice_get}
use Rattle.std.specs.Prelude.{option_map}
use Rattle.dr_levels.specs.Views.{lent_value}
use Rattle.dr_meaning.specs.Record.{Value}
use Rattle.dr_group.specs.Groups.{put_of}
use Rattle.dr_group.specs.Maps.{tuples_view}
use Rattle.dr_columns.specs.LeafRows.{NextValue, cell_tuples, cell_groups}
use Rattle.dr_columns.specs.LeafRowsView.{leaf_left}
use Rattle.dr_columns.specs.Numbers.{tuples_at, LeavesToPut, HasPut}
use Rattle.dr_columns.proofs.NumberLemmas.{one_put, numbered, one_among}
use Rattle.dr_columns.proofs.leaf_groups.put_leaf_numbers.Goals as goal

pub rows-preserved : goal.rows-preserved
rows-preserved c =
    let old = c.args.groups.now in
    let now = c.rows.groups in
    let next = c.number_of_cell.new.groups in
    let before = leaf_left c.rows.rows in
    let after = leaf_left c.next.new.self in
    let n : NextValue before after (Some c.in-Some.value) = c.in-Some.ensures in
    let v : Option Value = option_map lent_value c.in-Some.value in
    let t : List (Option Value) = v ∷ [] in
    let whole = cell_tuples (leaf_left c.args.rows) in
    let all = cell_groups (leaf_left c.args.rows) in
    let put : HasPut now (put_of t None ∷ []) next = c.in_ok-number_of_cell.ensures.put in
    let found : slice_get (tuples_view next) c.in_ok-number_of_cell.field-0 ≡ Some t = c.in_ok-number_of_cell.ensures.found in
    record {
      put = one_put old now next all (cell_groups after) (put_of t None) c.rows.invariant.gatherings (subst (λ (vs : List (Option Value)). LeavesToPut old all now (cell_groups vs)) n c.rows.invariant.put) put;
      gatherings = c.number_of_cell.ensures.gatherings ∙ c.rows.invariant.gatherings;
      numbers = numbered (tuples_view now) (tuples_view next) c.rows.out.items c.push.new.self.items c.in_ok-number_of_cell.field-0 t (cell_tuples after) whole c.in_ok-number_of_cell.ensures.stay c.rows.invariant.among found c.in_ok-push.ensures.items
          (subst (λ (vs : List (Option Value)). tuples_at (tuples_view now) c.rows.out.items ++ cell_tuples vs ≡ whole) n c.rows.invariant.numbers);
      among = one_among (tuples_view now) (tuples_view next) c.rows.out.items c.push.new.self.items c.in_ok-number_of_cell.field-0 t c.in_ok-number_of_cell.ensures.stay c.rows.invariant.among found c.in_ok-push.ensures.items;
      null = c.in_ok-number_of_cell.ensures.kept;
    }
