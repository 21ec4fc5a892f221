use Rattle.std.proofs.Common.{◌≡◌, ◌∙◌, List, map, ap}
use Rattle.std.specs.List.{flat_map}
use Rattle.std.proofs.lemmas.Result.{IfOk-weaker}
use Rattle.dr_levels.specs.Views.{triplets_view}
use Rattle.dr_group.specs.Maps.{tuples_view}
use Rattle.dr_rows_beside.specs.Rows.{Row, picked}
use Rattle.dr_columns.specs.Numbers.{tuples_at}
use Rattle.dr_columns.specs.RowPuts.{keys_in, groups_in}
use Rattle.dr_columns.specs.Takings.{fired_view, fired_rows, takings_view, taking_puts}
use Rattle.dr_columns.proofs.NumberLemmas.{more_put}
use Rattle.dr_columns.proofs.kept_sourcing.take_kept_source.Goals as goal

pub returns-clause-put : goal.returns-clause-put
returns-clause-put c =
    let rs : List Row = picked c.args.bits.now (fired_rows (map triplets_view c.args.columns.now) (fired_view c.args.fired.now)) in
    let ks = c.args.keys.now in
    let old = c.args.groups.now in
    let mid = c.number_kept.new.groups in
    let new = c.take_kept_each.new.groups in
    let numbers : tuples_at (tuples_view mid) c.deref.result.now ≡ map (keys_in ks) rs = ap (tuples_at (tuples_view mid)) c.deref.ensures.value ∙ c.in_ok-number_kept.ensures.numbers in
    IfOk-weaker c.take_kept_each.result _ _ (λ done h. more_put old mid new (groups_in ks rs) (flat_map (taking_puts ks rs) (takings_view c.args.fired.now.takings.items)) c.number_kept.ensures.gatherings c.in_ok-number_kept.ensures.put
    (h ks numbers)) c.take_kept_each.ensures.put
