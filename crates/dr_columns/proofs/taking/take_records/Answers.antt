use Rattle.std.proofs.Common.{◌∙◌, ◌+◌, List, Option, length, drop, ap, sym, subst, true≢false, arith}
use Rattle.std.specs.List.{slice_get, flat_map}
use Rattle.dr_meaning.specs.Record.{Value}
use Rattle.dr_group.specs.Maps.{tuples_view}
use Rattle.std.proofs.lemmas.Bool.{eq-eqb}
use Rattle.dr_columns.specs.Numbers.{LeavesToPut}
use Rattle.dr_columns.specs.Takings.{takings_view, taking_view, record_puts, end_puts}
use Rattle.dr_columns.proofs.NumberLemmas.{list_put}
use Rattle.dr_columns.proofs.TakingLemmas.{end_begun, next_taking, takings_done}
use Rattle.dr_columns.proofs.taking.take_records.Goals as goal

pub takings-init : goal.takings-init
takings-init c = record {
  put = end_begun c.args.groups.now c.group_of.new.self c.args.records c.args.takings.now
      (λ e. true≢false (sym (eq-eqb (length c.args.takings.now) 0 e) ∙ sym c.is_empty.ensures ∙ c.if-is_empty.false)) c.in_ok-group_of.ensures.groups;
  gatherings = c.group_of.ensures.gatherings;
  group = ap (slice_get (tuples_view c.group_of.new.self)) c.in_ok-group.ensures ∙ c.in_ok-group_of.ensures.found;
}

pub takings-preserved : goal.takings-preserved
takings-preserved c =
    let old = c.args.groups.now in
    let ts = c.args.takings.now in
    let i = c.takings.taking-index in
    let n = c.args.records in
    record {
      put = list_put old c.takings.groups c.take_record_values.new.groups (end_puts n (takings_view ts)) (record_puts n (taking_view c.taking-item.result)) (flat_map (record_puts n) (takings_view (drop (i + 1) ts)))
          c.takings.invariant.gatherings (subst (LeavesToPut old (end_puts n (takings_view ts)) c.takings.groups) (next_taking (record_puts n) ts i c.taking-item.result c.takings-test.true c.taking-item.is) c.takings.invariant.put)
          c.in_ok-take_record_values.ensures.put;
      gatherings = c.take_record_values.ensures.gatherings ∙ c.takings.invariant.gatherings;
      group = ap (λ (T : List (List (Option Value))). slice_get T c.in_ok-group.group) c.take_record_values.ensures.tuples ∙ c.takings.invariant.group;
    }

pub returns-clause-put : goal.returns-clause-put
returns-clause-put c =
    let old = c.args.groups.now in
    let n = c.args.records in
    subst (LeavesToPut old (end_puts n (takings_view c.args.takings.now)) c.takings.groups) (takings_done (record_puts n) c.args.takings.now c.takings.taking-index (omega (arith, c.takings-test.false))) c.takings.invariant.put
