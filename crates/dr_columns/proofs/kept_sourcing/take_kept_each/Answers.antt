use Rattle.std.proofs.Common.{◌≡◌, ◌∙◌, ◌+◌, ◌<◌, ◌≤◌, ℕ, List, Option, length, map, drop, get_or, ap, subst, arith}
use Rattle.std.specs.List.{flat_map}
use Rattle.dr_meaning.specs.Record.{Value}
use Rattle.dr_levels.specs.Views.{triplets_view}
use Rattle.dr_rows_beside.specs.Rows.{Row, picked}
use Rattle.dr_columns.specs.declared.taking.Taking.{Taking}
use Rattle.dr_columns.specs.Numbers.{tuples_at, LeavesToPut}
use Rattle.dr_columns.specs.Takings.{taking_view, takings_view, fired_view, fired_rows, taking_puts}
use Rattle.dr_columns.proofs.NumberLemmas.{list_put}
use Rattle.dr_columns.proofs.TakingLemmas.{next_taking, takings_done}
use Rattle.dr_columns.proofs.kept_sourcing.take_kept_each.Goals as goal

pub takings-preserved : goal.takings-preserved
takings-preserved c =
    let old = c.args.groups.now in
    let now = c.takings.groups in
    let next = c.take_kept_one.new.groups in
    let ts : List Taking = c.args.fired.now.takings.items in
    let i = c.takings.taking-index in
    let x = c.taking-item.result in
    let e : c.deref-taking-items.result.now ≡ ts = c.deref-taking-items.ensures.value in
    let there : i < length ts = subst (λ (us : List Taking). i < length us) e c.takings-test.true in
    let item : x ≡ get_or ts i x = c.taking-item.is ∙ ap (λ (us : List Taking). get_or us i x) e in
    let rs : List Row = picked c.args.bits.now (fired_rows (map triplets_view c.args.columns.now) (fired_view c.args.fired.now)) in
    record {
      put = λ ks h. list_put old now next (flat_map (taking_puts ks rs) (takings_view ts)) (taking_puts ks rs (taking_view x)) (flat_map (taking_puts ks rs) (takings_view (drop (i + 1) ts)))
          c.takings.invariant.gatherings
          (subst (LeavesToPut old (flat_map (taking_puts ks rs) (takings_view ts)) now) (next_taking (taking_puts ks rs) ts i x there item) (c.takings.invariant.put ks h))
          (c.in_ok-take_kept_one.ensures.put ks (ap (λ (T : List (List (Option Value))). tuples_at T c.args.numbers.now) c.takings.invariant.tuples ∙ h));
      gatherings = c.take_kept_one.ensures.gatherings ∙ c.takings.invariant.gatherings;
      tuples = c.take_kept_one.ensures.tuples ∙ c.takings.invariant.tuples;
    }

pub returns-clause-put : goal.returns-clause-put
returns-clause-put c =
    let ts : List Taking = c.args.fired.now.takings.items in
    let e : c.deref-taking-items.result.now ≡ ts = c.deref-taking-items.ensures.value in
    let past : length ts ≤ c.takings.taking-index = omega (arith, c.takings-test.false, ap (λ (us : List Taking). length us) e) in
    let rs : List Row = picked c.args.bits.now (fired_rows (map triplets_view c.args.columns.now) (fired_view c.args.fired.now)) in
    λ ks h. subst (LeavesToPut c.args.groups.now (flat_map (taking_puts ks rs) (takings_view ts)) c.takings.groups) (takings_done (taking_puts ks rs) ts c.takings.taking-index past) (c.takings.invariant.put ks h)
