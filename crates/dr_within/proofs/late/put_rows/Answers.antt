use Rattle.std.proofs.Common.{◌≡◌, ◌≤◌, ◌∙◌, ◌+◌, ◌*◌, ◌-◌, ◌^◌, ◌++◌, refl, ap, ap₂, sym, ℕ, List, Option, None, length, get_or, map, take, drop, arith}
use Rattle.std.proofs.lemmas.List.{length-map, drop_all}
use Rattle.dr_meaning.specs.Record.{Value}
use Rattle.dr_cells.specs.Held.{cell_view}
use Rattle.dr_cells.specs.Views.{cells_view}
use Rattle.dr_partials.specs.Putting.{Put, Taken, put, put_all}
use Rattle.dr_plan.specs.Planned.{planned_query}
use Rattle.dr_group.specs.Partials.{partial_view}
use Rattle.dr_group.specs.Views.{lent_cell}
use Rattle.dr_levels.specs.declared.triplet.ValueRef.{ValueRef}
use Rattle.dr_within.specs.Late.{cell_value, cell_values, taken_for, puts_view}
use Rattle.dr_within.proofs.LateLemmas.{puts_next, drop_within}
use Rattle.dr_within.proofs.late.put_rows.Goals as goal

pub rows-preserved : goal.rows-preserved
rows-preserved c =
    let n = c.args.width in
    let i = c.rows.number in
    let cells = c.args.cells.now in
    let K = cells_view cells in
    let V = cells_view c.args.taken.now in
    let os = c.args.aggregates.now in
    let before = partial_view c.rows.partial in
    let few : length (cell_values K) ≤ 2 ^ 64 - 1 =
    omega (arith, length-map K cell_value, length-map cells.cells.items (cell_view cells.bytes.items), cells.cells.ok.0, cells.cells.small) in
    let start : drop c.saturating_mul.result (cell_values K) ≡ drop (i * n) (cell_values K) =
    ap (λ (k : ℕ). drop k (cell_values K)) c.saturating_mul.ensures ∙ drop_within (i * n) (2 ^ 64 - 1) (cell_values K) few in
    let keys = ap (map lent_cell) c.deref.ensures.value ∙ (c.in_ok-lend_key.ensures ∙ (ap (λ (xs : List (Option ValueRef)). map lent_cell xs ++ take n (drop c.saturating_mul.result (cell_values K))) c.clear.ensures.items ∙ ap (take n) start)) in
    record {
      of_plan = λ p h. c.put.ensures.of_plan p (c.rows.invariant.of_plan p h);
      puts = λ p h.
          ap (put_all (planned_query p) (puts_view n (drop ((i + 1) * n) K) (drop (i + 1) os) (drop (i + 1) V)))
          (c.in_ok-put.ensures.partial p (c.rows.invariant.of_plan p h)
          ∙ ap₂ (λ (ks : List (Option Value)) (t : Option Taken). put (planned_query p) (record { keys = ks; taken = t }) before)
          keys (c.taken_for.ensures ∙ ap (taken_for (get_or os i None)) c.in_ok-value.ensures))
          ∙ (ap (λ (ps : List Put). put_all (planned_query p) ps before)
          (sym (puts_next n i K os V (get_or os i None) None c.rows-test.true refl))
          ∙ c.rows.invariant.puts p h);
    }

pub returns-in_err-put-clause-of_plan : goal.returns-in_err-put-clause-of_plan
returns-in_err-put-clause-of_plan c = λ p h. c.put.ensures.of_plan p (c.rows.invariant.of_plan p h)

pub returns-clause-puts : goal.returns-clause-puts
returns-clause-puts c = λ p h.
    let n = c.args.width in
    let i = c.rows.number in
    sym (ap (λ (os : List (Option ℕ)). put_all (planned_query p) (puts_view n (drop (i * n) (cells_view c.args.cells.now)) os (drop i (cells_view c.args.taken.now))) (partial_view c.rows.partial))
    (drop_all i c.args.aggregates.now (omega (arith, c.rows-test.false))))
    ∙ c.rows.invariant.puts p h
