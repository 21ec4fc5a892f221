use Rattle.std.proofs.Common.{◌≡◌, ◌∙◌, List, [], None, length, true, false, sym, ap, ap₂, rules, arith}
use Rattle.std.proofs.lemmas.Bool.Decides.{nat_tests}
use Rattle.std.specs.List.{list_all}
use Rattle.dr_moves.specs.Context.{Context}
use Rattle.dr_group.specs.Partials.{partial_view}
use Rattle.dr_plan.specs.declared.expression.Truth.{Truth}
use Rattle.dr_scalar.specs.OverSlots.{tests_over}
use Rattle.dr_within.proofs.BehindLemmas.{nothing_in}
use Rattle.dr_scan.specs.RowCounts.{counts_rows}
use Rattle.dr_scan.proofs.RowLemmas.{rows_counted, rows_dropped}
use Rattle.dr_scan.proofs.rows.partial_of_rows.Goals as goal

pub returns-then-not-branch-clause-partial : goal.returns-then-not-branch-clause-partial
returns-then-not-branch-clause-partial c = λ s h.
    let p = c.args.plan.now in
    let l : length p.leaves.items ≡ 0 = let e = c.is_empty.ensures in let t = c.if-not-is_empty.false in first_of (search rules, grind (arith, nat_tests)) in
    let fails : tests_over (λ i. None) p.test.items ≡ false =
    ap₂ (λ (d : Context) (ts : List Truth). tests_over d ts) (nothing_in 0) (sym c.deref.ensures.value) ∙ (sym c.in_ok-passes.ensures.slots ∙ c.if-not-branch.true) in
    rows_dropped s p [] c.args.rows (partial_view c.in_ok-empty.field-0) h (sym l) l fails c.in_ok-empty.ensures.partial

pub returns-then-all_count_rows-clause-partial : goal.returns-then-all_count_rows-clause-partial
returns-then-all_count_rows-clause-partial c = λ s h.
    let p = c.args.plan.now in
    let l : length p.leaves.items ≡ 0 = let e = c.is_empty.ensures in let t = c.if-not-is_empty.false in first_of (search rules, grind (arith, nat_tests)) in
    let holds : tests_over (λ i. None) p.test.items ≡ true =
    ap₂ (λ (d : Context) (ts : List Truth). tests_over d ts) (nothing_in 0) (sym c.deref.ensures.value) ∙ (sym c.in_ok-passes.ensures.slots ∙ c.if-not-branch.false) in
    let count : list_all counts_rows c.in-Groups.aggregates.items ≡ true =
    ap (list_all counts_rows) (sym c.deref-2.ensures.value) ∙ (sym c.all_count_rows.ensures ∙ c.if-all_count_rows.true) in
    rows_counted s p c.in-Groups.field-0 c.in-Groups.aggregates c.in-Groups.field-2 [] c.args.rows (partial_view c.in_ok-of_rows.field-0)
    h c.in-Groups.is (sym l) l holds count c.in_ok-of_rows.ensures.partial
