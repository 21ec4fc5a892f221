use Rattle.std.proofs.Common.{◌≡◌, List}
use Rattle.dr_meaning.specs.BoundExpression.{BindFault, bad_within, fault_at}
use Rattle.dr_meaning.specs.Binding.{first_fault}
use Rattle.dr_resolve.specs.Faults.{earlier, first_view}
use Rattle.dr_planning.proofs.RuleLemmas.{within_aggregate, unless_told, unless_untold}
use Rattle.dr_planning.proofs.rules.note_within_term.Goals as goal

pub returns-then-not-holds_rows : goal.returns-then-not-holds_rows
returns-then-not-holds_rows c = λ fs ls t h.
    let w = c.in-Some-within.within in
    let before = first_view c.args.first.now in
    let now = first_view c.note-then-not-holds_rows.new.self in
    within_aggregate fs ls t c.args.term.now c.in-Aggregated.field-0 c.in-Aggregated.argument c.in-Aggregated.within w c.holds_rows.result (λ (es : List BindFault). now ≡ earlier before (first_fault es))
    (c.holds_rows.ensures fs ls) c.in-Aggregated.is c.in-Some-within.is (unless_told c.holds_rows.result (fault_at w.place bad_within) before now (cc) c.note-then-not-holds_rows.ensures) h

pub returns-else-not-holds_rows : goal.returns-else-not-holds_rows
returns-else-not-holds_rows c = λ fs ls t h.
    let w = c.in-Some-within.within in
    let before = first_view c.args.first.now in
    within_aggregate fs ls t c.args.term.now c.in-Aggregated.field-0 c.in-Aggregated.argument c.in-Aggregated.within w c.holds_rows.result (λ (es : List BindFault). before ≡ earlier before (first_fault es))
    (c.holds_rows.ensures fs ls) c.in-Aggregated.is c.in-Some-within.is (unless_untold c.holds_rows.result (fault_at w.place bad_within) before (cc)) h
