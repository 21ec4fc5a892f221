use Rattle.std.proofs.Common.{◌≡◌, ℕ, List, length, map, Some, refl, sym, ap, ap₂, subst, ◌∙◌}
use denote.Ref.{Bor}
use Rattle.std.specs.List.{slice_get}
use Rattle.std.proofs.lemmas.List.{length-map}
use Rattle.std.proofs.lemmas.Result.{IfOk-weaker}
use Rattle.dr_meaning.specs.Path.{Leaf}
use Rattle.dr_nested.specs.PathView.{path_view}
use Rattle.dr_nested.specs.SchemaView.{schema_view}
use Rattle.dr_plan.specs.Views.{path_of}
use Rattle.dr_plan.specs.Planned.{plan_leaves}
use Rattle.dr_plan.specs.declared.expression.Truth.{Truth}
use Rattle.dr_kept_laws.specs.ChainNumbers.{chain_numbers}
use Rattle.dr_condition.specs.Parted.{lent_tests, reading, lasts_read, WatchedParts, watch_parts}
use Rattle.dr_condition.specs.PlanConditions.{WatchesPlan}
use Rattle.dr_condition.proofs.PartedLemmas.{one_last_each}
use Rattle.dr_condition.proofs.plan_condition.watched.Goals as goal

pub new-requires-clause-each : goal.new-requires-clause-each
new-requires-clause-each c =
    sym (length-map c.args.parts.tests.items (λ (t : Bor Truth). t.now))
    ∙ (ap length c.requires.parts.tests ∙ (one_last_each c.args.plan.now.test.items ∙ sym (ap length c.requires.parts.lasts)))

pub returns-clause-watches : goal.returns-clause-watches
returns-clause-watches c =
    let s = schema_view c.args.schema.now in
    let p = c.args.plan.now in
    let numbers : (l : Leaf) → slice_get (plan_leaves p) c.args.last ≡ Some l → c.in_ok-chain.chain.items ≡ chain_numbers s.fields l.path =
    λ l e. c.in_ok-chain.ensures.numbers ∙ ap (chain_numbers s.fields) (c.path_of.ensures ∙ ap (λ ps. path_of (slice_get (map path_view ps) c.args.last)) c.deref.ensures.value ∙ ap path_of e) in
    let same : watch_parts c.deref-2.result.now c.args.last (lent_tests c.args.parts.tests.items) c.args.parts.lasts.items
    ≡ watch_parts c.in_ok-chain.chain.items c.args.last (reading p.test.items) (lasts_read p.test.items) =
    ap (λ (ns : List ℕ). watch_parts ns c.args.last (lent_tests c.args.parts.tests.items) c.args.parts.lasts.items) c.deref-2.ensures.value
    ∙ ap₂ (watch_parts c.in_ok-chain.chain.items c.args.last) c.requires.parts.tests c.requires.parts.lasts in
    IfOk-weaker c.new.result _ _ (λ x e. subst (WatchesPlan s p) (sym (e ∙ ap (λ (w : WatchedParts). Some w) same)) (c.requires.last, c.requires.constants, refl, numbers)) c.new.ensures.watches
