use Rattle.std.proofs.Common.{◌≡◌, length, rules, arith}
use Rattle.std.proofs.lemmas.Result.{IfOk-weaker}
use Rattle.std.proofs.lemmas.Bool.Decides.{nat_tests}
use Rattle.dr_nested.specs.SchemaView.{schema_view}
use Rattle.dr_group.specs.Partials.{partial_view}
use Rattle.dr_service.proofs.AnswerLemmas.{are_none, empty_is, partial_is}
use Rattle.dr_service.proofs.answer.partial_of_tablets.Goals as goal

pub returns-then-is_empty-clause-partial : goal.returns-then-is_empty-clause-partial
returns-then-is_empty-clause-partial g c =
    let s = schema_view c.args.schema.now in
    let ts = c.args.tablets.now in
    let l : length ts ≡ 0 = let e = c.is_empty.ensures in let t = c.if-is_empty.true in first_of (search rules, grind (arith, nat_tests)) in
    λ q is. IfOk-weaker c.empty.result _ _ (λ p e. empty_is s q c.args.plan.now ts (partial_view p) (are_none ts l) is e) c.empty.ensures.partial

pub returns-clause-partial : goal.returns-clause-partial
returns-clause-partial g c =
    let s = schema_view c.args.schema.now in
    let ts = c.args.tablets.now in
    λ q is. IfOk-weaker c.partial_of_all.result _ _
    (λ p all. partial_is s q c.args.plan.now ts all.partials all.tree (partial_view p) is all.scanned all.has all.gathers)
    (c.partial_of_all.ensures.gathered q is)
