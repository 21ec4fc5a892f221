use Rattle.std.proofs.Common.{sym, ◌∙◌, subst, List, ℕ}
use Rattle.std.specs.Prelude.{IfOk, IfErr}
use Rattle.dr_nested.specs.SchemaView.{schema_view}
use Rattle.dr_sub.specs.Texts.{ArePlansMeant, IsRefusedAs}
use Rattle.dr_sub_meaning.specs.NestedAsk.{read_nested}
use Rattle.dr_session.proofs.SessionLemmas.{asked_whole}
use Rattle.dr_session.proofs.session.plans_of.Goals as goal

pub returns-in-Ok-clause-plans : goal.returns-in-Ok-clause-plans
returns-in-Ok-clause-plans c =
    let s = schema_view c.args.schema.now in
    subst (λ (x : List ℕ). IfOk c.read_nested.result (ArePlansMeant s (read_nested s x))) (c.in-Ok.ensures.cases.0 ∙ sym (asked_whole c.args.text.now c.in-Ok.ensures.cases.1)) c.read_nested.ensures.plans

pub returns-in-Ok-clause-refused : goal.returns-in-Ok-clause-refused
returns-in-Ok-clause-refused c =
    let s = schema_view c.args.schema.now in
    subst (λ (x : List ℕ). IfErr c.read_nested.result (IsRefusedAs (read_nested s x))) (c.in-Ok.ensures.cases.0 ∙ sym (asked_whole c.args.text.now c.in-Ok.ensures.cases.1)) c.read_nested.ensures.refused
