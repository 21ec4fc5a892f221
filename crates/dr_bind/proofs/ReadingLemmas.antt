-- The plan of a query's text.
use Rattle.std.proofs.Common.{◌≡◌, ◌∙◌, ℕ, List, sym, ap, subst, Result, Ok, Err}
use Rattle.std.specs.Prelude.{IsErrAnd, IfErr, MatchOption, ⊤}
use Rattle.dr_meaning.specs.Schema.{Schema}
use Rattle.dr_meaning.specs.Syntax.{QuerySyntax}
use Rattle.dr_meaning.specs.Parse.{QueryFault as ParseFault, parse_query}
use Rattle.dr_meaning.specs.Ask.{read_query, bound_syntax, bound_or_refused}
use Rattle.dr_plan.specs.declared.plan.Plan.{Plan}
use Rattle.dr_sql.specs.Faults as text
use Rattle.dr_sql.specs.declared.fault.QueryFault.{QueryFault as TextFault}
use Rattle.dr_bind.specs.Binds.{BindsTo}
use Rattle.dr_resolve.specs.declared.fault.BindFault.{BindFault}
use Rattle.dr_bind.specs.Faults.{IsRefusedAs, text_fault, bind_fault}
use Rattle.dr_bind.specs.Plans.{IsPlanMeant}

-- what holds of the only error holds of the answer's
pub err_is : {A E : Type 0} (P : E → Type 0) (r : Result A E) (e : E) → IsErrAnd r (λ x. x ≡ e) → P e → IfErr r P
err_is P (Ok a) e h p = tt
err_is P (Err x) e h p = subst P (sym h) p

pub text_refuses : (s : Schema) (t : List ℕ) (e : TextFault) → MatchOption (text.fault_view e) ⊤ (λ (f : ParseFault). parse_query t ≡ Err f) → IsRefusedAs (read_query s t) (text_fault e)
unfolding read_query
text_refuses s t TextFault.NoMemory h = tt
text_refuses s t (TextFault.Refused place p) h = ap (bound_syntax s) h

pub schema_refuses : (s : Schema) (t : List ℕ) (q : QuerySyntax) (e : BindFault) → parse_query t ≡ Ok q → BindsTo s q (Err e) → IsRefusedAs (read_query s t) (bind_fault e)
unfolding read_query
schema_refuses s t q BindFault.NoMemory parsed h = tt
schema_refuses s t q (BindFault.Refused f) parsed h = ap (bound_syntax s) parsed ∙ ap bound_or_refused h

pub plan_meant : (s : Schema) (t : List ℕ) (q : QuerySyntax) (p : Plan) → parse_query t ≡ Ok q → BindsTo s q (Ok p) → IsPlanMeant s (read_query s t) p
unfolding read_query
plan_meant s t q p parsed h = (h.0, ap (bound_syntax s) parsed ∙ ap bound_or_refused h.1, (q, h.1, h.2))
