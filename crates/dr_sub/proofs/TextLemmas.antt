-- The plans of a query's text.
use Rattle.std.proofs.Common.{◌≡◌, ◌∙◌, ℕ, List, sym, ap, subst, true, Result, Ok, Err}
use Rattle.std.specs.Prelude.{IsErrAnd, IfErr, MatchOption, ⊤}
use Rattle.dr_meaning.specs.Schema.{Schema}
use Rattle.dr_meaning.specs.Parse.{QueryFault as ParseFault}
use Rattle.dr_sql.specs.Faults as text
use Rattle.dr_sql.specs.declared.fault.QueryFault.{QueryFault}
use Rattle.dr_sub_meaning.specs.NestedParse.{NestedSyntax, parse_nested}
use Rattle.dr_sub_meaning.specs.NestedBinding.{bind_nested}
use Rattle.dr_sub_meaning.specs.NestedAsk.{read_nested, bound_syntax, bound_or_refused}
use Rattle.dr_sub_meaning.specs.ResultSchemaLaws.{have_items}
use Rattle.dr_sub.specs.NestedPlans.{BindsNested}
use Rattle.dr_sub.specs.Texts.{ArePlansMeant, IsRefusedAs, text_fault, bound_fault}
use Rattle.dr_sub.specs.declared.nested_fault.NestedFault.{NestedFault}
use Rattle.dr_sub.specs.declared.nested_plan.NestedPlan.{NestedPlan}

-- what holds of the only error holds of the answer's
pub err_is : {A E : Type 0} (P : E → Type 0) (r : Result A E) (e : E) → IsErrAnd r (λ x. x ≡ e) → P e → IfErr r P
err_is P (Ok a) e h p = tt
err_is P (Err x) e h p = subst P (sym h) p

pub text_refuses : (s : Schema) (t : List ℕ) (e : QueryFault) → MatchOption (text.fault_view e) ⊤ (λ (f : ParseFault). parse_nested t ≡ Err f) → IsRefusedAs (read_nested s t) (text_fault e)
unfolding read_nested
text_refuses s t QueryFault.NoMemory h = tt
text_refuses s t (QueryFault.Refused place p) h = ap (bound_syntax s) h

pub schema_refuses : (s : Schema) (t : List ℕ) (x : NestedSyntax) (e : NestedFault) → parse_nested t ≡ Ok x → BindsNested s.fields (bind_nested s x) (Err e) → IsRefusedAs (read_nested s t) (bound_fault e)
unfolding read_nested
schema_refuses s t x NestedFault.NoMemory parsed h = tt
schema_refuses s t x (NestedFault.Refused place p) parsed h = ap (bound_syntax s) parsed ∙ ap bound_or_refused h

pub plans_meant : (s : Schema) (t : List ℕ) (x : NestedSyntax) (p : NestedPlan) → parse_nested t ≡ Ok x → have_items x ≡ true → BindsNested s.fields (bind_nested s x) (Ok p) → ArePlansMeant s (read_nested s t) p
unfolding read_nested
plans_meant s t x p parsed items h = (h.0, ap (bound_syntax s) parsed ∙ ap bound_or_refused h.1, (x, items, h.1, h.2))
