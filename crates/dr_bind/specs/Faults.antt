-- What the faults of this crate stand for.
use Rattle.std.specs.Prelude.{◌≡◌, ℕ, List, Result, Err, ⊤}
use Rattle.dr_meaning.specs.Query as meant
use Rattle.dr_meaning.specs.Refusals.{QueryRefusal, in_query, text_refused, binding_refused, query_problem_name, bind_problem_name}
use Rattle.dr_sql.specs.Faults as text
use Rattle.dr_sql.specs.declared.fault.QueryFault.{QueryFault as TextFault}
use Rattle.dr_resolve.specs.Faults as binding
use Rattle.dr_resolve.specs.declared.fault.BindFault.{BindFault}
use Rattle.dr_bind.specs.declared.fault.QueryProblem.{QueryProblem}
use Rattle.dr_bind.specs.declared.fault.QueryFault.{QueryFault}

-- a problem at a place
abbrev pub refusal_of : ℕ → QueryProblem → QueryRefusal
refusal_of place (QueryProblem.Text p) = text_refused (record { place = place; problem = text.problem_view p })
refusal_of place (QueryProblem.Binding p) = binding_refused (record { place = place; problem = in_query (binding.problem_view p) })

abbrev pub problem_name : QueryProblem → List ℕ
problem_name (QueryProblem.Text p) = query_problem_name (text.problem_view p)
problem_name (QueryProblem.Binding p) = bind_problem_name (binding.problem_view p)

-- the fault is that of the meaning; want of memory may come in place of anything
abbrev pub IsRefusedAs : Result meant.Query QueryRefusal → QueryFault → Type 0
IsRefusedAs meant QueryFault.NoMemory = ⊤
IsRefusedAs meant (QueryFault.Refused place p) = meant ≡ Err (refusal_of place p)

-- ---- the faults that are handed on

abbrev pub text_fault : TextFault → QueryFault
text_fault TextFault.NoMemory = QueryFault.NoMemory
text_fault (TextFault.Refused place p) = QueryFault.Refused place (QueryProblem.Text p)

abbrev pub bind_fault : BindFault → QueryFault
bind_fault BindFault.NoMemory = QueryFault.NoMemory
bind_fault (BindFault.Refused f) = QueryFault.Refused f.place (QueryProblem.Binding f.problem)
