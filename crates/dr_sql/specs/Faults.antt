-- What the faults of this crate stand for, and how an answer gives what a definition says.
use Rattle.std.specs.Prelude.{◌≡◌, Option, Some, None, Result, Ok, Err, MatchOption, ⊤}
use Rattle.dr_meaning.specs.Parse as parse
use Rattle.dr_sql.specs.declared.fault.QueryProblem.{QueryProblem}
use Rattle.dr_sql.specs.declared.fault.QueryFault.{QueryFault}

abbrev pub problem_view : QueryProblem → parse.QueryProblem
problem_view QueryProblem.TooLong = parse.too_long
problem_view QueryProblem.Syntax = parse.syntax
problem_view QueryProblem.TooDeep = parse.too_deep
problem_view QueryProblem.TooMany = parse.too_many

-- want of memory stands for no fault of the definitions
abbrev pub fault_view : QueryFault → Option parse.QueryFault
fault_view QueryFault.NoMemory = None
fault_view (QueryFault.Refused i p) = Some (record { place = i; problem = problem_view p })

-- the answer is what the definition gives: its value, or its first fault; want of memory may come in place of either
abbrev pub Gives : {A B : Type 0} → (A → B) → Result B parse.QueryFault → Result A QueryFault → Type 0
Gives see meant (Ok a) = meant ≡ Ok (see a)
Gives see meant (Err e) = MatchOption (fault_view e) ⊤ (λ f. meant ≡ Err f)
