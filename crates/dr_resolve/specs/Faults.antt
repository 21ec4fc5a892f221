-- What the faults of this crate stand for.
use Rattle.std.specs.Prelude.{◌≡◌, List, Option, Some, None, option_map}
use Rattle.dr_meaning.specs.BoundExpression as binding
use Rattle.dr_meaning.specs.Binding.{first_fault, first_of}
use Rattle.dr_resolve.specs.declared.fault.BindProblem.{BindProblem}
use Rattle.dr_resolve.specs.declared.fault.Fault.{Fault}
use Rattle.dr_resolve.specs.declared.fault.FirstFault.{FirstFault}

abbrev pub problem_view : BindProblem → binding.BindProblem
problem_view BindProblem.UnknownTable = binding.unknown_table
problem_view BindProblem.UnknownField = binding.unknown_field
problem_view BindProblem.NotALeaf = binding.not_a_leaf
problem_view BindProblem.TypeMismatch = binding.type_mismatch
problem_view BindProblem.Unrelated = binding.unrelated
problem_view BindProblem.BadWithin = binding.bad_within
problem_view BindProblem.NotGrouped = binding.not_grouped
problem_view BindProblem.DuplicateName = binding.duplicate_name

abbrev pub fault_view : Fault → binding.BindFault
fault_view f = record { place = f.place; problem = problem_view f.problem }

abbrev pub first_view : FirstFault → Option binding.BindFault
first_view f = option_map fault_view f.fault

-- the first of the faults so far and of those that are told behind them
abbrev pub earlier : Option binding.BindFault → Option binding.BindFault → Option binding.BindFault
earlier None g = g
earlier (Some f) g = Some (first_of f g)

-- these faults are noted behind those so far
abbrev pub Notes : List binding.BindFault → FirstFault → FirstFault → Type 0
Notes fs before now = first_view now ≡ earlier (first_view before) (first_fault fs)
