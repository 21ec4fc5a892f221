-- What the faults of this crate stand for, and how an answer gives what a definition says.
use Rattle.std.specs.Prelude.{◌≡◌, Option, Some, None, Result, Ok, Err, MatchOption, ⊤}
use Rattle.dr_meaning.specs.SchemaText as text
use Rattle.dr_meaning.specs.Path as path
use Rattle.dr_nested.specs.declared.fault.SchemaProblem.{SchemaProblem}
use Rattle.dr_nested.specs.declared.fault.SchemaFault.{SchemaFault}
use Rattle.dr_nested.specs.declared.fault.PathProblem.{PathProblem}
use Rattle.dr_nested.specs.declared.fault.PathFault.{PathFault}

abbrev pub problem_view : SchemaProblem → text.SchemaProblem
problem_view SchemaProblem.TooLong = text.too_long
problem_view SchemaProblem.FloatKind = text.float_kind
problem_view SchemaProblem.EmptyGroup = text.empty_group
problem_view SchemaProblem.Syntax = text.syntax
problem_view SchemaProblem.BadName = text.bad_name
problem_view SchemaProblem.DuplicateName = text.duplicate_name
problem_view SchemaProblem.TooDeep = text.too_deep
problem_view SchemaProblem.TooManyLeaves = text.too_many_leaves

-- want of memory stands for no fault of the definitions
abbrev pub schema_fault_view : SchemaFault → Option text.SchemaFault
schema_fault_view SchemaFault.NoMemory = None
schema_fault_view (SchemaFault.Refused p w) = Some (record { place = p; problem = problem_view w })

abbrev pub path_problem_view : PathProblem → path.PathFault
path_problem_view PathProblem.UnknownField = path.unknown_field
path_problem_view PathProblem.NotALeaf = path.not_a_leaf

abbrev pub path_fault_view : PathFault → Option path.PathFault
path_fault_view PathFault.NoMemory = None
path_fault_view (PathFault.Refused w) = Some (path_problem_view w)

-- the answer is what the definition gives: its value, or its first fault; want of memory may come in place of either
abbrev pub Gives : {A B E F : Type 0} → (A → B) → (E → Option F) → Result B F → Result A E → Type 0
Gives see fault meant (Ok a) = meant ≡ Ok (see a)
Gives see fault meant (Err e) = MatchOption (fault e) ⊤ (λ f. meant ≡ Err f)
