-- What the faults of this crate stand for.
use Rattle.std.specs.Prelude.{Option, Some, None}
use Rattle.dr_formats.specs.TableFile as meant
use Rattle.dr_nested.specs.Faults as nested
use Rattle.dr_nested.specs.declared.fault.SchemaFault.{SchemaFault}
use Rattle.dr_table.specs.declared.fault.TableProblem.{TableProblem}
use Rattle.dr_table.specs.declared.fault.TableFault.{TableFault}

abbrev pub problem_view : TableProblem → meant.TableFault
problem_view TableProblem.TooLong = meant.table_too_long
problem_view TableProblem.Head = meant.bad_head
problem_view TableProblem.Tablets = meant.bad_tablets
problem_view TableProblem.Copies = meant.bad_copies
problem_view (TableProblem.Leaf n) = meant.bad_leaf n
problem_view (TableProblem.Schema p w) = meant.bad_table_schema (record { place = p; problem = nested.problem_view w })

-- want of memory stands for no fault of the definitions
abbrev pub fault_view : TableFault → Option meant.TableFault
fault_view TableFault.NoMemory = None
fault_view (TableFault.Refused w) = Some (problem_view w)

-- the fault of a table whose schema has one
abbrev pub of_schema : SchemaFault → TableFault
of_schema SchemaFault.NoMemory = TableFault.NoMemory
of_schema (SchemaFault.Refused p w) = TableFault.Refused (TableProblem.Schema p w)
