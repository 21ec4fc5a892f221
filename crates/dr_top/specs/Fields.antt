-- The leaf that a FIELD names.
use Rattle.std.specs.Prelude.{◌≡◌, ℕ, Result, Err, ⊤}
use Rattle.dr_meaning.specs.Path.{Leaf, PathFault}
use Rattle.dr_nested.specs.Faults.{path_problem_view}
use Rattle.dr_top.specs.declared.field.FieldFault.{FieldFault}

-- the FIELD of this number is refused, so; want of memory says nothing
abbrev pub IsRefusedField : Result Leaf PathFault → ℕ → FieldFault → Type 0
IsRefusedField meant number FieldFault.NoMemory = ⊤
IsRefusedField meant number (FieldFault.Refused n w) = (n ≡ number) × (meant ≡ Err (path_problem_view w))
