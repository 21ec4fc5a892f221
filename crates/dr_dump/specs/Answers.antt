-- What each answer of a dump says.
use Rattle.std.specs.Prelude.{ℕ, List, string_bytes, ⊤}
use Rattle.dr_reading.specs.Left.{LeftTablet}
use Rattle.dr_table.specs.LeftViews.{all_left_view}
use Rattle.dr_dump.specs.declared.dumping.Dumped.{Dumped}

-- where lines are answered, this holds of them
abbrev pub WhereLines : (List ℕ → Type 0) → Dumped → Type 0
WhereLines P (Dumped.Lines s) = P (string_bytes s)
WhereLines P (Dumped.Left v) = ⊤

-- where tablets are left, this holds of them
abbrev pub WhereLeft : (List LeftTablet → Type 0) → Dumped → Type 0
WhereLeft P (Dumped.Lines s) = ⊤
WhereLeft P (Dumped.Left v) = P (all_left_view v.items)
