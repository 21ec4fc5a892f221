-- How many branches are open for a pruner at most.
use Rattle.std.specs.Prelude.{◌≡◌, ◌+◌, ◌≤◌, List, Bool, true, is_some}
use Rattle.dr_meaning.specs.Schema.{Fields, depth, greatest_depth}
use Rattle.dr_meaning.specs.Path.{Leaf}
use Rattle.dr_meaning.specs.Walk.{Move, no_record}
use Rattle.dr_meaning.specs.WalkLaws.{open_after_moves}
use Rattle.dr_moves.specs.Context.{Context}
use Rattle.dr_prune.specs.Pruning.{HasSeen, open_in}
use Rattle.dr_prune.specs.declared.pruner.Pruner.{Pruner}

-- behind moves that nest in fields no deeper than a schema's: the record, and in it one instance a level at most
abbrev pub FewAreOpen : Type 0
FewAreOpen = (fs : Fields) (F : List Leaf) (ms : List Move) (t : Context → Bool) (p : Pruner) → depth fs ≤ greatest_depth → is_some (open_after_moves fs F no_record ms) ≡ true
    → HasSeen t ms p → open_in p ≤ 1 + greatest_depth
