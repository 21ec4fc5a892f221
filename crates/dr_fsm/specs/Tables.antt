-- The table of an automaton's transitions.
use Rattle.std.specs.Prelude.{◌≡◌, ℕ, List, [], map, drop, slice_index_or, Option, Some, None, Vec}
use denote.Ref.{Bor}
use Rattle.dr_meaning.specs.Path.{Step}
use Rattle.dr_meaning.specs.Automaton.{first_common, transition}
use Rattle.dr_nested.specs.PathView.{path_view}
use Rattle.dr_nested.specs.declared.path.Path.{Path}
use Rattle.dr_fsm.specs.declared.state.State.{State}
use Rattle.std.specs.declared.alloc.Global.{Global}

-- the place of a leaf, or the end
abbrev pub state_view : State → Option ℕ
state_view (State.Leaf i) = Some i
state_view State.End = None

-- the path of a leaf that is lent
abbrev pub lent_leaf : Bor Path → List Step
lent_leaf p = (path_view p.now).path

-- the paths at these places of a selection
abbrev pub paths_at : List (List Step) → List ℕ → List (List Step)
paths_at F is = map (λ (i : ℕ). slice_index_or F i []) is

-- where a row leads at a level, or something else behind the row's end
abbrev pub state_or : List State → ℕ → Option ℕ → Option ℕ
state_or row l other = slice_index_or (map state_view row) l other

-- the states of a row
abbrev pub row_view : Vec State Global → List State
row_view r = r.items

-- where a table leads from a leaf at a level; to the end where it has no state for them
abbrev pub table_at : List (Vec State Global) → ℕ → ℕ → Option ℕ
table_at rows i l = state_or (slice_index_or (map row_view rows) i []) l None

-- a row leads where the automaton does from the leaf at place i, once each level behind its end is sent to the first leaf from place k on that has it in common
abbrev pub Answers : List (List Step) → ℕ → List State → ℕ → Type 0
Answers order i row k = (l : ℕ) → state_or row l (first_common k (slice_index_or order i []) l (drop k order)) ≡ transition order i l
