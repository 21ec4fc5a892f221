-- Automata and the orders of their leaves.
use Rattle.std.specs.Prelude.{◌≡◌, ◌↔◌, ℕ, suc, ◌<◌, ◌≤◌, List, [], length, slice_index_or, Option, None}
use Rattle.dr_meaning.specs.Schema.{Fields}
use Rattle.dr_meaning.specs.Path.{Step, max_repetition}
use Rattle.dr_meaning.specs.Automaton.{schema_order, reading_order, transition}
use Rattle.dr_fsm.specs.Tables.{table_at}
use Rattle.dr_fsm.specs.declared.automaton.Automaton.{Automaton}
use Rattle.dr_fsm.specs.declared.automaton.Order.{Order}

-- the selected leaves in an order, by their places in the selection
abbrev pub order_of : Order → Fields → List (List Step) → List ℕ
order_of Order.BySchema fs F = schema_order fs F
order_of Order.Reading fs F = reading_order fs F

-- the leaves of an automaton, by their places in the selection
abbrev pub leaves_of : Automaton → List ℕ
leaves_of a = a.order.items

-- where a level leads from a leaf: to a leaf's place, or to the end (none)
unfoldable pub follow : Automaton → ℕ → ℕ → Option ℕ
follow a i l = table_at a.rows.items i l

-- it is the automaton of the leaves with these paths, in this order
abbrev pub IsAutomatonOf : Automaton → List (List Step) → Type 0
IsAutomatonOf a order = (i l : ℕ) → follow a i l ≡ transition order i l

-- at each level that a leaf has it leads to a leaf, but for the last leaf's level 0, which leads to the end
abbrev pub EndsBehindLast : Automaton → List (List Step) → Type 0
EndsBehindLast a order =
    (i l : ℕ) → i < length order → l ≤ max_repetition (slice_index_or order i [])
    → (follow a i l ≡ None) ↔ ((suc i ≡ length order) × (l ≡ 0))
