-- Which places of the array stand for which items.
use Rattle.std.specs.Prelude.{◌≡◌, ℕ, suc, ◌+◌, List, [], ◌∷◌, ◌++◌, map, length, reverse, Option, Some, None, option_map, Vec}
use Rattle.std.specs.List.{slice_get}
use Rattle.std.specs.declared.alloc.Global.{Global}
use Rattle.dr_meaning.specs.Schema.{Repetition, required, optional, repeated, Shape}
use Rattle.dr_meaning.specs.Schema as tree
use Rattle.dr_meaning.specs.Automaton.{Pick}
use Rattle.dr_nested.specs.Views.{rep_view, shape_view, fields_view}
use Rattle.dr_nested.specs.declared.shape.Shape as code_shape
use Rattle.dr_nested.specs.declared.shape.Field.{Field}
use Rattle.dr_moves.specs.Course.{Gate, Give, Visit, Items, nothing, give, visit, visit_of, followed_by, gated, by_repetition, shape_near_items, shape_far_items, far_items, field_near_items, unless_repeated}
use Rattle.dr_walk.specs.Laying.{FlatItem, flat_look, flat_give, flat_visit, flat_null, flat_end, Lap, lap_of, plain_give, plain_visit, looks_for, Laid, lay, laying}
use Rattle.dr_walk.specs.Views.{items_view, lap_view, picks_view, gates_view, level_view}
use Rattle.dr_walk.specs.declared.items.Lap as code_lap
use Rattle.dr_walk.specs.declared.items.Gate as code_gate
use Rattle.dr_walk.specs.declared.items.Item.{Item}
use Rattle.dr_walk.specs.declared.level.Level.{Level}
use Rattle.dr_walk.specs.declared.picks.Pick as code_pick
use Rattle.dr_walk.specs.declared.laying.Depth.{Depth}
use Rattle.dr_walk.specs.declared.laying.Table.{Table}

abbrev pub is_laid : Option code_lap.Lap → Option Lap
is_laid o = option_map lap_view o

-- the visit of a repeated field of this shape
abbrev pub visit_at : Shape → List Pick → Depth → List Gate → Visit
visit_at s F at G = visit_of s F at.number at.level G at.definition

-- the next repeated fields of a field in which selected leaves are
abbrev pub far_of_field : Repetition → Shape → List Pick → Depth → List Gate → Items
far_of_field r s F at G = by_repetition r
    (visit (visit_at s F at G)
    (followed_by (shape_near_items s F [] (at.definition + tree.definition_count r)) (shape_far_items s F (suc at.number) (at.level + tree.repetition_count r) [] (at.definition + tree.definition_count r)))
    nothing)
    (shape_far_items s F at.number (at.level + tree.repetition_count r) (gated r F at.definition G) (at.definition + tree.definition_count r))

-- the leaves of a field that are of the level around it
abbrev pub field_near : Field → List code_pick.Pick → List code_gate.Gate → ℕ → Items
field_near f picks gates d = unless_repeated (rep_view f.rep)
    (field_near_items (rep_view f.rep) (shape_view f.shape) (picks_view picks) (gates_view gates) d)

-- the next repeated fields of a group, of a field and of a shape
abbrev pub group_far : List Field → List code_pick.Pick → Depth → List code_gate.Gate → Items
group_far fs picks at gates = far_items (fields_view fs) (picks_view picks) at.number at.level (gates_view gates) at.definition

abbrev pub field_far : Field → List code_pick.Pick → Depth → List code_gate.Gate → Items
field_far f picks at gates = far_of_field (rep_view f.rep) (shape_view f.shape) (picks_view picks) at (gates_view gates)

abbrev pub shape_far : code_shape.Shape → List code_pick.Pick → Depth → List code_gate.Gate → Items
shape_far s picks at gates = shape_far_items (shape_view s) (picks_view picks) at.number at.level (gates_view gates) at.definition

-- the array so far, and the level that is being laid out
abbrev pub laid_in : Vec Item Global → Level → Laid
laid_in code level = laying (items_view code.items) (level_view level)

-- whatever the array, these items joined the level
abbrev pub JoinsLevel : Items → Level → Level → Type 0
JoinsLevel I old new = (code : List FlatItem) → laying code (level_view new) ≡ lay I (laying code (level_view old))

-- the level of the instances of a repeated field with this shape, laid out
abbrev pub body_laid : Shape → List Pick → Depth → Laid → Laid
body_laid s F at L = lay (shape_far_items s F (at.number + 1) (at.level + 1) [] (at.definition + 1))
    (lay (shape_near_items s F [] (at.definition + 1)) L)

-- the gates of the items that stand behind some, in order
abbrev pub gates_of : Items → List (List Gate)
gates_of nothing = []
gates_of (give g I) = looks_for g.gates ++ gates_of I
gates_of (visit v B I) = looks_for v.gates ++ gates_of I

-- the leaves of items, in reading order
abbrev pub leaves_in : Items → List ℕ
leaves_in nothing = []
leaves_in (give g I) = g.leaf ∷ leaves_in I
leaves_in (visit v B I) = v.leaves ++ leaves_in I

-- these stand in the array from one place up to another
abbrev pub IsRun : List FlatItem → ℕ → List FlatItem → ℕ → Type 0
IsRun code pc [] at = pc ≡ at
IsRun code pc (x ∷ xs) at = (slice_get code pc ≡ Some x) × IsRun code (suc pc) xs at

-- from this place up to its end, of which this is the field, the array stands for these items
pub data IsCode (code : List FlatItem) : Option Lap → ℕ → Items → Type 0 where
  code_end : (o : Option Lap) (pc : ℕ) → slice_get code pc ≡ Some (flat_end o) → IsCode code o pc nothing
  code_give : (o : Option Lap) (pc : ℕ) (g : Give) (I : Items) → slice_get code pc ≡ Some (flat_give (plain_give g)) → IsCode code o (suc pc) I → IsCode code o pc (give g I)
  code_visit : (o : Option Lap) (pc body : ℕ) (v : Visit) (B I : Items) → slice_get code pc ≡ Some (flat_visit (plain_visit v (length v.leaves) body))
      → IsRun code (suc pc) (map flat_null v.leaves) (suc pc + length v.leaves)
      → slice_get code body ≡ Some (flat_look (reverse (gates_of B))) → IsCode code (Some (lap_of v body)) (suc body) B
      → IsCode code o (suc pc + length v.leaves) I → IsCode code o pc (visit v B I)

-- at this place begin the items of an instance, or of a record
abbrev pub IsBody : List FlatItem → Option Lap → ℕ → Items → Type 0
IsBody code o pc B = (slice_get code pc ≡ Some (flat_look (reverse (gates_of B)))) × IsCode code o (suc pc) B

-- the table stands for a course
abbrev pub is_table : Items → Table → Type 0
is_table top t = IsBody (items_view t.items.items) None t.root top
