-- Selected leaves of which none stands twice, by the schema.
use Rattle.std.specs.Prelude.{List, [], ◌∷◌}
use Rattle.dr_meaning.specs.Schema.{Fields, no_fields, field, Shape, leaf, group}
use Rattle.dr_meaning.specs.Automaton.{Pick, first_picks, later_picks}

abbrev pub AtMostOne : List Pick → Type 0
AtMostOne [] = Unit {0}
AtMostOne (f ∷ []) = Unit {0}
AtMostOne (f ∷ g ∷ F) = ⊥

-- at each leaf at most one of the selection
abbrev mutual
  pub Apart : Fields → List Pick → Type 0
  Apart no_fields F = Unit {0}
  Apart (field n c h fs) F = ShapeApart h (first_picks F) × Apart fs (later_picks F)

  pub ShapeApart : Shape → List Pick → Type 0
  ShapeApart (leaf k) F = AtMostOne F
  ShapeApart (group fs) F = Apart fs F
