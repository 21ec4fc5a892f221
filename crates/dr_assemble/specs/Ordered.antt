-- Paths in schema order.
use Rattle.std.specs.Prelude.{◌≤◌, ℕ, List, [], ◌∷◌}
use Rattle.dr_meaning.specs.Schema.{Fields, no_fields, field, Shape, leaf, group}
use Rattle.dr_meaning.specs.Path.{Step}
use Rattle.dr_meaning.specs.Record.{through_first, through_later}

-- the places of the first steps ascend, from b on
abbrev pub HeadsFrom : ℕ → List (List Step) → Type 0
HeadsFrom b [] = Unit {0}
HeadsFrom b ([] ∷ F) = ⊥
HeadsFrom b ((s ∷ p) ∷ F) = (b ≤ s.place) × HeadsFrom s.place F

-- so they do in each group below
abbrev mutual
  pub EachOrdered : Fields → List (List Step) → Type 0
  EachOrdered no_fields F = Unit {0}
  EachOrdered (field m r s fs) F = OrderedIn s (through_first F) × EachOrdered fs (through_later F)

  pub OrderedIn : Shape → List (List Step) → Type 0
  OrderedIn (leaf k) F = Unit {0}
  OrderedIn (group fs) F = HeadsFrom 0 F × EachOrdered fs F
