-- The course of a walk over selected leaves: what is gone through in a record, and in each instance of a repeated field. It is made of a schema once.
use Rattle.std.specs.Prelude.{ℕ, suc, ◌+◌, List, [], ◌∷◌, ◌++◌, Bool, true, ◌&&◌, ◌||◌, ◌==◌, nat_lt, if◌then◌else◌}
use Rattle.dr_meaning.specs.Schema.{Repetition, required, optional, repeated, Kind, Fields, no_fields, field, Shape, leaf, group, repetition_count, definition_count, shape_repeated_fields}
use Rattle.dr_meaning.specs.Path.{Step}
use Rattle.dr_meaning.specs.Automaton.{Pick, picks, first_picks, later_picks, shape_near_order, shape_far_order}

-- an optional group on the way to a leaf: it is there where, as its level begins, the next triplet of a leaf below it has a greater definition level
pub record Gate : Type 0 where
  pub leaf : ℕ
  pub definition : ℕ

-- the definition level that is reached through gates, by each leaf's next definition level: that of the first shut gate, or else the given one
abbrev pub reach : (ℕ → ℕ) → List Gate → ℕ → ℕ
reach next [] full = full
reach next (g ∷ G) full = if nat_lt g.definition (next g.leaf) then reach next G full else g.definition

-- whether each of these groups is there
abbrev pub are_open : (ℕ → ℕ) → List Gate → Bool
are_open next [] = true
are_open next (g ∷ G) = nat_lt g.definition (next g.leaf) && are_open next G

-- a leaf of a level, behind these gates: its definition level where it is absent, and where it is there, the same for a required one
pub record Give : Type 0 where
  pub leaf : ℕ
  pub kind : Kind
  pub gates : List Gate
  pub low : ℕ
  pub full : ℕ

-- whether a definition level is one that a leaf may have here: that of the first shut gate, or one of its own two
abbrev pub comes_to : (ℕ → ℕ) → Give → ℕ → Bool
comes_to next g d = if are_open next g.gates then (d == g.low) || (d == g.full) else d == reach next g.gates g.low

-- a next repeated field: its number, the level of its instances, one of the leaves below it, the gates on the way, the definition level
-- where it is absent, and the leaves below it in reading order
pub record Visit : Type 0 where
  pub number : ℕ
  pub level : ℕ
  pub leaf : ℕ
  pub gates : List Gate
  pub low : ℕ
  pub leaves : List ℕ

-- what is gone through in a level: leaves, and repeated fields, each with what is gone through in an instance of it
pub data Items : Type 0 where
  nothing : Items
  give : Give → Items → Items
  visit : Visit → Items → Items → Items

-- the one, and then the other
abbrev pub followed_by : Items → Items → Items
followed_by nothing J = J
followed_by (give g I) J = give g (followed_by I J)
followed_by (visit v B I) J = visit v B (followed_by I J)

-- the first selected leaf
abbrev pub first_index : List Pick → ℕ
first_index [] = 0
first_index (f ∷ F) = f.index

-- the gates in a field of this repetition, whose group has the definition level d: one more where it is optional
abbrev pub gated : Repetition → List Pick → ℕ → List Gate → List Gate
gated required F d G = G
gated optional F d G = G ++ record { leaf = first_index F; definition = d } ∷ []
gated repeated F d G = G

-- a leaf as often as it is selected
abbrev pub give_each : Kind → List Pick → List Gate → ℕ → ℕ → Items
give_each k [] G b d = nothing
give_each k (f ∷ F) G b d = give (record { leaf = f.index; kind = k; gates = G; low = b; full = d }) (give_each k F G b d)

-- the definition level of a leaf of this repetition where it is absent; a required one never is
abbrev pub low_in : Repetition → ℕ → ℕ
low_in required d = d + 0
low_in optional d = d
low_in repeated d = d

-- a repeated field's leaves aren't of the level around it
abbrev pub unless_repeated : Repetition → Items → Items
unless_repeated required I = I
unless_repeated optional I = I
unless_repeated repeated I = nothing

-- nothing where no selected leaf is below
abbrev pub where_selected : List Pick → Items → Items
where_selected [] I = nothing
where_selected (f ∷ F) I = I

-- a repeated field is visited; in any other the course goes on
abbrev pub by_repetition : Repetition → Items → Items → Items
by_repetition required each only = only
by_repetition optional each only = only
by_repetition repeated each only = each

-- the repeated field k, whose shape this is, in a level l
abbrev pub visit_of : Shape → List Pick → ℕ → ℕ → List Gate → ℕ → Visit
visit_of s F k l G d = record { number = k; level = suc l; leaf = first_index F; gates = G; low = d; leaves = shape_near_order s F ++ shape_far_order s F }

abbrev mutual
  -- the leaves of a level, behind these gates, with the definition level d
  pub near_items : Fields → List Pick → List Gate → ℕ → Items
  near_items no_fields F G d = nothing
  near_items (field m r s fs) F G d = followed_by
      (unless_repeated r (field_near_items r s (first_picks F) G d))
      (near_items fs (later_picks F) G d)

  -- its next repeated fields, the first of which has the number k; l is the level
  pub far_items : Fields → List Pick → ℕ → ℕ → List Gate → ℕ → Items
  far_items no_fields F k l G d = nothing
  far_items (field m r s fs) F k l G d = followed_by
      (where_selected (first_picks F) (by_repetition r
      (visit (visit_of s (first_picks F) k l G d)
      (followed_by (shape_near_items s (first_picks F) [] (d + definition_count r)) (shape_far_items s (first_picks F) (suc k) (l + repetition_count r) [] (d + definition_count r)))
      nothing)
      (shape_far_items s (first_picks F) k (l + repetition_count r) (gated r (first_picks F) d G) (d + definition_count r))))
      (far_items fs (later_picks F) (k + (repetition_count r + shape_repeated_fields s)) l G d)

  -- those of a field that isn't repeated, in a group with the definition level d
  pub field_near_items : Repetition → Shape → List Pick → List Gate → ℕ → Items
  field_near_items r (leaf k) F G d = give_each k F G (low_in r d) (d + definition_count r)
  field_near_items r (group fs) F G d = near_items fs F (gated r F d G) (d + definition_count r)

  -- the leaves of the level of an instance
  pub shape_near_items : Shape → List Pick → List Gate → ℕ → Items
  shape_near_items (leaf k) F G d = give_each k F G d d
  shape_near_items (group fs) F G d = near_items fs F G d

  -- the repeated fields in a shape
  pub shape_far_items : Shape → List Pick → ℕ → ℕ → List Gate → ℕ → Items
  shape_far_items (leaf j) F k l G d = nothing
  shape_far_items (group fs) F k l G d = far_items fs F k l G d

-- what is gone through in a record
abbrev pub course : Fields → List (List Step) → Items
course fs F = followed_by (near_items fs (picks F) [] 0) (far_items fs (picks F) 1 0 [] 0)
