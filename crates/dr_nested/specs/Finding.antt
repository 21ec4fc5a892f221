-- Finding the leaf that a text names.
use Rattle.std.specs.Prelude.{◌≡◌, ℕ, List, ◌++◌, ◌∷◌, [], Option, Some, None, option_map, Result, Ok, Err, MatchOption, ⊤}
use Rattle.dr_meaning.specs.Schema as tree
use Rattle.dr_meaning.specs.Path as path
use denote.Ref.{Bor}
use Rattle.dr_nested.specs.Views.{SeenField, kind_view, shape_view}
use Rattle.dr_nested.specs.Faults.{path_fault_view}
use Rattle.dr_nested.specs.declared.shape.Kind.{Kind}
use Rattle.dr_nested.specs.declared.shape.Shape.{Shape}
use Rattle.dr_nested.specs.declared.fault.PathFault.{PathFault}

-- a field at a place of its group
abbrev pub found_at : ℕ → SeenField → path.Found
found_at i f = record { path = record { place = i; repetition = f.repetition } ∷ []; shape = f.shape }

-- what was found below a group, behind the steps that lead to the group
abbrev pub behind : List path.Step → path.Found → path.Found
behind p f = record { path = p ++ f.path; shape = f.shape }

-- how going to a field of a group ended: at its shape, its step joining those before; or at no field
abbrev pub Enters : List path.Step → Option path.Found → List path.Step → Result (Bor Shape) PathFault → Type 0
Enters before meant now (Ok s) = option_map (behind before) meant ≡ Some (record { path = now; shape = shape_view s.now })
Enters before meant now (Err e) = MatchOption (path_fault_view e) ⊤ (λ f. (f ≡ path.unknown_field) × (meant ≡ None))

-- how going along names below a group ended: at a leaf, whose steps joined those before; or at a fault
abbrev pub Leads : List path.Step → Option path.Found → List path.Step → Result Kind PathFault → Type 0
Leads before meant now (Ok k) = option_map (behind before) meant ≡ Some (record { path = now; shape = tree.leaf (kind_view k) })
Leads before meant now (Err e) =
    MatchOption (path_fault_view e) ⊤ (λ f. (ns : List (List ℕ)) (p : List path.Step) → path.found_leaf ns (option_map (behind p) meant) ≡ Err f)
