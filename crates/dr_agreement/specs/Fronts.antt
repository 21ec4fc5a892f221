-- The fronts of leaves, and neighbours, in code.
use Rattle.std.specs.Prelude.{◌≡◌, ℕ, List, Some}
use Rattle.std.specs.List.{slice_get}
use Rattle.dr_meaning.specs.Path.{Step, max_repetition, max_definition}
use Rattle.dr_beside.specs.Neighbours.{shared, front}
use Rattle.dr_agreement.specs.declared.fronts.Front.{Front}

-- of two leaves by their numbers
pub record IsFront (F : List (List Step)) (i j : ℕ) (f : Front) : Type 0 where
  pub path : List Step
  pub other : List Step
  pub is_path : slice_get F i ≡ Some path
  pub is_other : slice_get F j ≡ Some other
  pub steps : f.steps ≡ shared path other
  pub repeated : f.repeated ≡ max_repetition (front path other)
  pub defined : f.defined ≡ max_definition (front path other)
