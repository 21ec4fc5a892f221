-- Columns that gain what their paths give.
use Rattle.std.specs.Prelude.{◌≡◌, List, [], ◌∷◌, ◌++◌}
use Rattle.std.proofs.Common.{refl, ap₂, append_assoc, append-nil}
use Rattle.dr_meaning.specs.Path.{Step}
use Rattle.dr_meaning.specs.Column.{Triplet}
use Rattle.dr_striper.specs.Striping.{gained}

abbrev Columns : Type 0
Columns = List (List Triplet)

pub gained-same : (f g : List Step → List Triplet) (ps : List (List Step)) (cs : Columns) → ((p : List Step) → f p ≡ g p) → gained f ps cs ≡ gained g ps cs
gained-same f g [] cs h = refl
gained-same f g (p ∷ ps) [] h = refl
gained-same f g (p ∷ ps) (c ∷ cs) h = ap₂ (λ x xs. (c ++ x) ∷ xs) (h p) (gained-same f g ps cs h)

pub gained-twice : (f g : List Step → List Triplet) (ps : List (List Step)) (cs : Columns) → gained g ps (gained f ps cs) ≡ gained (λ p. f p ++ g p) ps cs
gained-twice f g [] cs = refl
gained-twice f g (p ∷ ps) [] = refl
gained-twice f g (p ∷ ps) (c ∷ cs) = ap₂ (λ x xs. x ∷ xs) (append_assoc c (f p) (g p)) (gained-twice f g ps cs)

pub gained-nothing : (ps : List (List Step)) (cs : Columns) → gained (λ p. []) ps cs ≡ cs
gained-nothing [] cs = refl
gained-nothing (p ∷ ps) [] = refl
gained-nothing (p ∷ ps) (c ∷ cs) = ap₂ (λ x xs. x ∷ xs) (append-nil c) (gained-nothing ps cs)
