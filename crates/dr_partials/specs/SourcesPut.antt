-- What is put where readings are grouped by sources.
use Rattle.std.specs.Prelude.{◌≡◌, ℕ, List, [], ◌∷◌, ◌++◌, Bool, true, false, not, ◌&&◌, ◌||◌, ◌==◌, filter}
use Rattle.std.specs.List.{list_all, flat_map}
use Rattle.dr_meaning.specs.Query.{Query}
use Rattle.dr_partials.specs.Putting.{Put}
use Rattle.dr_partials.specs.Readings.{Reading}
use Rattle.dr_partials.specs.Together.{PutTheSame}

-- the sources of these numbers one after another, each with the readings that have its number
abbrev pub puts_of_sources : (Reading → List Put) → (Reading → ℕ) → List Reading → List ℕ → List Put
puts_of_sources f at xs [] = []
puts_of_sources f at xs (k ∷ ks) = flat_map f (filter (λ (x : Reading). at x == k) xs) ++ puts_of_sources f at xs ks

abbrev pub is_one_of : ℕ → List ℕ → Bool
is_one_of j [] = false
is_one_of j (k ∷ ks) = (j == k) || is_one_of j ks

abbrev pub are_different : List ℕ → Bool
are_different [] = true
are_different (k ∷ ks) = list_all (λ (j : ℕ). not (k == j)) ks && are_different ks

-- that is the same as all readings put in their order
abbrev pub SourcesPutAll : Type 0
SourcesPutAll = (q : Query) (f : Reading → List Put) (at : Reading → ℕ) (ks : List ℕ) (xs : List Reading)
    → are_different ks ≡ true → list_all (λ (x : Reading). is_one_of (at x) ks) xs ≡ true → PutTheSame q (puts_of_sources f at xs ks) (flat_map f xs)
