-- Rows fire at leaves: the contexts at the triplets of a leaf are the rows of its chain.
use Rattle.std.specs.Prelude.{◌≡◌, ℕ, List, [], ◌∷◌, map, true, Some}
use Rattle.std.specs.List.{slice_get, list_all}
use Rattle.dr_meaning.specs.Schema.{Fields}
use Rattle.dr_meaning.specs.Path.{Step, chain_end, is_leaf_path}
use Rattle.dr_meaning.specs.Record.{Node, is_record}
use Rattle.dr_meaning.specs.Rows.{rows, value_at}
use Rattle.dr_meaning.specs.Walk.{record_moves}
use Rattle.dr_moves.specs.Context.{Context, contexts}
use Rattle.dr_moves.specs.Together.{Together}

-- each of these leaves is read together with leaf i
abbrev pub AllTogether : List (List Step) → ℕ → List Step → List ℕ → Type 0
AllTogether F i p [] = Unit {0}
AllTogether F i p (k ∷ K) = ((q : List Step) × (slice_get F k ≡ Some q) × Together (k ≡ i) (Unit {0}) q p) × AllTogether F i p K

-- a context has the values of the row at these leaves
abbrev pub IsRow : List (List Step) → List ℕ → Context → Node → Type 0
IsRow F [] c row = Unit {0}
IsRow F (k ∷ K) c row = ((q : List Step) → slice_get F k ≡ Some q → c k ≡ value_at q row) × IsRow F K c row

-- what depends on these leaves alone is at the triplets of leaf i what it is in the rows of its chain, in their order
abbrev pub RowsFire : Type 0 → Type 0
RowsFire X = (fs : Fields) (F : List (List Step)) (i : ℕ) (p : List Step) (K : List ℕ) (n : Node) (c : Context) (f : Context → X) (g : Node → X)
    → list_all (is_leaf_path fs) F ≡ true → slice_get F i ≡ Some p → is_record fs n ≡ true → AllTogether F i p K
    → ((d : Context) (row : Node) → IsRow F K d row → f d ≡ g row)
    → map f (contexts i c (record_moves fs F n)) ≡ map g (rows (chain_end p) n)
