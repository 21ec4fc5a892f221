-- Laws of the bounds of partials.
use Rattle.std.specs.Prelude.{◌≡◌, ◌≤◌, ℕ, List, map, length, true, Ok}
use Rattle.std.specs.List.{list_all}
use Rattle.dr_meaning.specs.Schema.{Schema}
use Rattle.dr_meaning.specs.Path.{Leaf}
use Rattle.dr_meaning.specs.Record.{Node, is_record, project}
use Rattle.dr_meaning.specs.Query.{Query}
use Rattle.dr_meaning.specs.Syntax.{QuerySyntax}
use Rattle.dr_meaning.specs.Binding.{bind}
use Rattle.dr_meaning.specs.QueryLeaves.{query_leaves}
use Rattle.dr_partials.specs.Partials.{partial_of}
use Rattle.dr_partials.specs.PartialBounds.{PartialCanBeOf}
use Rattle.dr_partials.specs.Few.{sums_are_small, has_few}

-- a bound query's partial of at most n records, with at most n triplets at each leaf that the query uses, can be of n values
abbrev pub PartialOfFewIsBounded : Type 0
PartialOfFewIsBounded = (s : Schema) (q : QuerySyntax) (b : Query) (R : List Node) (n : ℕ) → bind s q ≡ Ok b → sums_are_small b.selection ≡ true
    → list_all (is_record s.fields) R ≡ true → length R ≤ n → has_few n (query_leaves s.fields b) R ≡ true → PartialCanBeOf n (partial_of s.fields b R)

abbrev pub projections : List Leaf → List Node → List Node
projections F R = map (project (map (λ (l : Leaf). l.path) F)) R

-- so it is where that is known of the projections to these leaves
abbrev pub PartialOfFewProjectionsIsBounded : Type 0
PartialOfFewProjectionsIsBounded = (s : Schema) (q : QuerySyntax) (b : Query) (R : List Node) (n : ℕ) → bind s q ≡ Ok b → sums_are_small b.selection ≡ true
    → list_all (is_record s.fields) R ≡ true → length (projections (query_leaves s.fields b) R) ≤ n
    → has_few n (query_leaves s.fields b) (projections (query_leaves s.fields b) R) ≡ true → PartialCanBeOf n (partial_of s.fields b R)
