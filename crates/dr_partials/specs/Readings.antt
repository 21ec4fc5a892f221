-- What is put of the rows that a query's aggregates read.
use Rattle.std.specs.Prelude.{◌≡◌, ℕ, suc, List, [], ◌∷◌, ◌++◌, map, Bool, not, filter, Option, None}
use Rattle.std.specs.List.{flat_map}
use Rattle.dr_meaning.specs.Path.{Step, longer}
use Rattle.dr_meaning.specs.Record.{Value, Node}
use Rattle.dr_meaning.specs.Rows.{rows}
use Rattle.dr_meaning.specs.Expression.{evaluate, expression_chain, longest_chain}
use Rattle.dr_meaning.specs.Query.{GroupTerm, key, count_rows, aggregate, Query, key_tuple}
use Rattle.dr_partials.specs.Putting.{Put, puts_of_rows, puts_of_terms}
use Rattle.dr_partials.specs.Together.{PutTheSame}

-- an aggregate by its place, the chain over whose rows it goes, and its value in a row
pub record Reading : Type 0 where
  pub chain : List Step
  pub aggregate : ℕ
  pub value : Node → Option Value

-- for aggregates of which the first is the ith
abbrev pub readings_of : List (List Step) → ℕ → List GroupTerm → List Reading
readings_of keys i [] = []
readings_of keys i (key j ∷ ts) = readings_of keys (suc i) ts
readings_of keys i (count_rows ∷ ts) = record { chain = longest_chain keys; aggregate = i; value = λ (row : Node). None } ∷ readings_of keys (suc i) ts
readings_of keys i (aggregate a e ∷ ts) = record { chain = longer (longest_chain keys) (expression_chain e); aggregate = i; value = evaluate e } ∷ readings_of keys (suc i) ts

-- what one of them puts of records
abbrev pub puts_of_reading : List (List Step) → List Node → Reading → List Put
puts_of_reading keys ns x = puts_of_rows keys x.aggregate x.value (flat_map (rows x.chain) ns)

abbrev pub TermsAreReadings : Type 0
TermsAreReadings = (keys : List (List Step)) (i : ℕ) (ts : List GroupTerm) (ns : List Node) → puts_of_terms keys i ts ns ≡ flat_map (puts_of_reading keys ns) (readings_of keys i ts)

-- those that pass a test come first, then the others
abbrev pub PartedReadings : Type 0
PartedReadings = (q : Query) (f : Reading → List Put) (test : Reading → Bool) (xs : List Reading)
    → PutTheSame q (flat_map f (filter test xs) ++ flat_map f (filter (λ (x : Reading). not (test x)) xs)) (flat_map f xs)

-- of each of these rows its group alone
abbrev pub puts_of_groups : List (List Step) → List Node → List Put
puts_of_groups keys ns = map (λ (row : Node). record { keys = key_tuple keys row; taken = None }) ns

-- where values are put of rows, it is of no account that their groups are put before
abbrev pub GroupsArePutFirst : Type 0
GroupsArePutFirst = (q : Query) (keys : List (List Step)) (i : ℕ) (value : Node → Option Value) (ns : List Node)
    → PutTheSame q (puts_of_groups keys ns ++ puts_of_rows keys i value ns) (puts_of_rows keys i value ns)
