-- What is put of a chunk of records, source by source, where all records are kept.
use Rattle.std.specs.Prelude.{◌≡◌, ℕ, List, ◌++◌, true, None}
use Rattle.std.specs.List.{list_all, flat_map}
use Rattle.dr_meaning.specs.Path.{Step}
use Rattle.dr_meaning.specs.Record.{Node}
use Rattle.dr_meaning.specs.Rows.{rows}
use Rattle.dr_meaning.specs.Expression.{longest_chain}
use Rattle.dr_meaning.specs.Query.{GroupItem, groups, Query}
use Rattle.dr_partials.specs.Partials.{Partial}
use Rattle.dr_partials.specs.PartialTypes.{aggregates_among}
use Rattle.dr_partials.specs.Putting.{Put, put_all, puts_of}
use Rattle.dr_partials.specs.Readings.{Reading, readings_of, puts_of_reading, puts_of_groups}
use Rattle.dr_partials.specs.SourcesPut.{puts_of_sources, is_one_of, are_different}

-- groups of all records
abbrev pub query_of_all : List (List Step) → List GroupItem → Query
query_of_all keys items = record { condition = None; selection = groups keys items }

-- the groups of the keys' rows, then the sources of these numbers, each with its readings
abbrev pub puts_of_chunk : List (List Step) → List GroupItem → (Reading → ℕ) → List ℕ → List Node → List Put
puts_of_chunk keys items at ks S =
    puts_of_groups keys (flat_map (rows (longest_chain keys)) S) ++ puts_of_sources (puts_of_reading keys S) at (readings_of keys 0 (aggregates_among items)) ks

-- so one chunk after another becomes what is put of all records
abbrev pub ChunksAreTaken : Type 0
ChunksAreTaken = (keys : List (List Step)) (items : List GroupItem) (at : Reading → ℕ) (ks : List ℕ) (R S : List Node) (x : Partial)
    → are_different ks ≡ true → list_all (λ (y : Reading). is_one_of (at y) ks) (readings_of keys 0 (aggregates_among items)) ≡ true
    → put_all (query_of_all keys items) (puts_of_chunk keys items at ks S) (put_all (query_of_all keys items) (puts_of (query_of_all keys items) R) x)
    ≡ put_all (query_of_all keys items) (puts_of (query_of_all keys items) (R ++ S)) x
