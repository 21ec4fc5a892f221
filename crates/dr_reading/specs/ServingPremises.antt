-- What has to hold so that serving means the query on the table's records.
use Rattle.std.specs.Prelude.{◌≡◌, ℕ, ⊤, true, List, [], ◌∷◌, map, length, Option}
use Rattle.std.specs.List.{range_with_len}
use Rattle.dr_meaning.specs.Record.{Node}
use Rattle.dr_meaning.specs.MeaningLaws.{covers}
use Rattle.dr_outside.specs.Link.{Files}
use Rattle.dr_partials.specs.PartialLaws.{is_mergeable}
use Rattle.dr_partials.specs.TreeLaws.{records_of}
use Rattle.dr_partials.specs.Rewriting.{leaf_query}
use Rattle.dr_reading.specs.Premises.{TellsFiles, TabletsHold}
use Rattle.dr_reading.specs.Outcome.{Serving, serving_leaves, held_by_links}
use Rattle.dr_meaning.specs.Path.{paths_of_leaves}

-- all links tell what they hold, and one path holds the same for all
abbrev pub AllTell : Files → List (Option Files) → Type 0
AllTell files [] = ⊤
AllTell files (link ∷ links) = TellsFiles files link × AllTell files links

-- the numbers of a table's tablets, in order
abbrev pub numbers_of : Serving → List ℕ
numbers_of s = range_with_len 0 (length s.tablets)

-- the premises of serving: all links tell what they hold, one path holds the same for all, and each copy of a tablet holds its records, if any
pub record ServesRecords (s : Serving) (R : ℕ → List Node) : Type 0 where
  pub files : Files
  pub told : AllTell files (held_by_links s)
  pub held : TabletsHold s.schema (serving_leaves s) files s.tablets (map R (numbers_of s))

-- the leaves that the query uses are enough for it, and its partials can be merged; each query that is bound is one
pub record IsServable (s : Serving) : Type 0 where
  pub enough : covers (paths_of_leaves (serving_leaves s)) (leaf_query s.query) ≡ true
  pub mergeable : is_mergeable s.schema.fields s.query ≡ true

-- the records of all tablets, in order
abbrev pub all_records : Serving → (ℕ → List Node) → List Node
all_records s R = records_of R (numbers_of s)
