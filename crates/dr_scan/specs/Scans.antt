-- What a scan of the file at a path gives: a partial that stands for the file's records.
use Rattle.std.specs.Prelude.{◌≡◌, ℕ, true, List, [], ◌∷◌, Option}
use Rattle.std.specs.List.{list_all}
use Rattle.dr_meaning.specs.Schema.{Schema}
use Rattle.dr_meaning.specs.Record.{Node, is_record}
use Rattle.dr_meaning.specs.Query.{Query}
use Rattle.dr_meaning.specs.QueryLeaves.{query_leaves}
use Rattle.dr_formats.specs.File.{IsFileOf}
use Rattle.dr_outside.specs.Link.{Files}
use Rattle.dr_partials.specs.Partials.{Partial, Stands}
use Rattle.dr_partials.specs.Rewriting.{leaf_query}
use Rattle.dr_reading.specs.Held.{held_at}
use Rattle.dr_reading.specs.Truth.{TabletTruth}

-- a partial stands for the leaf query on some records of which the bytes are a file for the leaves that the query uses
abbrev pub StandsForBytes : Schema → Query → List ℕ → Partial → Type 0
StandsForBytes s q bytes p = (R : List Node) × IsFileOf bytes s (query_leaves s.fields q) R × Stands s.fields (leaf_query q) R p

-- a partial stands for the leaf query on some records of the schema
abbrev pub StandsForRecords : Schema → Query → Partial → Type 0
StandsForRecords s q p = (R : List Node) × (list_all (is_record s.fields) R ≡ true) × Stands s.fields (leaf_query q) R p

-- the truth of a tablet of which one copy is at this path
abbrev pub truth_at : Schema → Query → Option Files → List ℕ → TabletTruth
truth_at s q held path = record { schema = s; query = leaf_query q; held = held_at held path ∷ [] }
