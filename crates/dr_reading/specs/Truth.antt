-- A tablet's truth: the query that is put to it, and what is held at its leaves. When a piece, a partial, is true of it.
use Rattle.std.specs.Prelude.{◌≡◌, ℕ, ◌^◌, true, List, ◌⊎◌}
use Rattle.dr_meaning.specs.Schema.{Schema}
use Rattle.dr_meaning.specs.Path.{Leaf}
use Rattle.dr_meaning.specs.Record.{Node}
use Rattle.dr_meaning.specs.Query.{Query}
use Rattle.dr_meaning.specs.QueryLeaves.{query_leaves}
use Rattle.dr_formats.specs.File.{IsFileOf}
use Rattle.dr_partials.specs.Partials.{Partial, Stands}
use Rattle.dr_partials.specs.PartialTypes.{is_partial}
use Rattle.dr_partials.specs.PartialBounds.{PartialCanBeOf}
use Rattle.dr_reading.specs.Held.{Held, IsHeld, IsUntold}

pub record TabletTruth : Type 0 where
  -- the schema, and the query that is put to each tablet: the leaf query
  pub schema : Schema
  pub query : Query
  -- what each link holds at each of the tablet's leaves
  pub held : List Held

-- the leaves of the schema that the query uses
abbrev pub leaves_of : TabletTruth → List Leaf
leaves_of truth = query_leaves truth.schema.fields truth.query

-- a piece stands for the query on records of which something held is a file, for the leaves that the query uses
pub record StandsForFile (truth : TabletTruth) (p : Partial) : Type 0 where
  pub bytes : List ℕ
  pub held : IsHeld bytes truth.held
  pub records : List Node
  pub file : IsFileOf bytes truth.schema (leaves_of truth) records
  pub stands : Stands truth.schema.fields truth.query records p

-- how many values an accumulator of a piece may have taken
abbrev pub most_values : ℕ
most_values = 2 ^ 40

-- a piece is true of a tablet where it is a partial of the query, can be of at most so many values, and stands for a file that is held;
-- this last isn't known where some link doesn't tell what it holds at a leaf
pub record IsTrueOf (truth : TabletTruth) (p : Partial) : Type 0 where
  pub partial : is_partial truth.schema.fields truth.query p ≡ true
  pub bounded : PartialCanBeOf most_values p
  pub file : StandsForFile truth p ⊎ IsUntold truth.held
