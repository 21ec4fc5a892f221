-- What is left of an opened file, where the columns of its first records were taken.
use Rattle.std.specs.Prelude.{◌≡◌, ◌<◌, ◌^◌, ℕ, ⊤, List, [], length, Option, None, Some}
use Rattle.dr_meaning.specs.Schema.{Schema}
use Rattle.dr_meaning.specs.Path.{paths_of_leaves}
use Rattle.dr_meaning.specs.Record.{Node}
use Rattle.dr_meaning.specs.Column.{Triplet}
use Rattle.dr_formats.specs.Writing.{triplet_count}
use Rattle.dr_outside.specs.Link.{Files}
use Rattle.dr_moves.specs.Leading.{Left, columns_of}
use Rattle.dr_partials.specs.Partials as meant
use Rattle.dr_partials.specs.PartialBounds.{PartialCanBeOf}
use Rattle.dr_file.specs.OpenedFiles.{rows_of}
use Rattle.dr_file.specs.declared.opened.Opened.{Opened}
use Rattle.dr_group.specs.Partials.{AreAlike, IsPartialOf, partial_view}
use Rattle.dr_group.specs.declared.partial.Partial.{Partial}
use Rattle.dr_plan.specs.Planned.{plan_leaves, plan_view, planned_query}
use Rattle.dr_plan.specs.declared.plan.Plan.{Plan}
use Rattle.dr_table.specs.Counting.{counted}
use Rattle.dr_walk.specs.Batches.{is_last}
use Rattle.dr_agreement.specs.Behind.{IsBehind}
use Rattle.dr_scan.specs.Streamed.{left_at, ends_of, AreLeafStreams}
use Rattle.dr_scan.specs.declared.rest.Rest.{Rest}

-- this was made of the first records, of which a leaf is read: a plan's partial of them; nothing of none
abbrev pub IsMadeOf : Schema → Plan → List Node → Option Partial → Type 0
IsMadeOf s p R None = R ≡ []
IsMadeOf s p R (Some x) = (0 < length (plan_leaves p)) × (partial_view x ≡ meant.partial_of s.fields (planned_query (plan_view p)) R) × IsPartialOf (plan_view p) x

-- so many triplets were given
abbrev pub HasGiven : ℕ → Left → ℕ → Type 0
HasGiven n given read = (C : List (List Triplet)) → length C ≡ n → ((i : ℕ) → columns_of C i ≡ given i) → read ≡ counted 0 (triplet_count C)

-- of what the streams of an opened file's leaves gave the columns of some records were taken, of which this was made; of each batch so much is left,
-- where the next record begins, and so many records come
pub record IsRestOf (s : Schema) (p : Plan) (held : Option Files) (o : Opened) (x : Rest) : Type 0 where
  pub given : Left
  pub records : List Node
  pub streams : AreLeafStreams held o (plan_leaves p) given x.streams.items
  pub behind : IsBehind s.fields (paths_of_leaves (plan_leaves p)) (rows_of o) given (left_at x.streams.items x.left.items) (is_last (ends_of x.streams.items)) records x.records
  pub made : IsMadeOf s p records x.made
  pub count : HasGiven (length (plan_leaves p)) given x.read

-- ---- a partial behind what was made before

-- it can be merged into that
abbrev pub MayJoin : Option Partial → Partial → Type 0
MayJoin None y = ⊤
MayJoin (Some x) y = AreAlike x y × PartialCanBeOf (2 ^ 60) (partial_view x) × PartialCanBeOf (2 ^ 60) (partial_view y)

abbrev pub joined : Option Partial → meant.Partial → meant.Partial
joined None y = y
joined (Some x) y = meant.merge (partial_view x) y
