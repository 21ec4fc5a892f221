-- The columns of a file's leaves side by side, a chunk at a time: what their streams gave, and what is at hand of it.
use Rattle.std.specs.Prelude.{◌≡◌, ◌<◌, ℕ, List, length, map, Bool, true, Option, Some, None}
use Rattle.dr_meaning.specs.Schema.{Schema}
use Rattle.dr_meaning.specs.Record.{Node}
use Rattle.dr_levels.specs.Views.{LeafForm, column_form}
use Rattle.dr_outside.specs.Link.{Files}
use Rattle.dr_moves.specs.Leading.{Left}
use Rattle.dr_file.specs.OpenedFiles.{rows_of}
use Rattle.dr_file.specs.declared.opened.Opened.{Opened}
use Rattle.dr_file.specs.declared.stream.Stream.{Stream}
use Rattle.dr_plan.specs.Planned.{plan_leaves}
use Rattle.dr_plan.specs.declared.plan.Plan.{Plan}
use Rattle.dr_walk.specs.Batches.{is_last}
use Rattle.dr_agreement.specs.AtHand as hand
use Rattle.dr_columns.specs.Chunks.{HasTakenChunks, IsAllTaken}
use Rattle.dr_columns.specs.declared.chunks.Chunks.{Chunks}
use Rattle.dr_scan.specs.Rests.{HasGiven}
use Rattle.dr_scan.specs.Streamed.{ends_of, AreLeafStreams}
use Rattle.dr_scan.specs.declared.leaf_stream.LeafStream.{LeafStream}
use Rattle.dr_scan.specs.declared.take_chunks.End.{End}

-- the leaves that batches are of
abbrev pub batch_forms : List LeafStream → List LeafForm
batch_forms xs = map (λ (x : LeafStream). column_form x.batch) xs

abbrev pub hand_forms : Chunks → List LeafForm
hand_forms x = map hand.form_of x.leaves.items

-- streams without their batches
abbrev pub same_streams : List LeafStream → List (Stream × Bool)
same_streams xs = map (λ (x : LeafStream). (x.stream, x.ended)) xs

-- what is at hand is of the streams' leaves, and nothing comes behind it only where nothing does behind a leaf's batch
pub record AreOfStreams (xs : List LeafStream) (x : Chunks) : Type 0 where
  pub forms : hand_forms x ≡ batch_forms xs
  pub ends : (i : ℕ) → hand.ends_of x.leaves.items i ≡ true → is_last (ends_of xs) i ≡ true

-- of what the streams gave of an opened file's columns, so many triplets, the columns of some records were taken
pub record IsChunked (s : Schema) (p : Plan) (held : Option Files) (o : Opened) (xs : List LeafStream) (x : Chunks) (read : ℕ) : Type 0 where
  pub given : Left
  pub records : List Node
  pub streams : AreLeafStreams held o (plan_leaves p) given xs
  pub taken : HasTakenChunks s p (rows_of o) given records x
  pub of_streams : AreOfStreams xs x
  pub count : HasGiven (length (plan_leaves p)) given read

-- they go on; or all records are taken; or one is longer than a chunk
abbrev pub GoesOrEnds : Schema → Plan → Option Files → Opened → List LeafStream → Chunks → ℕ → Option End → Type 0
GoesOrEnds s p held o xs x read None = IsChunked s p held o xs x read
GoesOrEnds s p held o xs x read (Some End.All) = (at : IsChunked s p held o xs x read) × IsAllTaken p x
GoesOrEnds s p held o xs x read (Some End.Long) = (at : IsChunked s p held o xs x read) × (0 < length (plan_leaves p))
