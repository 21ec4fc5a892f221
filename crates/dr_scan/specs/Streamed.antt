-- The columns of a file's leaves, a batch of each at a time: what their streams gave, and the walk over them.
use Rattle.std.specs.Prelude.{◌≡◌, ◌≢◌, ◌≤◌, ◌+◌, ◌-◌, ◌<◌, ℕ, ⊤, List, [], ◌++◌, map, length, drop, Bool, true, false, ◌==◌, if◌then◌else◌, Option, None, Some, is_some, get_or, Result, Ok, Err}
use Rattle.std.specs.List.{slice_get}
use Rattle.std.specs.declared.vec.Vec.{Vec}
use Rattle.std.specs.declared.alloc.Global.{Global}
use Rattle.dr_meaning.specs.Schema.{Schema}
use Rattle.dr_meaning.specs.Path.{Leaf, paths_of_leaves}
use Rattle.dr_meaning.specs.Record.{Node}
use Rattle.dr_meaning.specs.Column.{Triplet}
use Rattle.dr_meaning.specs.Walk.{Move, walk, no_record}
use Rattle.dr_meaning.specs.WalkLaws.{open_after_moves}
use Rattle.dr_formats.specs.File.{most_triplets}
use Rattle.dr_formats.specs.Writing.{triplet_count}
use Rattle.dr_levels.specs.Views.{column_view}
use Rattle.dr_outside.specs.Link.{Files}
use Rattle.dr_outside.specs.Telling.{TellsFile}
use Rattle.dr_moves.specs.Leading.{Left, columns_of}
use Rattle.dr_file.specs.OpenedFiles.{IsOpened, IsColumnOf, path_of, rows_of}
use Rattle.dr_file.specs.Streams.{IsStreamOf, file_of, left_of, refused_of}
use Rattle.dr_file.specs.declared.opened.Opened.{Opened}
use Rattle.dr_group.specs.Partials.{IsPartialOf, partial_view}
use Rattle.dr_plan.specs.Planned.{IsOfSchema, plan_leaves, plan_view}
use Rattle.dr_plan.specs.declared.plan.Plan.{Plan}
use Rattle.dr_table.specs.Counting.{counted}
use Rattle.dr_scan.specs.FileRecords.{AreColumnsOf, are_short}
use Rattle.dr_walk.specs.Walking.{HasColumns, NoneHas}
use Rattle.dr_walk.specs.Batches.{EndsWith, IsOver, Shrinks, is_last}
use Rattle.dr_walk.specs.declared.fault.AssembleFault.{AssembleFault}
use Rattle.dr_walk.specs.declared.level_walk.LevelWalk.{LevelWalk}
use Rattle.dr_within.specs.Rows.{HasRead, HasLast}
use Rattle.dr_within.specs.declared.last_read.LastRead.{LastRead}
use Rattle.dr_within.specs.declared.row.Row.{Row}
use Rattle.dr_scan.specs.Makings.{Makes}
use Rattle.dr_scan.specs.OfColumns.{IsOfColumns}
use Rattle.dr_scan.specs.declared.leaf_stream.LeafStream.{LeafStream}
use Rattle.dr_scan.specs.declared.making.Making.{Making}
use Rattle.dr_scan.specs.declared.opened.Made.{Made}
use Rattle.dr_scan.specs.declared.stretch.Stretch.{Stretch}

-- ---- what is at hand

-- the last so many of some triplets
abbrev pub last_of : ℕ → List Triplet → List Triplet
last_of n ts = drop (length ts - n) ts

-- a leaf's batch
abbrev pub batch_at : List LeafStream → Left
batch_at xs i = get_or (map (λ (x : LeafStream). column_view x.batch) xs) i []

-- what is left of it, by how many triplets of each are
abbrev pub left_at : List LeafStream → List ℕ → Left
left_at xs counts i = last_of (get_or counts i 0) (batch_at xs i)

-- whether each column ends behind its batch
abbrev pub ends_of : List LeafStream → List Bool
ends_of xs = map (λ (x : LeafStream). x.ended) xs

-- ---- a leaf's stream

-- what is told of the bytes of an opened file, where a link tells these files
abbrev pub IsTold : Option Files → Opened → List Leaf → List ℕ → Type 0
IsTold held o F bytes = IsOpened bytes F o × TellsFile held (path_of o) bytes

-- the stream of a leaf gave these triplets
pub record IsLeafStream (held : Option Files) (o : Opened) (F : List Leaf) (l : Leaf) (given : List Triplet) (x : LeafStream) : Type 0 where
  pub file : file_of x.stream ≡ o
  pub few : length given + left_of x.stream ≤ most_triplets
  pub well : refused_of x.stream ≡ None
  pub of : (bytes : List ℕ) → IsTold held o F bytes → IsStreamOf bytes l given x.stream
  pub last : (bytes : List ℕ) → IsTold held o F bytes → x.ended ≡ true → IsColumnOf bytes l given

-- the streams of the leaves gave these
pub record AreLeafStreams (held : Option Files) (o : Opened) (F : List Leaf) (given : Left) (xs : List LeafStream) : Type 0 where
  pub as_many : length xs ≡ length F
  pub each : (i : ℕ) (l : Leaf) (x : LeafStream) → slice_get F i ≡ Some l → slice_get xs i ≡ Some x → IsLeafStream held o F l (given i) x

-- what one leaf has now, and the others had
abbrev pub with_more : ℕ → List Triplet → Left → Left
with_more k more given i = if i == k then given i ++ more else given i

abbrev pub with_batch : ℕ → List Triplet → Left → Left
with_batch k more here i = if i == k then more else here i

-- a leaf's stream gave more, so many, which joined its batch
pub record HasReadOn (held : Option Files) (x y : LeafStream) (count : ℕ) : Type 0 where
  pub more : List Triplet
  pub batch : column_view y.batch ≡ column_view x.batch ++ more
  pub so_many : count ≡ length more
  pub stream : (o : Opened) (F : List Leaf) (l : Leaf) (given : List Triplet) → IsLeafStream held o F l given x → IsLeafStream held o F l (given ++ more) y

-- that of one of the leaves did
pub record AreReadOn (held : Option Files) (k : ℕ) (xs ys : List LeafStream) (count : ℕ) : Type 0 where
  pub more : List Triplet
  pub here : (i : ℕ) → batch_at ys i ≡ with_more k more (batch_at xs) i
  pub ends : (i : ℕ) → i ≢ k → is_last (ends_of ys) i ≡ is_last (ends_of xs) i
  pub so_many : count ≡ length more
  pub streams : (o : Opened) (F : List Leaf) (given : Left) → AreLeafStreams held o F given xs → AreLeafStreams held o F (with_more k more given) ys

-- ---- the walk

-- so many columns that begin with what was given; where a stream is at its end, nothing comes later
abbrev pub Extends : ℕ → Left → List Bool → List (List Triplet) → Left → Type 0
Extends n given ended C later = (length C ≡ n) × ((i : ℕ) → columns_of C i ≡ given i ++ later i) × EndsWith ended later

-- over whatever columns begin so a walk gave these moves, which nest; this of each batch is left
pub record IsStreamed (s : Schema) (p : Plan) (rows : ℕ) (given : Left) (ended : List Bool) (ms : List Move) (w : LevelWalk) (here : Left) : Type 0 where
  pub over : (C : List (List Triplet)) (later : Left) → Extends (length (plan_leaves p)) given ended C later → IsOver s.fields (paths_of_leaves (plan_leaves p)) C rows ms w here later
  pub past : (i : ℕ) → length (plan_leaves p) ≤ i → given i ≡ []
  pub nests : is_some (open_after_moves s.fields (plan_leaves p) no_record ms) ≡ true

-- and of the moves this was made, and this was read last of each leaf
pub record IsScanned (s : Schema) (p : Plan) (rows : ℕ) (given : Left) (ended : List Bool) (ms : List Move) (w : LevelWalk) (here : Left) (m : Making) (r : Row) : Type 0 where
  pub streamed : IsStreamed s p rows given ended ms w here
  pub makes : Makes s p ms m
  pub reads : HasRead (length (plan_leaves p)) ms r

-- of some plan's moves over some columns
abbrev pub MayScan : List Bool → LevelWalk → Left → Making → Row → Type 0
MayScan ended w here m r = (s : Schema) × (p : Plan) × (rows : ℕ) × (given : Left) × (ms : List Move) × IsOfSchema s p × IsScanned s p rows given ended ms w here m r

abbrev pub MayGoOn : List Bool → LevelWalk → Left → Making → LastRead → Type 0
MayGoOn ended w here m r = (s : Schema) × (p : Plan) × (rows : ℕ) × (given : Left) × (ms : List Move) × IsOfSchema s p × IsStreamed s p rows given ended ms w here × Makes s p ms m × HasLast (length (plan_leaves p)) ms r

-- all was given, of columns that are what the streams gave, each of which is at its end, and that records have, whose walk it was
pub record IsWholeScan (s : Schema) (p : Plan) (rows : ℕ) (given : Left) (ended : List Bool) (m : Making) : Type 0 where
  pub columns : List (List Triplet)
  pub records : List Node
  pub have : HasColumns s.fields (paths_of_leaves (plan_leaves p)) columns rows records
  pub makes : Makes s p (walk s.fields (paths_of_leaves (plan_leaves p)) records) m
  pub given_all : (length columns ≡ length (plan_leaves p)) × ((i : ℕ) → columns_of columns i ≡ given i)
  pub ends : (i : ℕ) → i < length (plan_leaves p) → is_last ended i ≡ true

-- the batch of the leaf is at its end, and its column isn't known to be
pub record WantsMore (p : Plan) (ended : List Bool) (w : LevelWalk) (here : Left) (i : ℕ) : Type 0 where
  pub wanted : w.wanted ≡ Some i
  pub passed : here i ≡ []
  pub within : i < length (plan_leaves p)
  pub goes_on : is_last ended i ≡ false

-- no records have columns that begin so
abbrev pub NoneBegins : Schema → Plan → ℕ → Left → List Bool → Type 0
NoneBegins s p rows given ended = (C : List (List Triplet)) (later : Left) → Extends (length (plan_leaves p)) given ended C later → NoneHas s.fields (paths_of_leaves (plan_leaves p)) C rows

-- a stretch of moves ends where the batch of a leaf is at its end; or where all was given; or no records have columns that begin so
abbrev pub EndsStretch : Schema → Plan → ℕ → Left → List Bool → LevelWalk → Left → Making → Row → Result Stretch AssembleFault → Type 0
EndsStretch s p rows given ended w here m r (Ok (Stretch.Wants i)) = (ms : List Move) × IsScanned s p rows given ended ms w here m r × WantsMore p ended w here i
EndsStretch s p rows given ended w here m r (Ok Stretch.Ended) = IsWholeScan s p rows given ended m
EndsStretch s p rows given ended w here m r (Err AssembleFault.BadData) = NoneBegins s p rows given ended
EndsStretch s p rows given ended w here m r (Err AssembleFault.NoMemory) = ⊤

-- at the end of a stretch, where this of each batch was at hand: so many triplets are left of each, and what was read last of each leaf is kept
pub record IsBetween (s : Schema) (p : Plan) (rows : ℕ) (given : Left) (ended : List Bool) (before : Left) (w : LevelWalk) (m : Making) (r : LastRead) (i : ℕ) (left : List ℕ) : Type 0 where
  pub moves : List Move
  pub here : Left
  pub streamed : IsStreamed s p rows given ended moves w here
  pub makes : Makes s p moves m
  pub reads : HasLast (length (plan_leaves p)) moves r
  pub wants : WantsMore p ended w here i
  pub shrinks : Shrinks before here
  pub as_many : length left ≡ length ended
  pub counts : (k : ℕ) → get_or left k 0 ≡ length (here k)

abbrev pub EndsAtHand : Schema → Plan → ℕ → Left → List Bool → Left → LevelWalk → Making → LastRead → Result (Stretch × Vec ℕ Global) AssembleFault → Type 0
EndsAtHand s p rows given ended before w m r (Ok (Stretch.Wants i, left)) = IsBetween s p rows given ended before w m r i left.items
EndsAtHand s p rows given ended before w m r (Ok (Stretch.Ended, left)) = IsWholeScan s p rows given ended m
EndsAtHand s p rows given ended before w m r (Err AssembleFault.BadData) = NoneBegins s p rows given ended
EndsAtHand s p rows given ended before w m r (Err AssembleFault.NoMemory) = ⊤

-- ---- a file

-- it is the partial of records with some columns, which are those of the file where the link tells it, and have so many triplets
pub record IsOfOpened (s : Schema) (p : Plan) (held : Option Files) (o : Opened) (m : Made) : Type 0 where
  pub columns : List (List Triplet)
  pub partial : IsOfColumns s p columns (rows_of o) (partial_view m.partial)
  pub of_plan : IsPartialOf (plan_view p) m.partial
  pub short : are_short columns ≡ true
  pub so_many : m.triplets ≡ counted 0 (triplet_count columns)
  pub file : (bytes : List ℕ) → IsTold held o (plan_leaves p) bytes → AreColumnsOf bytes (plan_leaves p) columns
