-- What a command gives: its text, or what is left.
use Rattle.std.specs.Prelude.{◌≡◌, ◌<◌, ◌≤◌, ◌*◌, ◌-◌, ℕ, false, List, [], ◌∷◌, length, take, Option, IfSome, Ok, Err, ⊤, IsTrue}
use Rattle.std.specs.List.{flat_map}
use Rattle.dr_meaning.specs.SchemaText.{schema_text}
use Rattle.dr_meaning.specs.Schema.{Schema}
use Rattle.dr_meaning.specs.Path.{Leaf}
use Rattle.dr_meaning.specs.Record.{Node}
use Rattle.dr_formats.specs.File.{FileCause, bad_footer, bad_schema, bad_codec, bad_data, schema_of_file}
use Rattle.dr_outside.specs.Link.{LinkShown, Holds}
use Rattle.dr_outside.specs.Faults.{Rose}
use Rattle.dr_outside.specs.declared.cause.Cause.{Cause}
use Rattle.dr_outside.specs.declared.cause.Cause.TheVariants.{ReadFailed, BadFooter, BadSchema, BadCodec, BadData}
use Rattle.dr_reading.specs.Held.{Held, untold, absent, present, held_at}
use Rattle.dr_reading.specs.Causes.{LeadTo, is_read}
use Rattle.dr_reading.specs.Scan.{Copy, Scan, joined}
use Rattle.dr_reading.specs.Left.{LeftTablet}
use Rattle.dr_reading.specs.InTurn.{TabletRead, IsTabletRead, GiveInTurn, LeaveInTurn}
use Rattle.dr_serve.specs.Serving.{IsShare, first_shown}
use Rattle.dr_serve.specs.Counted.{held_of, AreCounted, AreLeftOf}
use Rattle.dr_serve.specs.Rounds.{causes_read, left_round}
use Rattle.dr_commands.specs.Meaning.{Outcome, done, refused, scans, serves, looks_at, stops}
use Rattle.dr_top.specs.World.{WithFirsts}

-- ---- the text

-- the text of a scan: the link read the tablets in turn, each gave records, and it is the text of them all, in order
abbrev pub IsScanned : Scan → LinkShown → LinkShown → List ℕ → Type 0
IsScanned s l now text = (Rs : List (List Node)) × GiveInTurn s.schema s.leaves l now s.tablets Rs × (text ≡ s.text (joined Rs))

-- the text of a query that these links serve: of each tablet but those that are left a link gives records, and it is the text of them all, each
-- tablet's once, in order
abbrev pub IsServedText : Scan → List LinkShown → List LeftTablet → List ℕ → Type 0
IsServedText s links left text = (Rs : List (List Node)) × AreCounted s.schema s.leaves (held_of links) 0 s.tablets left Rs × (text ≡ s.text (joined Rs))

-- the text is that of the open part of the file's schema; nothing is known where the link doesn't tell
abbrev pub IsSchemaShown : Held → List ℕ → Type 0
IsSchemaShown untold text = ⊤
IsSchemaShown absent text = ⊥
IsSchemaShown (present bytes) text = (s : Schema) × (schema_of_file bytes ≡ Ok s) × (text ≡ schema_text s)

-- the text of a look at a file, in which no read failed
abbrev pub IsLookedAt : List ℕ → LinkShown → LinkShown → List ℕ → Type 0
IsLookedAt path l now text = IsSchemaShown (held_at l.held path) text × (now.faults ≡ l.faults)

-- an outcome has this text, by what links hold: the first one, or so many that serve a query
abbrev pub HasText : Outcome → List LinkShown → List LinkShown → List ℕ → Type 0
HasText (done t puts) links now text = text ≡ t
HasText (refused r puts) links now text = ⊥
HasText (scans s) links now text = WithFirsts links now (λ l k. IsScanned s l k text)
HasText (serves s n least) links now text = IsServedText s (take n links) [] text
HasText (looks_at path) links now text = WithFirsts links now (λ l k. IsLookedAt path l k text)
HasText (stops t r) links now text = ⊥

-- ---- what is left

-- the link read the tablets of a scan in turn; some are left, just these
abbrev pub LeavesTablets : Scan → List LeftTablet → LinkShown → LinkShown → Type 0
LeavesTablets s left l now = LeaveInTurn s.schema s.leaves l now s.tablets left

-- what a link read of these tablets, of each that had no piece
abbrev pub AreReadAfter : Schema → List Leaf → LinkShown → List (List Copy) → List (Option TabletRead) → Type 0
AreReadAfter s F link [] [] = ⊤
AreReadAfter s F link (copies ∷ tablets) (read ∷ reads) = IfSome read (IsTabletRead s F link copies) × AreReadAfter s F link tablets reads
AreReadAfter s F link tablets reads = ⊥

-- after the workers the first link read the tablets without a piece, their copies one after another until one gave records: the failed reads among the
-- causes that it met then are all that raised its count of faults to what it is now, and just these tablets are left
pub record IsClosed (s : Scan) (before now : LinkShown) (left : List LeftTablet) : Type 0 where
  -- what it showed when the workers had ended
  pub middle : LinkShown
  pub same : middle.held ≡ before.held
  pub never_falls : before.faults ≤ middle.faults
  pub stays_steady : IsTrue before.is_steady → IsTrue middle.is_steady
  -- what it read then
  pub reads : List (Option TabletRead)
  pub each : AreReadAfter s.schema s.leaves middle s.tablets reads
  pub counts : LeadTo middle.faults (flat_map causes_read reads) now.faults
  pub left_are : left ≡ left_round 0 reads

abbrev pub IsLeftWith : Outcome → List LinkShown → List LinkShown → List LeftTablet → Type 0
IsLeftWith (scans s) links now left = WithFirsts links now (LeavesTablets s left)
IsLeftWith (serves s n least) links now left = AreLeftOf s.schema s.leaves s.tablets (take n links) (first_shown now).faults left
    × (100 * (length s.tablets - length left) < least * length s.tablets) × IsClosed s (first_shown (take n links)) (first_shown now) left
IsLeftWith o links now left = ⊥

-- some of the tablets are left, just these; the others are the share that is asked for, and the text is theirs
abbrev pub HasMost : Outcome → List LinkShown → List LinkShown → List LeftTablet → List ℕ → Type 0
HasMost (serves s n least) links now left text = AreLeftOf s.schema s.leaves s.tablets (take n links) (first_shown now).faults left
    × IsShare least (length s.tablets - length left) (length s.tablets) × IsServedText s (take n links) left text
    × IsClosed s (first_shown (take n links)) (first_shown now) left
HasMost o links now left text = ⊥

-- the cause for which a file has no schema; nothing is known where the link doesn't tell
abbrev pub HasSchemaCause : FileCause → Held → Type 0
HasSchemaCause c untold = ⊤
HasSchemaCause c absent = ⊥
HasSchemaCause c (present bytes) = schema_of_file bytes ≡ Err c

abbrev pub IsSchemaCause : Held → Cause → Type 0
IsSchemaCause held (ReadFailed before after) = Rose before after
IsSchemaCause held BadFooter = HasSchemaCause bad_footer held
IsSchemaCause held BadSchema = HasSchemaCause bad_schema held
IsSchemaCause held BadCodec = HasSchemaCause bad_codec held
IsSchemaCause held BadData = HasSchemaCause bad_data held

-- a steady link doesn't fail at a path that it holds; a failed read alone moves its count, by one
abbrev pub LeavesFile : List ℕ → Cause → LinkShown → LinkShown → Type 0
LeavesFile path c l now = IsSchemaCause (held_at l.held path) c × (IsTrue l.is_steady → Holds l.held path → is_read c ≡ false) × LeadTo l.faults (c ∷ []) now.faults

abbrev pub IsFileLeft : Outcome → List LinkShown → List LinkShown → Cause → Type 0
IsFileLeft (looks_at path) links now c = WithFirsts links now (LeavesFile path c)
IsFileLeft o links now c = ⊥
