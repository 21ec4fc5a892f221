-- How a run ends, in the world before and after it. What isn't said to change stays as it was.
use Rattle.std.specs.Prelude.{◌≡◌, ◌≢◌, ◌<◌, ℕ, zero, suc, true, false, IsTrue, List, [], ◌∷◌, codes, ◌⊎◌, ⊤, Option, Some, None, Ok, Bool}
use Rattle.dr_meaning.specs.Schema.{Schema}
use Rattle.dr_formats.specs.File.{schema_of_file}
use Rattle.dr_formats.specs.Reports.{left_file_text}
use Rattle.dr_outside.specs.Faults.{raised}
use Rattle.dr_outside.specs.Link.{Files, LinkShown}
use Rattle.dr_outside.specs.Sink.{SinkShown, AddedWhole, AddedFront}
use Rattle.dr_outside.specs.declared.cause.Cause.{Cause}
use Rattle.dr_reading.specs.Scan.{Scan}
use Rattle.dr_reading.specs.Premises.{EachHasFile}
use Rattle.dr_reading.specs.Left.{LeftTablet}
use Rattle.dr_reading.specs.LeftText.{told_cause, left_text}
use Rattle.dr_commands.specs.Refusals.{Refusal, refusal_text}
use Rattle.dr_commands.specs.Meaning.{Meaning, Outcome, scans, serves, looks_at, first_refusal, IsEarly}
use Rattle.dr_top.specs.World.{World, lent_in, IsFileOf, ForInput, outcome_on, RefusesAlways}
use Rattle.dr_top.specs.Reading.{IsLeftWith, HasMost, IsFileLeft}
use Rattle.dr_top.specs.Keeping.{IsUnput, KeepsFile, RefusesSo, PutsSome, PutsGiven, PutsBreak}
use Rattle.dr_top.specs.Stops.{IsReadBy}
use Rattle.dr_top.specs.Talking.{SpeaksFront, WritesBefore, WritesGiven, WritesWanting}
use Rattle.dr_top.specs.Answers.{Finishes, AsksMeant, LeavesUnread, LeavesUnput, LeavesUnasked, AsksEach}

-- ---- words of the clauses

-- the words mean something, and P holds of that before and after
abbrev pub Holds : Option Meaning → (Meaning → World → World → Type 0) → World → World → Type 0
Holds None P before after = ⊥
Holds (Some m) P before after = P m before after

-- the words mean something, and P holds of that
abbrev pub ForMeant : Option Meaning → (Meaning → Type 0) → Type 0
ForMeant None P = ⊥
ForMeant (Some m) P = P m

-- err gained the line, or a front of it and its count rose by one
abbrev pub Says : SinkShown → SinkShown → List ℕ → Type 0
Says before after text =
    (AddedWhole before after text × (after.faults ≡ before.faults)) ⊎ (AddedFront before after text × (after.faults ≡ raised before.faults))

-- a count rose by one, or stands at its last value
abbrev pub HasRisen : ℕ → ℕ → Type 0
HasRisen before after = after ≡ raised before

-- the counts of the input, of out and of the keeper are what they were
pub record SameCounts (before after : World) : Type 0 where
  pub input : after.input.faults ≡ before.input.faults
  pub out : after.out.faults ≡ before.out.faults
  pub keeper : after.keeper.faults ≡ before.keeper.faults

-- none of these counts rose
pub record IsCalm (before after : World) : Type 0 where
  pub input : HasRisen before.input.faults after.input.faults → ⊥
  pub out : HasRisen before.out.faults after.out.faults → ⊥
  pub keeper : HasRisen before.keeper.faults after.keeper.faults → ⊥

-- ---- statuses

-- 0: the whole text was written, the input read to its end or left alone, and the files put; nothing was said
abbrev pub Prints : Meaning → World → World → Type 0
Prints m before after = (text : List ℕ) × AddedWhole before.out after.out text
    × Finishes m (lent_in before) (lent_in after) text
    × IsReadBy m.reads_input before.input after.input
    × (after.err ≡ before.err)

-- 1: the words mean nothing; err has the usage text, and all else stays
abbrev pub IsUsage : Option Meaning → World → World → Type 0
IsUsage meant before after = (meant ≡ None)
    × Says before.err after.err (codes "usage: dremel load|query|ask|dump|stripe|fsm|schema|explain|gen|trial|session ..\n")
    × (after.input ≡ before.input) × (after.out ≡ before.out) × (after.keeper ≡ before.keeper) × (after.links ≡ before.links)

-- 2: the first refusal, which err names; the links stay, and out, but that a command that talks has written the text of the lines before the refused one.
-- Where it isn't a line of the input that is refused, the refusal is that of the file and the words whatever the input, and the input and what the keeper
-- holds stay
abbrev pub IsRefused : Meaning → World → World → Type 0
IsRefused m before after = (r : Refusal) × Says before.err after.err (refusal_text r)
    × ((text : List ℕ) × RefusesSo m r text (lent_in before) (lent_in after) × WritesBefore m r text before.out after.out)
    × (after.links ≡ before.links)

-- 3, tablets: the command asks a link; just these are left, each with a cause for each of its copies, which err tells; all else stays
abbrev pub TabletsLeft : Meaning → World → World → Type 0
TabletsLeft m before after = (left : List LeftTablet) × (0 < m.links) × Says before.err after.err (left_text left)
    × ((file : List ℕ) × IsFileOf m before.keeper file × IsLeftWith (outcome_on m file []) before.links after.links left)
    × (after.out ≡ before.out) × (after.input ≡ before.input) × IsUnput before.keeper after.keeper

-- 3, a file: the command asks a link; its cause, which err tells; all else stays
abbrev pub FileLeft : Meaning → World → World → Type 0
FileLeft m before after = (c : Cause) × (0 < m.links) × Says before.err after.err (left_file_text (told_cause c))
    × ((file : List ℕ) × IsFileOf m before.keeper file × IsFileLeft (outcome_on m file []) before.links after.links c)
    × (after.out ≡ before.out) × (after.input ≡ before.input) × IsUnput before.keeper after.keeper

abbrev pub IsLeft : Meaning → World → World → Type 0
IsLeft m before after = TabletsLeft m before after ⊎ FileLeft m before after

-- some tablets are left, just these, and the others are the share that the command asks for, of which this is the text; the input stays, and what
-- the keeper holds
abbrev pub EndsBut : Meaning → World → World → List LeftTablet → List ℕ → Type 0
EndsBut m before after left text = (0 < m.links)
    × ((file : List ℕ) × IsFileOf m before.keeper file × HasMost (outcome_on m file []) before.links after.links left text)
    × (after.input ≡ before.input) × IsUnput before.keeper after.keeper

-- 6: that text was wholly written, and err tells what is left
abbrev pub PrintsMost : Meaning → World → World → Type 0
PrintsMost m before after = (text : List ℕ) × (left : List LeftTablet) × AddedWhole before.out after.out text
    × Says before.err after.err (left_text left) × EndsBut m before after left text

-- 4, the input: nothing before it is refused, nor is a whole line that the source gave; of the files that are to be put those from the front on were put,
-- without the last one, and just those that are put before the line behind those that the source gave; out stays, but that a command that talks has
-- written the text of the lines that the source gave
abbrev pub SourceFailed : Meaning → World → World → Type 0
SourceFailed m before after = Says before.err after.err (codes "outside: source\n")
    × HasRisen before.input.faults after.input.faults
    × (given : PutsGiven m (lent_in before) (lent_in after)) × WritesGiven m given.file before after
    × (after.keeper.faults ≡ before.keeper.faults) × (after.links ≡ before.links)

-- 4, the keeper, which isn't steady with the file there: it failed as the file was read, and the input and what it holds stay, or at one of the
-- files that are to be put, where nothing before the input is refused
abbrev pub KeeperFailed : Meaning → World → World → Type 0
KeeperFailed m before after = Says before.err after.err (codes "outside: keeper\n")
    × HasRisen before.keeper.faults after.keeper.faults × (KeepsFile m before.keeper → ⊥)
    × (((after.input ≡ before.input) × IsUnput before.keeper after.keeper) ⊎ PutsBreak true m (lent_in before) (lent_in after))
    × (after.input.faults ≡ before.input.faults) × (after.out ≡ before.out) × (after.links ≡ before.links)

-- the text is whole, and the input read to its end or left alone
abbrev pub EndsWhole : Meaning → World → World → List ℕ → Type 0
EndsWhole m before after text = Finishes m (lent_in before) (lent_in after) text
    × IsReadBy m.reads_input before.input after.input

-- 4, out: it holds a front of the text, which is whole, or that of most tablets, or of a command that talks that of the first lines that the source gave;
-- and no more was asked of it than it took to find that
abbrev pub OutFailed : Meaning → World → World → Type 0
OutFailed m before after = (text : List ℕ) × Says before.err after.err (codes "outside: out\n")
    × (EndsWhole m before after text ⊎ (((left : List LeftTablet) × EndsBut m before after left text) ⊎ SpeaksFront m before after text))
    × HasRisen before.out.faults after.out.faults
    × AddedFront before.out after.out text
    × (after.keeper.faults ≡ before.keeper.faults) × (after.input.faults ≡ before.input.faults)

abbrev pub IsOutside : Meaning → World → World → Type 0
IsOutside m before after = SourceFailed m before after ⊎ (KeeperFailed m before after ⊎ OutFailed m before after)

-- the files that words of this meaning put, where memory ran out: some from the front on, or one that may be broken off
abbrev pub PutsMeant : Option Meaning → World → World → Type 0
PutsMeant None before after = after.keeper ≡ before.keeper
PutsMeant (Some m) before after = PutsSome m (lent_in before) (lent_in after) ⊎ PutsBreak false m (lent_in before) (lent_in after)

-- 5: want of memory; nothing was printed, but that a command that talks may have written the text of the first lines that the source gave
abbrev pub IsMemory : Option Meaning → World → World → Type 0
IsMemory meant before after = Says before.err after.err (codes "no memory\n") × WritesWanting meant before after × PutsMeant meant before after

-- ---- at every status

-- the first where the input is read and isn't told, else the second
abbrev pub ByInput : Bool → Option (List ℕ) → Type 0 → Type 0 → Type 0
ByInput true None untold told = untold
ByInput true (Some bytes) untold told = told
ByInput false left untold told = told

-- the command has this refusal; of an input that is read and isn't told, it is one that comes before the input
abbrev pub Refuses : World → Meaning → Refusal → Type 0
Refuses before m r = (file : List ℕ) × IsFileOf m before.keeper file
    × ByInput m.reads_input before.input.left (IsEarly r × RefusesAlways (outcome_on m file) r)
    (ForInput m.reads_input before.input.left (λ input. first_refusal (outcome_on m file input) ≡ Some r))

-- nothing that the command looks at is refused: its schema or table, its FIELDs, its directories, its query, the input's lines where they are told
abbrev pub IsAccepted : World → Meaning → Type 0
IsAccepted before m = (r : Refusal) → Refuses before m r → ⊥

-- the input is read and isn't told: whether one of its lines is refused isn't known
abbrev pub IsUntold : World → Meaning → Type 0
IsUntold before m = ByInput m.reads_input before.input.left ⊤ ⊥

-- an input that isn't read stays
abbrev pub LeavesInput : Option Meaning → World → World → Type 0
LeavesInput meant before after = LeavesUnread meant before.input after.input

-- a keeper to which nothing is put holds what it held, and is asked for no put
abbrev pub LeavesFiles : Option Meaning → World → World → Type 0
LeavesFiles meant before after = LeavesUnput meant before.keeper after.keeper

-- the keeper is asked for the length of the file that the words name, then for its bytes, each at most once, and for nothing else
abbrev pub AsksKeeper : Option Meaning → World → World → Type 0
AsksKeeper meant before after = AsksMeant meant before.keeper after.keeper

-- links that the command doesn't ask stay as they were, and those that it asks, the first ones, hold what they held
abbrev pub LeavesLinks : Option Meaning → World → World → Type 0
LeavesLinks meant before after = LeavesUnasked meant before.links after.links

-- nor is one asked for anything but what the command's scan, the query that it serves, or its look at a file needs
abbrev pub AsksLinks : Option Meaning → World → World → Type 0
AsksLinks meant before after = AsksEach meant (lent_in before) (lent_in after)

-- where the words mean something of which nothing is refused, and no count rises, the status is 0 or 5, or 3 or 6 where a link is asked, or 2
-- where the input isn't told
abbrev pub IsComplete : Option Meaning → ℕ → World → World → Type 0
IsComplete meant status before after = ForMeant meant (IsAccepted before) → IsCalm before after
    → (status ≡ 0) ⊎ ((status ≡ 5) ⊎ ((((status ≡ 3) ⊎ (status ≡ 6)) × ForMeant meant (λ m. 0 < m.links)) ⊎ ((status ≡ 2) × ForMeant meant (IsUntold before))))

-- the command scans a table so, or serves a query over it
abbrev pub ScansTable : Scan → Outcome → Type 0
ScansTable scan (scans s) = s ≡ scan
ScansTable scan (serves s zero least) = ⊥
ScansTable scan (serves s (suc n) least) = s ≡ scan
ScansTable scan o = ⊥

-- the table file that the words name is there; the first link is steady, and tells that of each tablet that the command scans a copy is a file,
-- for the leaves that it reads
pub record IsHeldWhole (m : Meaning) (w : World) : Type 0 where
  pub path : List ℕ
  pub kept : Files
  pub file : List ℕ
  pub scan : Scan
  pub first : LinkShown
  pub others : List LinkShown
  pub files : Files
  pub named : m.file ≡ Some path
  pub reads_nothing : m.reads_input ≡ false
  pub keeps : w.keeper.held ≡ Some kept
  pub there : kept path ≡ Some file
  pub scans_it : ScansTable scan (m.outcome (record { file = file; input = [] }))
  pub links : w.links ≡ first ∷ others
  pub tells : first.held ≡ Some files
  pub steady : IsTrue first.is_steady
  pub each : EachHasFile scan.schema scan.leaves files scan.tablets

-- the command looks at a file alone; the first link is steady, and tells that this file has a schema
pub record IsSchemaHeld (m : Meaning) (w : World) : Type 0 where
  pub path : List ℕ
  pub first : LinkShown
  pub others : List LinkShown
  pub files : Files
  pub bytes : List ℕ
  pub schema : Schema
  pub names_none : m.file ≡ None
  pub reads_nothing : m.reads_input ≡ false
  pub looks_at_it : m.outcome (record { file = []; input = [] }) ≡ looks_at path
  pub links : w.links ≡ first ∷ others
  pub tells : first.held ≡ Some files
  pub steady : IsTrue first.is_steady
  pub there : files path ≡ Some bytes
  pub shows : schema_of_file bytes ≡ Ok schema

-- then neither a tablet nor that file is left
abbrev pub IsServed : Option Meaning → ℕ → World → Type 0
IsServed None status before = ⊤
IsServed (Some m) status before = IsHeldWhole m before ⊎ IsSchemaHeld m before → (status ≢ 3) × (status ≢ 6)
