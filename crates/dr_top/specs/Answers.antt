-- What the words of a command line are answered with.
use Rattle.std.specs.Prelude.{◌≡◌, true, false, List, [], ◌∷◌, ◌++◌, ℕ, zero, suc, ⊤, ◌⊎◌, Option, Some, None}
use Rattle.dr_meaning.specs.Schema.{Schema}
use Rattle.dr_sub_meaning.specs.Session.{spoken}
use Rattle.dr_nested.specs.SchemaView.{schema_view}
use Rattle.dr_formats.specs.Opening.{Range, end_ranges, footer_ranges}
use Rattle.dr_outside.specs.Source.{SourceShown}
use Rattle.dr_outside.specs.Link.{LinkShown}
use Rattle.dr_load.specs.Puts.{HasPut}
use Rattle.dr_file.specs.Asking.{is_for_path, is_request_for}
use Rattle.dr_scan.specs.Asked.{AsksHeld, AsksForTablets}
use Rattle.dr_commands.specs.Meaning.{Meaning, Outcome, done, refused, scans, serves, looks_at, stops, puts_in}
use Rattle.dr_commands.specs.Session.{session_outcome}
use Rattle.dr_top.specs.World.{Lent, IsFileOf, ForInput, outcome_on, OpensBy, WithEach}
use Rattle.dr_top.specs.Reading.{HasText}
use Rattle.dr_top.specs.Keeping.{IsUnput, AsksForFile}
use Rattle.dr_top.specs.Printed.{printed}
use Rattle.dr_top.specs.Stops.{StopsWith, IsReadBy}
use Rattle.dr_top.specs.declared.reply.Reply.{Reply}
use Rattle.dr_top.specs.declared.stop.Stop.{Stop}

-- an outcome has this text, and its files are put, in their order
abbrev pub Gives : Lent → Lent → List ℕ → Outcome → Type 0
Gives before after text o = HasText o before.links after.links text × HasPut (puts_in o) before.keeper after.keeper

-- what a command of this meaning gives
pub record Finishes (m : Meaning) (before after : Lent) (text : List ℕ) : Type 0 where
  -- the file that it read
  pub file : List ℕ
  pub is_file : IsFileOf m before.keeper file
  -- on the input, where that is told
  pub gives : ForInput m.reads_input before.input.left (λ input. Gives before after text (outcome_on m file input))
  -- nothing that comes before an input that it reads is refused, also where that isn't told
  pub opens : OpensBy m.reads_input (outcome_on m file)

-- a session is to begin: of its file the schema was read, and nothing else was asked for
pub record BeginsTalk (m : Meaning) (before after : Lent) (s : Schema) : Type 0 where
  pub talks : m.talks ≡ true
  pub reads : m.reads_input ≡ true
  pub file : List ℕ
  pub is_file : IsFileOf m before.keeper file
  -- on each input it comes to what that input's lines print
  pub speaks : (input : List ℕ) → outcome_on m file input ≡ session_outcome (spoken s input)
  pub unread : after.input ≡ before.input
  pub unput : IsUnput before.keeper after.keeper
  pub links : after.links ≡ before.links

-- what a command replies: a text that is held, with the input read to its end or left alone; or a session
abbrev pub Replies : Meaning → Lent → Lent → Reply → Type 0
Replies m before after (Reply.Whole output) = Finishes m before after (printed output) × IsReadBy m.reads_input before.input after.input
Replies m before after (Reply.Talk schema) = BeginsTalk m before after (schema_view schema)

-- what words of this meaning are stopped by; those that mean nothing leave all as it was
abbrev pub StopsMeant : Option Meaning → Lent → Lent → Stop → Type 0
StopsMeant (Some m) before after stop = StopsWith m before after stop
StopsMeant None before after Stop.Usage = after ≡ before
StopsMeant None before after Stop.NoMemory = after ≡ before
StopsMeant None before after stop = ⊥

-- the keeper is asked for the file that a meaning names, if any, and for nothing else
abbrev pub AsksFor : Option (List ℕ) → LinkShown → LinkShown → Type 0
AsksFor None keeper keeper_now = keeper_now.asked ≡ keeper.asked
AsksFor (Some path) keeper keeper_now = AsksForFile path keeper keeper_now

abbrev pub AsksMeant : Option Meaning → LinkShown → LinkShown → Type 0
AsksMeant (Some m) keeper keeper_now = AsksFor m.file keeper keeper_now
AsksMeant None keeper keeper_now = keeper_now ≡ keeper

-- an input that isn't read stays
abbrev pub LeavesUnread : Option Meaning → SourceShown → SourceShown → Type 0
LeavesUnread (Some m) input input_now = m.reads_input ≡ false → input_now ≡ input
LeavesUnread None input input_now = input_now ≡ input

-- a keeper to which nothing is put holds what it held, and is asked for no put
abbrev pub LeavesUnput : Option Meaning → LinkShown → LinkShown → Type 0
LeavesUnput (Some m) keeper keeper_now = m.puts_files ≡ false → IsUnput keeper keeper_now
LeavesUnput None keeper keeper_now = keeper_now ≡ keeper

-- the first links, so many, hold what they held, and the others are as they were
abbrev pub LeavesLinksBy : ℕ → List LinkShown → List LinkShown → Type 0
LeavesLinksBy zero links links_now = links_now ≡ links
LeavesLinksBy (suc n) [] [] = ⊤
LeavesLinksBy (suc n) (l ∷ ls) (k ∷ ks) = (k.held ≡ l.held) × LeavesLinksBy n ls ks
LeavesLinksBy (suc n) links links_now = ⊥

abbrev pub LeavesUnasked : Option Meaning → List LinkShown → List LinkShown → Type 0
LeavesUnasked (Some m) links links_now = LeavesLinksBy m.links links links_now
LeavesUnasked None links links_now = links_now ≡ links

-- the ranges that show a file's schema; none where nothing is held
abbrev pub schema_ranges : Option (List ℕ) → List Range
schema_ranges None = []
schema_ranges (Some bytes) = end_ranges bytes ++ footer_ranges bytes

-- what a link is asked for: by a scan, or by a query that it serves, for the files of the tablets, in the ranges of its leaves; by a look at a file
-- for that file, in the ranges of its schema; else for nothing. Of a link that doesn't tell what it holds, the files alone are said
abbrev pub AsksLink : Outcome → LinkShown → LinkShown → Type 0
AsksLink (scans s) link now = AsksForTablets s.leaves s.tablets link now
AsksLink (serves s n least) link now = AsksForTablets s.leaves s.tablets link now
AsksLink (looks_at path) link now = AsksHeld (is_for_path path) (λ files. is_request_for path (schema_ranges (files path))) link.held link.asked now.asked
AsksLink (done text puts) link now = now.asked ≡ link.asked
AsksLink (refused r puts) link now = now.asked ≡ link.asked
AsksLink (stops text r) link now = now.asked ≡ link.asked

-- each link is asked for that by the outcome on the file that was read; a command that asks links reads no input
abbrev pub AsksNeeded : Meaning → Lent → Lent → Type 0
AsksNeeded m before after = (file : List ℕ) × IsFileOf m before.keeper file × WithEach before.links after.links (AsksLink (outcome_on m file []))

-- no link is asked for anything, or for anything else, whatever comes of it
abbrev pub AsksEach : Option Meaning → Lent → Lent → Type 0
AsksEach (Some m) before after = (after.links ≡ before.links) ⊎ AsksNeeded m before after
AsksEach None before after = after.links ≡ before.links
