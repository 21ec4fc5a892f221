-- What stops a command, and what each stop says of what the command is lent.
use Rattle.std.specs.Prelude.{◌≡◌, ◌<◌, ℕ, Bool, true, false, List, [], Option, Some, Result, Err, ⊤, ◌⊎◌, string_bytes}
use Rattle.dr_meaning.specs.Schema.{Fields}
use Rattle.dr_meaning.specs.Lines as line
use Rattle.dr_meaning.specs.Refusals as plain
use Rattle.dr_table.specs.Faults.{problem_view as table_problem_view}
use Rattle.dr_table.specs.declared.fault.TableFault.{TableFault}
use Rattle.dr_file.specs.declared.file_fault.FileFault.{FileFault}
use Rattle.dr_load.specs.declared.fault.LoadFault.{LoadFault}
use Rattle.dr_nested.specs.Faults.{problem_view, path_problem_view}
use Rattle.dr_nested.specs.declared.fault.SchemaFault.{SchemaFault}
use Rattle.dr_input.specs.Taken.{AcceptsRead, WhereTold}
use Rattle.dr_input.specs.Faults.{line_problem_view}
use Rattle.dr_input.specs.declared.fault.LineProblem.{LineProblem}
use Rattle.dr_session.specs.Faults.{problem_view as session_problem_view}
use Rattle.dr_input.specs.declared.fault.InputFault.{InputFault}
use Rattle.dr_outside.specs.Faults.{raised}
use Rattle.dr_outside.specs.Source.{SourceShown}
use Rattle.dr_outside.specs.Link.{LinkShown}
use Rattle.dr_outside.specs.declared.fault.Fault.{Fault}
use Rattle.dr_commands.specs.Refusals.{Refusal as Refused, schema_refused, table_refused, field_refused, words_refused, query_refused, line_refused, session_refused}
use Rattle.dr_commands.specs.Meaning.{Meaning, Outcome, refused, IsEarly}
use Rattle.dr_words.specs.declared.words_fault.WordsFault.{WordsFault}
use Rattle.dr_top.specs.World.{Lent, IsFileOf, outcome_on, Opens, RefusesAlways, Accepts}
use Rattle.dr_top.specs.Keeping.{IsUnput, KeepsFile, PutsSome, PutsGiven, PutsBreak, RefusesSo}
use Rattle.dr_top.specs.Reading.{IsLeftWith, HasMost, IsFileLeft, LeavesFile}
use Rattle.dr_table.specs.LeftViews.{all_left_view}
use Rattle.dr_load.specs.Words.{words_problem_view}
use Rattle.dr_load.specs.declared.words.WordsProblem.{WordsProblem}
use Rattle.dr_sub.specs.Texts.{refusal_of as query_refusal_of}
use Rattle.dr_sub.specs.declared.refusal.TextFault.{TextFault}
use Rattle.dr_top.specs.declared.refusal.Refusal.{Refusal}
use Rattle.dr_top.specs.declared.field.FieldFault.{FieldFault}
use Rattle.dr_top.specs.declared.stop.Stop.{Stop}

-- ---- refusals

abbrev pub refusal_view : Refusal → Refused
refusal_view (Refusal.Schema p w) = schema_refused (record { place = p; problem = problem_view w })
refusal_view (Refusal.Field n w) = field_refused n (path_problem_view w)
refusal_view (Refusal.Table w) = table_refused (table_problem_view w)
refusal_view (Refusal.Words w) = words_refused (words_problem_view w)
refusal_view (Refusal.Query place p) = query_refused (query_refusal_of place p)
refusal_view (Refusal.Line n w) = line_refused (record { line = n; fault = line_problem_view w })
refusal_view (Refusal.Session n w) = session_refused (record { line = n; fault = session_problem_view w })

-- ---- the file that a command names

-- the keeper failed, which isn't steady with the file there; or this is refused of the file, whatever the input
abbrev pub StopsUnread : Meaning → LinkShown → LinkShown → Stop → Type 0
StopsUnread m keeper keeper_now Stop.NoMemory = keeper_now.faults ≡ keeper.faults
StopsUnread m keeper keeper_now Stop.Keeper = (keeper_now.faults ≡ raised keeper.faults) × (KeepsFile m keeper → ⊥)
StopsUnread m keeper keeper_now (Stop.Refused r) = (keeper_now.faults ≡ keeper.faults)
    × ((file : List ℕ) × IsFileOf m keeper file × RefusesAlways (outcome_on m file) (refusal_view r))
StopsUnread m keeper keeper_now stop = ⊥

-- ---- a FIELD

-- the leaf that a FIELD of this number names, or why it is refused; want of memory may come in place of either
abbrev pub FieldStops : {A : Type 0} → Result A plain.CommandRefusal → FieldFault → Type 0
FieldStops meant FieldFault.NoMemory = ⊤
FieldStops meant (FieldFault.Refused n w) = meant ≡ Err (plain.field_refused n (path_problem_view w))

-- ---- the records of the input

-- a line of the input is the first that is refused, so
abbrev pub IsRefusedLine : Fields → ℕ → Option (List ℕ) → line.Refusal → Type 0
IsRefusedLine fs most input e = WhereTold input (λ bytes. line.records_of fs most bytes ≡ Err e)

-- why an input gives no records: memory was wanting; the source failed, and no whole line that it gave is refused; the first refused line
abbrev pub InputStops : Fields → ℕ → SourceShown → SourceShown → InputFault → Type 0
InputStops fs most before now InputFault.NoMemory = now.faults ≡ before.faults
InputStops fs most before now InputFault.Source = (now.faults ≡ raised before.faults) × AcceptsRead fs most 0 before.left now.left
InputStops fs most before now (InputFault.Refused n w) =
    (now.faults ≡ before.faults) × IsRefusedLine fs most before.left (record { line = n; fault = line_problem_view w })

-- ---- a look at a file's schema

-- why a file gives no schema
abbrev pub SchemaStops : List ℕ → LinkShown → LinkShown → Stop → Type 0
SchemaStops path link link_now Stop.NoMemory = ⊤
SchemaStops path link link_now (Stop.LeftFile cause) = LeavesFile path cause link link_now
SchemaStops path link link_now stop = ⊥

-- ---- a command, by its outcome on its file and on an input

-- before the input is asked: this is refused, whatever the input
abbrev pub StopsEarly : (List ℕ → Outcome) → Stop → Type 0
StopsEarly on Stop.NoMemory = ⊤
StopsEarly on (Stop.Refused r) = RefusesAlways on (refusal_view r)
StopsEarly on stop = ⊥

-- one that reads the input, by its outcome on each; what comes before the input is refused before it is asked
abbrev pub StopsReading : (List ℕ → Outcome) → SourceShown → SourceShown → Stop → Type 0
StopsReading on input input_now Stop.NoMemory = input_now.faults ≡ input.faults
StopsReading on input input_now Stop.Source = (input_now.faults ≡ raised input.faults) × Opens on × Accepts on input input_now
StopsReading on input input_now (Stop.Refused r) =
    (input_now.faults ≡ input.faults) × WhereTold input.left (λ lines. on lines ≡ refused (refusal_view r) [])
    × (IsEarly (refusal_view r) → (input_now ≡ input) × RefusesAlways on (refusal_view r))
StopsReading on input input_now stop = ⊥

-- one that asks links; they are asked for nothing where its file or its words are refused
abbrev pub StopsAsking : Outcome → List LinkShown → List LinkShown → Stop → Type 0
StopsAsking o links links_now Stop.NoMemory = ⊤
StopsAsking o links links_now (Stop.Refused r) = (links_now ≡ links) × (o ≡ refused (refusal_view r) [])
StopsAsking o links links_now (Stop.Left left) = IsLeftWith o links links_now (all_left_view left.items)
StopsAsking o links links_now (Stop.Most text left) = HasMost o links links_now (all_left_view left.items) (string_bytes text)
StopsAsking o links links_now (Stop.LeftFile cause) = IsFileLeft o links links_now cause
StopsAsking o links links_now stop = ⊥

-- ---- any command

-- what a command is stopped by, with what it leaves of what it is lent
abbrev pub StopsWith : Meaning → Lent → Lent → Stop → Type 0
StopsWith m before after Stop.Usage = ⊥
StopsWith m before after Stop.NoMemory =
    (after.keeper.faults ≡ before.keeper.faults) × (after.input.faults ≡ before.input.faults) × (PutsSome m before after ⊎ PutsBreak false m before after)
StopsWith m before after Stop.Keeper =
    (after.keeper.faults ≡ raised before.keeper.faults) × (after.input.faults ≡ before.input.faults) × (after.links ≡ before.links) × (KeepsFile m before.keeper → ⊥)
    × (((after.input ≡ before.input) × IsUnput before.keeper after.keeper) ⊎ PutsBreak true m before after)
StopsWith m before after Stop.Source =
    (after.input.faults ≡ raised before.input.faults) × (after.keeper.faults ≡ before.keeper.faults) × (after.links ≡ before.links)
    × PutsGiven m before after × (m.talks ≡ false)
StopsWith m before after (Stop.Refused r) =
    (after.keeper.faults ≡ before.keeper.faults) × (after.input.faults ≡ before.input.faults) × (after.links ≡ before.links)
    × RefusesSo m (refusal_view r) [] before after
StopsWith m before after (Stop.Left left) =
    (after.keeper.faults ≡ before.keeper.faults) × (0 < m.links) × (after.input ≡ before.input) × IsUnput before.keeper after.keeper
    × ((file : List ℕ) × IsFileOf m before.keeper file × IsLeftWith (outcome_on m file []) before.links after.links (all_left_view left.items))
StopsWith m before after (Stop.Most text left) =
    (after.keeper.faults ≡ before.keeper.faults) × (0 < m.links) × (after.input ≡ before.input) × IsUnput before.keeper after.keeper
    × ((file : List ℕ) × IsFileOf m before.keeper file × HasMost (outcome_on m file []) before.links after.links (all_left_view left.items) (string_bytes text))
StopsWith m before after (Stop.LeftFile cause) =
    (after.keeper.faults ≡ before.keeper.faults) × (0 < m.links) × (after.input ≡ before.input) × IsUnput before.keeper after.keeper
    × ((file : List ℕ) × IsFileOf m before.keeper file × IsFileLeft (outcome_on m file []) before.links after.links cause)

-- the input was read to its end, or left alone where it isn't read
abbrev pub IsReadBy : Bool → SourceShown → SourceShown → Type 0
IsReadBy true before now = WhereTold before.left (λ _. now.left ≡ Some [])
IsReadBy false before now = now ≡ before

-- ---- the stops that faults are handed on as

abbrev pub words_stop : WordsFault → Stop
words_stop WordsFault.Usage = Stop.Usage
words_stop WordsFault.NoMemory = Stop.NoMemory

abbrev pub schema_stop : SchemaFault → Stop
schema_stop SchemaFault.NoMemory = Stop.NoMemory
schema_stop (SchemaFault.Refused p w) = Stop.Refused (Refusal.Schema p w)

abbrev pub table_stop : TableFault → Stop
table_stop TableFault.NoMemory = Stop.NoMemory
table_stop (TableFault.Refused w) = Stop.Refused (Refusal.Table w)

abbrev pub keeper_stop : Fault → Stop
keeper_stop Fault.Failed = Stop.Keeper
keeper_stop Fault.NoMemory = Stop.NoMemory

abbrev pub words_problem_stop : WordsProblem → Stop
words_problem_stop w = Stop.Refused (Refusal.Words w)

abbrev pub load_stop : LoadFault → Stop
load_stop LoadFault.NoMemory = Stop.NoMemory
load_stop (LoadFault.BadLine n w) = Stop.Refused (Refusal.Line n (LineProblem.Record w))
load_stop (LoadFault.LineTooLong n) = Stop.Refused (Refusal.Line n LineProblem.TooLong)
load_stop (LoadFault.TooManyRecords n) = Stop.Refused (Refusal.Line n LineProblem.TooManyRecords)
load_stop LoadFault.ReadFault = Stop.Source
load_stop LoadFault.KeepFault = Stop.Keeper

abbrev pub field_stop : FieldFault → Stop
field_stop FieldFault.NoMemory = Stop.NoMemory
field_stop (FieldFault.Refused n w) = Stop.Refused (Refusal.Field n w)

abbrev pub query_stop : TextFault → Stop
query_stop TextFault.NoMemory = Stop.NoMemory
query_stop (TextFault.Refused place p) = Stop.Refused (Refusal.Query place p)

abbrev pub input_stop : InputFault → Stop
input_stop InputFault.NoMemory = Stop.NoMemory
input_stop InputFault.Source = Stop.Source
input_stop (InputFault.Refused n w) = Stop.Refused (Refusal.Line n w)

abbrev pub file_stop : FileFault → Stop
file_stop FileFault.NoMemory = Stop.NoMemory
file_stop (FileFault.Why c) = Stop.LeftFile c
