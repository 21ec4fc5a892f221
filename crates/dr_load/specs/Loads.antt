-- What a load puts, counts and leaves.
use Rattle.std.specs.Prelude.{◌≡◌, ◌≤◌, ℕ, true, false, ◌==◌, if◌then◌else◌, List, [], ◌∷◌, ◌++◌, length, Option, Some, None, ⊤, ◌⊎◌}
use Rattle.std.specs.List.{list_all}
use Rattle.dr_meaning.specs.Record.{Node, is_record}
use Rattle.dr_meaning.specs.Lines.{Refusal, Taken, lines_of, taken_from}
use Rattle.dr_formats.specs.Tablets.{tablets}
use Rattle.dr_formats.specs.TabletLaws.{all_records}
use Rattle.dr_formats.specs.TableFile.{most_tablets, table_text}
use Rattle.dr_formats.specs.WritingLaws.{is_limited}
use Rattle.dr_formats.specs.Loading.{Plan, Put, most_loaded, puts_from, put_at, table_of, full_tablets, load}
use Rattle.dr_outside.specs.Link.{Files, LinkShown}
use Rattle.dr_input.specs.Taken.{WhereTold, HasTaken}
use Rattle.dr_load.specs.Puts.{HoldsPut, HasPut, HasPutSome, BreaksOff}
use Rattle.dr_load.specs.declared.fault.LoadFault.{LoadFault}

-- why putting stopped: the keeper failed at one of the puts; or memory was wanting, at one of them or between them
abbrev pub StopsPutting : List Put → LinkShown → LinkShown → LoadFault → Type 0
StopsPutting ps before now LoadFault.NoMemory = HasPutSome ps before now ⊎ BreaksOff false ps before now
StopsPutting ps before now LoadFault.KeepFault = BreaksOff true ps before now
StopsPutting ps before now LoadFault.ReadFault = ⊤
StopsPutting ps before now (LoadFault.BadLine n w) = ⊤
StopsPutting ps before now (LoadFault.LineTooLong n) = ⊤
StopsPutting ps before now (LoadFault.TooManyRecords n) = ⊤

-- the tablets that are left where the input ends behind so many full ones and these records
abbrev pub last_tablets : ℕ → List Node → List (List Node)
last_tablets k [] = if k == 0 then [] ∷ [] else []
last_tablets k (r ∷ R) = (r ∷ R) ∷ []

-- the records of an input up to the first refused line, and that refusal
abbrev pub taken_of : Plan → List ℕ → Taken
taken_of p input = taken_from p.schema.fields (most_loaded p.rows) 1 (lines_of input)

-- the tablets that are put of records, behind which a line was refused or not
abbrev pub tablets_put : Plan → List Node → Option Refusal → List (List Node)
tablets_put p R None = tablets p.rows R
tablets_put p R (Some e) = full_tablets p.rows (tablets p.rows R)

-- the puts of tablets, without that of the table file
abbrev pub tablet_part : Plan → List ℕ → List Put
tablet_part p input = puts_from p 0 (tablets_put p (taken_of p input).records (taken_of p input).refusal)

-- some of the tablets that are to be put, from the front on, were put whole, and nothing else
abbrev pub HasPutTablets : Plan → List ℕ → LinkShown → LinkShown → Type 0
HasPutTablets p input before now = (ts : List (List Node)) × (us : List (List Node))
    × (tablets_put p (taken_of p input).records (taken_of p input).refusal ≡ ts ++ us)
    × HasPut (puts_from p 0 ts) before now

-- what a load that stopped leaves of the keeper: where a line is refused, all that comes before; where the source failed, whole tablets from the front on; where
-- the keeper failed, one of the puts is broken off; where memory was wanting, some of the tablets' puts, or one is broken off. In none is the put of the table file done
abbrev pub LeavesPuts : Plan → List ℕ → LinkShown → LinkShown → LoadFault → Type 0
LeavesPuts p input before now LoadFault.NoMemory = HasPutSome (tablet_part p input) before now ⊎ BreaksOff false (load p input).puts before now
LeavesPuts p input before now LoadFault.ReadFault = HasPutTablets p input before now
LeavesPuts p input before now LoadFault.KeepFault = BreaksOff true (load p input).puts before now
LeavesPuts p input before now (LoadFault.BadLine n w) = HasPut (load p input).puts before now
LeavesPuts p input before now (LoadFault.LineTooLong n) = HasPut (load p input).puts before now
LeavesPuts p input before now (LoadFault.TooManyRecords n) = HasPut (load p input).puts before now

-- each of these tablets has so many records
abbrev pub AllHave : ℕ → List (List Node) → Type 0
AllHave n [] = ⊤
AllHave n (t ∷ ts) = (length t ≡ n) × AllHave n ts

-- so many full tablets, with so many records, were taken of the input and put
pub record HasLoaded (p : Plan) (tablets records : ℕ) (input now : Option (List ℕ)) (before held : LinkShown) : Type 0 where
  pub full : List (List Node)
  pub are_full : AllHave p.rows full
  pub tablets_of : length full ≡ tablets
  pub records_of : length (all_records full) ≡ records
  pub are_records : list_all (is_record p.schema.fields) (all_records full) ≡ true
  pub limited : list_all is_limited (all_records full) ≡ true
  pub taken : HasTaken p.schema.fields (most_loaded p.rows) 0 (all_records full) input now
  pub put : HasPut (puts_from p 0 full) before held

-- some records were loaded, and so many tablets of them were put, and a table file where that is to be put: they are records of the schema, each within the limits
-- of a line; they are those of the input, of which no line is refused. So much is known of a source that doesn't tell, too, but for the last
pub record LoadsTable (p : Plan) (table : Option (List ℕ)) (count : ℕ) (input : Option (List ℕ)) (before now : Option Files) : Type 0 where
  pub records : List Node
  pub are_records : list_all (is_record p.schema.fields) records ≡ true
  pub limited : list_all is_limited records ≡ true
  pub tablets_of : length (tablets p.rows records) ≡ count
  pub few_tablets : count ≤ most_tablets
  pub put : HoldsPut (puts_from p 0 (tablets p.rows records) ++ put_at table (table_text (table_of p count))) before now
  pub taken : WhereTold input (λ bytes. taken_of p bytes ≡ record { records = records; refusal = None })
