-- What one link reads of the tablets of a table, one after another: of each its copies in their order, until one gives records.
use Rattle.std.specs.Prelude.{◌≡◌, ◌≢◌, ℕ, suc, ⊤, List, [], ◌∷◌}
use Rattle.std.specs.List.{flat_map}
use Rattle.dr_meaning.specs.Schema.{Schema}
use Rattle.dr_meaning.specs.Path.{Leaf}
use Rattle.dr_meaning.specs.Record.{Node}
use Rattle.dr_outside.specs.Link.{LinkShown}
use Rattle.dr_outside.specs.declared.cause.Cause.{Cause}
use Rattle.dr_reading.specs.Causes.{LeadTo}
use Rattle.dr_reading.specs.Scan.{Copy}
use Rattle.dr_reading.specs.Given.{IsGiven}
use Rattle.dr_reading.specs.Left.{Tried, LeftTablet, IsCauseAt, AreTried, causes_of}

-- what is read of a tablet: the copies that gave nothing, in the order in which they were tried, and the records that the next one gave,
-- unless all copies were tried so
pub data TabletRead : Type 0 where
  read_given : List Tried → List Node → TabletRead
  read_left : List Tried → TabletRead

-- the first of these copies to give records gives these: those before it were tried, each with a cause
abbrev pub FirstGives : Schema → List Leaf → LinkShown → List Copy → List Tried → List Node → Type 0
FirstGives s F link [] ts R = ⊥
FirstGives s F link (c ∷ cs) [] R = IsGiven s F link.held (c ∷ []) R
FirstGives s F link (c ∷ cs) (t ∷ ts) R = (t.directory ≡ c.directory) × IsCauseAt s F link c.path t.cause × FirstGives s F link cs ts R

abbrev pub IsTabletRead : Schema → List Leaf → LinkShown → List Copy → TabletRead → Type 0
IsTabletRead s F link cs (read_given ts R) = FirstGives s F link cs ts R
IsTabletRead s F link cs (read_left ts) = AreTried s F link cs ts

-- so each tablet
abbrev pub AreRead : Schema → List Leaf → LinkShown → List (List Copy) → List TabletRead → Type 0
AreRead s F link [] [] = ⊤
AreRead s F link (cs ∷ ts) (r ∷ rs) = IsTabletRead s F link cs r × AreRead s F link ts rs
AreRead s F link ts rs = ⊥

-- the causes for which copies gave nothing, in the order in which they were met
abbrev pub causes_at : TabletRead → List Cause
causes_at (read_given ts R) = causes_of ts
causes_at (read_left ts) = causes_of ts

abbrev pub causes_in : List TabletRead → List Cause
causes_in rs = flat_map causes_at rs

-- the tablets of which no copy gave records; the first tablet is the tth
abbrev pub left_from : ℕ → List TabletRead → List LeftTablet
left_from t [] = []
left_from t (read_given ts R ∷ rs) = left_from (suc t) rs
left_from t (read_left ts ∷ rs) = record { tablet = t; tried = ts } ∷ left_from (suc t) rs

-- the records of the other tablets, in order
abbrev pub records_in : List TabletRead → List (List Node)
records_in [] = []
records_in (read_given ts R ∷ rs) = R ∷ records_in rs
records_in (read_left ts ∷ rs) = records_in rs

-- the link reads these tablets so, until it shows what it shows now: the failed reads among the causes are all that raised its count of faults
pub record ReadsInTurn (s : Schema) (F : List Leaf) (link now : LinkShown) (ts : List (List Copy)) (rs : List TabletRead) : Type 0 where
  pub each : AreRead s F link ts rs
  pub counts : LeadTo link.faults (causes_in rs) now.faults

-- no tablet is left: they give these records
abbrev pub GiveInTurn : Schema → List Leaf → LinkShown → LinkShown → List (List Copy) → List (List Node) → Type 0
GiveInTurn s F link now ts Rs = (rs : List TabletRead) × ReadsInTurn s F link now ts rs × (left_from 0 rs ≡ []) × (records_in rs ≡ Rs)

-- some are left, just these
abbrev pub LeaveInTurn : Schema → List Leaf → LinkShown → LinkShown → List (List Copy) → List LeftTablet → Type 0
LeaveInTurn s F link now ts ls = (rs : List TabletRead) × ReadsInTurn s F link now ts rs × (left_from 0 rs ≡ ls) × (ls ≢ [])
