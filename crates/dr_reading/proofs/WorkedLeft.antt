-- Scans and what they leave, by computation.
use Rattle.std.specs.Prelude.{◌≡◌, ℕ, ◌+◌, List, [], ◌∷◌, ◌++◌, map, pos, None, codes, refl}
use Rattle.std.specs.Fmt.{digits}
use Rattle.std.proofs.Common.{true≢false, sym}
use Rattle.dr_meaning.specs.Record.{Node, no_slots, slot, single, atom, int_value}
use Rattle.dr_formats.specs.TableFile.{Table}
use Rattle.dr_outside.specs.declared.cause.Cause.{Cause}
use Rattle.dr_outside.specs.declared.cause.Cause.TheVariants.{ReadFailed, BadFooter, BadSchema, BadCodec, BadData}
use Rattle.dr_formats.proofs.WorkedFiles.{one_schema, one_record}
use Rattle.dr_reading.specs.Scan.{Copy, tablets_of, joined}
use Rattle.dr_reading.specs.Given.{IsGiven, AreGiven}
use Rattle.dr_reading.specs.Left.{Tried, LeftTablet, causes_met}
use Rattle.dr_reading.specs.LeftText.{ascending, left_text}

-- ---- scans

abbrev copy : ℕ → List ℕ → Copy
copy d path = record { directory = d; path = path }

abbrev table : ℕ → ℕ → Table
table copies tablets = record { schema = one_schema; leaves = codes "x" ∷ codes "y/z" ∷ codes "w" ∷ []; copies = copies; tablets = tablets }

-- the first copy of a tablet lies in the directory of the tablet's number, counted round, and the next one behind it
pub copies_go_round : tablets_of (table 2 4) ≡
    (copy 0 (codes "x/t000000.parquet") ∷ copy 1 (codes "y/z/t000000.parquet") ∷ [])
    ∷ (copy 1 (codes "y/z/t000001.parquet") ∷ copy 2 (codes "w/t000001.parquet") ∷ [])
    ∷ (copy 2 (codes "w/t000002.parquet") ∷ copy 0 (codes "x/t000002.parquet") ∷ [])
    ∷ (copy 0 (codes "x/t000003.parquet") ∷ copy 1 (codes "y/z/t000003.parquet") ∷ []) ∷ []
unfolding digits
copies_go_round = refl

pub few_copies : (tablets_of (table 1 1) ≡ (copy 0 (codes "x/t000000.parquet") ∷ []) ∷ []) × (tablets_of (table 3 0) ≡ []) × (tablets_of (table 0 2) ≡ [] ∷ [] ∷ [])
unfolding digits
few_copies = (refl, refl, refl)

abbrev number : ℕ → Node
number n = slot (single (atom (int_value (pos n)))) no_slots

pub records_in_order : joined ((number 1 ∷ number 2 ∷ []) ∷ [] ∷ (number 3 ∷ []) ∷ []) ≡ number 1 ∷ number 2 ∷ number 3 ∷ []
records_in_order = refl

-- ---- what is given where a link doesn't tell

-- records, and nothing but records, are given of each tablet
pub records_are_given : AreGiven one_schema [] None ([] ∷ (copy 0 (codes "a") ∷ []) ∷ []) ((one_record ∷ []) ∷ [] ∷ [])
records_are_given = (refl, (refl, tt))

pub others_are_not : IsGiven one_schema [] None [] (no_slots ∷ []) → ⊥
others_are_not h = true≢false (sym h)

pub none_is_missing : (AreGiven one_schema [] None ([] ∷ []) [] → ⊥) × (AreGiven one_schema [] None [] ([] ∷ []) → ⊥)
none_is_missing = (λ h. h, λ h. h)

-- ---- tablets that are left

abbrev tried : ℕ → Cause → Tried
tried d c = record { directory = d; cause = c }

abbrev failed : ℕ → Cause
failed n = ReadFailed n (n + 1)

abbrev some_left : List LeftTablet
some_left =
    record { tablet = 0; tried = tried 0 (failed 0) ∷ tried 1 BadFooter ∷ [] }
    ∷ record { tablet = 12; tried = tried 12 BadSchema ∷ tried 0 BadCodec ∷ tried 3 BadData ∷ [] }
    ∷ record { tablet = 999999; tried = tried 63 (failed 7) ∷ [] } ∷ []

-- each cause by its word, the copies by ascending directory
pub lines_of_left : left_text some_left ≡
    codes "left t000000: 0 read; 1 footer\n" ++ codes "left t000012: 0 codec; 3 data; 12 schema\n" ++ codes "left t999999: 63 read\n"
unfolding digits ascending
lines_of_left = refl

pub none_left : left_text [] ≡ []
none_left = refl

-- a directory past the greatest isn't told; of one that stands twice both are, in their order
pub directories : (map (λ (t : Tried). t.directory) (ascending (tried 64 BadData ∷ tried 5 BadData ∷ tried 0 BadData ∷ [])) ≡ 0 ∷ 5 ∷ []) × (ascending (tried 2 BadData ∷ tried 1 BadCodec ∷ tried 2 BadFooter ∷ []) ≡ tried 1 BadCodec ∷ tried 2 BadData ∷ tried 2 BadFooter ∷ [])
unfolding ascending
directories = (refl, refl)

-- the causes in the order in which they were met
pub met : causes_met some_left ≡ failed 0 ∷ BadFooter ∷ BadSchema ∷ BadCodec ∷ BadData ∷ failed 7 ∷ []
met = refl
