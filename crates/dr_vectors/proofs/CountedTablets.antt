-- Which tablets are counted where some are left, and how a query ends by their share, by computation.
use Rattle.std.specs.Prelude.{◌≡◌, ℕ, List, [], ◌∷◌, ◌++◌, refl}
use Rattle.std.proofs.Common.{arith}
use Rattle.dr_meaning.specs.Schema.{Schema}
use Rattle.dr_meaning.specs.Path.{Leaf}
use Rattle.dr_meaning.specs.Record.{Node}
use Rattle.dr_outside.specs.Link.{LinkShown}
use Rattle.dr_reading.specs.Left.{LeftTablet}
use Rattle.dr_reading.specs.Scan.{Copy, Scan}
use Rattle.dr_commands.specs.Meaning.{serves, scans, done}
use Rattle.dr_top.specs.Reading.{HasMost, IsLeftWith}
use Rattle.dr_top.specs.ServedLaws.{counted_records}

-- a tablet that is left
abbrev left_one : ℕ → LeftTablet
left_one n = record { tablet = n; tried = [] }

-- ---- whose records are counted

pub none_is_left : (R S : List Node) → counted_records 0 [] (R ∷ S ∷ []) ≡ R ∷ S ∷ []
none_is_left R S = refl

pub second_is_left : (R S T : List Node) → counted_records 0 (left_one 1 ∷ []) (R ∷ S ∷ T ∷ []) ≡ R ∷ T ∷ []
second_is_left R S T = refl

pub first_and_third_are_left : (R S T U : List Node) → counted_records 0 (left_one 0 ∷ left_one 2 ∷ []) (R ∷ S ∷ T ∷ U ∷ []) ≡ S ∷ U ∷ []
first_and_third_are_left R S T U = refl

pub all_are_left : (R S : List Node) → counted_records 0 (left_one 0 ∷ left_one 1 ∷ []) (R ∷ S ∷ []) ≡ []
all_are_left R S = refl

-- the first of these is the fifth, and the sixth is left
pub later_is_left : (R S T : List Node) → counted_records 5 (left_one 6 ∷ []) (R ∷ S ∷ T ∷ []) ≡ R ∷ T ∷ []
later_is_left R S T = refl

pub no_tablets : counted_records 0 (left_one 0 ∷ []) [] ≡ []
no_tablets = refl

-- ---- how a query ends of whose tablets one is left

module _ (s : Schema) (F : List Leaf) (c d e : List Copy) (text : List Node → List ℕ) (links now : List LinkShown) where
  abbrev two : Scan
  two = record { schema = s; leaves = F; tablets = c ∷ d ∷ []; text = text }

  abbrev three : Scan
  three = record { schema = s; leaves = F; tablets = c ∷ d ∷ e ∷ []; text = text }

  -- one of two is the share of 50 hundredths and not of 51; two of three that of 66 and not of 67
  pub half_is_no_51 : (w : ℕ) (out : List ℕ) → HasMost (serves two w 51) links now (left_one 1 ∷ []) out → ⊥
  half_is_no_51 w out h = omega (arith, h.1)

  pub half_is_50 : (w : ℕ) → IsLeftWith (serves two w 50) links now (left_one 1 ∷ []) → ⊥
  half_is_50 w h = omega (arith, h.1)

  pub two_thirds_are_no_67 : (w : ℕ) (out : List ℕ) → HasMost (serves three w 67) links now (left_one 1 ∷ []) out → ⊥
  two_thirds_are_no_67 w out h = omega (arith, h.1)

  pub two_thirds_are_66 : (w : ℕ) → IsLeftWith (serves three w 66) links now (left_one 1 ∷ []) → ⊥
  two_thirds_are_66 w h = omega (arith, h.1)

  -- with no tablet left a query has neither of these ends
  pub all_is_not_most : (w least : ℕ) (out : List ℕ) → HasMost (serves two w least) links now [] out → ⊥
  all_is_not_most w least out h = h.0.0 refl

  pub all_is_not_left : (w least : ℕ) → IsLeftWith (serves two w least) links now [] → ⊥
  all_is_not_left w least h = h.0.0 refl

  -- a scan by one link, and a command that asks none, have no share of tablets
  pub scan_has_no_share : (left : List LeftTablet) (out : List ℕ) → HasMost (scans two) links now left out → ⊥
  scan_has_no_share left out h = h

  pub text_has_no_share : (left : List LeftTablet) (t out : List ℕ) → HasMost (done t []) links now left out → ⊥
  text_has_no_share left t out h = h
