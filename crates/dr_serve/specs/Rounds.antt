-- The closing round: what the first link reads of the tablets without a piece, after the workers.
use Rattle.std.specs.Prelude.{◌≡◌, ◌≤◌, ℕ, suc, ⊤, List, [], ◌∷◌, length, Option, None, Some, IfSome, IsTrue}
use Rattle.std.specs.List.{flat_map}
use Rattle.dr_meaning.specs.Path.{Leaf}
use Rattle.dr_formats.specs.TableFile.{Table}
use Rattle.dr_outside.specs.Link.{LinkShown}
use Rattle.dr_outside.specs.declared.cause.Cause.{Cause}
use Rattle.dr_reading.specs.Causes.{LeadTo}
use Rattle.dr_reading.specs.Left.{LeftTablet}
use Rattle.dr_reading.specs.Scan.{copies_from}
use Rattle.dr_reading.specs.InTurn.{TabletRead, read_given, read_left, IsTabletRead, causes_at}

-- of each, the first of which has the number t, this holds
abbrev pub OfEachFrom : {A : Type 0} → (ℕ → A → Type 0) → ℕ → List A → Type 0
OfEachFrom P t [] = ⊤
OfEachFrom P t (x ∷ xs) = P t x × OfEachFrom P (suc t) xs

-- what was read of a tablet: its copies one after another, until one gave records; nothing where it had a piece
abbrev pub IsRoundAt : Table → List Leaf → LinkShown → ℕ → Option TabletRead → Type 0
IsRoundAt t F link tablet o = IfSome o (IsTabletRead t.schema F link (copies_from t.leaves tablet 0 t.copies))

-- the causes that were met, those of copies before one that gave records too
abbrev pub causes_read : Option TabletRead → List Cause
causes_read None = []
causes_read (Some r) = causes_at r

-- the tablets of which no copy gave records; the first tablet is the tth
abbrev pub left_round : ℕ → List (Option TabletRead) → List LeftTablet
left_round t [] = []
left_round t (None ∷ rs) = left_round (suc t) rs
left_round t (Some (read_given ts R) ∷ rs) = left_round (suc t) rs
left_round t (Some (read_left ts) ∷ rs) = record { tablet = t; tried = ts } ∷ left_round (suc t) rs

-- what a link read of the first m tablets, from what it showed first until now: the failed reads among the causes that it met are all that raised its
-- count of faults, and just these tablets are left
pub record HasRead (t : Table) (F : List Leaf) (first now : LinkShown) (m : ℕ) (left : List LeftTablet) : Type 0 where
  pub reads : List (Option TabletRead)
  pub count : length reads ≡ m
  pub each : OfEachFrom (IsRoundAt t F first) 0 reads
  pub counts : LeadTo first.faults (flat_map causes_read reads) now.faults
  pub left_are : left ≡ left_round 0 reads

-- a link worked until it showed something in the middle, and then it read the tablets so
pub record Rounds (t : Table) (F : List Leaf) (before now : LinkShown) (left : List LeftTablet) : Type 0 where
  pub middle : LinkShown
  pub same : middle.held ≡ before.held
  pub never_falls : before.faults ≤ middle.faults
  pub stays_steady : IsTrue before.is_steady → IsTrue middle.is_steady
  pub read : HasRead t F middle now t.tablets left
