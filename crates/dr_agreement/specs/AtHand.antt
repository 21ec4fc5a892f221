-- What is at hand of the columns of leaves.
use Rattle.std.specs.Prelude.{◌≡◌, ◌≤◌, ◌-◌, ℕ, ◌<◌, List, [], ◌++◌, map, length, take, drop, get_or, Bool, true, false}
use Rattle.dr_meaning.specs.Column.{Triplet}
use Rattle.dr_meaning.specs.OneColumn.{starts, begins_record}
use Rattle.dr_levels.specs.Views.{LeafForm, column_form, column_view}
use Rattle.dr_moves.specs.Leading.{Left, columns_of}
use Rattle.dr_agreement.specs.declared.at_hand.AtHand.{AtHand}
use Rattle.dr_agreement.specs.declared.at_hand.Kept.{Kept}

-- the triplets that are left
abbrev pub rest_of : AtHand → List Triplet
rest_of x = drop x.passed (column_view x.column)

-- the leaf that they are of
abbrev pub form_of : AtHand → LeafForm
form_of x = column_form x.column

-- how many records are whole of so many that begin: the last may go on, unless nothing comes behind it
abbrev pub whole : Bool → ℕ → ℕ
whole true n = n
whole false n = n - 1

abbrev pub whole_of : AtHand → ℕ
whole_of x = whole x.ended (starts (rest_of x))

-- of some triplets the first of so many records, behind which a record begins
pub record IsFrontOf (records : ℕ) (all front : List Triplet) : Type 0 where
  pub lies : all ≡ front ++ drop (length front) all
  pub so_many : starts front ≡ records
  pub begins : begins_record (drop (length front) all) ≡ true

-- so many triplets may be passed, in which so many records begin
abbrev pub CanPass : List Triplet → ℕ → ℕ → Type 0
CanPass all count records = (count ≤ length all) × (starts (take count all) ≡ records)

-- this is kept of triplets that are lent
abbrev pub IsKept : List Triplet → Kept → Type 0
IsKept ts k = (k.triplets ≡ length ts) × (k.begun ≡ starts ts)

-- ---- several leaves

-- of each leaf what is left
abbrev pub here_of : List AtHand → Left
here_of xs i = get_or (map rest_of xs) i []

-- and whether nothing comes behind it
abbrev pub ends_of : List AtHand → ℕ → Bool
ends_of xs i = get_or (map (λ (x : AtHand). x.ended) xs) i false

-- how many whole records there are
abbrev pub whole_at : List AtHand → ℕ → ℕ
whole_at xs i = whole (ends_of xs i) (starts (here_of xs i))

-- the next so many records of each
abbrev pub AreFronts : ℕ → List AtHand → List (List Triplet) → Type 0
AreFronts records xs C = (length C ≡ length xs) × ((i : ℕ) → i < length xs → IsFrontOf records (here_of xs i) (columns_of C i))
