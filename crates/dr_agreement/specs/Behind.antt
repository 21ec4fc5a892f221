-- Columns of which a front was taken, that of some records.
use Rattle.std.specs.Prelude.{◌≡◌, ◌≢◌, ℕ, ◌+◌, ◌<◌, ◌≤◌, List, [], ◌++◌, length, Bool, true}
use Rattle.std.specs.List.{list_all}
use Rattle.dr_meaning.specs.Schema.{Fields}
use Rattle.dr_meaning.specs.Path.{Step}
use Rattle.dr_meaning.specs.Record.{Node, is_record}
use Rattle.dr_meaning.specs.Column.{Triplet}
use Rattle.dr_meaning.specs.OneColumn.{starts, begins_record}
use Rattle.dr_moves.specs.Leading.{Left, columns_of, has_columns}
use Rattle.dr_beside.specs.Chunks.{HasColumns}

-- so many columns that begin with what was given; where nothing comes behind it, nothing is later
abbrev pub GoesOn : ℕ → Left → (ℕ → Bool) → List (List Triplet) → Left → Type 0
GoesOn n given ends C later = (length C ≡ n) × ((i : ℕ) → columns_of C i ≡ given i ++ later i) × ((i : ℕ) → ends i ≡ true → later i ≡ [])

-- of one column there is more, of the others what there was
abbrev pub IsMore : ℕ → List Triplet → Left → Left → Type 0
IsMore k more before after = (after k ≡ before k ++ more) × ((i : ℕ) → i ≢ k → after i ≡ before i)

-- of what was given of the columns of so many records, those of some records were taken, and this is left at hand, where the next record begins; so many
-- records are left
pub record IsBehind (fs : Fields) (F : List (List Step)) (rows : ℕ) (given here : Left) (ends : ℕ → Bool) (R : List Node) (left : ℕ) : Type 0 where
  pub are_records : list_all (is_record fs) R ≡ true
  pub count : length R + left ≡ rows
  pub lies : (i : ℕ) → given i ≡ has_columns F R i ++ here i
  pub begins : (C : List (List Triplet)) (later : Left) → GoesOn (length F) given ends C later → (Q : List Node) → HasColumns fs F C rows Q → (i : ℕ) → i < length F → begins_record (here i ++ later i) ≡ true
  pub past : (i : ℕ) → length F ≤ i → given i ≡ []

-- the columns of the next so many records, in front of what is left then
pub record IsFront (n records : ℕ) (here rest chunk : Left) (ends : ℕ → Bool) : Type 0 where
  pub lies : (i : ℕ) → i < n → here i ≡ chunk i ++ rest i
  pub so_many : (i : ℕ) → i < n → starts (chunk i) ≡ records
  pub begins : (i : ℕ) → i < n → begins_record (rest i) ≡ true
  -- whole records: what is left isn't empty, or nothing is later
  pub whole : (i : ℕ) → i < n → rest i ≡ [] → ends i ≡ true
