-- What the columns of one tablet hold.
use Rattle.std.specs.Prelude.{◌≡◌, ◌<◌, ℕ, suc, List, map, length, true, Option, Some}
use Rattle.std.specs.List.{list_all}
use Rattle.dr_meaning.specs.Schema.{Fields}
use Rattle.dr_meaning.specs.Path.{Leaf, leaves}
use Rattle.dr_meaning.specs.Record.{Node, is_record}
use Rattle.dr_meaning.specs.Column.{Triplet, column}
use Rattle.dr_meaning.specs.Lines.{Refusal, lines_of, taken_from}
use Rattle.dr_formats.specs.WritingLaws.{is_limited}
use Rattle.dr_lines.specs.Cutting.{BeginsLine}
use Rattle.dr_levels.specs.Views.{columns_view}
use Rattle.dr_load.specs.declared.filled.Filled.{Filled}
use Rattle.dr_load.specs.declared.plan.Plan.{Plan}
use Rattle.dr_load.specs.Plans.{plan_view}
use Rattle.dr_write.specs.Files.{HaveColumns}
use Rattle.dr_input.specs.Taken.{WhereTold, HasTaken}

-- behind so many lines, the records of these columns were taken of what was left
pub record HasColumnsOf (fs : Fields) (most number : ℕ) (before now : Option (List ℕ)) (columns : List (List Triplet)) (count : ℕ) : Type 0 where
  pub records : List Node
  pub are_records : list_all (is_record fs) records ≡ true
  pub limited : list_all is_limited records ≡ true
  pub number_of : length records ≡ count
  pub columns_are : columns ≡ map (λ (l : Leaf). column l.path records) (leaves fs)
  pub taken : HasTaken fs most number records before now

abbrev pub FillsTablet : Fields → ℕ → ℕ → Option (List ℕ) → Option (List ℕ) → Filled → Type 0
FillsTablet fs most number before now f = HasColumnsOf fs most number before now (columns_view f.columns.items) f.records

-- behind so many lines, a line of what was left is refused so, with fewer records before it than this
abbrev pub RefusesWithin : Fields → ℕ → ℕ → ℕ → Option (List ℕ) → Refusal → Type 0
RefusesWithin fs most number rows left e =
    WhereTold left (λ all. (R : List Node) × (length R < rows) × (taken_from fs most (suc number) (lines_of all) ≡ record { records = R; refusal = Some e }))

-- behind so many lines, the source failed: fewer records than this were taken of what was left, and of the line behind them no more than a part was read
abbrev pub FailsWithin : Fields → ℕ → ℕ → ℕ → Option (List ℕ) → Option (List ℕ) → Type 0
FailsWithin fs most number rows before now = (R : List Node) × (left : Option (List ℕ)) × (length R < rows) × HasTaken fs most number R before left × BeginsLine left now

-- what is said of the records whose columns a tablet's are, so many as it has
abbrev pub OverFilled : Plan → Filled → (List Node → Type 0) → Type 0
OverFilled plan f says = (R : List Node) → HaveColumns (plan_view plan).schema R (columns_view f.columns.items) → length R ≡ f.records → says R
