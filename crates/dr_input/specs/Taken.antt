-- What was read of the records of an input.
use Rattle.std.specs.Prelude.{◌≡◌, ℕ, suc, List, [], ◌++◌, Option, Some, None, ⊤, ◌⊎◌}
use Rattle.dr_meaning.specs.Schema.{Fields}
use Rattle.dr_meaning.specs.Record.{Node}
use Rattle.dr_meaning.specs.Lines.{Refusal, Taken, lines_of, taken_from}
use Rattle.dr_input.specs.Whole.{whole_lines}

-- P holds of what is told; nothing is said where it isn't
abbrev pub WhereTold : {A : Type 0} → Option A → (A → Type 0) → Type 0
WhereTold None P = ⊤
WhereTold (Some a) P = P a

-- what is taken of lines, behind records taken before
abbrev pub behind : List Node → Taken → Taken
behind R t = record { records = R ++ t.records; refusal = t.refusal }

-- no line is cut off between these bytes and the rest
abbrev pub EndsLine : List ℕ → List ℕ → Type 0
EndsLine bytes rest = (whole_lines bytes ≡ bytes) ⊎ (rest ≡ [])

-- the first of these lines is that of this number plus one: they are records, these
abbrev pub AreRecords : Fields → ℕ → ℕ → List ℕ → List Node → Type 0
AreRecords fs most number bytes R = taken_from fs most (suc number) (lines_of bytes) ≡ record { records = R; refusal = None }

-- behind so many lines, the lines that were read of what was left are these records; nothing is said of a source that doesn't tell
abbrev pub HasTaken : Fields → ℕ → ℕ → List Node → Option (List ℕ) → Option (List ℕ) → Type 0
HasTaken fs most number R None now = ⊤
HasTaken fs most number R (Some all) None = ⊥
HasTaken fs most number R (Some all) (Some rest) =
    (read : List ℕ) × (all ≡ read ++ rest) × EndsLine read rest × AreRecords fs most number read R

-- behind so many lines, the next line of what was left is refused, so
abbrev pub RefusesNext : Fields → ℕ → ℕ → Option (List ℕ) → Refusal → Type 0
RefusesNext fs most number left e =
    WhereTold left (λ all. taken_from fs most (suc number) (lines_of all) ≡ record { records = []; refusal = Some e })

-- P holds of what the source gave of what was left; nothing is said of a source that doesn't tell
abbrev pub WhereGiven : Option (List ℕ) → Option (List ℕ) → (List ℕ → Type 0) → Type 0
WhereGiven None now P = ⊤
WhereGiven (Some all) None P = ⊥
WhereGiven (Some all) (Some rest) P = (read : List ℕ) × (all ≡ read ++ rest) × P read

-- behind so many lines, no whole line of what the source gave of what was left is refused
abbrev pub AcceptsRead : Fields → ℕ → ℕ → Option (List ℕ) → Option (List ℕ) → Type 0
AcceptsRead fs most number before now =
    WhereGiven before now (λ read. (taken_from fs most (suc number) (lines_of (whole_lines read))).refusal ≡ None)
