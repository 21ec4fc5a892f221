-- What the source gave before it failed, and what was put of that.
use Rattle.std.specs.Prelude.{◌≡◌, ℕ, List, [], ◌∷◌, ◌++◌, Option, Some, None, ⊤, ◌⊎◌}
use Rattle.dr_meaning.specs.Record.{Node}
use Rattle.dr_formats.specs.Tablets.{tablets}
use Rattle.dr_formats.specs.Loading.{Plan, Put, most_loaded, puts_from, full_tablets}
use Rattle.dr_outside.specs.Link.{LinkShown}
use Rattle.dr_input.specs.Whole.{whole_lines}
use Rattle.dr_input.specs.Taken.{AreRecords}
use Rattle.dr_load.specs.Puts.{HasPut}

-- these lines, each with its LF, are those of the bytes that were read: the whole ones; or all of them, where nothing is left and the last one lacks its LF
abbrev pub AreLinesOf : List ℕ → List ℕ → List ℕ → Type 0
AreLinesOf lines read rest = (lines ≡ whole_lines read) ⊎ ((lines ≡ read ++ 10 ∷ []) × (rest ≡ []))

-- P holds of the lines that the source gave of what was left; nothing is said of a source that doesn't tell
abbrev pub WhereLines : Option (List ℕ) → Option (List ℕ) → (List ℕ → Type 0) → Type 0
WhereLines None now P = ⊤
WhereLines (Some all) None P = ⊥
WhereLines (Some all) (Some rest) P = (read : List ℕ) × (lines : List ℕ) × (all ≡ read ++ rest) × AreLinesOf lines read rest × P lines

-- the puts of the full tablets of these records
abbrev pub full_puts : Plan → List Node → List Put
full_puts p R = puts_from p 0 (full_tablets p.rows (tablets p.rows R))

-- the lines that the source gave are records, and the full tablets of these were put, in order, each on each of its copies, and nothing else
abbrev pub HasPutFull : Plan → Option (List ℕ) → Option (List ℕ) → LinkShown → LinkShown → Type 0
HasPutFull p before now held held_now = WhereLines before now (λ lines. (R : List Node)
    × AreRecords p.schema.fields (most_loaded p.rows) 0 lines R × HasPut (full_puts p R) held held_now)
