-- What was made in the branches that are open, and how much of it is put already.
use Rattle.std.specs.Prelude.{◌≡◌, ◌+◌, ℕ, ⊤, List, [], ◌∷◌, ◌++◌, length, reverse, Bool, true, false, take, if◌then◌else◌}
use Rattle.dr_partials.specs.Partials.{empty_partial}
use Rattle.dr_partials.specs.Putting.{Put, put_all}
use Rattle.dr_plan.specs.Planned.{Planned, planned_query}
use Rattle.dr_group.specs.Partials.{partial_view, IsPartialOf}
use Rattle.dr_within.specs.Late.{IsWhole, rows_of}
use Rattle.dr_within.specs.declared.frames.Frames.{Frames}

-- of each open branch, the innermost first, whether it is known that it is kept: of the others, the mark is behind what is put already
abbrev pub AreMarks : ℕ → List Bool → List ℕ → List ℕ → Type 0
AreMarks put [] [] [] = ⊤
AreMarks put (b ∷ bs) (g ∷ gs) (m ∷ ms) = (b ≡ false → g ≡ put + m) × AreMarks put bs gs ms
AreMarks put bs gs ms = ⊥

-- this was made so far, and so much of it as each open branch began: some of it is put, the rest is late; key tuples have n cells
pub record Holds (p : Planned) (n : ℕ) (made : List Put) (settled : List Bool) (marks : List ℕ) (f : Frames) : Type 0 where
  pub of_plan : IsPartialOf p f.partial
  pub given : List Put
  pub partial : partial_view f.partial ≡ put_all (planned_query p) given (empty_partial (planned_query p))
  pub made_of : made ≡ given ++ rows_of f.late
  pub whole : IsWhole f.late
  pub width : f.late.width ≡ n
  pub marked : AreMarks (length given) settled marks (reverse f.marks.items)

-- what is known to be kept stays so
abbrev pub StaySettled : List Bool → List Bool → Type 0
StaySettled [] [] = ⊤
StaySettled (b ∷ bs) (c ∷ cs) = (b ≡ true → c ≡ true) × StaySettled bs cs
StaySettled bs cs = ⊥

abbrev pub AllSettled : List Bool → Type 0
AllSettled [] = ⊤
AllSettled (b ∷ bs) = (b ≡ true) × AllSettled bs

-- a branch is open as well, of which this is known
abbrev pub EntersBranch : Frames → Frames → Type 0
EntersBranch f f' = (p : Planned) (n : ℕ) (made : List Put) (settled : List Bool) (marks : List ℕ) (b : Bool) → Holds p n made settled marks f
    → Holds p n made (b ∷ settled) (length made ∷ marks) f'

-- these puts, whose key tuples have n cells, were made as well; where they are kept, all open branches are
abbrev pub MakesPuts : Bool → ℕ → List Put → Frames → Frames → Type 0
MakesPuts is_kept n puts f f' = (p : Planned) (made : List Put) (settled later : List Bool) (marks : List ℕ) → Holds p n made settled marks f
    → StaySettled settled later → (is_kept ≡ true → AllSettled later) → Holds p n (made ++ puts) later marks f'

-- the innermost branch is closed: what was made in it is cut off where it is dropped, else these puts were made as well
abbrev pub LeavesBranch : Bool → ℕ → List Put → Frames → Frames → Type 0
LeavesBranch is_dropped n puts f f' = (p : Planned) (made : List Put) (b : Bool) (settled : List Bool) (mark : ℕ) (marks : List ℕ)
    → Holds p n made (b ∷ settled) (mark ∷ marks) f → (is_dropped ≡ true → b ≡ false)
    → Holds p n (if is_dropped then take mark made else made ++ puts) settled marks f'
