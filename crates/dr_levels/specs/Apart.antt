-- Levels, those of each kind by themselves.
use Rattle.std.specs.Prelude.{ℕ, List, map}
use Rattle.dr_levels.specs.declared.triplet.Levels.{Levels}

-- the repetition levels
abbrev pub repetitions : List Levels → List ℕ
repetitions ls = map (λ (l : Levels). l.repetition) ls

-- the definition levels
abbrev pub definitions : List Levels → List ℕ
definitions ls = map (λ (l : Levels). l.definition) ls
