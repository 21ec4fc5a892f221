-- What is made in going through a course: the moves of a level, of the later instances of a repeated field, of records.
use Rattle.std.specs.Prelude.{◌≡◌, ℕ, suc, List, [], ◌∷◌, ◌++◌, map, true, None}
use Rattle.dr_meaning.specs.Column.{Triplet, triplet}
use Rattle.dr_meaning.specs.Walk.{Move, enter, value, leave}
use Rattle.dr_moves.specs.Course.{reach, are_open, comes_to, Give, Visit, Items, nothing, give, visit}
use Rattle.dr_moves.specs.Turning.{has_its_value}

-- a NULL of each of these leaves
abbrev pub nulls : List ℕ → ℕ → ℕ → List Move
nulls is r d = map (λ i. value i (triplet r d None)) is

-- the moves of items, and those of the later instances of a repeated field
mutual
  pub data Made : Items → ℕ → (ℕ → ℕ) → List Move → Type 0 where
    made_nothing : (r : ℕ) (next : ℕ → ℕ) → Made nothing r next []
    made_give : (g : Give) (I : Items) (r : ℕ) (next : ℕ → ℕ) (t : Triplet) (a : List Move) → t.repetition ≡ r → comes_to next g t.definition ≡ true
        → has_its_value g t ≡ true → Made I r next a → Made (give g I) r next (value g.leaf t ∷ a)
    made_absent : (v : Visit) (B I : Items) (r : ℕ) (next : ℕ → ℕ) (a : List Move) → Made I r next a
        → Made (visit v B I) r next (nulls v.leaves r (reach next v.gates v.low) ++ a)
    made_visit : (v : Visit) (B I : Items) (r : ℕ) (next after : ℕ → ℕ) (a b c : List Move) → are_open next v.gates ≡ true → Made B r after a → Laps v B b
        → Made I r next c → Made (visit v B I) r next (enter v.number ∷ (a ++ leave v.number ∷ (b ++ c)))

  pub data Laps : Visit → Items → List Move → Type 0 where
    no_lap : (v : Visit) (B : Items) → Laps v B []
    one_lap : (v : Visit) (B : Items) (after : ℕ → ℕ) (a b : List Move) → Made B v.level after a → Laps v B b → Laps v B (enter v.number ∷ (a ++ leave v.number ∷ b))

-- the moves of so many records
pub data MadeRecords (top : Items) : ℕ → List Move → Type 0 where
  no_record : MadeRecords top 0 []
  one_record : (n : ℕ) (after : ℕ → ℕ) (a b : List Move) → Made top 0 after a → MadeRecords top n b → MadeRecords top (suc n) (enter 0 ∷ (a ++ leave 0 ∷ b))
