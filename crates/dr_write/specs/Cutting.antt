-- The triplets of a column as records, and where its pages are cut.
use Rattle.std.specs.Prelude.{◌≡◌, ◌≤◌, ℕ, zero, suc, List, [], ◌∷◌, map, take, length, Bool, true, false, ◌==◌, nat_le, if◌then◌else◌}
use Rattle.dr_meaning.specs.Schema.{Kind}
use Rattle.dr_meaning.specs.Column.{Triplet}
use Rattle.dr_meaning.specs.OneColumn.{begins_record}
use Rattle.dr_formats.specs.Writing.{is_full}

-- a triplet before those of the first record, or alone where what follows begins a record
abbrev pub with_first : Triplet → Bool → List (List Triplet) → List (List Triplet)
with_first t true cs = (t ∷ []) ∷ cs
with_first t false [] = (t ∷ []) ∷ []
with_first t false (c ∷ cs) = (t ∷ c) ∷ cs

-- a column cut before each triplet that begins a record
abbrev pub records_of : List Triplet → List (List Triplet)
records_of [] = []
records_of (t ∷ ts) = with_first t (begins_record ts) (records_of ts)

-- the repetition levels of triplets
abbrev pub repetitions_of : List Triplet → List ℕ
repetitions_of ts = map (λ (t : Triplet). t.repetition) ts

-- behind so many of these repetition levels, the first place at which a record begins, or the place behind the last
abbrev pub record_end : List ℕ → ℕ → ℕ
record_end [] n = 0
record_end (r ∷ rs) zero = if r == 0 then 0 else suc (record_end rs 0)
record_end (r ∷ rs) (suc n) = suc (record_end rs n)

-- a page of the first of these triplets is full exactly with this many of them or more
abbrev pub IsEnough : Kind → List Triplet → ℕ → Type 0
IsEnough k ts n = (m : ℕ) → m ≤ length ts → is_full k (take m ts) ≡ nat_le n m
