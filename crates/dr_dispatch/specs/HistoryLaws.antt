-- Laws of histories.
use Rattle.std.specs.Prelude.{◌≡◌, ℕ, ◌*◌, ◌==◌, ◌≤◌, true, List, [], ◌∷◌, ◌++◌, length, nat_eq}
use Rattle.std.specs.List.{list_any, IsDistinct}
use Rattle.dr_dispatch.specs.Job.{Job, pairs}
use Rattle.dr_dispatch.specs.History.{has_answer, is_recorded, replayed, is_history, answered}
use Rattle.dr_dispatch.specs.declared.event.Event.{Event}

-- what a list of events records is a history
abbrev pub ReplayIsHistory : Type 0
ReplayIsHistory = (j : Job) (events : List Event) → is_history j (replayed j events) ≡ true

-- a history records itself
abbrev pub HistoryReplaysToItself : Type 0
HistoryReplaysToItself = (j : Job) (history : List Event) → is_history j history ≡ true → replayed j history ≡ history

-- a front of a history is a history
abbrev pub FrontIsHistory : Type 0
FrontIsHistory = (j : Job) (front rest : List Event) → is_history j (front ++ rest) ≡ true → is_history j front ≡ true

-- a history with one more event is one exactly where the event is recorded
abbrev pub HistoryGoesOn : Type 0
HistoryGoesOn = (j : Job) (history : List Event) (e : Event) → is_history j history ≡ true → is_history j (history ++ e ∷ []) ≡ is_recorded j history e

-- a history has at most three events for each pair of a tablet and a leaf of it
abbrev pub HistoryIsBounded : Type 0
HistoryIsBounded = (j : Job) (history : List Event) → is_history j history ≡ true → length history ≤ 3 * pairs j

-- the answered tablets are just those with an answer
abbrev pub AnsweredHaveAnswers : Type 0
AnsweredHaveAnswers = (history : List Event) (t : ℕ) → has_answer history t ≡ list_any (λ u. u == t) (answered history)

-- no tablet is answered twice
abbrev pub AnsweredAreDistinct : Type 0
AnsweredAreDistinct = (j : Job) (history : List Event) → is_history j history ≡ true → IsDistinct nat_eq (answered history)

-- no more tablets are answered than the job has
abbrev pub AnsweredAreTablets : Type 0
AnsweredAreTablets = (j : Job) (history : List Event) → is_history j history ≡ true → length (answered history) ≤ length j.leaves
