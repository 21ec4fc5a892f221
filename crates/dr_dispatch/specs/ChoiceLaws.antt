-- Laws of choices.
use Rattle.std.specs.Prelude.{◌≡◌, ◌↔◌, ◌⊎◌, ℕ, ◌<◌, ◌≤◌, ◌==◌, Bool, true, false, ◌&&◌, ◌||◌, not, nat_lt, List, ◌∷◌, ◌++◌, length, None, Some, IsSome}
use Rattle.std.specs.List.{list_any, list_all}
use Rattle.dr_dispatch.specs.Job.{Job, hand, leaves_at}
use Rattle.dr_dispatch.specs.History.{has_give, has_answer, has_fault, is_recorded}
use Rattle.dr_dispatch.specs.Choice.{choice, all_failed, since_give}
use Rattle.dr_dispatch.specs.declared.event.Hand.{Hand}
use Rattle.dr_dispatch.specs.declared.event.Event.{Event}
use Rattle.dr_dispatch.specs.declared.event.Event.TheVariants.{Give}

-- the tablet was handed out on all of these leaves
abbrev pub all_given : List Event → ℕ → List ℕ → Bool
all_given history t leaves = list_all (λ l. has_give history (hand t l)) leaves

-- a choice can be handed out
abbrev pub ChoiceIsRecorded : Type 0
ChoiceIsRecorded = (j : Job) (history : List Event) (h : Hand) → choice j history ≡ Some h → is_recorded j history (Give h) ≡ true

-- an answered tablet is never chosen
abbrev pub AnsweredIsNotChosen : Type 0
AnsweredIsNotChosen = (j : Job) (history : List Event) (h : Hand) → choice j history ≡ Some h → has_answer history h.tablet ≡ false

-- nothing is to be done for the tablet t now: it was answered, or it was handed out on all of its leaves, or it is at work on one and its last
-- hand-out isn't far back
abbrev pub is_passed_over : Job → List Event → ℕ → Bool
is_passed_over j history t =
    let leaves = leaves_at j.leaves t in
    has_answer history t || all_given history t leaves || (not (all_failed history t leaves) && nat_lt (since_give history t) j.lag)

-- there is no choice exactly where nothing is to be done for any tablet
abbrev pub NoChoiceExactly : Type 0
NoChoiceExactly = (j : Job) (history : List Event) → (choice j history ≡ None) ↔ ((t : ℕ) → t < length j.leaves → is_passed_over j history t ≡ true)

-- where a tablet without an answer has a leaf that it wasn't handed out on, and each of its hand-outs failed, there is a choice
abbrev pub FailedTabletIsChosen : Type 0
FailedTabletIsChosen = (j : Job) (history : List Event) (t : ℕ) → t < length j.leaves → has_answer history t ≡ false
    → all_given history t (leaves_at j.leaves t) ≡ false
    → all_failed history t (leaves_at j.leaves t) ≡ true → IsSome (choice j history)

-- each hand that was given failed, or its tablet was answered: no leaf is at work
abbrev pub IsSettled : List Event → Type 0
IsSettled history = (h : Hand) → has_give history h ≡ true → (has_fault history h || has_answer history h.tablet) ≡ true

-- where no leaf is at work and there is no choice, each tablet was answered, or failed on all of its leaves
abbrev pub SettledWithoutChoice : Type 0
SettledWithoutChoice = (j : Job) (history : List Event) → IsSettled history → choice j history ≡ None → (t : ℕ) → t < length j.leaves
    → (has_answer history t || list_all (λ l. has_fault history (hand t l)) (leaves_at j.leaves t)) ≡ true

-- the tablet t can be handed out: it has no answer, and a leaf that it wasn't handed out on
pub record IsOpen (j : Job) (history : List Event) (t : ℕ) : Type 0 where
  pub unanswered : has_answer history t ≡ false
  pub leaf_left : all_given history t (leaves_at j.leaves t) ≡ false

-- no leaf is at work on it: it failed on each of its leaves that it was handed out on
abbrev pub IsIdle : Job → List Event → ℕ → Type 0
IsIdle j history t = (l : ℕ) → list_any (λ k. k == l) (leaves_at j.leaves t) ≡ true → has_give history (hand t l) ≡ true → has_fault history (hand t l) ≡ true

-- at least `lag` events stand behind its last hand-out
pub record IsFarBack (lag : ℕ) (history : List Event) (t : ℕ) : Type 0 where
  pub front : List Event
  pub last : Hand
  pub behind : List Event
  pub splits : history ≡ front ++ Give last ∷ behind
  pub tablet : last.tablet ≡ t
  pub is_last : (h : Hand) → h.tablet ≡ t → has_give behind h ≡ false
  pub far : lag ≤ length behind

abbrev pub IsUrgent : Job → List Event → ℕ → Type 0
IsUrgent j history t = IsOpen j history t × IsIdle j history t

abbrev pub IsLate : Job → List Event → ℕ → Type 0
IsLate j history t = IsOpen j history t × IsFarBack j.lag history t

-- the lowest number of which this holds
abbrev pub IsLowest : (ℕ → Type 0) → ℕ → Type 0
IsLowest holds t = holds t × ((u : ℕ) → u < t → holds u → ⊥)

-- the first of these leaves that the tablet t wasn't handed out on: it was handed out on each that stands before
pub record IsFirstLeft (history : List Event) (t : ℕ) (leaves : List ℕ) (l : ℕ) : Type 0 where
  pub before : List ℕ
  pub rest : List ℕ
  pub splits : leaves ≡ before ++ l ∷ rest
  pub given : all_given history t before ≡ true
  pub left : has_give history (hand t l) ≡ false

-- the hand is of the lowest urgent tablet; or no tablet is urgent, and it is of the lowest that is late. Its leaf is the first that is left
pub record IsNext (j : Job) (history : List Event) (h : Hand) : Type 0 where
  pub tablet : IsLowest (IsUrgent j history) h.tablet ⊎ (((u : ℕ) → IsUrgent j history u → ⊥) × IsLowest (IsLate j history) h.tablet)
  pub leaf : IsFirstLeft history h.tablet (leaves_at j.leaves h.tablet) h.leaf

-- a hand is the choice exactly where it is the next one so
abbrev pub ChoiceIsNext : Type 0
ChoiceIsNext = (j : Job) (history : List Event) (h : Hand) → (choice j history ≡ Some h) ↔ IsNext j history h
