-- What is handed out next. First comes a tablet that no leaf is at work on: it wasn't handed out yet, or failed on each leaf that it was
-- handed out on. Then comes one whose last hand-out lies far back.
use Rattle.std.specs.Prelude.{ℕ, suc, ◌==◌, Bool, false, ◌&&◌, ◌||◌, not, nat_le, List, [], ◌∷◌, ◌++◌, None, Some, if◌then◌else◌}
use Rattle.std.specs.declared.option.Option.{Option}
use Rattle.std.specs.List.{list_all}
use Rattle.dr_dispatch.specs.Job.{Job, hand}
use Rattle.dr_dispatch.specs.History.{has_give, has_answer, has_fault}
use Rattle.dr_dispatch.specs.declared.event.Hand.{Hand}
use Rattle.dr_dispatch.specs.declared.event.Event.{Event}
use Rattle.dr_dispatch.specs.declared.event.Event.TheVariants.{Give, Answer, Fault}

-- the tablet on its first leaf that it wasn't handed out on
abbrev pub first_open : List Event → ℕ → List ℕ → Option Hand
first_open history t [] = None
first_open history t (l ∷ leaves) = if has_give history (hand t l) then first_open history t leaves else Some (hand t l)

-- each time that the tablet was handed out it failed; so also where it wasn't handed out
abbrev pub all_failed : List Event → ℕ → List ℕ → Bool
all_failed history t leaves = list_all (λ l. not (has_give history (hand t l)) || has_fault history (hand t l)) leaves

-- the event hands this tablet out, whatever the leaf
abbrev pub gives_tablet : ℕ → Event → Bool
gives_tablet t (Give h) = h.tablet == t
gives_tablet t (Answer h) = false
gives_tablet t (Fault h cause) = false

-- the number of events behind the tablet's last hand-out, where `count` is that so far
abbrev pub since_from : ℕ → ℕ → List Event → ℕ
since_from t count [] = count
since_from t count (e ∷ events) = if gives_tablet t e then since_from t 0 events else since_from t (suc count) events

abbrev pub since_give : List Event → ℕ → ℕ
since_give history t = since_from t 0 history

-- the hand of a tablet that no leaf is at work on
abbrev pub urgent : List Event → ℕ → List ℕ → Option Hand
urgent history t leaves = if not (has_answer history t) && all_failed history t leaves then first_open history t leaves else None

-- the hand of a tablet whose last hand-out has at least `lag` events behind it
abbrev pub late : ℕ → List Event → ℕ → List ℕ → Option Hand
late lag history t leaves = if not (has_answer history t) && nat_le lag (since_give history t) then first_open history t leaves else None

abbrev pub or_else : Option Hand → Option Hand → Option Hand
or_else None other = other
or_else (Some h) other = Some h

-- the first hand that some tablet gives, by ascending tablet from t on
abbrev pub lowest : (ℕ → List ℕ → Option Hand) → ℕ → List (List ℕ) → Option Hand
lowest pick t [] = None
lowest pick t (leaves ∷ rest) = or_else (pick t leaves) (lowest pick (suc t) rest)

-- what is handed out after this history
abbrev pub choice : Job → List Event → Option Hand
choice j history = or_else (lowest (urgent history) 0 j.leaves) (lowest (late j.lag history) 0 j.leaves)

-- the history after the hand, if any, was handed out
abbrev pub after_give : List Event → Option Hand → List Event
after_give history None = history
after_give history (Some h) = history ++ Give h ∷ []

abbrev pub after_take : Job → List Event → List Event
after_take j history = after_give history (choice j history)
