-- Histories: which events are recorded, and what a list of events records.
use Rattle.std.specs.Prelude.{ℕ, ◌==◌, Bool, true, false, ◌&&◌, not, List, [], ◌∷◌, ◌++◌, if◌then◌else◌}
use Rattle.std.specs.List.{list_any}
use Rattle.dr_dispatch.specs.Job.{Job, leaves_at}
use Rattle.dr_dispatch.specs.declared.event.Hand.{Hand}
use Rattle.dr_dispatch.specs.declared.event.Event.{Event}
use Rattle.dr_dispatch.specs.declared.event.Event.TheVariants.{Give, Answer, Fault}

abbrev pub same_hand : Hand → Hand → Bool
same_hand g h = (g.tablet == h.tablet) && (g.leaf == h.leaf)

-- the event gives this hand out
abbrev pub gives : Hand → Event → Bool
gives h (Give g) = same_hand g h
gives h (Answer g) = false
gives h (Fault g cause) = false

-- the event answers this tablet, whatever the leaf
abbrev pub answers : ℕ → Event → Bool
answers t (Give g) = false
answers t (Answer g) = g.tablet == t
answers t (Fault g cause) = false

-- the event is a fault of this hand, whatever the cause
abbrev pub faults : Hand → Event → Bool
faults h (Give g) = false
faults h (Answer g) = false
faults h (Fault g cause) = same_hand g h

abbrev pub has_give : List Event → Hand → Bool
has_give events h = list_any (gives h) events

abbrev pub has_answer : List Event → ℕ → Bool
has_answer events t = list_any (answers t) events

abbrev pub has_fault : List Event → Hand → Bool
has_fault events h = list_any (faults h) events

-- the event is recorded behind these: a hand of the job is given at most once, and before any answer of its tablet; a tablet is answered
-- at most once, by a hand that was given; a hand that was given fails at most once, and before any answer of its tablet
abbrev pub is_recorded : Job → List Event → Event → Bool
is_recorded j events (Give h) = list_any (λ l. l == h.leaf) (leaves_at j.leaves h.tablet) && not (has_answer events h.tablet) && not (has_give events h)
is_recorded j events (Answer h) = has_give events h && not (has_answer events h.tablet)
is_recorded j events (Fault h cause) = has_give events h && not (has_fault events h) && not (has_answer events h.tablet)

-- the history after an event, which changes nothing where it isn't recorded
abbrev pub after_event : Job → List Event → Event → List Event
after_event j events e = if is_recorded j events e then events ++ e ∷ [] else events

-- the history after more events
abbrev pub after_events : Job → List Event → List Event → List Event
after_events j events [] = events
after_events j events (e ∷ more) = after_events j (after_event j events e) more

-- the history of a list of events: the list without those that aren't recorded at their place
abbrev pub replayed : Job → List Event → List Event
replayed j events = after_events j [] events

-- each of these is recorded at its place behind the history
abbrev pub goes_on : Job → List Event → List Event → Bool
goes_on j history [] = true
goes_on j history (e ∷ more) = is_recorded j history e && goes_on j (history ++ e ∷ []) more

-- a list of events each of which is recorded at its place
abbrev pub is_history : Job → List Event → Bool
is_history j events = goes_on j [] events

-- the tablets that were answered, in the order of their answers
abbrev pub answered : List Event → List ℕ
answered [] = []
answered (Give h ∷ events) = answered events
answered (Answer h ∷ events) = h.tablet ∷ answered events
answered (Fault h cause ∷ events) = answered events
