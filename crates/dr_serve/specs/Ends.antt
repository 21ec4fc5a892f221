-- How each hand-out that was made with a pass ended.
use Rattle.std.specs.Prelude.{◌≡◌, ◌||◌, ℕ, ⊤, true, List, [], ◌∷◌, ◌++◌, Option, None, Some, ◌⊎◌}
use Rattle.std.specs.List.{slice_get}
use Rattle.dr_dispatch.specs.History.{has_answer, has_fault}
use Rattle.dr_dispatch.specs.Job.{Job}
use Rattle.dr_dispatch.specs.Seen.{has_place, adds}
use Rattle.dr_dispatch.specs.declared.event.Hand.{Hand}
use Rattle.dr_dispatch.specs.declared.event.Event.{Event}
use Rattle.dr_dispatch.specs.declared.event.Event.TheVariants.{Give, Answer, Fault}
use Rattle.dr_dispatch.specs.declared.seen.PassShown.{PassShown}
use Rattle.dr_outside.specs.declared.cause.Cause.{Cause}
use Rattle.dr_desk.specs.Calls.{Takes}
use Rattle.dr_reading.specs.Causes.{RisesApart}

-- a hand that was given failed, or its tablet was answered
abbrev pub HasEnd : List Event → Hand → Type 0
HasEnd seen h = (has_fault seen h || has_answer seen h.tablet) ≡ true

-- an event of one's own: a hand-out has an end in what was seen, and a fault is justified
abbrev pub IsEnded : (Hand → Cause → Type 0) → List Event → Event → Type 0
IsEnded why seen (Give h) = HasEnd seen h
IsEnded why seen (Answer h) = ⊤
IsEnded why seen (Fault h cause) = why h cause

-- the cause of an event, where it is a fault
abbrev pub cause_of : Option Event → List Cause
cause_of None = []
cause_of (Some (Give h)) = []
cause_of (Some (Answer h)) = []
cause_of (Some (Fault h cause)) = cause ∷ []

-- the causes of the faults at these places, in their order
abbrev pub causes_at : List Event → List ℕ → List Cause
causes_at seen [] = []
causes_at seen (place ∷ places) = cause_of (slice_get seen place) ++ causes_at seen places

-- each event that was added with the pass in between is ended, and each failed read among their faults has a rise of its own between the two counts
pub record EndsAll (why : Hand → Cause → Type 0) (first last : ℕ) (before now : PassShown) : Type 0 where
  pub mine : List ℕ
  pub own : now.own ≡ before.own ++ mine
  pub ended : (place : ℕ) → has_place place mine ≡ true → (e : Event) × (slice_get now.seen place ≡ Some e) × IsEnded why now.seen e
  pub rises : RisesApart first (causes_at now.seen mine) last

-- the same of each event but the last, with which a hand was taken: of that one nothing was told
pub record EndsAllButLast (why : Hand → Cause → Type 0) (j : Job) (first last : ℕ) (before now : PassShown) : Type 0 where
  pub turns : PassShown
  pub ended : EndsAll why first last before turns
  pub hand : Hand
  pub taken : Takes j hand turns now

-- an event that ends a hand-out: an answer, or a fault that is justified
abbrev pub IsEnd : (Hand → Cause → Type 0) → Event → Type 0
IsEnd why (Give h) = ⊥
IsEnd why (Answer h) = ⊤
IsEnd why (Fault h cause) = why h cause

-- the pass added nothing, or one event that ends a hand-out
abbrev pub TellsEnd : (Hand → Cause → Type 0) → PassShown → PassShown → Type 0
TellsEnd why before now = (now.own ≡ before.own) ⊎ ((history : List Event) × (e : Event) × (now ≡ adds history e before) × IsEnd why e)
