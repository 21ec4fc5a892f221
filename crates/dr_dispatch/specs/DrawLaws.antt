-- Laws of what is handed out to a pass that drew a tablet.
use Rattle.std.specs.Prelude.{◌≡◌, ◌↔◌, ◌⊎◌, ℕ, true, false, List, [], None, Some}
use Rattle.std.specs.declared.option.Option.{Option}
use Rattle.dr_dispatch.specs.Job.{Job, leaves_at}
use Rattle.dr_dispatch.specs.History.{is_recorded, is_history}
use Rattle.dr_dispatch.specs.Choice.{choice}
use Rattle.dr_dispatch.specs.Draws.{was_handed_out, first_hand, fresh, next_hand}
use Rattle.dr_dispatch.specs.declared.event.Hand.{Hand}
use Rattle.dr_dispatch.specs.declared.event.Event.{Event}
use Rattle.dr_dispatch.specs.declared.event.Event.TheVariants.{Give}

-- what is fresh can be handed out
abbrev pub FreshIsRecorded : Type 0
FreshIsRecorded = (j : Job) (history : List Event) (t : ℕ) (h : Hand) → is_history j history ≡ true → fresh j history t ≡ Some h → is_recorded j history (Give h) ≡ true

-- a tablet isn't fresh exactly where it was handed out, or has no leaf
abbrev pub NotFreshExactly : Type 0
NotFreshExactly = (j : Job) (history : List Event) (t : ℕ) → (fresh j history t ≡ None) ↔ ((was_handed_out history t ≡ true) ⊎ (leaves_at j.leaves t ≡ []))

-- the hand is the first leaf of its tablet, which wasn't handed out before
pub record IsFresh (j : Job) (history : List Event) (h : Hand) : Type 0 where
  pub new : was_handed_out history h.tablet ≡ false
  pub first : first_hand h.tablet (leaves_at j.leaves h.tablet) ≡ Some h

-- what is handed out was the choice, or it is fresh and the tablet that was drawn
abbrev pub HandIsChosenOrFresh : Type 0
HandIsChosenOrFresh = (j : Job) (history : List Event) (drawn : Option ℕ) (h : Hand) → next_hand j history drawn ≡ Some h
    → (choice j history ≡ Some h) ⊎ ((drawn ≡ Some h.tablet) × IsFresh j history h)

-- where nothing is handed out there is no choice
abbrev pub NoHandIsNoChoice : Type 0
NoHandIsNoChoice = (j : Job) (history : List Event) (drawn : Option ℕ) → next_hand j history drawn ≡ None → choice j history ≡ None
