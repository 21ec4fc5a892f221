-- What the calls of a desk tell a pass.
use Rattle.std.specs.Prelude.{◌≡◌, ℕ, Bool, true, false, List, [], Some}
use Rattle.std.specs.declared.option.Option.{Option}
use mathlib.Core.List.{IsPrefix}
use Rattle.dr_dispatch.specs.Job.{Job}
use Rattle.dr_dispatch.specs.History.{has_answer, is_recorded}
use Rattle.dr_dispatch.specs.Draws.{next_hand}
use Rattle.dr_dispatch.specs.Seen.{adds, with_drawn, drew}
use Rattle.dr_dispatch.specs.declared.event.Hand.{Hand}
use Rattle.dr_dispatch.specs.declared.event.Event.{Event}
use Rattle.dr_dispatch.specs.declared.event.Event.TheVariants.{Give, Answer, Fault}
use Rattle.dr_outside.specs.declared.cause.Cause.{Cause}
use Rattle.dr_board.specs.declared.board.Told.{Told}
use Rattle.dr_board.specs.declared.board.Told.TheVariants.{Kept, Spare}
use Rattle.dr_dispatch.specs.declared.seen.PassShown.{PassShown}

-- the event was recorded behind a history that begins with what the pass had seen, and it is the pass's own
pub record Adds (j : Job) (e : Event) (before after : PassShown) : Type 0 where
  pub history : List Event
  pub earlier : IsPrefix before.seen history
  pub recorded : is_recorded j history e ≡ true
  pub added : after ≡ adds history e before

-- the pass drew at most one tablet
abbrev pub IsDrawTold : PassShown → PassShown → Type 0
IsDrawTold before after = (drawn : Option ℕ) × (after.drawn ≡ with_drawn drawn before.drawn)

-- the same as Adds, where the pass drew a tablet, or none, and the event hands out what is then handed out to it: the tablet that it drew, on
-- its first leaf, if it wasn't handed out before, and else the choice
pub record Takes (j : Job) (h : Hand) (before after : PassShown) : Type 0 where
  pub drawn : Option ℕ
  pub history : List Event
  pub earlier : IsPrefix before.seen history
  pub handed : next_hand j history drawn ≡ Some h
  pub added : after ≡ adds history (Give h) (drew drawn before)

-- an answer: its piece was kept and the event is the pass's own, or the tablet was answered before and the piece came back
abbrev pub IsAnswerTold : {P : Type 0} → Job → Hand → P → PassShown → PassShown → Told P → Type 0
IsAnswerTold j h piece before after Kept = Adds j (Answer h) before after
IsAnswerTold j h piece before after (Spare back) = (back ≡ piece) × (has_answer after.seen h.tablet ≡ true) × (after.own ≡ before.own)

-- a fault: it was recorded and the event is the pass's own, or it isn't recorded and the pass has no more of its own
abbrev pub IsFaultTold : Job → Hand → Cause → PassShown → PassShown → Bool → Type 0
IsFaultTold j h cause before after true = Adds j (Fault h cause) before after
IsFaultTold j h cause before after false = (is_recorded j after.seen (Fault h cause) ≡ false) × (after.own ≡ before.own)

-- a pass that has seen nothing
abbrev pub new_pass : PassShown
new_pass = record { seen = []; own = []; drawn = [] }
