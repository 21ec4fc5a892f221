-- What is handed out to a pass that drew a tablet. The tablets are drawn in ascending order, each once, so that passes begin on tablets of
-- their own.
use Rattle.std.specs.Prelude.{ℕ, Bool, List, [], ◌∷◌, None, Some, if◌then◌else◌}
use Rattle.std.specs.declared.option.Option.{Option}
use Rattle.std.specs.List.{list_any}
use Rattle.dr_dispatch.specs.Job.{Job, hand, leaves_at}
use Rattle.dr_dispatch.specs.Choice.{gives_tablet, or_else, choice}
use Rattle.dr_dispatch.specs.declared.event.Hand.{Hand}
use Rattle.dr_dispatch.specs.declared.event.Event.{Event}

-- the tablet was handed out, on some leaf
abbrev pub was_handed_out : List Event → ℕ → Bool
was_handed_out history t = list_any (gives_tablet t) history

-- the tablet t on its first leaf
abbrev pub first_hand : ℕ → List ℕ → Option Hand
first_hand t [] = None
first_hand t (l ∷ leaves) = Some (hand t l)

-- the tablet t on its first leaf, unless it was handed out before
abbrev pub fresh : Job → List Event → ℕ → Option Hand
fresh j history t = if was_handed_out history t then None else first_hand t (leaves_at j.leaves t)

-- what is handed out after this history to a pass that drew this tablet, or none: the tablet where it is fresh, else the choice
abbrev pub next_hand : Job → List Event → Option ℕ → Option Hand
next_hand j history None = choice j history
next_hand j history (Some t) = or_else (fresh j history t) (choice j history)
