-- Passes that draw tablets, call by call, by computation.
use Rattle.std.specs.Prelude.{◌≡◌, true, false, [], ◌∷◌, ◌++◌, None, Some, refl, List}
use Rattle.dr_outside.specs.declared.cause.Cause.TheVariants.{BadData}
use Rattle.dr_dispatch.specs.Job.{Job, hand}
use Rattle.dr_dispatch.specs.Choice.{choice}
use Rattle.dr_dispatch.specs.Draws.{was_handed_out, fresh, next_hand}
use Rattle.dr_dispatch.specs.Seen.{drew, adds}
use Rattle.dr_dispatch.specs.Seats.{keeper_at, pass_at, handed, gathered, passed, keeper_of, newcomer_of, looked, added, drawing}
use Rattle.dr_dispatch.specs.declared.event.Event.{Event}
use Rattle.dr_dispatch.specs.declared.event.Event.TheVariants.{Give, Fault}
use Rattle.dr_dispatch.specs.declared.seen.PassShown.{PassShown}
use Rattle.dr_dispatch.specs.declared.seen.SeatView.{SeatView}

-- ---- three tablets of two leaves, and a lag of five

abbrev three : Job
three = record { leaves = (7 ∷ 8 ∷ []) ∷ (8 ∷ 7 ∷ []) ∷ (7 ∷ 8 ∷ []) ∷ []; lag = 5 }

-- the first pass draws the tablet 0, takes it on its first leaf and tells a fault; it draws 1, and is stopped
pub first_draw : next_hand three [] (Some 0) ≡ Some (hand 0 7)
first_draw = refl

abbrev failed : List Event
failed = Give (hand 0 7) ∷ Fault (hand 0 7) BadData ∷ []

-- the second pass loses its draw, and is handed the choice
pub lost_draw : next_hand three failed None ≡ Some (hand 0 8)
lost_draw = refl

-- it draws 2, and is handed that, though 1 is the choice
abbrev taken_again : List Event
taken_again = failed ++ Give (hand 0 8) ∷ []

pub choice_then : choice three taken_again ≡ Some (hand 1 8)
choice_then = refl

pub second_draw : next_hand three taken_again (Some 2) ≡ Some (hand 2 7)
second_draw = refl

-- the first pass goes on, and is handed the tablet that it drew
pub stopped_draw : next_hand three (taken_again ++ Give (hand 2 7) ∷ []) (Some 1) ≡ Some (hand 1 8)
stopped_draw = refl

-- a draw of 0 now would be handed nothing fresh, and then the choice
pub drawn_too_late : fresh three taken_again 0 ≡ None
drawn_too_late = refl

pub choice_after_that : next_hand three taken_again (Some 0) ≡ Some (hand 1 8)
choice_after_that = refl

-- ---- two tablets

abbrev two : Job
two = record { leaves = (0 ∷ 1 ∷ []) ∷ (1 ∷ 0 ∷ []) ∷ []; lag = 5 }

-- one pass draws 0, and is stopped; another loses its draw, and is handed that tablet, as the choice
pub chosen_before : next_hand two [] None ≡ Some (hand 0 0)
chosen_before = refl

-- the tablet isn't fresh any more, and the first pass is handed the choice
pub not_fresh : fresh two (Give (hand 0 0) ∷ []) 0 ≡ None
not_fresh = refl

pub choice_instead : next_hand two (Give (hand 0 0) ∷ []) (Some 0) ≡ Some (hand 1 1)
choice_instead = refl

-- with nothing to choose, nothing is handed out
pub nothing_left : next_hand two (Give (hand 0 0) ∷ Give (hand 1 1) ∷ []) (Some 1) ≡ None
nothing_left = refl

-- ---- what is fresh

pub handed_out_on_another_leaf : was_handed_out (Give (hand 0 8) ∷ []) 0 ≡ true
handed_out_on_another_leaf = refl

pub another_handed_out : was_handed_out (Give (hand 1 8) ∷ []) 0 ≡ false
another_handed_out = refl

pub no_leaf : fresh (record { leaves = [] ∷ []; lag = 1 }) [] 0 ≡ None
no_leaf = refl

pub no_tablet : fresh two [] 2 ≡ None
no_tablet = refl

-- ---- the seats of the first two passes: the first draws 0, takes it, and draws 1; the second draws 2

abbrev new_pass : PassShown
new_pass = record { seen = []; own = []; drawn = [] }

abbrev first_drew : SeatView
first_drew = drawing 0 (newcomer_of (keeper_at []))

pub drew_before_the_lock : first_drew ≡ pass_at (drew (Some 0) new_pass)
drew_before_the_lock = refl

abbrev first_took : SeatView
first_took = added 0 (Give (hand 0 7)) (looked (handed first_drew (keeper_at [])))

pub pass_after_take : passed first_took ≡ pass_at (adds [] (Give (hand 0 7)) (drew (Some 0) new_pass))
pass_after_take = refl

pub keeper_after_take : keeper_of first_took ≡ keeper_at (Give (hand 0 7) ∷ [])
keeper_after_take = refl

pub drew_again : drawing 1 (passed first_took) ≡ record { seen = Give (hand 0 7) ∷ []; own = 0 ∷ []; drawn = 0 ∷ 1 ∷ []; keeps = false; met = [] }
drew_again = refl

-- a lost draw leaves the pass as it was
pub lost : drew None new_pass ≡ new_pass
lost = refl

-- the keeper, which gathers the passes, has what both drew
pub gathered_draws : (gathered (keeper_at []) (drawing 2 first_drew)).drawn ≡ 0 ∷ 2 ∷ []
gathered_draws = refl
