-- Calls of two passes, seat by seat, by computation.
use Rattle.std.specs.Prelude.{◌≡◌, ℕ, zero, suc, true, false, List, [], ◌∷◌, refl}
use Rattle.std.specs.List.{list_any}
use Rattle.std.proofs.Common.{arith, true≢false}
use Rattle.std.proofs.lemmas.Bool.Decides.{nat_tests}
use Rattle.dr_dispatch.specs.Job.{hand}
use Rattle.dr_dispatch.specs.Seen.{has_place, adds, looks, Ascends, AreOfHistory}
use Rattle.dr_dispatch.specs.Seats.{keeper_at, pass_at, spent, shown, handed, gathered, passed, keeper_of, newcomer_of, looked, added}
use Rattle.dr_dispatch.specs.declared.event.Event.{Event}
use Rattle.dr_dispatch.specs.declared.event.Event.TheVariants.{Give, Answer}
use Rattle.dr_dispatch.specs.declared.seen.PassShown.{PassShown}
use Rattle.dr_dispatch.specs.declared.seen.SeatView.{SeatView}

abbrev pass : List Event → PassShown
pass seen = record { seen = seen; own = []; drawn = [] }

-- the first seat keeps nothing, and two passes are split from it
pub newcomer : newcomer_of (keeper_at []) ≡ pass_at (pass [])
newcomer = refl

-- the first pass takes a hand: its seat is joined, adds the event, and the keeper's seat is split from it
abbrev joined : SeatView
joined = handed (newcomer_of (keeper_at [])) (keeper_at [])

pub joined_keeps : joined ≡ record { seen = []; own = []; drawn = []; keeps = true; met = pass [] ∷ [] }
joined_keeps = refl

abbrev taken : SeatView
taken = added 0 (Give (hand 0 0)) joined

pub pass_after_take : passed taken ≡ pass_at (adds [] (Give (hand 0 0)) (pass []))
pass_after_take = refl

pub keeper_after_take : keeper_of taken ≡ keeper_at (Give (hand 0 0) ∷ [])
keeper_after_take = refl

-- it is told Kept
abbrev told : SeatView
told = added 1 (Answer (hand 0 0)) (handed (passed taken) (keeper_of taken))

pub pass_after_answer : passed told ≡ record { seen = Give (hand 0 0) ∷ Answer (hand 0 0) ∷ []; own = 0 ∷ 1 ∷ []; drawn = []; keeps = false; met = [] }
pass_after_answer = refl

-- the second pass is given nothing: it has seen both events, and owns none
abbrev waiting : SeatView
waiting = looked (handed (newcomer_of (keeper_at [])) (keeper_of told))

pub second_sees_both : passed waiting ≡ pass_at (looks (Give (hand 0 0) ∷ Answer (hand 0 0) ∷ []) (pass []))
second_sees_both = refl

pub keeper_after_look : keeper_of waiting ≡ keeper_at (Give (hand 0 0) ∷ Answer (hand 0 0) ∷ [])
keeper_after_look = refl

-- at the end the keeper gathers the passes, and has met them the last first
pub gathered_both : gathered (gathered (keeper_of waiting) (passed waiting)) (passed told)
    ≡ record { seen = Give (hand 0 0) ∷ Answer (hand 0 0) ∷ []; own = 0 ∷ 1 ∷ []; drawn = []; keeps = true; met = shown (passed told) ∷ shown (passed waiting) ∷ [] }
gathered_both = refl

pub spent_is_empty : spent ≡ pass_at (pass [])
spent_is_empty = refl

-- places
pub place_is_there : has_place 4 (1 ∷ 4 ∷ 6 ∷ []) ≡ true
place_is_there = refl

pub place_is_not_there : has_place 5 (1 ∷ 4 ∷ 6 ∷ []) ≡ false
place_is_not_there = refl

-- own places ascend, and stand in the history
pub no_places_of_none : Ascends 0 [] 0
no_places_of_none = omega arith

pub places_ascend : Ascends 0 (0 ∷ 2 ∷ 3 ∷ []) 4
places_ascend = (omega arith, (omega arith, (omega arith, omega arith)))

pub place_past_the_end : Ascends 0 (0 ∷ 2 ∷ []) 2 → ⊥
place_past_the_end a = omega (arith, a.1.1)

pub place_twice : Ascends 0 (2 ∷ 2 ∷ []) 9 → ⊥
place_twice a = omega (arith, a.1.0)

pub place_below_the_least : Ascends 3 (2 ∷ []) 9 → ⊥
place_below_the_least a = omega (arith, a.0)

-- two passes of one history
abbrev first : PassShown
first = record { seen = Give (hand 0 0) ∷ []; own = 0 ∷ []; drawn = [] }

abbrev second : PassShown
second = record { seen = Give (hand 0 0) ∷ Answer (hand 0 0) ∷ []; own = 1 ∷ []; drawn = [] }

pub passes_of_one_history : AreOfHistory (Give (hand 0 0) ∷ Answer (hand 0 0) ∷ []) (first ∷ second ∷ [])
passes_of_one_history = ((Answer (hand 0 0) ∷ [], refl), (λ p own. apart p own), (([], refl), (λ p own. refl), tt))
  where
    apart : (p : ℕ) → has_place p (0 ∷ []) ≡ true → list_any (λ (other : PassShown). has_place p other.own) (second ∷ []) ≡ false
    apart zero own = refl
    apart (suc p) own = grind (arith, nat_tests)

-- an own place of both
pub place_of_both : (history : List Event) → AreOfHistory history (first ∷ record { seen = []; own = 1 ∷ 0 ∷ []; drawn = [] } ∷ []) → ⊥
place_of_both history of = true≢false (of.1 0 refl)

-- no pass has seen what isn't in the history
pub seen_past_the_history : AreOfHistory [] (first ∷ []) → ⊥
seen_past_the_history of = cc (of.0.1)
