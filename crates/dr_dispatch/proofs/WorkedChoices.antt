-- Choices, by computation.
use Rattle.std.specs.Prelude.{◌≡◌, [], ◌∷◌, None, Some, refl}
use Rattle.dr_outside.specs.declared.cause.Cause.TheVariants.{ReadFailed, BadData}
use Rattle.dr_dispatch.specs.Job.{Job, hand}
use Rattle.dr_dispatch.specs.History.{after_event}
use Rattle.dr_dispatch.specs.Choice.{choice, after_take, since_give}
use Rattle.dr_dispatch.specs.declared.event.Event.TheVariants.{Give, Answer, Fault}
use Rattle.dr_dispatch.proofs.WorkedHistories.{one_tablet, three_tablets}

-- One tablet: it is handed out, awaited, fails, and is handed out on its second leaf
pub first_hand : choice one_tablet [] ≡ Some (hand 0 0)
first_hand = refl

pub awaited : choice one_tablet (Give (hand 0 0) ∷ []) ≡ None
awaited = refl

pub second_leaf_after_a_fault : choice one_tablet (Give (hand 0 0) ∷ Fault (hand 0 0) (ReadFailed 0 1) ∷ []) ≡ Some (hand 0 1)
second_leaf_after_a_fault = refl

pub whole_run : after_event one_tablet (after_event one_tablet (after_take one_tablet (after_event one_tablet (after_take one_tablet (after_take one_tablet []))
    (Fault (hand 0 0) (ReadFailed 0 1)))) (Answer (hand 0 1))) (Answer (hand 0 1))
    ≡ Give (hand 0 0) ∷ Fault (hand 0 0) (ReadFailed 0 1) ∷ Give (hand 0 1) ∷ Answer (hand 0 1) ∷ []
whole_run = refl

pub none_after_an_answer : choice one_tablet (Give (hand 0 0) ∷ Fault (hand 0 0) (ReadFailed 0 1) ∷ Give (hand 0 1) ∷ Answer (hand 0 1) ∷ []) ≡ None
none_after_an_answer = refl

pub none_after_the_first_answer : choice one_tablet (Give (hand 0 0) ∷ Answer (hand 0 0) ∷ []) ≡ None
none_after_the_first_answer = refl

pub none_after_all_leaves : choice one_tablet (Give (hand 0 0) ∷ Fault (hand 0 0) BadData ∷ Give (hand 0 1) ∷ Fault (hand 0 1) BadData ∷ []) ≡ None
none_after_all_leaves = refl

-- Two tablets, whose leaves stand in opposite orders
abbrev two_tablets : Job
two_tablets = record { leaves = (0 ∷ 1 ∷ []) ∷ (1 ∷ 0 ∷ []) ∷ []; lag = 2 }

pub next_tablet_first : choice two_tablets (Give (hand 0 0) ∷ []) ≡ Some (hand 1 1)
next_tablet_first = refl

-- the first tablet has one event behind its hand-out, and then two, which is the lag
pub lag_one_short : choice two_tablets (Give (hand 0 0) ∷ Give (hand 1 1) ∷ []) ≡ None
lag_one_short = refl

pub lag_reached : choice two_tablets (Give (hand 0 0) ∷ Give (hand 1 1) ∷ Answer (hand 1 1) ∷ []) ≡ Some (hand 0 1)
lag_reached = refl

pub lag_passed : choice two_tablets (Give (hand 0 0) ∷ Give (hand 1 1) ∷ Fault (hand 1 1) BadData ∷ Give (hand 1 0) ∷ []) ≡ Some (hand 0 1)
lag_passed = refl

-- the second hand-out begins the count anew, and a tablet with no leaf left isn't handed out
pub last_hand_out_counts : since_give (Give (hand 0 0) ∷ Give (hand 1 1) ∷ Answer (hand 1 1) ∷ Give (hand 0 1) ∷ Fault (hand 0 0) BadData ∷ []) 0 ≡ 1
last_hand_out_counts = refl

pub never_handed_out : since_give (Give (hand 1 1) ∷ Answer (hand 1 1) ∷ []) 0 ≡ 2
never_handed_out = refl

pub no_leaf_left : choice two_tablets (Give (hand 0 0) ∷ Give (hand 1 1) ∷ Answer (hand 1 1) ∷ Give (hand 0 1) ∷ Fault (hand 0 0) BadData ∷ []) ≡ None
no_leaf_left = refl

-- Three tablets. A tablet that failed goes before one that is late, also where its number is higher
pub failed_before_late : choice three_tablets (Give (hand 0 5) ∷ Give (hand 1 1) ∷ Give (hand 2 3) ∷ Fault (hand 2 3) BadData ∷ []) ≡ Some (hand 2 5)
failed_before_late = refl

-- of two that failed the lower one
pub lower_of_two_that_failed : choice three_tablets (Give (hand 0 5) ∷ Give (hand 1 1) ∷ Give (hand 2 3) ∷ Fault (hand 2 3) BadData ∷ Fault (hand 0 5) BadData ∷ []) ≡ Some (hand 0 3)
lower_of_two_that_failed = refl

-- of two that are late the lower one
pub lower_of_two_that_are_late : choice three_tablets (Give (hand 2 3) ∷ Give (hand 0 5) ∷ Give (hand 1 1) ∷ Answer (hand 1 1) ∷ []) ≡ Some (hand 0 3)
lower_of_two_that_are_late = refl

-- where the lower one isn't late yet, the higher
pub higher_is_late : choice three_tablets (Give (hand 2 3) ∷ Give (hand 1 1) ∷ Give (hand 0 5) ∷ []) ≡ Some (hand 2 5)
higher_is_late = refl

-- one of its two hand-outs failed, and the other is at work
pub one_hand_out_at_work : choice three_tablets (Give (hand 1 1) ∷ Answer (hand 1 1) ∷ Give (hand 2 3) ∷ Answer (hand 2 3) ∷ Give (hand 0 5) ∷ Give (hand 0 3) ∷ Fault (hand 0 5) BadData ∷ []) ≡ None
one_hand_out_at_work = refl

-- an answered tablet isn't handed out, though leaves are left and all of its hand-outs failed
pub answered_after_a_fault : choice two_tablets (Give (hand 1 1) ∷ Give (hand 0 0) ∷ Fault (hand 0 0) BadData ∷ Answer (hand 0 0) ∷ Answer (hand 1 1) ∷ []) ≡ None
answered_after_a_fault = refl

-- Three tablets of two leaves and a lag of five: the first failed and was taken again, then the third was drawn, and the second is left
abbrev three_drawn : Job
three_drawn = record { leaves = (7 ∷ 8 ∷ []) ∷ (8 ∷ 7 ∷ []) ∷ (7 ∷ 8 ∷ []) ∷ []; lag = 5 }

pub failed_is_taken_again : choice three_drawn (Give (hand 0 7) ∷ Fault (hand 0 7) BadData ∷ []) ≡ Some (hand 0 8)
failed_is_taken_again = refl

pub tablet_between : choice three_drawn (Give (hand 0 7) ∷ Fault (hand 0 7) BadData ∷ Give (hand 0 8) ∷ Give (hand 2 7) ∷ []) ≡ Some (hand 1 8)
tablet_between = refl

-- no tablets
pub no_tablets : choice (record { leaves = []; lag = 0 }) [] ≡ None
no_tablets = refl

-- a take that gives nothing leaves the history as it was
pub nothing_taken : after_take one_tablet (Give (hand 0 0) ∷ []) ≡ Give (hand 0 0) ∷ []
nothing_taken = refl
