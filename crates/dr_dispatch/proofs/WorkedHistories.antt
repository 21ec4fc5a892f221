-- Histories, by computation.
use Rattle.std.specs.Prelude.{◌≡◌, true, false, List, [], ◌∷◌, ◌++◌, refl}
use Rattle.dr_outside.specs.declared.cause.Cause.TheVariants.{ReadFailed, BadFooter, BadData}
use Rattle.dr_dispatch.specs.Job.{Job, hand, leaves_at, pairs}
use Rattle.dr_dispatch.specs.History.{is_recorded, replayed, is_history, answered}
use Rattle.dr_dispatch.specs.declared.event.Event.{Event}
use Rattle.dr_dispatch.specs.declared.event.Event.TheVariants.{Give, Answer, Fault}

-- one tablet on the leaves 0 and 1
abbrev pub one_tablet : Job
one_tablet = record { leaves = (0 ∷ 1 ∷ []) ∷ []; lag = 1 }

-- three tablets, on leaves in an order of their own
abbrev pub three_tablets : Job
three_tablets = record { leaves = (5 ∷ 3 ∷ []) ∷ (1 ∷ []) ∷ (3 ∷ 5 ∷ 0 ∷ []) ∷ []; lag = 2 }

pub leaves_of_the_last : leaves_at three_tablets.leaves 2 ≡ 3 ∷ 5 ∷ 0 ∷ []
leaves_of_the_last = refl

pub leaves_of_none : leaves_at three_tablets.leaves 3 ≡ []
leaves_of_none = refl

pub six_pairs : pairs three_tablets ≡ 6
six_pairs = refl

-- a second Give, a second Answer, and a Fault after an Answer
pub repeats_are_dropped : replayed one_tablet (Give (hand 0 0) ∷ Give (hand 0 0) ∷ Answer (hand 0 0) ∷ Answer (hand 0 0) ∷ Fault (hand 0 0) (ReadFailed 0 1) ∷ [])
    ≡ Give (hand 0 0) ∷ Answer (hand 0 0) ∷ []
repeats_are_dropped = refl

-- an event that isn't recorded changes nothing for those behind it
pub later_events_count : replayed one_tablet (Answer (hand 0 1) ∷ Give (hand 0 1) ∷ Fault (hand 0 0) BadData ∷ Answer (hand 0 1) ∷ []) ≡ Give (hand 0 1) ∷ Answer (hand 0 1) ∷ []
later_events_count = refl

-- Give
abbrev given_once : List Event
given_once = Give (hand 0 5) ∷ []

pub leaf_of_the_tablet : is_recorded three_tablets [] (Give (hand 0 3)) ≡ true
leaf_of_the_tablet = refl

pub leaf_of_another_tablet : is_recorded three_tablets [] (Give (hand 1 3)) ≡ false
leaf_of_another_tablet = refl

pub no_such_tablet : is_recorded three_tablets [] (Give (hand 3 3)) ≡ false
no_such_tablet = refl

pub given_on_a_second_leaf : is_recorded three_tablets given_once (Give (hand 0 3)) ≡ true
given_on_a_second_leaf = refl

pub same_leaf_of_another_tablet : is_recorded three_tablets given_once (Give (hand 2 5)) ≡ true
same_leaf_of_another_tablet = refl

pub given_twice : is_recorded three_tablets given_once (Give (hand 0 5)) ≡ false
given_twice = refl

-- a tablet that was answered isn't given; others are
pub given_after_its_answer : is_recorded three_tablets (given_once ++ Answer (hand 0 5) ∷ []) (Give (hand 0 3)) ≡ false
given_after_its_answer = refl

pub given_after_an_answer_of_another : is_recorded three_tablets (given_once ++ Answer (hand 0 5) ∷ []) (Give (hand 2 3)) ≡ true
given_after_an_answer_of_another = refl

-- Answer
pub answered_without_give : is_recorded three_tablets given_once (Answer (hand 0 3)) ≡ false
answered_without_give = refl

pub answered_of_another_tablet : is_recorded three_tablets given_once (Answer (hand 2 5)) ≡ false
answered_of_another_tablet = refl

-- the leaf that failed before may still answer, and so may each leaf that was given
pub answered_after_its_fault : is_recorded three_tablets (given_once ++ Fault (hand 0 5) BadFooter ∷ []) (Answer (hand 0 5)) ≡ true
answered_after_its_fault = refl

pub answered_by_the_second_leaf : is_recorded three_tablets (given_once ++ Give (hand 0 3) ∷ []) (Answer (hand 0 3)) ≡ true
answered_by_the_second_leaf = refl

-- a late answer of the first leaf, after the answer of the second
pub late_answer : is_recorded three_tablets (given_once ++ Give (hand 0 3) ∷ Answer (hand 0 3) ∷ []) (Answer (hand 0 5)) ≡ false
late_answer = refl

-- Fault
pub fault_without_give : is_recorded three_tablets given_once (Fault (hand 0 3) BadData) ≡ false
fault_without_give = refl

pub fault_of_a_hand : is_recorded three_tablets given_once (Fault (hand 0 5) BadData) ≡ true
fault_of_a_hand = refl

-- whatever the cause
pub second_fault : is_recorded three_tablets (given_once ++ Fault (hand 0 5) BadFooter ∷ []) (Fault (hand 0 5) BadData) ≡ false
second_fault = refl

pub fault_of_the_second_leaf : is_recorded three_tablets (given_once ++ Give (hand 0 3) ∷ Fault (hand 0 5) BadFooter ∷ []) (Fault (hand 0 3) BadData) ≡ true
fault_of_the_second_leaf = refl

pub fault_after_an_answer : is_recorded three_tablets (given_once ++ Give (hand 0 3) ∷ Answer (hand 0 3) ∷ []) (Fault (hand 0 5) BadData) ≡ false
fault_after_an_answer = refl

pub fault_after_an_answer_of_another : is_recorded three_tablets (given_once ++ Give (hand 1 1) ∷ Answer (hand 1 1) ∷ []) (Fault (hand 0 5) BadData) ≡ true
fault_after_an_answer_of_another = refl

-- histories
pub whole_history : is_history three_tablets (Give (hand 2 3) ∷ Give (hand 0 5) ∷ Answer (hand 2 3) ∷ Fault (hand 0 5) BadData ∷ Give (hand 0 3) ∷ Answer (hand 0 3) ∷ []) ≡ true
whole_history = refl

pub no_history : is_history three_tablets (Give (hand 2 3) ∷ Answer (hand 2 3) ∷ Answer (hand 2 3) ∷ Give (hand 0 5) ∷ []) ≡ false
no_history = refl

pub answered_in_order : answered (Give (hand 2 3) ∷ Give (hand 0 5) ∷ Answer (hand 2 3) ∷ Fault (hand 0 5) BadData ∷ Give (hand 0 3) ∷ Answer (hand 0 3) ∷ []) ≡ 2 ∷ 0 ∷ []
answered_in_order = refl
