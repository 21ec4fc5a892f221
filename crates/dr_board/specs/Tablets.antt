-- What a state keeps of each tablet, so that it needs no look at its history.
use Rattle.std.specs.Prelude.{ℕ, suc, ◌-◌, ◌==◌, Bool, true, false, ◌&&◌, ◌||◌, not, nat_le, List, [], ◌∷◌, map, length, None, Some, if◌then◌else◌}
use Rattle.std.specs.declared.option.Option.{Option}
use Rattle.std.specs.List.{list_all, list_any}
use Rattle.dr_dispatch.specs.Job.{Job, hand}
use Rattle.dr_dispatch.specs.History.{has_give, has_answer, has_fault}
use Rattle.dr_dispatch.specs.Choice.{since_give, or_else}
use Rattle.dr_dispatch.specs.declared.event.Hand.{Hand}
use Rattle.dr_dispatch.specs.declared.event.Event.{Event}
use Rattle.dr_dispatch.specs.declared.event.Event.TheVariants.{Give, Answer, Fault}
use Rattle.dr_board.specs.declared.tablet.LeafState.{LeafState}

pub record TabletShown : Type 0 where
  -- each leaf, whether the tablet was given on it, and whether that failed
  pub leaves : List LeafState
  pub answered : Bool
  -- the number of events up to its last hand-out, that one included; 0 before the first
  pub last : ℕ

-- ---- what a history says of a tablet

abbrev pub leaf_at : List Event → ℕ → ℕ → LeafState
leaf_at history t l = record { leaf = l; given = has_give history (hand t l); failed = has_fault history (hand t l) }

abbrev pub tablet_at : List Event → ℕ → List ℕ → TabletShown
tablet_at history t leaves = record { leaves = map (leaf_at history t) leaves; answered = has_answer history t; last = length history - since_give history t }

-- of the tablets from t on
abbrev pub tablets_from : List Event → ℕ → List (List ℕ) → List TabletShown
tablets_from history t [] = []
tablets_from history t (leaves ∷ rest) = tablet_at history t leaves ∷ tablets_from history (suc t) rest

-- before the first event
abbrev pub new_leaf : ℕ → LeafState
new_leaf l = record { leaf = l; given = false; failed = false }

abbrev pub new_tablet : List ℕ → TabletShown
new_tablet leaves = record { leaves = map new_leaf leaves; answered = false; last = 0 }

-- the leaves of each tablet
abbrev pub leaves_of : List TabletShown → List (List ℕ)
leaves_of tablets = map (λ (tablet : TabletShown). map (λ (l : LeafState). l.leaf) tablet.leaves) tablets

-- ---- what is handed out

-- the tablet t on its first leaf that it wasn't given on
abbrev pub open_hand : ℕ → List LeafState → Option Hand
open_hand t [] = None
open_hand t (l ∷ leaves) = if l.given then open_hand t leaves else Some (hand t l.leaf)

abbrev pub urgent_hand : ℕ → TabletShown → Option Hand
urgent_hand t tablet = if not tablet.answered && list_all (λ (l : LeafState). not l.given || l.failed) tablet.leaves then open_hand t tablet.leaves else None

abbrev pub late_hand : ℕ → ℕ → ℕ → TabletShown → Option Hand
late_hand lag count t tablet = if not tablet.answered && nat_le lag (count - tablet.last) then open_hand t tablet.leaves else None

abbrev pub lowest_hand : (ℕ → TabletShown → Option Hand) → ℕ → List TabletShown → Option Hand
lowest_hand pick t [] = None
lowest_hand pick t (tablet ∷ rest) = or_else (pick t tablet) (lowest_hand pick (suc t) rest)

-- the tablet t on its first leaf
abbrev pub first_leaf_hand : ℕ → List LeafState → Option Hand
first_leaf_hand t [] = None
first_leaf_hand t (l ∷ leaves) = Some (hand t l.leaf)

-- the same, where the tablet wasn't handed out
abbrev pub fresh_hand : ℕ → TabletShown → Option Hand
fresh_hand t tablet = if tablet.last == 0 then first_leaf_hand t tablet.leaves else None

-- the choice after `count` events
abbrev pub chosen_hand : ℕ → ℕ → List TabletShown → Option Hand
chosen_hand lag count tablets = or_else (lowest_hand urgent_hand 0 tablets) (lowest_hand (late_hand lag count) 0 tablets)

-- ---- what an event of the tablet does

abbrev pub hand_of : Event → Hand
hand_of (Give h) = h
hand_of (Answer h) = h
hand_of (Fault h cause) = h

abbrev pub is_on : ℕ → LeafState → Bool
is_on leaf l = l.leaf == leaf

abbrev pub is_given_on : ℕ → LeafState → Bool
is_given_on leaf l = (l.leaf == leaf) && l.given

abbrev pub has_failed_on : ℕ → LeafState → Bool
has_failed_on leaf l = (l.leaf == leaf) && l.failed

-- the event is recorded
abbrev pub takes_event : TabletShown → Event → Bool
takes_event tablet (Give h) = list_any (is_on h.leaf) tablet.leaves && not tablet.answered && not (list_any (is_given_on h.leaf) tablet.leaves)
takes_event tablet (Answer h) = list_any (is_given_on h.leaf) tablet.leaves && not tablet.answered
takes_event tablet (Fault h cause) = list_any (is_given_on h.leaf) tablet.leaves && not (list_any (has_failed_on h.leaf) tablet.leaves) && not tablet.answered

-- the leaf after the tablet was given on it, or after that failed
abbrev pub marked_leaf : Bool → LeafState → LeafState
marked_leaf fails l = record { leaf = l.leaf; given = l.given || not fails; failed = l.failed || fails }

abbrev pub leaf_after : Bool → ℕ → LeafState → LeafState
leaf_after fails leaf l = if leaf == l.leaf then marked_leaf fails l else l

-- the tablet after the event, the count-th of all
abbrev pub tablet_after : ℕ → TabletShown → Event → TabletShown
tablet_after count tablet (Give h) = record { leaves = map (leaf_after false h.leaf) tablet.leaves; answered = tablet.answered; last = count }
tablet_after count tablet (Answer h) = record { leaves = tablet.leaves; answered = true; last = tablet.last }
tablet_after count tablet (Fault h cause) = record { leaves = map (leaf_after true h.leaf) tablet.leaves; answered = tablet.answered; last = tablet.last }

-- the job of these tablets
abbrev pub job_of : ℕ → List TabletShown → Job
job_of lag tablets = record { leaves = leaves_of tablets; lag = lag }
