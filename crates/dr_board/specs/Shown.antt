-- What a state and a board show.
use Rattle.std.specs.Prelude.{◌≡◌, ℕ, ◌*◌, ◌^◌, ◌<◌, ◌≤◌, true, List, [], ◌∷◌, ◌++◌, length, take, if◌then◌else◌}
use Rattle.std.specs.List.{list_all}
use Rattle.dr_dispatch.specs.Job.{Job, pairs}
use Rattle.dr_dispatch.specs.History.{is_history, has_answer}
use Rattle.dr_dispatch.specs.Pieces.{KeepsPieces}
use Rattle.dr_dispatch.specs.declared.event.Event.{Event}
use Rattle.dr_board.specs.Tablets.{TabletShown, tablets_from}

-- a job, and a history of it
pub record StateShown : Type 0 where
  pub job : Job
  pub history : List Event

-- before the first event
abbrev pub first_state : Job → StateShown
first_state j = record { job = j; history = [] }

-- the first `start` of these tablets were answered, or all, where there are fewer
abbrev pub AreAnswered : ℕ → List TabletShown → Type 0
AreAnswered start tablets = list_all (λ (t : TabletShown). t.answered) (take start tablets) ≡ true

-- the history is one of the job, and each tablet is as it says; there is room for each event that may come; the first `start` tablets were
-- answered
pub record KeepsState (j : Job) (history : List Event) (tablets : List TabletShown) (capacity start : ℕ) : Type 0 where
  pub recorded : is_history j history ≡ true
  pub standing : tablets ≡ tablets_from history 0 j.leaves
  pub room : 3 * pairs j ≤ capacity
  pub bound : 3 * pairs j < 2 ^ 63
  pub small : length j.leaves ≤ 2 ^ 32
  pub passed : AreAnswered start tablets

-- a history, and the pieces that are kept
pub record BoardShown (P : Type 0) : Type 0 where
  pub history : List Event
  pub pieces : List P

-- before the first event
abbrev pub empty_board : {P : Type 0} → BoardShown P
empty_board = record { history = []; pieces = [] }

-- the pieces after one came for a tablet
abbrev pub pieces_after : {P : Type 0} → BoardShown P → ℕ → P → List P
pieces_after board t piece = if has_answer board.history t then board.pieces else board.pieces ++ piece ∷ []

-- of a board for the named job: its state is of that job, its pieces are those that the history asks for, and there is room for one a tablet
pub record KeepsBoard {P : Type 0} (named : Job) (tablet_of : P → ℕ) (is_true : ℕ → P → Type 0)
    (state : StateShown) (pieces : List P) (capacity : ℕ) : Type 0 where
  pub kept : KeepsPieces named tablet_of is_true state.history pieces
  pub job : state.job ≡ named
  pub room : length named.leaves ≤ capacity
