-- The pieces that are kept.
use Rattle.std.specs.Prelude.{◌≡◌, ℕ, true, List, map, All}
use Rattle.dr_dispatch.specs.Job.{Job}
use Rattle.dr_dispatch.specs.History.{is_history, answered}
use Rattle.dr_dispatch.specs.declared.event.Event.{Event}

-- the pieces are one for each answered tablet, in the order of the answers, and each is true of its tablet
pub record KeepsPieces {P : Type 0} (j : Job) (tablet_of : P → ℕ) (is_true : ℕ → P → Type 0) (history : List Event) (pieces : List P) : Type 0 where
  pub recorded : is_history j history ≡ true
  pub tablets : map tablet_of pieces ≡ answered history
  pub truths : All (λ p. is_true (tablet_of p) p) pieces
