-- What a link shows after work.
use Rattle.std.specs.Prelude.{◌≡◌, ◌<◌, ◌≤◌, ℕ, List, drop, length, slice_index_or, IsTrue}
use Rattle.dr_meaning.specs.Path.{Leaf}
use Rattle.dr_formats.specs.TableFile.{Table}
use Rattle.dr_outside.specs.Link.{LinkShown}
use Rattle.dr_plan.specs.Planned.{plan_leaves}
use Rattle.dr_plan.specs.declared.plan.Plan.{Plan}
use Rattle.dr_reading.specs.Scan.{Copy, tablets_of}
use Rattle.dr_scan.specs.Asked.{AsksForTablets}

-- the link holds what it held, its count of faults didn't fall, it stays steady, and it was asked only for what the plan's leaves take of the
-- table's tablets
pub record Worked (t : Table) (plan : Plan) (before now : LinkShown) : Type 0 where
  pub same : now.held ≡ before.held
  pub never_falls : before.faults ≤ now.faults
  pub stays_steady : IsTrue before.is_steady → IsTrue now.is_steady
  pub asks : AsksForTablets (plan_leaves plan) (tablets_of t) before now

-- this holds of each link before and after
abbrev pub OfEachLink : {L : Type 0} → (L → LinkShown) → (LinkShown → LinkShown → Type 0) → List L → List L → Type 0
OfEachLink {L} shows P before after = (i : ℕ) (l : L) → i < length before → P (shows (slice_index_or before i l)) (shows (slice_index_or after i l))

-- what a call leaves of some links, of which the first so many may work
pub record LeavesLinks {L : Type 0} (F : List Leaf) (tablets : List (List Copy)) (shows : L → LinkShown) (workers : ℕ) (before now : List L) : Type 0 where
  -- each is asked only for what these leaves take of these tablets
  pub asks : OfEachLink shows (AsksForTablets F tablets) before now
  -- each holds what it held
  pub same : OfEachLink shows (λ (b n : LinkShown). n.held ≡ b.held) before now
  -- no count of faults falls
  pub never_falls : OfEachLink shows (λ (b n : LinkShown). b.faults ≤ n.faults) before now
  -- a steady link stays so
  pub stays_steady : OfEachLink shows (λ (b n : LinkShown). IsTrue b.is_steady → IsTrue n.is_steady) before now
  -- the others are as they were
  pub others : drop workers now ≡ drop workers before
  -- none goes, and none comes
  pub count : length now ≡ length before
