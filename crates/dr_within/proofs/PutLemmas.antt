-- Putting into partials, one thing after another.
use Rattle.std.proofs.Common.{◌∙◌}
use Rattle.std.specs.Prelude.{◌≡◌, ℕ, List, Result, Ok, Err, OnOk}
use Rattle.dr_memory.specs.declared.NoMemory.{NoMemory}
use Rattle.dr_partials.specs.Partials.{Partial}
use Rattle.dr_plan.specs.Planned.{Planned}
use Rattle.dr_group.specs.Gathering.{Becomes}

-- what became so where nothing failed
pub ok_each : (r : Result (Unit {0}) NoMemory) (before after : Partial) (I : Planned → Type 0) (meant told : Planned → Partial)
    → ((p : Planned) → I p → Becomes before after (told p) r) → ((p : Planned) → told p ≡ meant p) → OnOk r ((p : Planned) → I p → after ≡ meant p)
ok_each (Ok d) before after I meant told h e = λ p i. h p i ∙ e p
ok_each (Err e) before after I meant told h f = tt

-- the same of the numbers of any keys whose cells these are
pub ok_for_keys : (r : Result (Unit {0}) NoMemory) (before after : Partial) (I : Planned → Type 0) (K : List ℕ → Type 0) (meant : Planned → List ℕ → Partial)
    (told : Planned → Partial) → ((p : Planned) → I p → Becomes before after (told p) r) → ((p : Planned) (keys : List ℕ) → K keys → told p ≡ meant p keys)
    → OnOk r ((p : Planned) (keys : List ℕ) → K keys → I p → after ≡ meant p keys)
ok_for_keys (Ok d) before after I K meant told h e = λ p keys k i. h p i ∙ e p keys k
ok_for_keys (Err e) before after I K meant told h f = tt
