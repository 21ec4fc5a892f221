-- The table of an automaton's order.
use Rattle.std.specs.Prelude.{◌≡◌, ℕ, List, Vec}
use Rattle.std.specs.declared.alloc.Global.{Global}
use Rattle.std.proofs.Common.{ap, ◌∙◌}
use Rattle.dr_meaning.specs.Path.{Step}
use Rattle.dr_meaning.specs.Automaton.{transition}
use Rattle.dr_fsm.specs.declared.state.State.{State}
use Rattle.dr_fsm.specs.Tables.{paths_at, table_at}

-- the order is read through a slice
pub transitions : (F : List (List Step)) (lent order : List ℕ) (rows : List (Vec State Global)) → lent ≡ order → ((i l : ℕ) → table_at rows i l ≡ transition (paths_at F lent) i l) → (i l : ℕ) → table_at rows i l ≡ transition (paths_at F order) i l
transitions F lent order rows same h i l = h i l ∙ ap (λ (is : List ℕ). transition (paths_at F is) i l) same
