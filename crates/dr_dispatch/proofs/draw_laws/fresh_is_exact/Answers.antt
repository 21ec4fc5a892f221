use Rattle.dr_dispatch.proofs.DrawLemmas.{fresh_is_recorded, not_fresh_exactly}
use Rattle.dr_dispatch.proofs.draw_laws.fresh_is_exact.Goals as goal

pub returns : goal.returns
returns c = record { recorded = fresh_is_recorded; exactly = not_fresh_exactly }
