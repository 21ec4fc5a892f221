use Rattle.dr_dispatch.proofs.SeatLemmas.{gather_keeps, keeper_knows, met_are_of_history}
use Rattle.dr_dispatch.proofs.seat_laws.keeper_gathers.Goals as goal

pub returns : goal.returns
returns c = record { joins = gather_keeps; knows = keeper_knows; history = met_are_of_history }
