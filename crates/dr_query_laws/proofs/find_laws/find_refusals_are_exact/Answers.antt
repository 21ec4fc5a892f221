use Rattle.dr_query_laws.proofs.FindRefusals.{find_group_is_exact, find_nothing_is_exact}
use Rattle.dr_query_laws.proofs.find_laws.find_refusals_are_exact.Goals as goal

pub returns : goal.returns
returns c = record { group = find_group_is_exact; nothing = find_nothing_is_exact }
