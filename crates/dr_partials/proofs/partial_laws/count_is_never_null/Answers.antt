use Rattle.dr_partials.proofs.PartialTypeLemmas.{one_group_without_keys, count_is_number}
use Rattle.dr_partials.proofs.partial_laws.count_is_never_null.Goals as goal

pub returns : goal.returns
returns c = record { group = one_group_without_keys; number = count_is_number }
