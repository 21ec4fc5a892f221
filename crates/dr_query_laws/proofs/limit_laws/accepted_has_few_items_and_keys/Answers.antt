use Rattle.dr_query_laws.proofs.ElementsCounted.{few_items, few_keys}
use Rattle.dr_query_laws.proofs.limit_laws.accepted_has_few_items_and_keys.Goals as goal

pub returns : goal.returns
returns c = record { items = few_items; keys = few_keys }
