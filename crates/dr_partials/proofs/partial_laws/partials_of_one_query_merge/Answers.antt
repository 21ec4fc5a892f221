use Rattle.dr_partials.proofs.PartialTypeLemmas.{merge_is_associative, merge_is_commutative, empty_merges_to_same, empty_is_partial, merged_is_partial}
use Rattle.dr_partials.proofs.partial_laws.partials_of_one_query_merge.Goals as goal

pub returns : goal.returns
returns c = record { associative = merge_is_associative; commutative = merge_is_commutative; neutral = empty_merges_to_same; empty = empty_is_partial; merged = merged_is_partial }
