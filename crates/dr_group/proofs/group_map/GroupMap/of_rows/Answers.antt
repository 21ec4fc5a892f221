use Rattle.dr_group.proofs.group_map.GroupMap.of_rows.Goals as goal

pub invariant_of-result-clause-numbered : goal.invariant_of-result-clause-numbered
invariant_of-result-clause-numbered c = tt
