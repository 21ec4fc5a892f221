use Rattle.dr_columns.proofs.chunks.Chunks.into_parts.Goals as goal

pub returns-clause-partial : goal.returns-clause-partial
returns-clause-partial c = λ s p rows given R h. c.close.ensures.partial s p R h.taken

pub returns-clause-of_plan : goal.returns-clause-of_plan
returns-clause-of_plan c = λ s p rows given R h. c.close.ensures.of_plan s p R h.taken
