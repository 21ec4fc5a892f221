use Rattle.dr_gen.specs.Generator as meant
use Rattle.dr_gen.proofs.RecordLemmas.{Made}
use Rattle.dr_gen.proofs.record.names.Given as goal

-- with the names from this one on it is all of them
abbrev pub invariant-names : goal.invariant-names
invariant-names l = Made (meant.name l.x) l.count l.j l.instances.items
