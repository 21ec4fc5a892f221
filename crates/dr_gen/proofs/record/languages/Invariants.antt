use Rattle.dr_gen.specs.Generator as meant
use Rattle.dr_gen.proofs.RecordLemmas.{Made}
use Rattle.dr_gen.proofs.record.languages.Given as goal

-- with the languages from this one on it is all of them
abbrev pub invariant-languages : goal.invariant-languages
invariant-languages l = Made (meant.language l.x l.j) l.count l.k l.instances.items
