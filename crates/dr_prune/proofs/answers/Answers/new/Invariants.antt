use Rattle.std.proofs.Common.{◌≡◌, ◌++◌, map, drop}
use Rattle.dr_prune.proofs.PartAnswerLemmas.{fresh}
use Rattle.dr_prune.proofs.answers.Answers.new.Given as goal

-- the parts from this one on are still to come
abbrev pub invariant-lasts : goal.invariant-lasts
invariant-lasts l = l.parts.items ++ map fresh (drop l.last-index l.lasts) ≡ map fresh l.lasts
