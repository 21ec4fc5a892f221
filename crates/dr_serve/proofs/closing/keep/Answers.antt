use Rattle.std.proofs.Common.{subst}
use Rattle.dr_scan.specs.declared.tablet.Scanned.{Scanned}
use Rattle.dr_serve.specs.Closing.{CanKeep}
use Rattle.dr_serve.proofs.CloseLemmas.{kept_given}
use Rattle.dr_serve.proofs.closing.keep.Goals as goal

pub add-requires : goal.add-requires
add-requires c = subst (λ (x : Scanned). CanKeep c.args.tablet x c.args.closed.now.grown) c.in-Given.is c.requires

pub returns-in-Given-clause-grown : goal.returns-in-Given-clause-grown
returns-in-Given-clause-grown c = kept_given c.add.result c.args.tablet c.in-Given.partial c.args.outcome c.args.closed.now.grown c.add.new.self c.in-Given.is c.add.ensures.added
