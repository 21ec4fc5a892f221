use Rattle.std.proofs.Common.{subst}
use Rattle.std.specs.Prelude.{Result, Ok, Err, OnOk}
use Rattle.dr_memory.specs.declared.NoMemory.{NoMemory}
use Rattle.dr_scan.specs.Makings.{Makes}
use Rattle.dr_scan.proofs.making.Making.step.Goals as goal

on_ok : {A : Type 0} (r : Result A NoMemory) (P Q : Type 0) → (Q → P) → OnOk r Q → OnOk r P
on_ok (Ok a) P Q f h = f h
on_ok (Err e) P Q f h = tt

pub returns-in-Groups-clause-makes : goal.returns-in-Groups-clause-makes
returns-in-Groups-clause-makes c = on_ok c.step.result _ _ (λ more s p ms h r of. more s p ms (subst (Makes s p ms) c.in-Groups.is h) r of) c.step.ensures.scans
