-- What calls leave of a link, from what the calls within them do.
use Rattle.std.proofs.Common.{◌≡◌, ℕ, List, false, Option, refl, sym, ap, subst, ◌∙◌}
use Rattle.std.specs.Prelude.{Result, Ok, Err, IfErr, IsErrAnd, IsTrue}
use Rattle.dr_meaning.specs.Path.{Leaf}
use Rattle.dr_outside.specs.Link.{LinkShown, Files}
use Rattle.dr_outside.specs.Telling.{TellsFile, Serves}
use Rattle.dr_outside.specs.Leaving.{LeavesLink}
use Rattle.dr_outside.specs.declared.cause.Cause.{Cause}
use Rattle.dr_file.specs.declared.opened.Opened.{Opened}
use Rattle.dr_file.specs.declared.fault.OpenFault.{OpenFault}
use Rattle.dr_file.specs.declared.file_fault.FileFault.{FileFault}
use Rattle.dr_formats.specs.File.{FileCause}
use Rattle.dr_file.specs.OpenedFiles.{IsOpened, IsColumnFault, HasCounts, is_link_fault, path_of, told_fault}
use Rattle.dr_file.specs.Leaving.{LeavesLinkCounted, ServesOpened}
use Rattle.dr_file.proofs.StartLemmas.{counts_told, failed_alone, not_failed}

-- a fault of opening, told with the link's counts
pub fault_leaves : {A B : Type 0} (e : OpenFault) (told : FileFault) (old new : ℕ) (serves : List ℕ → Type 0) (before after : LinkShown)
    → told ≡ told_fault e old new → old ≡ before.faults → new ≡ after.faults → LeavesLink {T = A} (Err e) OpenFault.Failed serves before after
    → LeavesLinkCounted {T = B} (Err told) serves before after
fault_leaves e told old new serves before after is b a link = record {
  same = link.same;
  counts = rw is (counts_told e before.faults after.faults old new b a (λ h. link.cause (ap Err h)));
  calm = λ h. link.calm (λ f. not_failed e old new (ap is_link_fault (sym is) ∙ h) (cc));
  steady = λ bytes s. rw is (failed_alone e old new (λ h. link.steady bytes s (ap Err h)));
  stays_steady = link.stays_steady;
}

-- the same fault, handed on
pub same_fault_leaves : {A B : Type 0} (r : Result B FileFault) (e : FileFault) (serves : List ℕ → Type 0) (before after : LinkShown)
    → IsErrAnd r (λ x. x ≡ e) → LeavesLinkCounted {T = A} (Err e) serves before after → LeavesLinkCounted r serves before after
same_fault_leaves (Ok b) e serves before after is link = elim is [ ]
same_fault_leaves (Err x) e serves before after is link = record {
  same = link.same;
  counts = subst (HasCounts before.faults after.faults) (sym is) link.counts;
  calm = λ h. link.calm (ap is_link_fault (sym is) ∙ h);
  steady = λ bytes s. ap is_link_fault is ∙ link.steady bytes s;
  stays_steady = link.stays_steady;
}

-- another value given
pub value_leaves : {A B : Type 0} (a : A) (b : B) (serves : List ℕ → Type 0) (before after : LinkShown)
    → LeavesLinkCounted (Ok a) serves before after → LeavesLinkCounted (Ok b) serves before after
value_leaves a b serves before after link =
    record { same = link.same; counts = tt; calm = λ h. link.calm refl; steady = λ bytes s. refl; stays_steady = link.stays_steady }

-- one call after another that gave a value
pub then_leaves : {A B : Type 0} (a : A) (r : Result B FileFault) (serves next : List ℕ → Type 0) (before between after : LinkShown)
    → LeavesLinkCounted (Ok a) serves before between → ((bytes : List ℕ) → serves bytes → next bytes) → LeavesLinkCounted r next between after
    → LeavesLinkCounted r serves before after
then_leaves a r serves next before between after first serve link = record {
  same = link.same ∙ first.same;
  counts = subst (λ (n : ℕ). IfErr r (HasCounts n after.faults)) (first.calm refl) link.counts;
  calm = λ h. link.calm h ∙ first.calm refl;
  steady = λ bytes s. link.steady bytes (serve bytes s);
  stays_steady = λ s. link.stays_steady (first.stays_steady s);
}

-- a fault of another kind, behind a call that gave a value
pub refused_leaves : {A B : Type 0} (a : A) (e : FileFault) (serves : List ℕ → Type 0) (before after : LinkShown)
    → is_link_fault e ≡ false → LeavesLinkCounted (Ok a) serves before after → LeavesLinkCounted {T = B} (Err e) serves before after
refused_leaves a e serves before after other link = record {
  same = link.same;
  counts = uncounted e before.faults after.faults other;
  calm = λ h. link.calm refl;
  steady = λ bytes s. other;
  stays_steady = link.stays_steady;
}
  where
    uncounted : (e : FileFault) (old new : ℕ) → is_link_fault e ≡ false → HasCounts old new e
    uncounted FileFault.NoMemory old new h = tt
    uncounted (FileFault.Why (Cause.ReadFailed b a)) old new h = absurd (cc)
    uncounted (FileFault.Why Cause.BadFooter) old new h = tt
    uncounted (FileFault.Why Cause.BadSchema) old new h = tt
    uncounted (FileFault.Why Cause.BadCodec) old new h = tt
    uncounted (FileFault.Why Cause.BadData) old new h = tt

-- what serves a file at its path serves it opened, too
pub serves_opened : (o : Opened) (before after : LinkShown) (path : List ℕ) (F : List Leaf) (bytes : List ℕ)
    → path_of o ≡ path → after.held ≡ before.held → (IsTrue before.is_steady → IsTrue after.is_steady) → IsOpened bytes F o → Serves before path bytes
    → ServesOpened after o bytes
serves_opened o before after path F bytes at same stays is s =
    let now = subst (λ (h : Option Files). TellsFile h path bytes) (sym same) s.1 in
    (F, is, (stays s.0, subst (λ (p : List ℕ). TellsFile after.held p bytes) (sym at) now))

-- calls that leave the link as it is, and one that refuses behind them
pub stream_leaves : {A B : Type 0} (o o′ : Opened) (e : FileFault) (before between after : LinkShown) → o′ ≡ o → between.held ≡ before.held → between.faults ≡ before.faults → (IsTrue before.is_steady → IsTrue between.is_steady)
    → LeavesLinkCounted {T = A} (Err e) (ServesOpened between o′) between after → LeavesLinkCounted {T = B} (Err e) (ServesOpened before o) before after
stream_leaves o o′ e before between after same held calm steady link = record {
  same = link.same ∙ held;
  counts = subst (λ (n : ℕ). HasCounts n after.faults e) calm link.counts;
  calm = λ h. link.calm h ∙ calm;
  steady = λ bytes s. link.steady bytes (subst (λ (x : Opened). ServesOpened between x bytes) (sym same) (serves_opened o before between (path_of o) s.0 bytes refl held steady s.1 s.2));
  stays_steady = λ s. link.stays_steady (steady s);
}

-- the cause of a fault that is handed on
pub fault_handed : {B : Type 0} (r : Result B FileFault) (e : FileFault) (cause : Option FileCause) → IsErrAnd r (λ x. x ≡ e) → IsColumnFault e cause → IfErr r (λ x. IsColumnFault x cause)
fault_handed (Ok b) e cause is h = tt
fault_handed (Err x) e cause is h = subst (λ y. IsColumnFault y cause) (sym is) h
