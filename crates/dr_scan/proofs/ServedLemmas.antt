-- What calls that read leaves of an opened file ask of a link, and leave of it: one after another, and a fault that is handed on.
use Rattle.std.proofs.Common.{◌≡◌, ℕ, List, false, refl}
use Rattle.std.specs.Prelude.{Result, Ok, Err, IfErr, IsErrAnd}
use Rattle.dr_meaning.specs.Path.{Leaf}
use Rattle.dr_outside.specs.Link.{LinkShown}
use Rattle.dr_chunk.proofs.AskLemmas.{asks_then}
use Rattle.dr_file.specs.Leaving.{ServesOpened}
use Rattle.dr_file.specs.OpenedFiles.{is_link_fault}
use Rattle.dr_file.specs.declared.file_fault.FileFault.{FileFault}
use Rattle.dr_file.specs.declared.opened.Opened.{Opened}
use Rattle.dr_file.proofs.AskLemmas.{asks_nothing}
use Rattle.dr_file.proofs.LeavingLemmas.{same_fault_leaves, value_leaves, then_leaves, refused_leaves}
use Rattle.dr_scan.proofs.ColumnsLemmas.{err_is}
use Rattle.dr_scan.specs.Served.{ReadsLeaves}
use Rattle.dr_scan.specs.Streamed.{IsTold}
use Rattle.dr_scan.proofs.UnderwayLemmas.{so_far, still_serves, still_told}

abbrev Causes : Type 1
Causes = List ℕ → FileFault → Type 0

-- nothing was asked
pub reads_nothing : {A : Type 0} (a : A) (C : Causes) (o : Opened) (F : List Leaf) (s : LinkShown) → ReadsLeaves (Ok a) C o F s s
reads_nothing a C o F s = record {
  cause = λ bytes told. tt;
  asked = λ bytes f told e. asks_nothing _ _ _ refl;
  paths = asks_nothing _ _ _ refl;
  link = so_far a (ServesOpened s o) s s refl refl (λ h. h);
}

-- one call after another that gave a value
pub reads_then : {A B : Type 0} (a : A) (r : Result B FileFault) (C D : Causes) (o : Opened) (F : List Leaf) (before between after : LinkShown) → ReadsLeaves (Ok a) C o F before between → ReadsLeaves r D o F between after → ReadsLeaves r D o F before after
reads_then a r C D o F before between after first next = record {
  cause = λ bytes told. next.cause bytes (still_told before.held between.held o F bytes first.link.same told);
  asked = λ bytes f told e. asks_then _ _ _ _ (first.asked bytes f told e) (next.asked bytes f (still_told before.held between.held o F bytes first.link.same told) e);
  paths = asks_then _ _ _ _ first.paths next.paths;
  link = then_leaves a r (ServesOpened before o) (ServesOpened between o) before between after first.link (λ bytes k. still_serves o before between bytes first.link.same first.link.stays_steady k) next.link;
}

-- another value is made of one
pub reads_value : {A B : Type 0} (a : A) (b : B) (C D : Causes) (o : Opened) (F : List Leaf) (before after : LinkShown) → ReadsLeaves (Ok a) C o F before after → ReadsLeaves (Ok b) D o F before after
reads_value a b C D o F before after h = record { cause = λ bytes told. tt; asked = h.asked; paths = h.paths; link = value_leaves a b (ServesOpened before o) before after h.link }

-- what came is refused
pub reads_refused : {A B : Type 0} (a : A) (e : FileFault) (C D : Causes) (o : Opened) (F : List Leaf) (before after : LinkShown) → is_link_fault e ≡ false → ((bytes : List ℕ) → IsTold before.held o F bytes → D bytes e) → ReadsLeaves (Ok a) C o F before after
    → ReadsLeaves {T = B} (Err e) D o F before after
reads_refused a e C D o F before after other is h = record { cause = is; asked = h.asked; paths = h.paths; link = refused_leaves a e (ServesOpened before o) before after other h.link }

-- a fault is handed on, for a cause of another kind
pub reads_fault : {A B : Type 0} (r : Result B FileFault) (e : FileFault) (C D : Causes) (o : Opened) (F : List Leaf) (before after : LinkShown) → IsErrAnd r (λ x. x ≡ e) → ((bytes : List ℕ) → IsTold before.held o F bytes → C bytes e → D bytes e)
    → ReadsLeaves {T = A} (Err e) C o F before after → ReadsLeaves r D o F before after
reads_fault r e C D o F before after is g h = record {
  cause = λ bytes told. err_is (D bytes) r e is (g bytes told (h.cause bytes told));
  asked = h.asked;
  paths = h.paths;
  link = same_fault_leaves r e (ServesOpened before o) before after is h.link;
}
