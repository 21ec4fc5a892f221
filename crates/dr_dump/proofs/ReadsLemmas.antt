-- Calls that read the chunks of leaves, one after another.
use Rattle.std.proofs.Common.{◌≡◌, ℕ, List, [], ◌∷◌, false, Option, Some, refl, sym, subst}
use Rattle.std.specs.Prelude.{Result, Ok, Err, IfErr, IsTrue}
use Rattle.std.specs.List.{slice_get, flat_map}
use Rattle.dr_meaning.specs.Path.{Leaf}
use Rattle.dr_formats.specs.File.{Footer, footer_of, leaves_read}
use Rattle.dr_formats.specs.Opening.{leaf_cause, leaf_ranges}
use Rattle.dr_meaning.specs.Column.{Triplet}
use Rattle.dr_outside.specs.Link.{Files, LinkShown}
use Rattle.dr_outside.specs.Telling.{Tells, TellsFile, AsksOnly}
use Rattle.dr_chunk.specs.Ranges.{is_read_inside}
use Rattle.dr_chunk.proofs.AskLemmas.{asks_then}
use Rattle.dr_file.specs.Asking.{is_for_path}
use Rattle.dr_file.specs.Leaving.{LeavesLinkCounted, ServesOpened}
use Rattle.dr_file.specs.Streams.{IsStreamOf, IsOfLeaf, file_of, refused_of}
use Rattle.std.specs.Prelude.{None}
use Rattle.dr_file.specs.OpenedFiles.{IsColumnFault, path_of, is_link_fault}
use Rattle.dr_file.specs.declared.opened.Opened.{Opened}
use Rattle.dr_file.specs.declared.file_fault.FileFault.{FileFault}
use Rattle.dr_file.proofs.AskLemmas.{asks_nothing}
use Rattle.dr_file.proofs.LeavingLemmas.{value_leaves, then_leaves, refused_leaves}
use Rattle.dr_scan.proofs.AskedLemmas.{leaf_asked}
use Rattle.dr_scan.proofs.ColumnsLemmas.{one_fault}
use Rattle.dr_scan.specs.FileRecords.{IsColumnsFault}
use Rattle.dr_dump.specs.Leaves.{IsTold, IsLeafRecords, ReadsLeaves, ReadsLeaf}
use Rattle.dr_dump.specs.declared.leaf_records.LeafRecords.{LeafRecords}

-- what serves an opened file still does
serves_still : (o : Opened) (before after : LinkShown) (bytes : List ℕ) → after.held ≡ before.held → (IsTrue before.is_steady → IsTrue after.is_steady) → ServesOpened before o bytes → ServesOpened after o bytes
serves_still o before after bytes same stays s = (s.0, s.1, (stays s.2.0, subst (λ (h : Option Files). TellsFile h (path_of o) bytes) (sym same) s.2.1))

-- what is told of it still is
pub told_still : (o : Opened) (F : List Leaf) (before after : Option Files) (bytes : List ℕ) → after ≡ before → IsTold before o F bytes → IsTold after o F bytes
told_still o F before after bytes same t = (t.0, subst (λ (h : Option Files). TellsFile h (path_of o) bytes) (sym same) t.1)

module _ (o : Opened) (F L : List Leaf) (says : List ℕ → FileFault → Type 0) where
  -- nothing was read
  pub reads_nothing : {A : Type 0} (a : A) (link : LinkShown) → ReadsLeaves {T = A} o F L says (Ok a) link link
  reads_nothing a link = record {
    link = record { same = refl; counts = tt; calm = λ h. refl; steady = λ bytes s. refl; stays_steady = λ s. s };
    cause = λ bytes t. tt;
    asked = λ bytes f t e. asks_nothing (is_read_inside (path_of o) (flat_map (leaf_ranges f) (leaves_read f L))) link.asked link.asked refl;
    paths = asks_nothing (is_for_path (path_of o)) link.asked link.asked refl;
  }

  -- one call after another
  pub reads_then : {A B : Type 0} (a : A) (r : Result B FileFault) (before between after : LinkShown) → ReadsLeaves {T = A} o F L says (Ok a) before between → ReadsLeaves {T = B} o F L says r between after
      → ReadsLeaves {T = B} o F L says r before after
  reads_then a r before between after one two = record {
    link = then_leaves a r (ServesOpened before o) (ServesOpened between o) before between after one.link (λ bytes s. serves_still o before between bytes one.link.same one.link.stays_steady s) two.link;
    cause = λ bytes t. two.cause bytes (told_still o F before.held between.held bytes one.link.same t);
    asked = λ bytes f t e.
        asks_then (is_read_inside (path_of o) (flat_map (leaf_ranges f) (leaves_read f L))) before.asked between.asked after.asked (one.asked bytes f t e)
        (two.asked bytes f (told_still o F before.held between.held bytes one.link.same t) e);
    paths = asks_then (is_for_path (path_of o)) before.asked between.asked after.asked one.paths two.paths;
  }

  -- another value given
  pub reads_value : {A B : Type 0} (a : A) (b : B) (before after : LinkShown) → ReadsLeaves {T = A} o F L says (Ok a) before after → ReadsLeaves {T = B} o F L says (Ok b) before after
  reads_value a b before after one = record { link = value_leaves a b (ServesOpened before o) before after one.link; cause = λ bytes t. tt; asked = one.asked; paths = one.paths }

  -- a fault that isn't the link's
  pub reads_refused : {A B : Type 0} (a : A) (e : FileFault) (before after : LinkShown) → is_link_fault e ≡ false → ((bytes : List ℕ) → IsTold before.held o F bytes → says bytes e) → ReadsLeaves {T = A} o F L says (Ok a) before after
      → ReadsLeaves {T = B} o F L says (Err e) before after
  reads_refused a e before after other why one =
      record { link = refused_leaves a e (ServesOpened before o) before after other one.link; cause = why; asked = one.asked; paths = one.paths }

  -- a fault handed on
  pub reads_failed : {A B : Type 0} (e : FileFault) (before after : LinkShown) → ReadsLeaves {T = A} o F L says (Err e) before after → ReadsLeaves {T = B} o F L says (Err e) before after
  reads_failed e before after one = record {
    link = record { same = one.link.same; counts = one.link.counts; calm = one.link.calm; steady = one.link.steady; stays_steady = one.link.stays_steady };
    cause = one.cause;
    asked = one.asked;
    paths = one.paths;
  }

-- other leaves, and what else a fault says
if_says : {A : Type 0} (r : Result A FileFault) (P Q : FileFault → Type 0) → ((e : FileFault) → P e → Q e) → IfErr r P → IfErr r Q
if_says (Ok a) P Q h p = tt
if_says (Err e) P Q h p = h e p

pub reads_saying : {A : Type 0} (o : Opened) (F L : List Leaf) (says other : List ℕ → FileFault → Type 0) (r : Result A FileFault) (before after : LinkShown) → ((bytes : List ℕ) → IsTold before.held o F bytes → (e : FileFault) → says bytes e → other bytes e)
    → ReadsLeaves o F L says r before after → ReadsLeaves o F L other r before after
reads_saying o F L says other r before after h one = record { link = one.link; cause = λ bytes t. if_says r (says bytes) (other bytes) (h bytes t) (one.cause bytes t); asked = one.asked; paths = one.paths }

-- of one leaf among others
pub reads_one : {A : Type 0} (o : Opened) (F : List Leaf) (i : ℕ) (l : Leaf) (r : Result A FileFault) (before after : LinkShown) → slice_get F i ≡ Some l → ReadsLeaf o F l r before after
    → ReadsLeaves o F F (λ bytes. IsColumnsFault bytes F) r before after
reads_one o F i l r before after at one = record {
  link = one.link;
  cause = λ bytes t. if_says r _ (IsColumnsFault bytes F) (λ e h. one_fault bytes F i l e at h) (one.cause bytes t);
  asked = λ bytes f t e. leaf_asked (path_of o) f F i l before.asked after.asked at (one.asked bytes f t e);
  paths = one.paths;
}

-- a call of a leaf's stream
pub stream_reads : {A : Type 0} (o : Opened) (F : List Leaf) (l : Leaf) (given : List Triplet) (x : LeafRecords) (r : Result A FileFault) (before after : LinkShown) → IsLeafRecords before.held o F l given x
    → ((bytes : List ℕ) (m : Leaf) (ts : List Triplet) → IsStreamOf bytes m ts x.stream → Tells before (path_of (file_of x.stream)) bytes → IfErr r (λ e. IsColumnFault e (leaf_cause bytes m)))
    → ((bytes : List ℕ) (m : Leaf) (f : Footer) → IsOfLeaf bytes m x.stream → footer_of bytes ≡ Some f → AsksOnly (is_read_inside (path_of (file_of x.stream)) (flat_map (leaf_ranges f) (leaves_read f (m ∷ [])))) before.asked after.asked)
    → AsksOnly (is_for_path (path_of (file_of x.stream))) before.asked after.asked → (refused_of x.stream ≡ None → LeavesLinkCounted r (ServesOpened before (file_of x.stream)) before after) → ReadsLeaf o F l r before after
stream_reads o F l given x r before after h cause asked paths link = record {
  link = subst (λ (y : Opened). LeavesLinkCounted r (ServesOpened before y) before after) h.file (link h.well);
  cause = λ bytes t. cause bytes l given (h.of bytes t) (subst (λ (y : Opened). TellsFile before.held (path_of y) bytes) (sym h.file) t.1);
  asked = λ bytes f t e. subst (λ (y : Opened). AsksOnly (is_read_inside (path_of y) (flat_map (leaf_ranges f) (leaves_read f (l ∷ [])))) before.asked after.asked) h.file (asked bytes l f (h.of bytes t).leaf e);
  paths = subst (λ (y : Opened). AsksOnly (is_for_path (path_of y)) before.asked after.asked) h.file paths;
}
