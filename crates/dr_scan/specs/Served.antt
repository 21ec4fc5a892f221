-- What a call that reads leaves of an opened file asks of a link, and leaves of it.
use Rattle.std.specs.Prelude.{◌≡◌, ℕ, List, Some, Result, IfErr}
use Rattle.std.specs.List.{flat_map}
use Rattle.dr_meaning.specs.Path.{Leaf}
use Rattle.dr_formats.specs.File.{Footer, footer_of, leaves_read}
use Rattle.dr_formats.specs.Opening.{leaf_ranges}
use Rattle.dr_outside.specs.Link.{LinkShown}
use Rattle.dr_outside.specs.Telling.{AsksOnly}
use Rattle.dr_chunk.specs.Ranges.{is_read_inside}
use Rattle.dr_file.specs.Asking.{is_for_path}
use Rattle.dr_file.specs.Leaving.{LeavesLinkCounted, ServesOpened}
use Rattle.dr_file.specs.OpenedFiles.{path_of}
use Rattle.dr_file.specs.declared.file_fault.FileFault.{FileFault}
use Rattle.dr_file.specs.declared.opened.Opened.{Opened}
use Rattle.dr_scan.specs.Streamed.{IsTold}

pub record ReadsLeaves {T : Type 0} (result : Result T FileFault) (IsCause : List ℕ → FileFault → Type 0) (o : Opened) (F : List Leaf) (before after : LinkShown) : Type 0 where
  -- where the link tells the file, a fault has a cause in its bytes
  pub cause : (bytes : List ℕ) → IsTold before.held o F bytes → IfErr result (IsCause bytes)
  -- it is asked for bytes of these leaves' chunks, or of those of the leaves that stand in for them
  pub asked : (bytes : List ℕ) (f : Footer) → IsTold before.held o F bytes → footer_of bytes ≡ Some f → AsksOnly (is_read_inside (path_of o) (flat_map (leaf_ranges f) (leaves_read f F))) before.asked after.asked
  -- and whatever it tells, of this file alone
  pub paths : AsksOnly (is_for_path (path_of o)) before.asked after.asked
  pub link : LeavesLinkCounted result (ServesOpened before o) before after
