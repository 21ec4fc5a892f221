-- What a call that reads a file through a link leaves of it, where a failed read is told with the link's counts.
use Rattle.std.specs.Prelude.{◌≡◌, ℕ, List, false, Result, IfErr, IsTrue}
use Rattle.dr_meaning.specs.Path.{Leaf}
use Rattle.dr_outside.specs.Link.{LinkShown}
use Rattle.dr_outside.specs.Telling.{Serves}
use Rattle.dr_file.specs.OpenedFiles.{IsOpened, HasCounts, is_read_fault, path_of}
use Rattle.dr_file.specs.declared.opened.Opened.{Opened}
use Rattle.dr_file.specs.declared.file_fault.FileFault.{FileFault}

-- the link is steady, and tells that it holds the bytes by which the file was opened
abbrev pub ServesOpened : LinkShown → Opened → List ℕ → Type 0
ServesOpened s o bytes = (F : List Leaf) × IsOpened bytes F o × Serves s (path_of o) bytes

-- it holds what it held and stays steady; its count of faults rose exactly where the call tells that the link failed, with the counts before and
-- after; and a steady link that serves what is asked of it lets no call fail
pub record LeavesLinkCounted {T : Type 0} (result : Result T FileFault) (serves : List ℕ → Type 0) (before after : LinkShown) : Type 0 where
  pub same : after.held ≡ before.held
  pub counts : IfErr result (HasCounts before.faults after.faults)
  pub calm : is_read_fault result ≡ false → after.faults ≡ before.faults
  pub steady : (bytes : List ℕ) → serves bytes → is_read_fault result ≡ false
  pub stays_steady : IsTrue before.is_steady → IsTrue after.is_steady
