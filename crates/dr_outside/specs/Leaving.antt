-- What a call that reads through a link leaves of it.
use Rattle.std.specs.Prelude.{◌≡◌, ◌≢◌, ◌≤◌, ◌+◌, ℕ, List, length, Result, Err, IsTrue}
use Rattle.dr_outside.specs.Faults.{raised}
use Rattle.dr_outside.specs.Link.{LinkShown}
use Rattle.dr_outside.specs.Telling.{Serves}

-- the link is steady, and tells that it holds these bytes at the path, which go at least as far as this
abbrev pub ServesUntil : LinkShown → List ℕ → ℕ → List ℕ → Type 0
ServesUntil s path end bytes = Serves s path bytes × (end ≤ length bytes)

-- it holds what it held and stays steady; its count of faults rose exactly where the call failed by it, and a steady link that serves what is
-- asked of it lets no call fail
pub record LeavesLink {T E : Type 0} (result : Result T E) (failed : E) (serves : List ℕ → Type 0) (before after : LinkShown) : Type 0 where
  pub same : after.held ≡ before.held
  pub cause : result ≡ Err failed → after.faults ≡ raised before.faults
  pub calm : result ≢ Err failed → after.faults ≡ before.faults
  pub steady : (bytes : List ℕ) → serves bytes → result ≢ Err failed
  pub stays_steady : IsTrue before.is_steady → IsTrue after.is_steady
