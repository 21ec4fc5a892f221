use Rattle.std.specs.Prelude.{◌≡◌, All, IsTrue, length}
use Rattle.dr_outside.specs.Failing.{is_quiet}
use Rattle.dr_outside.specs.MemLink.{link_failing, shelf_of}
use Rattle.dr_serve.proofs.shelf_links.lent.Given as goal

abbrev pub invariant-links : goal.invariant-links
invariant-links l = (length l.lent.items ≡ l.counter) × All (λ x. shelf_of x ≡ l.shelf) l.lent.items × All (λ x. IsTrue (is_quiet (link_failing x))) l.lent.items
