-- What the things in memory hold.
use Rattle.std.specs.Prelude.{ℕ, List}
use Rattle.dr_outside.specs.Failing.{Failing}

-- a source in memory: the bytes that are left, and its failures
pub record SourceState : Type 0 where
  pub left : List ℕ
  pub failing : Failing

-- a sink in memory: the bytes that it took, the most that one write takes, and its failures
pub record SinkState : Type 0 where
  pub written : List ℕ
  pub most : ℕ
  pub failing : Failing
