-- Hybrid data that is read a piece at a time.
use Rattle.std.specs.Prelude.{◌≡◌, ℕ, ◌+◌, List, ◌++◌, length, Some, option_map}
use Rattle.dr_formats.specs.Hybrid.{hybrid}
use Rattle.dr_hybrid.specs.declared.run_reader.RunReader.{RunReader}
use Rattle.dr_hybrid.specs.Reader.{ahead}

-- a reader that gave these values, with which the bytes begin; what it reads next is behind them
pub record HasRead (w : ℕ) (bytes given : List ℕ) (r : RunReader) : Type 0 where
  pub front : hybrid w (length given) bytes ≡ Some given
  pub rest : (n : ℕ) → hybrid w (length given + n) bytes ≡ option_map (λ more. given ++ more) (ahead r n bytes)
