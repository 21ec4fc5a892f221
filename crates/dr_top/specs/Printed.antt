-- What a finished command prints.
use Rattle.std.specs.Prelude.{ℕ, List, string_bytes}
use Rattle.dr_gen.specs.Left.{left_of}
use Rattle.dr_top.specs.declared.output.Output.{Output}

-- its text, or the lines that are still to be made
abbrev pub printed : Output → List ℕ
printed (Output.Text text) = string_bytes text
printed (Output.Made made) = left_of made
