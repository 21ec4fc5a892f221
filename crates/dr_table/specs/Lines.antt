-- What a cut line stands for.
use Rattle.std.specs.Prelude.{ℕ, List}
use denote.Ref.{Bor}
use Rattle.dr_formats.specs.TableFile.{Line}

abbrev pub line_view : Bor (List ℕ) × Bor (List ℕ) → Line
line_view l = record { text = l.0.now; behind = l.1.now }
