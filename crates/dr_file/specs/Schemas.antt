-- The schemas of files.
use Rattle.std.specs.Prelude.{Option, Some, None, Result, Ok, Err}
use Rattle.dr_meaning.specs.Schema.{Schema}
use Rattle.dr_formats.specs.File.{FileCause}

-- the cause for which there is no schema
abbrev pub cause_in : Result Schema FileCause → Option FileCause
cause_in (Ok s) = None
cause_in (Err c) = Some c
