-- What faults stand for.
use Rattle.std.specs.Prelude.{◌≡◌}
use Rattle.dr_formats.specs.Reading.{Reading, got, refused}
use Rattle.dr_formats.specs.Varint as meant
use Rattle.dr_bytes.specs.declared.fault.VarintFault.{VarintFault}

abbrev pub varint_fault_view : VarintFault → meant.VarintFault
varint_fault_view VarintFault.Short = meant.varint_short
varint_fault_view VarintFault.TooLong = meant.varint_too_long

-- what comes of reading is this fault
abbrev pub IsFault : {E A : Type 0} → E → Reading E A → Type 0
IsFault e (got a rest) = ⊥
IsFault e (refused f rest) = f ≡ e
