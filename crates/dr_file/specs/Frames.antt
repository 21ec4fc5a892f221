-- The ends of a file, and the footer between them.
use Rattle.std.specs.Prelude.{◌≡◌, ℕ, ◌-◌, List, take, drop, Bool, true, ◌&&◌, nat_le, bytes_eq}
use Rattle.dr_formats.specs.LittleEndian.{little_endian}
use Rattle.dr_formats.specs.File.{magic, is_framed, footer_place, footer_length}
use Rattle.dr_outside.specs.declared.fault.Fault.{Fault}
use Rattle.dr_file.specs.declared.frame.FooterFault.{FooterFault}

abbrev pub outside_fault : Fault → FooterFault
outside_fault Fault.Failed = FooterFault.Failed
outside_fault Fault.NoMemory = FooterFault.NoMemory

-- whether a file of so many bytes may begin with the first of these and end with the others
abbrev pub are_ends : ℕ → List ℕ → List ℕ → Bool
are_ends size front end = bytes_eq front magic && bytes_eq (drop 4 end) magic && nat_le (little_endian (take 4 end)) (size - 12)

-- a footer lies at this place of a file, with so many bytes
abbrev pub IsFrame : List ℕ → ℕ → ℕ → Type 0
IsFrame bytes place size = (is_framed bytes ≡ true) × (place ≡ footer_place bytes) × (size ≡ footer_length bytes)

-- at this place of a file lies its footer, which has these bytes
abbrev pub IsFooter : List ℕ → ℕ → List ℕ → Type 0
IsFooter bytes place footer = (is_framed bytes ≡ true) × (place ≡ footer_place bytes) × (footer ≡ take (footer_length bytes) (drop (footer_place bytes) bytes))
