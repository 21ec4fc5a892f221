-- Where a tablet's copies lie, and the line of one of which none was read, by computation.
use Rattle.std.specs.Prelude.{◌≡◌, ℕ, [], ◌∷◌, codes, refl}
use Rattle.std.specs.Fmt.{digits}
use Rattle.dr_formats.specs.Tablets.{placement}
use Rattle.dr_outside.specs.declared.cause.Cause.TheVariants.{ReadFailed}
use Rattle.dr_reading.specs.Left.{Tried}
use Rattle.dr_reading.specs.LeftText.{left_text, ascending}

-- a copy whose read raised the count of faults by one
abbrev failed : ℕ → ℕ → ℕ → Tried
failed d before after = record { directory = d; cause = ReadFailed before after }

-- the second directory was tried first; the line tells the copies by directory
pub last_tablet : left_text (record { tablet = 4095; tried = failed 1 0 1 ∷ failed 0 1 2 ∷ [] } ∷ []) ≡ codes "left t004095: 0 read; 1 read\n"
unfolding ascending digits
last_tablet = refl

-- the second copy of the fifth tablet, among three directories
pub second_copy : placement 3 4 1 ≡ 2
second_copy = refl
