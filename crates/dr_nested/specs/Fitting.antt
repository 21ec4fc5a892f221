-- Whether a slot is one of a field.
use Rattle.std.specs.Prelude.{Bool, false, ◌&&◌, Option, Some, None}
use Rattle.dr_meaning.specs.Record.{Instances, fits_repetition, count_instances, all_instances, is_instance}
use Rattle.dr_nested.specs.Views.{SeenField}

-- the slot holds instances of the field, as many as its repetition allows; a gap is no slot of a record
abbrev pub fits_slot : SeenField → Option Instances → Bool
fits_slot f None = false
fits_slot f (Some xs) = fits_repetition f.repetition (count_instances xs) && all_instances (is_instance f.shape) xs
