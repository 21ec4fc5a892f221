-- Why a copy of a tablet gave nothing: which cause is justified by what the link holds there, or by its count of faults.
use Rattle.std.specs.Prelude.{◌≡◌, ℕ, ◌≤◌, ⊤, Bool, List, [], ◌∷◌, Option, Some, None, is_none}
use Rattle.dr_meaning.specs.Schema.{Schema}
use Rattle.dr_meaning.specs.Path.{Leaf}
use Rattle.dr_formats.specs.File.{FileCause, bad_footer, bad_schema, bad_codec, bad_data, HasCause}
use Rattle.dr_outside.specs.Faults.{raised, Rose}
use Rattle.dr_outside.specs.declared.cause.Cause.{Cause}
use Rattle.dr_outside.specs.declared.cause.Cause.TheVariants.{ReadFailed, BadFooter, BadSchema, BadCodec, BadData}
use Rattle.dr_reading.specs.Held.{Held, untold, absent, present}

-- the cause that a file itself has, none of a failed read
abbrev pub file_cause : Cause → Option FileCause
file_cause (ReadFailed before after) = None
file_cause BadFooter = Some bad_footer
file_cause BadSchema = Some bad_schema
file_cause BadCodec = Some bad_codec
file_cause BadData = Some bad_data

-- whether a cause is a failed read
abbrev pub is_read : Cause → Bool
is_read c = is_none (file_cause c)

-- the bytes that are held have this cause for being no file of the schema for these leaves; nothing is known where the link doesn't tell
abbrev pub HeldHasCause : Schema → List Leaf → FileCause → Held → Type 0
HeldHasCause s F c untold = ⊤
HeldHasCause s F c absent = ⊥
HeldHasCause s F c (present bytes) = HasCause bytes s F c

-- a failed read shows that the link's count of faults rose; each other cause holds of the bytes, and none before it does
abbrev pub IsJustified : Schema → List Leaf → Held → Cause → Type 0
IsJustified s F held (ReadFailed before after) = Rose before after
IsJustified s F held BadFooter = HeldHasCause s F bad_footer held
IsJustified s F held BadSchema = HeldHasCause s F bad_schema held
IsJustified s F held BadCodec = HeldHasCause s F bad_codec held
IsJustified s F held BadData = HeldHasCause s F bad_data held

-- between two counts each failed read has a rise of its own, behind those of the causes before it
abbrev pub RisesApart : ℕ → List Cause → ℕ → Type 0
RisesApart start [] end = start ≤ end
RisesApart start (ReadFailed before after ∷ cs) end = (start ≤ before) × Rose before after × RisesApart after cs end
RisesApart start (c ∷ cs) end = RisesApart start cs end

-- the causes, in the order in which they were met, lead the count of faults from one number to another: each failed read to the next one, as it
-- tells, and no other cause anywhere
abbrev pub LeadTo : ℕ → List Cause → ℕ → Type 0
LeadTo start [] end = end ≡ start
LeadTo start (ReadFailed before after ∷ cs) end = (before ≡ start) × (after ≡ raised start) × LeadTo after cs end
LeadTo start (c ∷ cs) end = LeadTo start cs end
