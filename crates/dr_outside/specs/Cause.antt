use Rattle.std.specs.Prelude.{ℕ, List, codes}
use Rattle.dr_outside.specs.declared.cause.Cause.{Cause}
use Rattle.dr_outside.specs.declared.cause.Cause.TheVariants.{ReadFailed, BadFooter, BadSchema, BadCodec, BadData}

-- the word that is printed for a cause
abbrev pub name_of : Cause → List ℕ
name_of (ReadFailed before after) = codes "read"
name_of BadFooter = codes "footer"
name_of BadSchema = codes "schema"
name_of BadCodec = codes "codec"
name_of BadData = codes "data"
