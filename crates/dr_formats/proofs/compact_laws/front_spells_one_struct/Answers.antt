use Rattle.dr_formats.proofs.GrammarSound.{front_spells_one_struct}
use Rattle.dr_formats.proofs.compact_laws.front_spells_one_struct.Goals as goal

pub returns : goal.returns
returns c = front_spells_one_struct
