use Rattle.std.proofs.Common.{◌∙◌, ap}
use Rattle.dr_rows_beside.specs.Bits.{set_bits}
use Rattle.dr_rows_beside.proofs.KeptBitLemmas.{kept_at_is}
use Rattle.dr_rows_beside.proofs.keeping.Keeping.records.Goals as goal

pub returns : goal.returns
returns c = λ C h. c.count_set.ensures ∙ ap set_bits (c.bits.ensures ∙ kept_at_is C c.args.self.now h 0)
