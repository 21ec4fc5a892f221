use Rattle.std.proofs.Common.{sym}
use Rattle.std.specs.Prelude.{not}
use Rattle.dr_meaning.specs.Schema.{continues_name}
use Rattle.dr_sql.proofs.FrontLemmas.{end_is_length}
use Rattle.dr_sql.proofs.lexing.name_length.Goals as goal

pub returns-in-None-clause-length : goal.returns-in-None-clause-length
returns-in-None-clause-length c = end_is_length (λ b. not (continues_name b)) c.args.bytes.now (sym c.in-None.ensures)
