use Rattle.dr_query_laws.proofs.WrittenQueries.{leaf_line_has_names, leaf_line_is_read_back}
use Rattle.dr_query_laws.proofs.read_back_laws.leaf_line_is_read_back.Goals as goal

pub returns : goal.returns
returns c = record { named = leaf_line_has_names; read = leaf_line_is_read_back }
