use Rattle.dr_meaning.proofs.WalkLemmas.{walk_gives_columns}
use Rattle.dr_meaning.proofs.walk_laws.walk_gives_columns.Goals as goal

pub returns : goal.returns
returns c = walk_gives_columns
