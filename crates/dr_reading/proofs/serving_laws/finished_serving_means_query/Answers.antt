use Rattle.dr_reading.proofs.ServingLemmas.{finished_means_query}
use Rattle.dr_reading.proofs.serving_laws.finished_serving_means_query.Goals as goal

pub returns : goal.returns
returns c = finished_means_query
