use Rattle.dr_moves.proofs.LeadingLemmas.{records_lead}
use Rattle.dr_moves.proofs.LeadingThrough.{records_lead_through}
use Rattle.dr_moves.proofs.course_laws.records_lead.Goals as goal

pub returns : goal.returns
returns c = record { through = records_lead_through; front = records_lead }
