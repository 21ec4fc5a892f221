use Rattle.dr_reading.proofs.ReadingLemmas.{given_are_projected, read_text_is_meant}
use Rattle.dr_reading.proofs.reading_laws.read_text_is_meant.Goals as goal

pub returns : goal.returns
returns c = record { given = given_are_projected; text = read_text_is_meant }
