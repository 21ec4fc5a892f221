use Rattle.dr_words.proofs.WordsLemmas.{faultless_are_taken, taken_ask}
use Rattle.dr_words.proofs.read.taken_words_ask.Goals as goal

pub returns : goal.returns
returns c = record { asks = taken_ask; faultless = faultless_are_taken }
