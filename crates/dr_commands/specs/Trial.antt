-- `trial --seed N --records N [--rows N] [--workers N] [--fan N] [--lag N]`: a fixed query over made records, loaded into a table in memory.
use Rattle.std.specs.Prelude.{ℕ, false, None}
use Rattle.dr_sub_meaning.specs.NestedAsk as meant
use Rattle.dr_gen.specs.Document.{document_text, trial_query}
use Rattle.dr_gen.specs.Generator.{lines_from}
use Rattle.dr_commands.specs.Meaning.{Meaning, plain}
use Rattle.dr_commands.specs.Serving.{ServingWords, serving_view}
use Rattle.dr_commands.specs.declared.commands.trial.Trial.{Trial}

-- its values
pub record TrialWords : Type 0 where
  pub seed : ℕ
  pub records : ℕ
  pub rows : ℕ
  pub serving : ServingWords

abbrev pub trial_view : Trial → TrialWords
trial_view t = record { seed = t.seed; records = t.records; rows = t.rows; serving = serving_view t.serving }

-- what it means: what `ask` prints of the fixed query, with the schema of made records, where their lines are the input
abbrev pub trial_meaning : TrialWords → Meaning
trial_meaning w = record {
  file = None;
  reads_input = false;
  puts_files = false;
  links = 0;
  talks = false;
  outcome = λ look. plain (meant.ask w.rows document_text trial_query (lines_from w.seed w.records));
}
