-- `ask --schema F [--rows N] [--workers N] [--fan N] [--lag N] QUERY`: a query over the records of the input, loaded into a table in memory.
use Rattle.std.specs.Prelude.{ℕ, true, false, List, Some, string_bytes}
use Rattle.dr_sub_meaning.specs.NestedAsk as meant
use Rattle.dr_commands.specs.Meaning.{Meaning, plain}
use Rattle.dr_commands.specs.Serving.{ServingWords, serving_view}
use Rattle.dr_commands.specs.declared.commands.ask.Ask.{Ask}

-- its values
pub record AskWords : Type 0 where
  pub schema : List ℕ
  pub rows : ℕ
  pub serving : ServingWords
  pub query : List ℕ

abbrev pub ask_view : Ask → AskWords
ask_view a = record { schema = string_bytes a.schema; rows = a.rows; serving = serving_view a.serving; query = string_bytes a.query }

-- what it means: that doesn't look at how it is served, so what is printed doesn't depend on that
abbrev pub ask_meaning : AskWords → Meaning
ask_meaning w = record {
  file = Some w.schema;
  reads_input = true;
  puts_files = false;
  links = 0;
  talks = false;
  outcome = λ look. plain (meant.ask w.rows look.file w.query look.input);
}
