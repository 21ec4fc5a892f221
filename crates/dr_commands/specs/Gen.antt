-- `gen --seed N --records N`: the lines of made records.
use Rattle.std.specs.Prelude.{ℕ, false, [], None}
use Rattle.dr_gen.specs.Generator.{lines_from}
use Rattle.dr_commands.specs.Meaning.{Meaning, done}
use Rattle.dr_commands.specs.declared.commands.gen_values.Gen.{Gen}

-- its values
pub record GenWords : Type 0 where
  pub seed : ℕ
  pub records : ℕ

abbrev pub gen_view : Gen → GenWords
gen_view g = record { seed = g.seed; records = g.records }

-- what it means
abbrev pub gen_meaning : GenWords → Meaning
gen_meaning w = record {
  file = None;
  reads_input = false;
  puts_files = false;
  links = 0;
  talks = false;
  outcome = λ look. done (lines_from w.seed w.records) [];
}
