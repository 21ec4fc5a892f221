-- The parts of a command line's definition, as clap's own data.
use Rattle.std.specs.Prelude.{◌≡◌, ℕ, ⊤, true, List, Option, Some, None, Result, Ok, Err, fold}
use Rattle.clap.specs.Lexer.{usize_max}
use Rattle.clap.specs.Words.{App, Rule, Text, new_app, new_rule, with_rule}
use Rattle.dr_words.specs.declared.words_fault.WordsFault.{WordsFault}
use Rattle.dr_words.specs.declared.words_fault.WordsFault.TheVariants.{Usage, NoMemory}

-- an option `--NAME VALUE`, at most once
abbrev pub option_rule : Text → Rule
option_rule name = record (new_rule name) { long = Some name }

-- what has to be given
abbrev pub needed : Rule → Rule
needed rule = record rule { required = true }

-- one or more words
abbrev pub several : Rule → Rule
several rule = record rule { range = Some (record { start_inclusive = 1; end_inclusive = usize_max }) }

-- one word or more, up to so many
abbrev pub up_to : ℕ → Rule → Rule
up_to most rule = record rule { range = Some (record { start_inclusive = 1; end_inclusive = most }) }

-- a subcommand with these options and words, in order
abbrev pub subcommand_app : Text → List Rule → App
subcommand_app name rules = fold with_rule (new_app name) rules

-- the answer is what is meant, `Usage` where nothing is, or want of memory
abbrev pub Answers : {A B : Type 0} → (A → B) → Option B → Result A WordsFault → Type 0
Answers see meant (Ok a) = meant ≡ Some (see a)
Answers see meant (Err Usage) = meant ≡ None
Answers see meant (Err NoMemory) = ⊤
