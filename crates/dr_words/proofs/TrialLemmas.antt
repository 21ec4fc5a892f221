-- Where clap takes the words of `trial`, its values are there.
use Rattle.std.proofs.Common.{◌≡◌, true, false, List, [], Some, None}
use Rattle.clap.specs.Words.{Shape, Text}
use Rattle.clap.specs.Walk.{nothing_held, rows_after}
use Rattle.clap.specs.Simple.{built_leaf, inherited, marked_built, on_top, rows_at}
use Rattle.clap.specs.Takes.{level_passes}
use Rattle.dr_words.specs.Trial.{trial_app, trial_words}
use Rattle.dr_commands.specs.Commands.{trial as trial_is}
use Rattle.dr_words.specs.Words.{dremel_app, words_in}
use Rattle.dr_words.proofs.GenLemmas.{some_words}

abbrev pub trial_shape : Shape
trial_shape = built_leaf (inherited (on_top marked_built dremel_app).top trial_app.top)

pub trial_has_values : (words : List Text) → level_passes trial_shape [] nothing_held words false ≡ true → words_in (Some (rows_at trial_shape words)) ≡ None → ⊥
trial_has_values words passes none = some_words (trial_is (trial_words (rows_after trial_shape.rules [] words))) none
