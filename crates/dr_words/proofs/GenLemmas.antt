-- Where clap takes the words of `gen`, its values are there.
use Rattle.std.proofs.Common.{◌≡◌, true, false, List, [], Some, None}
use Rattle.clap.specs.Words.{Shape, Text}
use Rattle.clap.specs.Walk.{nothing_held, rows_after}
use Rattle.clap.specs.Simple.{built_leaf, inherited, marked_built, on_top, rows_at}
use Rattle.clap.specs.Takes.{level_passes}
use Rattle.dr_words.specs.Gen.{gen_app, gen_words}
use Rattle.dr_commands.specs.Commands.{CommandWords, gen as gen_is}
use Rattle.dr_words.specs.Words.{dremel_app, words_in}

abbrev pub gen_shape : Shape
gen_shape = built_leaf (inherited (on_top marked_built dremel_app).top gen_app.top)

-- words that ask for something
pub some_words : (w : CommandWords) → Some w ≡ None → ⊥
some_words w e = cc

pub gen_has_values : (words : List Text) → level_passes gen_shape [] nothing_held words false ≡ true → words_in (Some (rows_at gen_shape words)) ≡ None → ⊥
gen_has_values words passes none = some_words (gen_is (gen_words (rows_after gen_shape.rules [] words))) none
