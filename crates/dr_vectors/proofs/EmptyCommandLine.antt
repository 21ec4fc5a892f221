-- A command line without the program's name, as no case has one, by computation.
use Rattle.std.specs.Prelude.{◌≡◌, [], None, refl}
use Rattle.clap.proofs.OnLiterals.{clap_on_literals}
use Rattle.dr_words.specs.Words.{asked}

pub no_words : asked [] ≡ None
unfolding clap_on_literals
no_words = refl
