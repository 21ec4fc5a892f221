-- The words of a command line: the command `dremel` as clap's own data, and what its words ask for by clap's definitions.
use Rattle.std.specs.Prelude.{◌≡◌, ◌↔◌, IsSome, true, List, [], ◌∷◌, Option, None, Some, fold, codes, option_map, option_and_then, if◌then◌else◌}
use Rattle.std.specs.Str.{bytes_eq}
use Rattle.clap.specs.Words.{App, Row, Shape, Text, fault_of, new_app, subcommand_of, takes, with_subcommand}
use Rattle.dr_commands.specs.Meaning.{Meaning}
use Rattle.dr_commands.specs.Commands.{CommandWords, meaning_of, load, query, ask, dump, stripe, fsm, show_schema, explain, gen, trial, session}
use Rattle.dr_words.specs.Load.{load_app, load_words}
use Rattle.dr_words.specs.Query.{query_app, query_words}
use Rattle.dr_words.specs.Dump.{dump_app, dump_words}
use Rattle.dr_words.specs.ShowSchema.{show_schema_app, show_schema_words}
use Rattle.dr_words.specs.Ask.{ask_app, ask_words}
use Rattle.dr_words.specs.Stripe.{stripe_app, stripe_words}
use Rattle.dr_words.specs.Fsm.{fsm_app, fsm_words}
use Rattle.dr_words.specs.Explain.{explain_app, explain_words}
use Rattle.dr_words.specs.Gen.{gen_app, gen_words}
use Rattle.dr_words.specs.Trial.{trial_app, trial_words}
use Rattle.dr_words.specs.Session.{session_app, session_words}

-- each subcommand
abbrev pub subcommands : List Shape
subcommands = load_app.top ∷ query_app.top ∷ ask_app.top ∷ dump_app.top ∷ stripe_app.top ∷ fsm_app.top ∷ show_schema_app.top ∷ explain_app.top
    ∷ gen_app.top ∷ trial_app.top ∷ session_app.top ∷ []

-- `dremel`, before its subcommands join: one of them has to be named, and no word asks for help
abbrev pub bare_app : App
bare_app = let new = new_app (codes "dremel") in record new {
  top = record new.top { disable_help_flag = true; disable_help_subcommand = true; subcommand_required = true };
}

abbrev pub dremel_app : App
dremel_app = fold with_subcommand bare_app subcommands

-- clap takes the words
abbrev pub Taken : List Text → Type 0
Taken words = takes dremel_app words ≡ true

-- ---- what the words ask for

abbrev pub words_of : Text → List Row → Option CommandWords
words_of name rows =
    if bytes_eq name (codes "load") then option_map load (load_words rows)
    else (if bytes_eq name (codes "query") then option_map query (query_words rows)
    else (if bytes_eq name (codes "ask") then option_map ask (ask_words rows)
    else (if bytes_eq name (codes "dump") then option_map dump (dump_words rows)
    else (if bytes_eq name (codes "stripe") then option_map stripe (stripe_words rows)
    else (if bytes_eq name (codes "fsm") then option_map fsm (fsm_words rows)
    else (if bytes_eq name (codes "schema") then option_map show_schema (show_schema_words rows)
    else (if bytes_eq name (codes "explain") then option_map explain (explain_words rows)
    else (if bytes_eq name (codes "gen") then Some (gen (gen_words rows))
    else (if bytes_eq name (codes "trial") then Some (trial (trial_words rows))
    else (if bytes_eq name (codes "session") then option_map session (session_words rows) else None))))))))))

abbrev pub words_in : Option (Text × List Row) → Option CommandWords
words_in = option_and_then (λ entered. words_of entered.0 entered.1)

-- the subcommand that the words name, with its values; none where clap refuses the words
abbrev pub asked : List Text → Option CommandWords
asked words = if takes dremel_app words then words_in (subcommand_of dremel_app words) else None

-- what the words mean; none where clap refuses them
abbrev pub meant : List Text → Option Meaning
meant words = option_map meaning_of (asked words)

-- ---- laws

-- where clap takes the words, the subcommand has each value that has to be there
abbrev pub TakenAsk : Type 0
TakenAsk = (words : List Text) → Taken words → IsSome (asked words)

-- clap finds no fault exactly where it takes the words
abbrev pub FaultlessAreTaken : Type 0
FaultlessAreTaken = (words : List Text) → (fault_of dremel_app words ≡ []) ↔ Taken words
