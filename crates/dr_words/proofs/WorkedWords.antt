-- Command lines written out: each holds by computation.
use Rattle.std.specs.Prelude.{◌≡◌, ℕ, refl, List, [], ◌∷◌, map, replicate, Option, Some, None, codes}
use Rattle.clap.specs.Words.{Text, fault_of}
use Rattle.clap.specs.declared.error.ErrorKind.TheVariants as kind
use Rattle.clap.proofs.OnLiterals.{clap_on_literals}
use Rattle.dr_formats.specs.Page.{PageForm, data_page_v1, data_page_v2}
use Rattle.dr_commands.specs.Ask.{AskWords, ask_meaning}
use Rattle.dr_commands.specs.Query.{QueryWords, query_meaning}
use Rattle.dr_commands.specs.Serving.{ServingWords}
use Rattle.dr_commands.specs.Commands.{CommandWords, load, ask, dump, stripe, fsm, show_schema, explain, session, query as query_words}
use Rattle.dr_words.specs.Words.{Taken, asked, dremel_app}

abbrev query : Text
query = codes "SELECT COUNT(Name.Url) FROM Document"

-- how a query is served where the words say the fan alone
abbrev served_by : ℕ → ServingWords
served_by fan = record { workers = 4; fan = fan; lag = 64 }

abbrev count_words : List Text
count_words = codes "dremel" ∷ codes "ask" ∷ codes "--schema" ∷ codes "document.txt" ∷ query ∷ []

pub count_is_taken : Taken count_words
unfolding clap_on_literals
count_is_taken = refl

pub count_is_asked : asked count_words ≡ Some (ask (record { schema = codes "document.txt"; rows = 100000; serving = served_by 8; query = query }))
unfolding clap_on_literals
count_is_asked = refl

-- the option may stand after the query, and with `=`
pub either_order : asked (codes "dremel" ∷ codes "ask" ∷ query ∷ codes "--schema=document.txt" ∷ []) ≡ asked count_words
unfolding clap_on_literals
either_order = refl

-- how many records a tablet gets, and a number that clap doesn't take
pub rows_are_asked : asked (codes "dremel" ∷ codes "ask" ∷ codes "--rows" ∷ codes "2" ∷ codes "--schema" ∷ codes "document.txt" ∷ query ∷ []) ≡ Some (ask (record { schema = codes "document.txt"; rows = 2; serving = served_by 8; query = query }))
unfolding clap_on_literals
rows_are_asked = refl

pub no_rows : asked (codes "dremel" ∷ codes "ask" ∷ codes "--rows" ∷ codes "0" ∷ codes "--schema" ∷ codes "document.txt" ∷ query ∷ []) ≡ None
unfolding clap_on_literals
no_rows = refl

-- how many children a server has at most, and numbers that clap doesn't take
abbrev with_fan : Text → List Text
with_fan fan = codes "dremel" ∷ codes "query" ∷ codes "--table" ∷ codes "t" ∷ codes "--fan" ∷ fan ∷ query ∷ []

pub fans_are_asked : (asked (with_fan (codes "2")) ≡ Some (query_words (record { table = codes "t"; serving = served_by 2; least = 100; query = query })))
    × (asked (with_fan (codes "64")) ≡ Some (query_words (record { table = codes "t"; serving = served_by 64; least = 100; query = query })))
unfolding clap_on_literals
fans_are_asked = (refl, refl)

pub no_fans : (asked (with_fan (codes "1")) ≡ None) × (asked (with_fan (codes "65")) ≡ None) × (asked (with_fan (codes "x")) ≡ None)
unfolding clap_on_literals
no_fans = (refl, refl, refl)

pub fan_of_ask : asked (codes "dremel" ∷ codes "ask" ∷ codes "--fan" ∷ codes "3" ∷ codes "--schema" ∷ codes "document.txt" ∷ query ∷ []) ≡ Some (ask (record { schema = codes "document.txt"; rows = 100000; serving = served_by 3; query = query }))
unfolding clap_on_literals
fan_of_ask = refl

-- which changes nothing of what is meant
pub serving_of_ask_means_nothing : (w : AskWords) (s : ServingWords) → ask_meaning (record w { serving = s }) ≡ ask_meaning w
serving_of_ask_means_nothing w s = refl

pub fan_and_lag_of_query_mean_nothing : (w : QueryWords) (n m : ℕ) → query_meaning (record w { serving = record w.serving { fan = n; lag = m } }) ≡ query_meaning w
fan_and_lag_of_query_mean_nothing w n m = refl

-- how many workers there are, and after how many events a tablet is handed out once more; and numbers that clap doesn't take
abbrev with_workers : Text → Text → List Text
with_workers workers lag = codes "dremel" ∷ codes "query" ∷ codes "--workers" ∷ workers ∷ codes "--lag" ∷ lag ∷ codes "--table" ∷ codes "t" ∷ query ∷ []

pub workers_are_asked : (asked (with_workers (codes "1") (codes "1")) ≡ Some (query_words (record { table = codes "t"; serving = record { workers = 1; fan = 8; lag = 1 }; least = 100; query = query })))
    × (asked (with_workers (codes "16") (codes "1000000")) ≡ Some (query_words (record { table = codes "t"; serving = record { workers = 16; fan = 8; lag = 1000000 }; least = 100; query = query })))
unfolding clap_on_literals
workers_are_asked = (refl, refl)

pub no_workers : (asked (with_workers (codes "0") (codes "1")) ≡ None) × (asked (with_workers (codes "17") (codes "1")) ≡ None) × (asked (with_workers (codes "1") (codes "0")) ≡ None) × (asked (with_workers (codes "1") (codes "1000001")) ≡ None)
unfolding clap_on_literals
no_workers = (refl, refl, refl, refl)

pub workers_of_ask : asked (codes "dremel" ∷ codes "ask" ∷ codes "--workers" ∷ codes "2" ∷ codes "--lag" ∷ codes "3" ∷ codes "--schema" ∷ codes "document.txt" ∷ query ∷ []) ≡
    Some (ask (record { schema = codes "document.txt"; rows = 100000; serving = record { workers = 2; fan = 8; lag = 3 }; query = query }))
unfolding clap_on_literals
workers_of_ask = refl

-- two workers
abbrev pub totals_text : Text
totals_text = codes "SELECT COUNT(*) AS n, SUM(a) AS s FROM T"

abbrev pub two_workers_line : List Text
two_workers_line = codes "dremel" ∷ codes "query" ∷ codes "--table" ∷ codes "t" ∷ codes "--workers" ∷ codes "2" ∷ totals_text ∷ []

abbrev pub two_workers_words : QueryWords
two_workers_words = record { table = codes "t"; serving = record { workers = 2; fan = 8; lag = 64 }; least = 100; query = totals_text }

pub two_workers_asked : asked two_workers_line ≡ Some (query_words two_workers_words)
unfolding clap_on_literals
two_workers_asked = refl

-- which share of all tablets is enough, and numbers that clap doesn't take; `ask` has no such option
abbrev with_share : Text → List Text
with_share share = codes "dremel" ∷ codes "query" ∷ codes "--table" ∷ codes "t" ∷ codes "--least" ∷ share ∷ query ∷ []

pub shares_are_asked : (asked (with_share (codes "1")) ≡ Some (query_words (record { table = codes "t"; serving = served_by 8; least = 1; query = query })))
    × (asked (with_share (codes "100")) ≡ Some (query_words (record { table = codes "t"; serving = served_by 8; least = 100; query = query })))
unfolding clap_on_literals
shares_are_asked = (refl, refl)

pub no_shares : (asked (with_share (codes "0")) ≡ None) × (asked (with_share (codes "101")) ≡ None)
    × (asked (codes "dremel" ∷ codes "ask" ∷ codes "--least" ∷ codes "50" ∷ codes "--schema" ∷ codes "document.txt" ∷ query ∷ []) ≡ None)
unfolding clap_on_literals
no_shares = (refl, refl, refl)

-- a query of a table; the table has to be named
pub query_is_asked : asked (codes "dremel" ∷ codes "query" ∷ codes "--table" ∷ codes "t" ∷ query ∷ []) ≡ Some (query_words (record { table = codes "t"; serving = served_by 8; least = 100; query = query }))
unfolding clap_on_literals
query_is_asked = refl

pub no_table : asked (codes "dremel" ∷ codes "query" ∷ query ∷ []) ≡ None
unfolding clap_on_literals
no_table = refl

-- how a query over a schema is served; the schema has to be named
pub explain_is_taken : Taken (codes "dremel" ∷ codes "explain" ∷ codes "--schema" ∷ codes "document.txt" ∷ query ∷ [])
unfolding clap_on_literals
explain_is_taken = refl

pub explain_is_asked : asked (codes "dremel" ∷ codes "explain" ∷ codes "--schema" ∷ codes "document.txt" ∷ query ∷ []) ≡ Some (explain (record { schema = codes "document.txt"; query = query }))
unfolding clap_on_literals
explain_is_asked = refl

pub nothing_explained : asked (codes "dremel" ∷ codes "explain" ∷ query ∷ []) ≡ None
unfolding clap_on_literals
nothing_explained = refl

-- a session; its schema has to be named, and nothing else is
pub session_is_asked : asked (codes "dremel" ∷ codes "session" ∷ codes "--schema" ∷ codes "document.txt" ∷ []) ≡ Some (session (record { schema = codes "document.txt" }))
unfolding clap_on_literals
session_is_asked = refl

pub no_session : (asked (codes "dremel" ∷ codes "session" ∷ []) ≡ None) × (asked (codes "dremel" ∷ codes "session" ∷ codes "--schema" ∷ codes "document.txt" ∷ query ∷ []) ≡ None)
    × (asked (codes "dremel" ∷ codes "session" ∷ codes "--rows" ∷ codes "2" ∷ codes "--schema" ∷ codes "document.txt" ∷ []) ≡ None)
unfolding clap_on_literals
no_session = (refl, refl, refl)

-- ---- the other commands

-- a load: its two files; how many records a tablet gets, how many copies it has and of which form its pages are, behind the directories or before them
abbrev load_line : List Text → List Text
load_line more = codes "dremel" ∷ codes "load" ∷ codes "--schema" ∷ codes "s" ∷ codes "--table" ∷ codes "t" ∷ more

abbrev load_of : ℕ → ℕ → PageForm → List Text → Option CommandWords
load_of rows copies form directories = Some (load (record { schema = codes "s"; table = codes "t"; rows = rows; copies = copies; form = form; directories = directories }))

pub loads_are_asked : (asked (load_line (codes "x" ∷ codes "y" ∷ [])) ≡ load_of 100000 1 data_page_v1 (codes "x" ∷ codes "y" ∷ []))
    × (asked (load_line (codes "--rows" ∷ codes "1000000" ∷ codes "--copies=64" ∷ codes "x" ∷ [])) ≡ load_of 1000000 64 data_page_v1 (codes "x" ∷ []))
    × (asked (load_line (codes "x" ∷ codes "y" ∷ codes "--copies" ∷ codes "+2" ∷ codes "--rows=1" ∷ [])) ≡ load_of 1 2 data_page_v1 (codes "x" ∷ codes "y" ∷ []))
unfolding clap_on_literals
loads_are_asked = (refl, refl, refl)

pub pages_are_asked : (asked (load_line (codes "--pages" ∷ codes "2" ∷ codes "x" ∷ [])) ≡ load_of 100000 1 data_page_v2 (codes "x" ∷ []))
    × (asked (load_line (codes "x" ∷ codes "--pages=1" ∷ [])) ≡ load_of 100000 1 data_page_v1 (codes "x" ∷ []))
unfolding clap_on_literals
pages_are_asked = (refl, refl)

-- no directory; numbers out of their bounds; a file that isn't named
pub no_loads : map asked (load_line [] ∷ load_line (codes "--rows=0" ∷ codes "x" ∷ []) ∷ load_line (codes "--rows=1000001" ∷ codes "x" ∷ []) ∷ load_line (codes "--copies=0" ∷ codes "x" ∷ []) ∷ load_line (codes "--copies=65" ∷ codes "x" ∷ [])
    ∷ load_line (codes "--pages=0" ∷ codes "x" ∷ []) ∷ load_line (codes "--pages" ∷ codes "3" ∷ codes "x" ∷ [])
    ∷ (codes "dremel" ∷ codes "load" ∷ codes "--schema" ∷ codes "s" ∷ codes "x" ∷ []) ∷ (codes "dremel" ∷ codes "load" ∷ codes "--table" ∷ codes "t" ∷ codes "x" ∷ []) ∷ []) ≡ replicate 9 None
unfolding clap_on_literals
no_loads = refl

-- at most 64 directories
pub directories_of_loads : (asked (load_line (replicate 64 (codes "x"))) ≡ load_of 100000 1 data_page_v1 (replicate 64 (codes "x"))) × (asked (load_line (replicate 65 (codes "x"))) ≡ None)
unfolding clap_on_literals
directories_of_loads = (refl, refl)

-- a dump of some leaves, a column, an automaton, the schema of a file
pub others_are_asked : (asked (codes "dremel" ∷ codes "dump" ∷ codes "--table" ∷ codes "t" ∷ codes "a" ∷ codes "b" ∷ []) ≡ Some (dump (record { table = codes "t"; fields = codes "a" ∷ codes "b" ∷ [] })))
    × (asked (codes "dremel" ∷ codes "stripe" ∷ codes "--schema" ∷ codes "s" ∷ codes "a" ∷ []) ≡ Some (stripe (record { schema = codes "s"; field = codes "a" })))
    × (asked (codes "dremel" ∷ codes "fsm" ∷ codes "--schema" ∷ codes "s" ∷ codes "a" ∷ codes "b" ∷ []) ≡ Some (fsm (record { schema = codes "s"; fields = codes "a" ∷ codes "b" ∷ [] })))
    × (asked (codes "dremel" ∷ codes "schema" ∷ codes "f" ∷ []) ≡ Some (show_schema (record { file = codes "f" })))
unfolding clap_on_literals
others_are_asked = (refl, refl, refl, refl)

-- no leaf, no file; two leaves of a column, two files; a file that isn't named
pub others_without_their_words : map (λ words. asked (codes "dremel" ∷ words))
    ((codes "dump" ∷ codes "--table" ∷ codes "t" ∷ []) ∷ (codes "stripe" ∷ codes "--schema" ∷ codes "s" ∷ []) ∷ (codes "fsm" ∷ codes "--schema" ∷ codes "s" ∷ []) ∷ (codes "schema" ∷ [])
    ∷ (codes "stripe" ∷ codes "--schema" ∷ codes "s" ∷ codes "a" ∷ codes "b" ∷ []) ∷ (codes "schema" ∷ codes "f" ∷ codes "g" ∷ [])
    ∷ (codes "dump" ∷ codes "a" ∷ []) ∷ (codes "stripe" ∷ codes "a" ∷ []) ∷ (codes "fsm" ∷ codes "a" ∷ []) ∷ []) ≡ replicate 9 None
unfolding clap_on_literals
others_without_their_words = refl

-- ---- the lines that are refused, with the kind that clap gives each

pub no_words : fault_of dremel_app ([]) ≡ kind.MissingSubcommand ∷ []
unfolding clap_on_literals
no_words = refl

pub no_subcommand : fault_of dremel_app (codes "dremel" ∷ []) ≡ kind.MissingSubcommand ∷ []
unfolding clap_on_literals
no_subcommand = refl

pub no_schema : fault_of dremel_app (codes "dremel" ∷ codes "ask" ∷ query ∷ []) ≡ kind.MissingRequiredArgument ∷ []
unfolding clap_on_literals
no_schema = refl

pub no_query : fault_of dremel_app (codes "dremel" ∷ codes "ask" ∷ codes "--schema" ∷ codes "document.txt" ∷ []) ≡ kind.MissingRequiredArgument ∷ []
unfolding clap_on_literals
no_query = refl

pub no_path : fault_of dremel_app (codes "dremel" ∷ codes "ask" ∷ query ∷ codes "--schema" ∷ []) ≡ kind.InvalidValue ∷ []
unfolding clap_on_literals
no_path = refl

pub two_queries : fault_of dremel_app (codes "dremel" ∷ codes "ask" ∷ codes "--schema" ∷ codes "document.txt" ∷ query ∷ query ∷ []) ≡ kind.UnknownArgument ∷ []
unfolding clap_on_literals
two_queries = refl

pub two_schemas : fault_of dremel_app (codes "dremel" ∷ codes "ask" ∷ codes "--schema" ∷ codes "document.txt" ∷ codes "--schema" ∷ codes "document.txt" ∷ query ∷ []) ≡ kind.ArgumentConflict ∷ []
unfolding clap_on_literals
two_schemas = refl

pub unknown_subcommand : fault_of dremel_app (codes "dremel" ∷ codes "nothing" ∷ []) ≡ kind.UnknownArgument ∷ kind.InvalidSubcommand ∷ []
unfolding clap_on_literals
unknown_subcommand = refl

pub unknown_option : fault_of dremel_app (codes "dremel" ∷ codes "ask" ∷ codes "--row" ∷ codes "2" ∷ codes "--schema" ∷ codes "document.txt" ∷ query ∷ []) ≡ kind.UnknownArgument ∷ []
unfolding clap_on_literals
unknown_option = refl

pub help_flag : fault_of dremel_app (codes "dremel" ∷ codes "--help" ∷ []) ≡ kind.UnknownArgument ∷ []
unfolding clap_on_literals
help_flag = refl

pub help_word : fault_of dremel_app (codes "dremel" ∷ codes "help" ∷ []) ≡ kind.UnknownArgument ∷ kind.InvalidSubcommand ∷ []
unfolding clap_on_literals
help_word = refl

pub ask_help : fault_of dremel_app (codes "dremel" ∷ codes "ask" ∷ codes "--help" ∷ []) ≡ kind.UnknownArgument ∷ []
unfolding clap_on_literals
ask_help = refl

pub version_flag : fault_of dremel_app (codes "dremel" ∷ codes "--version" ∷ []) ≡ kind.UnknownArgument ∷ []
unfolding clap_on_literals
version_flag = refl

-- so they ask for nothing

pub no_words_asked : asked ([]) ≡ None
unfolding clap_on_literals
no_words_asked = refl

pub no_subcommand_asked : asked (codes "dremel" ∷ []) ≡ None
unfolding clap_on_literals
no_subcommand_asked = refl

pub no_schema_asked : asked (codes "dremel" ∷ codes "ask" ∷ query ∷ []) ≡ None
unfolding clap_on_literals
no_schema_asked = refl

pub no_query_asked : asked (codes "dremel" ∷ codes "ask" ∷ codes "--schema" ∷ codes "document.txt" ∷ []) ≡ None
unfolding clap_on_literals
no_query_asked = refl

pub no_path_asked : asked (codes "dremel" ∷ codes "ask" ∷ query ∷ codes "--schema" ∷ []) ≡ None
unfolding clap_on_literals
no_path_asked = refl

pub two_queries_asked : asked (codes "dremel" ∷ codes "ask" ∷ codes "--schema" ∷ codes "document.txt" ∷ query ∷ query ∷ []) ≡ None
unfolding clap_on_literals
two_queries_asked = refl

pub two_schemas_asked : asked (codes "dremel" ∷ codes "ask" ∷ codes "--schema" ∷ codes "document.txt" ∷ codes "--schema" ∷ codes "document.txt" ∷ query ∷ []) ≡ None
unfolding clap_on_literals
two_schemas_asked = refl

pub unknown_subcommand_asked : asked (codes "dremel" ∷ codes "nothing" ∷ []) ≡ None
unfolding clap_on_literals
unknown_subcommand_asked = refl

pub unknown_option_asked : asked (codes "dremel" ∷ codes "ask" ∷ codes "--row" ∷ codes "2" ∷ codes "--schema" ∷ codes "document.txt" ∷ query ∷ []) ≡ None
unfolding clap_on_literals
unknown_option_asked = refl

pub help_flag_asked : asked (codes "dremel" ∷ codes "--help" ∷ []) ≡ None
unfolding clap_on_literals
help_flag_asked = refl

pub help_word_asked : asked (codes "dremel" ∷ codes "help" ∷ []) ≡ None
unfolding clap_on_literals
help_word_asked = refl

pub ask_help_asked : asked (codes "dremel" ∷ codes "ask" ∷ codes "--help" ∷ []) ≡ None
unfolding clap_on_literals
ask_help_asked = refl

pub version_flag_asked : asked (codes "dremel" ∷ codes "--version" ∷ []) ≡ None
unfolding clap_on_literals
version_flag_asked = refl
