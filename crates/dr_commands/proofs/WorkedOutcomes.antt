-- What each command looks at, and how it goes on, by computation.
use Rattle.std.specs.Prelude.{◌≡◌, ℕ, List, [], ◌∷◌, ◌++◌, map, Bool, true, false, Option, Some, None, Result, Ok, Err, ⊤, codes, refl}
use Rattle.std.proofs.Common.{ap, ap₂}
use Rattle.std.specs.Str.{is_utf8, chars}
use Rattle.std.specs.Fmt.{digits}
use Rattle.json.specs.Print.{escape_byte}
use Rattle.serde_json.proofs.OnLiterals.{serde_json_on_literals}
use Rattle.dr_meaning.specs.SchemaText.{parse_schema, empty_group}
use Rattle.dr_meaning.specs.Path.{Leaf, unknown_field, not_a_leaf}
use Rattle.dr_meaning.specs.Schema.{field, required, leaf, int64_kind, no_fields}
use Rattle.dr_meaning.specs.Record.{Node, slot, no_slots}
use Rattle.dr_meaning.specs.JsonRecord.{record_of_line, missing_field, not_json}
use Rattle.dr_meaning.specs.Lines.{no_record}
use Rattle.dr_meaning.specs.Lines as line
use Rattle.dr_meaning.specs.Automaton.{automaton_text}
use Rattle.dr_meaning.specs.Parse.{items as plain_items, keys, argument, whole_expression, syntax}
use Rattle.dr_meaning.specs.Binding.{bind}
use Rattle.dr_meaning.specs.Query as plain_query
use Rattle.dr_meaning.specs.QueryLeaves as plain_leaves
use Rattle.dr_meaning.specs.Lines.{records_of}
use Rattle.dr_meaning.specs.Print.{record_text, result_text}
use Rattle.dr_meaning.specs.Refusals as plainly
use Rattle.dr_meaning.specs.Refusals.{QueryRefusal}
use Rattle.dr_sub_meaning.specs.Session.{SessionRefusal, Spoken, spoken, no_command, query_refused as session_query_refused}
use Rattle.dr_meaning.specs.Stripe.{stripe}
use Rattle.dr_meaning.specs.Fsm.{fsm}
use Rattle.dr_meaning.proofs.WorkedSchemas.{document_schema, document_text}
use Rattle.dr_meaning.proofs.WorkedPaths.{projected_10, projected_20}
use Rattle.dr_meaning.proofs.WorkedStripe.{doc_id_lines}
use Rattle.dr_meaning.proofs.WorkedRecords.{line_10, line_20, record_10, record_20, numbers}
use Rattle.dr_sub_meaning.specs.ResultRecords.{result_fields}
use Rattle.dr_sub_meaning.specs.ResultFaults.{result_schema}
use Rattle.dr_sub_meaning.specs.Nested.{NestedQuery, answered, meaning, outer_fields, outer_records, query_leaves}
use Rattle.dr_sub_meaning.specs.NestedParse.{parse_nested}
use Rattle.dr_sub_meaning.specs.NestedBinding.{bind_nested}
use Rattle.dr_sub_meaning.specs.NestedAsk.{ask, read_nested, nested_answer_text}
use Rattle.dr_sub_meaning.proofs.WorkedCommand.{first_answer, a_nested_answer}
use Rattle.dr_gen.specs.Generator.{record_of, line_of}
use Rattle.dr_formats.specs.Page.{data_page_v1, data_page_v2}
use Rattle.dr_formats.specs.Loading.{Put, Plan, load, load_taken, puts_of, leaf_refused, copies_refused}
use Rattle.dr_formats.specs.TableFile.{parse_table, bad_head}
use Rattle.dr_formats.proofs.WorkedTables.{two_copies_text}
use Rattle.dr_reading.specs.Scan.{Copy}
use Rattle.dr_commands.specs.Refusals.{schema_refused, table_refused, field_refused, words_refused, query_refused, line_refused, session_refused, refusal_of, refusal_text}
use Rattle.dr_commands.specs.Meaning.{Meaning, Outcome, done, refused, scans, serves, looks_at, stops, plain, puts_in, first_refusal, text_before, IsEarly}
use Rattle.dr_commands.specs.Numbers.{default_rows, least_fan, most_fan, default_fan, most_workers, default_workers, most_lag, default_lag, most_share, default_share}
use Rattle.dr_commands.specs.Serving.{ServingWords}
use Rattle.dr_commands.specs.Load.{LoadWords, load_meaning, loaded_outcome}
use Rattle.dr_commands.specs.Query.{query_meaning}
use Rattle.dr_commands.specs.Ask.{ask_meaning}
use Rattle.dr_commands.specs.Dump.{dump_meaning}
use Rattle.dr_commands.specs.Stripe.{stripe_meaning}
use Rattle.dr_commands.specs.Fsm.{fsm_meaning}
use Rattle.dr_commands.specs.ShowSchema.{show_schema_meaning}
use Rattle.dr_commands.specs.Explain.{explain_meaning}
use Rattle.dr_commands.specs.Trial.{trial_meaning}
use Rattle.dr_commands.specs.Session.{session_meaning, session_outcome, spoken_outcome}

abbrev url_count : List ℕ
url_count = codes "SELECT COUNT(Name.Url) FROM Document"

-- a query over the results of another, in order and cut
abbrev nested_count : List ℕ
nested_count = codes "SELECT n FROM (SELECT COUNT(Name.Url) WITHIN RECORD AS n FROM Document) ORDER BY n LIMIT 1"

abbrev input : List ℕ
input = line_10 ++ 10 ∷ (line_20 ++ 10 ∷ [])

-- how a query is served where the words say the fan alone
abbrev served_by : ℕ → ServingWords
served_by fan = record { workers = 4; fan = fan; lag = 64 }

-- where to load: one directory, or these, with so many copies
abbrev load_words : List (List ℕ) → ℕ → LoadWords
load_words directories copies = record { schema = codes "s"; table = codes "t"; rows = 2; copies = copies; form = data_page_v1; directories = directories }

-- ---- what a command looks at

-- the file that it reads; whether it reads the input, puts files, and talks; how many links it may ask
abbrev Looks : Meaning → Option (List ℕ) → List Bool → ℕ → Type 0
Looks m file does n = (m.file ≡ file) × ((m.reads_input ∷ m.puts_files ∷ m.talks ∷ []) ≡ does) × (m.links ≡ n)

pub load_looks : Looks (load_meaning (load_words (codes "d" ∷ []) 1)) (Some (codes "s")) (true ∷ true ∷ false ∷ []) 0
load_looks = (refl, refl, refl)

pub query_looks : Looks (query_meaning (record { table = codes "t"; serving = served_by 8; least = 100; query = url_count })) (Some (codes "t")) (false ∷ false ∷ false ∷ []) 4
query_looks = (refl, refl, refl)

pub ask_looks : Looks (ask_meaning (record { schema = codes "s"; rows = 2; serving = served_by 8; query = url_count })) (Some (codes "s")) (true ∷ false ∷ false ∷ []) 0
ask_looks = (refl, refl, refl)

pub dump_looks : Looks (dump_meaning (record { table = codes "t"; fields = codes "DocId" ∷ [] })) (Some (codes "t")) (false ∷ false ∷ false ∷ []) 1
dump_looks = (refl, refl, refl)

pub stripe_looks : Looks (stripe_meaning (record { schema = codes "s"; field = codes "DocId" })) (Some (codes "s")) (true ∷ false ∷ false ∷ []) 0
stripe_looks = (refl, refl, refl)

pub fsm_looks : Looks (fsm_meaning (record { schema = codes "s"; fields = codes "DocId" ∷ [] })) (Some (codes "s")) (false ∷ false ∷ false ∷ []) 0
fsm_looks = (refl, refl, refl)

pub schema_looks : Looks (show_schema_meaning (record { file = codes "f" })) None (false ∷ false ∷ false ∷ []) 1
schema_looks = (refl, refl, refl)

pub explain_looks : Looks (explain_meaning (record { schema = codes "s"; query = url_count })) (Some (codes "s")) (false ∷ false ∷ false ∷ []) 0
explain_looks = (refl, refl, refl)

pub session_looks : Looks (session_meaning (record { schema = codes "s" })) (Some (codes "s")) (true ∷ false ∷ true ∷ []) 0
session_looks = (refl, refl, refl)

-- ---- commands that print the text of what they read

abbrev at : Meaning → List ℕ → List ℕ → Outcome
at m file input = m.outcome (record { file = file; input = input })

pub column_is_printed : at (stripe_meaning (record { schema = codes "s"; field = codes "DocId" })) document_text input ≡ done (codes "10 0 0\n20 0 0\n") []
column_is_printed = ap plain doc_id_lines

pub group_has_no_column : at (stripe_meaning (record { schema = codes "s"; field = codes "Name" })) document_text input ≡ refused (field_refused 0 not_a_leaf) []
unfolding stripe parse_schema
group_has_no_column = refl

pub automaton_is_printed : at (fsm_meaning (record { schema = codes "s"; fields = codes "DocId" ∷ [] })) document_text input ≡ done (codes "DocId 0 end\n") []
unfolding fsm parse_schema automaton_text digits
automaton_is_printed = refl

pub count_is_printed : at (ask_meaning (record { schema = codes "s"; rows = 1; serving = served_by 8; query = url_count })) document_text input ≡ done (codes "{\"f0_\":3}\n") []
count_is_printed = ap plain first_answer

pub nested_answer_is_printed : at (ask_meaning (record { schema = codes "s"; rows = 1; serving = served_by 8; query = nested_count })) document_text input ≡ done (codes "{\"n\":1}\n") []
nested_answer_is_printed = ap plain a_nested_answer

pub trial_is_printed : at (trial_meaning (record { seed = 0; records = 4; rows = 100000; serving = served_by 8 })) [] [] ≡ done (codes "{\"records\":4,\"codes\":6,\"urls\":4,\"forward\":51,\"last\":3}\n") []
unfolding ask parse_schema read_nested parse_nested plain_items keys argument whole_expression bind_nested bind nested_answer_text answered meaning outer_fields outer_records plain_query.meaning records_of record_of_line is_utf8 chars serde_json_on_literals result_text line_of record_of record_text escape_byte digits
trial_is_printed = refl

pub schema_is_shown : at (show_schema_meaning (record { file = codes "f.parquet" })) [] [] ≡ looks_at (codes "f.parquet")
schema_is_shown = refl

-- a session prints what its lines print, or what those before the first that is refused print; its schema comes before them
pub lines_are_printed : (said : Spoken) → (said.refusal ≡ None → session_outcome said ≡ done said.text [])
    × ((e : SessionRefusal) → said.refusal ≡ Some e → session_outcome said ≡ stops said.text (session_refused e))
lines_are_printed said = (λ e. ap (spoken_outcome said.text) e, λ e is. ap (spoken_outcome said.text) is)

pub session_is_spoken : (bytes : List ℕ) → at (session_meaning (record { schema = codes "s" })) document_text bytes ≡ session_outcome (spoken document_schema bytes)
unfolding parse_schema
session_is_spoken bytes = refl

pub session_refuses : (bytes : List ℕ) → at (session_meaning (record { schema = codes "s" })) (codes "message T { }") bytes ≡ refused (schema_refused (record { place = 12; problem = empty_group })) []
unfolding parse_schema
session_refuses bytes = refl

-- what a command without tables refuses, and what it prints
pub plain_ends : (plain (Ok (codes "x")) ≡ done (codes "x") []) × (plain (Err (plainly.field_refused 1 unknown_field)) ≡ refused (field_refused 1 unknown_field) [])
plain_ends = (refl, refl)

-- ---- commands that scan a table

-- which tablets, with their copies in the order in which they are tried; the paths of the leaves; what is printed of records
abbrev tablets_in : Outcome → List (List Copy)
tablets_in (scans s) = s.tablets
tablets_in (serves s workers least) = s.tablets
tablets_in o = []

abbrev leaf_names : Outcome → List (List (List ℕ))
leaf_names (scans s) = map (λ (l : Leaf). l.names) s.leaves
leaf_names (serves s workers least) = map (λ (l : Leaf). l.names) s.leaves
leaf_names o = []

abbrev text_of : Outcome → List Node → List ℕ
text_of (scans s) R = s.text R
text_of (serves s workers least) R = s.text R
text_of o R = []

-- how many links serve it, and which share of all tablets is enough
abbrev service_of : Outcome → List ℕ
service_of (serves s workers least) = workers ∷ least ∷ []
service_of o = []

abbrev copy : ℕ → List ℕ → Copy
copy directory path = record { directory = directory; path = path }

abbrev both_tablets : List (List Copy)
both_tablets = (copy 0 (codes "a/t000000.parquet") ∷ copy 1 (codes "b/t000000.parquet") ∷ []) ∷ (copy 1 (codes "b/t000001.parquet") ∷ copy 0 (codes "a/t000001.parquet") ∷ []) ∷ []

abbrev dumped : List (List ℕ) → List ℕ → Outcome
dumped fields table = at (dump_meaning (record { table = codes "t"; fields = fields })) table []

pub dump_scans : (tablets_in (dumped (codes "DocId" ∷ []) two_copies_text) ≡ both_tablets) × (leaf_names (dumped (codes "Name.Url" ∷ codes "DocId" ∷ []) two_copies_text) ≡ (codes "Name" ∷ codes "Url" ∷ []) ∷ (codes "DocId" ∷ []) ∷ [])
unfolding parse_table parse_schema is_utf8 chars lib.Utf8.encode digits
dump_scans = (refl, refl)

-- a line for each record, projected
pub projections_are_printed : text_of (dumped (codes "DocId" ∷ codes "Name.Language.Country" ∷ []) two_copies_text) (record_10 ∷ record_20 ∷ []) ≡
    codes "{\"DocId\":10,\"Name\":[{\"Language\":[{\"Country\":\"us\"},{}]},{\"Language\":[]},{\"Language\":[{\"Country\":\"gb\"}]}]}\n" ++ codes "{\"DocId\":20,\"Name\":[{\"Language\":[]}]}\n"
unfolding parse_table parse_schema is_utf8 chars lib.Utf8.encode
projections_are_printed = ap₂ (λ a b. a ++ (b ++ [])) projected_10 projected_20

-- the table comes before the fields, these from 0 on
pub dump_refuses : (dumped (codes "Name" ∷ []) (codes "x") ≡ refused (table_refused bad_head) []) × (dumped (codes "DocId" ∷ codes "Nam" ∷ []) two_copies_text ≡ refused (field_refused 1 unknown_field) [])
unfolding parse_table parse_schema is_utf8 chars lib.Utf8.encode
dump_refuses = (refl, refl)

abbrev queried : List ℕ → List ℕ → Outcome
queried query table = at (query_meaning (record { table = codes "t"; serving = record { workers = 3; fan = 8; lag = 64 }; least = 50; query = query })) table []

pub query_scans : (tablets_in (queried url_count two_copies_text) ≡ both_tablets) × (leaf_names (queried url_count two_copies_text) ≡ (codes "Name" ∷ codes "Url" ∷ []) ∷ [])
    × (service_of (queried url_count two_copies_text) ≡ 3 ∷ 50 ∷ [])
unfolding parse_table parse_schema read_nested parse_nested plain_items keys argument whole_expression bind_nested bind is_utf8 chars lib.Utf8.encode digits query_leaves plain_leaves.query_leaves
query_scans = (refl, refl, refl)

-- of a query over the results of another the innermost reads the table
pub nested_query_scans : (tablets_in (queried nested_count two_copies_text) ≡ both_tablets) × (leaf_names (queried nested_count two_copies_text) ≡ (codes "Name" ∷ codes "Url" ∷ []) ∷ [])
unfolding parse_table parse_schema read_nested parse_nested plain_items keys argument whole_expression bind_nested bind result_schema result_fields is_utf8 chars lib.Utf8.encode digits query_leaves plain_leaves.query_leaves
nested_query_scans = (refl, refl)

-- what the query means on the records
abbrev answer_of : Result NestedQuery QueryRefusal → List Node → List ℕ
answer_of (Ok n) R = nested_answer_text document_schema n R
answer_of (Err e) R = []

pub answer_is_printed : (R : List Node) → text_of (queried url_count two_copies_text) R ≡ answer_of (read_nested document_schema url_count) R
unfolding parse_table parse_schema read_nested parse_nested plain_items keys argument whole_expression bind_nested bind is_utf8 chars lib.Utf8.encode digits
answer_is_printed R = refl

-- the table comes before the query
pub query_refuses : (queried (codes "SELECT") (codes "x") ≡ refused (table_refused bad_head) []) × (queried (codes "SELECT FROM Document") two_copies_text ≡ refused (query_refused (plainly.text_refused (record { place = 7; problem = syntax }))) [])
unfolding parse_table parse_schema read_nested parse_nested plain_items keys argument whole_expression is_utf8 chars lib.Utf8.encode digits
query_refuses = (refl, refl)

-- ---- load

abbrev loaded : List (List ℕ) → ℕ → List ℕ → List ℕ → Outcome
loaded directories copies schema input = at (load_meaning (load_words directories copies)) schema input

abbrev one_field : List ℕ
one_field = codes "message T { required int64 a; }"

-- the schema comes before the directories, these before the number of copies, and that before the input
pub load_refuses : (loaded ([] ∷ []) 2 (codes "message T { }") (codes "x") ≡ refused (schema_refused (record { place = 12; problem = empty_group })) []) × (loaded (codes "d" ∷ [] ∷ []) 3 one_field (codes "x") ≡ refused (words_refused (leaf_refused 1)) [])
    × (loaded (codes "d" ∷ []) 2 one_field (codes "x") ≡ refused (words_refused copies_refused) []) × (loaded (codes "d" ∷ []) 1 one_field (255 ∷ 10 ∷ []) ≡ refused (line_refused (record { line = 1; fault = no_record not_json })) [])
unfolding load parse_schema record_of_line is_utf8 chars
load_refuses = (refl, refl, refl, refl)

abbrev plan : Plan
plan = record { schema = record { name = codes "T"; fields = field (codes "a") required (leaf int64_kind) no_fields }; directories = codes "d" ∷ codes "e" ∷ []; copies = 1; rows = 2; table = Some (codes "t"); form = data_page_v1 }

abbrev number : ℕ → Node
number n = slot (numbers (n ∷ [])) no_slots

-- an empty input; three records, two to a tablet, one copy each
pub nothing_is_loaded : loaded plan.directories 1 one_field [] ≡ done (codes "loaded 0 records into 1 tablets\n") (puts_of plan [] None)
unfolding load parse_schema digits
nothing_is_loaded = refl

pub input_is_loaded : (bytes : List ℕ) → loaded plan.directories 1 one_field bytes ≡ loaded_outcome (load plan bytes) (load plan bytes).refusal
unfolding parse_schema
input_is_loaded bytes = refl

-- with pages V2: the same, in files of this form
abbrev plan_v2 : Plan
plan_v2 = record plan { form = data_page_v2 }

pub input_is_loaded_v2 : (bytes : List ℕ) → at (load_meaning (record (load_words plan.directories 1) { form = data_page_v2 })) one_field bytes ≡ loaded_outcome (load plan_v2 bytes) (load plan_v2 bytes).refusal
unfolding parse_schema
input_is_loaded_v2 bytes = refl

pub three_are_loaded : loaded_outcome (load_taken plan (record { records = number 1 ∷ number 2 ∷ number 3 ∷ []; refusal = None })) None ≡
    done (codes "loaded 3 records into 2 tablets\n") (puts_of plan (number 1 ∷ number 2 ∷ number 3 ∷ []) None)
unfolding digits
three_are_loaded = refl

-- the third line is refused: the tablet that is full is put before that
abbrev third_refused : line.Refusal
third_refused = record { line = 3; fault = no_record missing_field }

pub third_is_refused : loaded_outcome (load_taken plan (record { records = number 1 ∷ number 2 ∷ []; refusal = Some third_refused })) (Some third_refused) ≡ refused (line_refused third_refused) (puts_of plan (number 1 ∷ number 2 ∷ []) (Some third_refused))
third_is_refused = refl

-- ---- refusals

abbrev put : Put
put = record { path = codes "d/t000000.parquet"; bytes = [] }

-- the files that were put, whether or not something is refused then
pub puts_told : (puts_in (done (codes "x") (put ∷ [])) ≡ put ∷ []) × (puts_in (refused (words_refused copies_refused) (put ∷ [])) ≡ put ∷ []) × (puts_in (looks_at (codes "f")) ≡ [])
puts_told = (refl, refl, refl)

-- the first refusal, and what is printed before it
abbrev second_line : SessionRefusal
second_line = record { line = 2; fault = no_command }

pub firsts_told : (first_refusal (done (codes "x") []) ≡ None) × (first_refusal (refused (words_refused copies_refused) (put ∷ [])) ≡ Some (words_refused copies_refused))
    × (first_refusal (stops (codes "x") (session_refused second_line)) ≡ Some (session_refused second_line)) × (first_refusal (looks_at (codes "f")) ≡ None)
firsts_told = (refl, refl, refl, refl)

pub texts_told : (text_before (done (codes "x") []) ≡ []) × (text_before (stops (codes "x") (session_refused second_line)) ≡ codes "x") × (puts_in (stops (codes "x") (session_refused second_line)) ≡ [])
texts_told = (refl, refl, refl)

-- the line that names each refusal
pub refusals_told :
    map refusal_text (schema_refused (record { place = 12; problem = empty_group }) ∷ table_refused bad_head ∷ field_refused 1 unknown_field ∷ words_refused (leaf_refused 1) ∷ words_refused copies_refused
    ∷ query_refused (plainly.text_refused (record { place = 7; problem = syntax })) ∷ line_refused (record { line = 3; fault = no_record missing_field }) ∷ session_refused second_line
    ∷ session_refused (record { line = 1; fault = session_query_refused (plainly.text_refused (record { place = 7; problem = syntax })) }) ∷ []) ≡
    codes "refused schema at 12: EmptyGroup\n" ∷ codes "refused table: Head\n" ∷ codes "refused field 1: UnknownField\n" ∷ codes "refused leaf 1\n" ∷ codes "refused copies\n"
    ∷ codes "refused query at 7: Syntax\n" ∷ codes "refused line 3: MissingField\n" ∷ codes "refused line 2: Command\n"
    ∷ codes "refused line 1: query at 7: Syntax\n" ∷ []
unfolding digits
refusals_told = refl

pub refusals_kept :
    map refusal_of (plainly.schema_refused (record { place = 12; problem = empty_group }) ∷ plainly.field_refused 1 unknown_field ∷ plainly.query_refused (plainly.text_refused (record { place = 7; problem = syntax }))
    ∷ plainly.line_refused (record { line = 3; fault = no_record missing_field }) ∷ []) ≡
    schema_refused (record { place = 12; problem = empty_group }) ∷ field_refused 1 unknown_field ∷ query_refused (plainly.text_refused (record { place = 7; problem = syntax }))
    ∷ line_refused (record { line = 3; fault = no_record missing_field }) ∷ []
refusals_kept = refl

-- all but those of lines are found before the input is read
pub before_the_input : map IsEarly (schema_refused (record { place = 12; problem = empty_group }) ∷ table_refused bad_head ∷ field_refused 1 unknown_field ∷ words_refused copies_refused
    ∷ query_refused (plainly.text_refused (record { place = 7; problem = syntax })) ∷ line_refused (record { line = 3; fault = no_record missing_field }) ∷ session_refused second_line ∷ []) ≡
    ⊤ ∷ ⊤ ∷ ⊤ ∷ ⊤ ∷ ⊤ ∷ ⊥ ∷ ⊥ ∷ []
before_the_input = refl

-- ---- numbers of options

pub limits : (default_rows ≡ 100000) × (least_fan ≡ 2) × (most_fan ≡ 64) × (default_fan ≡ 8)
limits = (refl, refl, refl, refl)

pub serving_limits : (most_workers ≡ 16) × (default_workers ≡ 4) × (most_lag ≡ 1000000) × (default_lag ≡ 64) × (most_share ≡ 100) × (default_share ≡ 100)
serving_limits = (refl, refl, refl, refl, refl, refl)
