-- What the words of a command line ask for, from clap's answers.
use Rattle.std.proofs.Common.{◌≡◌, ◌∙◌, Bool, cond, true, false, true≢false, refl, sym, ap, subst, List, [], ◌∷◌, Option, Some, None, is_some, Result, Ok, Err, IfOk}
use Rattle.std.specs.Prelude.{IsSome, option_map}
use Rattle.std.specs.List.{find, list_all}
use Rattle.std.specs.Option.{option_map_or}
use Rattle.clap.specs.Words.{App, HasMatchesOf, Kinds, Shape, Text, built, fault_of, is_simple, is_simple_and_free, kind_of, subcommand_of, subcommand_rows_of, takes}
use Rattle.clap.specs.Walk.{answers_to, finished, nothing_held, walk, walk_from}
use Rattle.clap.specs.Simple.{argument_words, entered, label_of, names_of, rows_at}
use Rattle.clap.specs.Takes.{default_passes, entered_passes, is_valid, level_passes, settle_passes, walk_passes}
use Rattle.clap.specs.declared.ArgMatches.{ArgMatches}
use Rattle.clap.specs.declared.Error.{Error}
use Rattle.clap.specs.declared.error.ErrorKind.TheVariants.{OutOfMemory}
use Rattle.clap.proofs.OnLiterals.{clap_on_literals}
use Rattle.clap.proofs.WalkLemmas.{both}
use Rattle.dr_commands.specs.Commands.{CommandWords, command_view}
use Rattle.dr_words.specs.Words.{FaultlessAreTaken, Taken, TakenAsk, asked, dremel_app, words_in}
use Rattle.dr_words.specs.Rules.{Answers}
use Rattle.dr_commands.specs.declared.commands.Command.{Command}
use Rattle.dr_words.specs.declared.words_fault.WordsFault.{WordsFault}
use Rattle.dr_words.specs.declared.words_fault.WordsFault.TheVariants.{Usage}
use Rattle.dr_words.proofs.AgreementLemmas.{fault_agrees, is_none}
use Rattle.dr_words.proofs.LoadLemmas.{load_has_values}
use Rattle.dr_words.proofs.DumpLemmas.{dump_has_values}
use Rattle.dr_words.proofs.ShowSchemaLemmas.{show_schema_has_values}
use Rattle.dr_words.proofs.QueryLemmas.{query_has_values}
use Rattle.dr_words.proofs.AskLemmas.{ask_has_values}
use Rattle.dr_words.proofs.StripeLemmas.{stripe_has_values}
use Rattle.dr_words.proofs.FsmLemmas.{fsm_has_values}
use Rattle.dr_words.proofs.ExplainLemmas.{explain_has_values}
use Rattle.dr_words.proofs.GenLemmas.{gen_has_values}
use Rattle.dr_words.proofs.TrialLemmas.{trial_has_values}
use Rattle.dr_words.proofs.SessionLemmas.{session_has_values}

-- ---- where clap takes words, and where it finds no fault

pub is_exact : is_simple_and_free dremel_app ≡ true
unfolding clap_on_literals
is_exact = refl

faults_agree : (words : List Text) → is_none (fault_of dremel_app words) ≡ takes dremel_app words
faults_agree words = fault_agrees dremel_app words (both (is_simple dremel_app) _ is_exact).0 refl refl

none_empty : (kinds : Kinds) → is_none kinds ≡ true → kinds ≡ []
none_empty [] e = refl
none_empty (k ∷ kinds) e = absurd (true≢false (sym e))

pub faultless_are_taken : FaultlessAreTaken
faultless_are_taken words = (λ e. sym (faults_agree words) ∙ ap is_none e, λ taken. none_empty (fault_of dremel_app words) (faults_agree words ∙ taken))

taken_asks : (words : List Text) → Taken words → asked words ≡ words_in (subcommand_of dremel_app words)
taken_asks words taken = ap (λ (b : Bool). cond b (words_in (subcommand_of dremel_app words)) None) taken

untaken_asks : (words : List Text) → (Taken words → ⊥) → asked words ≡ None
untaken_asks words untaken = go (takes dremel_app words) untaken
  where
    go : (b : Bool) → (b ≡ true → ⊥) → cond b (words_in (subcommand_of dremel_app words)) None ≡ None
    go true not_taken = absurd (not_taken refl)
    go false not_taken = refl

-- at words that clap takes an error is want of memory
pub taken_error_is_memory : (app : App) (words : List Text) (e : Error) → app ≡ dremel_app → (takes app words ≡ true → kind_of e ≡ OutOfMemory) → Taken words → kind_of e ≡ OutOfMemory
taken_error_is_memory app words e is memory taken = memory (ap (λ (a : App). takes a words) is ∙ taken)

-- an error other than want of memory comes only at words that ask for nothing
pub error_asks_nothing : (app : App) (words : List Text) (e : Error) → app ≡ dremel_app → (takes app words ≡ true → kind_of e ≡ OutOfMemory)
    → (kind_of e ≡ OutOfMemory → ⊥) → asked words ≡ None
error_asks_nothing app words e is memory other =
    untaken_asks words (λ taken. other (taken_error_is_memory app words e is memory taken))

-- with matches, the answer is what is asked for
pub matches_answer : (app : App) (words : List Text) (m : ArgMatches) (r : Result Command WordsFault) → app ≡ dremel_app → HasMatchesOf app words m
    → (is_simple_and_free app ≡ true → fault_of app words ≡ []) → Answers command_view (words_in (subcommand_rows_of m)) r → Answers command_view (asked words) r
matches_answer app words m r is has faultless answer =
    let exact : is_simple_and_free app ≡ true = ap is_simple_and_free is ∙ is_exact in
    let simple : is_simple app ≡ true = (both (is_simple app) _ exact).0 in
    let none : fault_of dremel_app words ≡ [] = sym (ap (λ (a : App). fault_of a words) is) ∙ faultless exact in
    let rows : subcommand_rows_of m ≡ subcommand_of dremel_app words = (has simple).1 ∙ ap (λ (a : App). subcommand_of a words) is in
    let same : words_in (subcommand_rows_of m) ≡ asked words = ap words_in rows ∙ sym (taken_asks words ((faultless_are_taken words).0 none)) in
    subst (λ (o : Option CommandWords). Answers command_view o r) same answer

pub ok_answers : (o : Option CommandWords) (r : Result Command WordsFault) → Answers command_view o r → IfOk r (λ a. o ≡ Some (command_view a))
ok_answers o (Ok a) answer = answer
ok_answers o (Err e) answer = tt

pub usage_answers : (o : Option CommandWords) (r : Result Command WordsFault) → Answers command_view o r → r ≡ Err Usage → o ≡ None
usage_answers o r answer usage = subst (λ (x : Result Command WordsFault). Answers command_view o x) usage answer

-- ---- words that clap takes

-- the whole command as clap completes it
abbrev completed : App
completed = built dremel_app

-- each of these subcommands has its values where clap takes its words
abbrev HaveValues : List Shape → Type 0
HaveValues [] = Unit {0}
HaveValues (s ∷ rest) =
    ((words : List Text) → level_passes s [] nothing_held words false ≡ true → words_in (Some (rows_at s words)) ≡ None → ⊥) × HaveValues rest

found_has_values : (subs : List Shape) (name : Text) (words : List Text) → HaveValues subs
    → option_map_or (λ (s : Shape). level_passes s [] nothing_held words false) (find (λ s. answers_to name (label_of s)) subs) true ≡ true
    → is_some (option_map (λ (s : Shape). rows_at s words) (find (λ s. answers_to name (label_of s)) subs)) ≡ true
    → words_in (option_map (λ (s : Shape). rows_at s words) (find (λ s. answers_to name (label_of s)) subs)) ≡ None → ⊥
found_has_values [] name words have passes there none = true≢false (sym there)
found_has_values (s ∷ rest) name words have passes there none =
    go (answers_to name (label_of s)) (find (λ x. answers_to name (label_of x)) rest) (found_has_values rest name words have.1) passes there none
  where
    go : (b : Bool) (later : Option Shape)
        → (option_map_or (λ (x : Shape). level_passes x [] nothing_held words false) later true ≡ true
        → is_some (option_map (λ (x : Shape). rows_at x words) later) ≡ true → words_in (option_map (λ (x : Shape). rows_at x words) later) ≡ None → ⊥)
        → option_map_or (λ (x : Shape). level_passes x [] nothing_held words false) (cond b (Some s) later) true ≡ true
        → is_some (option_map (λ (x : Shape). rows_at x words) (cond b (Some s) later)) ≡ true
        → words_in (option_map (λ (x : Shape). rows_at x words) (cond b (Some s) later)) ≡ None → ⊥
    go true later next passes there none = have.0 words passes none
    go false later next passes there none = next passes there none

-- one part for each subcommand
all_have_values : HaveValues completed.subs
all_have_values = (load_has_values, (query_has_values, (ask_has_values, (dump_has_values, (stripe_has_values, (fsm_has_values, (show_schema_has_values, (explain_has_values, (gen_has_values, (trial_has_values, (session_has_values, tt)))))))))))

entered_has_values : (stop : Option (Text × List Text)) → entered_passes completed stop ≡ true → is_some (entered completed stop) ≡ true
    → words_in (entered completed stop) ≡ None → ⊥
entered_has_values None passes there none = true≢false (sym there)
entered_has_values (Some p) passes there none = found_has_values completed.subs p.0 p.1 all_have_values passes there none

-- where clap takes the words, the subcommand has the values that have to be there
pub taken_has_values : (words : List Text) → Taken words → words_in (subcommand_of dremel_app words) ≡ None → ⊥
taken_has_values words taken none =
    let passes = (both (is_simple dremel_app) _ taken).1 in
    let stop = (walk completed.top.rules (names_of completed) nothing_held (argument_words dremel_app words)).stopped in
    let parts = both (entered_passes completed stop) _ passes in
    let end = (walk completed.top.rules (names_of completed) nothing_held (argument_words dremel_app words)).held in
    let walks = both (walk_passes completed.top (names_of completed) (walk_from nothing_held) (argument_words dremel_app words)) _ parts.1 in
    let settles = both (settle_passes completed.top.rules completed.top.args_override_self end) _ walks.1 in
    let valid = (both (list_all default_passes completed.top.rules) (is_valid completed.top (finished completed.top.rules end) (is_some (entered completed stop))) settles.1).1 in
    let named = (both (is_some (entered completed stop)) _ valid).0 in
    entered_has_values stop parts.0 named none

-- so they ask for something
pub taken_ask : TakenAsk
taken_ask words taken =
    subst (λ (o : Option CommandWords). IsSome o) (sym (taken_asks words taken)) (there (words_in (subcommand_of dremel_app words)) (taken_has_values words taken))
  where
    there : (o : Option CommandWords) → (o ≡ None → ⊥) → IsSome o
    there None some = absurd (some refl)
    there (Some c) some = refl

-- and `Usage` is no answer there
pub taken_answers : (words : List Text) (r : Result Command WordsFault) → Answers command_view (asked words) r → Taken words → r ≡ Err Usage → ⊥
taken_answers words r answer taken usage = taken_has_values words taken (sym (taken_asks words taken) ∙ usage_answers (asked words) r answer usage)
