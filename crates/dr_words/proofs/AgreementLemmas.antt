-- clap's two definitions agree: where no argument has a rule on another and each default passes, there is no fault exactly where the words are taken.
use Rattle.std.proofs.Common.{◌≡◌, ◌∙◌, ◌&&◌, ◌||◌, ◌+◌, ℕ, Bool, cond, true, false, not, zero, suc, refl, sym, ap, ap₂, arith, List, [], ◌∷◌, length, drop, min, Option, Some, None, is_some, nat_le}
use Rattle.std.proofs.lemmas.Bool.Decides.{nat_tests}
use Rattle.std.specs.Prelude.{codes, encode_utf8, slice_get}
use Rattle.std.specs.List.{find, list_all, list_any}
use Rattle.std.specs.Option.{option_map_or}
use Rattle.std.specs.Str.{bytes_eq, chars}
use Rattle.clap.specs.Lexer.{long_of, short_of}
use Rattle.clap.specs.Values.{is_request}
use Rattle.clap.specs.Facts.{explicit_source, unwrap_or_range}
use Rattle.clap.specs.Matches.{count_text}
use Rattle.clap.specs.Walk.{Held, Names, Row, Rule, Step, Text, Waiting, Walk, action_of, answers_to, arg_by_id, arg_by_index, arg_by_long, arg_by_short, attached_value, count_of, finished, has_row, is_empty, is_pending, most_values, next, nothing_held, reacted, settled, subcommand, subcommand_met, takes_several, takes_values, trailing, value, values_or_missing, walk, walk_from, walked, with_default, word_met}
use Rattle.clap.specs.Simple.{App, Shape, argument_words, built, entered, is_simple, label_of, names_of}
use Rattle.clap.specs.Kinds.{Kinds, check_kinds, or_else, range_kinds, request_kinds}
use Rattle.clap.specs.Takes.{action_passes, built_takes, bundle_passes, bundle_step_passes, count_passes, default_passes, entered_passes, flag_word_passes, flags_pass, is_given, is_valid, level_passes, long_passes, option_passes, other_passes, positional_passes, react_passes, set_passes, settle_passes, short_passes, step_passes, takes, turn_passes, use_passes, value_passes, values_pass, walk_passes, word_passes}
use Rattle.clap.specs.Faults.{action_fault, bundle_fault, bundle_step_fault, check_fault, count_fault, default_fault, defaults_fault, entered_fault, fault_of, flag_word_fault, flags_fault, level_fault, long_fault, option_fault, other_fault, positional_fault, react_fault, repeat_fault, set_fault, settle_fault, short_fault, step_fault, stray_fault, turn_fault, use_fault, values_fault, walk_fault, word_fault}
use Rattle.clap.specs.declared.builder.ArgAction.{ArgAction}
use Rattle.clap.specs.declared.builder.ArgAction.TheVariants.{Set, Append, SetTrue, SetFalse, Count, Help, HelpShort, HelpLong, Version}
use Rattle.clap.specs.declared.error.ErrorKind.{ErrorKind}
use Rattle.clap.proofs.WalkLemmas.{both}

abbrev pub is_none : Kinds → Bool
is_none [] = true
is_none (k ∷ ks) = false

-- ---- steps in turn

else_agrees : (x y : Kinds) (p q : Bool) → is_none x ≡ p → is_none y ≡ q → is_none (or_else x y) ≡ (p && q)
else_agrees x y p q e f = go x ∙ ap₂ (λ (a b : Bool). a && b) e f
  where
    go : (x : Kinds) → is_none (or_else x y) ≡ (is_none x && is_none y)
    go [] = refl
    go (k ∷ ks) = refl

cond_agrees : (b : Bool) (x y : Kinds) (p q : Bool) → is_none x ≡ p → is_none y ≡ q → is_none (cond b x y) ≡ cond b p q
cond_agrees true x y p q e f = e
cond_agrees false x y p q e f = f

option_agrees : {X : Type 0} (o : Option X) (f : X → Kinds) (p : X → Bool) (d : Kinds) (b : Bool) → ((x : X) → is_none (f x) ≡ p x) → is_none d ≡ b
    → is_none (option_map_or f o d) ≡ option_map_or p o b
option_agrees None f p d b each e = e
option_agrees (Some x) f p d b each e = each x

test_agrees : (b : Bool) (k : ErrorKind) → is_none (cond b [] (k ∷ [])) ≡ b
test_agrees true k = refl
test_agrees false k = refl

or_agrees : (b : Bool) (x : Kinds) (p : Bool) → is_none x ≡ p → is_none (cond b [] x) ≡ (b || p)
or_agrees true x p e = refl
or_agrees false x p e = e

and_assoc : (a b c : Bool) → ((a && b) && c) ≡ (a && (b && c))
and_assoc true b c = refl
and_assoc false b c = refl

-- ---- one use of an argument

values_agree : (a : Rule) (values : List Text) → is_none (values_fault a values) ≡ values_pass a values
values_agree a [] = refl
values_agree a (v ∷ vs) = else_agrees _ (values_fault a vs) _ _ (test_agrees (value_passes a v) _) (values_agree a vs)

range_agrees : (least most n : ℕ) → is_none (range_kinds least most n) ≡ (nat_le least n && nat_le n most)
range_agrees least most n = grind (arith, nat_tests)

repeat_agrees : (has again : Bool) (k : ErrorKind) → is_none (cond (has && not again) (k ∷ []) []) ≡ (not has || again)
repeat_agrees true true k = refl
repeat_agrees true false k = refl
repeat_agrees false again k = refl

set_agrees : (again : Bool) (a : Rule) (values : List Text) (rows : List Row) → is_none (set_fault again a values rows) ≡ set_passes again a values rows
set_agrees again a values rows =
    else_agrees (repeat_fault again a.id rows) (values_fault a values) _ _ (repeat_agrees (has_row a.id rows) again _) (values_agree a values)

count_agrees : (a : Rule) (values : List Text) (rows : List Row) → is_none (count_fault a values rows) ≡ count_passes a values rows
count_agrees a [] rows = test_agrees (value_passes a (count_text (min (count_of a.id rows + 1) 255))) _
count_agrees a (v ∷ vs) rows = values_agree a (v ∷ vs)

action_agrees : (x : ArgAction) (again : Bool) (a : Rule) (values : List Text) (rows : List Row)
    → is_none (action_fault x again a values rows) ≡ action_passes x again a values rows
action_agrees Set again a values rows = set_agrees again a values rows
action_agrees SetTrue again a values rows = set_agrees again a values rows
action_agrees SetFalse again a values rows = set_agrees again a values rows
action_agrees Append again a values rows = values_agree a values
action_agrees Count again a values rows = count_agrees a values rows
action_agrees Help again a values rows = refl
action_agrees HelpShort again a values rows = refl
action_agrees HelpLong again a values rows = refl
action_agrees Version again a values rows = refl

use_agrees : (again : Bool) (a : Rule) (values : List Text) (rows : List Row) → is_none (use_fault again a values rows) ≡ use_passes again a values rows
use_agrees again a values rows =
    let least = (unwrap_or_range a.range).start_inclusive in
    let given = values_or_missing a values in
    else_agrees (range_kinds least (most_values a) (length values)) (action_fault (action_of a) again a given rows) _ _
    (range_agrees least (most_values a) (length values)) (action_agrees (action_of a) again a given rows)
    ∙ and_assoc (nat_le least (length values)) (nat_le (length values) (most_values a)) (action_passes (action_of a) again a given rows)

-- ---- the walk

module _ (c : List Rule) (again : Bool) where
  settle_agrees : (h : Held) → is_none (settle_fault c again h) ≡ settle_passes c again h
  settle_agrees h =
      option_agrees h.pending (λ p. option_map_or (λ a. use_fault again a p.1 h.rows) (arg_by_id c p.0) [])
      (λ p. option_map_or (λ a. use_passes again a p.1 h.rows) (arg_by_id c p.0) true) [] true
      (λ p. option_agrees (arg_by_id c p.0) (λ a. use_fault again a p.1 h.rows) (λ a. use_passes again a p.1 h.rows) [] true (λ a. use_agrees again a p.1 h.rows) refl)
      refl

  react_agrees : (a : Rule) (values : List Text) (h : Held) → is_none (react_fault c again a values h) ≡ react_passes c again a values h
  react_agrees a values h =
      else_agrees (settle_fault c again h) (use_fault again a values (settled c h).rows) _ _ (settle_agrees h) (use_agrees again a values (settled c h).rows)

  value_agrees : (a : Rule) (v : Option Text) (h : Held) → is_none (option_fault c again a v h) ≡ option_passes c again a v h
  value_agrees a None h = settle_agrees h
  value_agrees a (Some v) h = react_agrees a (v ∷ []) h

  flag_agrees : (a : Rule) (v : Option Text) (h : Held) (k : ErrorKind)
      → is_none (cond (is_some v) (k ∷ []) (react_fault c again a [] h)) ≡ (not (is_some v) && react_passes c again a [] h)
  flag_agrees a None h k = react_agrees a [] h
  flag_agrees a (Some v) h k = refl

  long_agrees : (o : Option Rule) (v : Option Text) (h : Held) → is_none (long_fault c again o v h) ≡ long_passes c again o v h
  long_agrees None v h = refl
  long_agrees (Some a) v h = cond_agrees (takes_values a) _ _ _ _ (value_agrees a v h) (flag_agrees a v h _)

  short_agrees : (o : Option Rule) (rest : Text) (h : Held) (fault : Held → Kinds) (passes : Held → Bool) → ((k : Held) → is_none (fault k) ≡ passes k)
      → is_none (short_fault c again o rest h fault) ≡ short_passes c again o rest h passes
  short_agrees None rest h fault passes each = refl
  short_agrees (Some a) rest h fault passes each =
      cond_agrees (takes_values a) _ _ _ _ (value_agrees a (attached_value rest) h)
      (else_agrees (react_fault c again a [] h) (fault (reacted c a [] h)) _ _ (react_agrees a [] h) (each (reacted c a [] h)))

  letter_agrees : (o : Option ℕ) (flags : Text) (skip : ℕ) (h : Held) (fault : Text → ℕ → Held → Kinds) (passes : Text → ℕ → Held → Bool)
      → ((t : Text) (n : ℕ) (k : Held) → is_none (fault t n k) ≡ passes t n k)
      → is_none (bundle_step_fault c again o flags skip h fault) ≡ bundle_step_passes c again o flags skip h passes
  letter_agrees None flags skip h fault passes each = refl
  letter_agrees (Some x) flags zero h fault passes each =
      let rest = drop (length (encode_utf8 x)) flags in
      short_agrees (arg_by_short c x) rest h (fault rest 0) (passes rest 0) (each rest 0)
  letter_agrees (Some x) flags (suc skip) h fault passes each = each (drop (length (encode_utf8 x)) flags) skip h

  flags_agree : (k : ℕ) (flags : Text) (skip : ℕ) (h : Held) → is_none (flags_fault c again k flags skip h) ≡ flags_pass c again k flags skip h
  unfolding flags_fault flags_pass
  flags_agree zero flags skip h = refl
  flags_agree (suc k) flags skip h =
      letter_agrees (slice_get (chars flags) 0) flags skip h (flags_fault c again k) (flags_pass c again k) (flags_agree k)

  flag_word_agrees : (o : Option (Text × Option Text)) (word : Text) (h : Held) → is_none (flag_word_fault c again o word h) ≡ flag_word_passes c again o word h
  flag_word_agrees (Some p) word h = long_agrees (arg_by_long c p.0) p.1 h
  flag_word_agrees None word h =
      option_agrees (short_of word) (λ flags. bundle_fault c again flags h) (λ flags. bundle_passes c again flags h) [] true
      (λ flags. flags_agree (length flags) flags h.skip (record h { skip = 0 })) refl

module _ (s : Shape) where
  help_agrees : (b d : Bool) (k : ErrorKind) (ks : Kinds) → is_none (cond (b && not d) (k ∷ ks) []) ≡ (not b || d)
  help_agrees true true k ks = refl
  help_agrees true false k ks = refl
  help_agrees false d k ks = refl

  other_agrees : (met : Option Text) (word : Text) (h : Held) → is_none (other_fault s met word h) ≡ other_passes s met word h
  other_agrees (Some name) word h = help_agrees (bytes_eq name (codes "help")) s.disable_help_subcommand _ _
  other_agrees None word h =
      or_agrees (bytes_eq word (45 ∷ 45 ∷ [])) (flag_word_fault s.rules s.args_override_self (long_of word) word h) _
      (flag_word_agrees s.rules s.args_override_self (long_of word) word h)

  word_agrees : (names : Names) (is_trailing : Bool) (waiting : Waiting) (word : Text) (h : Held)
      → is_none (word_fault s names is_trailing waiting word h) ≡ word_passes s names is_trailing waiting word h
  word_agrees names is_trailing waiting word h =
      or_agrees is_trailing (other_fault s (subcommand_met names waiting word) word h) _ (other_agrees (subcommand_met names waiting word) word h)

  positional_agrees : (a : Rule) (h : Held) → is_none (positional_fault s.rules s.args_override_self a h) ≡ positional_passes s.rules s.args_override_self a h
  positional_agrees a h =
      or_agrees (is_pending a h.pending && takes_several a) (settle_fault s.rules s.args_override_self h) _ (settle_agrees s.rules s.args_override_self h)

  stray_agrees : (b : Bool) (k : ErrorKind) (x y : Kinds) → is_none (cond b (k ∷ x) (k ∷ y)) ≡ false
  stray_agrees true k x y = refl
  stray_agrees false k x y = refl

  step_agrees : (position : ℕ) (h : Held) (step : Step) → is_none (step_fault s position h step) ≡ step_passes s position h step
  step_agrees position h (next waiting) = refl
  step_agrees position h (trailing place) = refl
  step_agrees position h (subcommand name) = refl
  step_agrees position h value =
      option_agrees (arg_by_index s.rules position) (λ a. positional_fault s.rules s.args_override_self a h) (λ a. positional_passes s.rules s.args_override_self a h)
      (stray_fault s) false (λ a. positional_agrees a h) (stray_agrees s.is_leaf _ _ _)

  turn_agrees : (names : Names) (w : Walk) (word : Text) → is_none (turn_fault s names w word) ≡ turn_passes s names w word
  turn_agrees names w word =
      let met = word_met s.rules names w.is_trailing w.waiting w.position word w.held in
      or_agrees (is_some w.stopped) _ _
      (else_agrees (word_fault s names w.is_trailing w.waiting word w.held) (step_fault s w.position met.0 met.1) _ _
      (word_agrees names w.is_trailing w.waiting word w.held) (step_agrees w.position met.0 met.1))

  walk_agrees : (names : Names) (words : List Text) (w : Walk) → is_none (walk_fault s names w words) ≡ walk_passes s names w words
  unfolding walk_fault walk_passes
  walk_agrees names [] w = refl
  walk_agrees names (word ∷ rest) w =
      else_agrees (turn_fault s names w word) (walk_fault s names (walked s.rules names w word) rest) _ _ (turn_agrees names w word)
      (walk_agrees names rest (walked s.rules names w word))

-- ---- after the walk

request_agrees : (x : ArgAction) → is_none (request_kinds x) ≡ not (is_request x)
request_agrees Set = refl
request_agrees SetTrue = refl
request_agrees SetFalse = refl
request_agrees Append = refl
request_agrees Count = refl
request_agrees Help = refl
request_agrees HelpShort = refl
request_agrees HelpLong = refl
request_agrees Version = refl

default_agrees : (rows : List Row) (a : Rule) → default_passes a ≡ true → is_none (default_fault rows a) ≡ true
default_agrees rows a passes = go (has_row a.id rows) (is_empty a.defaults) passes
  where
    go : (has empty : Bool) → (empty || (not (is_request (action_of a)) && values_pass a a.defaults)) ≡ true
        → is_none (cond (has || empty) [] (or_else (request_kinds (action_of a)) (values_fault a a.defaults))) ≡ true
    go true empty e = refl
    go false true e = refl
    go false false e = else_agrees (request_kinds (action_of a)) (values_fault a a.defaults) _ _ (request_agrees (action_of a)) (values_agree a a.defaults) ∙ e

defaults_agree : (rules : List Rule) (rows : List Row) → list_all default_passes rules ≡ true → is_none (defaults_fault rows rules) ≡ true
unfolding defaults_fault
defaults_agree [] rows passes = refl
defaults_agree (a ∷ rest) rows passes =
    let parts = both (default_passes a) _ passes in
    else_agrees (default_fault rows a) (defaults_fault (with_default rows a) rest) true true (default_agrees rows a parts.0)
    (defaults_agree rest (with_default rows a) parts.1)

checks_agree : (x y z : Bool) → is_none (check_kinds x y z) ≡ (not x && (not y && not z))
checks_agree true y z = refl
checks_agree false true z = refl
checks_agree false false true = refl
checks_agree false false false = refl

nothing_given : (has wants any : Bool) → not (not has && (wants && not any)) ≡ (not wants || (has || any))
nothing_given true true any = refl
nothing_given true false any = refl
nothing_given false true true = refl
nothing_given false true false = refl
nothing_given false false any = refl

no_subcommand : (has wants : Bool) → not (not has && wants) ≡ (not wants || has)
no_subcommand true true = refl
no_subcommand true false = refl
no_subcommand false true = refl
no_subcommand false false = refl

not_and : (x y : Bool) → not (not x && y) ≡ (x || not y)
not_and true y = refl
not_and false y = refl

none_missing : (rows : List Row) (rules : List Rule)
    → not (list_any (λ a. a.required && not (is_given a.id rows)) rules) ≡ list_all (λ a. not a.required || is_given a.id rows) rules
none_missing rows [] = refl
none_missing rows (a ∷ rest) = go a.required (is_given a.id rows) _ _ (none_missing rows rest)
  where
    go : (needed given x y : Bool) → not x ≡ y → not ((needed && not given) || x) ≡ ((not needed || given) && y)
    go true true x y e = e
    go true false x y e = refl
    go false given x y e = e

valid_agrees : (s : Shape) (rows : List Row) (has : Bool) → list_all (λ a. a.is_free) s.rules ≡ true → is_none (check_fault s rows has) ≡ is_valid s rows has
valid_agrees s rows has free =
    let any = list_any (λ (r : Row). explicit_source r.source) rows in
    let missing = list_any (λ (a : Rule). a.required && not (is_given a.id rows)) s.rules in
    let help = nothing_given has s.arg_required_else_help any in
    let sub = no_subcommand has s.subcommand_required in
    let args = not_and (s.subcommand_negates_reqs && has) missing ∙ ap (λ (b : Bool). (s.subcommand_negates_reqs && has) || b) (none_missing rows s.rules) in
    let last : not (not (s.subcommand_negates_reqs && has) && missing) ≡ (list_all (λ (a : Rule). a.is_free) s.rules
    && ((s.subcommand_negates_reqs && has) || list_all (λ (a : Rule). not a.required || is_given a.id rows) s.rules))
    = args ∙ ap (λ (b : Bool). b && ((s.subcommand_negates_reqs && has) || list_all (λ (a : Rule). not a.required || is_given a.id rows) s.rules)) (sym free) in
    checks_agree (not has && (s.arg_required_else_help && not any)) (not has && s.subcommand_required) (not (s.subcommand_negates_reqs && has) && missing)
    ∙ ap₂ (λ (a b : Bool). a && b) help (ap₂ (λ (a b : Bool). a && b) sub last)

-- ---- a level, and the whole command

-- no argument has a rule on another, and each default passes
abbrev pub is_sound : Shape → Bool
is_sound s = list_all default_passes s.rules && list_all (λ a. a.is_free) s.rules

swap : (w b x : Bool) → (w && (b && x)) ≡ (b && (w && x))
swap true b x = refl
swap false true x = refl
swap false false x = refl

level_agrees : (s : Shape) (names : Names) (h : Held) (words : List Text) (has : Bool) (below : Kinds) (under : Bool) → is_sound s ≡ true → is_none below ≡ under
    → is_none (level_fault s names h words has below) ≡ (under && level_passes s names h words has)
level_agrees s names h words has below under sound e =
    let end = (walk s.rules names h words).held in
    let parts = both (list_all default_passes s.rules) _ sound in
    let defaults = defaults_agree s.rules (settled s.rules end).rows parts.0 ∙ sym parts.0 in
    else_agrees (walk_fault s names (walk_from h) words) _ _ _ (walk_agrees s names words (walk_from h))
    (else_agrees below _ _ _ e
    (else_agrees (settle_fault s.rules s.args_override_self end) _ _ _ (settle_agrees s.rules s.args_override_self end)
    (else_agrees (defaults_fault (settled s.rules end).rows s.rules) (check_fault s (finished s.rules end) has) _ _ defaults (valid_agrees s (finished s.rules end) has parts.1))))
    ∙ swap (walk_passes s names (walk_from h) words) under _

found_agrees : (subs : List Shape) (name : Text) (words : List Text) → list_all is_sound subs ≡ true
    → is_none (option_map_or (λ (s : Shape). level_fault s [] nothing_held words false []) (find (λ s. answers_to name (label_of s)) subs) [])
    ≡ option_map_or (λ (s : Shape). level_passes s [] nothing_held words false) (find (λ s. answers_to name (label_of s)) subs) true
found_agrees [] name words sound = refl
found_agrees (s ∷ rest) name words sound = go (answers_to name (label_of s)) (find (λ x. answers_to name (label_of x)) rest) (found_agrees rest name words parts.1)
  where
    parts : (is_sound s ≡ true) × (list_all is_sound rest ≡ true)
    parts = both (is_sound s) _ sound

    go : (b : Bool) (later : Option Shape)
        → is_none (option_map_or (λ (x : Shape). level_fault x [] nothing_held words false []) later [])
        ≡ option_map_or (λ (x : Shape). level_passes x [] nothing_held words false) later true
        → is_none (option_map_or (λ (x : Shape). level_fault x [] nothing_held words false []) (cond b (Some s) later) [])
        ≡ option_map_or (λ (x : Shape). level_passes x [] nothing_held words false) (cond b (Some s) later) true
    go true later e = level_agrees s [] nothing_held words false [] true parts.0 refl
    go false later e = e

entered_agrees : (a : App) (stop : Option (Text × List Text)) → list_all is_sound a.subs ≡ true → is_none (entered_fault a stop) ≡ entered_passes a stop
entered_agrees a None sound = refl
entered_agrees a (Some p) sound = found_agrees a.subs p.0 p.1 sound

-- no fault exactly where clap takes the words
pub fault_agrees : (a : App) (words : List Text) → is_simple a ≡ true → is_sound (built a).top ≡ true → list_all is_sound (built a).subs ≡ true
    → is_none (fault_of a words) ≡ takes a words
fault_agrees a words simple top subs =
    let b = built a in
    let stop = (walk b.top.rules (names_of b) nothing_held (argument_words a words)).stopped in
    level_agrees b.top (names_of b) nothing_held (argument_words a words) (is_some (entered b stop)) (entered_fault b stop) _ top (entered_agrees b stop subs)
    ∙ ap (λ (x : Bool). x && built_takes b nothing_held (argument_words a words)) (sym simple)
