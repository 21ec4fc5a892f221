-- Where clap takes the words of a subcommand all whose arguments want a value, each argument that has to be there has a value.
use Rattle.std.proofs.Common.{◌≡◌, ◌&&◌, ◌||◌, ℕ, Bool, cond, true, false, not, zero, suc, refl, sym, arith, List, [], ◌∷◌, ◌++◌, length, drop, Option, Some, None, is_some, true≢false, nat_le}
use Rattle.std.proofs.lemmas.Bool.{leb-true}
use Rattle.std.specs.Prelude.{encode_utf8, option_and_then, slice_get}
use Rattle.std.specs.List.{find, fold, list_all}
use Rattle.std.specs.Option.{option_map_or}
use Rattle.std.specs.Str.{bytes_eq, chars}
use Rattle.clap.specs.Lexer.{long_of, short_of}
use Rattle.clap.specs.Facts.{explicit_source, unwrap_or_range}
use Rattle.clap.specs.Matches.{count_text}
use Rattle.clap.specs.Walk.{Held, Names, Outcome, Row, Rule, Step, Text, Waiting, Walk, action_of, after_flag, after_step, arg_by_id, arg_by_index, arg_by_long, arg_by_short, at_row, attached_value, bundle, bundle_met, bundle_step, default_rows, done, finished, first_of, flag_met, has_row, idle, is_pending, long_met, long_or_other, more_values, new_count, next, nothing_held, option, option_met, option_word, plain, plain_word, positional, pushed, reacted, reading_by, refused, rows_after, settled, settled_rows, short_met, short_or_plain, subcommand, subcommand_met, subcommand_or_other, takes_several, takes_values, to_positional, trailing, used, used_as, used_by_id, value, values_or_missing, waits, walk, walk_from, walked, walked_from, with_count, with_default, with_values, without, word_met}
use Rattle.clap.specs.Simple.{Shape}
use Rattle.clap.specs.Takes.{bundle_passes, bundle_step_passes, flag_word_passes, flags_pass, is_given, is_valid, level_passes, long_passes, option_passes, other_passes, positional_passes, react_passes, settle_passes, short_passes, step_passes, turn_passes, use_passes, walk_passes, word_passes}
use Rattle.clap.specs.declared.builder.ArgAction.{ArgAction}
use Rattle.clap.specs.declared.builder.ArgAction.TheVariants.{Set, Append, SetTrue, SetFalse, Count}
use Rattle.clap.specs.declared.parser.matches.ValueSource.{ValueSource}
use Rattle.clap.specs.declared.builder.value_parser.Reading.{Reading}
use Rattle.clap.proofs.WalkLemmas.{both}

-- ---- rows that have values

abbrev HasValue : List Text → Type 0
HasValue [] = ⊥
HasValue (v ∷ vs) = Unit {0}

abbrev Filled : List Row → Type 0
Filled [] = Unit {0}
Filled (r ∷ rs) = HasValue r.values × Filled rs

append_value : (xs ys : List Text) → HasValue xs → HasValue (xs ++ ys)
append_value [] ys h = absurd h
append_value (x ∷ xs) ys h = tt

last_value : (xs : List Text) (y : Text) → HasValue (xs ++ y ∷ [])
last_value [] y = tt
last_value (x ∷ xs) y = tt

append_filled : (xs ys : List Row) → Filled xs → Filled ys → Filled (xs ++ ys)
append_filled [] ys f g = g
append_filled (x ∷ xs) ys f g = (f.0, append_filled xs ys f.1 g)

at_filled : (id : Text) (change : Row → List Row) (missing rows : List Row) → ((r : Row) → HasValue r.values → Filled (change r)) → Filled missing → Filled rows
    → Filled (at_row id change missing rows)
at_filled id change missing [] changes m f = m
at_filled id change missing (r ∷ rs) changes m f = go (bytes_eq r.id id) (at_filled id change missing rs changes m f.1)
  where
    go : (b : Bool) → Filled (at_row id change missing rs) → Filled (cond b (change r ++ rs) (r ∷ at_row id change missing rs))
    go true rest = append_filled (change r) rs (changes r f.0) f.1
    go false rest = (f.0, rest)

without_filled : (id : Text) (rows : List Row) → Filled rows → Filled (without id rows)
without_filled id rows f = at_filled id (λ _. []) [] rows (λ r h. tt) tt f

values_filled : (id : Text) (how : Reading) (s : ValueSource) (v : Text) (vs : List Text) (rows : List Row) → Filled rows → Filled (with_values id how s (v ∷ vs) rows)
values_filled id how s v vs rows f = at_filled id (more_values s (v ∷ vs)) _ rows (λ r h. (append_value r.values (v ∷ vs) h, tt)) (tt, tt) f

count_filled : (id : Text) (how : Reading) (s : ValueSource) (n : ℕ) (rows : List Row) → Filled rows → Filled (with_count id how s n rows)
count_filled id how s n rows f = at_filled id (new_count s n) _ rows (λ r h. (last_value r.values (count_text n), tt)) (tt, tt) f

-- ---- one use of an argument

used_as_filled : (x : ArgAction) (id : Text) (how : Reading) (values : List Text) (rows : List Row) → HasValue values → Filled rows → Filled (used_as x id how values rows)
used_as_filled x id how [] rows h f = absurd h
used_as_filled Set id how (v ∷ vs) rows h f = values_filled id how _ v vs (without id rows) (without_filled id rows f)
used_as_filled SetTrue id how (v ∷ vs) rows h f = values_filled id how _ v vs (without id rows) (without_filled id rows f)
used_as_filled SetFalse id how (v ∷ vs) rows h f = values_filled id how _ v vs (without id rows) (without_filled id rows f)
used_as_filled Append id how (v ∷ vs) rows h f = values_filled id how _ v vs rows f
used_as_filled Count id how (v ∷ vs) rows h f = values_filled id how _ v vs (without id rows) (without_filled id rows f)
used_as_filled _ id how (v ∷ vs) rows h f = f

-- each use of the argument has a value
abbrev pub wants_value : Rule → Bool
wants_value a = nat_le 1 (unwrap_or_range a.range).start_inclusive

abbrev pub want_values : List Rule → Bool
want_values = list_all wants_value

abbrev WantsValue : Rule → Type 0
WantsValue a = wants_value a ≡ true

abbrev WantValues : List Rule → Type 0
WantValues c = want_values c ≡ true

abbrev IsWanting : Option Rule → Type 0
IsWanting None = Unit {0}
IsWanting (Some a) = WantsValue a

found_wants : (p : Rule → Bool) (c : List Rule) → WantValues c → IsWanting (find p c)
found_wants p [] w = tt
found_wants p (a ∷ rest) w = go (p a) (found_wants p rest (both (wants_value a) _ w).1)
  where
    go : (b : Bool) → IsWanting (find p rest) → IsWanting (cond b (Some a) (find p rest))
    go true later = (both (wants_value a) _ w).0
    go false later = later

enough_values : (a : Rule) (least : ℕ) (values : List Text) → nat_le 1 least ≡ true → nat_le least (length values) ≡ true → HasValue (values_or_missing a values)
enough_values a least [] wants there = absurd (omega (arith, leb-true 1 least wants, leb-true least 0 there))
enough_values a least (v ∷ vs) wants there = tt

used_filled : (again : Bool) (a : Rule) (values : List Text) (rows : List Row) → WantsValue a → use_passes again a values rows ≡ true → Filled rows → Filled (used a values rows)
used_filled again a values rows wants passes f =
    let there = both (nat_le (unwrap_or_range a.range).start_inclusive (length values)) _ passes in
    used_as_filled (action_of a) a.id (reading_by a) (values_or_missing a values) rows
    (enough_values a (unwrap_or_range a.range).start_inclusive values wants there.0) f

-- ---- the walk

module _ (c : List Rule) (again : Bool) (wants : WantValues c) where
  settled_filled : (pending : Option (Text × List Text)) (rows : List Row)
      → option_map_or (λ (p : Text × List Text). option_map_or (λ (a : Rule). use_passes again a p.1 rows) (arg_by_id c p.0) true) pending true ≡ true → Filled rows
      → Filled (settled_rows c pending rows)
  settled_filled None rows passes f = f
  settled_filled (Some p) rows passes f = go (arg_by_id c p.0) (found_wants _ c wants) passes
    where
      go : (o : Option Rule) → IsWanting o → option_map_or (λ (a : Rule). use_passes again a p.1 rows) o true ≡ true → Filled (used_by_id o p.1 rows)
      go None w e = f
      go (Some a) w e = used_filled again a p.1 rows w e f

  reacted_filled : (a : Rule) (values : List Text) (h : Held) → WantsValue a → react_passes c again a values h ≡ true → Filled h.rows → Filled (reacted c a values h).rows
  reacted_filled a values h w passes f =
      let parts = both (settle_passes c again h) _ passes in
      used_filled again a values (settled c h).rows w parts.1 (settled_filled h.pending h.rows parts.0 f)

  option_filled : (a : Rule) (v : Option Text) (h : Held) → WantsValue a → option_passes c again a v h ≡ true → Filled h.rows → Filled (option_met c a v h).0.rows
  option_filled a None h w passes f = settled_filled h.pending h.rows passes f
  option_filled a (Some v) h w passes f = reacted_filled a (v ∷ []) h w passes f

  flag_filled : (a : Rule) (v : Option Text) (h : Held) → WantsValue a → (not (is_some v) && react_passes c again a [] h) ≡ true → Filled h.rows
      → Filled (flag_met c a v h).0.rows
  flag_filled a None h w passes f = reacted_filled a [] h w passes f
  flag_filled a (Some v) h w passes f = f

  long_filled : (o : Option Rule) (v : Option Text) (h : Held) → IsWanting o → long_passes c again o v h ≡ true → Filled h.rows → Filled (long_met c o v h).0.rows
  long_filled None v h w passes f = f
  long_filled (Some a) v h w passes f = go (takes_values a) passes
    where
      go : (b : Bool) → cond b (option_passes c again a v h) (not (is_some v) && react_passes c again a [] h) ≡ true
          → Filled (cond b (option_met c a v h) (flag_met c a v h)).0.rows
      go true e = option_filled a v h w e f
      go false e = flag_filled a v h w e f

  short_filled : (o : Option Rule) (rest : Text) (h : Held) (on : Held → Held × Outcome) (passes : Held → Bool) → IsWanting o
      → ((k : Held) → passes k ≡ true → Filled k.rows → Filled (on k).0.rows) → short_passes c again o rest h passes ≡ true → Filled h.rows
      → Filled (short_met c o rest h on).0.rows
  short_filled None rest h on passes w more e f = f
  short_filled (Some a) rest h on passes w more e f = go (takes_values a) e
    where
      go : (b : Bool) → cond b (option_passes c again a (attached_value rest) h) (react_passes c again a [] h && passes (reacted c a [] h)) ≡ true
          → Filled (cond b (option_met c a (attached_value rest) h) (on (reacted c a [] h))).0.rows
      go true t = option_filled a (attached_value rest) h w t f
      go false t =
          let parts = both (react_passes c again a [] h) _ t in
          more (reacted c a [] h) parts.1 (reacted_filled a [] h w parts.0 f)

  step_filled : (o : Option ℕ) (flags : Text) (skip : ℕ) (so_far : Outcome) (h : Held) (on : Text → ℕ → Outcome → Held → Held × Outcome) (passes : Text → ℕ → Held → Bool)
      → ((t : Text) (n : ℕ) (x : Outcome) (k : Held) → passes t n k ≡ true → Filled k.rows → Filled (on t n x k).0.rows)
      → bundle_step_passes c again o flags skip h passes ≡ true → Filled h.rows → Filled (bundle_step c o flags skip so_far h on).0.rows
  step_filled None flags skip so_far h on passes more e f = f
  step_filled (Some x) flags zero so_far h on passes more e f =
      let rest = drop (length (encode_utf8 x)) flags in
      short_filled (arg_by_short c x) rest h (on rest 0 done) (passes rest 0) (found_wants _ c wants) (more rest 0 done) e f
  step_filled (Some x) flags (suc skip) so_far h on passes more e f = more (drop (length (encode_utf8 x)) flags) skip so_far h e f

  bundle_filled : (k : ℕ) (flags : Text) (skip : ℕ) (so_far : Outcome) (h : Held) → flags_pass c again k flags skip h ≡ true → Filled h.rows
      → Filled (bundle_met c k flags skip so_far h).0.rows
  unfolding flags_pass bundle_met
  bundle_filled zero flags skip so_far h e f = f
  bundle_filled (suc k) flags skip so_far h e f =
      step_filled (slice_get (chars flags) 0) flags skip so_far h (bundle_met c k) (flags_pass c again k) (bundle_filled k) e f

  plain_filled : (waiting : Waiting) (word : Text) (h : Held) → Filled h.rows → Filled (plain_word c waiting word h).0.rows
  plain_filled idle word h f = f
  plain_filled positional word h f = f
  plain_filled (option id) word h f = go (arg_by_id c id)
    where
      go : (o : Option Rule) → Filled (option_word o id word h).0.rows
      go None = f
      go (Some a) = f

  flag_after : (waiting : Waiting) (word : Text) (h : Held) (o : Outcome) → Filled h.rows → Filled (after_flag c waiting word h o).0.rows
  flag_after waiting word h done f = f
  flag_after waiting word h (waits id) f = f
  flag_after waiting word h plain f = plain_filled waiting word h f
  flag_after waiting word h refused f = plain_filled waiting word h f

  flag_word_filled : (waiting : Waiting) (word : Text) (o : Option (Text × Option Text)) (h : Held) → flag_word_passes c again o word h ≡ true → Filled h.rows
      → Filled (long_or_other c waiting word o h).0.rows
  flag_word_filled waiting word (Some p) h e f =
      let met = long_met c (arg_by_long c p.0) p.1 h in
      flag_after waiting word met.0 met.1 (long_filled (arg_by_long c p.0) p.1 h (found_wants _ c wants) e f)
  flag_word_filled waiting word None h e f = go (short_of word) e
    where
      go : (o : Option Text) → option_map_or (λ (flags : Text). bundle_passes c again flags h) o true ≡ true → Filled (short_or_plain c waiting word o h).0.rows
      go None t = plain_filled waiting word h f
      go (Some flags) t =
          flag_after waiting word (bundle c flags h).0 (bundle c flags h).1 (bundle_filled (length flags) flags h.skip plain (record h { skip = 0 }) t f)

module _ (s : Shape) (wants : WantValues s.rules) where
  other_filled : (met : Option Text) (waiting : Waiting) (position : ℕ) (word : Text) (h : Held) → other_passes s met word h ≡ true → Filled h.rows
      → Filled (subcommand_or_other s.rules met waiting position word h).0.rows
  other_filled (Some name) waiting position word h e f = f
  other_filled None waiting position word h e f = go (bytes_eq word (45 ∷ 45 ∷ [])) e
    where
      go : (b : Bool) → (b || flag_word_passes s.rules s.args_override_self (long_of word) word h) ≡ true
          → Filled (cond b (h, trailing position) (long_or_other s.rules waiting word (long_of word) h)).0.rows
      go true t = f
      go false t = flag_word_filled s.rules s.args_override_self wants waiting word (long_of word) h t f

  word_filled : (names : Names) (is_trailing : Bool) (waiting : Waiting) (position : ℕ) (word : Text) (h : Held) → word_passes s names is_trailing waiting word h ≡ true
      → Filled h.rows → Filled (word_met s.rules names is_trailing waiting position word h).0.rows
  word_filled names true waiting position word h e f = f
  word_filled names false waiting position word h e f = other_filled (subcommand_met names waiting word) waiting position word h e f

  positional_filled : (o : Option Rule) (word : Text) (w : Walk) (h : Held) → option_map_or (λ (a : Rule). positional_passes s.rules s.args_override_self a h) o false ≡ true
      → Filled h.rows → Filled (to_positional s.rules o word w h).held.rows
  positional_filled None word w h e f = f
  positional_filled (Some a) word w h e f = go (is_pending a h.pending && takes_several a) e
    where
      go : (b : Bool) → (b || settle_passes s.rules s.args_override_self h) ≡ true → Filled (pushed a.id word (cond b h (settled s.rules h))).rows
      go true t = f
      go false t = settled_filled s.rules s.args_override_self wants h.pending h.rows t f

  after_filled : (word : Text) (w : Walk) (h : Held) (step : Step) → step_passes s w.position h step ≡ true → Filled h.rows
      → Filled (after_step s.rules word w h step).held.rows
  after_filled word w h (next waiting) e f = f
  after_filled word w h (trailing position) e f = f
  after_filled word w h (subcommand name) e f = f
  after_filled word w h value e f = positional_filled (arg_by_index s.rules w.position) word w h e f

  turn_filled : (names : Names) (w : Walk) (word : Text) → turn_passes s names w word ≡ true → Filled w.held.rows → Filled (walked s.rules names w word).held.rows
  unfolding walked
  turn_filled names w word e f = go w.stopped e
    where
      go : (o : Option (Text × List Text))
          → (is_some o || (word_passes s names w.is_trailing w.waiting word w.held
          && step_passes s w.position (word_met s.rules names w.is_trailing w.waiting w.position word w.held).0
          (word_met s.rules names w.is_trailing w.waiting w.position word w.held).1)) ≡ true
          → Filled (walked_from s.rules names o w word).held.rows
      go (Some p) t = f
      go None t =
          let met = word_met s.rules names w.is_trailing w.waiting w.position word w.held in
          let parts = both (word_passes s names w.is_trailing w.waiting word w.held) _ t in
          after_filled word w met.0 met.1 parts.1 (word_filled names w.is_trailing w.waiting w.position word w.held parts.0 f)

  walk_filled : (names : Names) (words : List Text) (w : Walk) → walk_passes s names w words ≡ true → Filled w.held.rows
      → Filled (fold (walked s.rules names) w words).held.rows
  unfolding walk_passes
  walk_filled names [] w e f = f
  walk_filled names (word ∷ rest) w e f =
      let parts = both (turn_passes s names w word) _ e in
      walk_filled names rest (walked s.rules names w word) parts.1 (turn_filled names w word parts.0 f)

-- ---- after the walk

default_filled : (rows : List Row) (a : Rule) → Filled rows → Filled (with_default rows a)
default_filled rows a f = go (has_row a.id rows) a.defaults
  where
    go : (b : Bool) (values : List Text) → Filled (cond b rows (default_rows a.id (reading_by a) values rows))
    go true values = f
    go false [] = f
    go false (v ∷ vs) = values_filled a.id (reading_by a) _ v vs rows f

defaults_filled : (rules : List Rule) (rows : List Row) → Filled rows → Filled (fold with_default rows rules)
defaults_filled [] rows f = f
defaults_filled (a ∷ rest) rows f = defaults_filled rest (with_default rows a) (default_filled rows a f)

-- the value is there
abbrev pub Has : Option Text → Type 0
Has o = (v : Text) × (o ≡ Some v)

given_has : (id : Text) (rows : List Row) → Filled rows → is_given id rows ≡ true → Has (first_of id rows)
given_has id [] f e = absurd (true≢false (sym e))
given_has id (r ∷ rs) f e = go (bytes_eq r.id id) e (given_has id rs f.1)
  where
    here : (values : List Text) → HasValue values → Has (slice_get values 0)
    here [] h = absurd h
    here (v ∷ vs) h = (v, refl)

    go : (b : Bool) → option_map_or (λ (x : Row). explicit_source x.source) (cond b (Some r) (find (λ (x : Row). bytes_eq x.id id) rs)) false ≡ true
        → (is_given id rs ≡ true → Has (first_of id rs)) → Has (option_and_then (λ (x : Row). slice_get x.values 0) (cond b (Some r) (find (λ (x : Row). bytes_eq x.id id) rs)))
    go true t later = here r.values f.0
    go false t later = later t

-- each argument that has to be there has a value
abbrev pub HasNeeded : List Row → List Rule → Type 0
HasNeeded rows [] = Unit {0}
HasNeeded rows (a ∷ rest) = (a.required ≡ true → Has (first_of a.id rows)) × HasNeeded rows rest

given_needed : (rows : List Row) (rules : List Rule) → Filled rows → list_all (λ a. not a.required || is_given a.id rows) rules ≡ true → HasNeeded rows rules
given_needed rows [] f e = tt
given_needed rows (a ∷ rest) f e =
    let parts = both (not a.required || is_given a.id rows) _ e in
    (go a.required parts.0, given_needed rows rest f parts.1)
  where
    go : (b : Bool) → (not b || is_given a.id rows) ≡ true → b ≡ true → Has (first_of a.id rows)
    go true t is = given_has a.id rows f t
    go false t is = absurd (true≢false (sym is))

-- clap takes the words of the subcommand, so it has what it needs
pub taken_has_needed : (s : Shape) (words : List Text) → want_values s.rules ≡ true → s.subcommand_negates_reqs ≡ false → level_passes s [] nothing_held words false ≡ true
    → HasNeeded (rows_after s.rules [] words) s.rules
taken_has_needed s words wants no_negates passes =
    let end = (walk s.rules [] nothing_held words).held in
    let walks = both (walk_passes s [] (walk_from nothing_held) words) _ passes in
    let settles = both (settle_passes s.rules s.args_override_self end) _ walks.1 in
    let valid = (both _ (is_valid s (finished s.rules end) false) settles.1).1 in
    let after = (both _ _ valid).1 in
    let free = (both _ _ after).1 in
    let needed = (both (list_all (λ a. a.is_free) s.rules) _ free).1 in
    let walk_end = walk_filled s wants [] words (walk_from nothing_held) walks.0 tt in
    let settled_end = settled_filled s.rules s.args_override_self wants end.pending end.rows settles.0 walk_end in
    let filled = defaults_filled s.rules (settled s.rules end).rows settled_end in
    given_needed (finished s.rules end) s.rules filled (needs s.subcommand_negates_reqs no_negates needed)
  where
    needs : (b : Bool) → b ≡ false → ((b && false) || list_all (λ a. not a.required || is_given a.id (finished s.rules (walk s.rules [] nothing_held words).held)) s.rules) ≡ true
        → list_all (λ a. not a.required || is_given a.id (finished s.rules (walk s.rules [] nothing_held words).held)) s.rules ≡ true
    needs false is e = e
    needs true is e = absurd (true≢false is)
