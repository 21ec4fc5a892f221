-- The machine reads whatever spells a schema as that schema, and so its canonical text.
use Rattle.std.proofs.Common.{inl, inr, Result, ◌≡◌, ℕ, suc, ◌+◌, ◌≤◌, ◌<◌, List, [], ◌∷◌, ◌++◌, length, true, false, not, refl, sym, ap, ◌∙◌, subst, Ok, None, Option, append_assoc, arith}
use Rattle.std.specs.Prelude.{◌||◌, codes, nat_lt, nat_le, bytes_eq, ◌&&◌}
use Rattle.std.specs.List.{list_any}
use Rattle.std.proofs.lemmas.Bool.{and_parts, or_parts, or_from, not-true, leb-true, le-ltb, lt-leb, false_from_ne_true, both_ways}
use Rattle.std.proofs.lemmas.Slice.Eq.{bytes_eq-Decides}
use Rattle.dr_meaning.specs.Schema.{Schema, Repetition, required, optional, repeated, Kind, bool_kind, int32_kind, int64_kind, text_kind, Fields, no_fields, field, Shape, leaf, group, is_nonempty, longest_name, greatest_depth, most_leaves, field_names, is_name, is_short_name, is_group, is_shape, is_schema, leaf_count, shape_leaf_count, depth, shape_depth}
use Rattle.dr_meaning.specs.SchemaText.{Token, name, open_brace, close_brace, semicolon, bare, tokens_of, Reading, SchemaProblem, name_problem, leaf_problem, repetition_word, kind_word, append_fields, Expected, next_field, after_group, kind_or_group, leaf_name, group_name, text_end, reading_start, parse_schema, longest_schema, field_tokens, shape_tokens, schema_tokens, schema_text, SpellsFields, SpellsShape, SpellsSchema, IsOptionalSemicolon}
use Rattle.dr_meaning.specs.SchemaTextLaws.{CanonicalReadsBack}
use Rattle.dr_meaning.proofs.SchemaMachine.{run-append, run, read_run}
use Rattle.dr_meaning.proofs.SchemaDeadEnds.{or_false, or_at, takes_from_close, takes_field, may_close, field_begins, group_closes, in_group, in_message}
use Rattle.dr_meaning.proofs.SchemaLexing.{IsPrinted, reads_text}

-- ---- the canonical tokens are printed

repetition_is_name : (r : Repetition) → is_name (repetition_word r) ≡ true
repetition_is_name required = refl
repetition_is_name optional = refl
repetition_is_name repeated = refl

kind_is_name : (k : Kind) → is_name (kind_word k) ≡ true
kind_is_name bool_kind = refl
kind_is_name int32_kind = refl
kind_is_name int64_kind = refl
kind_is_name text_kind = refl

pub name_of_short : (n : List ℕ) → is_short_name n ≡ true → is_name n ≡ true
name_of_short n h = (and_parts (is_name n) (nat_le (length n) longest_name) h).0

-- what a group's first field is
abbrev pub FirstField : List ℕ → Shape → Fields → Type 0
FirstField n s fs = (is_short_name n ≡ true) × (list_any (bytes_eq n) (field_names fs) ≡ false) × (is_shape s ≡ true) × (is_group fs ≡ true)

pub first_of_group : (n : List ℕ) (r : Repetition) (s : Shape) (fs : Fields) → is_group (field n r s fs) ≡ true → FirstField n s fs
first_of_group n r s fs h =
    let a = and_parts (is_short_name n && not (list_any (bytes_eq n) (field_names fs)) && is_shape s) (is_group fs) h in
    let b = and_parts (is_short_name n && not (list_any (bytes_eq n) (field_names fs))) (is_shape s) a.0 in
    let c = and_parts (is_short_name n) (not (list_any (bytes_eq n) (field_names fs))) b.0 in
    (c.0, not-true _ c.1, b.1, a.1)

mutual
  printed_fields : (fs : Fields) (rest : List Token) → is_group fs ≡ true → IsPrinted rest → IsPrinted (field_tokens fs ++ rest)
  printed_fields no_fields rest h k = k
  printed_fields (field n r s fs) rest h k =
      let p = first_of_group n r s fs h in
      (repetition_is_name r, subst IsPrinted (sym (append_assoc (shape_tokens s n) (field_tokens fs) rest)) (printed_shape s n (field_tokens fs ++ rest) p.0 p.2 (printed_fields fs rest p.3 k)))

  printed_shape : (s : Shape) (n : List ℕ) (rest : List Token) → is_short_name n ≡ true → is_shape s ≡ true → IsPrinted rest → IsPrinted (shape_tokens s n ++ rest)
  printed_shape (leaf k) n rest e h j = (kind_is_name k, (name_of_short n e, j))
  printed_shape (group fs) n rest e h j = (refl, (name_of_short n e, subst IsPrinted (sym (append_assoc (field_tokens fs) (close_brace ∷ []) rest)) (printed_fields fs (close_brace ∷ rest) (and_parts (is_nonempty fs) (is_group fs) h).1 j)))

-- ---- names that are new in their group

other_name : (gs fs : Fields) (m n : List ℕ) (r : Repetition) (s : Shape) → list_any (bytes_eq m) (field_names (append_fields gs (field n r s fs))) ≡ false → bytes_eq m n ≡ false
other_name no_fields fs m n r s h = (or_parts (bytes_eq m n) (list_any (bytes_eq m) (field_names fs)) h).0
other_name (field n' r' s' gs) fs m n r s h = other_name gs fs m n r s (or_parts (bytes_eq m n') (list_any (bytes_eq m) (field_names (append_fields gs (field n r s fs)))) h).1

pub other_way : (m n : List ℕ) → bytes_eq m n ≡ false → bytes_eq n m ≡ false
other_way m n h = false_from_ne_true (bytes_eq n m) (λ (e : bytes_eq n m ≡ true). both_ways (bytes_eq m n) h ((bytes_eq-Decides m n).1 (sym ((bytes_eq-Decides n m).0 e))))

-- what a field within a group is, and that its name is new
abbrev pub NewField : Fields → List ℕ → Shape → Type 0
NewField gs n s = (is_short_name n ≡ true) × (list_any (bytes_eq n) (field_names gs) ≡ false) × (is_shape s ≡ true)

new_field : (gs fs : Fields) (n : List ℕ) (r : Repetition) (s : Shape) → is_group (append_fields gs (field n r s fs)) ≡ true → NewField gs n s
new_field no_fields fs n r s h = let p = first_of_group n r s fs h in (p.0, refl, p.2)
new_field (field n' r' s' gs) fs n r s h =
    let p = first_of_group n' r' s' (append_fields gs (field n r s fs)) h in
    let q = new_field gs fs n r s p.3 in
    (q.0, or_from (bytes_eq n n') (list_any (bytes_eq n) (field_names gs)) (other_way n' n (other_name gs fs n' n r s p.1)) q.1, q.2)

append_fields_assoc : (gs : Fields) (n : List ℕ) (r : Repetition) (s : Shape) (fs : Fields) → append_fields (append_fields gs (field n r s no_fields)) fs ≡ append_fields gs (field n r s fs)
append_fields_assoc no_fields n r s fs = refl
append_fields_assoc (field n' r' s' gs) n r s fs = ap (field n' r' s') (append_fields_assoc gs n r s fs)

append_no_fields : (gs : Fields) → append_fields gs no_fields ≡ gs
append_no_fields no_fields = refl
append_no_fields (field n r s gs) = ap (field n r s) (append_no_fields gs)

-- ---- no name has a fault

short_length : (n : List ℕ) → is_short_name n ≡ true → nat_lt longest_name (length n) ≡ false
short_length n h = le-ltb longest_name (length n) (leb-true (length n) longest_name (and_parts (is_name n) (nat_le (length n) longest_name) h).1)

no_name_problem : (m : Reading) (n : List ℕ) → is_short_name n ≡ true → list_any (bytes_eq n) (field_names m.fields) ≡ false → length m.groups < 32 → name_problem m n ≡ None
no_name_problem m n h k d = rw (short_length n h, k, lt-leb greatest_depth (length m.groups) d) refl

no_leaf_problem : (m : Reading) (o : Option SchemaProblem) → o ≡ None → m.leaves < 1024 → leaf_problem m o ≡ None
no_leaf_problem m o e d = rw (e, lt-leb most_leaves m.leaves d) refl

-- ---- the canonical tokens are spelled by the grammar

mutual
  canonical_fields : (fs : Fields) → is_group fs ≡ true → SpellsFields fs (field_tokens fs)
  canonical_fields no_fields h = refl
  canonical_fields (field n r s fs) h =
      let p = first_of_group n r s fs h in
      (shape_tokens s n, field_tokens fs, refl, canonical_shape s n p.2, canonical_fields fs p.3)

  canonical_shape : (s : Shape) (n : List ℕ) → is_shape s ≡ true → SpellsShape s n (shape_tokens s n)
  canonical_shape (leaf k) n h = refl
  canonical_shape (group fs) n h =
      let p = and_parts (is_nonempty fs) (is_group fs) h in
      (field_tokens fs, [], refl, canonical_fields fs p.1, p.0, inl refl)

-- ---- the machine on spelled tokens

-- the state behind these fields
abbrev behind : Expected → Fields → ℕ → Reading → Reading
behind e fs l m = record { expected = e; message = m.message; fields = fs; groups = m.groups; leaves = l }

-- the machine stands behind these fields, where the group may end
abbrev Back : Fields → ℕ → Reading → Result Reading SchemaProblem → Type 0
Back fs l m r = (e : Expected) × (may_close e ≡ true) × (r ≡ Ok (behind e fs l m))

leaf_behind_kind : (n : List ℕ) (r : Repetition) (k : Kind) (m : Reading) (l : ℕ) → NewField m.fields n (leaf k) → l ≡ m.leaves + 1 → length m.groups + 1 ≤ 32 → l ≤ 1024 → Back (append_fields m.fields (field n r (leaf k) no_fields)) l m (run (name n ∷ semicolon ∷ []) (record m { expected = leaf_name r k }))
leaf_behind_kind n r k m l h e d b =
    let d' : length m.groups < 32 = omega arith in
    let b' : m.leaves < 1024 = omega arith in
    let e' : suc m.leaves ≡ l = omega arith in
    (next_field, refl, rw (no_leaf_problem (record m { expected = leaf_name r k }) _ (no_name_problem (record m { expected = leaf_name r k }) n h.0 h.1 d') b') (ap (λ (x : ℕ). Ok (behind next_field (append_fields m.fields (field n r (leaf k) no_fields)) x m)) e'))

leaf_back : (n : List ℕ) (r : Repetition) (k : Kind) (m : Reading) (l : ℕ) → NewField m.fields n (leaf k) → l ≡ m.leaves + 1 → length m.groups + 1 ≤ 32 → l ≤ 1024 → Back (append_fields m.fields (field n r (leaf k) no_fields)) l m (run (name (kind_word k) ∷ name n ∷ semicolon ∷ []) (record m { expected = kind_or_group r }))
leaf_back n r bool_kind m l h e d b = leaf_behind_kind n r bool_kind m l h e d b
leaf_back n r int32_kind m l h e d b = leaf_behind_kind n r int32_kind m l h e d b
leaf_back n r int64_kind m l h e d b = leaf_behind_kind n r int64_kind m l h e d b
leaf_back n r text_kind m l h e d b = leaf_behind_kind n r text_kind m l h e d b

-- a group's `}`, with its `;` or without
semicolon_back : (fs : Fields) (m : Reading) (b : List Token) (l : ℕ) → IsOptionalSemicolon b → Back fs l m (run b (behind after_group fs l m))
semicolon_back fs m b l (inl h) = (after_group, refl, rw h refl)
semicolon_back fs m b l (inr h) = (next_field, refl, rw h refl)

close_back : (n : List ℕ) (r : Repetition) (fs : Fields) (m : Reading) (b : List Token) (l : ℕ) (e : Expected) → IsOptionalSemicolon b → may_close e ≡ true → Back (append_fields m.fields (field n r (group fs) no_fields)) l m (run (close_brace ∷ b) (behind e fs l (in_group r n m)))
close_back n r fs m b l e o c = rw (group_closes e (behind e fs l (in_group r n m)) c) (semicolon_back (append_fields m.fields (field n r (group fs) no_fields)) m b l o)

group_back : (n : List ℕ) (r : Repetition) (fs : Fields) (m : Reading) (a b : List Token) (l : ℕ) → NewField m.fields n (group fs) → length m.groups < 32 → IsOptionalSemicolon b → Back fs l (in_group r n m) (run a (in_group r n m)) → Back (append_fields m.fields (field n r (group fs) no_fields)) l m (run (name (codes "group") ∷ name n ∷ open_brace ∷ (a ++ close_brace ∷ b)) (record m { expected = kind_or_group r }))
group_back n r fs m a b l h d o inner = rw (no_name_problem (record m { expected = group_name r }) n h.0 h.1 d, run-append a (close_brace ∷ b) (in_group r n m), inner.2) (close_back n r fs m b l inner.0 o inner.1)

mutual
  fields_back : (fs : Fields) (ts : List Token) (m : Reading) (all : Fields) (l : ℕ) → SpellsFields fs ts → takes_field m.expected ≡ true → (may_close m.expected || is_nonempty fs) ≡ true → append_fields m.fields fs ≡ all → is_group all ≡ true → l ≡ m.leaves + leaf_count fs → length m.groups + depth fs ≤ 32 → l ≤ 1024 → Back all l m (run ts m)
  fields_back no_fields ts m all l h t c a g e d b =
      let e' : m.leaves ≡ l = omega arith in
      let a' : m.fields ≡ all = sym (append_no_fields m.fields) ∙ a in
      rw (h, ← a', ← e') (m.expected, or_false (may_close m.expected) c, refl)
  fields_back (field n r s fs) ts m all l h t c a g e d b =
      let all' : Fields = append_fields m.fields (field n r s no_fields) in
      let l' : ℕ = m.leaves + shape_leaf_count s in
      let ds : length m.groups + (1 + shape_depth s) ≤ 32 = omega arith in
      let df : length m.groups + depth fs ≤ 32 = omega arith in
      let e' : l ≡ l' + leaf_count fs = omega arith in
      let b' : l' ≤ 1024 = omega arith in
      let q : Back all' l' m (run h.0 (record m { expected = kind_or_group r })) = shape_back s n r h.0 m l' h.3 (new_field m.fields fs n r s (rw (← a) at g)) refl ds b' in
      rw (h.2, field_begins m.expected m r t, run-append h.0 h.1 (record m { expected = kind_or_group r }), q.2) (fields_back fs h.1 (behind q.0 all' l' m) all l h.4 (takes_from_close q.0 q.1) (or_at (may_close q.0) (is_nonempty fs) q.1) (append_fields_assoc m.fields n r s fs ∙ a) g e' df b)

  shape_back : (s : Shape) (n : List ℕ) (r : Repetition) (ts : List Token) (m : Reading) (l : ℕ) → SpellsShape s n ts → NewField m.fields n s → l ≡ m.leaves + shape_leaf_count s → length m.groups + (1 + shape_depth s) ≤ 32 → l ≤ 1024 → Back (append_fields m.fields (field n r s no_fields)) l m (run ts (record m { expected = kind_or_group r }))
  shape_back (leaf k) n r ts m l h w e d b =
      let d' : length m.groups + 1 ≤ 32 = omega arith in
      rw h (leaf_back n r k m l w e d' b)
  shape_back (group fs) n r ts m l h w e d b =
      let d1 : length m.groups < 32 = omega arith in
      let d2 : suc (length m.groups) + depth fs ≤ 32 = omega arith in
      rw h.2 (group_back n r fs m h.0 h.1 l w d1 h.5 (fields_back fs h.0 (in_group r n m) fs l h.3 refl h.4 refl (and_parts (is_nonempty fs) (is_group fs) w.2).1 e d2 b))

-- ---- a whole schema

-- the tests that a schema passes
abbrev Passes : Schema → Type 0
Passes s = (is_short_name s.name ≡ true) × (is_shape (group s.fields) ≡ true) × (nat_le (depth s.fields) greatest_depth ≡ true) × (nat_le (leaf_count s.fields) most_leaves ≡ true)

passes : (s : Schema) → is_schema s ≡ true → Passes s
passes s h =
    let a = and_parts (is_short_name s.name && is_shape (group s.fields) && nat_le (depth s.fields) greatest_depth) (nat_le (leaf_count s.fields) most_leaves) h in
    let b = and_parts (is_short_name s.name && is_shape (group s.fields)) (nat_le (depth s.fields) greatest_depth) a.0 in
    let c = and_parts (is_short_name s.name) (is_shape (group s.fields)) b.0 in
    (c.0, c.1, b.1, a.1)

abbrev read_schema : Schema → Reading
read_schema s = record { expected = text_end; message = s.name; fields = s.fields; groups = []; leaves = leaf_count s.fields }

message_back : (s : Schema) (e : Expected) → may_close e ≡ true → run (close_brace ∷ []) (behind e s.fields (leaf_count s.fields) (in_message s.name)) ≡ Ok (read_schema s)
message_back s e h = rw (group_closes e (behind e s.fields (leaf_count s.fields) (in_message s.name)) h) refl

schema_back : (s : Schema) (ts : List Token) → SpellsSchema s ts → Passes s → run ts reading_start ≡ Ok (read_schema s)
schema_back s ts k h =
    let g = and_parts (is_nonempty s.fields) (is_group s.fields) h.1 in
    let d : length (in_message s.name).groups + depth s.fields ≤ 32 = omega (arith, leb-true (depth s.fields) greatest_depth h.2) in
    let e : leaf_count s.fields ≡ (in_message s.name).leaves + leaf_count s.fields = omega arith in
    let l : leaf_count s.fields ≤ 1024 = leb-true (leaf_count s.fields) most_leaves h.3 in
    let q : Back s.fields (leaf_count s.fields) (in_message s.name) (run k.0 (in_message s.name)) = fields_back s.fields k.0 (in_message s.name) s.fields (leaf_count s.fields) k.2 refl k.3 refl g.1 e d l in
    rw (k.1, short_length s.name h.0, run-append k.0 (close_brace ∷ []) (in_message s.name), q.2) (message_back s q.0 q.1)

-- whatever spells a schema, in a text that is not too long, is accepted
pub spelled_is_accepted : (text : List ℕ) (s : Schema) → SpellsSchema s (bare (tokens_of text)) → is_schema s ≡ true → length text ≤ longest_schema → parse_schema text ≡ Ok s
unfolding parse_schema
spelled_is_accepted text s k h l = rw (le-ltb longest_schema (length text) l) (read_run (length text) (tokens_of text) reading_start (read_schema s) (schema_back s (bare (tokens_of text)) k (passes s h)))

-- ---- the canonical text

printed_schema : (s : Schema) → Passes s → bare (tokens_of (schema_text s)) ≡ schema_tokens s
unfolding schema_text
printed_schema s h = reads_text (codes "message") (name s.name ∷ open_brace ∷ (field_tokens s.fields ++ close_brace ∷ [])) refl (name_of_short s.name h.0, printed_fields s.fields (close_brace ∷ []) (and_parts (is_nonempty s.fields) (is_group s.fields) h.1).1 tt)

pub canonical_is_spelled : (s : Schema) → is_schema s ≡ true → SpellsSchema s (bare (tokens_of (schema_text s)))
canonical_is_spelled s h =
    let p = passes s h in
    let g = and_parts (is_nonempty s.fields) (is_group s.fields) p.1 in
    rw (printed_schema s p) (field_tokens s.fields, refl, canonical_fields s.fields g.1, g.0)

pub canonical_reads_back : CanonicalReadsBack
canonical_reads_back s h l = spelled_is_accepted (schema_text s) s (canonical_is_spelled s h) h l
