-- What is accepted keeps the rules of names and the limits.
use Rattle.std.proofs.Common.{◌≡◌, ℕ, suc, ◌+◌, ◌-◌, ◌≤◌, ◌<◌, List, [], ◌∷◌, ◌++◌, length, Bool, true, false, not, refl, subst, Ok, Err, Some, None, Option, Result, arith}
use Rattle.std.specs.Prelude.{◌==◌, codes, nat_lt, nat_le, bytes_eq, if◌then◌else◌, ◌&&◌}
use Rattle.std.specs.List.{list_any}
use Rattle.std.proofs.lemmas.Bool.{and_from, or_parts, or_from, not_from_false, ltb-false, leb-false, le-leb, cond_both}
use Rattle.dr_meaning.specs.Schema.{Schema, Repetition, Kind, Fields, no_fields, field, Shape, leaf, group, is_nonempty, longest_name, greatest_depth, most_leaves, field_names, is_name, is_short_name, is_group, is_shape, is_schema, leaf_count, shape_leaf_count, depth, shape_depth}
use Rattle.dr_meaning.specs.SchemaText.{Token, name, open_brace, close_brace, semicolon, bad, Placed, bare, tokens_of, tokens_from, with_word, with_byte, byte_token, is_blank, goes_on, Reading, SchemaProblem, too_long, syntax, float_kind, bad_name, duplicate_name, too_deep, too_many_leaves, on_token, on_name, on_open, on_close, on_semicolon, on_repetition, on_kind, unless, expecting, end_group, name_problem, leaf_problem, repetition_of, kind_of, is_float_word, at_text_end, append_fields, OpenGroup, Expected, message_word, message_name, message_brace, first_field, next_field, after_group, kind_or_group, leaf_name, leaf_end, group_name, group_brace, text_end, reading_start, parse_schema, longest_schema, read_tokens}
use Rattle.dr_meaning.specs.SchemaTextLaws.{AcceptedExactly}
use Rattle.dr_meaning.specs.SchemaFaultLaws.{leaves_before}
use Rattle.dr_meaning.proofs.SchemaMachine.{run, Gives, gives_then, read_ok}
use Rattle.dr_meaning.proofs.SchemaAccepted.{Anything, either_way, nonempty_append, same_schema, accepted_is_spelled}
use Rattle.dr_meaning.proofs.TokenLemmas.{IsBegun, begun_more}
use Rattle.dr_meaning.proofs.SchemaReadsBack.{spelled_is_accepted, first_of_group, other_way, NewField}

-- ---- the names in a text have the form of names

abbrev pub IsNamed : List Token → Type 0
IsNamed [] = Unit {0}
IsNamed (name n ∷ ts) = (is_name n ≡ true) × IsNamed ts
IsNamed (open_brace ∷ ts) = IsNamed ts
IsNamed (close_brace ∷ ts) = IsNamed ts
IsNamed (semicolon ∷ ts) = IsNamed ts
IsNamed (bad ∷ ts) = IsNamed ts

named_word : (i : ℕ) (w : List ℕ) (ts : List Placed) → IsBegun w → IsNamed (bare ts) → IsNamed (bare (with_word i w ts))
named_word i [] ts h k = k
named_word i (c ∷ w) ts h k = (h, k)

named_token : (t : Token) (ts : List Token) → IsNamed (t ∷ []) → IsNamed ts → IsNamed (t ∷ ts)
named_token (name n) ts h k = (h.0, k)
named_token open_brace ts h k = k
named_token close_brace ts h k = k
named_token semicolon ts h k = k
named_token bad ts h k = k

named_byte : (i b : ℕ) (ts : List Placed) → IsNamed (bare ts) → IsNamed (bare (with_byte i b ts))
named_byte i b ts h = either_way (λ (xs : List Placed). IsNamed (bare xs)) (is_blank b) ts (record { place = i; token = byte_token b } ∷ ts) h (named_token (byte_token b) (bare ts) (either_way (λ (t : Token). IsNamed (t ∷ [])) (b == 123) open_brace _ tt (either_way (λ (t : Token). IsNamed (t ∷ [])) (b == 125) close_brace _ tt (either_way (λ (t : Token). IsNamed (t ∷ [])) (b == 59) semicolon bad tt tt))) h)

pub named_from : (bs : List ℕ) (i : ℕ) (w : List ℕ) → IsBegun w → IsNamed (bare (tokens_from i w bs))
named_from [] i w h = named_word i w [] h tt
named_from (b ∷ bs) i w h = cond_both (goes_on w b) (tokens_from (suc i) (w ++ b ∷ []) bs) (with_word i w (with_byte i b (tokens_from (suc i) [] bs))) (λ (xs : List Placed). IsNamed (bare xs)) (λ e. named_from bs (suc i) (w ++ b ∷ []) (begun_more w b h e)) (λ e. named_word i w (with_byte i b (tokens_from (suc i) [] bs)) h (named_byte i b (tokens_from (suc i) [] bs) (named_from bs (suc i) [] tt)))

-- ---- one more field in a group

to_group : (n : List ℕ) (r : Repetition) (s : Shape) (fs : Fields) → is_short_name n ≡ true → list_any (bytes_eq n) (field_names fs) ≡ false → is_shape s ≡ true → is_group fs ≡ true → is_group (field n r s fs) ≡ true
to_group n r s fs a b c d = and_from (is_short_name n && not (list_any (bytes_eq n) (field_names fs)) && is_shape s) (is_group fs) (and_from (is_short_name n && not (list_any (bytes_eq n) (field_names fs))) (is_shape s) (and_from (is_short_name n) (not (list_any (bytes_eq n) (field_names fs))) a (not_from_false (list_any (bytes_eq n) (field_names fs)) b)) c) d

still_other : (gs : Fields) (m n : List ℕ) (r : Repetition) (s : Shape) → list_any (bytes_eq m) (field_names gs) ≡ false → bytes_eq m n ≡ false → list_any (bytes_eq m) (field_names (append_fields gs (field n r s no_fields))) ≡ false
still_other no_fields m n r s h k = or_from (bytes_eq m n) false k refl
still_other (field n' r' s' gs) m n r s h k =
    let p = or_parts (bytes_eq m n') (list_any (bytes_eq m) (field_names gs)) h in
    or_from (bytes_eq m n') (list_any (bytes_eq m) (field_names (append_fields gs (field n r s no_fields)))) p.0 (still_other gs m n r s p.1 k)

group_append : (gs : Fields) (n : List ℕ) (r : Repetition) (s : Shape) → is_group gs ≡ true → NewField gs n s → is_group (append_fields gs (field n r s no_fields)) ≡ true
group_append no_fields n r s h k = to_group n r s no_fields k.0 refl k.2 refl
group_append (field n' r' s' gs) n r s h k =
    let p = first_of_group n' r' s' gs h in
    let q = or_parts (bytes_eq n n') (list_any (bytes_eq n) (field_names gs)) k.1 in
    to_group n' r' s' (append_fields gs (field n r s no_fields)) p.0 (still_other gs n' n r s p.1 (other_way n n' q.0)) p.2 (group_append gs n r s p.3 (k.0, q.1, k.2))

depth_append : (gs : Fields) (n : List ℕ) (r : Repetition) (s : Shape) (k : ℕ) → depth gs ≤ k → 1 + shape_depth s ≤ k → depth (append_fields gs (field n r s no_fields)) ≤ k
depth_append no_fields n r s k h e = omega arith
depth_append (field n' r' s' gs) n r s k h e =
    let i : depth gs ≤ k = omega arith in
    let j : depth (append_fields gs (field n r s no_fields)) ≤ k = depth_append gs n r s k i e in
    omega arith

leaves_append : (gs : Fields) (n : List ℕ) (r : Repetition) (s : Shape) → leaf_count (append_fields gs (field n r s no_fields)) ≡ leaf_count gs + shape_leaf_count s
leaves_append no_fields n r s = omega arith
leaves_append (field n' r' s' gs) n r s =
    let i : leaf_count (append_fields gs (field n r s no_fields)) ≡ leaf_count gs + shape_leaf_count s = leaves_append gs n r s in
    omega arith

-- ---- the states of the machine

-- a name that may stand here
abbrev pub IsNew : List ℕ → Fields → List OpenGroup → Type 0
IsNew n fs gs = (is_short_name n ≡ true) × (list_any (bytes_eq n) (field_names fs) ≡ false) × (length gs < 32)

abbrev pub IsOpen : List OpenGroup → Type 0
IsOpen [] = Unit {0}
IsOpen (g ∷ gs) = IsNew g.name g.before gs × (is_group g.before ≡ true) × (length gs + depth g.before ≤ 32) × IsOpen gs

abbrev pub IsWithin : Reading → Type 0
IsWithin m = (is_short_name m.message ≡ true) × IsOpen m.groups × (is_group m.fields ≡ true) × (length m.groups + depth m.fields ≤ 32) × (m.leaves ≡ leaf_count m.fields + leaves_before m.groups) × (m.leaves ≤ 1024)

abbrev pub IsEmpty : Reading → Type 0
IsEmpty m = (m.groups ≡ []) × (m.fields ≡ no_fields) × (m.leaves ≡ 0)

abbrev pub ValidAt : Expected → Reading → Type 0
ValidAt message_word m = IsEmpty m
ValidAt message_name m = IsEmpty m
ValidAt message_brace m = (is_short_name m.message ≡ true) × IsEmpty m
ValidAt first_field m = IsWithin m
ValidAt next_field m = IsWithin m × (is_nonempty m.fields ≡ true)
ValidAt after_group m = IsWithin m × (is_nonempty m.fields ≡ true)
ValidAt (kind_or_group r) m = IsWithin m
ValidAt (leaf_name r k) m = IsWithin m
ValidAt (leaf_end r k n) m = IsWithin m × IsNew n m.fields m.groups × (m.leaves < 1024)
ValidAt (group_name r) m = IsWithin m
ValidAt (group_brace r n) m = IsWithin m × IsNew n m.fields m.groups
ValidAt text_end m = is_schema (record { name = m.message; fields = m.fields }) ≡ true

abbrev pub Valid : Reading → Type 0
Valid m = ValidAt m.expected m

abbrev pub Keeps : Result Reading SchemaProblem → Type 0
Keeps r = Gives Valid Anything r

-- ---- names

-- where there is no problem, P holds
abbrev Clear : Type 0 → Option SchemaProblem → Type 0
Clear P None = P
Clear P (Some p) = Unit {0}

keeps_unless : (P : Type 0) (o : Option SchemaProblem) (r : Result Reading SchemaProblem) → Clear P o → (P → Keeps r) → Keeps (unless o r)
keeps_unless P None r c k = k c
keeps_unless P (Some p) r c k = tt

short_from : (w : List ℕ) → is_name w ≡ true → nat_lt longest_name (length w) ≡ false → is_short_name w ≡ true
short_from w h e = and_from (is_name w) (nat_le (length w) longest_name) h (le-leb (length w) longest_name (ltb-false longest_name (length w) e))

name_clear : (m : Reading) (w : List ℕ) → is_name w ≡ true → Clear (IsNew w m.fields m.groups) (name_problem m w)
name_clear m w h = cond_both (nat_lt longest_name (length w)) (Some bad_name) _ (Clear (IsNew w m.fields m.groups)) (λ e. tt) (λ e. cond_both (list_any (bytes_eq w) (field_names m.fields)) (Some duplicate_name) _ (Clear (IsNew w m.fields m.groups)) (λ e1. tt) (λ e1. cond_both (nat_le greatest_depth (length m.groups)) (Some too_deep) None (Clear (IsNew w m.fields m.groups)) (λ e2. tt) (λ e2. (short_from w h e, e1, leb-false greatest_depth (length m.groups) e2))))

leaf_clear : (m : Reading) (P : Type 0) (o : Option SchemaProblem) → Clear P o → Clear (P × (m.leaves < 1024)) (leaf_problem m o)
leaf_clear m P (Some p) c = tt
leaf_clear m P None c = cond_both (nat_le most_leaves m.leaves) (Some too_many_leaves) None (Clear (P × (m.leaves < 1024))) (λ e. tt) (λ e. (c, leb-false most_leaves m.leaves e))

keeps_repetition : (m : Reading) (o : Option Repetition) → IsWithin m → Keeps (on_repetition m o)
keeps_repetition m None h = tt
keeps_repetition m (Some r) h = h

keeps_kind : (m : Reading) (r : Repetition) (w : List ℕ) (o : Option Kind) → IsWithin m → Keeps (on_kind m r w o)
keeps_kind m r w (Some k) h = h
keeps_kind m r w None h = either_way Keeps (bytes_eq w (codes "group")) (expecting (group_name r) m) _ h (either_way Keeps (is_float_word w) (Err float_kind) (Err syntax) tt tt)

keeps_name : (e : Expected) (m : Reading) (w : List ℕ) → ValidAt e m → is_name w ≡ true → Keeps (on_name e m w)
keeps_name message_word m w h k = either_way Keeps (bytes_eq w (codes "message")) (expecting message_name m) (Err syntax) h tt
keeps_name message_name m w h k = cond_both (nat_lt longest_name (length w)) (Err bad_name) (Ok (record m { expected = message_brace; message = w })) Keeps (λ e. tt) (λ e. (short_from w k e, h))
keeps_name message_brace m w h k = tt
keeps_name first_field m w h k = keeps_repetition m (repetition_of w) h
keeps_name next_field m w h k = keeps_repetition m (repetition_of w) h.0
keeps_name after_group m w h k = keeps_repetition m (repetition_of w) h.0
keeps_name (kind_or_group r) m w h k = keeps_kind m r w (kind_of w) h
keeps_name (leaf_name r k') m w h k = keeps_unless (IsNew w m.fields m.groups × (m.leaves < 1024)) (leaf_problem m (name_problem m w)) (expecting (leaf_end r k' w) m) (leaf_clear m (IsNew w m.fields m.groups) (name_problem m w) (name_clear m w k)) (λ q. (h, q.0, q.1))
keeps_name (leaf_end r k' n) m w h k = tt
keeps_name (group_name r) m w h k = keeps_unless (IsNew w m.fields m.groups) (name_problem m w) (expecting (group_brace r w) m) (name_clear m w k) (λ q. (h, q))
keeps_name (group_brace r n) m w h k = tt
keeps_name text_end m w h k = tt

-- ---- braces and semicolons

keeps_open : (e : Expected) (m : Reading) → ValidAt e m → Keeps (on_open e m)
keeps_open message_brace m h = (h.0, rw h.1.0 tt, rw h.1.1 refl, rw (h.1.0, h.1.1) (omega arith), rw (h.1.0, h.1.1, h.1.2) refl, rw h.1.2 (omega arith))
keeps_open (group_brace r n) m h =
    let d : suc (length m.groups) + 0 ≤ 32 = omega (arith, h.1.2) in
    let l : m.leaves ≡ 0 + (leaf_count m.fields + leaves_before m.groups) = omega (arith, h.0.4) in
    (h.0.0, (h.1, h.0.2, h.0.3, h.0.1), refl, d, l, h.0.5)
keeps_open _ m h = tt

is_schema_from : (n : List ℕ) (fs : Fields) → is_short_name n ≡ true → is_nonempty fs ≡ true → is_group fs ≡ true → depth fs ≤ 32 → leaf_count fs ≤ 1024 → is_schema (record { name = n; fields = fs }) ≡ true
is_schema_from n fs a b c d e = and_from (is_short_name n && is_shape (group fs) && nat_le (depth fs) greatest_depth) (nat_le (leaf_count fs) most_leaves) (and_from (is_short_name n && is_shape (group fs)) (nat_le (depth fs) greatest_depth) (and_from (is_short_name n) (is_shape (group fs)) a (and_from (is_nonempty fs) (is_group fs) b c)) (le-leb (depth fs) greatest_depth d)) (le-leb (leaf_count fs) most_leaves e)

-- a field that joins those before it within the limits
within_append : (fs : Fields) (gs : List OpenGroup) (n : List ℕ) (r : Repetition) (s : Shape) (message : List ℕ) (e : Expected) (l : ℕ) → is_short_name message ≡ true → IsOpen gs → is_group fs ≡ true → length gs + depth fs ≤ 32 → NewField fs n s → length gs + (1 + shape_depth s) ≤ 32 → l ≡ leaf_count fs + shape_leaf_count s + leaves_before gs → l ≤ 1024 → IsWithin (record { expected = e; message = message; fields = append_fields fs (field n r s no_fields); groups = gs; leaves = l })
within_append fs gs n r s message e l a o g d w d' q b =
    let d1 : depth fs ≤ 32 - length gs = omega arith in
    let d2 : 1 + shape_depth s ≤ 32 - length gs = omega arith in
    let d3 : depth (append_fields fs (field n r s no_fields)) ≤ 32 - length gs = depth_append fs n r s (32 - length gs) d1 d2 in
    let d4 : length gs + depth (append_fields fs (field n r s no_fields)) ≤ 32 = omega arith in
    let q' : l ≡ leaf_count (append_fields fs (field n r s no_fields)) + leaves_before gs = omega (arith, leaves_append fs n r s) in
    (a, o, group_append fs n r s g w, d4, q', b)

keeps_close : (m : Reading) (gs : List OpenGroup) → m.groups ≡ gs → IsWithin m → is_nonempty m.fields ≡ true → Keeps (end_group m gs)
keeps_close m [] e h k =
    let d : 0 + depth m.fields ≤ 32 = rw e at h.3 in
    let l : m.leaves ≡ leaf_count m.fields + 0 = rw e at h.4 in
    is_schema_from m.message m.fields h.0 k h.2 (omega arith) (omega (arith, h.5))
keeps_close m (g ∷ gs) e h k =
    let o : IsOpen (g ∷ gs) = rw e at h.1 in
    let d : suc (length gs) + depth m.fields ≤ 32 = rw e at h.3 in
    let l : m.leaves ≡ leaf_count m.fields + (leaf_count g.before + leaves_before gs) = rw e at h.4 in
    let d' : length gs + (1 + depth m.fields) ≤ 32 = omega arith in
    let l' : m.leaves ≡ leaf_count g.before + leaf_count m.fields + leaves_before gs = omega arith in
    (within_append g.before gs g.name g.repetition (group m.fields) m.message after_group m.leaves h.0 o.3 o.1 o.2 (o.0.0, o.0.1, and_from (is_nonempty m.fields) (is_group m.fields) k h.2) d' l' h.5, nonempty_append g.before g.name g.repetition (group m.fields))

keeps_end : (e : Expected) (m : Reading) → ValidAt e m → Keeps (on_close e m)
keeps_end next_field m h = keeps_close m m.groups refl h.0 h.1
keeps_end after_group m h = keeps_close m m.groups refl h.0 h.1
keeps_end _ m h = tt

keeps_semicolon : (e : Expected) (m : Reading) → ValidAt e m → Keeps (on_semicolon e m)
keeps_semicolon (leaf_end r k n) m h =
    let d : length m.groups + (1 + 0) ≤ 32 = omega (arith, h.1.2) in
    let l : suc m.leaves ≡ leaf_count m.fields + 1 + leaves_before m.groups = omega (arith, h.0.4) in
    (within_append m.fields m.groups n r (leaf k) m.message next_field (suc m.leaves) h.0.0 h.0.1 h.0.2 h.0.3 (h.1.0, h.1.1, refl) d l h.2, nonempty_append m.fields n r (leaf k))
keeps_semicolon after_group m h = h
keeps_semicolon _ m h = tt

-- ---- all tokens

pub keeps_run : (ts : List Token) (m : Reading) → IsNamed ts → Valid m → Keeps (run ts m)
keeps_run [] m n h = h
keeps_run (name w ∷ ts) m n h = gives_then Valid Valid Anything (run ts) (on_token m (name w)) (keeps_name m.expected m w h n.0) (λ (m1 : Reading) (k : Valid m1). keeps_run ts m1 n.1 k)
keeps_run (open_brace ∷ ts) m n h = gives_then Valid Valid Anything (run ts) (on_token m open_brace) (keeps_open m.expected m h) (λ (m1 : Reading) (k : Valid m1). keeps_run ts m1 n k)
keeps_run (close_brace ∷ ts) m n h = gives_then Valid Valid Anything (run ts) (on_token m close_brace) (keeps_end m.expected m h) (λ (m1 : Reading) (k : Valid m1). keeps_run ts m1 n k)
keeps_run (semicolon ∷ ts) m n h = gives_then Valid Valid Anything (run ts) (on_token m semicolon) (keeps_semicolon m.expected m h) (λ (m1 : Reading) (k : Valid m1). keeps_run ts m1 n k)
keeps_run (bad ∷ ts) m n h = tt

valid_end : (e : Expected) (m : Reading) (size : ℕ) (s : Schema) → ValidAt e m → at_text_end e m size ≡ Ok s → is_schema s ≡ true
valid_end text_end m size s h e = subst (λ (x : Schema). is_schema x ≡ true) (same_schema (record { name = m.message; fields = m.fields }) s e) h
valid_end _ m size s h e = absurd (cc)

valid_tokens : (size : ℕ) (ts : List Placed) (s : Schema) → IsNamed (bare ts) → read_tokens size ts reading_start ≡ Ok s → is_schema s ≡ true
valid_tokens size ts s n e =
    let c = read_ok size ts reading_start s e in
    valid_end c.0.expected c.0 size s (rw c.1 at (keeps_run (bare ts) reading_start n (refl, refl, refl))) c.2

-- ---- exactly what is accepted

accepted_is_valid : (text : List ℕ) (s : Schema) → parse_schema text ≡ Ok s → (length text ≤ longest_schema) × (is_schema s ≡ true)
unfolding parse_schema
accepted_is_valid text s e = go (nat_lt longest_schema (length text)) refl e
  where
    go : (b : Bool) → nat_lt longest_schema (length text) ≡ b → (if b then Err (record { place = longest_schema; problem = too_long }) else read_tokens (length text) (tokens_of text) reading_start) ≡ Ok s → (length text ≤ longest_schema) × (is_schema s ≡ true)
    go true t k = absurd (cc)
    go false t k = (ltb-false longest_schema (length text) t, valid_tokens (length text) (tokens_of text) s (named_from text 0 [] tt) k)

pub accepted_exactly : AcceptedExactly
accepted_exactly text s = (λ e. let v = accepted_is_valid text s e in (v.0, accepted_is_spelled text s e, v.1), λ h. spelled_is_accepted text s h.1 h.2 h.0)
