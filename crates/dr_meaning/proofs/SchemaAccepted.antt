-- What the machine has read is spelled by the grammar as far as it goes.
use Rattle.std.proofs.Common.{◌≡◌, ℕ, List, [], ◌∷◌, ◌++◌, Bool, true, false, refl, ◌∙◌, subst, inl, inr, Ok, Err, Some, None, Option, Result, append_assoc, append-nil}
use Rattle.std.specs.Prelude.{if◌then◌else◌, codes, nat_lt, length}
use Rattle.dr_meaning.specs.Schema.{Schema, Repetition, Kind, Fields, no_fields, field, Shape, leaf, group, is_nonempty, longest_name}
use Rattle.dr_meaning.specs.SchemaText.{Token, name, open_brace, close_brace, semicolon, bad, Placed, bare, tokens_of, Reading, SchemaProblem, SchemaFault, too_long, syntax, bad_name, float_kind, on_token, on_name, on_open, on_close, on_semicolon, on_repetition, on_kind, unless, expecting, end_group, name_problem, leaf_problem, repetition_of, kind_of, repetition_word, kind_word, is_float_word, at_text_end, append_fields, SpellsFields, SpellsSchema, IsOptionalSemicolon, OpenGroup, Expected, message_word, message_name, message_brace, first_field, next_field, after_group, kind_or_group, leaf_name, leaf_end, group_name, group_brace, text_end, reading_start, parse_schema, longest_schema, read_tokens}
use Rattle.dr_meaning.proofs.SchemaMachine.{run, Gives, gives_then, on_word, read_ok}
use Rattle.dr_meaning.specs.SchemaTextLaws.{AcceptedIsSpelled}
use Rattle.dr_meaning.specs.SchemaFaultLaws.{message_head, group_head, SpellsOpen}

-- ---- what the tokens so far spell

-- the message's head, the open groups, the fields of the innermost, and then the tokens p of a field that has begun
abbrev pub Behind : List Token → Reading → List Token → Type 0
Behind p m u = (a : List Token) × (b : List Token) × (u ≡ message_head m.message ++ (a ++ (b ++ p))) × SpellsOpen m.groups a × SpellsFields m.fields b

-- the tokens u brought the machine to this state
abbrev pub IsRead : Expected → Reading → List Token → Type 0
IsRead message_word m u = (u ≡ []) × (m.groups ≡ []) × (m.fields ≡ no_fields)
IsRead message_name m u = (u ≡ name (codes "message") ∷ []) × (m.groups ≡ []) × (m.fields ≡ no_fields)
IsRead message_brace m u = (u ≡ name (codes "message") ∷ name m.message ∷ []) × (m.groups ≡ []) × (m.fields ≡ no_fields)
IsRead first_field m u = Behind [] m u
IsRead next_field m u = Behind [] m u × (is_nonempty m.fields ≡ true)
IsRead after_group m u = Behind [] m u × (is_nonempty m.fields ≡ true) × Behind [] m (u ++ semicolon ∷ [])
IsRead (kind_or_group r) m u = Behind (name (repetition_word r) ∷ []) m u
IsRead (leaf_name r k) m u = Behind (name (repetition_word r) ∷ name (kind_word k) ∷ []) m u
IsRead (leaf_end r k n) m u = Behind (name (repetition_word r) ∷ name (kind_word k) ∷ name n ∷ []) m u
IsRead (group_name r) m u = Behind (name (repetition_word r) ∷ name (codes "group") ∷ []) m u
IsRead (group_brace r n) m u = Behind (name (repetition_word r) ∷ name (codes "group") ∷ name n ∷ []) m u
IsRead text_end m u = SpellsSchema (record { name = m.message; fields = m.fields }) u

abbrev pub Reads : List Token → Reading → Type 0
Reads u m = IsRead m.expected m u

abbrev pub Anything : SchemaProblem → Type 0
Anything p = Unit {0}

-- ---- spelling piece by piece

pub spells_append : (fs gs : Fields) (a b : List Token) → SpellsFields fs a → SpellsFields gs b → SpellsFields (append_fields fs gs) (a ++ b)
spells_append no_fields gs a b h k = rw h k
spells_append (field n r s fs) gs a b h k = (h.0, h.1 ++ b, rw h.2 (simp append_assoc), h.3, spells_append fs gs h.1 b h.4 k)

pub one_leaf : (n : List ℕ) (r : Repetition) (k : Kind) → SpellsFields (field n r (leaf k) no_fields) (name (repetition_word r) ∷ name (kind_word k) ∷ name n ∷ semicolon ∷ [])
one_leaf n r k = (name (kind_word k) ∷ name n ∷ semicolon ∷ [], [], refl, refl, refl)

pub one_group : (n : List ℕ) (r : Repetition) (fs : Fields) (b c : List Token) → SpellsFields fs b → is_nonempty fs ≡ true → IsOptionalSemicolon c → SpellsFields (field n r (group fs) no_fields) (group_head r n ++ (b ++ close_brace ∷ c))
one_group n r fs b c h e o = (name (codes "group") ∷ name n ∷ open_brace ∷ (b ++ close_brace ∷ c), [], simp append-nil, (b, c, refl, h, e, o), refl)

pub nonempty_append : (fs : Fields) (n : List ℕ) (r : Repetition) (s : Shape) → is_nonempty (append_fields fs (field n r s no_fields)) ≡ true
nonempty_append no_fields n r s = refl
nonempty_append (field n' r' s' fs) n r s = refl

-- one more token of a field that has begun
pub push : (p : List Token) (m : Reading) (u : List Token) (t : Token) → Behind p m u → Behind (p ++ t ∷ []) m (u ++ t ∷ [])
push p m u t h = (h.0, h.1, rw h.2 (simp append_assoc), h.3, h.4)

leaf_ends : (r : Repetition) (k : Kind) (n : List ℕ) (m : Reading) (u : List Token) → Behind (name (repetition_word r) ∷ name (kind_word k) ∷ name n ∷ []) m u → Behind [] (record m { fields = append_fields m.fields (field n r (leaf k) no_fields) }) (u ++ semicolon ∷ [])
leaf_ends r k n m u h = (h.0, h.1 ++ (name (repetition_word r) ∷ name (kind_word k) ∷ name n ∷ semicolon ∷ []), rw h.2 (simp (append_assoc, append-nil)), h.3, spells_append m.fields (field n r (leaf k) no_fields) h.1 _ h.4 (one_leaf n r k))

group_begins : (r : Repetition) (n : List ℕ) (m : Reading) (u : List Token) → Behind (name (repetition_word r) ∷ name (codes "group") ∷ name n ∷ []) m u → Behind [] (record m { fields = no_fields; groups = record { before = m.fields; name = n; repetition = r } ∷ m.groups }) (u ++ open_brace ∷ [])
group_begins r n m u h = (h.0 ++ (h.1 ++ group_head r n), [], rw h.2 (simp (append_assoc, append-nil)), (h.0, h.1, refl, h.3, h.4), refl)

pub group_ends : (g : OpenGroup) (gs : List OpenGroup) (message : List ℕ) (fs : Fields) (a b c u : List Token) → SpellsOpen (g ∷ gs) a → SpellsFields fs b → is_nonempty fs ≡ true → IsOptionalSemicolon c → u ≡ message_head message ++ (a ++ b) → (x : List Token) × (y : List Token) × (u ++ close_brace ∷ c ≡ message_head message ++ (x ++ y)) × SpellsOpen gs x × SpellsFields (append_fields g.before (field g.name g.repetition (group fs) no_fields)) y
group_ends g gs message fs a b c u h k e o eq = (h.0, h.1 ++ (group_head g.repetition g.name ++ (b ++ close_brace ∷ c)), rw (eq, h.2) (simp append_assoc), h.3, spells_append g.before _ h.1 _ h.4 (one_group g.name g.repetition fs b c k e o))

-- ---- each token

Step : List Token → Token → Result Reading SchemaProblem → Type 0
Step u t r = Gives (λ (m : Reading). Reads (u ++ t ∷ []) m) Anything r

-- the word is that of what was found
abbrev pub Means : {A : Type 0} → (A → List ℕ) → List ℕ → Option A → Type 0
Means f w None = Unit {0}
Means f w (Some x) = w ≡ f x

pub repetition_means : (w : List ℕ) → Means repetition_word w (repetition_of w)
repetition_means w = on_word (Means repetition_word w) w (codes "required") _ _ (λ e. e) (on_word (Means repetition_word w) w (codes "optional") _ _ (λ e. e) (on_word (Means repetition_word w) w (codes "repeated") _ _ (λ e. e) tt))

pub kind_means : (w : List ℕ) → Means kind_word w (kind_of w)
kind_means w = on_word (Means kind_word w) w (codes "boolean") _ _ (λ e. e) (on_word (Means kind_word w) w (codes "int32") _ _ (λ e. e) (on_word (Means kind_word w) w (codes "int64") _ _ (λ e. e) (on_word (Means kind_word w) w (codes "string") _ _ (λ e. e) tt)))

pub either_way : {A : Type 0} (P : A → Type 0) (b : Bool) (x y : A) → P x → P y → P (if b then x else y)
either_way P true x y h k = h
either_way P false x y h k = k

step_unless : (P : Reading → Type 0) (o : Option SchemaProblem) (r : Result Reading SchemaProblem) → Gives P Anything r → Gives P Anything (unless o r)
step_unless P None r h = h
step_unless P (Some p) r h = tt

step_repetition : (m : Reading) (u : List Token) (w : List ℕ) → Behind [] m u → (o : Option Repetition) → Means repetition_word w o → Step u (name w) (on_repetition m o)
unfolding Step
step_repetition m u w h None e = tt
step_repetition m u w h (Some r) e = rw e (push [] m u (name (repetition_word r)) h)

step_kind : (m : Reading) (u : List Token) (r : Repetition) (w : List ℕ) → Behind (name (repetition_word r) ∷ []) m u → (o : Option Kind) → Means kind_word w o → Step u (name w) (on_kind m r w o)
unfolding Step
step_kind m u r w h (Some k) e = rw e (push (name (repetition_word r) ∷ []) m u (name (kind_word k)) h)
step_kind m u r w h None e = on_word (Gives (λ (m' : Reading). Reads (u ++ name w ∷ []) m') Anything) w (codes "group") (expecting (group_name r) m) _ (λ e1. rw e1 (push (name (repetition_word r) ∷ []) m u (name (codes "group")) h)) (either_way (Gives (λ (m' : Reading). Reads (u ++ name w ∷ []) m') Anything) (is_float_word w) (Err float_kind) (Err syntax) tt tt)

step_name : (e : Expected) (m : Reading) (u : List Token) (w : List ℕ) → IsRead e m u → Step u (name w) (on_name e m w)
unfolding Step
step_name message_word m u w h = on_word (Gives (λ (m' : Reading). Reads (u ++ name w ∷ []) m') Anything) w (codes "message") (expecting message_name m) (Err syntax) (λ e. (rw (h.0, e) refl, h.1, h.2)) tt
step_name message_name m u w h = either_way (Gives (λ (m' : Reading). Reads (u ++ name w ∷ []) m') Anything) (nat_lt longest_name (length w)) (Err bad_name) (Ok (record m { expected = message_brace; message = w })) tt (rw h.0 refl, h.1, h.2)
step_name message_brace m u w h = tt
step_name first_field m u w h = step_repetition m u w h (repetition_of w) (repetition_means w)
step_name next_field m u w h = step_repetition m u w h.0 (repetition_of w) (repetition_means w)
step_name after_group m u w h = step_repetition m u w h.0 (repetition_of w) (repetition_means w)
step_name (kind_or_group r) m u w h = step_kind m u r w h (kind_of w) (kind_means w)
step_name (leaf_name r k) m u w h = step_unless (λ (m' : Reading). Reads (u ++ name w ∷ []) m') (leaf_problem m (name_problem m w)) (expecting (leaf_end r k w) m) (push _ m u (name w) h)
step_name (leaf_end r k n) m u w h = tt
step_name (group_name r) m u w h = step_unless (λ (m' : Reading). Reads (u ++ name w ∷ []) m') (name_problem m w) (expecting (group_brace r w) m) (push _ m u (name w) h)
step_name (group_brace r n) m u w h = tt
step_name text_end m u w h = tt

step_open : (e : Expected) (m : Reading) (u : List Token) → IsRead e m u → Step u open_brace (on_open e m)
unfolding Step
step_open message_brace m u h = ([], [], rw h.0 refl, rw h.1 refl, rw h.2 refl)
step_open (group_brace r n) m u h = group_begins r n m u h
step_open _ m u h = tt

step_close : (m : Reading) (u : List Token) (gs : List OpenGroup) → m.groups ≡ gs → Behind [] m u → is_nonempty m.fields ≡ true → Step u close_brace (end_group m gs)
unfolding Step
step_close m u [] e h n = (h.1, rw (h.2, closed h.0 (rw e at h.3)) (simp append-nil), h.4, n)
  where
    closed : (a : List Token) → SpellsOpen [] a → a ≡ []
    closed a k = k
step_close m u (g ∷ gs) e h n = (bare_end (group_ends g gs m.message m.fields h.0 h.1 [] u (rw e at h.3) h.4 n (inl refl) (rw h.2 (simp append-nil))), nonempty_append g.before g.name g.repetition (group m.fields), semicolon_end (group_ends g gs m.message m.fields h.0 h.1 (semicolon ∷ []) u (rw e at h.3) h.4 n (inr refl) (rw h.2 (simp append-nil))))
  where
    after : Reading
    after = record m { expected = after_group; fields = append_fields g.before (field g.name g.repetition (group m.fields) no_fields); groups = gs }

    bare_end : ((x : List Token) × (y : List Token) × (u ++ close_brace ∷ [] ≡ message_head m.message ++ (x ++ y)) × SpellsOpen gs x × SpellsFields (append_fields g.before (field g.name g.repetition (group m.fields) no_fields)) y) → Behind [] after (u ++ close_brace ∷ [])
    bare_end k = (k.0, k.1, rw k.2 (simp append-nil), k.3, k.4)

    semicolon_end : ((x : List Token) × (y : List Token) × (u ++ close_brace ∷ semicolon ∷ [] ≡ message_head m.message ++ (x ++ y)) × SpellsOpen gs x × SpellsFields (append_fields g.before (field g.name g.repetition (group m.fields) no_fields)) y) → Behind [] after ((u ++ close_brace ∷ []) ++ semicolon ∷ [])
    semicolon_end k = (k.0, k.1, append_assoc u (close_brace ∷ []) (semicolon ∷ []) ∙ rw k.2 (simp append-nil), k.3, k.4)

step_end : (e : Expected) (m : Reading) (u : List Token) → IsRead e m u → Step u close_brace (on_close e m)
unfolding Step
step_end next_field m u h = step_close m u m.groups refl h.0 h.1
step_end after_group m u h = step_close m u m.groups refl h.0 h.1
step_end _ m u h = tt

step_semicolon : (e : Expected) (m : Reading) (u : List Token) → IsRead e m u → Step u semicolon (on_semicolon e m)
unfolding Step
step_semicolon (leaf_end r k n) m u h = (leaf_ends r k n m u h, nonempty_append m.fields n r (leaf k))
step_semicolon after_group m u h = (h.2, h.1)
step_semicolon _ m u h = tt

pub step : (t : Token) (m : Reading) (u : List Token) → Reads u m → Gives (λ (m' : Reading). Reads (u ++ t ∷ []) m') Anything (on_token m t)
unfolding Step
step (name w) m u h = step_name m.expected m u w h
step open_brace m u h = step_open m.expected m u h
step close_brace m u h = step_end m.expected m u h
step semicolon m u h = step_semicolon m.expected m u h
step bad m u h = tt

-- ---- all tokens

pub reads_run : (ts : List Token) (m : Reading) (u : List Token) → Reads u m → Gives (λ (m' : Reading). Reads (u ++ ts) m') Anything (run ts m)
reads_run [] m u h = rw append-nil h
reads_run (t ∷ ts) m u h = gives_then (λ (m' : Reading). Reads (u ++ t ∷ []) m') (λ (m' : Reading). Reads (u ++ (t ∷ ts)) m') Anything (run ts) (on_token m t) (step t m u h) (λ (m1 : Reading) (h1 : Reads (u ++ t ∷ []) m1). rw append_assoc at (reads_run ts m1 (u ++ t ∷ []) h1))

pub reads_start : Reads [] reading_start
reads_start = (refl, refl, refl)

-- what the machine has read from the start on
pub reads_to : (ts : List Token) (m : Reading) → run ts reading_start ≡ Ok m → Reads ts m
reads_to ts m e = rw e at (reads_run ts reading_start [] reads_start)

-- ---- accepted texts

abbrev pub found : Schema → Result Schema SchemaFault
found s = Ok s

pub same_schema : (s s' : Schema) → found s ≡ found s' → s ≡ s'
same_schema s s' e = cc

at_end : (e : Expected) (m : Reading) (size : ℕ) (s : Schema) (ts : List Token) → IsRead e m ts → at_text_end e m size ≡ Ok s → SpellsSchema s ts
at_end text_end m size s ts h e = subst (λ (x : Schema). SpellsSchema x ts) (same_schema (record { name = m.message; fields = m.fields }) s e) h
at_end _ m size s ts h e = absurd (cc)

accepted_tokens : (size : ℕ) (ts : List Placed) (s : Schema) → read_tokens size ts reading_start ≡ Ok s → SpellsSchema s (bare ts)
accepted_tokens size ts s e = let c = read_ok size ts reading_start s e in at_end c.0.expected c.0 size s (bare ts) (reads_to (bare ts) c.0 c.1) c.2

pub accepted_is_spelled : AcceptedIsSpelled
unfolding parse_schema
accepted_is_spelled text s e = go (nat_lt longest_schema (length text)) e
  where
    go : (b : Bool) → (if b then Err (record { place = longest_schema; problem = too_long }) else read_tokens (length text) (tokens_of text) reading_start) ≡ Ok s → SpellsSchema s (bare (tokens_of text))
    go true e1 = absurd (cc)
    go false e1 = accepted_tokens (length text) (tokens_of text) s e1
