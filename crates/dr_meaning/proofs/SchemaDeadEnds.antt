-- Tokens that the grammar spells never bring the machine to a dead end.
use Rattle.std.proofs.Common.{◌≡◌, ℕ, List, [], ◌∷◌, ◌++◌, length, Bool, true, false, refl, sym, ap, subst, ◌⊎◌, inl, inr, ⊎_elim, Ok, Err, Some, None, Option, Result}
use Rattle.std.specs.Prelude.{codes, nat_lt, nat_le, bytes_eq, if◌then◌else◌, ◌||◌}
use Rattle.std.specs.List.{list_any}
use Rattle.dr_meaning.specs.Schema.{Schema, Repetition, required, optional, repeated, Kind, bool_kind, int32_kind, int64_kind, text_kind, Fields, no_fields, field, Shape, leaf, group, is_nonempty, longest_name, greatest_depth, most_leaves, field_names}
use Rattle.dr_meaning.specs.SchemaText.{Token, name, open_brace, close_brace, semicolon, bare, tokens_of, Reading, SchemaProblem, SchemaFault, too_long, syntax, bad_name, duplicate_name, too_deep, too_many_leaves, float_kind, empty_group, on_token, on_name, on_close, on_repetition, unless, expecting, end_group, name_problem, leaf_problem, repetition_of, kind_of, repetition_word, kind_word, at_text_end, append_fields, SpellsFields, SpellsShape, SpellsSchema, IsOptionalSemicolon, OpenGroup, Expected, message_word, message_name, message_brace, first_field, next_field, after_group, kind_or_group, leaf_name, leaf_end, group_name, group_brace, text_end, reading_start, parse_schema, longest_schema, read_tokens}
use Rattle.dr_meaning.specs.SchemaTextLaws.{GoesOn, IsFirstDeadEnd, EndsEarly, SyntaxIsDeadEnd, FloatIsDeadEnd, EmptyGroupIsDeadEnd, GoesOnBefore, BeforeFaultGoesOn}
use Rattle.dr_meaning.proofs.SchemaMachine.{run, then_run, Gives, gives_then, run-append, fault_at, err_same, read_fault, Stopped, Ended}
use Rattle.dr_meaning.proofs.SchemaAccepted.{either_way}
use Rattle.dr_meaning.proofs.SchemaGoesOn.{goes_on}

-- the problems with which no schema goes on
abbrev pub is_dead_end : SchemaProblem → Bool
is_dead_end too_long = false
is_dead_end float_kind = true
is_dead_end empty_group = true
is_dead_end syntax = true
is_dead_end bad_name = false
is_dead_end duplicate_name = false
is_dead_end too_deep = false
is_dead_end too_many_leaves = false

abbrev pub Lives : SchemaProblem → Type 0
Lives p = is_dead_end p ≡ false

-- where a group may end, and where a field may begin
abbrev pub may_close : Expected → Bool
may_close message_word = false
may_close message_name = false
may_close message_brace = false
may_close first_field = false
may_close next_field = true
may_close after_group = true
may_close (kind_or_group r) = false
may_close (leaf_name r k) = false
may_close (leaf_end r k n) = false
may_close (group_name r) = false
may_close (group_brace r n) = false
may_close text_end = false

abbrev pub takes_field : Expected → Bool
takes_field message_word = false
takes_field message_name = false
takes_field message_brace = false
takes_field first_field = true
takes_field next_field = true
takes_field after_group = true
takes_field (kind_or_group r) = false
takes_field (leaf_name r k) = false
takes_field (leaf_end r k n) = false
takes_field (group_name r) = false
takes_field (group_brace r n) = false
takes_field text_end = false

pub takes_from_close : (e : Expected) → may_close e ≡ true → takes_field e ≡ true
takes_from_close next_field h = refl
takes_from_close after_group h = refl
takes_from_close first_field h = refl
takes_from_close _ h = h

pub repetition_read : (r : Repetition) → repetition_of (repetition_word r) ≡ Some r
repetition_read required = refl
repetition_read optional = refl
repetition_read repeated = refl

pub kind_read : (k : Kind) → kind_of (kind_word k) ≡ Some k
kind_read bool_kind = refl
kind_read int32_kind = refl
kind_read int64_kind = refl
kind_read text_kind = refl

-- a repetition where a field may begin
pub field_begins : (e : Expected) (m : Reading) (r : Repetition) → takes_field e ≡ true → on_name e m (repetition_word r) ≡ expecting (kind_or_group r) m
field_begins first_field m r h = ap (on_repetition m) (repetition_read r)
field_begins next_field m r h = ap (on_repetition m) (repetition_read r)
field_begins after_group m r h = ap (on_repetition m) (repetition_read r)
field_begins _ m r h = absurd (cc)

-- a `}` where a group may end
pub group_closes : (e : Expected) (m : Reading) → may_close e ≡ true → on_close e m ≡ end_group m m.groups
group_closes next_field m h = refl
group_closes after_group m h = refl
group_closes _ m h = absurd (cc)

-- a name's fault is no dead end
abbrev HasLiving : Option SchemaProblem → Type 0
HasLiving None = Unit {0}
HasLiving (Some p) = Lives p

name_lives : (m : Reading) (n : List ℕ) → HasLiving (name_problem m n)
name_lives m n = either_way HasLiving (nat_lt longest_name (length n)) (Some bad_name) _ refl (either_way HasLiving (list_any (bytes_eq n) (field_names m.fields)) (Some duplicate_name) _ refl (either_way HasLiving (nat_le greatest_depth (length m.groups)) (Some too_deep) None refl tt))

leaf_lives : (m : Reading) (o : Option SchemaProblem) → HasLiving o → HasLiving (leaf_problem m o)
leaf_lives m (Some p) h = h
leaf_lives m None h = either_way HasLiving (nat_le most_leaves m.leaves) (Some too_many_leaves) None refl tt

gives_unless : (P : Reading → Type 0) (o : Option SchemaProblem) (next : Reading → Result Reading SchemaProblem) (r : Result Reading SchemaProblem) → HasLiving o → Gives P Lives (then_run next r) → Gives P Lives (then_run next (unless o r))
gives_unless P None next r h k = k
gives_unless P (Some p) next r h k = h

-- the machine stands where the group may end, with these groups open
abbrev pub Arrives : List OpenGroup → Reading → Type 0
Arrives gs m = (may_close m.expected ≡ true) × (m.groups ≡ gs)

pub or_false : (b : Bool) → (b || false) ≡ true → b ≡ true
or_false true h = refl
or_false false h = h

pub or_at : (b c : Bool) → b ≡ true → (b || c) ≡ true
or_at b c h = rw h refl

-- behind a group's `}`, with its `;` or without
behind_group : (m : Reading) (b : List Token) → m.expected ≡ after_group → IsOptionalSemicolon b → Gives (Arrives m.groups) Lives (run b m)
behind_group m b e (inl h) = rw h (rw e refl, refl)
behind_group m b e (inr h) = rw (h, e) (refl, refl)

-- the end of a group
inner_ends : (g : OpenGroup) (gs : List OpenGroup) (b : List Token) (m : Reading) → IsOptionalSemicolon b → Arrives (g ∷ gs) m → Gives (Arrives gs) Lives (then_run (run b) (on_close m.expected m))
inner_ends g gs b m o h = rw (group_closes m.expected m h.0, h.1) (behind_group (record m { expected = after_group; fields = append_fields g.before (field g.name g.repetition (group m.fields) no_fields); groups = gs }) b refl o)

-- a leaf, behind its repetition
leaf_rest : (r : Repetition) (k : Kind) (n : List ℕ) (m : Reading) → Gives (Arrives m.groups) Lives (run (name n ∷ semicolon ∷ []) (record m { expected = leaf_name r k }))
leaf_rest r k n m = gives_unless (Arrives m.groups) (leaf_problem (record m { expected = leaf_name r k }) (name_problem (record m { expected = leaf_name r k }) n)) (run (semicolon ∷ [])) (expecting (leaf_end r k n) (record m { expected = leaf_name r k })) (leaf_lives (record m { expected = leaf_name r k }) _ (name_lives (record m { expected = leaf_name r k }) n)) (refl, refl)

leaf_run : (r : Repetition) (k : Kind) (n : List ℕ) (m : Reading) → Gives (Arrives m.groups) Lives (run (name (kind_word k) ∷ name n ∷ semicolon ∷ []) (record m { expected = kind_or_group r }))
leaf_run r bool_kind n m = leaf_rest r bool_kind n m
leaf_run r int32_kind n m = leaf_rest r int32_kind n m
leaf_run r int64_kind n m = leaf_rest r int64_kind n m
leaf_run r text_kind n m = leaf_rest r text_kind n m

-- the state behind a group's `{`
abbrev pub in_group : Repetition → List ℕ → Reading → Reading
in_group r n m = record m { expected = first_field; fields = no_fields; groups = record { before = m.fields; name = n; repetition = r } ∷ m.groups }

-- a group, behind its repetition
group_run : (r : Repetition) (n : List ℕ) (m : Reading) (a b : List Token) → IsOptionalSemicolon b → Gives (Arrives (record { before = m.fields; name = n; repetition = r } ∷ m.groups)) Lives (run a (in_group r n m)) → Gives (Arrives m.groups) Lives (run (name (codes "group") ∷ name n ∷ open_brace ∷ (a ++ close_brace ∷ b)) (record m { expected = kind_or_group r }))
group_run r n m a b o h = gives_unless (Arrives m.groups) (name_problem (record m { expected = group_name r }) n) (run (open_brace ∷ (a ++ close_brace ∷ b))) (expecting (group_brace r n) (record m { expected = group_name r })) (name_lives (record m { expected = group_name r }) n) (rw (run-append a (close_brace ∷ b) (in_group r n m)) (gives_then (Arrives (g ∷ m.groups)) (Arrives m.groups) Lives (run (close_brace ∷ b)) (run a (in_group r n m)) h (λ (m1 : Reading) (k : Arrives (g ∷ m.groups) m1). inner_ends g m.groups b m1 o k)))
  where
    g : OpenGroup
    g = record { before = m.fields; name = n; repetition = r }

mutual
  pub spelled_fields : (fs : Fields) (ts : List Token) (m : Reading) → SpellsFields fs ts → takes_field m.expected ≡ true → (may_close m.expected || is_nonempty fs) ≡ true → Gives (Arrives m.groups) Lives (run ts m)
  spelled_fields no_fields ts m h t c = rw h (or_false (may_close m.expected) c, refl)
  spelled_fields (field n r s fs) ts m h t c = rw (h.2, field_begins m.expected m r t, run-append h.0 h.1 (record m { expected = kind_or_group r })) (gives_then (Arrives m.groups) (Arrives m.groups) Lives (run h.1) (run h.0 (record m { expected = kind_or_group r })) (spelled_shape s n r h.0 m h.3) (λ (m1 : Reading) (a : Arrives m.groups m1). subst (λ (gs : List OpenGroup). Gives (Arrives gs) Lives (run h.1 m1)) a.1 (spelled_fields fs h.1 m1 h.4 (takes_from_close m1.expected a.0) (or_at (may_close m1.expected) (is_nonempty fs) a.0))))

  pub spelled_shape : (s : Shape) (n : List ℕ) (r : Repetition) (ts : List Token) (m : Reading) → SpellsShape s n ts → Gives (Arrives m.groups) Lives (run ts (record m { expected = kind_or_group r }))
  spelled_shape (leaf k) n r ts m h = rw h (leaf_run r k n m)
  spelled_shape (group fs) n r ts m h = rw h.2 (group_run r n m h.0 h.1 h.5 (spelled_fields fs h.0 (in_group r n m) h.3 refl h.4))

-- ---- a whole schema

abbrev pub AtEnd : Reading → Type 0
AtEnd m = m.expected ≡ text_end

message_ends : (m : Reading) → Arrives [] m → Gives AtEnd Lives (run (close_brace ∷ []) m)
message_ends m h = rw (group_closes m.expected m h.0, h.1) refl

-- the state behind the message's `{`
abbrev pub in_message : List ℕ → Reading
in_message n = record { expected = first_field; message = n; fields = no_fields; groups = []; leaves = 0 }

pub spelled_schema : (s : Schema) (ts : List Token) → SpellsSchema s ts → Gives AtEnd Lives (run ts reading_start)
spelled_schema s ts h = rw h.1 (named (nat_lt longest_name (length s.name)))
  where
    named : (b : Bool) → Gives AtEnd Lives (then_run (run (open_brace ∷ (h.0 ++ close_brace ∷ []))) (if b then Err bad_name else Ok (record { expected = message_brace; message = s.name; fields = no_fields; groups = []; leaves = 0 })))
    named true = refl
    named false = rw (run-append h.0 (close_brace ∷ []) (in_message s.name)) (gives_then (Arrives []) AtEnd Lives (run (close_brace ∷ [])) (run h.0 (in_message s.name)) (spelled_fields s.fields h.0 (in_message s.name) h.2 refl h.3) message_ends)

-- ---- dead ends

-- what stops the machine with such a problem begins no schema's tokens
dead_end : (before : List Token) (t : Token) (m : Reading) (p : SchemaProblem) → run before reading_start ≡ Ok m → on_token m t ≡ Err p → is_dead_end p ≡ true → ¬ GoesOn (before ++ t ∷ [])
dead_end before t m p e o d h = contradiction (rw (run-append (before ++ t ∷ []) h.1 reading_start, run-append before (t ∷ []) reading_start, e, o) at (spelled_schema h.0 ((before ++ t ∷ []) ++ h.1) h.2))
  where
    contradiction : Lives p → ⊥
    contradiction l = cc

stopped : (text : List ℕ) (place : ℕ) (p : SchemaProblem) → is_dead_end p ≡ true → Stopped (length text) (tokens_of text) reading_start place p → IsFirstDeadEnd text place
stopped text place p d h = (h.0, h.1, h.2, h.4, h.5, goes_on (bare h.0) h.3 h.6, dead_end (bare h.0) h.1.token h.3 p h.6 h.7 d)

-- the fault at the end of the text
pub end_fault : (e : Expected) (m : Reading) (size place : ℕ) (p : SchemaProblem) → at_text_end e m size ≡ Err (fault_at place p) → (fault_at size syntax ≡ fault_at place p) × (e ≡ text_end → ⊥)
end_fault text_end m size place p h = absurd (cc)
end_fault _ m size place p h = (err_same (fault_at size syntax) (fault_at place p) h, λ q. cc)

-- the text's tokens were read, and the text ended too early
ended : (text : List ℕ) (place : ℕ) (p : SchemaProblem) → Ended (length text) (tokens_of text) reading_start place p → (p ≡ syntax) × EndsEarly text place
ended text place p h = (ap (λ (f : SchemaFault). f.problem) (sym same), (ap (λ (f : SchemaFault). f.place) (sym same), goes_on (bare (tokens_of text)) h.0 h.1, λ s k. (end_fault h.0.expected h.0 (length text) place p h.2).1 (rw h.1 at (spelled_schema s (bare (tokens_of text)) k))))
  where
    same : fault_at (length text) syntax ≡ fault_at place p
    same = (end_fault h.0.expected h.0 (length text) place p h.2).0

-- a fault that is a dead end
dead_fault : (text : List ℕ) (place : ℕ) (p : SchemaProblem) → is_dead_end p ≡ true → parse_schema text ≡ Err (fault_at place p) → IsFirstDeadEnd text place ⊎ ((p ≡ syntax) × EndsEarly text place)
unfolding parse_schema
dead_fault text place p d e = go (nat_lt longest_schema (length text)) e
  where
    long : fault_at longest_schema too_long ≡ fault_at place p → ⊥
    long k = let q = ap (λ (f : SchemaFault). is_dead_end f.problem) k in cc

    found : Stopped (length text) (tokens_of text) reading_start place p ⊎ Ended (length text) (tokens_of text) reading_start place p → IsFirstDeadEnd text place ⊎ ((p ≡ syntax) × EndsEarly text place)
    found (inl h) = inl (stopped text place p d h)
    found (inr h) = inr (ended text place p h)

    go : (b : Bool) → (if b then Err (record { place = longest_schema; problem = too_long }) else read_tokens (length text) (tokens_of text) reading_start) ≡ Err (fault_at place p) → IsFirstDeadEnd text place ⊎ ((p ≡ syntax) × EndsEarly text place)
    go true k = absurd (long (err_same (fault_at longest_schema too_long) (fault_at place p) k))
    go false k = found (read_fault (length text) (tokens_of text) reading_start place p k)

pub syntax_is_dead_end : SyntaxIsDeadEnd
syntax_is_dead_end text place e = ⊎_elim (λ (h : IsFirstDeadEnd text place). inl h) (λ (h : (syntax ≡ syntax) × EndsEarly text place). inr h.1) (dead_fault text place syntax refl e)

-- a fault that is no `syntax`
at_token : (text : List ℕ) (place : ℕ) (p : SchemaProblem) → (p ≡ syntax → ⊥) → IsFirstDeadEnd text place ⊎ ((p ≡ syntax) × EndsEarly text place) → IsFirstDeadEnd text place
at_token text place p d (inl h) = h
at_token text place p d (inr h) = absurd (d h.0)

pub float_is_dead_end : FloatIsDeadEnd
float_is_dead_end text place e = at_token text place float_kind (λ q. cc) (dead_fault text place float_kind refl e)

pub empty_group_is_dead_end : EmptyGroupIsDeadEnd
empty_group_is_dead_end text place e = at_token text place empty_group (λ q. cc) (dead_fault text place empty_group refl e)

-- ---- any fault

pub before_fault_goes_on : BeforeFaultGoesOn
unfolding parse_schema
before_fault_goes_on text place p d e = go (nat_lt longest_schema (length text)) e
  where
    found : Stopped (length text) (tokens_of text) reading_start place p ⊎ Ended (length text) (tokens_of text) reading_start place p → GoesOnBefore text place
    found (inl h) = inl (h.0, h.1, h.2, h.4, h.5, goes_on (bare h.0) h.3 h.6)
    found (inr h) = let k = ended text place p h in inr (k.1.0, k.1.1)

    go : (b : Bool) → (if b then Err (record { place = longest_schema; problem = too_long }) else read_tokens (length text) (tokens_of text) reading_start) ≡ Err (fault_at place p) → GoesOnBefore text place
    go true k = absurd (d (sym (ap (λ (f : SchemaFault). f.problem) (err_same (fault_at longest_schema too_long) (fault_at place p) k))))
    go false k = found (read_fault (length text) (tokens_of text) reading_start place p k)
