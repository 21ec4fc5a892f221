-- At the fault of a name its rule is broken, none before it at that name, and none at the names before.
use Rattle.std.proofs.Common.{◌≡◌, ◌⊎◌, inl, inr, ℕ, ◌+◌, ◌<◌, ◌≤◌, List, [], ◌∷◌, ◌++◌, length, Bool, true, false, refl, sym, ap, ◌∙◌, subst, Ok, Err, Some, None, Option, Result, arith, true≢false}
use Rattle.std.specs.Prelude.{nat_lt, nat_le, bytes_eq, codes, if◌then◌else◌}
use Rattle.std.specs.List.{list_any}
use Rattle.std.proofs.lemmas.Bool.{ltb-true, ltb-false, leb-true, leb-false, cond_both}
use Rattle.dr_meaning.specs.Schema.{Repetition, Kind, Fields, field_names, is_group, depth, leaf_count, longest_name, greatest_depth, most_leaves}
use Rattle.dr_meaning.specs.SchemaText.{Token, name, open_brace, close_brace, semicolon, bad, Placed, bare, tokens_of, Reading, SchemaProblem, SchemaFault, too_long, syntax, bad_name, duplicate_name, too_deep, too_many_leaves, float_kind, on_token, on_name, on_open, on_close, on_semicolon, on_repetition, on_kind, is_float_word, repetition_of, kind_of, repetition_word, kind_word, unless, expecting, end_group, name_problem, leaf_problem, OpenGroup, Expected, message_word, message_name, message_brace, first_field, next_field, after_group, kind_or_group, leaf_name, leaf_end, group_name, group_brace, text_end, reading_start, parse_schema, longest_schema, read_tokens}
use Rattle.dr_meaning.specs.SchemaFaultLaws.{IsBeforeName, leaves_before, BreaksFirst, AllKeepRules, is_of_name, IsBroken, NameFaultIsBroken}
use Rattle.dr_meaning.proofs.SchemaMachine.{fault_at, err_same, read_fault, Stopped, Ended}
use Rattle.dr_meaning.proofs.SchemaAccepted.{Behind, IsRead, reads_to}
use Rattle.dr_meaning.proofs.SchemaDeadEnds.{end_fault}
use Rattle.dr_meaning.proofs.SchemaValid.{IsNamed, IsOpen, ValidAt, Valid, named_from, keeps_run}

-- a problem of names, if there is one, is told so
abbrev Tells : (SchemaProblem → Type 0) → Result Reading SchemaProblem → Type 0
Tells Q (Ok m) = Unit {0}
Tells Q (Err p) = is_of_name p ≡ true → Q p

no_name : {A : Type 0} → false ≡ true → A
no_name h = absurd (true≢false (sym h))

-- what is told of a problem
abbrev TellsOf : (SchemaProblem → Type 0) → Option SchemaProblem → Type 0
TellsOf Q None = Unit {0}
TellsOf Q (Some p) = Q p

tells_unless : (Q : SchemaProblem → Type 0) (o : Option SchemaProblem) (m : Reading) → TellsOf Q o → Tells Q (unless o (Ok m))
tells_unless Q None m h = tt
tells_unless Q (Some p) m h = λ e. h

-- ---- the rules of a name

name_breaks : (m : Reading) (k : Option Kind) (w : List ℕ) → TellsOf (λ p. BreaksFirst p m.groups m.fields k w) (name_problem m w)
name_breaks m k w =
    cond_both (nat_lt longest_name (length w)) (Some bad_name) _ Q (λ e. ltb-true longest_name (length w) e) (λ e.
    let s : length w ≤ longest_name = ltb-false longest_name (length w) e in
    cond_both (list_any (bytes_eq w) (field_names m.fields)) (Some duplicate_name) _ Q (λ f. (λ l. omega (arith, s, l), f)) (λ f.
    cond_both (nat_le greatest_depth (length m.groups)) (Some too_deep) None Q
    (λ g. let d : greatest_depth ≤ length m.groups = leb-true greatest_depth (length m.groups) g in (λ l. omega (arith, s, l), f, omega (arith, d))) (λ g. tt)))
  where
    Q : Option SchemaProblem → Type 0
    Q o = TellsOf (λ p. BreaksFirst p m.groups m.fields k w) o

leaf_breaks : (m : Reading) (j : Kind) (w : List ℕ) → m.leaves ≡ leaves_before m.groups + leaf_count m.fields → TellsOf (λ p. BreaksFirst p m.groups m.fields (Some j) w) (leaf_problem m (name_problem m w))
leaf_breaks m j w l =
    cond_both (nat_lt longest_name (length w)) (Some bad_name) _ Q (λ e. ltb-true longest_name (length w) e) (λ e.
    let s : length w ≤ longest_name = ltb-false longest_name (length w) e in
    cond_both (list_any (bytes_eq w) (field_names m.fields)) (Some duplicate_name) _ Q (λ f. (λ l. omega (arith, s, l), f)) (λ f.
    cond_both (nat_le greatest_depth (length m.groups)) (Some too_deep) None Q
    (λ g. let d : greatest_depth ≤ length m.groups = leb-true greatest_depth (length m.groups) g in (λ l. omega (arith, s, l), f, omega (arith, d)))
    (λ g. let d : length m.groups < greatest_depth = leb-false greatest_depth (length m.groups) g in
    cond_both (nat_le most_leaves m.leaves) (Some too_many_leaves) None (TellsOf R)
    (λ n. let b : most_leaves ≤ m.leaves = leb-true most_leaves m.leaves n in (λ l. omega (arith, s, l), f, omega (arith, d), (j, refl), omega (arith, b, l))) (λ n. tt))))
  where
    R : SchemaProblem → Type 0
    R p = BreaksFirst p m.groups m.fields (Some j) w

    Q : Option SchemaProblem → Type 0
    Q o = TellsOf R (leaf_problem m o)

-- ---- the states of the machine

keep_from : (gs : List OpenGroup) (fs : Fields) → is_group fs ≡ true → length gs + depth fs ≤ 32 → IsOpen gs → AllKeepRules gs fs
keep_from [] fs g d o = (g, omega (arith, d))
keep_from (x ∷ gs) fs g d o = ((g, omega (arith, d)), o.0.0, o.0.1, keep_from gs x.before o.1 o.2 o.3)

-- the name w at a state that the tokens u brought
abbrev Broken : List Token → List ℕ → SchemaProblem → Type 0
Broken u w p = IsBroken p u w

before_kind : (r : Repetition) (k : Kind) (m : Reading) (u : List Token) → Behind (name (repetition_word r) ∷ name (kind_word k) ∷ []) m u → IsBeforeName m.groups m.fields (Some k) u
before_kind r k m u h = (m.message, r, h.0, h.1, h.2, h.3, h.4)

before_group : (r : Repetition) (m : Reading) (u : List Token) → Behind (name (repetition_word r) ∷ name (codes "group") ∷ []) m u → IsBeforeName m.groups m.fields None u
before_group r m u h = (m.message, r, h.0, h.1, h.2, h.3, h.4)

weaker : (P Q : SchemaProblem → Type 0) → ((p : SchemaProblem) → P p → Q p) → (o : Option SchemaProblem) → TellsOf P o → TellsOf Q o
weaker P Q f None h = tt
weaker P Q f (Some p) h = f p h

at_repetition : (Q : SchemaProblem → Type 0) (m : Reading) (o : Option Repetition) → Tells Q (on_repetition m o)
at_repetition Q m None = no_name
at_repetition Q m (Some r) = tt

at_kind : (Q : SchemaProblem → Type 0) (m : Reading) (r : Repetition) (w : List ℕ) (o : Option Kind) → Tells Q (on_kind m r w o)
at_kind Q m r w (Some k) = tt
at_kind Q m r w None = cond_both (bytes_eq w (codes "group")) (expecting (group_name r) m) _ (Tells Q) (λ e. tt) (λ e. cond_both (is_float_word w) (Err float_kind) (Err syntax) (Tells Q) (λ f. no_name) (λ f. no_name))

at_name : (e : Expected) (m : Reading) (u : List Token) (w : List ℕ) → IsRead e m u → ValidAt e m → Tells (Broken u w) (on_name e m w)
at_name message_word m u w h v = cond_both (bytes_eq w (codes "message")) (expecting message_name m) (Err syntax) (Tells (Broken u w)) (λ e. tt) (λ e. no_name)
at_name message_name m u w h v = cond_both (nat_lt longest_name (length w)) (Err bad_name) (Ok (record m { expected = message_brace; message = w })) (Tells (Broken u w)) (λ e q. inl (refl, h.0, ltb-true longest_name (length w) e)) (λ e. tt)
at_name message_brace m u w h v = no_name
at_name first_field m u w h v = at_repetition (Broken u w) m (repetition_of w)
at_name next_field m u w h v = at_repetition (Broken u w) m (repetition_of w)
at_name after_group m u w h v = at_repetition (Broken u w) m (repetition_of w)
at_name (kind_or_group r) m u w h v = at_kind (Broken u w) m r w (kind_of w)
at_name (leaf_name r k) m u w h v = tells_unless (Broken u w) (leaf_problem m (name_problem m w)) (record m { expected = leaf_end r k w })
    (weaker (λ p. BreaksFirst p m.groups m.fields (Some k) w) (Broken u w) (λ p b. inr (m.groups, m.fields, Some k, before_kind r k m u h, keep_from m.groups m.fields v.2 v.3 v.1, omega (arith, v.4, v.5), b)) (leaf_problem m (name_problem m w)) (leaf_breaks m k w (omega (arith, v.4))))
at_name (leaf_end r k n) m u w h v = no_name
at_name (group_name r) m u w h v = tells_unless (Broken u w) (name_problem m w) (record m { expected = group_brace r w })
    (weaker (λ p. BreaksFirst p m.groups m.fields None w) (Broken u w) (λ p b. inr (m.groups, m.fields, None, before_group r m u h, keep_from m.groups m.fields v.2 v.3 v.1, omega (arith, v.4, v.5), b)) (name_problem m w) (name_breaks m None w))
at_name (group_brace r n) m u w h v = no_name
at_name text_end m u w h v = no_name

-- ---- other tokens have no problem of names

at_open : (Q : SchemaProblem → Type 0) (e : Expected) (m : Reading) → Tells Q (on_open e m)
at_open Q message_brace m = tt
at_open Q (group_brace r n) m = tt
at_open Q _ m = no_name

at_end_group : (Q : SchemaProblem → Type 0) (m : Reading) (gs : List OpenGroup) → Tells Q (end_group m gs)
at_end_group Q m [] = tt
at_end_group Q m (g ∷ gs) = tt

at_close : (Q : SchemaProblem → Type 0) (e : Expected) (m : Reading) → Tells Q (on_close e m)
at_close Q next_field m = at_end_group Q m m.groups
at_close Q after_group m = at_end_group Q m m.groups
at_close Q _ m = no_name

at_semicolon : (Q : SchemaProblem → Type 0) (e : Expected) (m : Reading) → Tells Q (on_semicolon e m)
at_semicolon Q (leaf_end r k n) m = tt
at_semicolon Q after_group m = tt
at_semicolon Q _ m = no_name

-- the token at a fault of a name is a name that is broken
abbrev IsBrokenName : List Token → Token → SchemaProblem → Type 0
IsBrokenName u t p = (w : List ℕ) × (t ≡ name w) × IsBroken p u w

told : (Q : SchemaProblem → Type 0) (r : Result Reading SchemaProblem) (p : SchemaProblem) → Tells Q r → r ≡ Err p → is_of_name p ≡ true → Q p
told Q r p h e n = (subst (Tells Q) e h) n

at_token : (t : Token) (m : Reading) (u : List Token) (p : SchemaProblem) → IsRead m.expected m u → Valid m → on_token m t ≡ Err p → is_of_name p ≡ true → IsBrokenName u t p
at_token (name w) m u p h v e n = (w, refl, told (Broken u w) (on_name m.expected m w) p (at_name m.expected m u w h v) e n)
at_token open_brace m u p h v e n = told (IsBrokenName u open_brace) (on_open m.expected m) p (at_open (IsBrokenName u open_brace) m.expected m) e n
at_token close_brace m u p h v e n = told (IsBrokenName u close_brace) (on_close m.expected m) p (at_close (IsBrokenName u close_brace) m.expected m) e n
at_token semicolon m u p h v e n = told (IsBrokenName u semicolon) (on_semicolon m.expected m) p (at_semicolon (IsBrokenName u semicolon) m.expected m) e n
at_token bad m u p h v e n = told (IsBrokenName u bad) (Err syntax) p no_name e n

-- ---- the fault of a text

named_front : (ts : List Placed) (us : List Placed) → IsNamed (bare (ts ++ us)) → IsNamed (bare ts)
named_front [] us h = tt
named_front (t ∷ ts) us h = by_token t.token h (named_front ts us)
  where
    by_token : (x : Token) → IsNamed (x ∷ bare (ts ++ us)) → (IsNamed (bare (ts ++ us)) → IsNamed (bare ts)) → IsNamed (x ∷ bare ts)
    by_token (name w) h f = (h.0, f h.1)
    by_token open_brace h f = f h
    by_token close_brace h f = f h
    by_token semicolon h f = f h
    by_token bad h f = f h

abbrev BrokenAt : List ℕ → ℕ → SchemaProblem → Type 0
BrokenAt text place p = (before : List Placed) × (w : List ℕ) × (after : List Placed) × (tokens_of text ≡ before ++ record { place = place; token = name w } ∷ after) × IsBroken p (bare before) w

stopped : (text : List ℕ) (place : ℕ) (p : SchemaProblem) → is_of_name p ≡ true → Stopped (length text) (tokens_of text) reading_start place p → BrokenAt text place p
stopped text place p n h =
    let named : IsNamed (bare h.0) = named_front h.0 (h.1 ∷ h.2) (subst (λ ts. IsNamed (bare ts)) h.4 (named_from text 0 [] tt)) in
    let v : Valid h.3 = rw h.6 at (keeps_run (bare h.0) reading_start named (refl, refl, refl)) in
    let b : IsBrokenName (bare h.0) h.1.token p = at_token h.1.token h.3 (bare h.0) p (reads_to (bare h.0) h.3 h.6) v h.7 n in
    (h.0, b.0, h.2, h.4 ∙ ap (λ (t : Placed). h.0 ++ t ∷ h.2) (same h.1 b.0 h.5 b.1), b.2)
  where
    same : (t : Placed) (w : List ℕ) → t.place ≡ place → t.token ≡ name w → t ≡ record { place = place; token = name w }
    same t w e f = rw (← e, ← f) refl

pub name_fault_is_broken : NameFaultIsBroken
unfolding parse_schema
name_fault_is_broken text place p n e = go (nat_lt longest_schema (length text)) e
  where
    found : Stopped (length text) (tokens_of text) reading_start place p ⊎ Ended (length text) (tokens_of text) reading_start place p → BrokenAt text place p
    found (inl h) = stopped text place p n h
    found (inr h) = absurd (true≢false (sym (ap (λ (f : SchemaFault). is_of_name f.problem) (end_fault h.0.expected h.0 (length text) place p h.2).0 ∙ n)))

    go : (b : Bool) → (if b then Err (record { place = longest_schema; problem = too_long }) else read_tokens (length text) (tokens_of text) reading_start) ≡ Err (fault_at place p) → BrokenAt text place p
    go true k = absurd (true≢false (sym (ap (λ (f : SchemaFault). is_of_name f.problem) (err_same (fault_at longest_schema too_long) (fault_at place p) k) ∙ n)))
    go false k = found (read_fault (length text) (tokens_of text) reading_start place p k)
