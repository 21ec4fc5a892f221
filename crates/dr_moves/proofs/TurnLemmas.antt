-- Turns over the columns of moves give these moves exactly where the moves follow the course.
use Rattle.std.proofs.Common.{◌≡◌, ℕ, zero, suc, List, [], ◌∷◌, Bool, true, false, Option, None, Some, refl, sym, ap, ap₂, subst, ◌∙◌, true≢false}
use Rattle.std.specs.Prelude.{◌&&◌, ◌==◌, nat_lt, if◌then◌else◌}
use Rattle.std.proofs.lemmas.Bool.{and_parts, eq-eqb, eqb-true}
use Rattle.dr_meaning.specs.Record.{Value}
use Rattle.dr_meaning.specs.Column.{Triplet, triplet}
use Rattle.dr_meaning.specs.Walk.{Move, enter, value, leave}
use Rattle.dr_meaning.specs.AutomatonLaws.{next_level}
use Rattle.dr_moves.specs.Course.{reach, are_open, comes_to, Give, Visit, Items, nothing, give, visit}
use Rattle.dr_moves.specs.Turning.{is_no_value, Stack, between, in_record, in_items, in_absent, lapped, entering, has_its_value, Turn, gives, goes_on, done, stops, definition_of, level_of, definitions_of, is_due, turn_given, is_null, turn_absent, turn}
use Rattle.dr_moves.proofs.Following.{next_definition, Follows, ended, record_begun, record_ended, items_done, given, visited, skipped, absent_done, absent_given, lap_more, lap_last, entered, heads_of}

pub same_definition : (ms : List Move) (i : ℕ) → definition_of (heads_of ms i) ≡ next_definition ms i
same_definition [] i = refl
same_definition (enter k ∷ ms) i = same_definition ms i
same_definition (leave k ∷ ms) i = same_definition ms i
same_definition (value j t ∷ ms) i = by_test (j == i) (same_definition ms i)
  where
    by_test : (b : Bool) → definition_of (heads_of ms i) ≡ next_definition ms i → definition_of (if b then Some t else heads_of ms i) ≡ (if b then t.definition else next_definition ms i)
    by_test true e = refl
    by_test false e = e

pub same_level : (ms : List Move) (i : ℕ) → level_of (heads_of ms i) ≡ next_level i ms
same_level [] i = refl
same_level (enter k ∷ ms) i = same_level ms i
same_level (leave k ∷ ms) i = same_level ms i
same_level (value j t ∷ ms) i = by_test (j == i) (same_level ms i)
  where
    by_test : (b : Bool) → level_of (heads_of ms i) ≡ next_level i ms → level_of (if b then Some t else heads_of ms i) ≡ (if b then t.repetition else next_level i ms)
    by_test true e = refl
    by_test false e = e

pub same_definitions : (ms : List Move) → definitions_of (heads_of ms) ≡ next_definition ms
same_definitions ms = λ j i. same_definition ms i j

pub heads_here : (i : ℕ) (t : Triplet) (ms : List Move) → heads_of (value i t ∷ ms) i ≡ Some t
heads_here i t ms = rw (eq-eqb i i refl) refl

-- what a turn does agrees with the moves that follow
abbrev pub Agrees : Items → Turn → List Move → Type 0
Agrees top (gives m S) ms = (rest : List Move) × (ms ≡ m ∷ rest) × Follows top S rest
Agrees top (goes_on S) ms = Follows top S ms
Agrees top done ms = ms ≡ []
Agrees top stops ms = ⊥

pub turn_agrees : (top : Items) (S : Stack) (ms : List Move) → Follows top S ms → Agrees top (turn top S (heads_of ms)) ms
turn_agrees top _ _ ended = refl
turn_agrees top _ _ (record_begun n ms f) = (ms, refl, subst (λ (x : ℕ → ℕ). Follows top (in_items top 0 x (in_record n)) ms) (sym (same_definitions ms)) f)
turn_agrees top _ _ (record_ended n ms f) = (ms, refl, f)
turn_agrees top _ _ (items_done r next S ms f) = f
turn_agrees top _ _ (given g I r next S t ms p q h f) =
    let due : is_due g r next t ≡ true = rw (eq-eqb t.repetition r p, q, h) refl in
    rw (heads_here g.leaf t ms, due) (ms, refl, f)
turn_agrees top _ _ (visited v B I r next S ms o f) = rw (same_definition ms v.leaf, o) (ms, refl, subst (λ (x : ℕ → ℕ). Follows top (in_items B r x (lapped v B (in_items I r next S))) ms) (sym (same_definitions ms)) f)
turn_agrees top _ _ (skipped v B I r next S ms o f) = rw (same_definition ms v.leaf, o) f
turn_agrees top _ _ (absent_done r d S ms f) = f
turn_agrees top _ _ (absent_given i is r d S ms f) =
    let due : is_null r d (triplet r d None) ≡ true = rw (eq-eqb r r refl, eq-eqb d d refl) refl in
    rw (heads_here i (triplet r d None) ms, due) (ms, refl, f)
turn_agrees top _ _ (lap_more v B S ms e f) = (ms, refl, rw (same_level ms v.leaf, e) f)
turn_agrees top _ _ (lap_last v B S ms e f) = (ms, refl, rw (same_level ms v.leaf, e) f)
turn_agrees top _ _ (entered v B S ms f) = (ms, refl, subst (λ (x : ℕ → ℕ). Follows top (in_items B v.level x (lapped v B S)) ms) (sym (same_definitions ms)) f)

-- and what agrees with a turn follows
after_given : (top : Items) (g : Give) (I : Items) (r : ℕ) (next : ℕ → ℕ) (S : Stack) (ms : List Move) (o : Option Triplet) → Agrees top (turn_given g I r next S o) ms → Follows top (in_items (give g I) r next S) ms
after_given top g I r next S ms None h = absurd h
after_given top g I r next S ms (Some t) h = by_due (is_due g r next t) refl h
  where
    by_due : (b : Bool) → is_due g r next t ≡ b → Agrees top (if b then gives (value g.leaf t) (in_items I r next S) else stops) ms → Follows top (in_items (give g I) r next S) ms
    by_due false e h = absurd h
    by_due true e h =
        let a = and_parts (t.repetition == r) (comes_to next g t.definition && has_its_value g t) e in
        let b = and_parts (comes_to next g t.definition) (has_its_value g t) a.1 in
        subst (Follows top (in_items (give g I) r next S)) (sym h.1) (given g I r next S t h.0 (eqb-true t.repetition r a.0) b.0 b.1 h.2)

after_absent : (top : Items) (i : ℕ) (is : List ℕ) (r d : ℕ) (S : Stack) (ms : List Move) (o : Option Triplet) → Agrees top (turn_absent i is r d S o) ms → Follows top (in_absent (i ∷ is) r d S) ms
after_absent top i is r d S ms None h = absurd h
after_absent top i is r d S ms (Some t) h = by_due (is_null r d t) refl h
  where
    no_value : (v : Option Value) → is_no_value v ≡ true → v ≡ None
    no_value None h = refl
    no_value (Some v) h = absurd (true≢false (sym h))

    by_due : (b : Bool) → is_null r d t ≡ b → Agrees top (if b then gives (value i t) (in_absent is r d S) else stops) ms → Follows top (in_absent (i ∷ is) r d S) ms
    by_due false e h = absurd h
    by_due true e h =
        let a = and_parts (t.repetition == r) ((t.definition == d) && is_no_value t.value) e in
        let b = and_parts (t.definition == d) (is_no_value t.value) a.1 in
        let z : t ≡ triplet r d None = ap₂ (λ (x y : ℕ). triplet x y t.value) (eqb-true t.repetition r a.0) (eqb-true t.definition d b.0) ∙ ap (λ (x : Option Value). triplet r d x) (no_value t.value b.1) in
        subst (Follows top (in_absent (i ∷ is) r d S)) (sym (h.1 ∙ ap (λ (x : Triplet). value i x ∷ h.0) z)) (absent_given i is r d S h.0 h.2)

after_visit : (top : Items) (v : Visit) (B I : Items) (r : ℕ) (next after_next : ℕ → ℕ) (d : ℕ) (S : Stack) (ms : List Move) (b : Bool) → (are_open next v.gates && nat_lt v.low d) ≡ b
    → ((rest : List Move) → ms ≡ enter v.number ∷ rest → (after_next ≡ next_definition rest) × (d ≡ next_definition rest v.leaf)) → (d ≡ next_definition ms v.leaf)
    → Agrees top (if b then gives (enter v.number) (in_items B r after_next (lapped v B (in_items I r next S))) else goes_on (in_absent v.leaves r (reach next v.gates v.low) (in_items I r next S))) ms → Follows top (in_items (visit v B I) r next S) ms
after_visit top v B I r next m d S ms true e q z h =
    let k = q h.0 h.1 in
    subst (Follows top (in_items (visit v B I) r next S)) (sym h.1) (visited v B I r next S h.0 (subst (λ (x : ℕ). (are_open next v.gates && nat_lt v.low x) ≡ true) k.1 e) (subst (λ (x : ℕ → ℕ). Follows top (in_items B r x (lapped v B (in_items I r next S))) h.0) k.0 h.2))
after_visit top v B I r next m d S ms false e q z h = skipped v B I r next S ms (subst (λ (x : ℕ). (are_open next v.gates && nat_lt v.low x) ≡ false) z e) h

after_lap : (top : Items) (v : Visit) (B : Items) (S : Stack) (rest : List Move) (b : Bool) → (next_level v.leaf rest == v.level) ≡ b → Follows top (if b then entering v B S else S) rest → Follows top (lapped v B S) (leave v.number ∷ rest)
after_lap top v B S rest true e f = lap_more v B S rest e f
after_lap top v B S rest false e f = lap_last v B S rest e f

definitions_behind : (ms : List Move) (k : ℕ) (rest : List Move) → ms ≡ enter k ∷ rest → definitions_of (heads_of ms) ≡ next_definition rest
definitions_behind ms k rest e = ap (λ (x : List Move). definitions_of (heads_of x)) e ∙ same_definitions (enter k ∷ rest)

pub agreed_follows : (top : Items) (S : Stack) (ms : List Move) → Agrees top (turn top S (heads_of ms)) ms → Follows top S ms
agreed_follows top (between zero) ms h = subst (Follows top (between 0)) (sym h) ended
agreed_follows top (between (suc n)) ms h = subst (Follows top (between (suc n))) (sym h.1)
    (record_begun n h.0 (subst (λ (x : ℕ → ℕ). Follows top (in_items top 0 x (in_record n)) h.0) (definitions_behind ms 0 h.0 h.1) h.2))
agreed_follows top (in_record n) ms h = subst (Follows top (in_record n)) (sym h.1) (record_ended n h.0 h.2)
agreed_follows top (in_items nothing r next S) ms h = items_done r next S ms h
agreed_follows top (in_items (give g I) r next S) ms h = after_given top g I r next S ms (heads_of ms g.leaf) h
agreed_follows top (in_items (visit v B I) r next S) ms h = after_visit top v B I r next (definitions_of (heads_of ms)) (definition_of (heads_of ms v.leaf)) S ms (are_open next v.gates && nat_lt v.low (definition_of (heads_of ms v.leaf))) refl (λ rest e. (definitions_behind ms v.number rest e, ap (λ (x : List Move). definition_of (heads_of x v.leaf)) e ∙ same_definition (enter v.number ∷ rest) v.leaf)) (same_definition ms v.leaf) h
agreed_follows top (in_absent [] r d S) ms h = absent_done r d S ms h
agreed_follows top (in_absent (i ∷ is) r d S) ms h = after_absent top i is r d S ms (heads_of ms i) h
agreed_follows top (lapped v B S) ms h =
    let e : level_of (heads_of ms v.leaf) ≡ next_level v.leaf h.0 = ap (λ (x : List Move). level_of (heads_of x v.leaf)) h.1 ∙ same_level (leave v.number ∷ h.0) v.leaf in
    subst (Follows top (lapped v B S)) (sym h.1) (after_lap top v B S h.0 (next_level v.leaf h.0 == v.level) refl (subst (λ (x : ℕ). Follows top (if x == v.level then entering v B S else S) h.0) e h.2))
agreed_follows top (entering v B S) ms h = subst (Follows top (entering v B S)) (sym h.1)
    (entered v B S h.0 (subst (λ (x : ℕ → ℕ). Follows top (in_items B v.level x (lapped v B S)) h.0) (definitions_behind ms v.number h.0 h.1) h.2))
