-- Whatever comes next in the columns, what a turn gives can be gone on from to the walk of some records.
use Rattle.std.proofs.Common.{◌≡◌, ℕ, zero, suc, List, [], ◌∷◌, ◌++◌, length, Bool, true, false, Option, None, Some, refl, sym, ap, ap₂, subst, ◌∙◌, append_assoc, true≢false}
use Rattle.std.specs.List.{list_all}
use Rattle.std.specs.Prelude.{◌||◌, nat_lt, ◌&&◌, ◌==◌, if◌then◌else◌}
use Rattle.std.proofs.lemmas.Bool.{and_parts, eq-eqb, eqb-true}
use Rattle.dr_meaning.specs.Schema.{Fields}
use Rattle.dr_meaning.specs.Path.{Step}
use Rattle.dr_meaning.specs.Automaton.{picks}
use Rattle.dr_meaning.specs.Record.{Value, Node, is_record}
use Rattle.dr_meaning.specs.Column.{Triplet, triplet}
use Rattle.dr_meaning.specs.Walk.{Move, enter, value, leave, walk}
use Rattle.dr_moves.specs.Course.{reach, are_open, comes_to, Give, Visit, Items, nothing, give, visit, course}
use Rattle.dr_moves.specs.Turning.{is_no_value, Stack, between, in_record, in_items, in_absent, lapped, entering, has_its_value, Turn, gives, goes_on, done, stops, definition_of, level_of, definitions_of, is_due, turn_given, is_null, turn_absent, turn}
use Rattle.dr_moves.proofs.Made.{nulls, Made, made_nothing, made_give, made_absent, made_visit, no_lap, one_lap, MadeRecords, no_record, one_record}
use Rattle.dr_moves.proofs.FollowingLemmas.{Rest, around_visit, around_lap}
use Rattle.dr_moves.proofs.Apart.{Apart}
use Rattle.dr_moves.proofs.NodesMade.{some_value, records_made}

-- ---- something can be made of whatever is still to be gone through

given_some : (g : Give) (r : ℕ) (next : ℕ → ℕ) → (t : Triplet) × (t.repetition ≡ r) × (comes_to next g t.definition ≡ true) × (has_its_value g t ≡ true)
given_some g r next = by_value (some_level (are_open next g.gates) refl)
  where
    or_true : (b : Bool) → (b || true) ≡ true
    or_true true = refl
    or_true false = refl

    some_level : (b : Bool) → are_open next g.gates ≡ b → (d : ℕ) × (comes_to next g d ≡ true)
    some_level true e = (g.full, rw (e, eq-eqb g.full g.full refl) (or_true (g.full == g.low)))
    some_level false e = (reach next g.gates g.low, rw e (eq-eqb (reach next g.gates g.low) (reach next g.gates g.low) refl))

    by_value : ((d : ℕ) × (comes_to next g d ≡ true)) → (t : Triplet) × (t.repetition ≡ r) × (comes_to next g t.definition ≡ true) × (has_its_value g t ≡ true)
    by_value x = by_test (x.0 == g.full) refl
      where
        by_test : (b : Bool) → (x.0 == g.full) ≡ b → (t : Triplet) × (t.repetition ≡ r) × (comes_to next g t.definition ≡ true) × (has_its_value g t ≡ true)
        by_test true e = let v = some_value g.kind in (triplet r x.0 (Some v.0), refl, x.1, rw (e, v.1) refl)
        by_test false e = (triplet r x.0 None, refl, x.1, rw e refl)

made_some : (I : Items) (r : ℕ) (next : ℕ → ℕ) → (a : List Move) × Made I r next a
made_some nothing r next = ([], made_nothing r next)
made_some (give g I) r next = let t = given_some g r next in let k = made_some I r next in (value g.leaf t.0 ∷ k.0, made_give g I r next t.0 k.0 t.1 t.2 t.3 k.1)
made_some (visit v B I) r next = by_test (are_open next v.gates) refl (made_some B r next) (made_some I r next)
  where
    by_test : (b : Bool) → are_open next v.gates ≡ b → ((a : List Move) × Made B r next a) → ((a : List Move) × Made I r next a) → (a : List Move) × Made (visit v B I) r next a
    by_test true e x k = (enter v.number ∷ (x.0 ++ leave v.number ∷ k.0), made_visit v B I r next next x.0 [] k.0 e x.1 (no_lap v B) k.1)
    by_test false e x k = (nulls v.leaves r (reach next v.gates v.low) ++ k.0, made_absent v B I r next k.0 k.1)

records_some : (top : Items) (n : ℕ) → (a : List Move) × MadeRecords top n a
records_some top zero = ([], no_record)
records_some top (suc n) = let x = made_some top 0 (λ i. 0) in let k = records_some top n in (enter 0 ∷ (x.0 ++ leave 0 ∷ k.0), one_record n (λ i. 0) x.0 k.0 x.1 k.1)

pub rest_some : (top : Items) (S : Stack) → (a : List Move) × Rest top S a
rest_some top (between n) = records_some top n
rest_some top (in_record n) = let k = records_some top n in (leave 0 ∷ k.0, (k.0, refl, k.1))
rest_some top (in_items I r next S) = let x = made_some I r next in let k = rest_some top S in (x.0 ++ k.0, (x.0, k.0, refl, x.1, k.1))
rest_some top (in_absent is r d S) = let k = rest_some top S in (nulls is r d ++ k.0, (k.0, refl, k.1))
rest_some top (lapped v B S) = let k = rest_some top S in (leave v.number ∷ k.0, ([], k.0, refl, no_lap v B, k.1))
rest_some top (entering v B S) = let k = rest_some top S in (k.0, ([], k.0, refl, no_lap v B, k.1))

-- ---- a turn, backwards

abbrev pub AgreesRest : Items → Turn → List Move → Type 0
AgreesRest top (gives m S) ms = (rest : List Move) × (ms ≡ m ∷ rest) × Rest top S rest
AgreesRest top (goes_on S) ms = Rest top S ms
AgreesRest top done ms = ms ≡ []
AgreesRest top stops ms = ⊥

rest_given : (top : Items) (g : Give) (I : Items) (r : ℕ) (next : ℕ → ℕ) (S : Stack) (ms : List Move) (o : Option Triplet) → AgreesRest top (turn_given g I r next S o) ms → Rest top (in_items (give g I) r next S) ms
rest_given top g I r next S ms None h = absurd h
rest_given top g I r next S ms (Some t) h = by_due (is_due g r next t) refl h
  where
    by_due : (b : Bool) → is_due g r next t ≡ b → AgreesRest top (if b then gives (value g.leaf t) (in_items I r next S) else stops) ms → Rest top (in_items (give g I) r next S) ms
    by_due false e h = absurd h
    by_due true e h =
        let a = and_parts (t.repetition == r) (comes_to next g t.definition && has_its_value g t) e in
        let b = and_parts (comes_to next g t.definition) (has_its_value g t) a.1 in
        (value g.leaf t ∷ h.2.0, h.2.1, h.1 ∙ ap (λ (x : List Move). value g.leaf t ∷ x) h.2.2, made_give g I r next t h.2.0 (eqb-true t.repetition r a.0) b.0 b.1 h.2.3, h.2.4)

rest_absent : (top : Items) (i : ℕ) (is : List ℕ) (r d : ℕ) (S : Stack) (ms : List Move) (o : Option Triplet) → AgreesRest top (turn_absent i is r d S o) ms → Rest top (in_absent (i ∷ is) r d S) ms
rest_absent top i is r d S ms None h = absurd h
rest_absent top i is r d S ms (Some t) h = by_due (is_null r d t) refl h
  where
    no_value : (v : Option Value) → is_no_value v ≡ true → v ≡ None
    no_value None h = refl
    no_value (Some v) h = absurd (true≢false (sym h))

    by_due : (b : Bool) → is_null r d t ≡ b → AgreesRest top (if b then gives (value i t) (in_absent is r d S) else stops) ms → Rest top (in_absent (i ∷ is) r d S) ms
    by_due false e h = absurd h
    by_due true e h =
        let a = and_parts (t.repetition == r) ((t.definition == d) && is_no_value t.value) e in
        let b = and_parts (t.definition == d) (is_no_value t.value) a.1 in
        let z : t ≡ triplet r d None = ap₂ (λ (x y : ℕ). triplet x y t.value) (eqb-true t.repetition r a.0) (eqb-true t.definition d b.0) ∙ ap (λ (x : Option Value). triplet r d x) (no_value t.value b.1) in
        (h.2.0, h.1 ∙ ap₂ (λ (x : Triplet) (y : List Move). value i x ∷ y) z h.2.1, h.2.2)

rest_visit : (top : Items) (v : Visit) (B I : Items) (r : ℕ) (next after : ℕ → ℕ) (S : Stack) (ms : List Move) (d : ℕ) (b : Bool) → (are_open next v.gates && nat_lt v.low d) ≡ b
    → AgreesRest top (if b then gives (enter v.number) (in_items B r after (lapped v B (in_items I r next S))) else goes_on (in_absent v.leaves r (reach next v.gates v.low) (in_items I r next S))) ms → Rest top (in_items (visit v B I) r next S) ms
rest_visit top v B I r next after S ms d true e h =
    let k = h.2 in (
      enter v.number ∷ (k.0 ++ leave v.number ∷ (k.4.0 ++ k.4.4.0)),
      k.4.4.1,
      h.1 ∙ around_visit (enter v.number) (leave v.number) h.0 k.0 k.1 k.4.0 k.4.1 k.4.4.0 k.4.4.1 k.2 k.4.2 k.4.4.2,
      made_visit v B I r next after k.0 k.4.0 k.4.4.0 (and_parts _ _ e).0 k.3 k.4.3 k.4.4.3,
      k.4.4.4,
    )
rest_visit top v B I r next after S ms d false e k = (
  nulls v.leaves r (reach next v.gates v.low) ++ k.2.0,
  k.2.1,
  k.1 ∙ ap (λ (x : List Move). nulls v.leaves r (reach next v.gates v.low) ++ x) k.2.2 ∙ sym (append_assoc (nulls v.leaves r (reach next v.gates v.low)) k.2.0 k.2.1),
  made_absent v B I r next k.2.0 k.2.3,
  k.2.4,
)

rest_lap : (top : Items) (v : Visit) (B : Items) (S : Stack) (ms rest : List Move) (b : Bool) → ms ≡ leave v.number ∷ rest → Rest top (if b then entering v B S else S) rest → Rest top (lapped v B S) ms
rest_lap top v B S ms rest true e k = (k.0, k.1, e ∙ ap (λ (x : List Move). leave v.number ∷ x) k.2, k.3, k.4)
rest_lap top v B S ms rest false e k = ([], rest, e, no_lap v B, k)

pub turn_back : (top : Items) (S : Stack) (heads : ℕ → Option Triplet) (ms : List Move) → AgreesRest top (turn top S heads) ms → Rest top S ms
turn_back top (between zero) heads ms h = subst (MadeRecords top 0) (sym h) no_record
turn_back top (between (suc n)) heads ms h = let k = h.2 in
    subst (MadeRecords top (suc n)) (sym (h.1 ∙ ap (λ (x : List Move). enter 0 ∷ x) (k.2 ∙ ap (λ (x : List Move). k.0 ++ x) k.4.1))) (one_record n (definitions_of heads) k.0 k.4.0 k.3 k.4.2)
turn_back top (in_record n) heads ms h = (h.0, h.1, h.2)
turn_back top (in_items nothing r next S) heads ms h = ([], ms, refl, made_nothing r next, h)
turn_back top (in_items (give g I) r next S) heads ms h = rest_given top g I r next S ms (heads g.leaf) h
turn_back top (in_items (visit v B I) r next S) heads ms h = rest_visit top v B I r next (definitions_of heads) S ms (definition_of (heads v.leaf)) (are_open next v.gates && nat_lt v.low (definition_of (heads v.leaf))) refl h
turn_back top (in_absent [] r d S) heads ms h = (ms, refl, h)
turn_back top (in_absent (i ∷ is) r d S) heads ms h = rest_absent top i is r d S ms (heads i) h
turn_back top (lapped v B S) heads ms h = rest_lap top v B S ms h.0 (level_of (heads v.leaf) == v.level) h.1 h.2
turn_back top (entering v B S) heads ms h = let k = h.2 in (
  enter v.number ∷ (k.0 ++ leave v.number ∷ k.4.0),
  k.4.1,
  h.1 ∙ around_lap (enter v.number) (leave v.number) h.0 k.0 k.1 k.4.0 k.4.1 k.2 k.4.2,
  one_lap v B (definitions_of heads) k.0 k.4.0 k.3 k.4.3,
  k.4.4,
)

-- ---- turns, one after another, whatever comes next at each

pub data Turns (top : Items) : Stack → List Move → Stack → Type 0 where
  no_turn : (S : Stack) → Turns top S [] S
  move_turn : (S U V : Stack) (heads : ℕ → Option Triplet) (m : Move) (ms : List Move) → turn top S heads ≡ gives m U → Turns top U ms V → Turns top S (m ∷ ms) V
  still_turn : (S U V : Stack) (heads : ℕ → Option Triplet) (ms : List Move) → turn top S heads ≡ goes_on U → Turns top U ms V → Turns top S ms V

pub turns_back : (top : Items) (S V : Stack) (ms rest : List Move) → Turns top S ms V → Rest top V rest → Rest top S (ms ++ rest)
turns_back top _ _ _ rest (no_turn S) h = h
turns_back top _ _ _ rest (move_turn S U V heads m ms e t) h =
    turn_back top S heads (m ∷ (ms ++ rest)) (subst (λ (x : Turn). AgreesRest top x (m ∷ (ms ++ rest))) (sym e) (ms ++ rest, refl, turns_back top U V ms rest t h))
turns_back top _ _ _ rest (still_turn S U V heads ms e t) h =
    turn_back top S heads (ms ++ rest) (subst (λ (x : Turn). AgreesRest top x (ms ++ rest)) (sym e) (turns_back top U V ms rest t h))

-- a front of the walk of so many records
pub record IsFront (fs : Fields) (F : List (List Step)) (n : ℕ) (ms : List Move) : Type 0 where
  pub records : List Node
  pub are_records : list_all (is_record fs) records ≡ true
  pub as_many : length records ≡ n
  pub others : List Move
  pub moves : walk fs F records ≡ ms ++ others

-- whatever the columns, the moves that turns give are a front of the walk of some records
pub turns_are_front : (fs : Fields) (F : List (List Step)) (n : ℕ) (ms : List Move) (V : Stack) → Apart fs (picks F) → Turns (course fs F) (between n) ms V → IsFront fs F n ms
turns_are_front fs F n ms V u t =
    let k = rest_some (course fs F) V in
    let x = records_made fs F u n (ms ++ k.0) (turns_back (course fs F) (between n) V ms k.0 t k.1) in
    record { records = x.records; are_records = x.are_records; as_many = x.as_many; others = k.0; moves = x.moves }
