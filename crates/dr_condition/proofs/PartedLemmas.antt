-- Tests in parts: those that read a leaf, and those that don't.
use Rattle.std.proofs.Common.{◌≡◌, ℕ, suc, ◌<◌, List, [], ◌∷◌, ◌++◌, length, take, get_or, append-nil, Bool, true, false, cond, ◌&&◌, Option, Some, None, is_some, refl, sym, ap, ap₂, ◌∙◌, true≢false, arith}
use denote.Ref.{Bor}
use Rattle.std.specs.Prelude.{zero, ◌||◌, Result, Ok, Err, OnOk}
use Rattle.std.specs.List.{cons_option}
use Rattle.std.proofs.lemmas.Bool.{and_parts}
use Rattle.std.proofs.lemmas.List.Elements.{filter-append, filter_map-append}
use Rattle.dr_memory.specs.declared.NoMemory.{NoMemory}
use Rattle.dr_meaning.specs.Expression.{is_true}
use Rattle.dr_moves.specs.Context.{Context}
use Rattle.dr_kept_laws.specs.Parts.{Part, all_tests}
use Rattle.dr_plan.specs.declared.expression.Truth.{Truth}
use Rattle.dr_prune.specs.PartAnswers.{untested, untested_from}
use Rattle.dr_scalar.specs.Leaves.{greater, greatest, truth_leaves, tests_leaves}
use Rattle.dr_scalar.specs.LeafLaws.{SameRead}
use Rattle.dr_scalar.specs.OverSlots.{truth_over, tests_over}
use Rattle.dr_scalar.proofs.SameReadLemmas.{same_truth}
use Rattle.dr_condition.specs.Parted.{lent_tests, last_read, reads_leaf, reading, lasts_read, may_hold, constants_hold, test_at}

-- ---- a test without leaves

pub no_greatest : (K : List ℕ) → greatest K ≡ None → K ≡ []
no_greatest [] e = refl
no_greatest (k ∷ K) e = by_rest (greatest K) e
  where
    by_rest : (o : Option ℕ) → greater (Some k) o ≡ None → k ∷ K ≡ []
    by_rest None e = absurd (cc)
    by_rest (Some m) e = absurd (cc)

-- is the same in each context
pub constant_test : (t : Truth) → last_read t ≡ None → (c : Context) → is_true (truth_over c t) ≡ is_true (truth_over (λ i. None) t)
constant_test t e c = ap is_true (same_truth c (λ i. None) t (same (truth_leaves t) (no_greatest (truth_leaves t) e)))
  where
    same : (K : List ℕ) → K ≡ [] → SameRead K c (λ i. None)
    same [] q = tt
    same (k ∷ K) q = absurd (cc)

-- whether it may hold
constant_holds : (t : Truth) (b : Bool) → last_read t ≡ None → may_hold t ≡ b → (c : Context) → is_true (truth_over c t) ≡ b
constant_holds t b e h c =
    constant_test t e c ∙ (sym (ap (λ (o : Option ℕ). is_some o || is_true (truth_over (λ i. None) t)) e) ∙ h)

-- ---- the parts of tests

abbrev pub parts_of_tests : List Truth → List Part
parts_of_tests ts = untested (test_at (reading ts)) (lasts_read ts)

-- a part with this last leaf
abbrev pub part_with : ℕ → Truth → Part
part_with l t = record { last = l; test = λ c. is_true (truth_over c t); answer = false }

-- behind one test more
later_parts : (t : Truth) (ts : List Truth) (k : ℕ) (ls : List ℕ) → untested_from (test_at (t ∷ ts)) (suc k) ls ≡ untested_from (test_at ts) k ls
later_parts t ts k [] = refl
later_parts t ts k (l ∷ ls) = ap (λ (ps : List Part). record { last = l; test = test_at ts k; answer = false } ∷ ps) (later_parts t ts (suc k) ls)

-- by whether the first reads a leaf
abbrev by_first : Truth → List Truth → Option ℕ → List Part
by_first t ts o = untested (test_at (cond (is_some o) (t ∷ reading ts) (reading ts))) (cons_option o (lasts_read ts))

pub one_part_more : (t : Truth) (ts : List Truth) (l : ℕ) → last_read t ≡ Some l → parts_of_tests (t ∷ ts) ≡ part_with l t ∷ parts_of_tests ts
one_part_more t ts l e =
    ap (by_first t ts) e ∙ ap (λ (ps : List Part). part_with l t ∷ ps) (later_parts t (reading ts) 0 (lasts_read ts))

pub no_part_more : (t : Truth) (ts : List Truth) → last_read t ≡ None → parts_of_tests (t ∷ ts) ≡ parts_of_tests ts
no_part_more t ts e = ap (by_first t ts) e

-- as many last leaves as tests
pub one_last_each : (ts : List Truth) → length (reading ts) ≡ length (lasts_read ts)
one_last_each [] = refl
one_last_each (t ∷ ts) = by_last (last_read t) (one_last_each ts)
  where
    by_last : (o : Option ℕ) → length (reading ts) ≡ length (lasts_read ts) → length (cond (is_some o) (t ∷ reading ts) (reading ts)) ≡ length (cons_option o (lasts_read ts))
    by_last None e = e
    by_last (Some l) e = ap suc e

-- ---- they are the tests

-- where those without leaves hold, the parts are true in a context exactly where all tests are
pub parts_are_tests : (ts : List Truth) → constants_hold ts ≡ true → (c : Context) → all_tests (parts_of_tests ts) c ≡ tests_over c ts
parts_are_tests [] h c = refl
parts_are_tests (t ∷ ts) h c =
    let x : (may_hold t ≡ true) × (constants_hold ts ≡ true) = and_parts _ _ h in
    by_last (last_read t) refl x.0 (parts_are_tests ts x.1 c)
  where
    by_last : (o : Option ℕ) → last_read t ≡ o → may_hold t ≡ true → all_tests (parts_of_tests ts) c ≡ tests_over c ts → all_tests (parts_of_tests (t ∷ ts)) c ≡ tests_over c (t ∷ ts)
    by_last None e m r =
        ap (λ (ps : List Part). all_tests ps c) (no_part_more t ts e) ∙ r
        ∙ ap (λ (b : Bool). b && tests_over c ts) (sym (constant_holds t true e m c))
    by_last (Some l) e m r = ap (λ (ps : List Part). all_tests ps c) (one_part_more t ts l e) ∙ ap (λ (b : Bool). is_true (truth_over c t) && b) r

-- where one of these doesn't hold, they are never true
pub never_true : (ts : List Truth) → constants_hold ts ≡ false → (c : Context) → tests_over c ts ≡ false
never_true [] h c = absurd (true≢false h)
never_true (t ∷ ts) h c = by_first_test (may_hold t) refl h (never_true ts)
  where
    no_test : (b : Bool) → (b && false) ≡ false
    no_test true = refl
    no_test false = refl

    by_last : (o : Option ℕ) → last_read t ≡ o → may_hold t ≡ false → tests_over c (t ∷ ts) ≡ false
    by_last None e m = ap (λ (b : Bool). b && tests_over c ts) (constant_holds t false e m c)
    by_last (Some l) e m = absurd (true≢false (sym (ap (λ (o : Option ℕ). is_some o || is_true (truth_over (λ i. None) t)) e) ∙ m))

    by_first_test : (b : Bool) → may_hold t ≡ b → (b && constants_hold ts) ≡ false → (constants_hold ts ≡ false → (d : Context) → tests_over d ts ≡ false) → tests_over c (t ∷ ts) ≡ false
    by_first_test true m g r = ap (λ (b : Bool). is_true (truth_over c t) && b) (r g c) ∙ no_test (is_true (truth_over c t))
    by_first_test false m g r = by_last (last_read t) refl m

-- without any leaf they are true
pub constants_true : (ts : List Truth) → tests_leaves ts ≡ [] → constants_hold ts ≡ true → (c : Context) → tests_over c ts ≡ true
constants_true [] e h c = refl
constants_true (t ∷ ts) e h c =
    let x : (may_hold t ≡ true) × (constants_hold ts ≡ true) = and_parts _ _ h in
    let y = both_empty (truth_leaves t) (tests_leaves ts) e in
    ap₂ (λ (a b : Bool). a && b) (constant_holds t true (ap greatest y.0) x.0 c) (constants_true ts y.1 x.1 c)
  where
    both_empty : (J K : List ℕ) → J ++ K ≡ [] → (J ≡ []) × (K ≡ [])
    both_empty [] K q = (refl, q)
    both_empty (j ∷ J) K q = absurd (cc)

-- ---- one more

pub reading_more : (ts : List Truth) (t : Truth) (o : Option ℕ) → last_read t ≡ o → reading (ts ++ t ∷ []) ≡ reading ts ++ cond (is_some o) (t ∷ []) []
reading_more ts t o e =
    filter-append reads_leaf ts (t ∷ []) ∙ ap (λ (x : Option ℕ). reading ts ++ cond (is_some x) (t ∷ []) []) e

pub lasts_more : (ts : List Truth) (t : Truth) (o : Option ℕ) → last_read t ≡ o → lasts_read (ts ++ t ∷ []) ≡ lasts_read ts ++ cons_option o []
lasts_more ts t o e =
    filter_map-append last_read ts (t ∷ []) ∙ ap (λ (x : Option ℕ). lasts_read ts ++ cons_option x []) e

-- the last leaf of one test
pub last_of_one : (t : Truth) (ts : List Truth) → ts ≡ t ∷ [] → greatest (tests_leaves ts) ≡ last_read t
last_of_one t ts e = ap (λ (us : List Truth). greatest (tests_leaves us)) e ∙ ap greatest (append-nil (truth_leaves t))

-- ---- of the tests so far

pub hold_more : (ts : List Truth) (i : ℕ) (t : Truth) → i < length ts → t ≡ get_or ts i t → constants_hold (take i ts) ≡ true → may_hold t ≡ true → constants_hold (take (suc i) ts) ≡ true
hold_more [] i t l e h m = refl
hold_more (u ∷ ts) zero t l e h m = ap (λ (x : Truth). may_hold x && true) (sym e) ∙ ap (λ (b : Bool). b && true) m
hold_more (u ∷ ts) (suc i) t l e h m =
    let x : (may_hold u ≡ true) × (constants_hold (take i ts) ≡ true) = and_parts _ _ h in
    ap₂ (λ (a b : Bool). a && b) x.0 (hold_more ts i t (omega (arith, l)) e x.1 m)

pub hold_not : (ts : List Truth) (i : ℕ) (t : Truth) → i < length ts → t ≡ get_or ts i t → may_hold t ≡ false → constants_hold ts ≡ false
hold_not [] i t l e m = absurd (omega (arith, l))
hold_not (u ∷ ts) zero t l e m = ap (λ (x : Truth). may_hold x && constants_hold ts) (sym e) ∙ ap (λ (b : Bool). b && constants_hold ts) m
hold_not (u ∷ ts) (suc i) t l e m = ap (λ (b : Bool). may_hold u && b) (hold_not ts i t (omega (arith, l)) e m) ∙ no_test (may_hold u)
  where
    no_test : (b : Bool) → (b && false) ≡ false
    no_test true = refl
    no_test false = refl

-- ---- the test of a number

pub test_here : (xs : List (Bor Truth)) (i : ℕ) (x : Bor Truth) → i < length xs → x ≡ get_or xs i x → (c : Context) → test_at (lent_tests xs) i c ≡ is_true (truth_over c x.now)
test_here [] i x l e c = absurd (omega (arith, l))
test_here (y ∷ xs) zero x l e c = ap (λ (t : Bor Truth). is_true (truth_over c t.now)) (sym e)
test_here (y ∷ xs) (suc i) x l e c = test_here xs i x (omega (arith, l)) e c

-- ---- whatever a call answers

pub on_any : {A : Type 0} (r : Result A NoMemory) (P : Type 0) → P → OnOk r P
on_any (Ok a) P p = p
on_any (Err e) P p = tt
