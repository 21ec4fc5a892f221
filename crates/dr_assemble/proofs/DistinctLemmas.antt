-- Of strips in schema order those that are kept are of leaves that differ, and records have their columns exactly where they have those of all.
use Rattle.std.proofs.Common.{◌≡◌, ◌<◌, ◌≤◌, ◌⊎◌, ℕ, zero, suc, List, [], ◌∷◌, ◌++◌, map, Bool, true, false, ◌&&◌, ◌||◌, Option, Some, None, refl, sym, ap, ap₂, ◌∙◌, subst, arith, inl, inr, append_assoc, true≢false}
use Rattle.std.specs.Prelude.{◌==◌, nat_lt, not}
use Rattle.std.specs.List.{list_all}
use Rattle.std.proofs.lemmas.Bool.{and_parts}
use Rattle.std.proofs.lemmas.Bool.Decides.{nat_tests}
use Rattle.dr_meaning.specs.Schema.{Repetition, Fields, no_fields, field, Shape, leaf, group}
use Rattle.dr_meaning.specs.Path.{Step, same_path, begins_with, same_repetition, is_leaf_path, is_shape_path}
use Rattle.dr_meaning.specs.Record.{Node, through_first, through_first_if, through_later, through_later_if}
use Rattle.dr_meaning.specs.Column.{Triplet, column}
use Rattle.dr_meaning.proofs.Blocks.{same_repetition-true}
use Rattle.dr_moves.specs.Selection.{all_differ, differs as differs_from}
use Rattle.dr_assemble.specs.Restoring.{Strip, rests, columns_of}
use Rattle.dr_assemble.specs.Distinct.{is_again, AreDistinct, no_more, kept, kept_in_vain, passed, differs}
use Rattle.dr_assemble.specs.Ordered.{HeadsFrom, EachOrdered, OrderedIn}

-- ---- paths in schema order

-- at the first field at which they part the first path has the lesser place
abbrev before : List Step → List Step → Bool
before [] q = false
before (s ∷ p) [] = false
before (s ∷ p) (t ∷ q) = nat_lt s.place t.place || ((s.place == t.place) && before p q)

-- the same path, or one behind
abbrev IsUpTo : List Step → List Step → Type 0
IsUpTo p q = (same_path p q ≡ true) ⊎ (before p q ≡ true)

less_is : (a b : ℕ) → a < b → nat_lt a b ≡ true
less_is a b h = grind (arith, nat_tests)

is_less : (a b : ℕ) → nat_lt a b ≡ true → a < b
is_less a b h = grind (arith, nat_tests)

is_same : (a b : ℕ) → (a == b) ≡ true → a ≡ b
is_same a b h = grind (arith, nat_tests)

same_is : (a b : ℕ) → a ≡ b → (a == b) ≡ true
same_is a b h = grind (arith, nat_tests)

less_differs : (a b : ℕ) → a < b → (a == b) ≡ false
less_differs a b h = grind (arith, nat_tests)

same_next : (a b : ℕ) → (suc a == suc b) ≡ (a == b)
same_next a b = grind (arith, nat_tests)

less_next : (a b : ℕ) → nat_lt (suc a) (suc b) ≡ nat_lt a b
less_next a b = grind (arith, nat_tests)

or_parts : (a b : Bool) → (a || b) ≡ true → (a ≡ true) ⊎ (b ≡ true)
or_parts true b h = inl refl
or_parts false b h = inr h

left_or : (a b : Bool) → a ≡ true → (a || b) ≡ true
left_or true b h = refl
left_or false b h = absurd (true≢false (sym h))

right_or : (a b : Bool) → b ≡ true → (a || b) ≡ true
right_or true b h = refl
right_or false b h = h

both : (a b : Bool) → a ≡ true → b ≡ true → (a && b) ≡ true
both true b h k = k
both false b h k = h

-- where the first steps part, or the paths behind them
before_parts : (s t : Step) (p q : List Step) → before (s ∷ p) (t ∷ q) ≡ true → (s.place < t.place) ⊎ ((s.place ≡ t.place) × (before p q ≡ true))
before_parts s t p q h = by_side (or_parts (nat_lt s.place t.place) ((s.place == t.place) && before p q) h)
  where
    by_side : (nat_lt s.place t.place ≡ true) ⊎ (((s.place == t.place) && before p q) ≡ true) → (s.place < t.place) ⊎ ((s.place ≡ t.place) × (before p q ≡ true))
    by_side (inl k) = inl (is_less s.place t.place k)
    by_side (inr k) = let a = and_parts (s.place == t.place) (before p q) k in inr (is_same s.place t.place a.0, a.1)

of_less : (s t : Step) (p q : List Step) → s.place < t.place → before (s ∷ p) (t ∷ q) ≡ true
of_less s t p q h = left_or (nat_lt s.place t.place) ((s.place == t.place) && before p q) (less_is s.place t.place h)

of_same : (s t : Step) (p q : List Step) → s.place ≡ t.place → before p q ≡ true → before (s ∷ p) (t ∷ q) ≡ true
of_same s t p q e h = right_or (nat_lt s.place t.place) ((s.place == t.place) && before p q) (both (s.place == t.place) (before p q) (same_is s.place t.place e) h)

before_all : (p q r : List Step) → before p q ≡ true → before q r ≡ true → before p r ≡ true
before_all [] q r h k = absurd (true≢false (sym h))
before_all (s ∷ p) [] r h k = absurd (true≢false (sym h))
before_all (s ∷ p) (t ∷ q) [] h k = absurd (true≢false (sym k))
before_all (s ∷ p) (t ∷ q) (u ∷ r) h k = by_parts (before_parts s t p q h) (before_parts t u q r k) (before_all p q r)
  where
    by_parts : (s.place < t.place) ⊎ ((s.place ≡ t.place) × (before p q ≡ true)) → (t.place < u.place) ⊎ ((t.place ≡ u.place) × (before q r ≡ true))
        → (before p q ≡ true → before q r ≡ true → before p r ≡ true) → before (s ∷ p) (u ∷ r) ≡ true
    by_parts (inl a) (inl b) again = of_less s u p r (omega (arith, a, b))
    by_parts (inl a) (inr b) again = let e = b.0 in of_less s u p r (omega (arith, a, e))
    by_parts (inr a) (inl b) again = let e = a.0 in of_less s u p r (omega (arith, e, b))
    by_parts (inr a) (inr b) again = of_same s u p r (a.0 ∙ b.0) (again a.1 b.1)

-- such paths don't begin with one another
not_begun : (p q : List Step) → before p q ≡ true → begins_with p q ≡ false
not_begun [] q h = absurd (true≢false (sym h))
not_begun (s ∷ p) [] h = absurd (true≢false (sym h))
not_begun (s ∷ p) (t ∷ q) h = by_parts (before_parts s t p q h) (not_begun p q)
  where
    by_parts : (s.place < t.place) ⊎ ((s.place ≡ t.place) × (before p q ≡ true)) → (before p q ≡ true → begins_with p q ≡ false) → ((s.place == t.place) && begins_with p q) ≡ false
    by_parts (inl a) again = ap (λ b. b && begins_with p q) (less_differs s.place t.place a)
    by_parts (inr a) again = ap (λ b. b && begins_with p q) (same_is s.place t.place a.0) ∙ again a.1

parted : (p q : List Step) → before p q ≡ true → same_path p q ≡ false
parted p q h = ap (λ b. b && begins_with q p) (not_begun p q h)

-- ---- of a list in schema order each path is up to each later one

first_if_append : (k : ℕ) (p : List Step) (F G : List (List Step)) → through_first_if k p (F ++ G) ≡ through_first_if k p F ++ G
first_if_append zero p F G = refl
first_if_append (suc k) p F G = refl

first_append : (F G : List (List Step)) → through_first (F ++ G) ≡ through_first F ++ through_first G
first_append [] G = refl
first_append ([] ∷ F) G = first_append F G
first_append ((s ∷ p) ∷ F) G = ap (through_first_if s.place p) (first_append F G) ∙ first_if_append s.place p (through_first F) (through_first G)

later_if_append : (k : ℕ) (s : Step) (p : List Step) (F G : List (List Step)) → through_later_if k s p (F ++ G) ≡ through_later_if k s p F ++ G
later_if_append zero s p F G = refl
later_if_append (suc k) s p F G = refl

later_append : (F G : List (List Step)) → through_later (F ++ G) ≡ through_later F ++ through_later G
later_append [] G = refl
later_append ([] ∷ F) G = later_append F G
later_append ((s ∷ p) ∷ F) G = ap (through_later_if s.place s p) (later_append F G) ∙ later_if_append s.place s p (through_later F) (through_later G)

abbrev step_at : ℕ → Repetition → Step
step_at i r = record { place = i; repetition = r }

first_around : (A M B : List (List Step)) (a b : Repetition) (p q : List Step)
    → through_first (A ++ (step_at 0 a ∷ p) ∷ (M ++ (step_at 0 b ∷ q) ∷ B)) ≡ through_first A ++ p ∷ (through_first M ++ q ∷ through_first B)
first_around A M B a b p q = first_append A ((step_at 0 a ∷ p) ∷ (M ++ (step_at 0 b ∷ q) ∷ B)) ∙ ap (λ X. through_first A ++ p ∷ X) (first_append M ((step_at 0 b ∷ q) ∷ B))

later_around : (A M B : List (List Step)) (i j : ℕ) (a b : Repetition) (p q : List Step)
    → through_later (A ++ (step_at (suc i) a ∷ p) ∷ (M ++ (step_at (suc j) b ∷ q) ∷ B)) ≡ through_later A ++ (step_at i a ∷ p) ∷ (through_later M ++ (step_at j b ∷ q) ∷ through_later B)
later_around A M B i j a b p q =
    later_append A ((step_at (suc i) a ∷ p) ∷ (M ++ (step_at (suc j) b ∷ q) ∷ B)) ∙ ap (λ X. through_later A ++ (step_at i a ∷ p) ∷ X) (later_append M ((step_at (suc j) b ∷ q) ∷ B))

-- the first step's place is at most the other's
abbrev FirstUpTo : List Step → List Step → Type 0
FirstUpTo [] q = Unit {0}
FirstUpTo (s ∷ p) [] = Unit {0}
FirstUpTo (s ∷ p) (t ∷ q) = s.place ≤ t.place

heads_in : (s : Step) (p : List Step) (b : ℕ) (M : List (List Step)) (q : List Step) (B : List (List Step)) → s.place ≤ b → HeadsFrom b (M ++ q ∷ B) → FirstUpTo (s ∷ p) q
heads_in s p b [] [] B l h = tt
heads_in s p b [] (t ∷ q) B l h = let k = h.0 in omega (arith, l, k)
heads_in s p b ([] ∷ M) q B l h = absurd h
heads_in s p b ((m ∷ o) ∷ M) q B l h = let k = h.0 in heads_in s p m.place M q B (omega (arith, l, k)) h.1

heads_of : (b : ℕ) (A M : List (List Step)) (p q : List Step) (B : List (List Step)) → HeadsFrom b (A ++ p ∷ (M ++ q ∷ B)) → FirstUpTo p q
heads_of b [] M [] q B h = tt
heads_of b [] M (s ∷ p) q B h = heads_in s p s.place M q B (omega (arith)) h.1
heads_of b ([] ∷ A) M p q B h = absurd h
heads_of b ((a ∷ o) ∷ A) M p q B h = heads_of a.place A M p q B h.1

-- below one field
below_first : (a b : Repetition) (p q : List Step) → IsUpTo p q → IsUpTo (step_at 0 a ∷ p) (step_at 0 b ∷ q)
below_first a b p q (inl h) = inl h
below_first a b p q (inr h) = inr h

-- among later fields
among_later : (i j : ℕ) (a b : Repetition) (p q : List Step) → IsUpTo (step_at i a ∷ p) (step_at j b ∷ q) → IsUpTo (step_at (suc i) a ∷ p) (step_at (suc j) b ∷ q)
among_later i j a b p q (inl h) = inl (ap₂ (λ x y. (x && begins_with p q) && (y && begins_with q p)) (same_next i j) (same_next j i) ∙ h)
among_later i j a b p q (inr h) = inr (ap₂ (λ x y. x || (y && before p q)) (less_next i j) (same_next i j) ∙ h)

abbrev PairIn : Shape → List Step → List Step → Type 0
PairIn s p q = (A M B : List (List Step)) → OrderedIn s (A ++ p ∷ (M ++ q ∷ B)) → is_shape_path s p ≡ true → is_shape_path s q ≡ true → IsUpTo p q

abbrev PairAmong : Fields → Type 0
PairAmong fs = (A M B : List (List Step)) (p q : List Step) → FirstUpTo p q → EachOrdered fs (A ++ p ∷ (M ++ q ∷ B)) → is_leaf_path fs p ≡ true → is_leaf_path fs q ≡ true → IsUpTo p q

pair_by : (m : List ℕ) (r : Repetition) (s : Shape) (fs : Fields) (i j : ℕ) (a b : Repetition) (p q : List Step) → PairIn s p q → PairAmong fs → (A M B : List (List Step)) → i ≤ j
    → EachOrdered (field m r s fs) (A ++ (step_at i a ∷ p) ∷ (M ++ (step_at j b ∷ q) ∷ B)) → is_leaf_path (field m r s fs) (step_at i a ∷ p) ≡ true → is_leaf_path (field m r s fs) (step_at j b ∷ q) ≡ true
    → IsUpTo (step_at i a ∷ p) (step_at j b ∷ q)
pair_by m r s fs zero zero a b p q below later A M B l o h g =
    below_first a b p q (below (through_first A) (through_first M) (through_first B) (subst (OrderedIn s) (first_around A M B a b p q) o.0)
    (and_parts (same_repetition a r) (is_shape_path s p) h).1 (and_parts (same_repetition b r) (is_shape_path s q) g).1)
pair_by m r s fs zero (suc j) a b p q below later A M B l o h g = inr (of_less (step_at zero a) (step_at (suc j) b) p q (omega (arith)))
pair_by m r s fs (suc i) zero a b p q below later A M B l o h g = absurd (omega (arith, l))
pair_by m r s fs (suc i) (suc j) a b p q below later A M B l o h g =
    among_later i j a b p q (later (through_later A) (through_later M) (through_later B) (step_at i a ∷ p) (step_at j b ∷ q) (omega (arith, l)) (subst (EachOrdered fs) (later_around A M B i j a b p q) o.1) h g)

mutual
  shape_pair : (s : Shape) (p q : List Step) → PairIn s p q
  shape_pair (leaf k) [] [] A M B o h g = inl refl
  shape_pair (leaf k) [] (t ∷ q) A M B o h g = absurd (true≢false (sym g))
  shape_pair (leaf k) (s ∷ p) q A M B o h g = absurd (true≢false (sym h))
  shape_pair (group fs) p q A M B o h g = fields_pair fs A M B p q (heads_of 0 A M p q B o.0) o.1 h g

  fields_pair : (fs : Fields) → PairAmong fs
  fields_pair no_fields A M B p q u o h g = absurd (true≢false (sym h))
  fields_pair (field m r s fs) A M B [] q u o h g = absurd (true≢false (sym h))
  fields_pair (field m r s fs) A M B (a ∷ p) [] u o h g = absurd (true≢false (sym g))
  fields_pair (field m r s fs) A M B (a ∷ p) (b ∷ q) u o h g =
      pair_by m r s fs a.place b.place a.repetition b.repetition p q (shape_pair s p q) (fields_pair fs) A M B u o h g

-- each of these is that path or behind it
abbrev pub EachUpTo : List Step → List (List Step) → Type 0
EachUpTo p [] = Unit {0}
EachUpTo p (q ∷ F) = IsUpTo p q × EachUpTo p F

abbrev pub Rising : List (List Step) → Type 0
Rising [] = Unit {0}
Rising (p ∷ F) = EachUpTo p F × Rising F

each_up_to : (fs : Fields) (A M F : List (List Step)) (p : List Step) → OrderedIn (group fs) (A ++ p ∷ (M ++ F)) → is_leaf_path fs p ≡ true → list_all (is_leaf_path fs) F ≡ true → EachUpTo p F
each_up_to fs A M [] p o h g = tt
each_up_to fs A M (q ∷ F) p o h g =
    let a = and_parts (is_leaf_path fs q) (list_all (is_leaf_path fs) F) g in
    (shape_pair (group fs) p q A M F o h a.0, each_up_to fs A (M ++ q ∷ []) F p (subst (λ X. OrderedIn (group fs) (A ++ p ∷ X)) (sym (append_assoc M (q ∷ []) F)) o) h a.1)

rising_behind : (fs : Fields) (A F : List (List Step)) → OrderedIn (group fs) (A ++ F) → list_all (is_leaf_path fs) F ≡ true → Rising F
rising_behind fs A [] o h = tt
rising_behind fs A (p ∷ F) o h =
    let a = and_parts (is_leaf_path fs p) (list_all (is_leaf_path fs) F) h in
    (each_up_to fs A [] F p o a.0 a.1, rising_behind fs (A ++ p ∷ []) F (subst (OrderedIn (group fs)) (sym (append_assoc A (p ∷ []) F)) o) a.1)

pub rising : (fs : Fields) (F : List (List Step)) → OrderedIn (group fs) F → list_all (is_leaf_path fs) F ≡ true → Rising F
rising fs F o h = rising_behind fs [] F o h

-- ---- those that are kept differ

-- this holds of what is kept
abbrev pub WhereKept : Option (List Strip) → (List Strip → Type 0) → Type 0
WhereKept None P = Unit {0}
WhereKept (Some D) P = P D

kept_so : (o : Option (List Strip)) (P Q : List Strip → Type 0) → ((D : List Strip) → P D → Q D) → WhereKept o P → WhereKept o Q
kept_so None P Q f h = tt
kept_so (Some D) P Q f h = f D h

abbrev EachBefore : List Step → List (List Step) → Type 0
EachBefore p [] = Unit {0}
EachBefore p (q ∷ F) = (before p q ≡ true) × EachBefore p F

each_before : (p q : List Step) (F : List (List Step)) → before p q ≡ true → EachBefore q F → EachBefore p F
each_before p q [] h k = tt
each_before p q (r ∷ F) h k = (before_all p q r h k.0, each_before p q F h k.1)

each_differs : (p : List Step) (F : List (List Step)) → EachBefore p F → differs_from p F ≡ true
each_differs p [] h = refl
each_differs p (q ∷ F) h = ap₂ (λ x y. not x && y) (parted p q h.0) (each_differs p F h.1)

-- the last that was kept, if any, is before them
abbrev IsBefore : Option Strip → List Strip → Type 0
IsBefore None D = Unit {0}
IsBefore (Some k) D = EachBefore k.rest (rests D)

abbrev IsUpToEach : Option Strip → List Strip → Type 0
IsUpToEach None S = Unit {0}
IsUpToEach (Some k) S = EachUpTo k.rest (rests S)

is_before : (k s : Strip) → IsUpTo k.rest s.rest → same_path k.rest s.rest ≡ false → before k.rest s.rest ≡ true
is_before k s (inl h) e = absurd (true≢false (sym h ∙ e))
is_before k s (inr h) e = h

last_before : (k : Option Strip) (s : Strip) (S D : List Strip) → is_again k s ≡ false → IsUpToEach k (s ∷ S) → EachBefore s.rest (rests D) → IsBefore k (s ∷ D)
last_before None s S D e u h = tt
last_before (Some k) s S D e u h = let b = is_before k s u.0 e in (b, each_before k.rest s.rest (rests D) b h)

kept_differ : (k : Option Strip) (S : List Strip) (o : Option (List Strip)) → AreDistinct k S o → IsUpToEach k S → Rising (rests S)
    → WhereKept o (λ D. (all_differ (rests D) ≡ true) × IsBefore k D)
kept_differ k _ _ (no_more _) u r = (refl, nothing_kept k)
  where
    nothing_kept : (k : Option Strip) → IsBefore k []
    nothing_kept None = tt
    nothing_kept (Some k) = tt
kept_differ k _ _ (kept _ s S D e a) u r =
    let h = kept_differ (Some s) S (Some D) a r.0 r.1 in
    (ap₂ (λ x y. x && y) (each_differs s.rest (rests D) h.1) h.0, last_before k s S D e u h.1)
kept_differ k _ _ (kept_in_vain _ s S e a) u r = tt
kept_differ _ _ _ (passed k s S o e t a) u r = kept_differ (Some k) S o a u.1 r.1
kept_differ _ _ _ (differs k s S e t) u r = tt

pub all_kept_differ : (fs : Fields) (S : List Strip) (o : Option (List Strip)) → AreDistinct None S o → OrderedIn (group fs) (rests S) → list_all (is_leaf_path fs) (rests S) ≡ true
    → WhereKept o (λ D. all_differ (rests D) ≡ true)
all_kept_differ fs S o a u h = kept_so o (λ D. (all_differ (rests D) ≡ true) × IsBefore None D) (λ D. all_differ (rests D) ≡ true) (λ D x. x.0) (kept_differ None S o a tt (rising fs (rests S) u h))

-- and they are leaves, too
kept_leaves : (f : List Step → Bool) (k : Option Strip) (S : List Strip) (o : Option (List Strip)) → AreDistinct k S o → list_all f (rests S) ≡ true → WhereKept o (λ D. list_all f (rests D) ≡ true)
kept_leaves f _ _ _ (no_more k) h = refl
kept_leaves f _ _ _ (kept k s S D e a) h =
    let b = and_parts (f s.rest) (list_all f (rests S)) h in ap₂ (λ x y. x && y) b.0 (kept_leaves f (Some s) S (Some D) a b.1)
kept_leaves f _ _ _ (kept_in_vain k s S e a) h = tt
kept_leaves f _ _ _ (passed k s S o e t a) h = kept_leaves f (Some k) S o a (and_parts (f s.rest) (list_all f (rests S)) h).1
kept_leaves f _ _ _ (differs k s S e t) h = tt

pub all_kept_leaves : (fs : Fields) (S : List Strip) (o : Option (List Strip)) → AreDistinct None S o → list_all (is_leaf_path fs) (rests S) ≡ true → WhereKept o (λ D. list_all (is_leaf_path fs) (rests D) ≡ true)
all_kept_leaves fs S o a h = kept_leaves (is_leaf_path fs) None S o a h

-- ---- leaves at one path are one leaf

abbrev raise : List Step → List Step
raise [] = []
raise (s ∷ p) = step_at (suc s.place) s.repetition ∷ p

abbrev SameIn : Shape → List Step → List Step → Type 0
SameIn s p q = is_shape_path s p ≡ true → is_shape_path s q ≡ true → same_path p q ≡ true → p ≡ q

abbrev SameAmong : Fields → Type 0
SameAmong fs = (p q : List Step) → is_leaf_path fs p ≡ true → is_leaf_path fs q ≡ true → same_path p q ≡ true → p ≡ q

first_place_same : (i j : ℕ) (p q : List Step) → (((i == j) && begins_with p q) && ((j == i) && begins_with q p)) ≡ true → (i == j) ≡ true
first_place_same i j p q h = (and_parts (i == j) (begins_with p q) (and_parts ((i == j) && begins_with p q) ((j == i) && begins_with q p) h).0).0

same_by : (m : List ℕ) (r : Repetition) (s : Shape) (fs : Fields) (i j : ℕ) (a b : Repetition) (p q : List Step) → SameIn s p q → SameAmong fs
    → is_leaf_path (field m r s fs) (step_at i a ∷ p) ≡ true → is_leaf_path (field m r s fs) (step_at j b ∷ q) ≡ true → same_path (step_at i a ∷ p) (step_at j b ∷ q) ≡ true
    → step_at i a ∷ p ≡ step_at j b ∷ q
same_by m r s fs zero zero a b p q below later h g e =
    let x = and_parts (same_repetition a r) (is_shape_path s p) h in
    let y = and_parts (same_repetition b r) (is_shape_path s q) g in
    ap₂ (λ c o. step_at 0 c ∷ o) (same_repetition-true a r x.0 ∙ sym (same_repetition-true b r y.0)) (below x.1 y.1 e)
same_by m r s fs zero (suc j) a b p q below later h g e = absurd (true≢false (sym (first_place_same zero (suc j) p q e) ∙ less_differs zero (suc j) (omega (arith))))
same_by m r s fs (suc i) zero a b p q below later h g e =
    let k : suc i ≡ 0 = is_same (suc i) zero (first_place_same (suc i) zero p q e) in absurd (omega (arith, k))
same_by m r s fs (suc i) (suc j) a b p q below later h g e =
    ap raise (later (step_at i a ∷ p) (step_at j b ∷ q) h g (sym (ap₂ (λ x y. (x && begins_with p q) && (y && begins_with q p)) (same_next i j) (same_next j i)) ∙ e))

mutual
  shape_same : (s : Shape) (p q : List Step) → SameIn s p q
  shape_same (leaf k) [] [] h g e = refl
  shape_same (leaf k) [] (t ∷ q) h g e = absurd (true≢false (sym g))
  shape_same (leaf k) (s ∷ p) q h g e = absurd (true≢false (sym h))
  shape_same (group fs) p q h g e = fields_same fs p q h g e

  fields_same : (fs : Fields) → SameAmong fs
  fields_same no_fields p q h g e = absurd (true≢false (sym h))
  fields_same (field m r s fs) [] q h g e = absurd (true≢false (sym h))
  fields_same (field m r s fs) (a ∷ p) [] h g e = absurd (true≢false (sym g))
  fields_same (field m r s fs) (a ∷ p) (b ∷ q) h g e = same_by m r s fs a.place b.place a.repetition b.repetition p q (shape_same s p q) (fields_same fs) h g e

-- ---- the columns of records

-- records have the triplets of strips at their leaves
abbrev pub Have : List Node → List Strip → Type 0
Have R [] = Unit {0}
Have R (s ∷ S) = (column s.rest R ≡ s.triplets) × Have R S

abbrev LastHad : Fields → List Node → Option Strip → Type 0
LastHad fs R None = Unit {0}
LastHad fs R (Some k) = (is_leaf_path fs k.rest ≡ true) × (column k.rest R ≡ k.triplets)

-- what is kept has the columns of all
have_all : (fs : Fields) (R : List Node) (k : Option Strip) (S : List Strip) (o : Option (List Strip)) → AreDistinct k S o → list_all (is_leaf_path fs) (rests S) ≡ true → LastHad fs R k
    → WhereKept o (λ D. Have R D → Have R S)
have_all fs R _ _ _ (no_more k) l h = λ x. tt
have_all fs R _ _ _ (kept k s S D e a) l h =
    let b = and_parts (is_leaf_path fs s.rest) (list_all (is_leaf_path fs) (rests S)) l in
    λ (x : Have R (s ∷ D)). (x.0, have_all fs R (Some s) S (Some D) a b.1 (b.0, x.0) x.1)
have_all fs R _ _ _ (kept_in_vain k s S e a) l h = tt
have_all fs R _ _ _ (passed k s S o e t a) l h =
    let b = and_parts (is_leaf_path fs s.rest) (list_all (is_leaf_path fs) (rests S)) l in
    let same : k.rest ≡ s.rest = fields_same fs k.rest s.rest h.0 b.0 e in
    let here : column s.rest R ≡ s.triplets = ap (λ p. column p R) (sym same) ∙ (h.1 ∙ t) in
    kept_so o (λ D. Have R D → Have R S) (λ D. Have R D → Have R (s ∷ S)) (λ D f x. (here, f x)) (have_all fs R (Some k) S o a b.1 h)
have_all fs R _ _ _ (differs k s S e t) l h = tt

pub kept_have : (fs : Fields) (R : List Node) (S : List Strip) (o : Option (List Strip)) → AreDistinct None S o → list_all (is_leaf_path fs) (rests S) ≡ true → WhereKept o (λ D. Have R D → Have R S)
kept_have fs R S o a l = have_all fs R None S o a l tt

-- and all have those of what is kept
pub have_kept : (R : List Node) (k : Option Strip) (S : List Strip) (o : Option (List Strip)) → AreDistinct k S o → Have R S → WhereKept o (λ D. Have R D)
have_kept R _ _ _ (no_more k) h = tt
have_kept R _ _ _ (kept k s S D e a) h = (h.0, have_kept R (Some s) S (Some D) a h.1)
have_kept R _ _ _ (kept_in_vain k s S e a) h = tt
have_kept R _ _ _ (passed k s S o e t a) h = have_kept R (Some k) S o a h.1
have_kept R _ _ _ (differs k s S e t) h = tt

-- this holds where none are kept
abbrev pub WhereNone : Option (List Strip) → Type 0 → Type 0
WhereNone None P = P
WhereNone (Some D) P = Unit {0}

none_so : (o : Option (List Strip)) (P Q : Type 0) → (P → Q) → WhereNone o P → WhereNone o Q
none_so None P Q f h = f h
none_so (Some D) P Q f h = tt

none_have : (fs : Fields) (R : List Node) (k : Option Strip) (S : List Strip) (o : Option (List Strip)) → AreDistinct k S o → list_all (is_leaf_path fs) (rests S) ≡ true → LastHad fs R k
    → WhereNone o (Have R S → ⊥)
none_have fs R _ _ _ (no_more k) l h = tt
none_have fs R _ _ _ (kept k s S D e a) l h = tt
none_have fs R _ _ _ (kept_in_vain k s S e a) l h =
    let b = and_parts (is_leaf_path fs s.rest) (list_all (is_leaf_path fs) (rests S)) l in
    λ (x : Have R (s ∷ S)). none_have fs R (Some s) S None a b.1 (b.0, x.0) x.1
none_have fs R _ _ _ (passed k s S o e t a) l h =
    let b = and_parts (is_leaf_path fs s.rest) (list_all (is_leaf_path fs) (rests S)) l in
    none_so o (Have R S → ⊥) (Have R (s ∷ S) → ⊥) (λ f x. f x.1) (none_have fs R (Some k) S o a b.1 h)
none_have fs R _ _ _ (differs k s S e t) l h =
    let b = and_parts (is_leaf_path fs s.rest) (list_all (is_leaf_path fs) (rests S)) l in
    let same : k.rest ≡ s.rest = fields_same fs k.rest s.rest h.0 b.0 e in
    λ (x : Have R (s ∷ S)). t (sym h.1 ∙ (ap (λ p. column p R) same ∙ x.0))

pub never_have : (fs : Fields) (R : List Node) (S : List Strip) → AreDistinct None S None → list_all (is_leaf_path fs) (rests S) ≡ true → Have R S → ⊥
never_have fs R S a l h = none_have fs R None S None a l tt h

-- ---- as lists

pub of_columns : (R : List Node) (S : List Strip) → map (λ (p : List Step). column p R) (rests S) ≡ columns_of S → Have R S
of_columns R [] h = tt
of_columns R (s ∷ S) h = (cc, of_columns R S (cc))

pub as_columns : (R : List Node) (S : List Strip) → Have R S → map (λ (p : List Step). column p R) (rests S) ≡ columns_of S
as_columns R [] h = refl
as_columns R (s ∷ S) h = ap₂ (λ (x : List Triplet) (xs : List (List Triplet)). x ∷ xs) h.0 (as_columns R S h.1)
