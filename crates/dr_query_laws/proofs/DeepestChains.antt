-- Of related paths of one schema the level with the most repeated fields is the longest.
use Rattle.std.proofs.Common.{◌≡◌, ◌<◌, ◌≤◌, ℕ, zero, suc, List, [], ◌∷◌, Bool, true, false, ◌&&◌, ◌||◌, refl, sym, ap, ap₂, ◌∙◌, true≢false, arith}
use Rattle.std.specs.Prelude.{◌==◌, if◌then◌else◌}
use Rattle.std.specs.List.{list_all}
use Rattle.std.proofs.lemmas.Bool.{and_parts, eq-eqb, eqb-true, lt-ltb, le-ltb}
use Rattle.dr_meaning.specs.Schema.{Repetition, required, optional, repeated, Fields, no_fields, field, Shape, leaf, group, repetition_count, is_repeated}
use Rattle.dr_meaning.specs.Path.{Step, same_repetition, through, is_leaf_path, is_shape_path, chain_end, up_to, begins_with, is_shorter, longer, max_repetition}
use Rattle.dr_meaning.specs.Expression.{longest_chain}
use Rattle.dr_meaning.specs.BoundExpression.{are_related}
use Rattle.dr_meaning.specs.Binding.{deeper_chain}
use Rattle.dr_query_laws.specs.ChainLaws.{DeepestIsLongest}
use Rattle.dr_partials.specs.PartialLaws.{all_related}

-- ---- paths of one schema

-- as far as two paths go through the same fields, these are repeated alike
abbrev Agrees : List Step → List Step → Type 0
Agrees [] q = Unit {0}
Agrees (s ∷ p) [] = Unit {0}
Agrees (s ∷ p) (t ∷ q) = s.place ≡ t.place → (s.repetition ≡ t.repetition) × Agrees p q

same_repetitions : (r t : Repetition) → same_repetition r t ≡ true → r ≡ t
same_repetitions required required h = refl
same_repetitions optional optional h = refl
same_repetitions repeated repeated h = refl
same_repetitions required optional h = absurd (true≢false (sym h))
same_repetitions required repeated h = absurd (true≢false (sym h))
same_repetitions optional required h = absurd (true≢false (sym h))
same_repetitions optional repeated h = absurd (true≢false (sym h))
same_repetitions repeated required h = absurd (true≢false (sym h))
same_repetitions repeated optional h = absurd (true≢false (sym h))

abbrev AgreeIn : (List Step → Bool) → Type 0
AgreeIn is_path = (p q : List Step) → is_path p ≡ true → is_path q ≡ true → Agrees p q

abbrev step : ℕ → Repetition → Step
step i r = record { place = i; repetition = r }

agree_at : (r : Repetition) (s : Shape) (fs : Fields) (p q : List Step) → AgreeIn (is_shape_path s) → AgreeIn (is_leaf_path fs) → (i j : ℕ) (a b : Repetition)
    → through i (same_repetition a r && is_shape_path s p) (λ m. is_leaf_path fs (step m a ∷ p)) ≡ true → through j (same_repetition b r && is_shape_path s q) (λ m. is_leaf_path fs (step m b ∷ q)) ≡ true
    → i ≡ j → (a ≡ b) × Agrees p q
agree_at r s fs p q below later zero zero a b h k e =
    let x = and_parts (same_repetition a r) (is_shape_path s p) h in
    let y = and_parts (same_repetition b r) (is_shape_path s q) k in
    (same_repetitions a r x.0 ∙ sym (same_repetitions b r y.0), below p q x.1 y.1)
agree_at r s fs p q below later zero (suc j) a b h k e = absurd (cc)
agree_at r s fs p q below later (suc i) zero a b h k e = absurd (cc)
agree_at r s fs p q below later (suc i) (suc j) a b h k e = later (step i a ∷ p) (step j b ∷ q) h k (cc)

mutual
  agree : (fs : Fields) → AgreeIn (is_leaf_path fs)
  agree no_fields p q h k = absurd (true≢false (sym h))
  agree (field n r s fs) [] q h k = tt
  agree (field n r s fs) (t ∷ p) [] h k = tt
  agree (field n r s fs) (t ∷ p) (u ∷ q) h k = agree_at r s fs p q (agree_shape s) (agree fs) t.place u.place t.repetition u.repetition h k

  agree_shape : (s : Shape) → AgreeIn (is_shape_path s)
  agree_shape (leaf k) [] q h g = tt
  agree_shape (leaf k) (t ∷ p) q h g = absurd (true≢false (sym h))
  agree_shape (group fs) p q h g = agree fs p q h g

-- ---- levels

none_agrees : (p : List Step) → Agrees p []
none_agrees [] = tt
none_agrees (s ∷ p) = tt

up_agrees : (s t : Step) (p q : List Step) → (s.place ≡ t.place → (s.repetition ≡ t.repetition) × Agrees p q) → Agrees (up_to s p) (up_to t q)
up_agrees s t [] [] h = by_tests (is_repeated s.repetition) (is_repeated t.repetition)
  where
    by_tests : (a b : Bool) → Agrees (if a then s ∷ [] else []) (if b then t ∷ [] else [])
    by_tests true true = λ e. ((h e).0, tt)
    by_tests true false = tt
    by_tests false b = tt
up_agrees s t [] (u ∷ q) h = by_test (is_repeated s.repetition)
  where
    by_test : (a : Bool) → Agrees (if a then s ∷ [] else []) (t ∷ u ∷ q)
    by_test true = λ e. ((h e).0, tt)
    by_test false = tt
up_agrees s t (u ∷ p) [] h = by_test (is_repeated t.repetition)
  where
    by_test : (b : Bool) → Agrees (s ∷ u ∷ p) (if b then t ∷ [] else [])
    by_test true = λ e. ((h e).0, tt)
    by_test false = tt
up_agrees s t (u ∷ p) (v ∷ q) h = h

level_agrees : (p q : List Step) → Agrees p q → Agrees (chain_end p) (chain_end q)
level_agrees [] q h = tt
level_agrees (s ∷ p) [] h = none_agrees (chain_end (s ∷ p))
level_agrees (s ∷ p) (t ∷ q) h = up_agrees s t (chain_end p) (chain_end q) (λ e. ((h e).0, level_agrees p q (h e).1))

up_level : (s : Step) (p : List Step) → chain_end p ≡ p → chain_end (up_to s p) ≡ up_to s p
up_level s [] h = by_test (is_repeated s.repetition) refl
  where
    by_test : (a : Bool) → is_repeated s.repetition ≡ a → chain_end (if a then s ∷ [] else []) ≡ (if a then s ∷ [] else [])
    by_test true e = ap (λ (a : Bool). if a then s ∷ [] else []) e
    by_test false e = refl
up_level s (t ∷ p) h = ap (up_to s) h

level_level : (p : List Step) → chain_end (chain_end p) ≡ chain_end p
level_level [] = refl
level_level (s ∷ p) = up_level s (chain_end p) (level_level p)

-- a level whose first field isn't its last one is one behind it, too
level_behind : (t u : Step) (q : List Step) → chain_end (t ∷ u ∷ q) ≡ t ∷ u ∷ q → chain_end (u ∷ q) ≡ u ∷ q
level_behind t u q h = by_level (chain_end (u ∷ q)) h
  where
    by_level : (l : List Step) → up_to t l ≡ t ∷ u ∷ q → l ≡ u ∷ q
    by_level (v ∷ l) e = cc
    by_level [] e = absurd (by_test (is_repeated t.repetition) e)
      where
        by_test : (a : Bool) → (if a then t ∷ [] else []) ≡ t ∷ u ∷ q → ⊥
        by_test true k = absurd (cc)
        by_test false k = absurd (cc)

-- ---- as many repeated fields

no_fields_repeated : (p : List Step) → max_repetition p ≡ 0 → chain_end p ≡ []
no_fields_repeated [] h = refl
no_fields_repeated (s ∷ p) h = ap (up_to s) (no_fields_repeated p (omega (arith, h))) ∙ by_repetition s.repetition (omega (arith, h))
  where
    by_repetition : (r : Repetition) → repetition_count r ≡ 0 → (if is_repeated r then s ∷ [] else []) ≡ []
    by_repetition required e = refl
    by_repetition optional e = refl
    by_repetition repeated e = absurd (cc)

some_repeated : (t : Step) (q : List Step) → chain_end (t ∷ q) ≡ t ∷ q → 0 < max_repetition (t ∷ q)
some_repeated t q h = by_count (max_repetition (t ∷ q)) refl
  where
    by_count : (n : ℕ) → max_repetition (t ∷ q) ≡ n → 0 < n
    by_count (suc n) e = omega arith
    by_count zero e = let k : t ∷ q ≡ [] = sym h ∙ no_fields_repeated (t ∷ q) e in absurd (cc)

fewer_repeated : (p q : List Step) → Agrees p q → begins_with p q ≡ true → is_shorter p q ≡ true → chain_end q ≡ q → max_repetition p < max_repetition q
fewer_repeated p [] a b h l = absurd (true≢false (sym h))
fewer_repeated [] (t ∷ q) a b h l = some_repeated t q l
fewer_repeated (s ∷ p) (t ∷ []) a b h l = absurd (true≢false (sym h))
fewer_repeated (s ∷ p) (t ∷ u ∷ q) a b h l =
    let k = and_parts (s.place == t.place) (begins_with p (u ∷ q)) b in
    let e = a (eqb-true s.place t.place k.0) in
    let f : repetition_count s.repetition ≡ repetition_count t.repetition = ap repetition_count e.0 in
    let g : max_repetition p < max_repetition (u ∷ q) = fewer_repeated p (u ∷ q) e.1 k.1 h (level_behind t u q l) in
    omega (arith, f, g)

no_more_repeated : (p q : List Step) → Agrees p q → begins_with p q ≡ true → max_repetition p ≤ max_repetition q
no_more_repeated [] q a b = omega arith
no_more_repeated (s ∷ p) [] a b = absurd (true≢false (sym b))
no_more_repeated (s ∷ p) (t ∷ q) a b =
    let k = and_parts (s.place == t.place) (begins_with p q) b in
    let e = a (eqb-true s.place t.place k.0) in
    let f : repetition_count s.repetition ≡ repetition_count t.repetition = ap repetition_count e.0 in
    let g : max_repetition p ≤ max_repetition q = no_more_repeated p q e.1 k.1 in
    omega (arith, f, g)

-- ---- of two

abbrev nested : List Step → List Step → Bool
nested p q = begins_with p q || begins_with q p

turned : (i j : ℕ) → (j == i) ≡ true → (i == j) ≡ true
turned i j e = eq-eqb i j (sym (eqb-true j i e))

shorter_begins : (p q : List Step) → is_shorter p q ≡ true → begins_with q p ≡ true → begins_with p q ≡ true
shorter_begins p [] h k = absurd (true≢false (sym h))
shorter_begins [] (t ∷ q) h k = refl
shorter_begins (s ∷ p) (t ∷ q) h k =
    let m = and_parts (t.place == s.place) (begins_with q p) k in
    ap₂ (λ a b. a && b) (turned s.place t.place m.0) (shorter_begins p q h m.1)

longer_begins : (p q : List Step) → is_shorter p q ≡ false → begins_with p q ≡ true → begins_with q p ≡ true
longer_begins p [] h k = refl
longer_begins [] (t ∷ q) h k = absurd (true≢false h)
longer_begins (s ∷ p) (t ∷ q) h k =
    let m = and_parts (s.place == t.place) (begins_with p q) k in
    ap₂ (λ a b. a && b) (turned t.place s.place m.0) (longer_begins p q h m.1)

one_begins : (p q : List Step) → nested p q ≡ true → (b : Bool) → is_shorter p q ≡ b → (if b then begins_with p q else begins_with q p) ≡ true
one_begins p q n true h = by_test (begins_with p q) refl n
  where
    by_test : (a : Bool) → begins_with p q ≡ a → (a || begins_with q p) ≡ true → begins_with p q ≡ true
    by_test true e k = e
    by_test false e k = shorter_begins p q h k
one_begins p q n false h = by_test (begins_with p q) refl n
  where
    by_test : (a : Bool) → begins_with p q ≡ a → (a || begins_with q p) ≡ true → begins_with q p ≡ true
    by_test true e k = longer_begins p q h e
    by_test false e k = k

deeper_is_longer : (p q : List Step) → Agrees p q → Agrees q p → nested p q ≡ true → chain_end q ≡ q → deeper_chain p q ≡ longer p q
deeper_is_longer p q a c n l = by_test (is_shorter p q) refl
  where
    chosen : Bool → List Step
    chosen b = if b then q else p

    by_test : (b : Bool) → is_shorter p q ≡ b → deeper_chain p q ≡ longer p q
    by_test true e = ap chosen (lt-ltb (max_repetition p) (max_repetition q) (fewer_repeated p q a (one_begins p q n true e) e l)) ∙ sym (ap chosen e)
    by_test false e = ap chosen (le-ltb (max_repetition p) (max_repetition q) (no_more_repeated q p c (one_begins p q n false e))) ∙ sym (ap chosen e)

-- ---- of several

abbrev Each : (List Step → Type 0) → List (List Step) → Type 0
Each P [] = Unit {0}
Each P (p ∷ ps) = P p × Each P ps

longest_has : (P : List Step → Type 0) (ps : List (List Step)) → P [] → Each (λ p. P (chain_end p)) ps → P (longest_chain ps)
longest_has P [] z h = z
longest_has P (p ∷ ps) z h = by_test (is_shorter (chain_end p) (longest_chain ps)) (longest_has P ps z h.1)
  where
    by_test : (b : Bool) → P (longest_chain ps) → P (if b then longest_chain ps else chain_end p)
    by_test true k = k
    by_test false k = h.0

abbrev Fits : List Step → List Step → Type 0
Fits p q = Agrees (chain_end p) q × Agrees q (chain_end p) × (nested (chain_end p) q ≡ true) × (chain_end q ≡ q)

or_true : (a : Bool) → (a || true) ≡ true
or_true true = refl
or_true false = refl

all_fit : (fs : Fields) (p : List Step) (ps : List (List Step)) → is_leaf_path fs p ≡ true → list_all (is_leaf_path fs) ps ≡ true → list_all (are_related p) ps ≡ true → Each (λ q. Fits p (chain_end q)) ps
all_fit fs p [] h k r = tt
all_fit fs p (q ∷ ps) h k r =
    let x = and_parts (is_leaf_path fs q) (list_all (is_leaf_path fs) ps) k in
    let y = and_parts (are_related p q) (list_all (are_related p) ps) r in
    ((level_agrees p q (agree fs p q h x.0), level_agrees q p (agree fs q p x.0 h), y.0, level_level q), all_fit fs p ps h x.1 y.1)

pub deepest_is_longest : DeepestIsLongest
deepest_is_longest fs [] h r = refl
deepest_is_longest fs (p ∷ ps) h r =
    let x = and_parts (is_leaf_path fs p) (list_all (is_leaf_path fs) ps) h in
    let y = and_parts (list_all (are_related p) ps) (all_related ps) r in
    let f : Fits p (longest_chain ps) = longest_has (Fits p) ps (none_agrees (chain_end p), tt, or_true (begins_with (chain_end p) []), refl) (all_fit fs p ps x.0 x.1 y.0) in
    ap (deeper_chain (chain_end p)) (deepest_is_longest fs ps x.1 y.1) ∙ deeper_is_longer (chain_end p) (longest_chain ps) f.0 f.1 f.2 f.3
