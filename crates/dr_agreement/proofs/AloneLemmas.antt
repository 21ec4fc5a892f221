-- A leaf's triplets alone.
use Rattle.std.proofs.Common.{◌≡◌, ℕ, zero, suc, ◌+◌, ◌<◌, ◌≤◌, List, [], ◌∷◌, ◌++◌, map, length, take, drop, get_or, Bool, true, false, ◌&&◌, Option, Some, None, ◌⊎◌, inl, inr, refl, sym, ap, ap₂, ◌∙◌, subst, true≢false, arith, add-one}
use Rattle.std.specs.Prelude.{◌==◌, nat_le, if◌then◌else◌, is_some, not}
use Rattle.std.specs.List.{list_all, slice_get}
use Rattle.std.proofs.lemmas.Bool.{eqb-true, cases_lt}
use Rattle.std.proofs.lemmas.Bool.Decides.{nat_tests}
use Rattle.std.proofs.lemmas.List.{length-drop, map-append}
use Rattle.dr_meaning.specs.Schema.{Kind, Repetition, required, optional, repeated, definition_count, repetition_count}
use Rattle.dr_meaning.specs.Path.{Step, Leaf, max_repetition, max_definition}
use Rattle.dr_meaning.specs.Record.{Value, bool_value, int_value, is_of_kind}
use Rattle.dr_meaning.specs.Column.{Triplet, triplet}
use Rattle.dr_meaning.specs.OneColumn.{starts, begins_record, fits_value, fits_levels, past_field, level_inside, may_follow, all_follow, is_column}
use Rattle.dr_levels.specs.Dense.{present, joined, first_of, value_list, values_view, text_values}
use Rattle.dr_levels.specs.Lent.{present_values, lends_kind, lent_values}
use Rattle.dr_levels.specs.Views.{levels_pair, triplet_levels, triplets_view}
use Rattle.dr_levels.specs.declared.triplet.Levels.{Levels}
use Rattle.dr_levels.specs.declared.triplets.Triplets.{Triplets}
use Rattle.std.specs.Prelude.{ℤ}
use Rattle.std.specs.Str.{is_utf8}
use denote.Ref.{Bor}
use Rattle.dr_meaning.specs.Schema as tree
use Rattle.dr_nested.specs.Views.{kind_view}
use Rattle.dr_nested.specs.declared.shape.Kind.{Kind as CodeKind}
use Rattle.dr_levels.specs.Texts.{bytes_at, is_text}
use Rattle.dr_levels.specs.declared.text_place.TextPlace.{TextPlace}
use Rattle.dr_levels.specs.declared.values_ref.ValuesRef.{ValuesRef}
use Rattle.dr_agreement.specs.Alone.{with_least, least_levels, may_stand, each_may_stand, IsTestOf, AreTestsOf, OneIsNoColumn}
use Rattle.dr_agreement.specs.declared.column_of_leaf.LeafTest.{LeafTest}
use Rattle.dr_agreement.proofs.OutlinedLemmas.{columns_at}
use Rattle.dr_beside.specs.Neighbours.{column_at}
use Rattle.dr_nested.specs.PathView.{path_view}
use Rattle.dr_nested.specs.declared.path.Path.{Path}

-- ---- least levels

level_step : (r : Repetition) (n g : ℕ) (rest : List ℕ) (inside : ℕ → ℕ) (j : ℕ) → ((k : ℕ) → n + inside k ≡ get_or rest k g) → n + past_field r inside j ≡ get_or (with_least r n rest) j g
level_step required n g rest inside j h = h j
level_step optional n g rest inside j h = h j
level_step repeated n g rest inside zero h = omega arith
level_step repeated n g rest inside (suc j) h = h j

none_left : (j g : ℕ) → get_or [] j g ≡ g
none_left zero g = refl
none_left (suc j) g = refl

level_from : (p : List Step) (n j : ℕ) → n + level_inside p j ≡ get_or (least_levels n p) j (n + max_definition p)
level_from [] n j = omega arith ∙ sym (none_left j (n + 0))
level_from (s ∷ p) n j =
    let m : ℕ = n + definition_count s.repetition in
    let a : n + (definition_count s.repetition + max_definition p) ≡ m + max_definition p = omega arith in
    let b : n + (definition_count s.repetition + past_field s.repetition (level_inside p) j) ≡ m + past_field s.repetition (level_inside p) j = omega arith in
    b ∙ (level_step s.repetition m (m + max_definition p) (least_levels m p) (level_inside p) j (λ k. level_from p m k) ∙ ap (get_or (with_least s.repetition m (least_levels m p)) j) (sym a))

-- a repeated field's least level, in the list of them
level_is : (p : List Step) (j : ℕ) → level_inside p j ≡ get_or (least_levels 0 p) j (max_definition p)
level_is p j =
    let z : level_inside p j ≡ 0 + level_inside p j = omega arith in
    let m : 0 + max_definition p ≡ max_definition p = omega arith in
    z ∙ (level_from p 0 j ∙ ap (get_or (least_levels 0 p) j) m)

with_count : (r : Repetition) (n k : ℕ) (ls : List ℕ) → length ls ≡ k → length (with_least r n ls) ≡ repetition_count r + k
with_count required n k ls h = omega (arith, h)
with_count optional n k ls h = omega (arith, h)
with_count repeated n k ls h = omega (arith, h)

-- there is one for each repeated field
pub least_count : (p : List Step) (n : ℕ) → length (least_levels n p) ≡ max_repetition p
least_count [] n = refl
least_count (s ∷ p) n = let m : ℕ = n + definition_count s.repetition in with_count s.repetition m (max_repetition p) (least_levels m p) (least_count p m)

other_default : (ls : List ℕ) (i d e : ℕ) → i < length ls → get_or ls i d ≡ get_or ls i e
other_default [] i d e h = absurd (omega (arith, h))
other_default (l ∷ ls) zero d e h = refl
other_default (l ∷ ls) (suc i) d e h = other_default ls i d e (omega (arith, h))

-- ---- one triplet's levels

and_last : (a b : Bool) → (a && b) ≡ (b && a)
and_last true true = refl
and_last true false = refl
and_last false true = refl
and_last false false = refl

and_false : (a : Bool) → (a && false) ≡ false
and_false true = refl
and_false false = refl

le_true : (a b : ℕ) → a ≤ b → nat_le a b ≡ true
le_true a b h = grind (arith, nat_tests)

le_false : (a b : ℕ) → b < a → nat_le a b ≡ false
le_false a b h = grind (arith, nat_tests)

zero_le : (a : ℕ) → nat_le 0 a ≡ true
zero_le a = grind (arith, nat_tests)

shuffled : (a b c : Bool) → (c && (a && b)) ≡ ((a && b) && c)
shuffled a b c = and_last c (a && b)

-- by the least level of the repetition level, if it has one
pub stands_by : (p : List Step) (before r d least g : ℕ) → r < length (0 ∷ least_levels 0 p) → least ≡ get_or (0 ∷ least_levels 0 p) r 0 → g ≡ max_definition p
    → ((nat_le least before && nat_le least d) && nat_le d g) ≡ may_stand p before (r, d)
stands_by p before zero d least g h e q =
    rw e (rw q (rw (zero_le before) (rw (zero_le d) (rw (zero_le (max_repetition p)) (sym (and_one (nat_le d (max_definition p))))))))
  where
    and_one : (a : Bool) → (a && true) ≡ a
    and_one true = refl
    and_one false = refl
stands_by p before (suc j) d least g h e q =
    let n = least_count p 0 in
    let within : j < length (least_levels 0 p) = omega (arith, h) in
    let few : suc j ≤ max_repetition p = omega (arith, h, n) in
    let is : least ≡ level_inside p j = e ∙ (other_default (least_levels 0 p) j 0 (max_definition p) within ∙ sym (level_is p j)) in
    rw is (rw q (rw (le_true (suc j) (max_repetition p) few) (sym (shuffled (nat_le (level_inside p j) before) (nat_le (level_inside p j) d) (nat_le d (max_definition p))))))

pub stands_not : (p : List Step) (before r d : ℕ) → length (0 ∷ least_levels 0 p) ≤ r → false ≡ may_stand p before (r, d)
stands_not p before r d h =
    let n = least_count p 0 in
    rw (le_false r (max_repetition p) (omega (arith, h, n))) refl

-- ---- one after another

cut_here : (ls : List Levels) (i : ℕ) (d : Levels) → i < length ls → drop i ls ≡ get_or ls i d ∷ drop (suc i) ls
cut_here [] i d h = absurd (omega (arith, h))
cut_here (l ∷ ls) zero d h = refl
cut_here (l ∷ ls) (suc i) d h = cut_here ls i d (omega (arith, h))

cut_at : (ls : List Levels) (i : ℕ) (d : Levels) → i < length ls → drop i ls ≡ get_or ls i d ∷ drop (i + 1) ls
cut_at ls i d h = cut_here ls i d h ∙ ap (λ (n : ℕ). get_or ls i d ∷ drop n ls) (sym (add-one i))

joined_and : (a b c : Bool) → (a && (b && c)) ≡ ((a && b) && c)
joined_and true b c = refl
joined_and false b c = refl

pub stand_more : (p : List Step) (before : ℕ) (ls : List Levels) (i : ℕ) (d : Levels) (fits : Bool) (b : Bool) → i < length ls → b ≡ may_stand p before (levels_pair (get_or ls i d))
    → (fits && each_may_stand p before (map levels_pair (drop i ls))) ≡ ((fits && b) && each_may_stand p (get_or ls i d).definition (map levels_pair (drop (i + 1) ls)))
stand_more p before ls i d fits b h e = ap (λ (xs : List Levels). fits && each_may_stand p before (map levels_pair xs)) (cut_at ls i d h) ∙ (rw e (joined_and fits (may_stand p before (levels_pair (get_or ls i d))) (each_may_stand p (get_or ls i d).definition (map levels_pair (drop (i + 1) ls)))))

-- ---- triplets with a value exactly at the greatest definition level

abbrev pub is_dense : ℕ → Triplet → Bool
is_dense g t = if t.definition == g then is_some t.value else not (is_some t.value)

dense_more : (g : ℕ) (l : Levels) (ls : List Levels) (b : Bool) → (l.definition == g) ≡ b → (vs : List Value) → ((us : List Value) → present g ls ≤ length us → list_all (is_dense g) (joined g ls us) ≡ true)
    → (if b then suc (present g ls) else present g ls) ≤ length vs
    → list_all (is_dense g) (if b then triplet l.repetition l.definition (first_of vs) ∷ joined g ls (drop 1 vs) else triplet l.repetition l.definition None ∷ joined g ls vs) ≡ true
dense_more g l ls true e [] ih h = absurd (omega (arith, h))
dense_more g l ls true e (v ∷ vs) ih h = rw e (ih vs (omega (arith, h)))
dense_more g l ls false e vs ih h = rw e (ih vs h)

pub joined_dense : (g : ℕ) (ls : List Levels) (vs : List Value) → present g ls ≤ length vs → list_all (is_dense g) (joined g ls vs) ≡ true
joined_dense g [] vs h = refl
joined_dense g (l ∷ ls) vs h = dense_more g l ls (l.definition == g) refl vs (λ us k. joined_dense g ls us k) h

-- its value fits where the values that it has do
value_fits : (k : Kind) (b : Bool) (v : Option Value) → (if b then is_some v else not (is_some v)) ≡ true → fits_value k b v ≡ list_all (is_of_kind k) (value_list v)
value_fits k true None h = absurd (true≢false (sym h))
value_fits k true (Some v) h = sym (and_one (is_of_kind k v))
  where
    and_one : (a : Bool) → (a && true) ≡ a
    and_one true = refl
    and_one false = refl
value_fits k false None h = refl
value_fits k false (Some v) h = absurd (true≢false (sym h))

all_of_both : (k : Kind) (xs ys : List Value) → list_all (is_of_kind k) (xs ++ ys) ≡ (list_all (is_of_kind k) xs && list_all (is_of_kind k) ys)
all_of_both k [] ys = refl
all_of_both k (x ∷ xs) ys = by_test (is_of_kind k x) (all_of_both k xs ys)
  where
    by_test : (b : Bool) → list_all (is_of_kind k) (xs ++ ys) ≡ (list_all (is_of_kind k) xs && list_all (is_of_kind k) ys) → (b && list_all (is_of_kind k) (xs ++ ys)) ≡ ((b && list_all (is_of_kind k) xs) && list_all (is_of_kind k) ys)
    by_test true e = e
    by_test false e = refl

regrouped : (a b m v s q l f : Bool) → (s && q) ≡ (l && f) → (((a && (b && m)) && s) && (v && q)) ≡ ((((a && b) && v) && l) && (m && f))
regrouped false b m v s q l f e = refl
regrouped true false m v s q l f e = refl
regrouped true true false v s q l f e = sym (and_false (v && l))
regrouped true true true false s q l f e = and_false s
regrouped true true true true s q l f e = e

and_pair : (a b : Bool) → (a && b) ≡ true → (a ≡ true) × (b ≡ true)
and_pair true true h = (refl, refl)
and_pair true false h = absurd (true≢false (sym h))
and_pair false b h = absurd (true≢false (sym h))

grouped : (a b v : Bool) → ((a && b) && v) ≡ (a && (b && v))
grouped true b v = refl
grouped false b v = refl

-- triplets behind one of this level
pub behind_tested : (k : Kind) (p : List Step) (d : ℕ) (t : Triplet) (us : List Triplet) → t.definition ≡ d → list_all (is_dense (max_definition p)) us ≡ true
    → (each_may_stand p d (map triplet_levels us) && list_all (is_of_kind k) (present_values us)) ≡ (list_all (fits_levels k (max_repetition p) (max_definition p)) us && all_follow p t us)
behind_tested k p d t [] e h = refl
behind_tested k p d t (u ∷ us) e h =
    let parts = and_pair (is_dense (max_definition p) u) (list_all (is_dense (max_definition p)) us) h in
    let rest = behind_tested k p u.definition u us refl parts.1 in
    ap (λ (b : Bool). (may_stand p d (triplet_levels u) && each_may_stand p u.definition (map triplet_levels us)) && b) (all_of_both k (value_list u.value) (present_values us))
    ∙ regrouped (nat_le u.repetition (max_repetition p)) (nat_le u.definition (max_definition p)) (may_follow p d u.definition u.repetition) (list_all (is_of_kind k) (value_list u.value)) _ _ _ _ rest
    ∙ ap₂ (λ (b : Bool) (n : ℕ). (((nat_le u.repetition (max_repetition p) && nat_le u.definition (max_definition p)) && b) && list_all (fits_levels k (max_repetition p) (max_definition p)) us) && (may_follow p n u.definition u.repetition && all_follow p u us))
    (sym (value_fits k (u.definition == max_definition p) u.value parts.0)) (sym e)

left_true : (x v : Bool) → ((x && true) && v) ≡ (x && v)
left_true true v = refl
left_true false v = refl

right_true : (l f : Bool) → (l && f && true) ≡ (l && f)
right_true true true = refl
right_true true false = refl
right_true false f = refl

left_false : (x v : Bool) → ((x && false) && v) ≡ false
left_false true v = refl
left_false false v = refl

right_false : (l f : Bool) → (l && f && false) ≡ false
right_false true true = refl
right_false true false = refl
right_false false f = refl

first_regrouped : (z x s v l f : Bool) → (x && v) ≡ (l && f) → (((z && x) && s) && v) ≡ (l && (z && f) && s)
first_regrouped false x s v true f e = refl
first_regrouped false x s v false f e = refl
first_regrouped true x true v l f e = left_true x v ∙ (e ∙ sym (right_true l f))
first_regrouped true x false v l f e = left_false x v ∙ sym (right_false l f)

-- triplets pass the test of their leaf by their levels and their values
pub column_tested : (l : Leaf) (n : ℕ) (ts : List Triplet) → list_all (is_dense (max_definition l.path)) ts ≡ true
    → (((begins_record ts && each_may_stand l.path 0 (map triplet_levels ts)) && (starts ts == n)) && list_all (is_of_kind l.kind) (present_values ts)) ≡ is_column l n ts
column_tested l n [] h = by_test (0 == n)
  where
    by_test : (b : Bool) → (((true && true) && b) && true) ≡ ((true && true) && b)
    by_test true = refl
    by_test false = refl
column_tested l n (t ∷ ts) h = by_test (t.repetition == 0) refl
  where
    k : Kind
    k = l.kind

    p : List Step
    p = l.path

    all : Bool
    all = list_all (fits_levels l.kind (max_repetition l.path) (max_definition l.path)) (t ∷ ts)

    values : Bool
    values = list_all (is_of_kind l.kind) (present_values (t ∷ ts))

    stand : Bool
    stand = each_may_stand l.path 0 (map triplet_levels (t ∷ ts))

    same : (t.repetition == 0) ≡ true → (stand && values) ≡ (all && all_follow l.path t ts)
    same z =
        let r : t.repetition ≡ 0 = eqb-true t.repetition 0 z in
        let e = behind_tested l.kind l.path 0 (triplet 0 0 None) (t ∷ ts) refl h in
        e ∙ ap (λ (j : ℕ). all && (may_follow l.path 0 t.definition j && all_follow l.path t ts)) r

    by_test : (b : Bool) → (t.repetition == 0) ≡ b → ((((t.repetition == 0) && stand) && (starts (t ∷ ts) == n)) && values) ≡ (all && ((t.repetition == 0) && all_follow l.path t ts) && (starts (t ∷ ts) == n))
    by_test true z = first_regrouped (t.repetition == 0) stand (starts (t ∷ ts) == n) values all (all_follow l.path t ts) (same z)
    by_test false z =
        ap (λ (b : Bool). ((b && stand) && (starts (t ∷ ts) == n)) && values) z ∙ (none all ∙ ap (λ (b : Bool). all && (b && all_follow l.path t ts) && (starts (t ∷ ts) == n)) (sym z))
      where
        none : (a : Bool) → false ≡ (a && (false && all_follow l.path t ts) && (starts (t ∷ ts) == n))
        none true = refl
        none false = refl

-- of columns that are lent
pub dense_triplets : (t : Triplets) (g : ℕ) → g ≡ t.column.now.greatest → list_all (is_dense g) (triplets_view t) ≡ true
dense_triplets t g e =
    let V = drop t.value (values_view t.column.now.values) in
    let few : present t.column.now.greatest t.levels.now ≤ length V = omega (arith, t.there, length-drop t.value (values_view t.column.now.values)) in
    ap (λ (n : ℕ). list_all (is_dense n) (triplets_view t)) e ∙ joined_dense t.column.now.greatest t.levels.now V few

-- ---- values of a kind

pub numbers_of_kind : (k : CodeKind) (zs : List ℤ) → list_all (λ (z : ℤ). is_of_kind (kind_view k) (int_value z)) zs ≡ list_all (is_of_kind (kind_view k)) (map int_value zs)
numbers_of_kind k [] = refl
numbers_of_kind k (z ∷ zs) = ap (λ (b : Bool). is_of_kind (kind_view k) (int_value z) && b) (numbers_of_kind k zs)

all_truths : (bs : List Bool) → true ≡ list_all (is_of_kind tree.bool_kind) (map bool_value bs)
all_truths [] = refl
all_truths (b ∷ bs) = all_truths bs

all_texts : (bytes : List ℕ) (ps : List TextPlace) → list_all (is_text bytes) ps ≡ true → true ≡ list_all (is_of_kind tree.text_kind) (text_values bytes ps)
all_texts bytes [] h = refl
all_texts bytes (p ∷ ps) h =
    let parts = and_pair (is_text bytes p) (list_all (is_text bytes) ps) h in
    let text = and_pair (nat_le (p.start + p.length) (length bytes)) (is_utf8 (bytes_at bytes p)) parts.0 in
    all_texts bytes ps parts.1 ∙ ap (λ (b : Bool). b && list_all (is_of_kind tree.text_kind) (text_values bytes ps)) (sym text.1)

pub truths_of_kind : (k : CodeKind) (v : ValuesRef) (bs : Bor (List Bool)) → v ≡ ValuesRef.Bools bs → lends_kind (kind_view k) v ≡ true → true ≡ list_all (is_of_kind (kind_view k)) (lent_values v)
truths_of_kind k v bs e h = by_kind k (subst (λ (x : ValuesRef). lends_kind (kind_view k) x ≡ true) e h) ∙ ap (λ (x : ValuesRef). list_all (is_of_kind (kind_view k)) (lent_values x)) (sym e)
  where
    by_kind : (k : CodeKind) → lends_kind (kind_view k) (ValuesRef.Bools bs) ≡ true → true ≡ list_all (is_of_kind (kind_view k)) (lent_values (ValuesRef.Bools bs))
    by_kind CodeKind.Bool h = all_truths bs.now
    by_kind CodeKind.I32 h = absurd (true≢false (sym h))
    by_kind CodeKind.I64 h = absurd (true≢false (sym h))
    by_kind CodeKind.Text h = absurd (true≢false (sym h))

pub texts_of_kind : (k : CodeKind) (v : ValuesRef) (bytes : Bor (List ℕ)) (places : Bor (List TextPlace)) → v ≡ ValuesRef.Texts bytes places → lends_kind (kind_view k) v ≡ true → true ≡ list_all (is_of_kind (kind_view k)) (lent_values v)
texts_of_kind k v bytes places e h = by_kind k (subst (λ (x : ValuesRef). lends_kind (kind_view k) x ≡ true) e h) ∙ ap (λ (x : ValuesRef). list_all (is_of_kind (kind_view k)) (lent_values x)) (sym e)
  where
    by_kind : (k : CodeKind) → lends_kind (kind_view k) (ValuesRef.Texts bytes places) ≡ true → true ≡ list_all (is_of_kind (kind_view k)) (lent_values (ValuesRef.Texts bytes places))
    by_kind CodeKind.Bool h = absurd (true≢false (sym h))
    by_kind CodeKind.I32 h = absurd (true≢false (sym h))
    by_kind CodeKind.I64 h = absurd (true≢false (sym h))
    by_kind CodeKind.Text h = all_texts bytes.now places.now h

-- ---- tests of leaves

pub tests_more : (L : List Leaf) (xs : List LeafTest) (l : Leaf) (x : LeafTest) → AreTestsOf L xs → IsTestOf l x → AreTestsOf (L ++ l ∷ []) (xs ++ x ∷ [])
tests_more [] [] l x h k = (k, tt)
tests_more [] (y ∷ xs) l x h k = absurd h
tests_more (m ∷ L) [] l x h k = absurd h
tests_more (m ∷ L) (y ∷ xs) l x h k = (h.0, tests_more L xs l x h.1 k)

no_leaf : (l : Leaf) → None ≡ Some l → ⊥
no_leaf l e = cc

same_leaf : (l m : Leaf) → Some l ≡ Some m → l ≡ m
same_leaf l m e = cc

-- the test of a number is that of the leaf of that number
pub test_there : (L : List Leaf) (xs : List LeafTest) (i : ℕ) (l : Leaf) (d : LeafTest) → AreTestsOf L xs → slice_get L i ≡ Some l → IsTestOf l (get_or xs i d)
test_there [] xs i l d h e = absurd (no_leaf l e)
test_there (m ∷ L) [] i l d h e = absurd h
test_there (m ∷ L) (x ∷ xs) zero l d h e = subst (λ (y : Leaf). IsTestOf y x) (same_leaf m l e) h.0
test_there (m ∷ L) (x ∷ xs) (suc i) l d h e = test_there L xs i l d h.1 e

pub leaf_there : (L : List Leaf) (xs : List LeafTest) (i : ℕ) (d : LeafTest) → AreTestsOf L xs → i < length xs → (l : Leaf) × (slice_get L i ≡ Some l) × IsTestOf l (get_or xs i d)
leaf_there L [] i d h k = absurd (omega (arith, k))
leaf_there [] (x ∷ xs) i d h k = absurd h
leaf_there (m ∷ L) (x ∷ xs) zero d h k = (m, refl, h.0)
leaf_there (m ∷ L) (x ∷ xs) (suc i) d h k = leaf_there L xs i d h.1 (omega (arith, k))

pub as_many_tests : (L : List Leaf) (xs : List LeafTest) → AreTestsOf L xs → length L ≡ length xs
as_many_tests [] [] h = refl
as_many_tests [] (x ∷ xs) h = absurd h
as_many_tests (l ∷ L) [] h = absurd h
as_many_tests (l ∷ L) (x ∷ xs) h = let n = as_many_tests L xs h.1 in omega (arith, n)

pub tests_push : (ls : List Path) (i : ℕ) (p : Path) (xs : List LeafTest) (x : LeafTest) (ys : List LeafTest) → i < length ls → p ≡ get_or ls i p → ys ≡ xs ++ x ∷ [] → IsTestOf (path_view p) x → AreTestsOf (map path_view (take i ls)) xs
    → AreTestsOf (map path_view (take (i + 1) ls)) ys
tests_push ls i p xs x ys l e q is h =
    subst (AreTestsOf (map path_view (take (i + 1) ls))) (sym q)
    (subst (λ (ms : List Path). AreTestsOf (map path_view ms) (xs ++ x ∷ [])) (sym (taken_more ls i p l e))
    (subst (λ (L : List Leaf). AreTestsOf L (xs ++ x ∷ [])) (sym (map-append path_view (take i ls) (p ∷ []))) (tests_more (map path_view (take i ls)) xs (path_view p) x h is)))
  where
    taken : (ls : List Path) (i : ℕ) (p : Path) → i < length ls → p ≡ get_or ls i p → take (suc i) ls ≡ take i ls ++ p ∷ []
    taken [] i p l e = absurd (omega (arith, l))
    taken (m ∷ ls) zero p l e = ap (λ (y : Path). y ∷ []) (sym e)
    taken (m ∷ ls) (suc i) p l e = ap (λ (ys : List Path). m ∷ ys) (taken ls i p (omega (arith, l)) e)

    taken_more : (ls : List Path) (i : ℕ) (p : Path) → i < length ls → p ≡ get_or ls i p → take (i + 1) ls ≡ take i ls ++ p ∷ []
    taken_more ls i p l e = ap (λ (n : ℕ). take n ls) (add-one i) ∙ taken ls i p l e

-- one that is no column
pub none_at : (L : List Leaf) (xs : List LeafTest) (cs : List Triplets) (i n : ℕ) (x : LeafTest) (c : Triplets) (b : Bool) → AreTestsOf L xs → i < length xs → length cs ≡ length xs → x ≡ get_or xs i x → c ≡ get_or cs i c
    → ((l : Leaf) → IsTestOf l x → b ≡ is_column l n (triplets_view c)) → b ≡ false → OneIsNoColumn L (map triplets_view cs) n
none_at L xs cs i n x c b are h m e q is f =
    let l = leaf_there L xs i x are h in
    (i, l.0, l.1, ap (is_column l.0 n) (columns_at cs i c (omega (arith, h, m)) q) ∙ (sym (is l.0 (subst (IsTestOf l.0) (sym e) l.2)) ∙ f))

-- one more is a column
pub column_more : (L : List Leaf) (xs : List LeafTest) (cs : List Triplets) (i n : ℕ) (x : LeafTest) (c : Triplets) (b : Bool) → AreTestsOf L xs → i < length xs → length cs ≡ length xs → x ≡ get_or xs i x → c ≡ get_or cs i c
    → ((l : Leaf) → IsTestOf l x → b ≡ is_column l n (triplets_view c)) → b ≡ true → ((j : ℕ) (l : Leaf) → j < i → slice_get L j ≡ Some l → is_column l n (column_at (map triplets_view cs) j) ≡ true)
    → (j : ℕ) (l : Leaf) → j < i + 1 → slice_get L j ≡ Some l → is_column l n (column_at (map triplets_view cs) j) ≡ true
column_more L xs cs i n x c b are h m e q is t before j l k at = by_side (cases_lt j i)
  where
    by_side : (j < i) ⊎ (i ≤ j) → is_column l n (column_at (map triplets_view cs) j) ≡ true
    by_side (inl z) = before j l z at
    by_side (inr z) =
        let same : j ≡ i = omega (arith, k, z) in
        ap (λ (y : ℕ). is_column l n (column_at (map triplets_view cs) y)) same
        ∙ (ap (is_column l n) (columns_at cs i c (omega (arith, h, m)) q) ∙ (sym (is l (subst (IsTestOf l) (sym e) (test_there L xs i l x are (ap (slice_get L) (sym same) ∙ at)))) ∙ t))
