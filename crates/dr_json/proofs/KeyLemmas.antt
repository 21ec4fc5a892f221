-- Of two lists without duplicates, as many elements of one are in the other as the other way round.
use Rattle.std.proofs.Common.{◌≡◌, ℕ, suc, ◌+◌, ◌≤◌, ◌==◌, List, [], ◌∷◌, length, Bool, true, false, not, ◌||◌, ◌&&◌, cond, Option, Some, None, is_some, option_map, Ordering, Less, Equal, Greater, is_eq, nat_cmp, string_bytes, string_cmp, bytes_eq, refl, sym, ap, ap₂, ◌∙◌, arith, true≢false}
use Rattle.std.specs.List.{list_any, list_all, count_by, AllByRecursion}
use Rattle.std.specs.List.Sorted.{IsStrictlySortedBy}
use Rattle.std.specs.Map.{keys_of, lookup}
use Rattle.std.specs.BTreeMap.{is_at}
use Rattle.std.specs.Ordering.{match_ordering}
use Rattle.std.specs.Cmp.Lexicographic.{slice_cmp}
use Rattle.std.proofs.lemmas.Bool.Decides.{nat_tests}
use Rattle.std.proofs.lemmas.List.Recursion.{is_count_by}
use Rattle.std.proofs.lemmas.Map.Text.{is_eq-slice_cmp}
use Rattle.std.proofs.lemmas.Slice.Eq.{bytes_eq-Decides}
use Rattle.serde_json.specs.Data.{Data, Members, no_members, member}
use Rattle.serde_json.specs.Find.{get_member}
use Rattle.serde_json.specs.View.{view, members_view}
use Rattle.serde_json.proofs.Views.{Entry, view-lookup}
use Rattle.dr_meaning.specs.Schema.{Fields, no_fields, field, field_names, is_group, is_shape, is_short_name}
use Rattle.dr_meaning.specs.JsonRecord.{are_known}
use Rattle.dr_nested.specs.declared.shape.Field.{Field}
use Rattle.dr_nested.specs.Views.{fields_view}
use Rattle.dr_nested.proofs.ViewLemmas.{view-field}
use Rattle.dr_json.specs.Checks.{given_count}

abbrev pub Name : Type 0
Name = List ℕ

abbrev pub is_among : List Name → Name → Bool
is_among ks n = list_any (bytes_eq n) ks

abbrev pub are_distinct : List Name → Bool
are_distinct [] = true
are_distinct (n ∷ ns) = not (is_among ns n) && are_distinct ns

abbrev pub how_many : {X : Type 0} → (X → Bool) → List X → ℕ
how_many p [] = 0
how_many p (x ∷ xs) = cond (p x) (1 + how_many p xs) (how_many p xs)

counted : {X : Type 0} (p : X → Bool) (xs : List X) → how_many p xs ≡ count_by p xs
counted {X} p xs = is_count_by (how_many p) p refl (λ (y : X) (ys : List X). refl) xs

-- ---- equal names

pub same_name : (a b : Name) → bytes_eq a b ≡ true → a ≡ b
same_name a b e = (bytes_eq-Decides a b).0 e

pub equal_itself : (a : Name) → bytes_eq a a ≡ true
equal_itself a = grind (arith, bytes_eq-Decides a a)

equal_sym_at : (a b : Name) (x y : Bool) → bytes_eq a b ≡ x → bytes_eq b a ≡ y → x ≡ y
equal_sym_at a b true true p q = refl
equal_sym_at a b false false p q = refl
equal_sym_at a b true false p q = absurd (true≢false (sym (equal_itself b) ∙ ap (bytes_eq b) (sym (same_name a b p)) ∙ q))
equal_sym_at a b false true p q = absurd (true≢false (sym (equal_itself a) ∙ ap (bytes_eq a) (sym (same_name b a q)) ∙ p))

pub equal_sym : (a b : Name) → bytes_eq a b ≡ bytes_eq b a
equal_sym a b = equal_sym_at a b _ _ refl refl

-- ---- counting

none_counted : (ks : List Name) → how_many (λ k. false) ks ≡ 0
none_counted [] = refl
none_counted (k ∷ ks) = none_counted ks

count-le-length_at : (b : Bool) (m n : ℕ) → m ≤ n → cond b (1 + m) m ≤ suc n
count-le-length_at true m n h = omega arith
count-le-length_at false m n h = omega arith

count-le-length : (p : Name → Bool) (ks : List Name) → how_many p ks ≤ length ks
count-le-length p [] = omega arith
count-le-length p (k ∷ ks) = count-le-length_at (p k) _ _ (count-le-length p ks)

all_counted_at : (b : Bool) (m n : ℕ) (all : Bool) → m ≤ n → (m == n) ≡ all → (cond b (1 + m) m == suc n) ≡ (b && all)
all_counted_at true m n all h e = grind (arith, nat_tests)
all_counted_at false m n all h e = grind (arith, nat_tests)

-- as many are counted as there are exactly where each passes
all_counted : (p : Name → Bool) (ks : List Name) → (how_many p ks == length ks) ≡ list_all p ks
all_counted p [] = refl
all_counted p (k ∷ ks) = all_counted_at (p k) _ _ _ (count-le-length p ks) (all_counted p ks)

-- ---- one name among distinct ones is counted once

once_at : (x a : Bool) (n k : Name) (ks : List Name) → bytes_eq k n ≡ x → is_among ks n ≡ a → not (is_among ks k) ≡ true → cond x (1 + cond a 1 0) (cond a 1 0) ≡ cond (x || a) 1 0
once_at true true n k ks e f h = absurd (true≢false (sym h ∙ ap not (ap (is_among ks) (same_name k n e) ∙ f)))
once_at true false n k ks e f h = refl
once_at false true n k ks e f h = refl
once_at false false n k ks e f h = refl

pub and_left : (a b : Bool) → (a && b) ≡ true → a ≡ true
and_left true b e = refl
and_left false b e = e

pub and_right : (a b : Bool) → (a && b) ≡ true → b ≡ true
and_right true b e = e
and_right false b e = absurd (true≢false (sym e))

once : (n : Name) (ks : List Name) → are_distinct ks ≡ true → how_many (λ k. bytes_eq k n) ks ≡ cond (is_among ks n) 1 0
once n [] h = refl
once n (k ∷ ks) h =
    let rest = and_right (not (is_among ks k)) (are_distinct ks) h in
    let first = and_left (not (is_among ks k)) (are_distinct ks) h in
    rw (once n ks rest) (once_at _ _ n k ks refl refl first ∙ ap (λ (x : Bool). cond (x || is_among ks n) 1 0) (equal_sym k n))

-- ---- names that are one or among others, where the one isn't among the others

apart_at : (x a : Bool) (n k : Name) (ns : List Name) (i j : ℕ) → bytes_eq k n ≡ x → is_among ns k ≡ a → not (is_among ns n) ≡ true → cond (x || a) (1 + (i + j)) (i + j) ≡ cond x (1 + i) i + cond a (1 + j) j
apart_at true true n k ns i j e f h = absurd (true≢false (sym h ∙ ap not (ap (is_among ns) (sym (same_name k n e)) ∙ f)))
apart_at true false n k ns i j e f h = omega arith
apart_at false true n k ns i j e f h = omega arith
apart_at false false n k ns i j e f h = refl

apart : (n : Name) (ns ks : List Name) → not (is_among ns n) ≡ true → how_many (λ k. bytes_eq k n || is_among ns k) ks ≡ how_many (λ k. bytes_eq k n) ks + how_many (is_among ns) ks
apart n ns [] h = refl
apart n ns (k ∷ ks) h = rw (apart n ns ks h) (apart_at _ _ n k ns _ _ refl refl h)

added : (b : Bool) (m : ℕ) → cond b (1 + m) m ≡ cond b 1 0 + m
added true m = refl
added false m = omega arith

both : (ns ks : List Name) → are_distinct ns ≡ true → are_distinct ks ≡ true → how_many (is_among ks) ns ≡ how_many (is_among ns) ks
both [] ks hn hk = sym (none_counted ks)
both (n ∷ ns) ks hn hk =
    let later = both ns ks (and_right _ _ hn) hk in
    let here = once n ks hk in
    let parts = apart n ns ks (and_left _ _ hn) in
    added (is_among ks n) _ ∙ ap₂ (λ (i j : ℕ). i + j) (sym here) later ∙ sym parts

-- ---- the keys of an object

abbrev member_keys : Members → List Name
member_keys no_members = []
member_keys (member k d ms) = k ∷ member_keys ms

there_at : (o : Ordering) (d : Data) (r : Option Data) → is_some (match_ordering o r (Some d) r) ≡ (is_eq o || is_some r)
there_at Less d r = refl
there_at Equal d r = refl
there_at Greater d r = refl

there : (n : Name) (ms : Members) → is_some (get_member n ms) ≡ is_among (member_keys ms) n
there n no_members = refl
there n (member k d ms) = there_at (slice_cmp nat_cmp n k) d _ ∙ ap₂ (λ (x y : Bool). x || y) (is_eq-slice_cmp n k) (there n ms)

known : (ns : List Name) (ms : Members) → are_known ns ms ≡ list_all (is_among ns) (member_keys ms)
known ns no_members = refl
known ns (member k d ms) = ap (λ (x : Bool). is_among ns k && x) (known ns ms)

keys_count : (es : List Entry) → length (member_keys (members_view es)) ≡ length es
keys_count [] = refl
keys_count (e ∷ es) = ap suc (keys_count es)

later_key : (e : Entry) (es : List Entry) → AllByRecursion (λ y. string_cmp e.0 y ≡ Less) (keys_of es) → is_among (member_keys (members_view es)) (string_bytes e.0) ≡ false
later_key e [] h = refl
later_key e (x ∷ es) h = rw (sym (is_eq-slice_cmp (string_bytes e.0) (string_bytes x.0)), h.0) (later_key e es h.1)

keys_are_distinct : (es : List Entry) → IsStrictlySortedBy string_cmp (keys_of es) → are_distinct (member_keys (members_view es)) ≡ true
unfolding IsStrictlySortedBy
keys_are_distinct [] h = refl
keys_are_distinct (e ∷ es) h = rw (later_key e es h.0) (keys_are_distinct es h.1)

-- ---- the names of a group

pub names_are_distinct : (fs : Fields) → is_group fs ≡ true → are_distinct (field_names fs) ≡ true
names_are_distinct no_fields h = refl
names_are_distinct (field n r s fs) h =
    let apart_from_rest = not (is_among (field_names fs) n) in
    let front = and_left ((is_short_name n && apart_from_rest) && is_shape s) (is_group fs) h in
    let first = and_right (is_short_name n) apart_from_rest (and_left (is_short_name n && apart_from_rest) (is_shape s) front) in
    ap₂ (λ (x y : Bool). x && y) first (names_are_distinct fs (and_right _ _ h))

pub named : (p : Name → Bool) (fs : List Field) → how_many (λ (f : Field). p (string_bytes f.name)) fs ≡ how_many p (field_names (fields_view fs))
named p [] = refl
named p (f ∷ fs) = rw (view-field f) (ap (λ (m : ℕ). cond (p (string_bytes f.name)) (1 + m) m) (named p fs))

pub some_of : {X Y : Type 0} (f : X → Y) (o : Option X) → is_some o ≡ is_some (option_map f o)
some_of f None = refl
some_of f (Some x) = refl

found : (name : Name) (es : List Entry) → is_some (lookup (is_at (λ k. slice_cmp nat_cmp name (string_bytes k))) es) ≡ is_among (member_keys (members_view es)) name
found name es = some_of view _ ∙ ap is_some (view-lookup name es) ∙ there name (members_view es)

-- as many fields are among the object's keys as there are keys exactly where each key is a field's name
as_many_known : (fs : List Field) (es : List Entry) → is_group (fields_view fs) ≡ true → IsStrictlySortedBy string_cmp (keys_of es)
    → (how_many (λ (f : Field). is_among (member_keys (members_view es)) (string_bytes f.name)) fs == length es) ≡ are_known (field_names (fields_view fs)) (members_view es)
as_many_known fs es h o =
    let ns = field_names (fields_view fs) in
    let ks = member_keys (members_view es) in
    let turned = both ns ks (names_are_distinct (fields_view fs) h) (keys_are_distinct es o) in
    ap (λ (m : ℕ). m == length es) (named (is_among ks) fs ∙ turned) ∙ ap (λ (m : ℕ). how_many (is_among ns) ks == m) (sym (keys_count es))
    ∙ all_counted (is_among ns) ks ∙ sym (known ns (members_view es))

-- as many fields have a key in the object, by looking each up
pub keys_known : (fs : List Field) (es : List Entry) → is_group (fields_view fs) ≡ true → IsStrictlySortedBy string_cmp (keys_of es)
    → (count_by (λ (f : Field). is_some (lookup (is_at (λ k. slice_cmp nat_cmp (string_bytes f.name) (string_bytes k))) es)) fs == length es) ≡ are_known (field_names (fields_view fs)) (members_view es)
keys_known fs es h o =
    let ks = member_keys (members_view es) in
    let seen : (λ (f : Field). is_some (lookup (is_at (λ k. slice_cmp nat_cmp (string_bytes f.name) (string_bytes k))) es)) ≡ (λ (f : Field). is_among ks (string_bytes f.name)) = simp found refl in
    ap (λ (p : Field → Bool). count_by p fs == length es) seen
    ∙ ap (λ (m : ℕ). m == length es) (sym (counted (λ (f : Field). is_among ks (string_bytes f.name)) fs)) ∙ as_many_known fs es h o

given_many : (ms : Members) (fs : List Field) → given_count ms fs ≡ how_many (λ (f : Field). is_among (member_keys ms) (string_bytes f.name)) fs
given_many ms [] = refl
given_many ms (f ∷ fs) = ap₂ (λ (b : Bool) (m : ℕ). cond b (1 + m) m) (there (string_bytes f.name) ms) (given_many ms fs)

-- as many fields have a key in the object, as a check counts them
pub given_known : (fs : List Field) (es : List Entry) → is_group (fields_view fs) ≡ true → IsStrictlySortedBy string_cmp (keys_of es) → (given_count (members_view es) fs == length es) ≡ are_known (field_names (fields_view fs)) (members_view es)
given_known fs es h o = ap (λ (m : ℕ). m == length es) (given_many (members_view es) fs) ∙ as_many_known fs es h o

-- ---- as many distinct names among keys as there are keys

either_both_at : (x y : Bool) (i j m n : ℕ) → i + j ≡ m + n → cond (x || y) (1 + i) i + cond (x && y) (1 + j) j ≡ cond x (1 + m) m + cond y (1 + n) n
either_both_at true true i j m n e = omega arith
either_both_at true false i j m n e = omega arith
either_both_at false true i j m n e = omega arith
either_both_at false false i j m n e = e

either_both : (p q : Name → Bool) (ns : List Name) → how_many (λ n. p n || q n) ns + how_many (λ n. p n && q n) ns ≡ how_many p ns + how_many q ns
either_both p q [] = refl
either_both p q (n ∷ ns) = either_both_at (p n) (q n) _ _ _ _ (either_both p q ns)

at_most_one : (b : Bool) → cond b 1 0 ≤ 1
at_most_one true = omega arith
at_most_one false = omega arith

one_then : (b : Bool) (n : ℕ) → n ≡ cond b 1 0 → n ≡ 1 → b ≡ true
one_then true n e o = refl
one_then false n e o = absurd (omega arith)

-- the names that are among the keys, by the first key and the rest
by_first : (k : Name) (ks ns : List Name) → are_distinct ns ≡ true → how_many (is_among (k ∷ ks)) ns + how_many (λ n. bytes_eq n k && is_among ks n) ns ≡ cond (is_among ns k) 1 0 + how_many (is_among ks) ns
by_first k ks ns h = either_both (λ n. bytes_eq n k) (is_among ks) ns ∙ ap (λ (m : ℕ). m + how_many (is_among ks) ns) (once k ns h)

at_most_keys : (ks ns : List Name) → are_distinct ns ≡ true → how_many (is_among ks) ns ≤ length ks
at_most_keys [] ns h = let none = none_counted ns in omega arith
at_most_keys (k ∷ ks) ns h =
    let parts = by_first k ks ns h in
    let later = at_most_keys ks ns h in
    let one = at_most_one (is_among ns k) in
    omega arith

twice_at : (x : Bool) (k n : Name) (ks : List Name) (i j : ℕ) → bytes_eq n k ≡ x → is_among ks k ≡ true → i ≡ j → cond (x && is_among ks n) (1 + i) i ≡ cond x (1 + j) j
twice_at true k n ks i j e h r = rw (same_name n k e, h, r) refl
twice_at false k n ks i j e h r = r

-- a key that comes again is counted both ways
key_twice : (k : Name) (ks ns : List Name) → is_among ks k ≡ true → how_many (λ n. bytes_eq n k && is_among ks n) ns ≡ how_many (λ n. bytes_eq n k) ns
key_twice k ks [] h = refl
key_twice k ks (n ∷ ns) h = twice_at _ k n ks _ _ refl h (key_twice k ks ns h)

first_alone : (b : Bool) (k : Name) (ks ns : List Name) → is_among ks k ≡ b → are_distinct ns ≡ true → is_among ns k ≡ true → how_many (λ n. bytes_eq n k && is_among ks n) ns ≡ 0 → not b ≡ true
first_alone true k ks ns e h named none = absurd (let one = once k ns h ∙ ap (λ (x : Bool). cond x 1 0) named in let again = key_twice k ks ns e in omega arith)
first_alone false k ks ns e h named none = refl

pub record AllNamed (ks ns : List Name) : Type 0 where
  pub distinct : are_distinct ks ≡ true
  pub known : list_all (is_among ns) ks ≡ true

pub as_many_named : (ks ns : List Name) → are_distinct ns ≡ true → how_many (is_among ks) ns ≡ length ks → AllNamed ks ns
as_many_named [] ns h e = record { distinct = refl; known = refl }
as_many_named (k ∷ ks) ns h e =
    let parts = by_first k ks ns h in
    let most = at_most_keys ks ns h in
    let one = at_most_one (is_among ns k) in
    let here : ℕ = cond (is_among ns k) 1 0 in
    let one_is : here ≡ 1 = omega arith in
    let rest_is : how_many (is_among ks) ns ≡ length ks = omega arith in
    let none : how_many (λ n. bytes_eq n k && is_among ks n) ns ≡ 0 = omega arith in
    let first = one_then (is_among ns k) here refl one_is in
    let rest = as_many_named ks ns h rest_is in
    record {
      distinct = ap₂ (λ (x y : Bool). x && y) (first_alone _ k ks ns refl h first none) rest.distinct;
      known = ap₂ (λ (x y : Bool). x && y) first rest.known;
    }
