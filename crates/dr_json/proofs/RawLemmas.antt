-- The value of a line as the line has it, and the data that it stands for.
use Rattle.std.proofs.Common.{◌≡◌, ℕ, zero, suc, ◌<◌, ◌≤◌, List, [], ◌∷◌, length, get_or, Bool, true, false, not, cond, ◌||◌, ◌&&◌, if◌then◌else◌, ℤ, Option, Some, None, is_some, option_map, option_and_then, Ordering, Less, Equal, Greater, Bor, Ok, Err, bytes_eq, refl, sym, ap, ap₂, ◌∙◌, arith, true≢false}
use Rattle.std.specs.List.{list_all}
use Rattle.std.specs.Ordering.{match_ordering}
use Rattle.std.specs.declared.alloc.Global.{Global}
use Rattle.json.specs.Json as json
use Rattle.json.specs.Find as raw
use Rattle.json.specs.Find.{later_or}
use Rattle.json.specs.Value.{value_view, members_view}
use Rattle.json.specs.declared.value.Value.{Value}
use Rattle.serde_json.specs.Data.{Num, Data, null, number, array, object, Members, no_members, member, put}
use Rattle.serde_json.specs.Find.{get_member, as_integer}
use Rattle.serde_json.specs.Read.{number_of, of_json, of_items, of_members}
use Rattle.serde_json.proofs.Views.{get_member-put, get_member-put_other}
use Rattle.dr_meaning.specs.Schema.{Kind, bool_kind, int32_kind, int64_kind, text_kind}
use Rattle.dr_meaning.specs.Record.{Instance, atom, bool_value, int_value, text_value, in_int32, in_int64}
use Rattle.dr_meaning.specs.JsonRecord.{of_integer, out_of_range, integer_of, leaf_value, is_null, are_known}
use Rattle.dr_json.specs.Held.{leaf_held}
use Rattle.dr_json.specs.Raw.{named_at, near, where_fits, leaf_raw}
use Rattle.dr_json.specs.Plain.{data_of}
use Rattle.dr_json.proofs.KeyLemmas.{Name, is_among, are_distinct, same_name, equal_itself, equal_sym, and_left, and_right}

-- ---- options

abbrev pick : {A : Type 0} → A → Option A → A
pick d None = d
pick d (Some a) = a

pub same_some : {A : Type 0} (a b : A) → Some a ≡ Some b → a ≡ b
same_some a b e = ap (pick a) e

-- ---- leaves

none_of : {A B C : Type 0} (f : A → B) (g : B → Option C) → ((a : A) → g (f a) ≡ None) → (o : Option A) → option_and_then g (option_map f o) ≡ None
none_of f g h None = refl
none_of f g h (Some a) = h a

abbrev leaf_from : Kind → Data → Option Instance
leaf_from k d = leaf_held (leaf_value k d)

pub bool_leaf : (j : json.Json) → leaf_raw bool_kind j ≡ option_map (λ b. atom (bool_value b)) (raw.as_bool j)
bool_leaf json.null = refl
bool_leaf (json.boolean b) = refl
bool_leaf (json.number s) = none_of number (leaf_from bool_kind) (λ n. refl) (number_of s)
bool_leaf (json.string s) = refl
bool_leaf (json.array js) = none_of array (leaf_from bool_kind) (λ ds. refl) (of_items js)
bool_leaf (json.object ms) = none_of object (leaf_from bool_kind) (λ m. refl) (of_members ms no_members)

pub text_leaf : (j : json.Json) → leaf_raw text_kind j ≡ option_map (λ t. atom (text_value t)) (raw.as_str j)
text_leaf json.null = refl
text_leaf (json.boolean b) = refl
text_leaf (json.number s) = none_of number (leaf_from text_kind) (λ n. refl) (number_of s)
text_leaf (json.string s) = refl
text_leaf (json.array js) = none_of array (leaf_from text_kind) (λ ds. refl) (of_items js)
text_leaf (json.object ms) = none_of object (leaf_from text_kind) (λ m. refl) (of_members ms no_members)

-- the whole number that a number's text is
abbrev pub whole_of : List ℕ → Option ℤ
whole_of s = option_and_then as_integer (number_of s)

abbrev pub int_instance : ℤ → Instance
int_instance z = atom (int_value z)

int_held_at : (b : Bool) (z : ℤ) → leaf_held (if b then Ok (int_value z) else Err out_of_range) ≡ option_map int_instance (if b then Some z else None)
int_held_at true z = refl
int_held_at false z = refl

int_held : (fits : ℤ → Bool) (o : Option ℤ) → leaf_held (of_integer fits o) ≡ option_map int_instance (where_fits fits o)
int_held fits None = refl
int_held fits (Some z) = int_held_at (fits z) z

int_number : (fits : ℤ → Bool) (o : Option Num) → option_and_then (λ (d : Data). leaf_held (of_integer fits (integer_of d))) (option_map number o) ≡ option_map int_instance (where_fits fits (option_and_then as_integer o))
int_number fits None = refl
int_number fits (Some n) = int_held fits (as_integer n)

pub int32_leaf : (j : json.Json) → leaf_raw int32_kind j ≡ option_map int_instance (where_fits in_int32 (option_and_then whole_of (raw.as_number j)))
int32_leaf json.null = refl
int32_leaf (json.boolean b) = refl
int32_leaf (json.number s) = int_number in_int32 (number_of s)
int32_leaf (json.string s) = refl
int32_leaf (json.array js) = none_of array (leaf_from int32_kind) (λ ds. refl) (of_items js)
int32_leaf (json.object ms) = none_of object (leaf_from int32_kind) (λ m. refl) (of_members ms no_members)

pub int64_leaf : (j : json.Json) → leaf_raw int64_kind j ≡ option_map int_instance (where_fits in_int64 (option_and_then whole_of (raw.as_number j)))
int64_leaf json.null = refl
int64_leaf (json.boolean b) = refl
int64_leaf (json.number s) = int_number in_int64 (number_of s)
int64_leaf (json.string s) = refl
int64_leaf (json.array js) = none_of array (leaf_from int64_kind) (λ ds. refl) (of_items js)
int64_leaf (json.object ms) = none_of object (leaf_from int64_kind) (λ m. refl) (of_members ms no_members)

narrower_at : (z : ℤ) (b : Bool) → in_int64 z ≡ b → (if in_int32 z then Some z else None) ≡ where_fits in_int32 (if b then Some z else None)
narrower_at z true e = refl
narrower_at z false e = let no : in_int32 z ≡ false = grind arith in rw no refl

-- what fits 32 bits fits 64
pub narrower : (o : Option ℤ) → where_fits in_int32 o ≡ where_fits in_int32 (where_fits in_int64 o)
narrower None = refl
narrower (Some z) = narrower_at z _ refl

fitting_at : (fits : ℤ → Bool) (z w : ℤ) (b : Bool) → fits z ≡ b → Some w ≡ (if b then Some z else None) → fits w ≡ true
fitting_at fits z w true e q = ap fits (same_some w z q) ∙ e
fitting_at fits z w false e q = absurd (cc)

pub fitting : (fits : ℤ → Bool) (o : Option ℤ) (w : ℤ) → Some w ≡ where_fits fits o → fits w ≡ true
fitting fits None w q = absurd (cc)
fitting fits (Some z) w q = fitting_at fits z w _ refl q

-- ---- the members of an object

abbrev pub Pair : Type 0
Pair = Bor (List ℕ) × Value Global

pub named_at_here : (ms : List Pair) (i : ℕ) (m : Pair) (n : Name) → i < length ms → m ≡ get_or ms i m → named_at i n (members_view ms) ≡ cond (bytes_eq m.0.now n) (Some (value_view m.1)) None
named_at_here [] i m n h is = absurd (omega arith)
named_at_here (x ∷ ms) zero m n h is = rw is refl
named_at_here (x ∷ ms) (suc i) m n h is = named_at_here ms i m n (omega arith) is

pub named_at_past : (ms : List Pair) (i : ℕ) (n : Name) → length ms ≤ i → named_at i n (members_view ms) ≡ None
named_at_past [] i n h = refl
named_at_past (x ∷ ms) zero n h = absurd (omega arith)
named_at_past (x ∷ ms) (suc i) n h = named_at_past ms i n (omega arith)

abbrev pub raw_keys : json.Members → List Name
raw_keys json.no_members = []
raw_keys (json.member k j ms) = k ∷ raw_keys ms

pub keys_length : (ms : List Pair) → length (raw_keys (members_view ms)) ≡ length ms
keys_length [] = refl
keys_length (m ∷ ms) = ap suc (keys_length ms)

later_some : (o : Option json.Json) (b c : Bool) (j : json.Json) → b ≡ c → is_some (later_or o (cond b (Some j) None)) ≡ (c || is_some o)
later_some None true true j e = refl
later_some None false false j e = refl
later_some (Some x) true true j e = refl
later_some (Some x) false false j e = refl
later_some o true false j e = absurd (true≢false e)
later_some o false true j e = absurd (true≢false (sym e))

pub there_raw : (n : Name) (ms : json.Members) → is_some (raw.get_member n ms) ≡ is_among (raw_keys ms) n
there_raw n json.no_members = refl
there_raw n (json.member k j ms) = later_some (raw.get_member n ms) (bytes_eq k n) (bytes_eq n k) j (equal_sym k n) ∙ ap (λ (b : Bool). bytes_eq n k || b) (there_raw n ms)

none_there : (o : Option json.Json) → is_some o ≡ false → o ≡ None
none_there None e = refl
none_there (Some j) e = absurd (true≢false e)

not_true : (b : Bool) → not b ≡ true → b ≡ false
not_true true e = absurd (true≢false (sym e))
not_true false e = refl

-- the first key of distinct ones isn't there again
first_once : (k : Name) (j : json.Json) (ms : json.Members) → are_distinct (raw_keys (json.member k j ms)) ≡ true → raw.get_member k ms ≡ None
first_once k j ms h = none_there (raw.get_member k ms) (there_raw k ms ∙ not_true (is_among (raw_keys ms) k) (and_left (not (is_among (raw_keys ms) k)) (are_distinct (raw_keys ms)) h))

later_same : (o c : Option json.Json) → is_some o ≡ true → later_or o c ≡ o
later_same None c h = absurd (true≢false (sym h))
later_same (Some j) c h = refl

near_first : (b : Bool) (k n : Name) (j : json.Json) (ms : json.Members) → bytes_eq k n ≡ b → are_distinct (raw_keys (json.member k j ms)) ≡ true
    → later_or (cond b (Some j) None) (later_or (raw.get_member n ms) (cond b (Some j) None)) ≡ later_or (raw.get_member n ms) (cond b (Some j) None)
near_first true k n j ms e h = let none : raw.get_member n ms ≡ None = ap (λ (x : Name). raw.get_member x ms) (sym (same_name k n e)) ∙ first_once k j ms h in rw none refl
near_first false k n j ms e h = refl

near_later : (at got c : Option json.Json) → later_or at got ≡ got → later_or at (later_or got c) ≡ later_or got c
near_later None got c e = refl
near_later (Some j) got c e = ap (λ (o : Option json.Json). later_or o c) e

-- of distinct keys, each is found wherever it is looked for first
pub near_distinct : (p : ℕ) (n : Name) (ms : json.Members) → are_distinct (raw_keys ms) ≡ true → near p n ms ≡ raw.get_member n ms
near_distinct p n json.no_members h = refl
near_distinct zero n (json.member k j ms) h = near_first _ k n j ms refl h
near_distinct (suc p) n (json.member k j ms) h = near_later (named_at p n ms) (raw.get_member n ms) _ (near_distinct p n ms (and_right (not (is_among (raw_keys ms) k)) (are_distinct (raw_keys ms)) h))

named_first : (b : Bool) (j : json.Json) (c : Bool) → is_some (cond b (Some j) None) ≡ true → (b || c) ≡ true
named_first true j c h = refl
named_first false j c h = absurd (true≢false (sym h))

named_there : (p : ℕ) (n : Name) (ms : json.Members) → is_some (named_at p n ms) ≡ true → is_some (raw.get_member n ms) ≡ true
named_there p n json.no_members h = absurd (true≢false (sym h))
named_there zero n (json.member k j ms) h = later_some (raw.get_member n ms) (bytes_eq k n) (bytes_eq k n) j refl ∙ named_first (bytes_eq k n) j (is_some (raw.get_member n ms)) h
named_there (suc p) n (json.member k j ms) h = let there = named_there p n ms h in ap is_some (later_same (raw.get_member n ms) _ there) ∙ there

near_there_at : (o p : Option json.Json) → (is_some o ≡ true → is_some p ≡ true) → is_some (later_or o p) ≡ is_some p
near_there_at None p h = refl
near_there_at (Some j) p h = sym (h refl)

pub near_there : (p : ℕ) (n : Name) (ms : json.Members) → is_some (near p n ms) ≡ is_among (raw_keys ms) n
near_there p n ms = near_there_at (named_at p n ms) (raw.get_member n ms) (named_there p n ms) ∙ there_raw n ms

-- ---- the data that a value stands for

-- the data of a value, or what was there before
abbrev data_or : Option Data → Option json.Json → Option (Option Data)
data_or old None = Some old
data_or old (Some j) = option_map (λ d. Some d) (of_json j)

data_or_none : (o : Option json.Json) → data_or None o ≡ data_of o
data_or_none None = refl
data_or_none (Some j) = refl

put_named : (b : Bool) (k n : Name) (d : Data) (j : json.Json) (found : Members) → bytes_eq k n ≡ b → of_json j ≡ Some d → data_or (get_member n found) (cond b (Some j) None) ≡ Some (get_member n (put k d found))
put_named true k n d j found e r = ap (option_map (λ x. Some x)) r ∙ ap Some (sym (get_member-put k d found) ∙ ap (λ (x : Name). get_member x (put k d found)) (same_name k n e))
put_named false k n d j found e r = ap Some (sym (get_member-put_other n k d found (λ same. true≢false (sym (equal_itself k) ∙ ap (bytes_eq k) (sym same) ∙ e))))

put_then : (o c : Option json.Json) (old next : Option Data) → data_or old c ≡ Some next → data_or old (later_or o c) ≡ data_or next o
put_then None c old next e = e
put_then (Some j) c old next e = refl

looked_at : (k n : Name) (j : json.Json) (ms : json.Members) (found all : Members) (o : Option Data) → of_json j ≡ o
    → ((d : Data) → of_members ms (put k d found) ≡ Some all → data_or (get_member n (put k d found)) (raw.get_member n ms) ≡ Some (get_member n all))
    → option_and_then (λ d. of_members ms (put k d found)) o ≡ Some all → data_or (get_member n found) (raw.get_member n (json.member k j ms)) ≡ Some (get_member n all)
looked_at k n j ms found all None r rest q = absurd (cc)
looked_at k n j ms found all (Some d) r rest q = put_then (raw.get_member n ms) _ (get_member n found) (get_member n (put k d found)) (put_named _ k n d j found refl r) ∙ rest d q

looked_from : (ms : json.Members) (found all : Members) (n : Name) → of_members ms found ≡ Some all → data_or (get_member n found) (raw.get_member n ms) ≡ Some (get_member n all)
looked_from json.no_members found all n e = ap (λ (m : Members). Some (get_member n m)) (same_some found all e)
looked_from (json.member k j ms) found all n e = looked_at k n j ms found all (of_json j) refl (λ d q. looked_from ms (put k d found) all n q) e

-- of what was converted, a key has the data of its last value
pub looked : (ms : json.Members) (all : Members) (n : Name) → of_members ms no_members ≡ Some all → data_of (raw.get_member n ms) ≡ Some (get_member n all)
looked ms all n e = sym (data_or_none (raw.get_member n ms)) ∙ looked_from ms no_members all n e

abbrev pub Converts : Option json.Json → Type 0
Converts o = (od : Option Data) × (data_of o ≡ Some od)

of_some : (o : Option Data) (od : Option Data) → option_map (λ (d : Data). Some d) o ≡ Some od → (d : Data) × (o ≡ Some d)
of_some None od e = absurd (cc)
of_some (Some d) od e = (d, refl)

either_true : (a b : Bool) → b ≡ true → (a || b) ≡ true
either_true true b h = refl
either_true false b h = h

among_later : (n k : Name) (ks : List Name) → is_among ks n ≡ true → (bytes_eq n k || is_among ks n) ≡ true
among_later n k ks h = either_true (bytes_eq n k) (is_among ks n) h

-- members with distinct keys are converted where each is
pub all_converted : (ms : json.Members) (found : Members) → are_distinct (raw_keys ms) ≡ true → ((n : Name) → is_among (raw_keys ms) n ≡ true → Converts (raw.get_member n ms)) → (all : Members) × (of_members ms found ≡ Some all)
all_converted json.no_members found h each = (found, refl)
all_converted (json.member k j ms) found h each =
    let here : raw.get_member k (json.member k j ms) ≡ Some j = rw (first_once k j ms h, equal_itself k) refl in
    let mine = each k (ap (λ (b : Bool). b || is_among (raw_keys ms) k) (equal_itself k)) in
    let one = of_some (of_json j) mine.0 (ap data_of (sym here) ∙ mine.1) in
    let rest = all_converted ms (put k one.0 found) (and_right (not (is_among (raw_keys ms) k)) (are_distinct (raw_keys ms)) h) (λ n there.
    let kept : raw.get_member n (json.member k j ms) ≡ raw.get_member n ms = later_same (raw.get_member n ms) _ (there_raw n ms ∙ there) in
    let was = each n (among_later n k (raw_keys ms) there) in
    (was.0, ap data_of (sym kept) ∙ was.1)) in
    (rest.0, ap (option_and_then (λ d. of_members ms (put k d found))) one.1 ∙ rest.1)

-- ---- known keys

known_match : (ns : List Name) (o : Ordering) (a b c : Members) → are_known ns a ≡ true → are_known ns b ≡ true → are_known ns c ≡ true → are_known ns (match_ordering o a b c) ≡ true
known_match ns Less a b c p q r = p
known_match ns Equal a b c p q r = q
known_match ns Greater a b c p q r = r

known_put : (ns : List Name) (k : Name) (d : Data) (found : Members) → is_among ns k ≡ true → are_known ns found ≡ true → are_known ns (put k d found) ≡ true
known_put ns k d no_members h f = ap₂ (λ (x y : Bool). x && y) h f
known_put ns k d (member l e ms) h f =
    let first = and_left (is_among ns l) (are_known ns ms) f in
    let rest = and_right (is_among ns l) (are_known ns ms) f in
    known_match ns _ (member k d (member l e ms)) (member l d ms) (member l e (put k d ms)) (ap₂ (λ (x y : Bool). x && y) h f) f (ap₂ (λ (x y : Bool). x && y) first (known_put ns k d ms h rest))

known_at : (ns : List Name) (k : Name) (ms : json.Members) (found all : Members) (o : Option Data) → ((d : Data) → of_members ms (put k d found) ≡ Some all → are_known ns all ≡ true)
    → option_and_then (λ d. of_members ms (put k d found)) o ≡ Some all → are_known ns all ≡ true
known_at ns k ms found all None rest q = absurd (cc)
known_at ns k ms found all (Some d) rest q = rest d q

pub known_all : (ns : List Name) (ms : json.Members) (found all : Members) → of_members ms found ≡ Some all → list_all (is_among ns) (raw_keys ms) ≡ true → are_known ns found ≡ true → are_known ns all ≡ true
known_all ns json.no_members found all e h f = ap (are_known ns) (sym (same_some found all e)) ∙ f
known_all ns (json.member k j ms) found all e h f =
    let first = and_left (is_among ns k) (list_all (is_among ns) (raw_keys ms)) h in
    let later = and_right (is_among ns k) (list_all (is_among ns) (raw_keys ms)) h in
    known_at ns k ms found all (of_json j) (λ d q. known_all ns ms (put k d found) all q later (known_put ns k d found first f)) e

-- ---- null

mapped_null : {A : Type 0} (f : A → Data) → ((a : A) → is_null (f a) ≡ false) → (o : Option A) (d : Data) → option_map f o ≡ Some d → is_null d ≡ false
mapped_null f h None d e = absurd (cc)
mapped_null f h (Some a) d e = ap is_null (sym (same_some (f a) d e)) ∙ h a

pub not_null : (j : json.Json) (d : Data) → raw.is_null j ≡ false → of_json j ≡ Some d → is_null d ≡ false
not_null json.null d h e = absurd (true≢false h)
not_null (json.boolean b) d h e = ap is_null (sym (same_some _ d e))
not_null (json.number s) d h e = mapped_null number (λ n. refl) (number_of s) d e
not_null (json.string s) d h e = ap is_null (sym (same_some _ d e))
not_null (json.array js) d h e = mapped_null array (λ ds. refl) (of_items js) d e
not_null (json.object ms) d h e = mapped_null object (λ m. refl) (of_members ms no_members) d e

pub null_is : (j : json.Json) → raw.is_null j ≡ true → of_json j ≡ Some null
null_is json.null h = refl
null_is (json.boolean b) h = absurd (true≢false (sym h))
null_is (json.number s) h = absurd (true≢false (sym h))
null_is (json.string s) h = absurd (true≢false (sym h))
null_is (json.array js) h = absurd (true≢false (sym h))
null_is (json.object ms) h = absurd (true≢false (sym h))
