-- Commas stand between items before FROM, and between keys behind BY, and nowhere else: how many elements were begun is told by them.
use Rattle.std.specs.Prelude.{◌≡◌, ◌≤◌, ℕ, zero, suc, ◌+◌, List, [], ◌∷◌, ◌++◌, length, Bool, true, false, ◌&&◌, if◌then◌else◌, Option}
use Rattle.std.specs.List.{list_all}
use Rattle.std.proofs.Common.{refl, sym, ap, ap₂, subst, ◌∙◌, arith, append_assoc, append-nil, length-append, true≢false}
use Rattle.std.proofs.lemmas.Bool.{and_parts}
use Rattle.dr_meaning.specs.Tokens.{Word, Sign, QueryToken, reserved, sign, from_word, by_word, select_word, group_word, where_word, comma, dot, star, plus_sign, minus_sign}
use Rattle.dr_meaning.specs.Tokens.{open_parenthesis, close_parenthesis, and_word, or_word, not_word, like_word, contains_word, is_word, null_word, PlacedToken}
use Rattle.dr_meaning.specs.Expression.{Comparison}
use Rattle.dr_meaning.specs.Query.{Aggregate}
use Rattle.dr_meaning.specs.Syntax.{PathSyntax, ExpressionSyntax, WithinSyntax, TermSyntax, ItemSyntax, ConditionSyntax}
use Rattle.dr_meaning.specs.QueryGrammar.{word_at, sign_at, name_at, text_at, SpellsNames, first_name, further_name, SpellsPath, IsComparison, is_equal, is_unequal, is_less, is_at_most, is_greater, is_at_least}
use Rattle.dr_meaning.specs.QueryGrammar.{SpellsExpression, one_and, or_and, SpellsAnd, one_not, and_not, SpellsNot, not_not, one_test, SpellsTest, one_sum, compared_sums, like_text, not_like_text}
use Rattle.dr_meaning.specs.QueryGrammar.{contains_text, not_contains_text, is_null_word, is_not_null, SpellsSum, one_product, plus_product, minus_product, SpellsProduct, one_unary, times_unary}
use Rattle.dr_meaning.specs.QueryGrammar.{SpellsUnary, minus_unary, one_primary, SpellsPrimary, a_number, a_text, a_true, a_false, a_path, in_parentheses, SpellsWithin, no_within, within_the_record}
use Rattle.dr_meaning.specs.QueryGrammar.{within_a_path, IsAggregate, is_count, is_sum, is_least, is_greatest, SpellsTerm, counted_rows, aggregated, an_expression, SpellsAs, no_as, as_name, SpellsItem}
use Rattle.dr_meaning.specs.QueryGrammar.{Separated, alone, and_one, SpellsWhere, no_where, where_expression, SpellsGroup, no_group, group_by, SpellsEnd, no_semicolon, a_semicolon}
use Rattle.dr_query_laws.specs.LimitLaws.{BeforeItem, before_first_item, before_further_item, BeforeKeys, before_keys, BeforeKey, before_first_key, before_further_key}

-- ---- tokens

abbrev pub is_comma : QueryToken → Bool
is_comma (sign comma) = true
is_comma t = false

abbrev is_from : QueryToken → Bool
is_from (reserved from_word) = true
is_from t = false

abbrev is_by : QueryToken → Bool
is_by (reserved by_word) = true
is_by t = false

-- whether a token is neither FROM nor BY
abbrev is_quiet : QueryToken → Bool
is_quiet (reserved from_word) = false
is_quiet (reserved by_word) = false
is_quiet t = true

-- whether a token is none of these, and no comma
abbrev is_plain : QueryToken → Bool
is_plain (sign comma) = false
is_plain (reserved from_word) = false
is_plain (reserved by_word) = false
is_plain t = true

quiet_token : (k : QueryToken) → is_plain k ≡ true → is_quiet k ≡ true
quiet_token (reserved from_word) h = absurd (true≢false (sym h))
quiet_token (reserved by_word) h = absurd (true≢false (sym h))
quiet_token k h = refl

no_comma : (k : QueryToken) → is_plain k ≡ true → is_comma k ≡ false
no_comma (sign comma) h = absurd (true≢false (sym h))
no_comma k h = refl

no_from : (k : QueryToken) → is_quiet k ≡ true → is_from k ≡ false
no_from (reserved from_word) h = absurd (true≢false (sym h))
no_from k h = refl

no_by : (k : QueryToken) → is_quiet k ≡ true → is_by k ≡ false
no_by (reserved by_word) h = absurd (true≢false (sym h))
no_by k h = refl

abbrev quiet : PlacedToken → Bool
quiet t = is_quiet t.token

abbrev plain : PlacedToken → Bool
plain t = is_plain t.token

abbrev Quiet : List PlacedToken → Type 0
Quiet ts = list_all quiet ts ≡ true

abbrev Plain : List PlacedToken → Type 0
Plain ts = list_all plain ts ≡ true

all_both : (f : PlacedToken → Bool) (ts us : List PlacedToken) → list_all f ts ≡ true → list_all f us ≡ true → list_all f (ts ++ us) ≡ true
all_both f [] us h k = k
all_both f (t ∷ ts) us h k = let a = and_parts (f t) (list_all f ts) h in ap₂ (λ x y. x && y) a.0 (all_both f ts us a.1 k)

both : (ts us : List PlacedToken) → Plain ts → Plain us → Plain (ts ++ us)
both ts us h k = all_both plain ts us h k

plain_quiet : (ts : List PlacedToken) → Plain ts → Quiet ts
plain_quiet [] h = refl
plain_quiet (t ∷ ts) h = let a = and_parts (plain t) (list_all plain ts) h in ap₂ (λ x y. x && y) (quiet_token t.token a.0) (plain_quiet ts a.1)

-- ---- what is spelled, but for lists

names_plain : (ts : List PlacedToken) (ns : List (List ℕ)) → SpellsNames ts ns → Plain ts
names_plain _ _ (first_name i n) = refl
names_plain _ _ (further_name i j ts ns n x) = both ts (sign_at i dot ∷ name_at j n ∷ []) (names_plain ts ns x) refl

pub path_plain : (ts : List PlacedToken) (p : PathSyntax) → SpellsPath ts p → Plain ts
path_plain ts p x = names_plain ts p.names x.1

compares_plain : (g : Sign) (c : Comparison) → IsComparison g c → is_plain (sign g) ≡ true
compares_plain _ _ is_equal = refl
compares_plain _ _ is_unequal = refl
compares_plain _ _ is_less = refl
compares_plain _ _ is_at_most = refl
compares_plain _ _ is_greater = refl
compares_plain _ _ is_at_least = refl

mutual
  expression_plain : (ts : List PlacedToken) (e : ExpressionSyntax) → SpellsExpression ts e → Plain ts
  expression_plain _ _ (one_and ts e x) = and_plain ts e x
  expression_plain _ _ (or_and i ts us a b x y) = both ts (word_at i or_word ∷ us) (expression_plain ts a x) (and_plain us b y)

  and_plain : (ts : List PlacedToken) (e : ExpressionSyntax) → SpellsAnd ts e → Plain ts
  and_plain _ _ (one_not ts e x) = not_plain ts e x
  and_plain _ _ (and_not i ts us a b x y) = both ts (word_at i and_word ∷ us) (and_plain ts a x) (not_plain us b y)

  not_plain : (ts : List PlacedToken) (e : ExpressionSyntax) → SpellsNot ts e → Plain ts
  not_plain _ _ (not_not i ts e x) = not_plain ts e x
  not_plain _ _ (one_test ts e x) = test_plain ts e x

  test_plain : (ts : List PlacedToken) (e : ExpressionSyntax) → SpellsTest ts e → Plain ts
  test_plain _ _ (one_sum ts e x) = sum_plain ts e x
  test_plain _ _ (compared_sums i s c ts us a b g x y) = both ts (sign_at i s ∷ us) (sum_plain ts a x) (ap₂ (λ u v. u && v) (compares_plain s c g) (sum_plain us b y))
  test_plain _ _ (like_text i j ts e t x) = both ts (word_at i like_word ∷ text_at j t ∷ []) (sum_plain ts e x) refl
  test_plain _ _ (not_like_text h i j ts e t x) = both ts (word_at h not_word ∷ word_at i like_word ∷ text_at j t ∷ []) (sum_plain ts e x) refl
  test_plain _ _ (contains_text i j ts e t x) = both ts (word_at i contains_word ∷ text_at j t ∷ []) (sum_plain ts e x) refl
  test_plain _ _ (not_contains_text h i j ts e t x) = both ts (word_at h not_word ∷ word_at i contains_word ∷ text_at j t ∷ []) (sum_plain ts e x) refl
  test_plain _ _ (is_null_word i j ts e x) = both ts (word_at i is_word ∷ word_at j null_word ∷ []) (sum_plain ts e x) refl
  test_plain _ _ (is_not_null i j k ts e x) = both ts (word_at i is_word ∷ word_at j not_word ∷ word_at k null_word ∷ []) (sum_plain ts e x) refl

  sum_plain : (ts : List PlacedToken) (e : ExpressionSyntax) → SpellsSum ts e → Plain ts
  sum_plain _ _ (one_product ts e x) = product_plain ts e x
  sum_plain _ _ (plus_product i ts us a b x y) = both ts (sign_at i plus_sign ∷ us) (sum_plain ts a x) (product_plain us b y)
  sum_plain _ _ (minus_product i ts us a b x y) = both ts (sign_at i minus_sign ∷ us) (sum_plain ts a x) (product_plain us b y)

  product_plain : (ts : List PlacedToken) (e : ExpressionSyntax) → SpellsProduct ts e → Plain ts
  product_plain _ _ (one_unary ts e x) = unary_plain ts e x
  product_plain _ _ (times_unary i ts us a b x y) = both ts (sign_at i star ∷ us) (product_plain ts a x) (unary_plain us b y)

  unary_plain : (ts : List PlacedToken) (e : ExpressionSyntax) → SpellsUnary ts e → Plain ts
  unary_plain _ _ (minus_unary i ts e x) = unary_plain ts e x
  unary_plain _ _ (one_primary ts e x) = primary_plain ts e x

  primary_plain : (ts : List PlacedToken) (e : ExpressionSyntax) → SpellsPrimary ts e → Plain ts
  primary_plain _ _ (a_number i n) = refl
  primary_plain _ _ (a_text i t) = refl
  primary_plain _ _ (a_true i) = refl
  primary_plain _ _ (a_false i) = refl
  primary_plain _ _ (a_path ts p x) = path_plain ts p x
  primary_plain _ _ (in_parentheses i j ts e x) = both ts (sign_at j close_parenthesis ∷ []) (expression_plain ts e x) refl

within_plain : (ts : List PlacedToken) (w : Option WithinSyntax) → SpellsWithin ts w → Plain ts
within_plain _ _ no_within = refl
within_plain _ _ (within_the_record i j) = refl
within_plain _ _ (within_a_path i ts p x) = path_plain ts p x

aggregate_plain : (v : Word) (a : Aggregate) → IsAggregate v a → is_plain (reserved v) ≡ true
aggregate_plain _ _ is_count = refl
aggregate_plain _ _ is_sum = refl
aggregate_plain _ _ is_least = refl
aggregate_plain _ _ is_greatest = refl

term_plain : (ts : List PlacedToken) (t : TermSyntax) → SpellsTerm ts t → Plain ts
term_plain _ _ (counted_rows h i j k ts w s) = within_plain ts w s
term_plain _ _ (aggregated h i j v a ts us e w g x s) = ap₂ (λ y z. y && z) (aggregate_plain v a g)
    (both ts (sign_at j close_parenthesis ∷ us) (expression_plain ts e x) (within_plain us w s))
term_plain _ _ (an_expression ts e x) = expression_plain ts e x

as_plain : (ts : List PlacedToken) (n : Option (List ℕ)) → SpellsAs ts n → Plain ts
as_plain _ _ no_as = refl
as_plain _ _ (as_name i j n) = refl

pub item_plain : (ts : List PlacedToken) (x : ItemSyntax) → SpellsItem ts x → Plain ts
item_plain ts x s = subst Plain (sym s.2) (both s.0 s.1 (term_plain s.0 x.term s.4) (as_plain s.1 x.name s.5))

where_plain : (ts : List PlacedToken) (c : Option ConditionSyntax) → SpellsWhere ts c → Plain ts
where_plain _ _ no_where = refl
where_plain _ _ (where_expression i j ts e b x) = expression_plain ts e x

-- ---- commas

abbrev commas : List PlacedToken → ℕ
commas [] = 0
commas (t ∷ ts) = if is_comma t.token then suc (commas ts) else commas ts

-- those before FROM
abbrev pub item_commas : List PlacedToken → ℕ
item_commas [] = 0
item_commas (t ∷ ts) = if is_from t.token then 0 else (if is_comma t.token then suc (item_commas ts) else item_commas ts)

-- those behind BY
abbrev pub key_commas : List PlacedToken → ℕ
key_commas [] = 0
key_commas (t ∷ ts) = if is_by t.token then commas ts else key_commas ts

one_more : (b : Bool) (m n k : ℕ) → m ≡ n + k → (if b then suc m else m) ≡ (if b then suc n else n) + k
one_more true m n k h = omega (arith, h)
one_more false m n k h = h

commas_append : (ts us : List PlacedToken) → commas (ts ++ us) ≡ commas ts + commas us
commas_append [] us = omega (arith)
commas_append (t ∷ ts) us = one_more (is_comma t.token) (commas (ts ++ us)) (commas ts) (commas us) (commas_append ts us)

item_commas_behind : (ts us : List PlacedToken) → Quiet ts → item_commas (ts ++ us) ≡ commas ts + item_commas us
item_commas_behind [] us h = omega (arith)
item_commas_behind (t ∷ ts) us h =
    let a = and_parts (quiet t) (list_all quiet ts) h in
    ap (λ b. if b then 0 else (if is_comma t.token then suc (item_commas (ts ++ us)) else item_commas (ts ++ us))) (no_from t.token a.0)
    ∙ one_more (is_comma t.token) (item_commas (ts ++ us)) (commas ts) (item_commas us) (item_commas_behind ts us a.1)

key_commas_behind : (ts us : List PlacedToken) → Quiet ts → key_commas (ts ++ us) ≡ key_commas us
key_commas_behind [] us h = refl
key_commas_behind (t ∷ ts) us h =
    let a = and_parts (quiet t) (list_all quiet ts) h in
    ap (λ b. if b then commas (ts ++ us) else key_commas (ts ++ us)) (no_by t.token a.0) ∙ key_commas_behind ts us a.1

plain_commas : (ts : List PlacedToken) → Plain ts → commas ts ≡ 0
plain_commas [] h = refl
plain_commas (t ∷ ts) h =
    let a = and_parts (plain t) (list_all plain ts) h in
    ap (λ b. if b then suc (commas ts) else commas ts) (no_comma t.token a.0) ∙ plain_commas ts a.1

-- a front has no more
commas_front : (ts us : List PlacedToken) → commas ts ≤ commas (ts ++ us)
commas_front ts us = let e = commas_append ts us in omega (arith, e)

stops_or_more : (b c : Bool) (m n : ℕ) → m ≤ n → (if b then 0 else (if c then suc m else m)) ≤ (if b then 0 else (if c then suc n else n))
stops_or_more true c m n h = omega (arith)
stops_or_more false true m n h = omega (arith, h)
stops_or_more false false m n h = h

item_commas_front : (ts us : List PlacedToken) → item_commas ts ≤ item_commas (ts ++ us)
item_commas_front [] us = omega (arith)
item_commas_front (t ∷ ts) us = stops_or_more (is_from t.token) (is_comma t.token) (item_commas ts) (item_commas (ts ++ us)) (item_commas_front ts us)

begins_or_goes_on : (b : Bool) (k l m n : ℕ) → k ≤ l → m ≤ n → (if b then k else m) ≤ (if b then l else n)
begins_or_goes_on true k l m n h g = h
begins_or_goes_on false k l m n h g = g

key_commas_front : (ts us : List PlacedToken) → key_commas ts ≤ key_commas (ts ++ us)
key_commas_front [] us = omega (arith)
key_commas_front (t ∷ ts) us = begins_or_goes_on (is_by t.token) (commas ts) (commas (ts ++ us)) (key_commas ts) (key_commas (ts ++ us)) (commas_front ts us) (key_commas_front ts us)

-- ---- lists

-- elements with commas between
record Listed (ts : List PlacedToken) (n : ℕ) : Type 0 where
  quiet : Quiet ts
  count : suc (commas ts) ≡ n

listed : {A : Type 0} (S : List PlacedToken → A → Type 0) → ((ts : List PlacedToken) (a : A) → S ts a → Plain ts) → (ts : List PlacedToken) (xs : List A) → Separated A S ts xs → Listed ts (length xs)
listed S h _ _ (alone ts x s) = let p = h ts x s in record { quiet = plain_quiet ts p; count = ap suc (plain_commas ts p) }
listed S h _ _ (and_one i ts us xs x r s) =
    let l = listed S h ts xs r in
    let p = h us x s in
    let all : commas (ts ++ sign_at i comma ∷ us) ≡ commas ts + suc (commas us) = commas_append ts (sign_at i comma ∷ us) in
    let none = plain_commas us p in
    let long : length (xs ++ x ∷ []) ≡ length xs + 1 = length-append xs (x ∷ []) in
    let before = l.count in
    record { quiet = all_both quiet ts (sign_at i comma ∷ us) l.quiet (plain_quiet us p); count = omega (arith, all, none, long, before) }

items_listed : (ts : List PlacedToken) (xs : List ItemSyntax) → Separated ItemSyntax SpellsItem ts xs → Listed ts (length xs)
items_listed ts xs s = listed SpellsItem item_plain ts xs s

keys_listed : (ts : List PlacedToken) (ks : List PathSyntax) → Separated PathSyntax SpellsPath ts ks → Listed ts (length ks)
keys_listed ts ks s = listed SpellsPath path_plain ts ks s

-- ---- queries

-- at most 255 commas between items, and at most 255 between keys
abbrev pub Few : List PlacedToken → Type 0
Few ts = (item_commas ts ≤ 255) × (key_commas ts ≤ 255)

pub few_front : (ts us : List PlacedToken) → Few (ts ++ us) → Few ts
few_front ts us h =
    let i = item_commas_front ts us in
    let k = key_commas_front ts us in
    let a = h.0 in
    let b = h.1 in
    (omega (arith, i, a), omega (arith, k, b))

no_end_commas : (ts : List PlacedToken) → SpellsEnd ts → commas ts ≡ 0
no_end_commas _ no_semicolon = refl
no_end_commas _ (a_semicolon i) = refl

no_end_keys : (ts : List PlacedToken) → SpellsEnd ts → key_commas ts ≡ 0
no_end_keys _ no_semicolon = refl
no_end_keys _ (a_semicolon i) = refl

few_keys : (ts us : List PlacedToken) (ks : List PathSyntax) → SpellsGroup ts ks → length ks ≤ 256 → SpellsEnd us → key_commas (ts ++ us) ≤ 255
few_keys _ us _ no_group few end = let e = no_end_keys us end in omega (arith, e)
few_keys _ us _ (group_by i j ts ks s) few end =
    let e = no_end_commas us end in
    let all = commas_append ts us in
    let count = (keys_listed ts ks s).count in
    omega (arith, e, all, count, few)

-- the tokens of a query with few items and keys
pub few_in_query : (h i j : ℕ) (n : List ℕ) (ts us vs ws : List PlacedToken) (xs : List ItemSyntax) (c : Option ConditionSyntax) (ks : List PathSyntax)
    → Separated ItemSyntax SpellsItem ts xs → length xs ≤ 256 → SpellsWhere us c → SpellsGroup vs ks → length ks ≤ 256 → SpellsEnd ws
    → Few (word_at h select_word ∷ (ts ++ word_at i from_word ∷ name_at j n ∷ (us ++ (vs ++ ws))))
few_in_query h i j n ts us vs ws xs c ks s few w g few_too end =
    let rest = word_at i from_word ∷ name_at j n ∷ (us ++ (vs ++ ws)) in
    let l = items_listed ts xs s in
    let items : item_commas (ts ++ rest) ≡ commas ts + 0 = item_commas_behind ts rest l.quiet in
    let keys : key_commas (ts ++ rest) ≡ key_commas (us ++ (vs ++ ws)) = key_commas_behind ts rest l.quiet in
    let clauses : key_commas (us ++ (vs ++ ws)) ≡ key_commas (vs ++ ws) = key_commas_behind us (vs ++ ws) (plain_quiet us (where_plain us c w)) in
    let group = few_keys vs ws ks g few_too end in
    let count = l.count in
    (omega (arith, items, count, few), omega (arith, keys, clauses, group))

-- ---- before an item and before a key

pub commas_before_item : (m : ℕ) (ts : List PlacedToken) → BeforeItem m ts → item_commas ts ≡ m
commas_before_item _ _ (before_first_item h) = refl
commas_before_item _ _ (before_further_item h i ts xs s) =
    let l = items_listed ts xs s in
    let all : item_commas (ts ++ sign_at i comma ∷ []) ≡ commas ts + 1 = item_commas_behind ts (sign_at i comma ∷ []) l.quiet in
    let count = l.count in
    omega (arith, all, count)

commas_behind_keys : (front rest : List PlacedToken) → BeforeKeys front → key_commas (front ++ rest) ≡ commas rest
commas_behind_keys _ rest (before_keys h i j k l n ts us xs c s w) =
    let clauses = us ++ word_at k group_word ∷ word_at l by_word ∷ [] in
    let more = word_at i from_word ∷ name_at j n ∷ clauses in
    let items = items_listed ts xs s in
    ap key_commas (append_assoc ts more rest)
    ∙ (key_commas_behind ts (more ++ rest) items.quiet
    ∙ (ap key_commas (append_assoc us (word_at k group_word ∷ word_at l by_word ∷ []) rest)
    ∙ key_commas_behind us (word_at k group_word ∷ word_at l by_word ∷ rest) (plain_quiet us (where_plain us c w))))

pub commas_before_key : (m : ℕ) (ts : List PlacedToken) → BeforeKey m ts → key_commas ts ≡ m
commas_before_key _ _ (before_first_key front b) = ap key_commas (sym (append-nil front)) ∙ commas_behind_keys front [] b
commas_before_key _ _ (before_further_key i front ts ks b s) =
    let l = keys_listed ts ks s in
    let all = commas_behind_keys front (ts ++ sign_at i comma ∷ []) b in
    let last : commas (ts ++ sign_at i comma ∷ []) ≡ commas ts + 1 = commas_append ts (sign_at i comma ∷ []) in
    let count = l.count in
    omega (arith, all, last, count)
