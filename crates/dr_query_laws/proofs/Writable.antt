-- What the trees of parsed queries have: names of the right form, and numbers that are tokens; so they can be written and read again.
use Rattle.std.proofs.Common.{◌≡◌, inl, inr, ℕ, ◌+◌, ◌≤◌, List, [], ◌∷◌, ◌++◌, length, true, Option, Some, None, subst}
use Rattle.std.specs.Prelude.{Ok}
use Rattle.dr_meaning.specs.Schema.{is_name}
use Rattle.dr_meaning.specs.Tokens.{QueryToken, reserved, identifier, number, text, sign, bad, PlacedToken, greatest_number, dot, query_tokens, or_word, and_word, plus_sign, minus_sign, star, comma, close_parenthesis, from_word}
use Rattle.dr_meaning.specs.TokenLaws.{IsQueryToken, AreQueryTokens}
use Rattle.dr_meaning.specs.Syntax.{PathSyntax, ExpressionSyntax, number_literal, text_literal, truth_literal, path, negative, arithmetic, comparison, like, contains, is_null, negation, conjunction, disjunction, NodeSyntax, whole_record, node, WithinSyntax, TermSyntax, expression, count_rows, aggregate, ItemSyntax, ConditionSyntax, QuerySyntax}
use Rattle.dr_meaning.specs.QueryGrammar.{word_at, sign_at, name_at, SpellsNames, first_name, further_name, SpellsPath, SpellsExpression, one_and, or_and, SpellsAnd, one_not, and_not, SpellsNot, not_not, one_test, SpellsTest, one_sum, compared_sums, like_text, not_like_text, contains_text, not_contains_text, is_null_word, is_not_null, SpellsSum, one_product, plus_product, minus_product, SpellsProduct, one_unary, times_unary, SpellsUnary, minus_unary, one_primary, SpellsPrimary, a_number, a_text, a_true, a_false, a_path, in_parentheses, SpellsWithin, no_within, within_the_record, within_a_path, SpellsTerm, counted_rows, aggregated, an_expression, SpellsItem, Separated, alone, and_one, SpellsWhere, no_where, where_expression, SpellsGroup, no_group, group_by, SpellsQuery, a_query}
use Rattle.dr_meaning.specs.Parse.{parse_query}
use Rattle.dr_meaning.proofs.QueryTokenLemmas.{query_tokens_are_text}
use Rattle.dr_meaning.proofs.SyntaxAccepted.{accepted_is_spelled}
use Rattle.dr_query_laws.proofs.WrittenNames.{AreNames}

-- ---- what can be written

-- a path of names, one at least
abbrev pub WritableNames : List (List ℕ) → Type 0
WritableNames [] = ⊥
WritableNames (n ∷ ns) = AreNames (n ∷ ns)

abbrev pub Writable : ExpressionSyntax → Type 0
Writable (number_literal n) = n ≤ greatest_number
Writable (text_literal t) = Unit {0}
Writable (truth_literal b) = Unit {0}
Writable (path p) = WritableNames p.names
Writable (negative i e) = Writable e
Writable (arithmetic i o a b) = Writable a × Writable b
Writable (comparison i c a b) = Writable a × Writable b
Writable (like i e t) = Writable e
Writable (contains i e t) = Writable e
Writable (is_null i e) = Writable e
Writable (negation i e) = Writable e
Writable (conjunction i a b) = Writable a × Writable b
Writable (disjunction i a b) = Writable a × Writable b

abbrev pub WritableNode : NodeSyntax → Type 0
WritableNode whole_record = Unit {0}
WritableNode (node p) = WritableNames p.names

abbrev pub WritableWithin : Option WithinSyntax → Type 0
WritableWithin None = Unit {0}
WritableWithin (Some w) = WritableNode w.node

abbrev pub WritableTerm : TermSyntax → Type 0
WritableTerm (expression e) = Writable e
WritableTerm (count_rows w) = WritableWithin w
WritableTerm (aggregate a e w) = Writable e × WritableWithin w

abbrev pub WritableCondition : Option ConditionSyntax → Type 0
WritableCondition None = Unit {0}
WritableCondition (Some c) = Writable c.expression

-- each of these can be written
abbrev pub Every : {A : Type 0} → (A → Type 0) → List A → Type 0
Every P [] = Unit {0}
Every P (a ∷ rest) = P a × Every P rest

abbrev pub Some_of : {A : Type 0} → List A → Type 0
Some_of [] = ⊥
Some_of (a ∷ rest) = Unit {0}

abbrev pub WritableItem : ItemSyntax → Type 0
WritableItem i = WritableTerm i.term

abbrev pub WritableKey : PathSyntax → Type 0
WritableKey p = WritableNames p.names

pub record WritableQuery (q : QuerySyntax) : Type 0 where
  pub table : is_name q.table.name ≡ true
  pub some_item : Some_of q.items
  pub items : Every WritableItem q.items
  pub condition : WritableCondition q.condition
  pub keys : Every WritableKey q.keys

pub every_append : {A : Type 0} (P : A → Type 0) (xs ys : List A) → Every P xs → Every P ys → Every P (xs ++ ys)
every_append P [] ys h g = g
every_append P (x ∷ xs) ys h g = (h.0, every_append P xs ys h.1 g)

-- ---- tokens

abbrev Sound : PlacedToken → Type 0
Sound t = by_token t.token
  where
    by_token : QueryToken → Type 0
    by_token (number n) = n ≤ greatest_number
    by_token (identifier n) = is_name n ≡ true
    by_token (reserved w) = Unit {0}
    by_token (text t) = Unit {0}
    by_token (sign s) = Unit {0}
    by_token bad = Unit {0}

abbrev AllSound : List PlacedToken → Type 0
AllSound ts = Every Sound ts

front : (ts us : List PlacedToken) → AllSound (ts ++ us) → AllSound ts
front [] us h = tt
front (t ∷ ts) us h = (h.0, front ts us h.1)

back : (ts us : List PlacedToken) → AllSound (ts ++ us) → AllSound us
back [] us h = h
back (t ∷ ts) us h = back ts us h.1

sound_token : (t : PlacedToken) (bs behind : List ℕ) → IsQueryToken t.token bs behind → Sound t
sound_token t bs behind h = by_token t.token h
  where
    by_token : (k : QueryToken) → IsQueryToken k bs behind → Sound (record { place = t.place; token = k })
    by_token (number n) g = g.1
    by_token (identifier n) (inl g) = g.1.0
    by_token (identifier n) (inr g) = g.1
    by_token (reserved w) g = tt
    by_token (text t) g = tt
    by_token (sign s) g = tt
    by_token bad g = tt

all_sound : (i : ℕ) (query : List ℕ) (ts : List PlacedToken) → AreQueryTokens i query ts → AllSound ts
all_sound i query [] h = tt
all_sound i query (t ∷ ts) h = (sound_token t h.1 h.2 h.6, all_sound (t.place + length h.1) h.2 ts h.7)

-- ---- what sound tokens spell can be written

names_push : (ns : List (List ℕ)) (n : List ℕ) → WritableNames ns → is_name n ≡ true → WritableNames (ns ++ n ∷ [])
names_push [] n h g = absurd h
names_push (m ∷ ns) n h g = (h.0, all_push ns h.1)
  where
    all_push : (ms : List (List ℕ)) → AreNames ms → AreNames (ms ++ n ∷ [])
    all_push [] k = (g, tt)
    all_push (m ∷ ms) k = (k.0, all_push ms k.1)

names_writable : (ts : List PlacedToken) (ns : List (List ℕ)) → SpellsNames ts ns → AllSound ts → WritableNames ns
names_writable _ _ (first_name i n) h = (h.0, tt)
names_writable _ _ (further_name i j ts ns n s) h = names_push ns n (names_writable ts ns s (front ts _ h)) (back ts (sign_at i dot ∷ name_at j n ∷ []) h).1.0

mutual
  expression_writable : (ts : List PlacedToken) (e : ExpressionSyntax) → SpellsExpression ts e → AllSound ts → Writable e
  expression_writable _ _ (one_and ts e s) h = and_writable ts e s h
  expression_writable _ _ (or_and i ts us a b r s) h = (expression_writable ts a r (front ts _ h), and_writable us b s (back ts (word_at i or_word ∷ us) h).1)

  and_writable : (ts : List PlacedToken) (e : ExpressionSyntax) → SpellsAnd ts e → AllSound ts → Writable e
  and_writable _ _ (one_not ts e s) h = not_writable ts e s h
  and_writable _ _ (and_not i ts us a b r s) h = (and_writable ts a r (front ts _ h), not_writable us b s (back ts (word_at i and_word ∷ us) h).1)

  not_writable : (ts : List PlacedToken) (e : ExpressionSyntax) → SpellsNot ts e → AllSound ts → Writable e
  not_writable _ _ (not_not i ts e s) h = not_writable ts e s h.1
  not_writable _ _ (one_test ts e s) h = test_writable ts e s h

  test_writable : (ts : List PlacedToken) (e : ExpressionSyntax) → SpellsTest ts e → AllSound ts → Writable e
  test_writable _ _ (one_sum ts e s) h = sum_writable ts e s h
  test_writable _ _ (compared_sums i g c ts us a b k r s) h = (sum_writable ts a r (front ts _ h), sum_writable us b s (back ts (sign_at i g ∷ us) h).1)
  test_writable _ _ (like_text i j ts e t s) h = sum_writable ts e s (front ts _ h)
  test_writable _ _ (not_like_text g i j ts e t s) h = sum_writable ts e s (front ts _ h)
  test_writable _ _ (contains_text i j ts e t s) h = sum_writable ts e s (front ts _ h)
  test_writable _ _ (not_contains_text g i j ts e t s) h = sum_writable ts e s (front ts _ h)
  test_writable _ _ (is_null_word i j ts e s) h = sum_writable ts e s (front ts _ h)
  test_writable _ _ (is_not_null i j k ts e s) h = sum_writable ts e s (front ts _ h)

  sum_writable : (ts : List PlacedToken) (e : ExpressionSyntax) → SpellsSum ts e → AllSound ts → Writable e
  sum_writable _ _ (one_product ts e s) h = product_writable ts e s h
  sum_writable _ _ (plus_product i ts us a b r s) h = (sum_writable ts a r (front ts _ h), product_writable us b s (back ts (sign_at i plus_sign ∷ us) h).1)
  sum_writable _ _ (minus_product i ts us a b r s) h = (sum_writable ts a r (front ts _ h), product_writable us b s (back ts (sign_at i minus_sign ∷ us) h).1)

  product_writable : (ts : List PlacedToken) (e : ExpressionSyntax) → SpellsProduct ts e → AllSound ts → Writable e
  product_writable _ _ (one_unary ts e s) h = unary_writable ts e s h
  product_writable _ _ (times_unary i ts us a b r s) h = (product_writable ts a r (front ts _ h), unary_writable us b s (back ts (sign_at i star ∷ us) h).1)

  unary_writable : (ts : List PlacedToken) (e : ExpressionSyntax) → SpellsUnary ts e → AllSound ts → Writable e
  unary_writable _ _ (minus_unary i ts e s) h = unary_writable ts e s h.1
  unary_writable _ _ (one_primary ts e s) h = primary_writable ts e s h

  primary_writable : (ts : List PlacedToken) (e : ExpressionSyntax) → SpellsPrimary ts e → AllSound ts → Writable e
  primary_writable _ _ (a_number i n) h = h.0
  primary_writable _ _ (a_text i t) h = tt
  primary_writable _ _ (a_true i) h = tt
  primary_writable _ _ (a_false i) h = tt
  primary_writable _ _ (a_path ts p s) h = names_writable ts p.names s.1 h
  primary_writable _ _ (in_parentheses i j ts e s) h = expression_writable ts e s (front ts _ h.1)

-- ---- items, keys and queries

within_writable : (ts : List PlacedToken) (w : Option WithinSyntax) → SpellsWithin ts w → AllSound ts → WritableWithin w
within_writable _ _ no_within h = tt
within_writable _ _ (within_the_record i j) h = tt
within_writable _ _ (within_a_path i ts p s) h = names_writable ts p.names s.1 h.1

term_writable : (ts : List PlacedToken) (t : TermSyntax) → SpellsTerm ts t → AllSound ts → WritableTerm t
term_writable _ _ (counted_rows g i j k ts w s) h = within_writable ts w s h.1.1.1.1
term_writable _ _ (aggregated g i j v a ts us e w k s r) h = (expression_writable ts e s (front ts _ h.1.1), within_writable us w r (back ts (sign_at j close_parenthesis ∷ us) h.1.1).1)
term_writable _ _ (an_expression ts e s) h = expression_writable ts e s h

item_writable : (ts : List PlacedToken) (i : ItemSyntax) → SpellsItem ts i → AllSound ts → WritableItem i
item_writable ts i s h = term_writable s.0 i.term s.4 (front s.0 s.1 (subst AllSound s.2 h))

key_writable : (ts : List PlacedToken) (p : PathSyntax) → SpellsPath ts p → AllSound ts → WritableKey p
key_writable ts p s h = names_writable ts p.names s.1 h

-- one and each of what is separated by commas
separated_writable : (A : Type 0) (Spells : List PlacedToken → A → Type 0) (P : A → Type 0) → ((ts : List PlacedToken) (x : A) → Spells ts x → AllSound ts → P x)
    → (ts : List PlacedToken) (xs : List A) → Separated A Spells ts xs → AllSound ts → Every P xs × Some_of xs
separated_writable A Spells P f _ _ (alone ts x s) h = ((f ts x s h, tt), tt)
separated_writable A Spells P f _ _ (and_one i ts us xs x s r) h =
    let q = separated_writable A Spells P f ts xs s (front ts _ h) in
    (every_append P xs (x ∷ []) q.0 (f us x r (back ts (sign_at i comma ∷ us) h).1, tt), some_append xs (x ∷ []) q.1)
  where
    some_append : (xs ys : List A) → Some_of xs → Some_of (xs ++ ys)
    some_append [] ys k = absurd k
    some_append (x ∷ xs) ys k = tt

where_writable : (ts : List PlacedToken) (c : Option ConditionSyntax) → SpellsWhere ts c → AllSound ts → WritableCondition c
where_writable _ _ no_where h = tt
where_writable _ _ (where_expression i j ts e b s) h = expression_writable ts e s h.1

group_writable : (ts : List PlacedToken) (ks : List PathSyntax) → SpellsGroup ts ks → AllSound ts → Every WritableKey ks
group_writable _ _ no_group h = tt
group_writable _ _ (group_by i j ts ks s) h = (separated_writable PathSyntax SpellsPath WritableKey key_writable ts ks s h.1.1).0

query_writable : (ts : List PlacedToken) (q : QuerySyntax) → SpellsQuery ts q → AllSound ts → WritableQuery q
query_writable _ _ (a_query g i j n ts us vs ws xs c ks s w k e) h =
    let items = separated_writable ItemSyntax SpellsItem WritableItem item_writable ts xs s (front ts _ h.1) in
    let rest = back ts (word_at i from_word ∷ name_at j n ∷ (us ++ (vs ++ ws))) h.1 in
    record {
      table = rest.1.0;
      some_item = items.1;
      items = items.0;
      condition = where_writable us c w (front us (vs ++ ws) rest.1.1);
      keys = group_writable vs ks k (front vs ws (back us (vs ++ ws) rest.1.1));
    }

-- the tree of a parsed text can be written
pub parsed_writable : (bytes : List ℕ) (q : QuerySyntax) → parse_query bytes ≡ Ok q → WritableQuery q
parsed_writable bytes q h = query_writable (query_tokens bytes) q (accepted_is_spelled bytes q h) (all_sound 0 bytes (query_tokens bytes) (query_tokens_are_text bytes))
