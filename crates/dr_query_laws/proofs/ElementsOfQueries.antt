-- No token before the fault of a query text begins the 257th item, or the 257th key.
use Rattle.std.specs.Prelude.{◌≡◌, ◌⊎◌, ◌≤◌, ℕ, zero, suc, ◌+◌, ◌-◌, List, [], ◌∷◌, ◌++◌, length, Bool, true, false, nat_lt, if◌then◌else◌, Option, Some, None, Err}
use Rattle.std.proofs.Common.{refl, sym, ap, subst, ◌∙◌, arith, append_assoc, append-nil, length-append, inl, inr, true≢false}
use Rattle.dr_meaning.specs.Tokens.{QueryToken, reserved, sign, comma, select_word, from_word, group_word, by_word, PlacedToken, placed, query_tokens, longest_query}
use Rattle.dr_meaning.specs.Syntax.{NameSyntax, PathSyntax, ItemSyntax, ConditionSyntax, QuerySyntax}
use Rattle.dr_meaning.specs.Parse.{Unread, Parsed, got, refused, QueryFault, QueryProblem, Production, give, goes_on, ◌>>=◌, first_place, next_is, either, if_next, any_token, word, is_the_word}
use Rattle.dr_meaning.specs.Parse.{is_the_sign, problem_here, syntax, too_many, too_long, too_many_of, begins_item, begins_key, further_elements, elements, item, items, table_name, where_part}
use Rattle.dr_meaning.specs.Parse.{path_names, keys, group_part, end_part, query, result_of, unread_text, parse_query, most_items}
use Rattle.dr_meaning.specs.QueryGrammar.{word_at, sign_at, name_at, SpellsPath, SpellsItem, Separated, alone, SpellsWhere, no_where, SpellsGroup, no_group, group_by}
use Rattle.dr_meaning.proofs.SyntaxReading.{NextToken, next_token, sign_is_this}
use Rattle.dr_query_laws.specs.LimitLaws.{BeginsExtraItem, BeginsExtraKey}
use Rattle.dr_query_laws.specs.FaultLaws.{IsAtToken, StandsFirst, HasFewElements, FewElementsBefore, FewElementsBeforeFault}
use Rattle.dr_query_laws.proofs.Outcomes.{Filled, Outcome, reads, stops, weaker, Seq, next_outcome, shared_more, Nothing, gives, fills_nothing, One, at_front, known_word, known_sign, word_outcome, fills_seq}
use Rattle.dr_query_laws.proofs.ExpressionsGoOn.{path_outcome, fills_path}
use Rattle.dr_query_laws.proofs.QueriesGoOn.{only_front, nothing_is, item_goes, fills_item, ElementsMore, ElementAndMore, no_elements, comma_all, table_of, TableIs, table_goes, where_goes, tree_of, AfterKeys}
use Rattle.dr_query_laws.proofs.QueriesGoOn.{fills_keys_on, keys_on}
use Rattle.dr_query_laws.proofs.OperatorsCounted.{stands_first}
use Rattle.dr_query_laws.proofs.CommasOfQueries.{is_comma, item_commas, key_commas, Few, few_front, few_in_query, commas_before_item, commas_before_key}

-- ---- what comes of reading, where a list may have all elements that it may have, and a comma behind them

-- an outcome; or a fault behind a comma, before which the tokens begin to spell a value
data Ended (A : Type 0) (S : List PlacedToken → A → Type 0) (u : Unread) : Parsed A → Type 0 where
  comes : (p : Parsed A) → Outcome A S u p → Ended A S u p
  over : (ts rest more : List PlacedToken) (i : ℕ) (a : A) (f : QueryFault) → u.tokens ≡ (ts ++ sign_at i comma ∷ []) ++ rest → first_place u.size rest ≡ f.place
      → S (ts ++ more) a → Ended A S u (refused f)

weaker_ended : {A : Type 0} (R S : List PlacedToken → A → Type 0) (u : Unread) (p : Parsed A) → ((ts : List PlacedToken) (a : A) → R ts a → S ts a) → Ended A R u p → Ended A S u p
weaker_ended R S u _ f (comes p o) = comes p (weaker R S u p f o)
weaker_ended R S u _ f (over ts rest more i a g e z s) = over ts rest more i a g e z (f (ts ++ more) a s)

behind_read : (us vs ts ws rest : List PlacedToken) (t : PlacedToken) → us ≡ ts ++ vs → vs ≡ (ws ++ t ∷ []) ++ rest → us ≡ ((ts ++ ws) ++ t ∷ []) ++ rest
behind_read us vs ts ws rest t e f = e ∙ (ap (λ xs. ts ++ xs) f ∙ (sym (append_assoc ts (ws ++ t ∷ []) rest) ∙ ap (λ xs. xs ++ rest) (sym (append_assoc ts ws (t ∷ [])))))

then_ended : {A B : Type 0} (S : List PlacedToken → A → Type 0) (T : A → List PlacedToken → B → Type 0) (u v : Unread) (ts : List PlacedToken) (a : A) (q : Parsed B)
    → u.tokens ≡ ts ++ v.tokens → v.size ≡ u.size → S ts a → Ended B (T a) v q → Ended B (Seq A B S T) u q
then_ended S T u v ts a _ e z s (comes q o) = comes q (next_outcome S T u v ts a q e z s o)
then_ended S T u v ts a _ e z s (over ws rest more i b f g y t) =
    over (ts ++ ws) rest more i b f (behind_read u.tokens v.tokens ts ws rest (sign_at i comma) e g) (ap (λ n. first_place n rest) (sym z) ∙ y)
    (record { front = ts; rest = ws ++ more; middle = a; tokens = append_assoc ts ws more; first = s; second = t })

first_ended : {A B : Type 0} (S : List PlacedToken → A → Type 0) (T : A → List PlacedToken → B → Type 0) (u : Unread) (p : Parsed A) (next : A → Production B)
    → ((a : A) → Filled B (T a)) → ((a : A) (v : Unread) → Ended B (T a) v (next a v)) → Outcome A S u p → Ended B (Seq A B S T) u (goes_on p next)
first_ended S T u _ next fill step (reads ts v a e z s) = then_ended S T u v ts a (next a v) e z s (step a v)
first_ended S T u _ next fill step (stops ts rest more a f e z s k) =
    let x = fill a in
    comes (refused f) (stops ts rest (more ++ x.tokens) x.value f e z
    (record { front = ts ++ more; rest = x.tokens; middle = a; tokens = sym (append_assoc ts more x.tokens); first = s; second = x.spelled }) (shared_more f.problem rest more x.tokens k))

-- one behind another
seq_ended : {A B : Type 0} (S : List PlacedToken → A → Type 0) (T : A → List PlacedToken → B → Type 0) (u : Unread) (p : Parsed A) (next : A → Production B)
    → ((a : A) → Filled B (T a)) → ((a : A) (v : Unread) → Ended B (T a) v (next a v)) → Ended A S u p → Ended B (Seq A B S T) u (goes_on p next)
seq_ended S T u _ next fill step (comes p o) = first_ended S T u p next fill step o
seq_ended S T u _ next fill step (over ts rest more i a f e z s) =
    let x = fill a in
    over ts rest (more ++ x.tokens) i x.value f e z
    (record { front = ts ++ more; rest = x.tokens; middle = a; tokens = sym (append_assoc ts more x.tokens); first = s; second = x.spelled })

if_ended : {A : Type 0} (S : List PlacedToken → A → Type 0) (test : QueryToken → Bool) (p q : Production A) (u : Unread)
    → (NextToken test u → Ended A S u (p u)) → Ended A S u (q u) → Ended A S u (if_next test p q u)
if_ended {A} S test p q u then_p then_q = by_test (next_is test u) refl
  where
    by_test : (b : Bool) → next_is test u ≡ b → Ended A S u (either b p q u)
    by_test true e = then_p (next_token test u e)
    by_test false e = then_q

-- ---- lists

-- further elements, of which at most so many are new
record MoreFew (A : Type 0) (S : List PlacedToken → A → Type 0) (xs : List A) (k : ℕ) (ws : List PlacedToken) (ys : List A) : Type 0 where
  spelled : ElementsMore A S xs ws ys
  few : length ys ≤ length xs + k

none_more : (A : Type 0) (S : List PlacedToken → A → Type 0) (xs : List A) (k : ℕ) (ws : List PlacedToken) (ys : List A) → Nothing (List A) xs ws ys → MoreFew A S xs k ws ys
none_more A S xs k ws ys x = let e = ap length x.same in record { spelled = no_elements A S xs ws ys x; few = omega (arith, e) }

no_more : (A : Type 0) (S : List PlacedToken → A → Type 0) (xs : List A) (k : ℕ) → MoreFew A S xs k [] xs
no_more A S xs k = none_more A S xs k [] xs (record { none = refl; same = refl })

fills_more : (A : Type 0) (S : List PlacedToken → A → Type 0) (xs : List A) (k : ℕ) → Filled (List A) (MoreFew A S xs k)
fills_more A S xs k = record { tokens = []; value = xs; spelled = no_more A S xs k }

-- an element, and further ones
abbrev ElementThenFew : (A : Type 0) → (List PlacedToken → A → Type 0) → List A → ℕ → List PlacedToken → List A → Type 0
ElementThenFew A S xs k = Seq A (List A) S (λ x. MoreFew A S (xs ++ x ∷ []) k)

comma_few : (A : Type 0) (S : List PlacedToken → A → Type 0) (xs : List A) (k : ℕ) (ts : List PlacedToken) (ys : List A)
    → Seq ℕ (List A) (One (sign comma)) (λ i. ElementThenFew A S xs k) ts ys → MoreFew A S xs (suc k) ts ys
comma_few A S xs k ts ys x =
    let y = x.second in
    let long : length (xs ++ y.middle ∷ []) ≡ length xs + 1 = length-append xs (y.middle ∷ []) in
    let few = y.second.few in
    let both : ElementAndMore A S xs x.middle x.rest ys = record { front = y.front; rest = y.rest; middle = y.middle; tokens = y.tokens; first = y.first; second = y.second.spelled } in
    record {
      spelled = comma_all A S xs ts ys (record { place = x.middle; rest = x.rest; tokens = x.tokens ∙ ap (λ zs. zs ++ x.rest) x.first; second = both });
      few = omega (arith, long, few);
    }

-- a comma where no element may come any more
extra_first : (A : Type 0) (S : List PlacedToken → A → Type 0) (begins : QueryToken → Bool) (xs : List A) (n k : ℕ) (first : PlacedToken) (rest : List PlacedToken)
    → is_the_sign comma first.token ≡ true
    → Ended (List A) (MoreFew A S xs 0) (at_front (first ∷ rest) n k) ((any_token >>= (λ _. too_many_of begins)) (at_front (first ∷ rest) n k))
extra_first A S begins xs n k first rest h = by_test (next_is begins (at_front rest n k))
  where
    stop : (p : QueryProblem) → Ended (List A) (MoreFew A S xs 0) (at_front (first ∷ rest) n k) (refused (record { place = first_place n rest; problem = p }))
    stop p = over [] rest [] first.place xs (record { place = first_place n rest; problem = p })
        (ap (λ t. placed first.place t ∷ rest) (sign_is_this comma first.token h)) refl (no_more A S xs 0)

    by_test : (b : Bool) → Ended (List A) (MoreFew A S xs 0) (at_front (first ∷ rest) n k) (either b (problem_here too_many) (problem_here syntax) (at_front rest n k))
    by_test true = stop too_many
    by_test false = stop syntax

extra_comma : (A : Type 0) (S : List PlacedToken → A → Type 0) (begins : QueryToken → Bool) (xs : List A) (u : Unread) → NextToken (is_the_sign comma) u
    → Ended (List A) (MoreFew A S xs 0) u ((any_token >>= (λ _. too_many_of begins)) u)
extra_comma A S begins xs u m =
    subst (λ ts. Ended (List A) (MoreFew A S xs 0) (at_front ts u.size u.operators) ((any_token >>= (λ _. too_many_of begins)) (at_front ts u.size u.operators))) (sym m.tokens)
    (extra_first A S begins xs u.size u.operators m.first m.rest m.passes_it)

further_end : (A : Type 0) (S : List PlacedToken → A → Type 0) (begins : QueryToken → Bool) (element : Production A) → Filled A S → ((u : Unread) → Outcome A S u (element u)) → (k : ℕ) (xs : List A) (u : Unread)
    → Ended (List A) (MoreFew A S xs k) u (further_elements begins element k xs u)
further_end A S begins element fill goes zero xs u =
    if_ended (MoreFew A S xs 0) (is_the_sign comma) (any_token >>= (λ _. too_many_of begins)) (give xs) u (extra_comma A S begins xs u)
    (comes (give xs u) (weaker (Nothing (List A) xs) (MoreFew A S xs 0) u (give xs u) (none_more A S xs 0) (gives xs u)))
further_end A S begins element fill goes (suc k) xs u =
    if_ended (MoreFew A S xs (suc k)) (is_the_sign comma) (any_token >>= (λ _. element >>= (λ x. further_elements begins element k (xs ++ x ∷ [])))) (give xs) u
    (λ m. weaker_ended (Seq ℕ (List A) (One (sign comma)) (λ i. ElementThenFew A S xs k)) (MoreFew A S xs (suc k)) u
    ((any_token >>= (λ _. element >>= (λ x. further_elements begins element k (xs ++ x ∷ [])))) u) (comma_few A S xs k)
    (first_ended (One (sign comma)) (λ i. ElementThenFew A S xs k) u (any_token u) (λ _. element >>= (λ x. further_elements begins element k (xs ++ x ∷ [])))
    (λ i. fills_seq S (λ x. MoreFew A S (xs ++ x ∷ []) k) fill (λ x. fills_more A S (xs ++ x ∷ []) k)) (λ i v. first_ended S (λ x. MoreFew A S (xs ++ x ∷ []) k) v (element v) (λ x. further_elements begins element k (xs ++ x ∷ []))
    (λ x. fills_more A S (xs ++ x ∷ []) k) (λ x w. further_end A S begins element fill goes k (xs ++ x ∷ []) w) (goes v)) (known_sign comma u m)))
    (comes (give xs u) (weaker (Nothing (List A) xs) (MoreFew A S xs (suc k)) u (give xs u) (none_more A S xs (suc k)) (gives xs u)))

-- at most so many elements with commas between
record FewSeparated (A : Type 0) (S : List PlacedToken → A → Type 0) (n : ℕ) (ts : List PlacedToken) (xs : List A) : Type 0 where
  spelled : Separated A S ts xs
  few : length xs ≤ n

-- one element, and so many more
few_of : (m n : ℕ) → m ≤ 1 + n → m ≤ suc n
few_of m n h = omega (arith, h)

elements_end : (A : Type 0) (S : List PlacedToken → A → Type 0) (begins : QueryToken → Bool) (element : Production A) → Filled A S → ((u : Unread) → Outcome A S u (element u)) → (n : ℕ) (u : Unread)
    → Ended (List A) (FewSeparated A S (suc n)) u (elements begins element n u)
elements_end A S begins element fill goes n u =
    weaker_ended (Seq A (List A) S (λ x. MoreFew A S (x ∷ []) n)) (FewSeparated A S (suc n)) u (elements begins element n u)
    (λ ts ys x. record { spelled = subst (λ zs. Separated A S zs ys) (sym x.tokens) (x.second.spelled x.front (alone x.front x.middle x.first)); few = few_of (length ys) n x.second.few })
    (first_ended S (λ x. MoreFew A S (x ∷ []) n) u (element u) (λ x. further_elements begins element n (x ∷ [])) (λ x. fills_more A S (x ∷ []) n)
    (λ x v. further_end A S begins element fill goes n (x ∷ []) v) (goes u))

abbrev FewItems : List PlacedToken → List ItemSyntax → Type 0
FewItems = FewSeparated ItemSyntax SpellsItem 256

abbrev FewKeys : List PlacedToken → List PathSyntax → Type 0
FewKeys = FewSeparated PathSyntax SpellsPath 256

items_end : (u : Unread) → Ended (List ItemSyntax) FewItems u (items u)
unfolding items
items_end u = elements_end ItemSyntax SpellsItem begins_item item fills_item item_goes (most_items - 1) u

keys_end : (u : Unread) → Ended (List PathSyntax) FewKeys u (keys u)
unfolding keys
keys_end u = elements_end PathSyntax SpellsPath begins_key path_names fills_path path_outcome (most_items - 1) u

-- ---- [GROUP BY path {"," path}]

record FewGroup (ts : List PlacedToken) (ks : List PathSyntax) : Type 0 where
  spelled : SpellsGroup ts ks
  few : length ks ≤ 256

no_keys : FewGroup [] []
no_keys = record { spelled = no_group; few = omega (arith) }

abbrev ByFew : ℕ → List PlacedToken → List PathSyntax → Type 0
ByFew i = Seq ℕ (List PathSyntax) (One (reserved by_word)) (λ j. FewKeys)

one_key : Filled (List PathSyntax) FewKeys
one_key = let p = fills_path in record { tokens = p.tokens; value = p.value ∷ []; spelled = record { spelled = alone p.tokens p.value p.spelled; few = omega (arith) } }

fills_by : Filled (List PathSyntax) (Seq ℕ (List PathSyntax) (One (reserved by_word)) (λ j. FewKeys))
fills_by = fills_seq (One (reserved by_word)) (λ j. FewKeys) (record { tokens = word_at 0 by_word ∷ []; value = 0; spelled = refl }) (λ j. one_key)

group_few : (ts : List PlacedToken) (ks : List PathSyntax) → Seq ℕ (List PathSyntax) (One (reserved group_word)) ByFew ts ks → FewGroup ts ks
group_few ts ks x =
    let y = x.second in
    let tokens : ts ≡ word_at x.middle group_word ∷ word_at y.middle by_word ∷ y.rest =
    x.tokens ∙ (ap (λ zs. zs ++ x.rest) x.first ∙ ap (λ zs. word_at x.middle group_word ∷ zs) (y.tokens ∙ ap (λ zs. zs ++ y.rest) y.first)) in
    record { spelled = subst (λ zs. SpellsGroup zs ks) (sym tokens) (group_by x.middle y.middle y.rest ks y.second.spelled); few = y.second.few }

group_end : (u : Unread) → Ended (List PathSyntax) FewGroup u (group_part u)
group_end u = if_ended FewGroup (is_the_word group_word) (any_token >>= (λ _. word by_word >>= (λ _. keys))) (give []) u
    (λ m. weaker_ended (Seq ℕ (List PathSyntax) (One (reserved group_word)) ByFew) FewGroup u ((any_token >>= (λ _. word by_word >>= (λ _. keys))) u) group_few
    (first_ended (One (reserved group_word)) ByFew u (any_token u) (λ _. word by_word >>= (λ _. keys)) (λ i. fills_by)
    (λ i v. first_ended (One (reserved by_word)) (λ j. FewKeys) v (word by_word v) (λ _. keys) (λ j. one_key) (λ j w. keys_end w) (word_outcome by_word v)) (known_word group_word u m)))
    (comes (give [] u) (weaker (Nothing (List PathSyntax) []) FewGroup u (give [] u) (nothing_is FewGroup [] no_keys) (gives [] u)))

-- ---- queries

abbrev WhereFew : List ItemSyntax → NameSyntax → Option ConditionSyntax → List PlacedToken → QuerySyntax → Type 0
WhereFew xs t c = Seq (List PathSyntax) QuerySyntax FewGroup (AfterKeys xs t c)

abbrev TableFew : List ItemSyntax → NameSyntax → List PlacedToken → QuerySyntax → Type 0
TableFew xs t = Seq (Option ConditionSyntax) QuerySyntax SpellsWhere (WhereFew xs t)

abbrev FromFew : List ItemSyntax → ℕ → List PlacedToken → QuerySyntax → Type 0
FromFew xs i = Seq NameSyntax QuerySyntax TableIs (TableFew xs)

abbrev ItemsFew : List ItemSyntax → List PlacedToken → QuerySyntax → Type 0
ItemsFew xs = Seq ℕ QuerySyntax (One (reserved from_word)) (FromFew xs)

abbrev SelectFew : ℕ → List PlacedToken → QuerySyntax → Type 0
SelectFew h = Seq (List ItemSyntax) QuerySyntax FewItems ItemsFew

abbrev QueryFew : List PlacedToken → QuerySyntax → Type 0
QueryFew = Seq ℕ QuerySyntax (One (reserved select_word)) SelectFew

fills_where : (xs : List ItemSyntax) (t : NameSyntax) (c : Option ConditionSyntax) → Filled QuerySyntax (WhereFew xs t c)
fills_where xs t c = fills_seq FewGroup (AfterKeys xs t c) (record { tokens = []; value = []; spelled = no_keys }) (fills_keys_on xs t c)

fills_table : (xs : List ItemSyntax) (t : NameSyntax) → Filled QuerySyntax (TableFew xs t)
fills_table xs t = fills_seq SpellsWhere (WhereFew xs t) (record { tokens = []; value = None; spelled = no_where }) (fills_where xs t)

fills_from : (xs : List ItemSyntax) (i : ℕ) → Filled QuerySyntax (FromFew xs i)
fills_from xs i = fills_seq TableIs (TableFew xs) (record { tokens = name_at 0 (97 ∷ []) ∷ []; value = table_of 0 (97 ∷ []); spelled = refl }) (fills_table xs)

fills_items_few : (xs : List ItemSyntax) → Filled QuerySyntax (ItemsFew xs)
fills_items_few xs = fills_seq (One (reserved from_word)) (FromFew xs) (record { tokens = word_at 0 from_word ∷ []; value = 0; spelled = refl }) (fills_from xs)

one_item : Filled (List ItemSyntax) FewItems
one_item = let x = fills_item in record { tokens = x.tokens; value = x.value ∷ []; spelled = record { spelled = alone x.tokens x.value x.spelled; few = omega (arith) } }

fills_select : (h : ℕ) → Filled QuerySyntax (SelectFew h)
fills_select h = fills_seq FewItems ItemsFew one_item fills_items_few

abbrev behind_where : List ItemSyntax → NameSyntax → Option ConditionSyntax → Production QuerySyntax
behind_where xs t c = group_part >>= (λ ks. end_part >>= (λ _. give (tree_of xs t c ks)))

abbrev behind_name : List ItemSyntax → NameSyntax → Production QuerySyntax
behind_name xs t = where_part >>= behind_where xs t

where_end : (xs : List ItemSyntax) (t : NameSyntax) (c : Option ConditionSyntax) (u : Unread) → Ended QuerySyntax (WhereFew xs t c) u (behind_where xs t c u)
where_end xs t c u = seq_ended FewGroup (AfterKeys xs t c) u (group_part u) (λ ks. end_part >>= (λ _. give (tree_of xs t c ks))) (fills_keys_on xs t c)
    (λ ks v. comes ((end_part >>= (λ _. give (tree_of xs t c ks))) v) (keys_on xs t c ks v)) (group_end u)

table_end : (xs : List ItemSyntax) (t : NameSyntax) (u : Unread) → Ended QuerySyntax (TableFew xs t) u (behind_name xs t u)
table_end xs t u = first_ended SpellsWhere (WhereFew xs t) u (where_part u) (behind_where xs t) (fills_where xs t) (where_end xs t) (where_goes u)

from_end : (xs : List ItemSyntax) (i : ℕ) (u : Unread) → Ended QuerySyntax (FromFew xs i) u ((table_name >>= behind_name xs) u)
from_end xs i u = first_ended TableIs (TableFew xs) u (table_name u) (behind_name xs) (fills_table xs) (table_end xs) (table_goes u)

behind_items_end : (xs : List ItemSyntax) (u : Unread) → Ended QuerySyntax (ItemsFew xs) u ((word from_word >>= (λ _. table_name >>= behind_name xs)) u)
behind_items_end xs u = first_ended (One (reserved from_word)) (FromFew xs) u (word from_word u) (λ _. table_name >>= behind_name xs) (fills_from xs) (from_end xs) (word_outcome from_word u)

query_end : (u : Unread) → Ended QuerySyntax QueryFew u (query u)
query_end u = first_ended (One (reserved select_word)) SelectFew u (word select_word u) (λ _. items >>= (λ xs. word from_word >>= (λ _. table_name >>= behind_name xs))) fills_select
    (λ h v. seq_ended FewItems ItemsFew v (items v) (λ xs. word from_word >>= (λ _. table_name >>= behind_name xs)) fills_items_few behind_items_end (items_end v)) (word_outcome select_word u)

-- what spells such a query has few commas
few_spelled : (ts : List PlacedToken) (q : QuerySyntax) → QueryFew ts q → Few ts
few_spelled ts q a =
    let b = a.second in
    let c = b.second in
    let d = c.second in
    let e = d.second in
    let f = e.second in
    let g = f.second in
    let t = d.middle in
    let end : f.rest ≡ g.front = only_front f.rest g.front g.rest g.tokens g.second.none in
    let clauses : d.rest ≡ e.front ++ (f.front ++ g.front) = e.tokens ∙ ap (λ xs. e.front ++ xs) (f.tokens ∙ ap (λ xs. f.front ++ xs) end) in
    let name : c.rest ≡ name_at t.place t.name ∷ (e.front ++ (f.front ++ g.front)) =
    d.tokens ∙ (ap (λ xs. xs ++ d.rest) d.first ∙ ap (λ xs. name_at t.place t.name ∷ xs) clauses) in
    let from : b.rest ≡ word_at c.middle from_word ∷ name_at t.place t.name ∷ (e.front ++ (f.front ++ g.front)) =
    c.tokens ∙ (ap (λ xs. xs ++ c.rest) c.first ∙ ap (λ xs. word_at c.middle from_word ∷ xs) name) in
    let all : ts ≡ word_at a.middle select_word ∷ (b.front ++ word_at c.middle from_word ∷ name_at t.place t.name ∷ (e.front ++ (f.front ++ g.front))) =
    a.tokens ∙ (ap (λ xs. xs ++ a.rest) a.first ∙ ap (λ xs. word_at a.middle select_word ∷ xs) (b.tokens ∙ ap (λ xs. b.front ++ xs) from)) in
    subst Few (sym all) (few_in_query a.middle c.middle t.place t.name b.front e.front f.front g.front b.middle e.middle f.middle b.first.spelled b.first.few e.first f.first.spelled f.first.few g.first)

-- ---- the tokens before a fault

-- they have few commas, perhaps but for a last one
abbrev FewBefore : List PlacedToken → Type 0
FewBefore ts = Few ts ⊎ ((g : List PlacedToken) × (i : ℕ) × (ts ≡ g ++ sign_at i comma ∷ []) × Few g)

record FaultBehind (u : Unread) (f : QueryFault) : Type 0 where
  before : List PlacedToken
  rest : List PlacedToken
  tokens : u.tokens ≡ before ++ rest
  place : first_place u.size rest ≡ f.place
  few : FewBefore before

behind_outcome : (u : Unread) (p : Parsed QuerySyntax) (f : QueryFault) → Outcome QuerySyntax QueryFew u p → p ≡ refused f → FaultBehind u f
behind_outcome u _ f (reads ts v a e z s) h = absurd (cc h)
behind_outcome u _ f (stops ts rest more a g e z s k) h =
    let same : g ≡ f = cc in
    record { before = ts; rest = rest; tokens = e; place = z ∙ ap (λ (x : QueryFault). x.place) same; few = inl (few_front ts more (few_spelled (ts ++ more) a s)) }

fault_behind : (u : Unread) (p : Parsed QuerySyntax) (f : QueryFault) → Ended QuerySyntax QueryFew u p → p ≡ refused f → FaultBehind u f
fault_behind u _ f (comes p o) h = behind_outcome u p f o h
fault_behind u _ f (over ts rest more i a g e z s) h =
    let same : g ≡ f = cc in
    record {
      before = ts ++ sign_at i comma ∷ [];
      rest = rest;
      tokens = e;
      place = z ∙ ap (λ (x : QueryFault). x.place) same;
      few = inr (ts, i, refl, few_front ts more (few_spelled (ts ++ more) a s));
    }

-- ---- a token among them

filled : (front more : List PlacedToken) (t : PlacedToken) → front ++ t ∷ more ≡ [] → ⊥
filled [] more t e = absurd (cc e)
filled (f ∷ front) more t e = absurd (cc e)

abbrev rest_of : List PlacedToken → List PlacedToken
rest_of [] = []
rest_of (t ∷ ts) = ts

-- a token of a list is its last, or one of those before it
last_or_before : (front more g : List PlacedToken) (t c : PlacedToken) → front ++ t ∷ more ≡ g ++ c ∷ [] → (t ≡ c) ⊎ ((m : List PlacedToken) × (g ≡ front ++ t ∷ m))
last_or_before [] more [] t c e = inl (cc)
last_or_before [] more (x ∷ g) t c e = let same : x ≡ t = cc in inr (g, ap (λ y. y ∷ g) same)
last_or_before (f ∷ front) more [] t c e = absurd (filled front more t (ap rest_of e))
last_or_before (f ∷ front) more (x ∷ g) t c e = by_rest (last_or_before front more g t c (ap rest_of e))
  where
    same : x ≡ f
    same = cc

    by_rest : (t ≡ c) ⊎ ((m : List PlacedToken) × (g ≡ front ++ t ∷ m)) → (t ≡ c) ⊎ ((m : List PlacedToken) × (x ∷ g ≡ f ∷ (front ++ t ∷ m)))
    by_rest (inl h) = inl h
    by_rest (inr h) = inr (h.0, ap (λ y. y ∷ g) same ∙ ap (λ ys. f ∷ ys) h.1)

-- what stands before a token that is no comma
few_in_front : (ts front more : List PlacedToken) (t : PlacedToken) → is_comma t.token ≡ false → ts ≡ front ++ t ∷ more → FewBefore ts → Few front
few_in_front ts front more t n e (inl h) = few_front front (t ∷ more) (subst Few e h)
few_in_front ts front more t n e (inr h) = by_last (last_or_before front more h.0 t (sign_at h.1 comma) (sym e ∙ h.2))
  where
    by_last : (t ≡ sign_at h.1 comma) ⊎ ((m : List PlacedToken) × (h.0 ≡ front ++ t ∷ m)) → Few front
    by_last (inl k) = absurd (true≢false (sym (ap (λ (x : PlacedToken). is_comma x.token) k) ∙ n))
    by_last (inr k) = few_front front (t ∷ k.0) (subst Few k.1 h.3)

no_item_comma : (k : QueryToken) → begins_item k ≡ true → is_comma k ≡ false
no_item_comma (sign comma) h = absurd (true≢false (sym h))
no_item_comma k h = refl

no_key_comma : (k : QueryToken) → begins_key k ≡ true → is_comma k ≡ false
no_key_comma (sign comma) h = absurd (true≢false (sym h))
no_key_comma k h = refl

few_elements : (ts : List PlacedToken) → FewBefore ts → HasFewElements ts
few_elements ts h front more t e (inl x) =
    let few = (few_in_front ts front more t (no_item_comma t.token x.0) e h).0 in
    let all = commas_before_item 256 front x.1 in
    absurd (omega (arith, few, all))
few_elements ts h front more t e (inr x) =
    let few = (few_in_front ts front more t (no_key_comma t.token x.0) e h).1 in
    let all = commas_before_key 256 front x.1 in
    absurd (omega (arith, few, all))

-- ---- the law

pub few_elements_before : FewElementsBeforeFault
unfolding parse_query
few_elements_before bytes f at h = by_length (nat_lt longest_query (length bytes)) h
  where
    by_result : (p : Parsed QuerySyntax) → query (unread_text bytes) ≡ p → result_of p ≡ Err f → FewElementsBefore (query_tokens bytes) f.place
    by_result (got x v) e g = absurd (cc g)
    by_result (refused r) e g =
        let k : r ≡ f = cc in
        let x = fault_behind (unread_text bytes) (query (unread_text bytes)) f (query_end (unread_text bytes)) (e ∙ ap refused k) in
        (x.before, (x.rest, x.tokens, subst (λ i. StandsFirst i x.rest) x.place (stands_first (length bytes) x.rest)), few_elements x.before x.few)

    by_length : (b : Bool) → (if b then Err (record { place = longest_query; problem = too_long }) else result_of (query (unread_text bytes))) ≡ Err f → FewElementsBefore (query_tokens bytes) f.place
    by_length true g = let k : record { place = longest_query; problem = too_long } ≡ f = cc in absurd (subst (λ (x : QueryFault). IsAtToken x.problem) (sym k) at)
    by_length false g = by_result (query (unread_text bytes)) refl g
