-- An accepted query has at most as many items, and as many keys, as may come.
use Rattle.std.specs.Prelude.{◌≡◌, ◌≤◌, ℕ, zero, suc, ◌+◌, List, [], ◌∷◌, ◌++◌, length, Bool, true, false, nat_le, nat_lt, if◌then◌else◌, Option, ◌⊎◌, Ok, Err}
use Rattle.std.proofs.Common.{refl, ap, subst, ◌∙◌, length-append, arith, inl, inr}
use Rattle.std.proofs.lemmas.Bool.Decides.{nat_tests}
use Rattle.dr_meaning.specs.Tokens.{comma, group_word, by_word, select_word, from_word, QueryToken, longest_query}
use Rattle.dr_meaning.specs.Syntax.{NameSyntax, PathSyntax, ItemSyntax, ConditionSyntax, QuerySyntax}
use Rattle.dr_meaning.specs.Parse.{Unread, Parsed, got, refused, Production, give, ◌>>=◌, any_token, word, is_the_word, is_the_sign, too_long, too_many_of, begins_item, begins_key}
use Rattle.dr_meaning.specs.Parse.{problem_here, syntax, too_many, further_elements, elements, item, items, table_name, where_part, path_names, keys, group_part, end_part, query, result_of, unread_text, parse_query}
use Rattle.dr_meaning.proofs.SyntaxReading.{bind_parts, given, NextToken, if_parts}
use Rattle.dr_query_laws.specs.LimitLaws.{AcceptedHasFewItems, AcceptedHasFewKeys}

-- one too many is never read
no_more : {A : Type 0} (begins : QueryToken → Bool) (u v : Unread) (a : A) → too_many_of begins u ≡ got a v → ⊥
no_more {A} begins u v a h = by_part (if_parts begins (problem_here too_many) (problem_here syntax) u v a h)
  where
    by_part : (NextToken begins u × (problem_here {A = A} too_many u ≡ got a v)) ⊎ (problem_here {A = A} syntax u ≡ got a v) → ⊥
    by_part (inl p) = absurd (cc p.1)
    by_part (inr g) = absurd (cc g)

-- further elements are at most so many
abbrev FewMore : (A : Type 0) → (QueryToken → Bool) → Production A → ℕ → Type 0
FewMore A begins element k = (xs ys : List A) (u v : Unread) → further_elements begins element k xs u ≡ got ys v → length ys ≤ length xs + k

few_round : {A : Type 0} (begins : QueryToken → Bool) (element : Production A) (k : ℕ) → FewMore A begins element k → FewMore A begins element (suc k)
few_round {A} begins element k again xs ys u v h =
    by_part (if_parts (is_the_sign comma) (any_token >>= (λ _. element >>= (λ x. further_elements begins element k (xs ++ x ∷ [])))) (give xs) u v ys h)
  where
    by_part : (NextToken (is_the_sign comma) u × ((any_token >>= (λ _. element >>= (λ x. further_elements begins element k (xs ++ x ∷ [])))) u ≡ got ys v)) ⊎ (give xs u ≡ got ys v)
        → length ys ≤ length xs + suc k
    by_part (inl p) =
        let d = bind_parts (any_token u) (λ _. element >>= (λ x. further_elements begins element k (xs ++ x ∷ []))) ys v p.1 in
        let m = bind_parts (element d.1) (λ x. further_elements begins element k (xs ++ x ∷ [])) ys v d.3 in
        let e : length (xs ++ m.0 ∷ []) ≡ length xs + 1 = length-append xs (m.0 ∷ []) in
        let few = again (xs ++ m.0 ∷ []) ys m.1 v m.3 in
        omega (arith, e, few)
    by_part (inr g) = let e : length xs ≡ length ys = ap length (given xs ys u v g).0 in omega (arith, e)

few_more : {A : Type 0} (begins : QueryToken → Bool) (element : Production A) (k : ℕ) → FewMore A begins element k
few_more {A} begins element zero xs ys u v h = by_part (if_parts (is_the_sign comma) (any_token >>= (λ _. too_many_of begins)) (give xs) u v ys h)
  where
    by_part : (NextToken (is_the_sign comma) u × ((any_token >>= (λ _. too_many_of begins)) u ≡ got ys v)) ⊎ (give xs u ≡ got ys v) → length ys ≤ length xs + 0
    by_part (inl p) = let d = bind_parts (any_token u) (λ _. too_many_of begins) ys v p.1 in absurd (no_more begins d.1 v ys d.3)
    by_part (inr g) = let e : length xs ≡ length ys = ap length (given xs ys u v g).0 in omega (arith, e)
few_more {A} begins element (suc k) xs ys u v h = few_round begins element k (few_more begins element k) xs ys u v h

few_elements : {A : Type 0} (begins : QueryToken → Bool) (element : Production A) (xs : List A) (u v : Unread) → elements begins element 255 u ≡ got xs v → length xs ≤ 256
few_elements begins element xs u v h =
    let d = bind_parts (element u) (λ x. further_elements begins element 255 (x ∷ [])) xs v h in
    few_more begins element 255 (d.0 ∷ []) xs d.1 v d.3

few_items_read : (xs : List ItemSyntax) (u v : Unread) → items u ≡ got xs v → length xs ≤ 256
unfolding items
few_items_read xs u v h = few_elements begins_item item xs u v h

few_keys_read : (ks : List PathSyntax) (u v : Unread) → keys u ≡ got ks v → length ks ≤ 256
unfolding keys
few_keys_read ks u v h = few_elements begins_key path_names ks u v h

few_grouped : (ks : List PathSyntax) (u v : Unread) → group_part u ≡ got ks v → length ks ≤ 256
few_grouped ks u v h = by_part (if_parts (is_the_word group_word) (any_token >>= (λ _. word by_word >>= (λ _. keys))) (give []) u v ks h)
  where
    by_part : (NextToken (is_the_word group_word) u × ((any_token >>= (λ _. word by_word >>= (λ _. keys))) u ≡ got ks v)) ⊎ (give [] u ≡ got ks v) → length ks ≤ 256
    by_part (inl p) =
        let d = bind_parts (any_token u) (λ _. word by_word >>= (λ _. keys)) ks v p.1 in
        let m = bind_parts (word by_word d.1) (λ _. keys) ks v d.3 in
        few_keys_read ks m.1 v m.3
    by_part (inr g) = let e : 0 ≡ length ks = ap length (given [] ks u v g).0 in omega (arith, e)

abbrev tree_of : List ItemSyntax → NameSyntax → Option ConditionSyntax → List PathSyntax → QuerySyntax
tree_of xs t c ks = record { items = xs; table = t; condition = c; keys = ks }

-- few items and few keys
record HasFew (q : QuerySyntax) : Type 0 where
  items : length q.items ≤ 256
  keys : length q.keys ≤ 256

few_of_parts : (xs : List ItemSyntax) (t : NameSyntax) (c : Option ConditionSyntax) (ks : List PathSyntax) (q : QuerySyntax) → tree_of xs t c ks ≡ q → length xs ≤ 256 → length ks ≤ 256 → HasFew q
few_of_parts xs t c ks q e m n = subst HasFew e (record { items = m; keys = n })

query_has_few : (q : QuerySyntax) (u v : Unread) → query u ≡ got q v → HasFew q
query_has_few q u v h =
    let s = bind_parts (word select_word u) (λ _. items >>= (λ xs. word from_word >>= (λ _. table_name >>= (λ t. where_part >>= (λ c. group_part >>= (λ ks. end_part >>= (λ _. give (tree_of xs t c ks)))))))) q v h in
    let i = bind_parts (items s.1) (λ xs. word from_word >>= (λ _. table_name >>= (λ t. where_part >>= (λ c. group_part >>= (λ ks. end_part >>= (λ _. give (tree_of xs t c ks))))))) q v s.3 in
    let f = bind_parts (word from_word i.1) (λ _. table_name >>= (λ t. where_part >>= (λ c. group_part >>= (λ ks. end_part >>= (λ _. give (tree_of i.0 t c ks)))))) q v i.3 in
    let t = bind_parts (table_name f.1) (λ t. where_part >>= (λ c. group_part >>= (λ ks. end_part >>= (λ _. give (tree_of i.0 t c ks))))) q v f.3 in
    let c = bind_parts (where_part t.1) (λ c. group_part >>= (λ ks. end_part >>= (λ _. give (tree_of i.0 t.0 c ks)))) q v t.3 in
    let k = bind_parts (group_part c.1) (λ ks. end_part >>= (λ _. give (tree_of i.0 t.0 c.0 ks))) q v c.3 in
    let e = bind_parts (end_part k.1) (λ _. give (tree_of i.0 t.0 c.0 k.0)) q v k.3 in
    let g = given (tree_of i.0 t.0 c.0 k.0) q e.1 v e.3 in
    few_of_parts i.0 t.0 c.0 k.0 q g.0 (few_items_read i.0 s.1 i.1 i.2) (few_grouped k.0 c.1 k.1 k.2)

few_of : (p : Parsed QuerySyntax) (q : QuerySyntax) (u : Unread) → query u ≡ p → result_of p ≡ Ok q → HasFew q
few_of (got r v) q u e h = let k : r ≡ q = cc in query_has_few q u v (e ∙ ap (λ x. got x v) k)
few_of (refused f) q u e h = absurd (cc h)

accepted_has_few : (bytes : List ℕ) (q : QuerySyntax) → parse_query bytes ≡ Ok q → HasFew q
unfolding parse_query
accepted_has_few bytes q h = by_length (nat_lt longest_query (length bytes)) h
  where
    by_length : (b : Bool) → (if b then Err (record { place = longest_query; problem = too_long }) else result_of (query (unread_text bytes))) ≡ Ok q → HasFew q
    by_length true g = absurd (cc g)
    by_length false g = few_of (query (unread_text bytes)) q (unread_text bytes) refl g

at_most_is : (m n : ℕ) → m ≤ n → nat_le m n ≡ true
at_most_is m n h = grind (arith, nat_tests)

pub few_items : AcceptedHasFewItems
few_items bytes q h = at_most_is (length q.items) 256 (accepted_has_few bytes q h).items

pub few_keys : AcceptedHasFewKeys
few_keys bytes q h = at_most_is (length q.keys) 256 (accepted_has_few bytes q h).keys
