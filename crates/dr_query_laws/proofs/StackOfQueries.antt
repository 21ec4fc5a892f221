-- What is read keeps what is open on a stack, and never opens a nesting where 32 are open: items, clauses, whole queries.
use Rattle.std.specs.Prelude.{◌≡◌, ℕ, zero, suc, ◌-◌, List, [], ◌∷◌, ◌++◌, length, Bool, true, false, ◌&&◌, nat_le, nat_lt, if◌then◌else◌, Option, Some, None, Result, Ok, Err}
use Rattle.std.proofs.Common.{refl, sym, ap, subst, ◌∙◌, append-nil, arith}
use Rattle.std.proofs.lemmas.Bool.Decides.{nat_tests}
use Rattle.dr_meaning.specs.Tokens.{select_word, from_word, where_word, group_word, by_word, as_word, within_word, record_word, count_word, sum_word, min_word, max_word, comma, semicolon}
use Rattle.dr_meaning.specs.Tokens.{star, open_parenthesis, close_parenthesis, QueryToken, reserved, sign, PlacedToken, query_tokens, longest_query}
use Rattle.dr_meaning.specs.Query.{Aggregate, count}
use Rattle.dr_meaning.specs.Syntax.{NameSyntax, PathSyntax, ExpressionSyntax, WithinSyntax, whole_record, node, TermSyntax, expression, count_rows, aggregate, ItemSyntax, ConditionSyntax, QuerySyntax}
use Rattle.dr_meaning.specs.Parse.{Unread, Parsed, QueryProblem, QueryFault, Production, give, goes_on, ◌>>=◌, here, place_of, problem_here, syntax, too_many, too_long, if_next}
use Rattle.dr_meaning.specs.Parse.{any_token, operator, behind_token, word, mark, name, is_the_word, is_the_sign, aggregate_in, Nesting, parenthesized, path_names, too_many_of, further_elements}
use Rattle.dr_meaning.specs.Parse.{within_record, within_path, within_part, counts_rows, rows_argument, argument, expression_argument, aggregate_term, whole_expression, expression_term, item_term, as_part}
use Rattle.dr_meaning.specs.Parse.{item, items, table_name, where_part, keys, group_part, text_end, end_part, query, begins_item, begins_key, result_of, unread_text, parse_query, greatest_nesting, most_items}
use Rattle.dr_meaning.proofs.SyntaxReading.{sign_is_this}
use Rattle.dr_query_laws.specs.NestingLaws.{OneNumberIsOpen, AcceptedNestsLittle}
use Rattle.dr_query_laws.specs.FaultLaws.{IsAtToken, LittleNestedBeforeFault}
use Rattle.dr_query_laws.proofs.OpenStack.{State, at, step, run, overflows, is_deep, deep_on, neither}
use Rattle.dr_query_laws.proofs.StackOfTexts.{OpenBefore, query_opens}
use Rattle.dr_query_laws.proofs.StackRead.{Stands, CalmBefore, Goes, came, fell, From, go_on, goes_as, from_to, given_so, here_so, falls, if_goes, by_goes, stepped, skip_word, skip_sign, read_word, read_sign}
use Rattle.dr_query_laws.proofs.StackRead.{operate, name_kept, path_kept, path_begun, Left, close, nested_expression_goes}

-- an operand has ended, whatever is open
record Done (all : List PlacedToken) (u : Unread) : Type 0 where
  opened : List Nesting
  stands : Stands all (at false opened) u

-- a production that keeps what is open behind an operand
abbrev Keeps : List PlacedToken → (A : Type 0) → Production A → Type 0
Keeps all A p = (s : List Nesting) → From all (at false s) (at false s) A p

-- one that leads from where an operand has ended to there again
abbrev FromDone : List PlacedToken → (A : Type 0) → Production A → Type 0
FromDone all A p = (u : Unread) → Done all u → Goes all A (Done all) (p u)

-- one that leads there from where nothing is open
abbrev FromStart : List PlacedToken → (A : Type 0) → Production A → Type 0
FromStart all A p = (u : Unread) → Stands all (at true []) u → Goes all A (Done all) (p u)

kept_done : {A : Type 0} (all : List PlacedToken) (s : List Nesting) (p : Parsed A) → Goes all A (Stands all (at false s)) p → Goes all A (Done all) p
kept_done all s p g = goes_as all (Stands all (at false s)) (Done all) p (λ v d. record { opened = s; stands = d }) g

keeps_done : {A : Type 0} (all : List PlacedToken) (p : Production A) → Keeps all A p → FromDone all A p
keeps_done all p k u d = kept_done all d.opened (p u) (k d.opened u d.stands)

left_done : {A : Type 0} (all : List PlacedToken) (s : List Nesting) (p : Parsed A) → Goes all A (Left all s) p → Goes all A (Done all) p
left_done all s p g = goes_as all (Left all s) (Done all) p (λ v d. record { opened = d.opened; stands = d.stands }) g

then_kept : {A B : Type 0} (all : List PlacedToken) (p : Production A) (next : A → Production B) → Keeps all A p → ((a : A) → Keeps all B (next a)) → Keeps all B (p >>= next)
then_kept all p next f g s = from_to all (at false s) (at false s) (at false s) p next (f s) (λ a. g a s)

then_done : {A B : Type 0} (all : List PlacedToken) (p : Parsed A) (next : A → Production B) → Goes all A (Done all) p → ((a : A) → FromDone all B (next a)) → Goes all B (Done all) (goes_on p next)
then_done all p next f g = go_on all (Done all) (Done all) p next f g

give_kept : {A : Type 0} (all : List PlacedToken) (a : A) → Keeps all A (give a)
give_kept all a s = given_so all (at false s) a

give_done : {A : Type 0} (all : List PlacedToken) (a : A) → FromDone all A (give a)
give_done all a u d = came a u d

-- ---- items

within_kept : (all : List PlacedToken) → Keeps all (Option WithinSyntax) within_part
within_kept all s u c = if_goes all (Stands all (at false s)) (is_the_word within_word) (any_token >>= (λ i. if_next (is_the_word record_word) (within_record i) (within_path i))) (give None) u
    (λ n. go_on all (Stands all (at false s)) (Stands all (at false s)) (any_token u) (λ i. if_next (is_the_word record_word) (within_record i) (within_path i)) (skip_word all (at false s) within_word refl u n c)
    (λ i v d. if_goes all (Stands all (at false s)) (is_the_word record_word) (within_record i) (within_path i) v
    (λ m. go_on all (Stands all (at false s)) (Stands all (at false s)) (any_token v) (λ _. give (Some (record { place = i; node = whole_record }))) (skip_word all (at false s) record_word refl v m d)
    (λ _. given_so all (at false s) (Some (record { place = i; node = whole_record }))))
    (from_to all (at false s) (at false s) (at false s) path_names (λ p. give (Some (record { place = i; node = node p }))) (path_kept all s)
    (λ p. given_so all (at false s) (Some (record { place = i; node = node p }))) v d)))
    (given_so all (at false s) None u c)

-- WITHIN, for the term that is made of it
made_kept : (all : List PlacedToken) (make : Option WithinSyntax → TermSyntax) → Keeps all TermSyntax (within_part >>= (λ w. give (make w)))
made_kept all make = then_kept all within_part (λ w. give (make w)) (within_kept all) (λ w. give_kept all (make w))

star_is : (a : Aggregate) (t : QueryToken) → counts_rows a t ≡ true → t ≡ sign star
star_is count t h = sign_is_this star t h
star_is a t h = absurd (cc h)

whole_goes : (all : List PlacedToken) (u : Unread) → Stands all (at true []) u → Goes all ExpressionSyntax (Left all []) (whole_expression u)
unfolding whole_expression
whole_goes all u c = nested_expression_goes all greatest_nesting [] (omega arith) refl refl u c

argument_goes : (all : List PlacedToken) (u : Unread) → Stands all (at true (parenthesized ∷ [])) u → Goes all ExpressionSyntax (Left all (parenthesized ∷ [])) (argument u)
unfolding argument
argument_goes all u c = nested_expression_goes all (greatest_nesting - 1) (parenthesized ∷ []) (omega arith) refl refl u c

inside_goes : (all : List PlacedToken) (a : Aggregate) (u : Unread) → Stands all (at true (parenthesized ∷ [])) u → Goes all TermSyntax (Stands all (at false [])) (if_next (counts_rows a) rows_argument (expression_argument a) u)
inside_goes all a u c = if_goes all (Stands all (at false [])) (counts_rows a) rows_argument (expression_argument a) u
    (λ n. go_on all (Stands all (at false (parenthesized ∷ []))) (Stands all (at false [])) (operator u) (λ _. mark close_parenthesis >>= (λ _. within_part >>= (λ w. give (count_rows w))))
    (operate all (at true (parenthesized ∷ [])) (sign star) u n.first n.rest n.tokens (star_is a n.first.token n.passes_it) refl c)
    (λ _. from_to all (at false (parenthesized ∷ [])) (at false []) (at false []) (mark close_parenthesis) (λ _. within_part >>= (λ w. give (count_rows w)))
    (read_sign all (at false (parenthesized ∷ [])) close_parenthesis refl) (λ _. made_kept all count_rows [])))
    (go_on all (Left all (parenthesized ∷ [])) (Stands all (at false [])) (argument u) (λ e. mark close_parenthesis >>= (λ _. within_part >>= (λ w. give (aggregate a e w)))) (argument_goes all u c)
    (λ e. close all [] (λ _. within_part >>= (λ w. give (aggregate a e w))) (λ _. made_kept all (aggregate a e) [])))

-- an aggregate's word opens nothing
calls : (t : QueryToken) (a : Aggregate) → aggregate_in t ≡ Some a → (step (at true []) t ≡ at true []) × (overflows (at true []) t ≡ false)
calls (reserved count_word) a h = (refl, refl)
calls (reserved sum_word) a h = (refl, refl)
calls (reserved min_word) a h = (refl, refl)
calls (reserved max_word) a h = (refl, refl)
calls (reserved w) a h = absurd (cc h)
calls t a h = absurd (cc h)

term_goes : (all : List PlacedToken) → FromStart all TermSyntax item_term
term_goes all u c = by_goes all (Done all) aggregate_in aggregate_term expression_term u
    (λ a m.
    let k = calls m.first.token a m.means in
    go_on all (Stands all (at true [])) (Done all) (any_token u) (λ _. mark open_parenthesis >>= (λ _. if_next (counts_rows a) rows_argument (expression_argument a)))
    (came (place_of u) (behind_token u) (subst (λ z. Stands all z (behind_token u)) k.0 (stepped all (at true []) m.first.token u m.first m.rest m.tokens refl k.1 c (behind_token u) refl)))
    (λ _ v d. kept_done all [] ((mark open_parenthesis >>= (λ _. if_next (counts_rows a) rows_argument (expression_argument a))) v)
    (from_to all (at true []) (at true (parenthesized ∷ [])) (at false []) (mark open_parenthesis) (λ _. if_next (counts_rows a) rows_argument (expression_argument a))
    (read_sign all (at true []) open_parenthesis refl) (λ _. inside_goes all a) v d)))
    (then_done all (whole_expression u) (λ e. give (expression e)) (left_done all [] (whole_expression u) (whole_goes all u c)) (λ e. give_done all (expression e)))

as_kept : (all : List PlacedToken) → Keeps all (Option (List ℕ)) as_part
as_kept all s u c = if_goes all (Stands all (at false s)) (is_the_word as_word) (any_token >>= (λ _. name >>= (λ n. give (Some n)))) (give None) u
    (λ n. go_on all (Stands all (at false s)) (Stands all (at false s)) (any_token u) (λ _. name >>= (λ m. give (Some m))) (skip_word all (at false s) as_word refl u n c)
    (λ _. from_to all (at false s) (at false s) (at false s) name (λ m. give (Some m)) (name_kept all s) (λ m. given_so all (at false s) (Some m))))
    (given_so all (at false s) None u c)

item_goes : (all : List PlacedToken) → FromStart all ItemSyntax item
item_goes all u c = then_done all (item_term u) (λ t. as_part >>= (λ n. give (record { place = place_of u; term = t; name = n }))) (term_goes all u c)
    (λ t. keeps_done all (as_part >>= (λ n. give (record { place = place_of u; term = t; name = n })))
    (then_kept all as_part (λ n. give (record { place = place_of u; term = t; name = n })) (as_kept all) (λ n. give_kept all (record { place = place_of u; term = t; name = n }))))

-- ---- lists

too_many_falls : {A : Type 0} (all : List PlacedToken) (x : State) (P : Unread → Type 0) (begins : QueryToken → Bool) (u : Unread) → Stands all x u → Goes all A P (too_many_of begins u)
too_many_falls all x P begins u c = if_goes all P begins (problem_here too_many) (problem_here syntax) u (λ _. falls all x P too_many u c) (falls all x P syntax u c)

more_elements : {A : Type 0} (all : List PlacedToken) (begins : QueryToken → Bool) (element : Production A) → FromStart all A element → (k : ℕ) (xs : List A)
    → FromDone all (List A) (further_elements begins element k xs)
more_elements all begins element goes zero xs u d = if_goes all (Done all) (is_the_sign comma) (any_token >>= (λ _. too_many_of begins)) (give xs) u
    (λ n. go_on all (Stands all (at true [])) (Done all) (any_token u) (λ _. too_many_of begins) (skip_sign all (at false d.opened) comma refl u n d.stands) (λ _ v c. too_many_falls all (at true []) (Done all) begins v c))
    (came xs u d)
more_elements all begins element goes (suc k) xs u d =
    if_goes all (Done all) (is_the_sign comma) (any_token >>= (λ _. element >>= (λ x. further_elements begins element k (xs ++ x ∷ [])))) (give xs) u
    (λ n. go_on all (Stands all (at true [])) (Done all) (any_token u) (λ _. element >>= (λ x. further_elements begins element k (xs ++ x ∷ []))) (skip_sign all (at false d.opened) comma refl u n d.stands)
    (λ _ v c. then_done all (element v) (λ x. further_elements begins element k (xs ++ x ∷ [])) (goes v c) (λ x. more_elements all begins element goes k (xs ++ x ∷ []))))
    (came xs u d)

items_go : (all : List PlacedToken) → FromStart all (List ItemSyntax) items
unfolding items
items_go all u c = then_done all (item u) (λ x. further_elements begins_item item (most_items - 1) (x ∷ [])) (item_goes all u c)
    (λ x. more_elements all begins_item item (item_goes all) (most_items - 1) (x ∷ []))

keys_go : (all : List PlacedToken) → FromDone all (List PathSyntax) keys
unfolding keys
keys_go all u d = then_done all (path_names u) (λ x. further_elements begins_key path_names (most_items - 1) (x ∷ [])) (keeps_done all path_names (path_kept all) u d)
    (λ x. more_elements all begins_key path_names (λ v c. kept_done all [] (path_names v) (path_begun all [] v c)) (most_items - 1) (x ∷ []))

-- ---- clauses

table_kept : (all : List PlacedToken) → Keeps all NameSyntax table_name
table_kept all s = from_to all (at false s) (at false s) (at false s) here (λ i. name >>= (λ n. give (record { place = i; name = n }))) (here_so all (at false s))
    (λ i. from_to all (at false s) (at false s) (at false s) name (λ n. give (record { place = i; name = n })) (name_kept all s) (λ n. given_so all (at false s) (record { place = i; name = n })))

abbrev condition_of : ℕ → ExpressionSyntax → Option ConditionSyntax
condition_of i e = Some (record { place = i; expression = e })

where_goes : (all : List PlacedToken) → FromDone all (Option ConditionSyntax) where_part
where_goes all u d = if_goes all (Done all) (is_the_word where_word) (any_token >>= (λ _. here >>= (λ i. whole_expression >>= (λ e. give (condition_of i e))))) (give None) u
    (λ n. go_on all (Stands all (at true [])) (Done all) (any_token u) (λ _. here >>= (λ i. whole_expression >>= (λ e. give (condition_of i e)))) (skip_word all (at false d.opened) where_word refl u n d.stands)
    (λ _ v c. then_done all (whole_expression v) (λ e. give (condition_of (place_of v) e)) (left_done all [] (whole_expression v) (whole_goes all v c)) (λ e. give_done all (condition_of (place_of v) e))))
    (came None u d)

group_goes : (all : List PlacedToken) → FromDone all (List PathSyntax) group_part
group_goes all u d = if_goes all (Done all) (is_the_word group_word) (any_token >>= (λ _. word by_word >>= (λ _. keys))) (give []) u
    (λ n. then_done all (any_token u) (λ _. word by_word >>= (λ _. keys)) (kept_done all d.opened (any_token u) (skip_word all (at false d.opened) group_word refl u n d.stands))
    (λ _ v f. then_done all (word by_word v) (λ _. keys) (kept_done all f.opened (word by_word v) (read_word all (at false f.opened) by_word refl v f.stands)) (λ _. keys_go all)))
    (came [] u d)

-- the whole text was read
record Ended (all : List PlacedToken) (u : Unread) : Type 0 where
  calm : is_deep (at true []) all ≡ false

ended_by : (all : List PlacedToken) (ts : List PlacedToken) (n k : ℕ) → Done all (record { tokens = ts; size = n; operators = k })
    → Goes all ℕ (Ended all) (text_end (record { tokens = ts; size = n; operators = k }))
ended_by all [] n k d = came n (record { tokens = []; size = n; operators = k }) (record { calm = ap (is_deep (at true [])) (d.stands.tokens ∙ append-nil d.stands.before) ∙ d.stands.calm })
ended_by all (t ∷ ts) n k d = fell (record { place = t.place; problem = syntax }) (d.stands.before, (t ∷ ts, d.stands.tokens, refl), d.stands.calm)

text_end_goes : (all : List PlacedToken) (u : Unread) → Done all u → Goes all ℕ (Ended all) (text_end u)
text_end_goes all u d = ended_by all u.tokens u.size u.operators d

end_goes : (all : List PlacedToken) (u : Unread) → Done all u → Goes all ℕ (Ended all) (end_part u)
end_goes all u d = if_goes all (Ended all) (is_the_sign semicolon) (any_token >>= (λ _. text_end)) text_end u
    (λ n. go_on all (Done all) (Ended all) (any_token u) (λ _. text_end) (kept_done all d.opened (any_token u) (skip_sign all (at false d.opened) semicolon refl u n d.stands)) (λ _. text_end_goes all))
    (text_end_goes all u d)

-- ---- queries

abbrev tree_of : List ItemSyntax → NameSyntax → Option ConditionSyntax → List PathSyntax → QuerySyntax
tree_of xs t c ks = record { items = xs; table = t; condition = c; keys = ks }

query_goes : (all : List PlacedToken) (u : Unread) → Stands all (at true []) u → Goes all QuerySyntax (Ended all) (query u)
query_goes all u c =
    go_on all (Stands all (at true [])) (Ended all) (word select_word u)
    (λ _. items >>= (λ xs. word from_word >>= (λ _. table_name >>= (λ t. where_part >>= (λ c. group_part >>= (λ ks. end_part >>= (λ _. give (tree_of xs t c ks))))))))
    (read_word all (at true []) select_word refl u c)
    (λ _ v d. go_on all (Done all) (Ended all) (items v) (λ xs. word from_word >>= (λ _. table_name >>= (λ t. where_part >>= (λ c. group_part >>= (λ ks. end_part >>= (λ _. give (tree_of xs t c ks))))))) (items_go all v d)
    (λ xs w e. go_on all (Done all) (Ended all) (word from_word w) (λ _. table_name >>= (λ t. where_part >>= (λ c. group_part >>= (λ ks. end_part >>= (λ _. give (tree_of xs t c ks))))))
    (kept_done all e.opened (word from_word w) (read_word all (at false e.opened) from_word refl w e.stands))
    (λ _ x f. go_on all (Done all) (Ended all) (table_name x) (λ t. where_part >>= (λ c. group_part >>= (λ ks. end_part >>= (λ _. give (tree_of xs t c ks))))) (keeps_done all table_name (table_kept all) x f)
    (λ t y g. go_on all (Done all) (Ended all) (where_part y) (λ c. group_part >>= (λ ks. end_part >>= (λ _. give (tree_of xs t c ks)))) (where_goes all y g)
    (λ c z h. go_on all (Done all) (Ended all) (group_part z) (λ ks. end_part >>= (λ _. give (tree_of xs t c ks))) (group_goes all z h)
    (λ ks a i. go_on all (Ended all) (Ended all) (end_part a) (λ _. give (tree_of xs t c ks)) (end_goes all a i) (λ _ b j. came (tree_of xs t c ks) b j)))))))

-- ---- the laws

calm_of : (all : List PlacedToken) (p : Parsed QuerySyntax) (q : QuerySyntax) → Goes all QuerySyntax (Ended all) p → result_of p ≡ Ok q → is_deep (at true []) all ≡ false
calm_of all _ q (came a v x) h = x.calm
calm_of all _ q (fell f c) h = absurd (cc h)

accepted_is_calm : (bytes : List ℕ) (q : QuerySyntax) → parse_query bytes ≡ Ok q → is_deep (at true []) (query_tokens bytes) ≡ false
unfolding parse_query
accepted_is_calm bytes q h = by_length (nat_lt longest_query (length bytes)) h
  where
    by_length : (b : Bool) → (if b then Err (record { place = longest_query; problem = too_long }) else result_of (query (unread_text bytes))) ≡ Ok q → is_deep (at true []) (query_tokens bytes) ≡ false
    by_length true g = absurd (cc g)
    by_length false g = calm_of (query_tokens bytes) (query (unread_text bytes)) q
        (query_goes (query_tokens bytes) (unread_text bytes) (record { before = []; tokens = refl; ran = refl; calm = refl })) g

few_are_open : (n : ℕ) → nat_le 32 n ≡ false → nat_lt n 32 ≡ true
few_are_open n h = grind (arith, nat_tests)

-- where nothing is too deep, a token that opens a nesting finds room
finds_room : (before rest : List PlacedToken) (t : PlacedToken) (n : ℕ) → OpenBefore before t n → is_deep (at true []) (before ++ t ∷ rest) ≡ false → nat_le 32 n ≡ false
finds_room before rest t n x h =
    let behind = (neither (is_deep (at true []) before) (is_deep (run (at true []) before) (t ∷ rest)) (sym (deep_on (at true []) before (t ∷ rest)) ∙ h)).1 in
    let here = (neither (overflows (run (at true []) before) t.token) (is_deep (step (run (at true []) before) t.token) rest) behind).0 in
    let told : overflows (at true x.opened) t.token ≡ false = sym (ap (λ z. overflows z t.token) x.ran) ∙ here in
    let few : nat_le 32 (length x.opened) ≡ false = sym (ap (λ b. b && nat_le 32 (length x.opened)) x.opening) ∙ told in
    sym (ap (nat_le 32) x.size) ∙ few

pub nests_little : AcceptedNestsLittle
nests_little bytes q before rest t n h e x =
    few_are_open n (finds_room before rest t n (query_opens before t n x) (sym (ap (is_deep (at true [])) e) ∙ accepted_is_calm bytes q h))

pub one_number : OneNumberIsOpen
one_number before t u m n x y =
    let a = query_opens before t m x in
    let b = query_opens before u n y in
    let same : a.opened ≡ b.opened = ap (λ (z : State). z.opened) (sym a.ran ∙ b.ran) in
    sym a.size ∙ (ap length same ∙ b.size)

before_of : (all : List PlacedToken) (p : Parsed QuerySyntax) (f : QueryFault) → Goes all QuerySyntax (Ended all) p → result_of p ≡ Err f → CalmBefore all f.place
before_of all _ f (came a v x) h = absurd (cc h)
before_of all _ f (fell g c) h = let k : g ≡ f = cc in subst (CalmBefore all) (ap (λ (x : QueryFault). x.place) k) c

-- the problem of a refusal
abbrev problem_in : Result QuerySyntax QueryFault → QueryProblem
problem_in (Ok q) = syntax
problem_in (Err f) = f.problem

refused_is_calm : (bytes : List ℕ) (f : QueryFault) → IsAtToken f.problem → parse_query bytes ≡ Err f → CalmBefore (query_tokens bytes) f.place
unfolding parse_query
refused_is_calm bytes f a h = by_length (nat_lt longest_query (length bytes)) h
  where
    by_length : (b : Bool) → (if b then Err (record { place = longest_query; problem = too_long }) else result_of (query (unread_text bytes))) ≡ Err f → CalmBefore (query_tokens bytes) f.place
    by_length true g = absurd (subst IsAtToken (sym (ap problem_in g)) a)
    by_length false g = before_of (query_tokens bytes) (query (unread_text bytes)) f
        (query_goes (query_tokens bytes) (unread_text bytes) (record { before = []; tokens = refl; ran = refl; calm = refl })) g

pub little_nested_before : LittleNestedBeforeFault
little_nested_before bytes f a h = let c = refused_is_calm bytes f a h in
    (c.0, c.1, λ front more t n e x. few_are_open n (finds_room front more t n (query_opens front t n x) (sym (ap (is_deep (at true [])) e) ∙ c.2)))
