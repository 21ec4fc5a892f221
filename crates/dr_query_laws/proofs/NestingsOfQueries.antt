-- Where TooDeep stands in a query: items, the condition, whole queries.
use Rattle.std.specs.Prelude.{◌≡◌, ℕ, zero, suc, ◌-◌, List, [], ◌∷◌, ◌++◌, length, Bool, true, false, nat_lt, if◌then◌else◌, Option, Some, None, Result, Ok, Err}
use Rattle.std.proofs.Common.{sym, ap, subst, ◌∙◌, append_assoc}
use Rattle.dr_meaning.specs.Tokens.{select_word, from_word, where_word, comma, open_parenthesis, close_parenthesis, reserved, sign, PlacedToken, placed}
use Rattle.dr_meaning.specs.Tokens.{query_tokens, longest_query}
use Rattle.dr_meaning.specs.Query.{Aggregate}
use Rattle.dr_meaning.specs.Syntax.{NameSyntax, PathSyntax, ExpressionSyntax, WithinSyntax, TermSyntax, expression, count_rows, aggregate, ItemSyntax, ConditionSyntax, QuerySyntax}
use Rattle.dr_meaning.specs.Parse.{Unread, Parsed, QueryFault, QueryProblem, Production, give, ◌>>=◌, here, place_of, any_token, operator, word, mark, is_the_word, is_the_sign, if_next}
use Rattle.dr_meaning.specs.Parse.{syntax, too_deep, too_long, aggregate_in, too_many_of, further_elements, within_part, counts_rows, rows_argument, argument, expression_argument, aggregate_term}
use Rattle.dr_meaning.specs.Parse.{whole_expression, expression_term, item_term, as_part, item, items, table_name, where_part, group_part, end_part, query, begins_item, result_of, unread_text, parse_query}
use Rattle.dr_meaning.specs.Parse.{greatest_nesting, most_items}
use Rattle.dr_meaning.specs.QueryGrammar.{word_at, sign_at, name_at, SpellsExpression, SpellsTerm, SpellsItem, Separated, alone, and_one, SpellsWhere}
use Rattle.dr_meaning.proofs.SyntaxReading.{NextMeaning}
use Rattle.dr_query_laws.specs.LimitLaws.{before_first_item, before_further_item}
use Rattle.dr_query_laws.specs.NestingLaws.{OpensInExpression, OpensInItem, in_argument, in_expression, OpensInQuery, in_item, in_condition, TooDeepStandsAt, TooDeepStandsAtItsToken}
use Rattle.dr_query_laws.proofs.Outcomes.{any_of, known_word, known_sign, word_outcome, mark_outcome}
use Rattle.dr_query_laws.proofs.QueriesGoOn.{aggregates, whole_goes, argument_goes, term_goes, TableIs, table_goes, item_goes, items_go, where_goes}
use Rattle.dr_query_laws.proofs.NeverDeep.{Shallow, then_shallow, give_shallow, any_shallow, operator_shallow, word_shallow, mark_shallow, within_shallow, as_shallow, table_shallow}
use Rattle.dr_query_laws.proofs.NeverDeep.{too_many_shallow, group_shallow, end_shallow}
use Rattle.dr_query_laws.proofs.NestingsTold.{Sayings, Tells, went, stopped, never_deep, said_so, With, tell_on, tell_behind, if_tells, by_tells, InExpression, nested_expression_tells}

whole_tells : (u : Unread) → Tells ExpressionSyntax (InExpression 32) u (whole_expression u)
unfolding whole_expression
whole_tells u = nested_expression_tells greatest_nesting u

argument_tells : (u : Unread) → Tells ExpressionSyntax (InExpression 31) u (argument u)
unfolding argument
argument_tells u = nested_expression_tells (greatest_nesting - 1) u

-- ---- items

abbrev InItem : Sayings
InItem b t = OpensInItem b t 32

-- ")" and WITHIN, behind what an aggregate is of
closed_shallow : (make : Option WithinSyntax → TermSyntax) → Shallow TermSyntax (mark close_parenthesis >>= (λ _. within_part >>= (λ w. give (make w))))
closed_shallow make = then_shallow (mark close_parenthesis) (λ _. within_part >>= (λ w. give (make w))) (mark_shallow close_parenthesis)
    (λ _. then_shallow within_part (λ w. give (make w)) within_shallow (λ w. give_shallow (make w)))

rows_shallow : Shallow TermSyntax rows_argument
rows_shallow = then_shallow operator (λ _. mark close_parenthesis >>= (λ _. within_part >>= (λ w. give (count_rows w)))) operator_shallow (λ _. closed_shallow count_rows)

-- in the parenthesis of an aggregate
inside_tells : (a : Aggregate) (E : Sayings) → ((b : List PlacedToken) (t : PlacedToken) → OpensInExpression b t 31 → E b t) → (u : Unread)
    → Tells TermSyntax E u (if_next (counts_rows a) rows_argument (expression_argument a) u)
inside_tells a E says u = if_tells E (counts_rows a) rows_argument (expression_argument a) u (λ _. never_deep E u (rows_argument u) (rows_shallow u))
    (tell_on SpellsExpression E u (argument u) (λ e. mark close_parenthesis >>= (λ _. within_part >>= (λ w. give (aggregate a e w)))) (argument_goes u)
    (said_so (InExpression 31) E u (argument u) says (argument_tells u))
    (λ e v ts s. never_deep (With ts E) v ((mark close_parenthesis >>= (λ _. within_part >>= (λ w. give (aggregate a e w)))) v) (closed_shallow (aggregate a e) v)))

aggregate_tells : (a : Aggregate) (u : Unread) → NextMeaning Aggregate aggregate_in a u → Tells TermSyntax InItem u (aggregate_term a u)
aggregate_tells a u m =
    let k = aggregates m.first.token a m.means in
    tell_behind m.first.token InItem u (any_token u) (λ _. mark open_parenthesis >>= (λ _. if_next (counts_rows a) rows_argument (expression_argument a))) (any_of u m.first m.rest m.tokens) (any_shallow u)
    (λ h v. tell_behind (sign open_parenthesis) (With (placed h m.first.token ∷ []) InItem) v (mark open_parenthesis v) (λ _. if_next (counts_rows a) rows_argument (expression_argument a))
    (mark_outcome open_parenthesis v) (mark_shallow open_parenthesis v)
    (λ i w. inside_tells a (With (sign_at i open_parenthesis ∷ []) (With (placed h m.first.token ∷ []) InItem))
    (λ b t x. subst (λ q. OpensInItem (placed h q ∷ sign_at i open_parenthesis ∷ b) t 32) (sym k.this) (in_argument h i k.by a b t 31 k.is x)) w))

term_tells : (u : Unread) → Tells TermSyntax InItem u (item_term u)
term_tells u = by_tells InItem aggregate_in aggregate_term expression_term u (λ a m. aggregate_tells a u m)
    (tell_on SpellsExpression InItem u (whole_expression u) (λ e. give (expression e)) (whole_goes u)
    (said_so (InExpression 32) InItem u (whole_expression u) (λ b t x. in_expression b t 32 x) (whole_tells u))
    (λ e v ts s. never_deep (With ts InItem) v (give (expression e) v) (give_shallow (expression e) v)))

item_tells : (u : Unread) → Tells ItemSyntax InItem u (item u)
item_tells u =
    let next = λ (t : TermSyntax). as_part >>= (λ n. give (record { place = place_of u; term = t; name = n })) in
    tell_on SpellsTerm InItem u (item_term u) next (term_goes u) (term_tells u)
    (λ t v ts s. never_deep (With ts InItem) v (next t v)
    (then_shallow as_part (λ n. give (record { place = place_of u; term = t; name = n })) as_shallow (λ n. give_shallow (record { place = place_of u; term = t; name = n })) v))

-- what is said of an item behind others, with a comma behind each, is said of them all
abbrev BehindItems : Sayings → Type 0
BehindItems E = (i : ℕ) (us : List PlacedToken) (xs : List ItemSyntax) (b : List PlacedToken) (t : PlacedToken) → Separated ItemSyntax SpellsItem us xs → InItem b t
    → E (us ++ sign_at i comma ∷ b) t

abbrev MoreItems : ℕ → Type 1
MoreItems k = (E : Sayings) → BehindItems E → (us : List PlacedToken) (xs : List ItemSyntax) → Separated ItemSyntax SpellsItem us xs → (u : Unread)
    → Tells (List ItemSyntax) (With us E) u (further_elements begins_item item k xs u)

more_items : (k : ℕ) → MoreItems k
more_items zero E says us xs s u = if_tells (With us E) (is_the_sign comma) (any_token >>= (λ _. too_many_of begins_item)) (give xs) u
    (λ _. never_deep (With us E) u ((any_token >>= (λ _. too_many_of begins_item)) u) (then_shallow any_token (λ _. too_many_of begins_item) any_shallow (λ _. too_many_shallow begins_item) u))
    (never_deep (With us E) u (give xs u) (give_shallow xs u))
more_items (suc k) E says us xs s u = if_tells (With us E) (is_the_sign comma) (any_token >>= (λ _. item >>= (λ x. further_elements begins_item item k (xs ++ x ∷ [])))) (give xs) u
    (λ n. tell_behind (sign comma) (With us E) u (any_token u) (λ _. item >>= (λ x. further_elements begins_item item k (xs ++ x ∷ []))) (known_sign comma u n) (any_shallow u)
    (λ i v. tell_on SpellsItem (With (sign_at i comma ∷ []) (With us E)) v (item v) (λ x. further_elements begins_item item k (xs ++ x ∷ [])) (item_goes v)
    (said_so InItem (With (sign_at i comma ∷ []) (With us E)) v (item v) (λ b t x. says i us xs b t s x) (item_tells v))
    (λ x w ts r.
    let ws = sign_at i comma ∷ ts in
    said_so (With (us ++ ws) E) (With ts (With (sign_at i comma ∷ []) (With us E))) w (further_elements begins_item item k (xs ++ x ∷ []) w)
    (λ b t y. subst (λ zs. E zs t) (append_assoc us ws b) y) (more_items k E says (us ++ ws) (xs ++ x ∷ []) (and_one i us ts xs x s r) w))))
    (never_deep (With us E) u (give xs u) (give_shallow xs u))

items_tell : (E : Sayings) → BehindItems E → ((b : List PlacedToken) (t : PlacedToken) → InItem b t → E b t) → (u : Unread) → Tells (List ItemSyntax) E u (items u)
unfolding items
items_tell E says first u = tell_on SpellsItem E u (item u) (λ x. further_elements begins_item item (most_items - 1) (x ∷ [])) (item_goes u) (said_so InItem E u (item u) first (item_tells u))
    (λ x v ts r. more_items (most_items - 1) E says ts (x ∷ []) (alone ts x r) v)

-- ---- queries

abbrev condition_of : ℕ → ExpressionSyntax → Option ConditionSyntax
condition_of i e = Some (record { place = i; expression = e })

where_tells : (E : Sayings) → ((i : ℕ) (b : List PlacedToken) (t : PlacedToken) → OpensInExpression b t 32 → E (word_at i where_word ∷ b) t) → (u : Unread)
    → Tells (Option ConditionSyntax) E u (where_part u)
where_tells E says u = if_tells E (is_the_word where_word) (any_token >>= (λ _. here >>= (λ i. whole_expression >>= (λ e. give (condition_of i e))))) (give None) u
    (λ n. tell_behind (reserved where_word) E u (any_token u) (λ _. here >>= (λ i. whole_expression >>= (λ e. give (condition_of i e)))) (known_word where_word u n) (any_shallow u)
    (λ i v. tell_on SpellsExpression (With (word_at i where_word ∷ []) E) v (whole_expression v) (λ e. give (condition_of (place_of v) e)) (whole_goes v)
    (said_so (InExpression 32) (With (word_at i where_word ∷ []) E) v (whole_expression v) (says i) (whole_tells v))
    (λ e w ts s. never_deep (With ts (With (word_at i where_word ∷ []) E)) w (give (condition_of (place_of v) e) w) (give_shallow (condition_of (place_of v) e) w))))
    (never_deep E u (give None u) (give_shallow None u))

abbrev tree_of : List ItemSyntax → NameSyntax → Option ConditionSyntax → List PathSyntax → QuerySyntax
tree_of xs t c ks = record { items = xs; table = t; condition = c; keys = ks }

-- what stands behind the condition; behind the table's name; behind the items
abbrev behind_condition : List ItemSyntax → NameSyntax → Option ConditionSyntax → Production QuerySyntax
behind_condition xs t c = group_part >>= (λ ks. end_part >>= (λ _. give (tree_of xs t c ks)))

abbrev behind_table : List ItemSyntax → NameSyntax → Production QuerySyntax
behind_table xs t = where_part >>= behind_condition xs t

abbrev behind_items : List ItemSyntax → Production QuerySyntax
behind_items xs = word from_word >>= (λ _. table_name >>= behind_table xs)

condition_shallow : (xs : List ItemSyntax) (t : NameSyntax) (c : Option ConditionSyntax) → Shallow QuerySyntax (behind_condition xs t c)
condition_shallow xs t c = then_shallow group_part (λ ks. end_part >>= (λ _. give (tree_of xs t c ks))) group_shallow
    (λ ks. then_shallow end_part (λ _. give (tree_of xs t c ks)) end_shallow (λ _. give_shallow (tree_of xs t c ks)))

abbrev InQuery : Sayings
InQuery b t = OpensInQuery b t 32

clauses_tell : (h : ℕ) (us : List PlacedToken) (xs : List ItemSyntax) → Separated ItemSyntax SpellsItem us xs → (u : Unread) → Tells QuerySyntax (With us (With (word_at h select_word ∷ []) InQuery)) u (behind_items xs u)
clauses_tell h us xs s u =
    let E = With us (With (word_at h select_word ∷ []) InQuery) in
    tell_behind (reserved from_word) E u (word from_word u) (λ _. table_name >>= behind_table xs) (word_outcome from_word u) (word_shallow from_word u)
    (λ i v. tell_on TableIs (With (word_at i from_word ∷ []) E) v (table_name v) (behind_table xs) (table_goes v) (never_deep (With (word_at i from_word ∷ []) E) v (table_name v) (table_shallow v))
    (λ t w ts o. subst (λ zs. Tells QuerySyntax (With zs (With (word_at i from_word ∷ []) E)) w (behind_table xs t w)) (sym o)
    (tell_on (λ zs c. SpellsWhere zs c) (With (name_at t.place t.name ∷ []) (With (word_at i from_word ∷ []) E)) w (where_part w) (behind_condition xs t) (where_goes w)
    (where_tells (With (name_at t.place t.name ∷ []) (With (word_at i from_word ∷ []) E)) (λ k b x y. in_condition h i t.place k t.name us b xs x 32 s y) w)
    (λ c z ws r. never_deep (With ws (With (name_at t.place t.name ∷ []) (With (word_at i from_word ∷ []) E))) z (behind_condition xs t c z) (condition_shallow xs t c z)))))

query_tells : (u : Unread) → Tells QuerySyntax InQuery u (query u)
query_tells u = tell_behind (reserved select_word) InQuery u (word select_word u) (λ _. items >>= behind_items) (word_outcome select_word u) (word_shallow select_word u)
    (λ h v. tell_on (Separated ItemSyntax SpellsItem) (With (word_at h select_word ∷ []) InQuery) v (items v) behind_items (items_go v)
    (items_tell (With (word_at h select_word ∷ []) InQuery)
    (λ i us xs b t s x. subst (λ zs. OpensInQuery (word_at h select_word ∷ zs) t 32) (append_assoc us (sign_at i comma ∷ []) b)
    (in_item (length xs) (word_at h select_word ∷ (us ++ sign_at i comma ∷ [])) b t 32 (before_further_item h i us xs s) x))
    (λ b t x. in_item 0 (word_at h select_word ∷ []) b t 32 (before_first_item h) x) v)
    (λ xs w us s. clauses_tell h us xs s w))

-- ---- the law

told_of : (bytes : List ℕ) (p : Parsed QuerySyntax) (i : ℕ) → Tells QuerySyntax InQuery (unread_text bytes) p → result_of p ≡ Err (record { place = i; problem = too_deep })
    → TooDeepStandsAt (query_tokens bytes) i
told_of bytes _ i (went a v) h = absurd (cc h)
told_of bytes _ i (stopped f t) h =
    let k : f ≡ record { place = i; problem = too_deep } = cc in
    let x = t (ap (λ (g : QueryFault). g.problem) k) in
    (x.before, x.token, x.rest, x.tokens, x.place ∙ ap (λ (g : QueryFault). g.place) k, x.said)

-- the problem of a refusal
abbrev problem_in : Result QuerySyntax QueryFault → QueryProblem
problem_in (Ok q) = syntax
problem_in (Err f) = f.problem

not_long : too_long ≡ too_deep → ⊥
not_long e = absurd (cc e)

pub too_deep_stands : TooDeepStandsAtItsToken
unfolding parse_query
too_deep_stands bytes i h = by_length (nat_lt longest_query (length bytes)) h
  where
    by_length : (b : Bool) → (if b then Err (record { place = longest_query; problem = too_long }) else result_of (query (unread_text bytes))) ≡ Err (record { place = i; problem = too_deep })
        → TooDeepStandsAt (query_tokens bytes) i
    by_length true g = absurd (not_long (ap problem_in g))
    by_length false g = told_of bytes (query (unread_text bytes)) i (query_tells (unread_text bytes)) g
