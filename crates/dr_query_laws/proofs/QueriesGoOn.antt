-- The tokens before a fault in a query begin a query: items, clauses and whole queries.
use Rattle.std.specs.Prelude.{◌≡◌, ℕ, zero, suc, List, [], ◌∷◌, ◌++◌, length, Bool, true, false, nat_lt, Option, Some, None, Err, if◌then◌else◌, ◌-◌}
use Rattle.std.proofs.Common.{refl, sym, ap, ap₂, subst, ◌∙◌, append_assoc, append-nil}
use Rattle.dr_meaning.specs.Tokens.{select_word, from_word, where_word, group_word, by_word, as_word, within_word, record_word, count_word, sum_word, min_word, max_word}
use Rattle.dr_meaning.specs.Tokens.{comma, open_parenthesis, close_parenthesis, minus_sign, star, semicolon, Word, QueryToken, reserved, identifier, number, text, sign, bad, true_word, false_word, not_word, PlacedToken, placed, query_tokens, longest_query}
use Rattle.dr_meaning.specs.Query.{Aggregate, count, sum, least, greatest}
use Rattle.dr_meaning.specs.Syntax.{NameSyntax, PathSyntax, ExpressionSyntax, WithinSyntax, TermSyntax, expression, count_rows, aggregate, whole_record, node, ItemSyntax}
use Rattle.dr_meaning.specs.Syntax.{number_literal, text_literal, truth_literal, path, ConditionSyntax, QuerySyntax}
use Rattle.dr_meaning.specs.Parse.{Unread, Parsed, got, refused, QueryProblem, QueryFault, Production, give, ◌>>=◌, first_place, place_of, here, problem_here, syntax, too_deep, too_many, too_long}
use Rattle.dr_meaning.specs.Parse.{if_next, any_token, operator, word, mark, name, is_the_word, is_the_sign, aggregate_in, path_names, too_many_of, further_elements}
use Rattle.dr_meaning.specs.Parse.{elements, within_record, within_path, within_part, counts_rows, rows_argument, argument, expression_argument, aggregate_term, whole_expression}
use Rattle.dr_meaning.specs.Parse.{expression_term, item_term, as_part, item, items, table_name, where_part, keys, group_part, text_end, end_part, query, begins_item, begins_key}
use Rattle.dr_meaning.specs.Parse.{result_of, unread_text, parse_query, greatest_nesting, most_items}
use Rattle.dr_meaning.specs.QueryGrammar.{word_at, sign_at, name_at, BeginsAt, first_name, SpellsPath, SpellsExpression, one_and, or_and, SpellsAnd, one_not, and_not, SpellsNot, not_not, one_test}
use Rattle.dr_meaning.specs.QueryGrammar.{SpellsTest, one_sum, compared_sums, like_text, not_like_text, contains_text, not_contains_text, is_null_word, is_not_null, SpellsSum}
use Rattle.dr_meaning.specs.QueryGrammar.{one_product, plus_product, minus_product, SpellsProduct, one_unary, times_unary, SpellsUnary, minus_unary, one_primary, SpellsPrimary}
use Rattle.dr_meaning.specs.QueryGrammar.{a_number, a_text, a_true, a_false, a_path, in_parentheses, SpellsWithin, no_within, within_the_record, within_a_path, IsAggregate, is_count}
use Rattle.dr_meaning.specs.QueryGrammar.{is_sum, is_least, is_greatest, SpellsTerm, counted_rows, aggregated, an_expression, SpellsAs, no_as, as_name, SpellsItem, Separated, alone}
use Rattle.dr_meaning.specs.QueryGrammar.{and_one, SpellsWhere, no_where, where_expression, SpellsGroup, no_group, group_by, SpellsEnd, no_semicolon, a_semicolon, SpellsQuery, a_query}
use Rattle.dr_meaning.proofs.SyntaxReading.{NextToken}
use Rattle.dr_query_laws.specs.FaultLaws.{IsAtToken, TokensBeforeFaultGoOn, IsLimitAtToken, LimitIsNoDeadEnd}
use Rattle.dr_query_laws.proofs.Outcomes.{Filled, BegunWith, OneFirst, Shared, Outcome, reads, stops, weaker, Seq, seq, Nothing, gives, fills_nothing, stops_here, if_outcome, by_outcome, any_of}
use Rattle.dr_query_laws.proofs.Outcomes.{known_word, known_sign, known_operator, word_outcome, mark_outcome, IsName, name_outcome, Behind, one_seq, fills_one, fills_seq, Begun, begun}
use Rattle.dr_query_laws.proofs.ExpressionsGoOn.{path_of, path_outcome, fills_path, fills_expression, opens_parenthesis, opens_not, opens_sign, nested_expression_goes}

pub only_front : (ts us vs : List PlacedToken) → ts ≡ us ++ vs → vs ≡ [] → ts ≡ us
only_front ts us vs e f = e ∙ (ap (λ xs. us ++ xs) f ∙ append-nil us)

pub argument_goes : (u : Unread) → Outcome ExpressionSyntax SpellsExpression u (argument u)
unfolding argument
argument_goes u = nested_expression_goes (greatest_nesting - 1) u

pub whole_goes : (u : Unread) → Outcome ExpressionSyntax SpellsExpression u (whole_expression u)
unfolding whole_expression
whole_goes u = nested_expression_goes greatest_nesting u

-- ---- WITHIN

-- behind WITHIN, which stands at place i
abbrev WithinTail : ℕ → List PlacedToken → Option WithinSyntax → Type 0
WithinTail i ws w = SpellsWithin (word_at i within_word ∷ ws) w

abbrev whole_at : ℕ → Option WithinSyntax
whole_at i = Some (record { place = i; node = whole_record })

abbrev node_at : ℕ → PathSyntax → Option WithinSyntax
node_at i p = Some (record { place = i; node = node p })

record_tail : (i : ℕ) (ts : List PlacedToken) (w : Option WithinSyntax) → Behind (Option WithinSyntax) (reserved record_word) (λ j. Nothing (Option WithinSyntax) (whole_at i)) ts w → WithinTail i ts w
record_tail i ts w x =
    let tokens : ts ≡ word_at x.place record_word ∷ [] = x.tokens ∙ ap (λ xs. word_at x.place record_word ∷ xs) x.second.none in
    subst (WithinTail i ts) x.second.same (subst (λ xs. WithinTail i xs (whole_at i)) (sym tokens) (within_the_record i x.place))

path_tail : (i : ℕ) (ts : List PlacedToken) (w : Option WithinSyntax) → Seq PathSyntax (Option WithinSyntax) SpellsPath (λ p. Nothing (Option WithinSyntax) (node_at i p)) ts w → WithinTail i ts w
path_tail i ts w x =
    subst (WithinTail i ts) x.second.same (subst (λ xs. WithinTail i xs (node_at i x.middle)) (sym (only_front ts x.front x.rest x.tokens x.second.none)) (within_a_path i x.front x.middle x.first))

within_tail_goes : (i : ℕ) (u : Unread) → Outcome (Option WithinSyntax) (WithinTail i) u (if_next (is_the_word record_word) (within_record i) (within_path i) u)
within_tail_goes i u = if_outcome (WithinTail i) (is_the_word record_word) (within_record i) (within_path i) u
    (λ n. weaker (Behind (Option WithinSyntax) (reserved record_word) (λ j. Nothing (Option WithinSyntax) (whole_at i))) (WithinTail i) u (within_record i u) (record_tail i)
    (one_seq (reserved record_word) (λ j. Nothing (Option WithinSyntax) (whole_at i)) u (any_token u) (λ _. give (whole_at i)) (λ j. fills_nothing (whole_at i)) (λ j v. gives (whole_at i) v)
    (known_word record_word u n)))
    (weaker (Seq PathSyntax (Option WithinSyntax) SpellsPath (λ p. Nothing (Option WithinSyntax) (node_at i p))) (WithinTail i) u (within_path i u) (path_tail i)
    (seq SpellsPath (λ p. Nothing (Option WithinSyntax) (node_at i p)) u (path_names u) (λ p. give (node_at i p)) (λ p. fills_nothing (node_at i p)) (λ p v. gives (node_at i p) v) (path_outcome u)))

fills_within_tail : (i : ℕ) → Filled (Option WithinSyntax) (WithinTail i)
fills_within_tail i = record { tokens = word_at 0 record_word ∷ []; value = whole_at i; spelled = within_the_record i 0 }

pub nothing_is : {A : Type 0} (S : List PlacedToken → A → Type 0) (a : A) → S [] a → (ts : List PlacedToken) (b : A) → Nothing A a ts b → S ts b
nothing_is S a s ts b x = subst (S ts) x.same (subst (λ xs. S xs a) (sym x.none) s)

within_goes : (u : Unread) → Outcome (Option WithinSyntax) SpellsWithin u (within_part u)
within_goes u = if_outcome SpellsWithin (is_the_word within_word) (any_token >>= (λ i. if_next (is_the_word record_word) (within_record i) (within_path i))) (give None) u
    (λ n. weaker (Behind (Option WithinSyntax) (reserved within_word) WithinTail) SpellsWithin u ((any_token >>= (λ i. if_next (is_the_word record_word) (within_record i) (within_path i))) u)
    (λ ts w x. subst (λ xs. SpellsWithin xs w) (sym x.tokens) x.second)
    (one_seq (reserved within_word) WithinTail u (any_token u) (λ i. if_next (is_the_word record_word) (within_record i) (within_path i)) fills_within_tail within_tail_goes (known_word within_word u n)))
    (weaker (Nothing (Option WithinSyntax) None) SpellsWithin u (give None u) (nothing_is SpellsWithin None no_within) (gives None u))

fills_within : Filled (Option WithinSyntax) SpellsWithin
fills_within = record { tokens = []; value = None; spelled = no_within }

-- ---- terms

pub record Aggregates (t : QueryToken) (a : Aggregate) : Type 0 where
  pub by : Word
  pub this : t ≡ reserved by
  pub is : IsAggregate by a

pub aggregates : (t : QueryToken) (a : Aggregate) → aggregate_in t ≡ Some a → Aggregates t a
aggregates (reserved count_word) a h = let e : count ≡ a = cc in record { by = count_word; this = refl; is = subst (IsAggregate count_word) e is_count }
aggregates (reserved sum_word) a h = let e : sum ≡ a = cc in record { by = sum_word; this = refl; is = subst (IsAggregate sum_word) e is_sum }
aggregates (reserved min_word) a h = let e : least ≡ a = cc in record { by = min_word; this = refl; is = subst (IsAggregate min_word) e is_least }
aggregates (reserved max_word) a h = let e : greatest ≡ a = cc in record { by = max_word; this = refl; is = subst (IsAggregate max_word) e is_greatest }
aggregates (reserved w) a h = absurd (cc h)
aggregates t a h = absurd (cc h)

-- ")" [WITHIN ..], for a term that is made of the WITHIN
abbrev CloseFor : (Option WithinSyntax → TermSyntax) → List PlacedToken → TermSyntax → Type 0
CloseFor make = Behind TermSyntax (sign close_parenthesis) (λ j. Seq (Option WithinSyntax) TermSyntax SpellsWithin (λ w. Nothing TermSyntax (make w)))

fills_close : (make : Option WithinSyntax → TermSyntax) → Filled TermSyntax (CloseFor make)
fills_close make = fills_one (sign close_parenthesis) (λ j. Seq (Option WithinSyntax) TermSyntax SpellsWithin (λ w. Nothing TermSyntax (make w)))
    (fills_seq SpellsWithin (λ w. Nothing TermSyntax (make w)) fills_within (λ w. fills_nothing (make w)))

close_goes : (make : Option WithinSyntax → TermSyntax) (u : Unread) → Outcome TermSyntax (CloseFor make) u ((mark close_parenthesis >>= (λ _. within_part >>= (λ w. give (make w)))) u)
close_goes make u = one_seq (sign close_parenthesis) (λ j. Seq (Option WithinSyntax) TermSyntax SpellsWithin (λ w. Nothing TermSyntax (make w))) u (mark close_parenthesis u)
    (λ _. within_part >>= (λ w. give (make w)))
    (λ j. fills_seq SpellsWithin (λ w. Nothing TermSyntax (make w)) fills_within (λ w. fills_nothing (make w)))
    (λ j v. seq SpellsWithin (λ w. Nothing TermSyntax (make w)) v (within_part v) (λ w. give (make w)) (λ w. fills_nothing (make w)) (λ w y. gives (make w) y) (within_goes v))
    (mark_outcome close_parenthesis u)

-- what stands in an aggregate's parenthesis, and behind it
abbrev ArgumentTail : Aggregate → List PlacedToken → TermSyntax → Type 0
ArgumentTail a ws x = (h i : ℕ) (v : Word) → IsAggregate v a → SpellsTerm (word_at h v ∷ sign_at i open_parenthesis ∷ ws) x

expression_tail : (a : Aggregate) (ts : List PlacedToken) (x : TermSyntax) → Seq ExpressionSyntax TermSyntax SpellsExpression (λ e. CloseFor (aggregate a e)) ts x → ArgumentTail a ts x
expression_tail a ts x y h i v is =
    let c = y.second in
    let w = c.second in
    let tokens : ts ≡ y.front ++ sign_at c.place close_parenthesis ∷ w.front =
    y.tokens ∙ ap (λ xs. y.front ++ xs) (c.tokens ∙ ap (λ xs. sign_at c.place close_parenthesis ∷ xs) (only_front c.rest w.front w.rest w.tokens w.second.none)) in
    let all = aggregated h i c.place v a y.front w.front y.middle w.middle is y.first w.first in
    subst (λ xs. SpellsTerm (word_at h v ∷ sign_at i open_parenthesis ∷ xs) x) (sym tokens)
    (subst (SpellsTerm (word_at h v ∷ sign_at i open_parenthesis ∷ (y.front ++ sign_at c.place close_parenthesis ∷ w.front))) w.second.same all)

expression_argument_goes : (a : Aggregate) (u : Unread) → Outcome TermSyntax (ArgumentTail a) u (expression_argument a u)
expression_argument_goes a u = weaker (Seq ExpressionSyntax TermSyntax SpellsExpression (λ e. CloseFor (aggregate a e))) (ArgumentTail a) u (expression_argument a u) (expression_tail a)
    (seq SpellsExpression (λ e. CloseFor (aggregate a e)) u (argument u) (λ e. mark close_parenthesis >>= (λ _. within_part >>= (λ w. give (aggregate a e w))))
    (λ e. fills_close (aggregate a e)) (λ e v. close_goes (aggregate a e) v) (argument_goes u))

-- the star of COUNT(*)
pub star_of_count : (a : Aggregate) (u : Unread) → NextToken (counts_rows a) u → (a ≡ count) × NextToken (is_the_sign star) u
star_of_count count u n = (refl, n)
star_of_count a u n = absurd (cc n.passes_it)

count_only : (w : Word) → IsAggregate w count → w ≡ count_word
count_only _ is_count = refl

rows_tail : (ts : List PlacedToken) (x : TermSyntax) → Behind TermSyntax (sign star) (λ j. CloseFor count_rows) ts x → ArgumentTail count ts x
rows_tail ts x y h i v is =
    let c = y.second in
    let w = c.second in
    let tokens : ts ≡ sign_at y.place star ∷ sign_at c.place close_parenthesis ∷ w.front =
    y.tokens ∙ ap (λ xs. sign_at y.place star ∷ xs) (c.tokens ∙ ap (λ xs. sign_at c.place close_parenthesis ∷ xs) (only_front c.rest w.front w.rest w.tokens w.second.none)) in
    let all = counted_rows h i y.place c.place w.front w.middle w.first in
    subst (λ z. SpellsTerm (word_at h z ∷ sign_at i open_parenthesis ∷ ts) x) (sym (count_only v is))
    (subst (λ xs. SpellsTerm (word_at h count_word ∷ sign_at i open_parenthesis ∷ xs) x) (sym tokens)
    (subst (SpellsTerm (word_at h count_word ∷ sign_at i open_parenthesis ∷ sign_at y.place star ∷ sign_at c.place close_parenthesis ∷ w.front)) w.second.same all))

rows_argument_goes : (u : Unread) → NextToken (is_the_sign star) u → Outcome TermSyntax (ArgumentTail count) u (rows_argument u)
rows_argument_goes u n = weaker (Behind TermSyntax (sign star) (λ j. CloseFor count_rows)) (ArgumentTail count) u (rows_argument u) rows_tail
    (one_seq (sign star) (λ j. CloseFor count_rows) u (operator u) (λ _. mark close_parenthesis >>= (λ _. within_part >>= (λ w. give (count_rows w)))) (λ j. fills_close count_rows)
    (λ j v. close_goes count_rows v) (known_operator star u n))

argument_tail_goes : (a : Aggregate) (u : Unread) → Outcome TermSyntax (ArgumentTail a) u (if_next (counts_rows a) rows_argument (expression_argument a) u)
argument_tail_goes a u = if_outcome (ArgumentTail a) (counts_rows a) rows_argument (expression_argument a) u
    (λ n. let s = star_of_count a u n in subst (λ b. Outcome TermSyntax (ArgumentTail b) u (rows_argument u)) (sym s.0) (rows_argument_goes u s.1))
    (expression_argument_goes a u)

fills_argument_tail : (a : Aggregate) → Filled TermSyntax (ArgumentTail a)
fills_argument_tail a =
    let x = fills_seq SpellsExpression (λ e. CloseFor (aggregate a e)) fills_expression (λ e. fills_close (aggregate a e)) in
    record { tokens = x.tokens; value = x.value; spelled = expression_tail a x.tokens x.value x.spelled }

abbrev OpenTail : Aggregate → ℕ → List PlacedToken → TermSyntax → Type 0
OpenTail a h = Behind TermSyntax (sign open_parenthesis) (λ i. ArgumentTail a)

aggregate_all : (a : Aggregate) (t : QueryToken) → aggregate_in t ≡ Some a → (ts : List PlacedToken) (x : TermSyntax) → Behind TermSyntax t (OpenTail a) ts x → SpellsTerm ts x
aggregate_all a t means ts x y =
    let o = y.second in
    let k = aggregates t a means in
    let tokens : ts ≡ word_at y.place k.by ∷ sign_at o.place open_parenthesis ∷ o.rest = y.tokens ∙ ap₂ (λ z xs. placed y.place z ∷ xs) k.this o.tokens in
    subst (λ xs. SpellsTerm xs x) (sym tokens) (o.second y.place o.place k.by k.is)

pub term_goes : (u : Unread) → Outcome TermSyntax SpellsTerm u (item_term u)
term_goes u = by_outcome SpellsTerm aggregate_in aggregate_term expression_term u
    (λ a m. weaker (Behind TermSyntax m.first.token (OpenTail a)) SpellsTerm u (aggregate_term a u) (aggregate_all a m.first.token m.means)
    (one_seq m.first.token (OpenTail a) u (any_token u) (λ _. mark open_parenthesis >>= (λ _. if_next (counts_rows a) rows_argument (expression_argument a)))
    (λ h. fills_one (sign open_parenthesis) (λ i. ArgumentTail a) (fills_argument_tail a))
    (λ h v. one_seq (sign open_parenthesis) (λ i. ArgumentTail a) v (mark open_parenthesis v) (λ _. if_next (counts_rows a) rows_argument (expression_argument a))
    (λ i. fills_argument_tail a) (λ i w. argument_tail_goes a w) (mark_outcome open_parenthesis v))
    (any_of u m.first m.rest m.tokens)))
    (weaker (Seq ExpressionSyntax TermSyntax SpellsExpression (λ e. Nothing TermSyntax (expression e))) SpellsTerm u (expression_term u)
    (λ ts x y. subst (SpellsTerm ts) y.second.same (subst (λ xs. SpellsTerm xs (expression y.middle)) (sym (only_front ts y.front y.rest y.tokens y.second.none)) (an_expression y.front y.middle y.first)))
    (seq SpellsExpression (λ e. Nothing TermSyntax (expression e)) u (whole_expression u) (λ e. give (expression e)) (λ e. fills_nothing (expression e)) (λ e v. gives (expression e) v) (whole_goes u)))

-- ---- items

abbrev some_name : List ℕ → Option (List ℕ)
some_name n = Some n

as_goes : (u : Unread) → Outcome (Option (List ℕ)) SpellsAs u (as_part u)
as_goes u = if_outcome SpellsAs (is_the_word as_word) (any_token >>= (λ _. name >>= (λ n. give (some_name n)))) (give None) u
    (λ m. weaker (Behind (Option (List ℕ)) (reserved as_word) (λ i. Seq (List ℕ) (Option (List ℕ)) IsName (λ n. Nothing (Option (List ℕ)) (some_name n)))) SpellsAs u
    ((any_token >>= (λ _. name >>= (λ n. give (some_name n)))) u) named
    (one_seq (reserved as_word) (λ i. Seq (List ℕ) (Option (List ℕ)) IsName (λ n. Nothing (Option (List ℕ)) (some_name n))) u (any_token u) (λ _. name >>= (λ n. give (some_name n)))
    (λ i. fills_seq IsName (λ n. Nothing (Option (List ℕ)) (some_name n)) (record { tokens = name_at 0 (97 ∷ []) ∷ []; value = 97 ∷ []; spelled = record { place = 0; tokens = refl } })
    (λ n. fills_nothing (some_name n)))
    (λ i v. seq IsName (λ n. Nothing (Option (List ℕ)) (some_name n)) v (name v) (λ n. give (some_name n)) (λ n. fills_nothing (some_name n)) (λ n w. gives (some_name n) w) (name_outcome v))
    (known_word as_word u m)))
    (weaker (Nothing (Option (List ℕ)) None) SpellsAs u (give None u) (nothing_is SpellsAs None no_as) (gives None u))
  where
    named : (ts : List PlacedToken) (x : Option (List ℕ)) → Behind (Option (List ℕ)) (reserved as_word) (λ i. Seq (List ℕ) (Option (List ℕ)) IsName (λ n. Nothing (Option (List ℕ)) (some_name n))) ts x
        → SpellsAs ts x
    named ts x y =
        let n = y.second in
        let tokens : ts ≡ word_at y.place as_word ∷ name_at n.first.place n.middle ∷ [] =
        y.tokens ∙ ap (λ xs. word_at y.place as_word ∷ xs) (only_front y.rest n.front n.rest n.tokens n.second.none ∙ n.first.tokens) in
        subst (SpellsAs ts) n.second.same (subst (λ xs. SpellsAs xs (some_name n.middle)) (sym tokens) (as_name y.place n.first.place n.middle))

-- an item, wherever it says that it stands
record ItemAt (i : ℕ) (ts : List PlacedToken) (x : ItemSyntax) : Type 0 where
  place : x.place ≡ i
  front : List PlacedToken
  rest : List PlacedToken
  tokens : ts ≡ front ++ rest
  term : SpellsTerm front x.term
  names : SpellsAs rest x.name

abbrev item_of : ℕ → TermSyntax → Option (List ℕ) → ItemSyntax
item_of i t n = record { place = i; term = t; name = n }

abbrev NamedItem : ℕ → TermSyntax → List PlacedToken → ItemSyntax → Type 0
NamedItem i t = Seq (Option (List ℕ)) ItemSyntax SpellsAs (λ n. Nothing ItemSyntax (item_of i t n))

fills_named_item : (i : ℕ) (t : TermSyntax) → Filled ItemSyntax (NamedItem i t)
fills_named_item i t = fills_seq SpellsAs (λ n. Nothing ItemSyntax (item_of i t n)) (record { tokens = []; value = None; spelled = no_as }) (λ n. fills_nothing (item_of i t n))

item_parts : (i : ℕ) (ts : List PlacedToken) (x : ItemSyntax) → Seq TermSyntax ItemSyntax SpellsTerm (NamedItem i) ts x → ItemAt i ts x
item_parts i ts x y =
    let n = y.second in
    subst (ItemAt i ts) n.second.same (record {
      place = refl;
      front = y.front;
      rest = n.front;
      tokens = y.tokens ∙ ap (λ xs. y.front ++ xs) (only_front y.rest n.front n.rest n.tokens n.second.none);
      term = y.first;
      names = n.first;
    })

-- what is spelled has a first token
begun_before : (ts us : List PlacedToken) (t : PlacedToken) → Begun (ts ++ t ∷ us)
begun_before [] us t = record { first = t; others = us; tokens = refl }
begun_before (s ∷ ts) us t = record { first = s; others = ts ++ t ∷ us; tokens = refl }

mutual
  begun_expression : (ts : List PlacedToken) (e : ExpressionSyntax) → SpellsExpression ts e → Begun ts
  begun_expression _ _ (one_and ts e s) = begun_and ts e s
  begun_expression _ _ (or_and i ts us a b r s) = begun_before ts us (word_at i _)

  begun_and : (ts : List PlacedToken) (e : ExpressionSyntax) → SpellsAnd ts e → Begun ts
  begun_and _ _ (one_not ts e s) = begun_not ts e s
  begun_and _ _ (and_not i ts us a b r s) = begun_before ts us (word_at i _)

  begun_not : (ts : List PlacedToken) (e : ExpressionSyntax) → SpellsNot ts e → Begun ts
  begun_not _ _ (not_not i ts e s) = record { first = word_at i _; others = ts; tokens = refl }
  begun_not _ _ (one_test ts e s) = begun_test ts e s

  begun_test : (ts : List PlacedToken) (e : ExpressionSyntax) → SpellsTest ts e → Begun ts
  begun_test _ _ (one_sum ts e s) = begun_sum ts e s
  begun_test _ _ (compared_sums i g c ts us a b k r s) = begun_before ts us (sign_at i g)
  begun_test _ _ (like_text i j ts e t s) = begun_before ts _ (word_at i _)
  begun_test _ _ (not_like_text h i j ts e t s) = begun_before ts _ (word_at h _)
  begun_test _ _ (contains_text i j ts e t s) = begun_before ts _ (word_at i _)
  begun_test _ _ (not_contains_text h i j ts e t s) = begun_before ts _ (word_at h _)
  begun_test _ _ (is_null_word i j ts e s) = begun_before ts _ (word_at i _)
  begun_test _ _ (is_not_null i j k ts e s) = begun_before ts _ (word_at i _)

  begun_sum : (ts : List PlacedToken) (e : ExpressionSyntax) → SpellsSum ts e → Begun ts
  begun_sum _ _ (one_product ts e s) = begun_product ts e s
  begun_sum _ _ (plus_product i ts us a b r s) = begun_before ts us (sign_at i _)
  begun_sum _ _ (minus_product i ts us a b r s) = begun_before ts us (sign_at i _)

  begun_product : (ts : List PlacedToken) (e : ExpressionSyntax) → SpellsProduct ts e → Begun ts
  begun_product _ _ (one_unary ts e s) = begun_unary ts e s
  begun_product _ _ (times_unary i ts us a b r s) = begun_before ts us (sign_at i _)

  begun_unary : (ts : List PlacedToken) (e : ExpressionSyntax) → SpellsUnary ts e → Begun ts
  begun_unary _ _ (minus_unary i ts e s) = record { first = sign_at i _; others = ts; tokens = refl }
  begun_unary _ _ (one_primary ts e s) = begun_primary ts e s

  begun_primary : (ts : List PlacedToken) (e : ExpressionSyntax) → SpellsPrimary ts e → Begun ts
  begun_primary _ _ (a_number i n) = record { first = _; others = _; tokens = refl }
  begun_primary _ _ (a_text i t) = record { first = _; others = _; tokens = refl }
  begun_primary _ _ (a_true i) = record { first = _; others = _; tokens = refl }
  begun_primary _ _ (a_false i) = record { first = _; others = _; tokens = refl }
  begun_primary _ _ (a_path ts p s) = record { first = s.0.0; others = s.0.1; tokens = s.0.2 }
  begun_primary _ _ (in_parentheses i j ts e s) = record { first = _; others = _; tokens = refl }

begun_term : (ts : List PlacedToken) (t : TermSyntax) → SpellsTerm ts t → Begun ts
begun_term _ _ (counted_rows h i j k ts w s) = record { first = _; others = _; tokens = refl }
begun_term _ _ (aggregated h i j v a ts us e w g r s) = record { first = _; others = _; tokens = refl }
begun_term _ _ (an_expression ts e s) = begun_expression ts e s

begun_item : (i : ℕ) (ts : List PlacedToken) (x : ItemSyntax) → ItemAt i ts x → Begun ts
begun_item i ts x y =
    let b = begun_term y.front x.term y.term in
    record { first = b.first; others = b.others ++ y.rest; tokens = y.tokens ∙ ap (λ xs. xs ++ y.rest) b.tokens }

item_all : (i : ℕ) (ts : List PlacedToken) (x : ItemSyntax) → BeginsAt i ts → ItemAt i ts x → SpellsItem ts x
item_all i ts x at y =
    let b = begun_term y.front x.term y.term in
    let all : at.0 ∷ at.1 ≡ b.first ∷ (b.others ++ y.rest) = sym at.2 ∙ (y.tokens ∙ ap (λ xs. xs ++ y.rest) b.tokens) in
    let first : at.0 ≡ b.first = cc in
    (y.front, y.rest, y.tokens, (b.first, b.others, b.tokens, sym (ap (λ (t : PlacedToken). t.place) first) ∙ (at.3 ∙ sym y.place)), y.term, y.names)

pub item_goes : (u : Unread) → Outcome ItemSyntax SpellsItem u (item u)
item_goes u = begun ItemAt SpellsItem begun_item
    (λ i j ts x y. (item_of j x.term x.name, record { place = refl; front = y.front; rest = y.rest; tokens = y.tokens; term = y.term; names = y.names })) item_all u (item u)
    (weaker (Seq TermSyntax ItemSyntax SpellsTerm (NamedItem (place_of u))) (ItemAt (place_of u)) u (item u) (item_parts (place_of u))
    (seq SpellsTerm (NamedItem (place_of u)) u (item_term u) (λ t. as_part >>= (λ n. give (item_of (place_of u) t n))) (fills_named_item (place_of u))
    (λ t v. seq SpellsAs (λ n. Nothing ItemSyntax (item_of (place_of u) t n)) v (as_part v) (λ n. give (item_of (place_of u) t n)) (λ n. fills_nothing (item_of (place_of u) t n))
    (λ n w. gives (item_of (place_of u) t n) w) (as_goes v))
    (term_goes u)))

pub fills_item : Filled ItemSyntax SpellsItem
fills_item =
    let e = fills_expression in
    let b = begun_expression e.tokens e.value e.spelled in
    record {
      tokens = e.tokens;
      value = item_of b.first.place (expression e.value) None;
      spelled = (e.tokens, [], sym (append-nil e.tokens), (b.first, b.others, b.tokens, refl), an_expression e.tokens e.value e.spelled, no_as);
    }

-- an item that this token begins
expression_begun : (t : PlacedToken) (vs : List PlacedToken) (e : ExpressionSyntax) → SpellsExpression (t ∷ vs) e → BegunWith ItemSyntax SpellsItem t
expression_begun t vs e s = (
  record {
    tokens = t ∷ vs;
    value = item_of t.place (expression e) None;
    spelled = (t ∷ vs, [], sym (append-nil (t ∷ vs)), (t, vs, refl, refl), an_expression (t ∷ vs) e s, no_as);
  },
  vs,
  refl,
)

of_not : (ts : List PlacedToken) (e : ExpressionSyntax) → SpellsNot ts e → SpellsExpression ts e
of_not ts e s = one_and ts e (one_not ts e s)

of_unary : (ts : List PlacedToken) (e : ExpressionSyntax) → SpellsUnary ts e → SpellsExpression ts e
of_unary ts e s = of_not ts e (one_test ts e (one_sum ts e (one_product ts e (one_unary ts e s))))

primary_begun : (t : PlacedToken) (vs : List PlacedToken) (e : ExpressionSyntax) → SpellsPrimary (t ∷ vs) e → BegunWith ItemSyntax SpellsItem t
primary_begun t vs e s = expression_begun t vs e (of_unary (t ∷ vs) e (one_primary (t ∷ vs) e s))

aggregate_begun : (i : ℕ) (w : Word) (a : Aggregate) → IsAggregate w a → BegunWith ItemSyntax SpellsItem (word_at i w)
aggregate_begun i w a h =
    let e = fills_expression in
    let vs : List PlacedToken = sign_at 0 open_parenthesis ∷ (e.tokens ++ sign_at 0 close_parenthesis ∷ []) in (
      record {
        tokens = word_at i w ∷ vs;
        value = item_of i (aggregate a e.value None) None;
        spelled = (word_at i w ∷ vs, [], sym (append-nil (word_at i w ∷ vs)), (word_at i w, vs, refl, refl), aggregated i 0 0 w a e.tokens [] e.value None h e.spelled no_within, no_as);
      },
      vs,
      refl,
    )

token_begun : (i : ℕ) (t : QueryToken) → begins_item t ≡ true → BegunWith ItemSyntax SpellsItem (placed i t)
token_begun i (number n) h = primary_begun (placed i (number n)) [] (number_literal n) (a_number i n)
token_begun i (text s) h = primary_begun (placed i (text s)) [] (text_literal s) (a_text i s)
token_begun i (identifier n) h = primary_begun (name_at i n) [] (path (path_of i (n ∷ []))) (a_path (name_at i n ∷ []) (path_of i (n ∷ [])) ((name_at i n, [], refl, refl), first_name i n))
token_begun i (reserved true_word) h = primary_begun (word_at i true_word) [] (truth_literal true) (a_true i)
token_begun i (reserved false_word) h = primary_begun (word_at i false_word) [] (truth_literal false) (a_false i)
token_begun i (reserved not_word) h = let x = opens_not i in expression_begun (word_at i not_word) _ x.value (of_not x.tokens x.value x.spelled)
token_begun i (reserved count_word) h = aggregate_begun i count_word count is_count
token_begun i (reserved sum_word) h = aggregate_begun i sum_word sum is_sum
token_begun i (reserved min_word) h = aggregate_begun i min_word least is_least
token_begun i (reserved max_word) h = aggregate_begun i max_word greatest is_greatest
token_begun i (reserved w) h = absurd (cc h)
token_begun i (sign open_parenthesis) h = let x = opens_parenthesis i in primary_begun (sign_at i open_parenthesis) _ x.value x.spelled
token_begun i (sign minus_sign) h = let x = opens_sign i in expression_begun (sign_at i minus_sign) _ x.value (of_unary x.tokens x.value x.spelled)
token_begun i (sign g) h = absurd (cc h)
token_begun i bad h = absurd (cc h)

pub item_begun : (t : PlacedToken) → begins_item t.token ≡ true → BegunWith ItemSyntax SpellsItem t
item_begun t h = token_begun t.place t.token h

-- a key that this token begins
name_begun : (i : ℕ) (t : QueryToken) → begins_key t ≡ true → BegunWith PathSyntax SpellsPath (placed i t)
name_begun i (identifier n) h = (record { tokens = name_at i n ∷ []; value = path_of i (n ∷ []); spelled = ((name_at i n, [], refl, refl), first_name i n) }, [], refl)
name_begun i t h = absurd (cc h)

pub key_begun : (t : PlacedToken) → begins_key t.token ≡ true → BegunWith PathSyntax SpellsPath t
key_begun t h = name_begun t.place t.token h

-- ---- lists

abbrev pub ElementsMore : (A : Type 0) → (List PlacedToken → A → Type 0) → List A → List PlacedToken → List A → Type 0
ElementsMore A S xs ws ys = (us : List PlacedToken) → Separated A S us xs → Separated A S (us ++ ws) ys

pub no_elements : (A : Type 0) (S : List PlacedToken → A → Type 0) (xs : List A) (ws : List PlacedToken) (ys : List A) → Nothing (List A) xs ws ys → ElementsMore A S xs ws ys
no_elements A S xs ws ys x us s = subst (Separated A S (us ++ ws)) x.same (subst (λ zs. Separated A S zs xs) (sym (ap (λ zs. us ++ zs) x.none ∙ append-nil us)) s)

abbrev fills_elements : (A : Type 0) (S : List PlacedToken → A → Type 0) (xs : List A) → Filled (List A) (ElementsMore A S xs)
fills_elements A S xs = record { tokens = []; value = xs; spelled = no_elements A S xs [] xs (record { none = refl; same = refl }) }

abbrev pub ElementAndMore : (A : Type 0) → (List PlacedToken → A → Type 0) → List A → ℕ → List PlacedToken → List A → Type 0
ElementAndMore A S xs i = Seq A (List A) S (λ x. ElementsMore A S (xs ++ x ∷ []))

pub comma_all : (A : Type 0) (S : List PlacedToken → A → Type 0) (xs : List A) (ts : List PlacedToken) (ys : List A) → Behind (List A) (sign comma) (ElementAndMore A S xs) ts ys → ElementsMore A S xs ts ys
comma_all A S xs ts ys x us s =
    let y = x.second in
    let front = sign_at x.place comma ∷ y.front in
    let tokens : ts ≡ front ++ y.rest = x.tokens ∙ ap (λ zs. sign_at x.place comma ∷ zs) y.tokens in
    let all = y.second (us ++ front) (and_one x.place us y.front xs y.middle s y.first) in
    subst (λ zs. Separated A S zs ys) (append_assoc us front y.rest ∙ ap (λ zs. us ++ zs) (sym tokens)) all

abbrev fills_comma : (A : Type 0) (S : List PlacedToken → A → Type 0) → Filled A S → (xs : List A) (i : ℕ) → Filled (List A) (ElementAndMore A S xs i)
fills_comma A S fill xs i = fills_seq S (λ x. ElementsMore A S (xs ++ x ∷ [])) fill (λ x. fills_elements A S (xs ++ x ∷ []))

-- a token that begins an element
abbrev Beginning : (A : Type 0) → (List PlacedToken → A → Type 0) → (QueryToken → Bool) → Type 0
Beginning A S begins = (t : PlacedToken) → begins t.token ≡ true → BegunWith A S t

too_many_elements : (A : Type 0) (S : List PlacedToken → A → Type 0) (begins : QueryToken → Bool) → Beginning A S begins → (xs : List A) (i : ℕ) (v : Unread) → NextToken begins v
    → Outcome (List A) (ElementAndMore A S xs i) v (problem_here too_many v)
too_many_elements A S begins some xs i v m =
    let b = some m.first m.passes_it in
    stops_here (ElementAndMore A S xs i) too_many v (fills_comma A S b.0 xs i) (m.first, m.rest, b.1 ++ [], m.tokens, ap (λ ws. ws ++ []) b.2)

elements_go : (A : Type 0) (S : List PlacedToken → A → Type 0) (begins : QueryToken → Bool) (element : Production A) → Beginning A S begins → Filled A S → ((u : Unread) → Outcome A S u (element u)) → (k : ℕ) (xs : List A)
    (u : Unread) → Outcome (List A) (ElementsMore A S xs) u (further_elements begins element k xs u)
elements_go A S begins element some fill goes zero xs u =
    if_outcome (ElementsMore A S xs) (is_the_sign comma) (any_token >>= (λ _. too_many_of begins)) (give xs) u
    (λ n. weaker (Behind (List A) (sign comma) (ElementAndMore A S xs)) (ElementsMore A S xs) u ((any_token >>= (λ _. too_many_of begins)) u) (comma_all A S xs)
    (one_seq (sign comma) (ElementAndMore A S xs) u (any_token u) (λ _. too_many_of begins) (fills_comma A S fill xs)
    (λ i v. if_outcome (ElementAndMore A S xs i) begins (problem_here too_many) (problem_here syntax) v (too_many_elements A S begins some xs i v)
    (stops_here (ElementAndMore A S xs i) syntax v (fills_comma A S fill xs i) tt))
    (known_sign comma u n)))
    (weaker (Nothing (List A) xs) (ElementsMore A S xs) u (give xs u) (no_elements A S xs) (gives xs u))
elements_go A S begins element some fill goes (suc k) xs u =
    if_outcome (ElementsMore A S xs) (is_the_sign comma) (any_token >>= (λ _. element >>= (λ x. further_elements begins element k (xs ++ x ∷ [])))) (give xs) u
    (λ n. weaker (Behind (List A) (sign comma) (ElementAndMore A S xs)) (ElementsMore A S xs) u ((any_token >>= (λ _. element >>= (λ x. further_elements begins element k (xs ++ x ∷ [])))) u)
    (comma_all A S xs)
    (one_seq (sign comma) (ElementAndMore A S xs) u (any_token u) (λ _. element >>= (λ x. further_elements begins element k (xs ++ x ∷ []))) (fills_comma A S fill xs)
    (λ i v. seq S (λ x. ElementsMore A S (xs ++ x ∷ [])) v (element v) (λ x. further_elements begins element k (xs ++ x ∷ [])) (λ x. fills_elements A S (xs ++ x ∷ []))
    (λ x w. elements_go A S begins element some fill goes k (xs ++ x ∷ []) w) (goes v))
    (known_sign comma u n)))
    (weaker (Nothing (List A) xs) (ElementsMore A S xs) u (give xs u) (no_elements A S xs) (gives xs u))

elements_outcome : (A : Type 0) (S : List PlacedToken → A → Type 0) (begins : QueryToken → Bool) (element : Production A) → Beginning A S begins → Filled A S → ((u : Unread) → Outcome A S u (element u)) → (n : ℕ) (u : Unread)
    → Outcome (List A) (Separated A S) u (elements begins element n u)
elements_outcome A S begins element some fill goes n u = weaker (Seq A (List A) S (λ x. ElementsMore A S (x ∷ []))) (Separated A S) u (elements begins element n u)
    (λ ts ys x. subst (λ zs. Separated A S zs ys) (sym x.tokens) (x.second x.front (alone x.front x.middle x.first)))
    (seq S (λ x. ElementsMore A S (x ∷ [])) u (element u) (λ x. further_elements begins element n (x ∷ [])) (λ x. fills_elements A S (x ∷ [])) (λ x v. elements_go A S begins element some fill goes n (x ∷ []) v) (goes u))

pub items_go : (u : Unread) → Outcome (List ItemSyntax) (Separated ItemSyntax SpellsItem) u (items u)
unfolding items
items_go u = elements_outcome ItemSyntax SpellsItem begins_item item item_begun fills_item item_goes (most_items - 1) u

keys_go : (u : Unread) → Outcome (List PathSyntax) (Separated PathSyntax SpellsPath) u (keys u)
unfolding keys
keys_go u = elements_outcome PathSyntax SpellsPath begins_key path_names key_begun fills_path path_outcome (most_items - 1) u

-- ---- clauses

-- the table's name, wherever it says that it stands
record TableAt (i : ℕ) (ts : List PlacedToken) (t : NameSyntax) : Type 0 where
  place : t.place ≡ i
  at : ℕ
  tokens : ts ≡ name_at at t.name ∷ []

abbrev pub TableIs : List PlacedToken → NameSyntax → Type 0
TableIs ts t = ts ≡ name_at t.place t.name ∷ []

abbrev pub table_of : ℕ → List ℕ → NameSyntax
table_of i n = record { place = i; name = n }

table_parts : (i : ℕ) (ts : List PlacedToken) (t : NameSyntax) → Seq (List ℕ) NameSyntax IsName (λ n. Nothing NameSyntax (table_of i n)) ts t → TableAt i ts t
table_parts i ts t x =
    subst (TableAt i ts) x.second.same (record { place = refl; at = x.first.place; tokens = only_front ts x.front x.rest x.tokens x.second.none ∙ x.first.tokens })

table_all : (i : ℕ) (ts : List PlacedToken) (t : NameSyntax) → BeginsAt i ts → TableAt i ts t → TableIs ts t
table_all i ts t b x =
    let all : b.0 ∷ b.1 ≡ name_at x.at t.name ∷ [] = sym b.2 ∙ x.tokens in
    let first : b.0 ≡ name_at x.at t.name = cc in
    let place : x.at ≡ t.place = sym (ap (λ (s : PlacedToken). s.place) first) ∙ (b.3 ∙ sym x.place) in
    x.tokens ∙ ap (λ i. name_at i t.name ∷ []) place

pub table_goes : (u : Unread) → Outcome NameSyntax TableIs u (table_name u)
table_goes u = begun TableAt TableIs (λ i ts t x. record { first = name_at x.at t.name; others = []; tokens = x.tokens })
    (λ i j ts t x. (table_of j t.name, record { place = refl; at = x.at; tokens = x.tokens })) table_all u (table_name u)
    (weaker (Seq (List ℕ) NameSyntax IsName (λ n. Nothing NameSyntax (table_of (place_of u) n))) (TableAt (place_of u)) u (table_name u) (table_parts (place_of u))
    (seq IsName (λ n. Nothing NameSyntax (table_of (place_of u) n)) u (name u) (λ n. give (table_of (place_of u) n)) (λ n. fills_nothing (table_of (place_of u) n))
    (λ n v. gives (table_of (place_of u) n) v) (name_outcome u)))

abbrev condition_of : ℕ → ExpressionSyntax → Option ConditionSyntax
condition_of i e = Some (record { place = i; expression = e })

-- a condition, wherever it says that it stands
record ConditionAt (i : ℕ) (ts : List PlacedToken) (c : Option ConditionSyntax) : Type 0 where
  value : ExpressionSyntax
  same : condition_of i value ≡ c
  spelled : SpellsExpression ts value

abbrev WhereTail : ℕ → List PlacedToken → Option ConditionSyntax → Type 0
WhereTail i ts c = SpellsWhere (word_at i where_word ∷ ts) c

condition_parts : (j : ℕ) (ts : List PlacedToken) (c : Option ConditionSyntax) → Seq ExpressionSyntax (Option ConditionSyntax) SpellsExpression (λ e. Nothing (Option ConditionSyntax) (condition_of j e)) ts c
    → ConditionAt j ts c
condition_parts j ts c x =
    record { value = x.middle; same = x.second.same; spelled = subst (λ xs. SpellsExpression xs x.middle) (sym (only_front ts x.front x.rest x.tokens x.second.none)) x.first }

condition_goes : (i : ℕ) (u : Unread) → Outcome (Option ConditionSyntax) (WhereTail i) u ((here >>= (λ j. whole_expression >>= (λ e. give (condition_of j e)))) u)
condition_goes i u = begun ConditionAt (WhereTail i) (λ j ts c x. begun_expression ts x.value x.spelled)
    (λ j k ts c x. (condition_of k x.value, record { value = x.value; same = refl; spelled = x.spelled }))
    (λ j ts c b x. subst (WhereTail i ts) x.same (where_expression i j ts x.value b x.spelled)) u ((here >>= (λ j. whole_expression >>= (λ e. give (condition_of j e)))) u)
    (weaker (Seq ExpressionSyntax (Option ConditionSyntax) SpellsExpression (λ e. Nothing (Option ConditionSyntax) (condition_of (place_of u) e))) (ConditionAt (place_of u)) u
    ((here >>= (λ j. whole_expression >>= (λ e. give (condition_of j e)))) u) (condition_parts (place_of u))
    (seq SpellsExpression (λ e. Nothing (Option ConditionSyntax) (condition_of (place_of u) e)) u (whole_expression u) (λ e. give (condition_of (place_of u) e))
    (λ e. fills_nothing (condition_of (place_of u) e)) (λ e v. gives (condition_of (place_of u) e) v) (whole_goes u)))

fills_condition : (i : ℕ) → Filled (Option ConditionSyntax) (WhereTail i)
fills_condition i =
    let e = fills_expression in
    let b = begun_expression e.tokens e.value e.spelled in
    record {
      tokens = e.tokens;
      value = condition_of b.first.place e.value;
      spelled = where_expression i b.first.place e.tokens e.value (b.first, b.others, b.tokens, refl) e.spelled;
    }

pub where_goes : (u : Unread) → Outcome (Option ConditionSyntax) SpellsWhere u (where_part u)
where_goes u = if_outcome SpellsWhere (is_the_word where_word) (any_token >>= (λ _. here >>= (λ j. whole_expression >>= (λ e. give (condition_of j e))))) (give None) u
    (λ n. weaker (Behind (Option ConditionSyntax) (reserved where_word) WhereTail) SpellsWhere u ((any_token >>= (λ _. here >>= (λ j. whole_expression >>= (λ e. give (condition_of j e))))) u)
    (λ ts c x. subst (λ xs. SpellsWhere xs c) (sym x.tokens) x.second)
    (one_seq (reserved where_word) WhereTail u (any_token u) (λ _. here >>= (λ j. whole_expression >>= (λ e. give (condition_of j e)))) fills_condition condition_goes (known_word where_word u n)))
    (weaker (Nothing (Option ConditionSyntax) None) SpellsWhere u (give None u) (nothing_is SpellsWhere None no_where) (gives None u))

abbrev ByTail : ℕ → List PlacedToken → List PathSyntax → Type 0
ByTail i = Behind (List PathSyntax) (reserved by_word) (λ j. Separated PathSyntax SpellsPath)

fills_keys : Filled (List PathSyntax) (Separated PathSyntax SpellsPath)
fills_keys = let p = fills_path in record { tokens = p.tokens; value = p.value ∷ []; spelled = alone p.tokens p.value p.spelled }

group_all : (ts : List PlacedToken) (ks : List PathSyntax) → Behind (List PathSyntax) (reserved group_word) ByTail ts ks → SpellsGroup ts ks
group_all ts ks x =
    let y = x.second in
    subst (λ xs. SpellsGroup xs ks) (sym (x.tokens ∙ ap (λ xs. word_at x.place group_word ∷ xs) y.tokens)) (group_by x.place y.place y.rest ks y.second)

group_goes : (u : Unread) → Outcome (List PathSyntax) SpellsGroup u (group_part u)
group_goes u = if_outcome SpellsGroup (is_the_word group_word) (any_token >>= (λ _. word by_word >>= (λ _. keys))) (give []) u
    (λ n. weaker (Behind (List PathSyntax) (reserved group_word) ByTail) SpellsGroup u ((any_token >>= (λ _. word by_word >>= (λ _. keys))) u) group_all
    (one_seq (reserved group_word) ByTail u (any_token u) (λ _. word by_word >>= (λ _. keys)) (λ i. fills_one (reserved by_word) (λ j. Separated PathSyntax SpellsPath) fills_keys)
    (λ i v. one_seq (reserved by_word) (λ j. Separated PathSyntax SpellsPath) v (word by_word v) (λ _. keys) (λ j. fills_keys) (λ j w. keys_go w) (word_outcome by_word v))
    (known_word group_word u n)))
    (weaker (Nothing (List PathSyntax) []) SpellsGroup u (give [] u) (nothing_is SpellsGroup [] no_group) (gives [] u))

-- the end, for its place
abbrev EndIs : List PlacedToken → ℕ → Type 0
EndIs ts i = SpellsEnd ts

abbrev TextEnds : ℕ → List PlacedToken → ℕ → Type 0
TextEnds i ts j = ts ≡ []

text_end_by : (ts : List PlacedToken) (n k i : ℕ) → Outcome ℕ (TextEnds i) (record { tokens = ts; size = n; operators = k }) (text_end (record { tokens = ts; size = n; operators = k }))
text_end_by [] n k i = reads [] (record { tokens = []; size = n; operators = k }) n refl refl refl
text_end_by (t ∷ ts) n k i = stops_here (TextEnds i) syntax (record { tokens = t ∷ ts; size = n; operators = k }) (record { tokens = []; value = 0; spelled = refl }) tt

text_end_goes : (i : ℕ) (u : Unread) → Outcome ℕ (TextEnds i) u (text_end u)
text_end_goes i u = text_end_by u.tokens u.size u.operators i

end_goes : (u : Unread) → Outcome ℕ EndIs u (end_part u)
end_goes u = if_outcome EndIs (is_the_sign semicolon) (any_token >>= (λ _. text_end)) text_end u
    (λ n. weaker (Behind ℕ (sign semicolon) TextEnds) EndIs u ((any_token >>= (λ _. text_end)) u)
    (λ ts i x. subst SpellsEnd (sym (x.tokens ∙ ap (λ xs. sign_at x.place semicolon ∷ xs) x.second)) (a_semicolon x.place))
    (one_seq (sign semicolon) TextEnds u (any_token u) (λ _. text_end) (λ i. record { tokens = []; value = 0; spelled = refl }) text_end_goes (known_sign semicolon u n)))
    (weaker (TextEnds 0) EndIs u (text_end u) (λ ts i e. subst SpellsEnd (sym e) no_semicolon) (text_end_goes 0 u))

-- ---- queries

abbrev pub tree_of : List ItemSyntax → NameSyntax → Option ConditionSyntax → List PathSyntax → QuerySyntax
tree_of xs t c ks = record { items = xs; table = t; condition = c; keys = ks }

abbrev pub AfterKeys : List ItemSyntax → NameSyntax → Option ConditionSyntax → List PathSyntax → List PlacedToken → QuerySyntax → Type 0
AfterKeys xs t c ks = Seq ℕ QuerySyntax EndIs (λ i. Nothing QuerySyntax (tree_of xs t c ks))

abbrev AfterWhere : List ItemSyntax → NameSyntax → Option ConditionSyntax → List PlacedToken → QuerySyntax → Type 0
AfterWhere xs t c = Seq (List PathSyntax) QuerySyntax SpellsGroup (AfterKeys xs t c)

abbrev AfterTable : List ItemSyntax → NameSyntax → List PlacedToken → QuerySyntax → Type 0
AfterTable xs t = Seq (Option ConditionSyntax) QuerySyntax SpellsWhere (AfterWhere xs t)

abbrev AfterFrom : List ItemSyntax → ℕ → List PlacedToken → QuerySyntax → Type 0
AfterFrom xs i = Seq NameSyntax QuerySyntax TableIs (AfterTable xs)

abbrev AfterItems : List ItemSyntax → List PlacedToken → QuerySyntax → Type 0
AfterItems xs = Behind QuerySyntax (reserved from_word) (AfterFrom xs)

abbrev AfterSelect : ℕ → List PlacedToken → QuerySyntax → Type 0
AfterSelect h = Seq (List ItemSyntax) QuerySyntax (Separated ItemSyntax SpellsItem) AfterItems

pub fills_keys_on : (xs : List ItemSyntax) (t : NameSyntax) (c : Option ConditionSyntax) (ks : List PathSyntax) → Filled QuerySyntax (AfterKeys xs t c ks)
fills_keys_on xs t c ks = fills_seq EndIs (λ i. Nothing QuerySyntax (tree_of xs t c ks)) (record { tokens = []; value = 0; spelled = no_semicolon }) (λ i. fills_nothing (tree_of xs t c ks))

fills_where_on : (xs : List ItemSyntax) (t : NameSyntax) (c : Option ConditionSyntax) → Filled QuerySyntax (AfterWhere xs t c)
fills_where_on xs t c = fills_seq SpellsGroup (AfterKeys xs t c) (record { tokens = []; value = []; spelled = no_group }) (fills_keys_on xs t c)

fills_table_on : (xs : List ItemSyntax) (t : NameSyntax) → Filled QuerySyntax (AfterTable xs t)
fills_table_on xs t = fills_seq SpellsWhere (AfterWhere xs t) (record { tokens = []; value = None; spelled = no_where }) (fills_where_on xs t)

fills_from_on : (xs : List ItemSyntax) (i : ℕ) → Filled QuerySyntax (AfterFrom xs i)
fills_from_on xs i = fills_seq TableIs (AfterTable xs) (record { tokens = name_at 0 (97 ∷ []) ∷ []; value = table_of 0 (97 ∷ []); spelled = refl }) (fills_table_on xs)

fills_items_on : (xs : List ItemSyntax) → Filled QuerySyntax (AfterItems xs)
fills_items_on xs = fills_one (reserved from_word) (AfterFrom xs) (fills_from_on xs 0)

fills_items : Filled (List ItemSyntax) (Separated ItemSyntax SpellsItem)
fills_items = let x = fills_item in record { tokens = x.tokens; value = x.value ∷ []; spelled = alone x.tokens x.value x.spelled }

pub keys_on : (xs : List ItemSyntax) (t : NameSyntax) (c : Option ConditionSyntax) (ks : List PathSyntax) (u : Unread)
    → Outcome QuerySyntax (AfterKeys xs t c ks) u ((end_part >>= (λ _. give (tree_of xs t c ks))) u)
keys_on xs t c ks u = seq EndIs (λ i. Nothing QuerySyntax (tree_of xs t c ks)) u (end_part u) (λ _. give (tree_of xs t c ks)) (λ i. fills_nothing (tree_of xs t c ks)) (λ i v. gives (tree_of xs t c ks) v) (end_goes u)

where_on : (xs : List ItemSyntax) (t : NameSyntax) (c : Option ConditionSyntax) (u : Unread)
    → Outcome QuerySyntax (AfterWhere xs t c) u ((group_part >>= (λ ks. end_part >>= (λ _. give (tree_of xs t c ks)))) u)
where_on xs t c u = seq SpellsGroup (AfterKeys xs t c) u (group_part u) (λ ks. end_part >>= (λ _. give (tree_of xs t c ks))) (fills_keys_on xs t c) (keys_on xs t c) (group_goes u)

-- what stands behind the table's name
abbrev behind_table : List ItemSyntax → NameSyntax → Production QuerySyntax
behind_table xs t = where_part >>= (λ c. group_part >>= (λ ks. end_part >>= (λ _. give (tree_of xs t c ks))))

table_on : (xs : List ItemSyntax) (t : NameSyntax) (u : Unread) → Outcome QuerySyntax (AfterTable xs t) u (behind_table xs t u)
table_on xs t u = seq SpellsWhere (AfterWhere xs t) u (where_part u) (λ c. group_part >>= (λ ks. end_part >>= (λ _. give (tree_of xs t c ks)))) (fills_where_on xs t) (where_on xs t) (where_goes u)

from_on : (xs : List ItemSyntax) (i : ℕ) (u : Unread) → Outcome QuerySyntax (AfterFrom xs i) u ((table_name >>= behind_table xs) u)
from_on xs i u = seq TableIs (AfterTable xs) u (table_name u) (behind_table xs) (fills_table_on xs) (table_on xs) (table_goes u)

items_on : (xs : List ItemSyntax) (u : Unread) → Outcome QuerySyntax (AfterItems xs) u ((word from_word >>= (λ _. table_name >>= behind_table xs)) u)
items_on xs u = one_seq (reserved from_word) (AfterFrom xs) u (word from_word u) (λ _. table_name >>= behind_table xs) (fills_from_on xs) (from_on xs) (word_outcome from_word u)

query_all : (ts : List PlacedToken) (q : QuerySyntax) → Behind QuerySyntax (reserved select_word) AfterSelect ts q → SpellsQuery ts q
query_all ts q a =
    let b = a.second in
    let c = b.second in
    let d = c.second in
    let e = d.second in
    let f = e.second in
    let g = f.second in
    let t = d.middle in
    let end : f.rest ≡ g.front = only_front f.rest g.front g.rest g.tokens g.second.none in
    let clauses : d.rest ≡ e.front ++ (f.front ++ g.front) = e.tokens ∙ ap (λ xs. e.front ++ xs) (f.tokens ∙ ap (λ xs. f.front ++ xs) end) in
    let from : c.rest ≡ name_at t.place t.name ∷ (e.front ++ (f.front ++ g.front)) = d.tokens ∙ ap₂ (λ xs ys. xs ++ ys) d.first clauses in
    let all : ts ≡ word_at a.place select_word ∷ (b.front ++ word_at c.place from_word ∷ name_at t.place t.name ∷ (e.front ++ (f.front ++ g.front))) =
    a.tokens ∙ ap (λ xs. word_at a.place select_word ∷ xs) (b.tokens ∙ ap (λ xs. b.front ++ xs) (c.tokens ∙ ap (λ xs. word_at c.place from_word ∷ xs) from)) in
    let whole = a_query a.place c.place t.place t.name b.front e.front f.front g.front b.middle e.middle f.middle b.first e.first f.first g.first in
    subst (SpellsQuery ts) g.second.same (subst (λ xs. SpellsQuery xs (tree_of b.middle t e.middle f.middle)) (sym all) whole)

query_goes : (u : Unread) → Outcome QuerySyntax SpellsQuery u (query u)
query_goes u = weaker (Behind QuerySyntax (reserved select_word) AfterSelect) SpellsQuery u (query u) query_all
    (one_seq (reserved select_word) AfterSelect u (word select_word u) (λ _. items >>= (λ xs. word from_word >>= (λ _. table_name >>= behind_table xs)))
    (λ h. fills_seq (Separated ItemSyntax SpellsItem) AfterItems fills_items fills_items_on)
    (λ h v. seq (Separated ItemSyntax SpellsItem) AfterItems v (items v) (λ xs. word from_word >>= (λ _. table_name >>= behind_table xs)) fills_items_on items_on (items_go v))
    (word_outcome select_word u))

-- ---- the law

record FaultAt (u : Unread) (f : QueryFault) : Type 0 where
  before : List PlacedToken
  rest : List PlacedToken
  more : List PlacedToken
  tree : QuerySyntax
  tokens : u.tokens ≡ before ++ rest
  place : first_place u.size rest ≡ f.place
  spelled : SpellsQuery (before ++ more) tree
  shared : Shared f.problem rest more

fault_at : (u : Unread) (p : Parsed QuerySyntax) (f : QueryFault) → Outcome QuerySyntax SpellsQuery u p → p ≡ refused f → FaultAt u f
fault_at u _ f (reads ts v a e z s) h = absurd (cc h)
fault_at u _ f (stops ts rest more a g e z s c) h =
    let k : g ≡ f = cc in
    record { before = ts; rest = rest; more = more; tree = a; tokens = e; place = z ∙ ap (λ (x : QueryFault). x.place) k; spelled = s; shared = subst (λ (x : QueryFault). Shared x.problem rest more) k c }

pub tokens_go_on : TokensBeforeFaultGoOn
unfolding parse_query
tokens_go_on bytes f at h = by_length (nat_lt longest_query (length bytes)) h
  where
    Goal : Type 0
    Goal = (before : List PlacedToken) × (rest : List PlacedToken) × (query_tokens bytes ≡ before ++ rest) × (first_place (length bytes) rest ≡ f.place)
        × ((us : List PlacedToken) × (q : QuerySyntax) × SpellsQuery (before ++ us) q)

    by_result : (p : Parsed QuerySyntax) → query (unread_text bytes) ≡ p → result_of p ≡ Err f → Goal
    by_result (got x v) e g = absurd (cc g)
    by_result (refused r) e g =
        let k : r ≡ f = cc in
        let x = fault_at (unread_text bytes) (query (unread_text bytes)) f (query_goes (unread_text bytes)) (e ∙ ap refused k) in
        (x.before, x.rest, x.tokens, x.place, (x.more, x.tree, x.spelled))

    by_length : (b : Bool) → (if b then Err (record { place = longest_query; problem = too_long }) else result_of (query (unread_text bytes))) ≡ Err f → Goal
    by_length true g = let k : record { place = longest_query; problem = too_long } ≡ f = cc in absurd (subst (λ (x : QueryFault). IsAtToken x.problem) (sym k) at)
    by_length false g = by_result (query (unread_text bytes)) refl g

-- the token that passes a limit
one_first_of : (p : QueryProblem) (rest more : List PlacedToken) → IsLimitAtToken p → Shared p rest more → OneFirst rest more
one_first_of too_long rest more l k = absurd l
one_first_of syntax rest more l k = absurd l
one_first_of too_deep rest more l k = k
one_first_of too_many rest more l k = k

pub no_dead_end : LimitIsNoDeadEnd
unfolding parse_query
no_dead_end bytes f at h = by_length (nat_lt longest_query (length bytes)) h
  where
    Goal : Type 0
    Goal = (before : List PlacedToken) × (t : PlacedToken) × (rest : List PlacedToken) × (query_tokens bytes ≡ before ++ t ∷ rest) × (t.place ≡ f.place)
        × ((us : List PlacedToken) × (q : QuerySyntax) × SpellsQuery ((before ++ t ∷ []) ++ us) q)

    by_fault : FaultAt (unread_text bytes) f → Goal
    by_fault x =
        let k = one_first_of f.problem x.rest x.more at x.shared in (
          x.before,
          k.0,
          k.1,
          x.tokens ∙ ap (λ ts. x.before ++ ts) k.3,
          sym (ap (first_place (length bytes)) k.3) ∙ x.place,
          (k.2, x.tree, subst (λ ts. SpellsQuery ts x.tree) (ap (λ ts. x.before ++ ts) k.4 ∙ sym (append_assoc x.before (k.0 ∷ []) k.2)) x.spelled),
        )

    by_result : (p : Parsed QuerySyntax) → query (unread_text bytes) ≡ p → result_of p ≡ Err f → Goal
    by_result (got x v) e g = absurd (cc g)
    by_result (refused r) e g =
        let k : r ≡ f = cc in
        by_fault (fault_at (unread_text bytes) (query (unread_text bytes)) f (query_goes (unread_text bytes)) (e ∙ ap refused k))

    by_length : (b : Bool) → (if b then Err (record { place = longest_query; problem = too_long }) else result_of (query (unread_text bytes))) ≡ Err f → Goal
    by_length true g = let k : record { place = longest_query; problem = too_long } ≡ f = cc in absurd (subst (λ (x : QueryFault). IsLimitAtToken x.problem) (sym k) at)
    by_length false g = by_result (query (unread_text bytes)) refl g
