-- What is open behind what the grammar spells, and before a token that opens a nesting: as many as are said to be.
use Rattle.std.specs.Prelude.{◌≡◌, ℕ, suc, ◌+◌, List, [], ◌∷◌, ◌++◌, length, true, false, Option}
use Rattle.std.proofs.Common.{refl, ap, ◌∙◌, arith}
use Rattle.dr_meaning.specs.Tokens.{Word, Sign, reserved, sign, dot, star, plus_sign, minus_sign, comma, open_parenthesis, close_parenthesis, and_word, or_word, not_word, like_word, contains_word, is_word}
use Rattle.dr_meaning.specs.Tokens.{null_word, from_word, where_word, PlacedToken}
use Rattle.dr_meaning.specs.Expression.{Comparison}
use Rattle.dr_meaning.specs.Query.{Aggregate}
use Rattle.dr_meaning.specs.Syntax.{ExpressionSyntax, WithinSyntax, TermSyntax, ItemSyntax}
use Rattle.dr_meaning.specs.Parse.{Nesting, parenthesized, negated, signed}
use Rattle.dr_meaning.specs.QueryGrammar.{word_at, sign_at, name_at, text_at, SpellsNames, first_name, further_name, IsComparison, is_equal, is_unequal, is_less, is_at_most, is_greater, is_at_least}
use Rattle.dr_meaning.specs.QueryGrammar.{SpellsExpression, one_and, or_and, SpellsAnd, one_not, and_not, SpellsNot, not_not, one_test, SpellsTest, one_sum, compared_sums, like_text, not_like_text}
use Rattle.dr_meaning.specs.QueryGrammar.{contains_text, not_contains_text, is_null_word, is_not_null, SpellsSum, one_product, plus_product, minus_product, SpellsProduct, one_unary, times_unary}
use Rattle.dr_meaning.specs.QueryGrammar.{SpellsUnary, minus_unary, one_primary, SpellsPrimary, a_number, a_text, a_true, a_false, a_path, in_parentheses, SpellsWithin, no_within, within_the_record}
use Rattle.dr_meaning.specs.QueryGrammar.{within_a_path, IsAggregate, is_count, is_sum, is_least, is_greatest, SpellsTerm, counted_rows, aggregated, an_expression, SpellsAs, no_as, as_name, SpellsItem}
use Rattle.dr_meaning.specs.QueryGrammar.{Separated, alone, and_one}
use Rattle.dr_query_laws.specs.LimitLaws.{BeforeItem, before_first_item, before_further_item}
use Rattle.dr_query_laws.specs.NestingLaws.{OpensInExpression, in_first_and, behind_or, OpensInAnd, in_first_not, behind_and, OpensInNot, not_itself, behind_not, in_test, OpensInTest, in_first_sum}
use Rattle.dr_query_laws.specs.NestingLaws.{behind_comparison, OpensInSum, in_first_product, behind_plus, behind_minus, OpensInProduct, in_first_unary, behind_star, OpensInUnary, sign_itself, behind_sign}
use Rattle.dr_query_laws.specs.NestingLaws.{parenthesis_itself, behind_parenthesis, OpensInItem, argument_itself, in_argument, in_expression, OpensInQuery, in_item, in_condition}
use Rattle.dr_query_laws.proofs.OpenStack.{ended, joined, without_top, State, at, step, run, run_from, opens, ended_twice}

-- ---- what is spelled

names_run : (ts : List PlacedToken) (ns : List (List ℕ)) → SpellsNames ts ns → (s : List Nesting) → run (at true s) ts ≡ at false (ended s)
names_run _ _ (first_name i n) s = refl
names_run _ _ (further_name i j ts ns n x) s = run_from (at true s) (at false (ended s)) ts (sign_at i dot ∷ name_at j n ∷ []) (names_run ts ns x s)

-- names behind what has ended
names_kept : (ts : List PlacedToken) (ns : List (List ℕ)) → SpellsNames ts ns → (s : List Nesting) → run (at false s) ts ≡ at false s
names_kept _ _ (first_name i n) s = refl
names_kept _ _ (further_name i j ts ns n x) s = run_from (at false s) (at false s) ts (sign_at i dot ∷ name_at j n ∷ []) (names_kept ts ns x s)

-- a comparison's sign
compares_on : (g : Sign) (c : Comparison) → IsComparison g c → (s : List Nesting) → step (at false s) (sign g) ≡ at true s
compares_on _ _ is_equal s = refl
compares_on _ _ is_unequal s = refl
compares_on _ _ is_less s = refl
compares_on _ _ is_at_most s = refl
compares_on _ _ is_greater s = refl
compares_on _ _ is_at_least s = refl

-- nothing but NOTs was left open
record Ends (x : State) (ts : List PlacedToken) (s : List Nesting) : Type 0 where
  opened : List Nesting
  ran : run x ts ≡ at false opened
  left : joined opened ≡ s

-- an operand behind another: the state before it, behind it
then_operand : (s : List Nesting) (t : PlacedToken) (ts us : List PlacedToken) → run (at true s) ts ≡ at false (ended s) → step (at false (ended s)) t.token ≡ at true (ended s)
    → run (at true (ended s)) us ≡ at false (ended (ended s)) → run (at true s) (ts ++ t ∷ us) ≡ at false (ended s)
then_operand s t ts us a b c = run_from (at true s) (at false (ended s)) ts (t ∷ us) a ∙ (ap (λ x. run x us) b ∙ (c ∙ ap (at false) (ended_twice s)))

mutual
  expression_run : (ts : List PlacedToken) (e : ExpressionSyntax) → SpellsExpression ts e → (s : List Nesting) → ended s ≡ s → joined s ≡ s → Ends (at true s) ts s
  expression_run _ _ (one_and ts e x) s p q = and_run ts e x s p q
  expression_run _ _ (or_and i ts us a b x y) s p q =
      let l = expression_run ts a x s p q in
      let r = and_run us b y s p q in
      record {
        opened = r.opened;
        ran = run_from (at true s) (at false l.opened) ts (word_at i or_word ∷ us) l.ran ∙ (ap (λ z. run (at true z) us) l.left ∙ r.ran);
        left = r.left;
      }

  and_run : (ts : List PlacedToken) (e : ExpressionSyntax) → SpellsAnd ts e → (s : List Nesting) → ended s ≡ s → joined s ≡ s → Ends (at true s) ts s
  and_run _ _ (one_not ts e x) s p q = let n = not_run ts e x s p in record { opened = n.opened; ran = n.ran; left = n.left ∙ q }
  and_run _ _ (and_not i ts us a b x y) s p q =
      let l = and_run ts a x s p q in
      let r = not_run us b y s p in
      record {
        opened = r.opened;
        ran = run_from (at true s) (at false l.opened) ts (word_at i and_word ∷ us) l.ran ∙ (ap (λ z. run (at true z) us) l.left ∙ r.ran);
        left = r.left ∙ q;
      }

  not_run : (ts : List PlacedToken) (e : ExpressionSyntax) → SpellsNot ts e → (s : List Nesting) → ended s ≡ s → Ends (at true s) ts (joined s)
  not_run _ _ (not_not i ts e x) s p = let n = not_run ts e x (negated ∷ s) refl in record { opened = n.opened; ran = n.ran; left = n.left }
  not_run _ _ (one_test ts e x) s p = record { opened = ended s; ran = test_run ts e x s; left = ap joined p }

  test_run : (ts : List PlacedToken) (e : ExpressionSyntax) → SpellsTest ts e → (s : List Nesting) → run (at true s) ts ≡ at false (ended s)
  test_run _ _ (one_sum ts e x) s = sum_run ts e x s
  test_run _ _ (compared_sums i g c ts us a b k x y) s = then_operand s (sign_at i g) ts us (sum_run ts a x s) (compares_on g c k (ended s)) (sum_run us b y (ended s))
  test_run _ _ (like_text i j ts e t x) s = run_from (at true s) (at false (ended s)) ts (word_at i like_word ∷ text_at j t ∷ []) (sum_run ts e x s)
  test_run _ _ (not_like_text h i j ts e t x) s = run_from (at true s) (at false (ended s)) ts (word_at h not_word ∷ word_at i like_word ∷ text_at j t ∷ []) (sum_run ts e x s)
  test_run _ _ (contains_text i j ts e t x) s = run_from (at true s) (at false (ended s)) ts (word_at i contains_word ∷ text_at j t ∷ []) (sum_run ts e x s)
  test_run _ _ (not_contains_text h i j ts e t x) s = run_from (at true s) (at false (ended s)) ts (word_at h not_word ∷ word_at i contains_word ∷ text_at j t ∷ []) (sum_run ts e x s)
  test_run _ _ (is_null_word i j ts e x) s = run_from (at true s) (at false (ended s)) ts (word_at i is_word ∷ word_at j null_word ∷ []) (sum_run ts e x s)
  test_run _ _ (is_not_null i j k ts e x) s = run_from (at true s) (at false (ended s)) ts (word_at i is_word ∷ word_at j not_word ∷ word_at k null_word ∷ []) (sum_run ts e x s)

  sum_run : (ts : List PlacedToken) (e : ExpressionSyntax) → SpellsSum ts e → (s : List Nesting) → run (at true s) ts ≡ at false (ended s)
  sum_run _ _ (one_product ts e x) s = product_run ts e x s
  sum_run _ _ (plus_product i ts us a b x y) s = then_operand s (sign_at i plus_sign) ts us (sum_run ts a x s) refl (product_run us b y (ended s))
  sum_run _ _ (minus_product i ts us a b x y) s = then_operand s (sign_at i minus_sign) ts us (sum_run ts a x s) refl (product_run us b y (ended s))

  product_run : (ts : List PlacedToken) (e : ExpressionSyntax) → SpellsProduct ts e → (s : List Nesting) → run (at true s) ts ≡ at false (ended s)
  product_run _ _ (one_unary ts e x) s = unary_run ts e x s
  product_run _ _ (times_unary i ts us a b x y) s = then_operand s (sign_at i star) ts us (product_run ts a x s) refl (unary_run us b y (ended s))

  unary_run : (ts : List PlacedToken) (e : ExpressionSyntax) → SpellsUnary ts e → (s : List Nesting) → run (at true s) ts ≡ at false (ended s)
  unary_run _ _ (minus_unary i ts e x) s = unary_run ts e x (signed ∷ s)
  unary_run _ _ (one_primary ts e x) s = primary_run ts e x s

  primary_run : (ts : List PlacedToken) (e : ExpressionSyntax) → SpellsPrimary ts e → (s : List Nesting) → run (at true s) ts ≡ at false (ended s)
  primary_run _ _ (a_number i n) s = refl
  primary_run _ _ (a_text i t) s = refl
  primary_run _ _ (a_true i) s = refl
  primary_run _ _ (a_false i) s = refl
  primary_run _ _ (a_path ts p x) s = names_run ts p.names x.1 s
  primary_run _ _ (in_parentheses i j ts e x) s =
      let y = expression_run ts e x (parenthesized ∷ s) refl refl in
      run_from (at true (parenthesized ∷ s)) (at false y.opened) ts (sign_at j close_parenthesis ∷ []) y.ran ∙ ap (λ z. at false (ended (without_top z))) y.left

-- ---- items

-- an operand has ended, whatever is open
abbrev Done : State → List PlacedToken → Type 0
Done x ts = (s : List Nesting) × (run x ts ≡ at false s)

within_run : (ts : List PlacedToken) (w : Option WithinSyntax) → SpellsWithin ts w → (s : List Nesting) → run (at false s) ts ≡ at false s
within_run _ _ no_within s = refl
within_run _ _ (within_the_record i j) s = refl
within_run _ _ (within_a_path i ts p x) s = names_kept ts p.names x.1 s

calls : (v : Word) (a : Aggregate) → IsAggregate v a → step (at true []) (reserved v) ≡ at true []
calls _ _ is_count = refl
calls _ _ is_sum = refl
calls _ _ is_least = refl
calls _ _ is_greatest = refl

term_run : (ts : List PlacedToken) (x : TermSyntax) → SpellsTerm ts x → Done (at true []) ts
term_run _ _ (counted_rows h i j k ts w y) = ([], within_run ts w y [])
term_run _ _ (aggregated h i j v a ts us e w g x y) =
    let z = expression_run ts e x (parenthesized ∷ []) refl refl in
    let inside : run (at true (parenthesized ∷ [])) (ts ++ sign_at j close_parenthesis ∷ us) ≡ at false [] =
    run_from (at true (parenthesized ∷ [])) (at false z.opened) ts (sign_at j close_parenthesis ∷ us) z.ran ∙ (ap (λ o. run (at false (ended (without_top o))) us) z.left ∙ within_run us w y []) in
    ([], ap (λ o. run o (sign_at i open_parenthesis ∷ (ts ++ sign_at j close_parenthesis ∷ us))) (calls v a g) ∙ inside)
term_run _ _ (an_expression ts e x) = let z = expression_run ts e x [] refl refl in (z.opened, z.ran)

as_run : (ts : List PlacedToken) (n : Option (List ℕ)) → SpellsAs ts n → (s : List Nesting) → run (at false s) ts ≡ at false s
as_run _ _ no_as s = refl
as_run _ _ (as_name i j n) s = refl

item_run : (ts : List PlacedToken) (x : ItemSyntax) → SpellsItem ts x → Done (at true []) ts
item_run ts x y =
    let t = term_run y.0 x.term y.4 in
    (t.0, ap (run (at true [])) y.2 ∙ (run_from (at true []) (at false t.0) y.0 y.1 t.1 ∙ as_run y.1 x.name y.5 t.0))

items_run : (ts : List PlacedToken) (xs : List ItemSyntax) → Separated ItemSyntax SpellsItem ts xs → Done (at true []) ts
items_run _ _ (alone ts x y) = item_run ts x y
items_run _ _ (and_one i ts us xs x y z) =
    let l = items_run ts xs y in
    let r = item_run us x z in
    (r.0, run_from (at true []) (at false l.0) ts (sign_at i comma ∷ us) l.1 ∙ r.1)

-- ---- before a token that opens a nesting

-- so many more are open than before these tokens, and the token opens one
record Opened (s : List Nesting) (ts : List PlacedToken) (t : PlacedToken) (n : ℕ) : Type 0 where
  opened : List Nesting
  ran : run (at true s) ts ≡ at true opened
  size : length opened ≡ n + length s
  opening : opens t.token ≡ true

-- behind tokens that leave the state as it was
opened_behind : (s o : List Nesting) (k : PlacedToken) (us ts : List PlacedToken) (t : PlacedToken) (n : ℕ) → run (at true s) us ≡ at false o → step (at false o) k.token ≡ at true s
    → Opened s ts t n → Opened s (us ++ k ∷ ts) t n
opened_behind s o k us ts t n a b x = record {
  opened = x.opened;
  ran = run_from (at true s) (at false o) us (k ∷ ts) a ∙ (ap (λ z. run z ts) b ∙ x.ran);
  size = x.size;
  opening = x.opening;
}

-- one more is open
opened_in : (o : Nesting) (s : List Nesting) (k : PlacedToken) (ts : List PlacedToken) (t : PlacedToken) (n : ℕ) → step (at true s) k.token ≡ at true (o ∷ s) → Opened (o ∷ s) ts t n
    → Opened s (k ∷ ts) t (suc n)
opened_in o s k ts t n a x =
    let e : length x.opened ≡ n + suc (length s) = x.size in
    record { opened = x.opened; ran = ap (λ z. run z ts) a ∙ x.ran; size = omega (arith, e); opening = x.opening }

opened_here : (s : List Nesting) (t : PlacedToken) → opens t.token ≡ true → Opened s [] t 0
opened_here s t e = record { opened = s; ran = refl; size = omega arith; opening = e }

mutual
  expression_opens : (ts : List PlacedToken) (t : PlacedToken) (n : ℕ) → OpensInExpression ts t n → (s : List Nesting) → ended s ≡ s → joined s ≡ s → Opened s ts t n
  expression_opens _ _ _ (in_first_and ts t n x) s p q = and_opens ts t n x s p q
  expression_opens _ _ _ (behind_or i us ts a t n y x) s p q =
      let l = expression_run us a y s p q in
      opened_behind s l.opened (word_at i or_word) us ts t n l.ran (ap (at true) l.left) (and_opens ts t n x s p q)

  and_opens : (ts : List PlacedToken) (t : PlacedToken) (n : ℕ) → OpensInAnd ts t n → (s : List Nesting) → ended s ≡ s → joined s ≡ s → Opened s ts t n
  and_opens _ _ _ (in_first_not ts t n x) s p q = not_opens ts t n x s p
  and_opens _ _ _ (behind_and i us ts a t n y x) s p q =
      let l = and_run us a y s p q in
      opened_behind s l.opened (word_at i and_word) us ts t n l.ran (ap (at true) l.left) (not_opens ts t n x s p)

  not_opens : (ts : List PlacedToken) (t : PlacedToken) (n : ℕ) → OpensInNot ts t n → (s : List Nesting) → ended s ≡ s → Opened s ts t n
  not_opens _ _ _ (not_itself i) s p = opened_here s (word_at i not_word) refl
  not_opens _ _ _ (behind_not i ts t n x) s p = opened_in negated s (word_at i not_word) ts t n refl (not_opens ts t n x (negated ∷ s) refl)
  not_opens _ _ _ (in_test ts t n x) s p = test_opens ts t n x s p

  test_opens : (ts : List PlacedToken) (t : PlacedToken) (n : ℕ) → OpensInTest ts t n → (s : List Nesting) → ended s ≡ s → Opened s ts t n
  test_opens _ _ _ (in_first_sum ts t n x) s p = sum_opens ts t n x s p
  test_opens _ _ _ (behind_comparison i g c us ts a t n k y x) s p =
      opened_behind s s (sign_at i g) us ts t n (sum_run us a y s ∙ ap (at false) p) (compares_on g c k s) (sum_opens ts t n x s p)

  sum_opens : (ts : List PlacedToken) (t : PlacedToken) (n : ℕ) → OpensInSum ts t n → (s : List Nesting) → ended s ≡ s → Opened s ts t n
  sum_opens _ _ _ (in_first_product ts t n x) s p = product_opens ts t n x s p
  sum_opens _ _ _ (behind_plus i us ts a t n y x) s p = opened_behind s s (sign_at i plus_sign) us ts t n (sum_run us a y s ∙ ap (at false) p) refl (product_opens ts t n x s p)
  sum_opens _ _ _ (behind_minus i us ts a t n y x) s p = opened_behind s s (sign_at i minus_sign) us ts t n (sum_run us a y s ∙ ap (at false) p) refl (product_opens ts t n x s p)

  product_opens : (ts : List PlacedToken) (t : PlacedToken) (n : ℕ) → OpensInProduct ts t n → (s : List Nesting) → ended s ≡ s → Opened s ts t n
  product_opens _ _ _ (in_first_unary ts t n x) s p = unary_opens ts t n x s
  product_opens _ _ _ (behind_star i us ts a t n y x) s p = opened_behind s s (sign_at i star) us ts t n (product_run us a y s ∙ ap (at false) p) refl (unary_opens ts t n x s)

  unary_opens : (ts : List PlacedToken) (t : PlacedToken) (n : ℕ) → OpensInUnary ts t n → (s : List Nesting) → Opened s ts t n
  unary_opens _ _ _ (sign_itself i) s = opened_here s (sign_at i minus_sign) refl
  unary_opens _ _ _ (behind_sign i ts t n x) s = opened_in signed s (sign_at i minus_sign) ts t n refl (unary_opens ts t n x (signed ∷ s))
  unary_opens _ _ _ (parenthesis_itself i) s = opened_here s (sign_at i open_parenthesis) refl
  unary_opens _ _ _ (behind_parenthesis i ts t n x) s = opened_in parenthesized s (sign_at i open_parenthesis) ts t n refl (expression_opens ts t n x (parenthesized ∷ s) refl refl)

item_opens : (ts : List PlacedToken) (t : PlacedToken) (n : ℕ) → OpensInItem ts t n → Opened [] ts t n
item_opens _ _ _ (argument_itself h i v a k) = record { opened = []; ran = calls v a k; size = refl; opening = refl }
item_opens _ _ _ (in_argument h i v a ts t n k x) =
    let y = opened_in parenthesized [] (sign_at i open_parenthesis) ts t n refl (expression_opens ts t n x (parenthesized ∷ []) refl refl) in
    record { opened = y.opened; ran = ap (λ z. run z (sign_at i open_parenthesis ∷ ts)) (calls v a k) ∙ y.ran; size = y.size; opening = y.opening }
item_opens _ _ _ (in_expression ts t n x) = expression_opens ts t n x [] refl refl

front_run : (m : ℕ) (front : List PlacedToken) → BeforeItem m front → run (at true []) front ≡ at true []
front_run _ _ (before_first_item h) = refl
front_run _ _ (before_further_item h i ts xs s) = let l = items_run ts xs s in run_from (at true []) (at false l.0) ts (sign_at i comma ∷ []) l.1

-- as many are open as are said to be
pub record OpenBefore (before : List PlacedToken) (t : PlacedToken) (n : ℕ) : Type 0 where
  pub opened : List Nesting
  pub ran : run (at true []) before ≡ at true opened
  pub size : length opened ≡ n
  pub opening : opens t.token ≡ true

open_before : (before : List PlacedToken) (t : PlacedToken) (n : ℕ) → Opened [] before t n → OpenBefore before t n
open_before before t n x = let e : length x.opened ≡ n + 0 = x.size in record { opened = x.opened; ran = x.ran; size = omega (arith, e); opening = x.opening }

pub query_opens : (before : List PlacedToken) (t : PlacedToken) (n : ℕ) → OpensInQuery before t n → OpenBefore before t n
query_opens _ _ _ (in_item m front ts t n x y) =
    let z = open_before ts t n (item_opens ts t n y) in
    record { opened = z.opened; ran = run_from (at true []) (at true []) front ts (front_run m front x) ∙ z.ran; size = z.size; opening = z.opening }
query_opens _ _ _ (in_condition h i j k name us ts xs t n x y) =
    let l = items_run us xs x in
    let z = open_before ts t n (expression_opens ts t n y [] refl refl) in
    record {
      opened = z.opened;
      ran = run_from (at true []) (at false l.0) us (word_at i from_word ∷ name_at j name ∷ word_at k where_word ∷ ts) l.1 ∙ z.ran;
      size = z.size;
      opening = z.opening;
    }
