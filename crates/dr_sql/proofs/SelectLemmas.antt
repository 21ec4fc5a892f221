-- SELECTs over one another: which production FROM's part is, and the parts under names of their own.
use Rattle.std.specs.Prelude.{◌≡◌, ℕ, zero, suc, Bool, true, false}
use Rattle.std.proofs.Common.{refl, ap, ◌∙◌}
use Rattle.dr_meaning.specs.Tokens.{open_parenthesis}
use Rattle.dr_meaning.specs.Query.{Aggregate}
use Rattle.dr_meaning.specs.Parse.{Unread, goes_on, next_is, either, if_next, is_the_sign, any_token, mark, problem_here, syntax, too_deep, ◌>>=◌, rows_argument, counts_rows}
use Rattle.dr_meaning.specs.Parse.{query, items as plain_items, whole_expression, argument}
use Rattle.dr_sub_meaning.specs.NestedParse as nested
use Rattle.dr_sql.specs.Productions.{items_at, where_at, source_at, parenthesized_at, whole_at, query_at}

-- a query that stands alone has the parts of one where no nesting is open
pub query_is : (u : Unread) → query u ≡ query_at u
unfolding plain_items whole_expression argument items_at where_at
query_is u = refl

pub whole_is : (u : Unread) → nested.whole_query u ≡ whole_at u
unfolding items_at where_at source_at
whole_is u = refl

-- ---- FROM

pub source_is_table : (n : ℕ) (u : Unread) → next_is (is_the_sign open_parenthesis) u ≡ false → source_at n u ≡ nested.from_table u
unfolding items_at where_at source_at
source_is_table zero u h = ap (λ (b : Bool). either b (parenthesized_at zero) nested.from_table u) h
source_is_table (suc n) u h = ap (λ (b : Bool). either b (parenthesized_at (suc n)) nested.from_table u) h

pub source_is_parenthesized : (n : ℕ) (u : Unread) → next_is (is_the_sign open_parenthesis) u ≡ true → source_at n u ≡ parenthesized_at n u
unfolding items_at where_at source_at
source_is_parenthesized zero u h = ap (λ (b : Bool). either b (parenthesized_at zero) nested.from_table u) h
source_is_parenthesized (suc n) u h = ap (λ (b : Bool). either b (parenthesized_at (suc n)) nested.from_table u) h

-- ---- an aggregate's parenthesis, where another token stands

pub not_opened : (n : ℕ) (a : Aggregate) (u : Unread) → next_is (is_the_sign open_parenthesis) u ≡ false → nested.opened_term n a u ≡ problem_here syntax u
not_opened zero a u h =
    ap (λ (b : Bool). either b (problem_here too_deep) (mark open_parenthesis >>= (λ _. rows_argument)) u) h
    ∙ ap (λ (b : Bool). goes_on (either b any_token (problem_here syntax) u) (λ _. rows_argument)) h
not_opened (suc n) a u h = ap (λ (b : Bool). goes_on (either b any_token (problem_here syntax) u) (λ _. if_next (counts_rows a) rows_argument (nested.argument_term n a))) h
