-- The whole text.
use Rattle.std.specs.Prelude.{◌≡◌, ℕ, ◌<◌, ◌≤◌, List, length, nat_lt, true, false, IfOk, Result, Ok, Err}
use Rattle.std.proofs.Common.{refl, sym, ap, subst, arith}
use Rattle.std.proofs.lemmas.Bool.Decides.{nat_tests}
use Rattle.dr_meaning.specs.Tokens.{PlacedToken, query_tokens}
use Rattle.dr_meaning.specs.Syntax.{QuerySyntax}
use Rattle.dr_meaning.specs.Parse as meant
use Rattle.dr_meaning.specs.Parse.{Unread, Parsed, Production, parse_query, query, result_of, unread_text, too_long}
use Rattle.dr_sub_meaning.specs.NestedParse.{NestedSyntax, parse_nested, whole_query}
use Rattle.dr_sub_meaning.specs.ResultSchemaLaws.{have_items}
use Rattle.dr_sub_meaning.proofs.ParsedItems.{parsed_have_items}
use Rattle.dr_sql.specs.Faults.{Gives}
use Rattle.dr_sql.specs.Productions.{query_at, whole_at}
use Rattle.dr_sql.specs.Reads.{Reads}
use Rattle.dr_sql.specs.Views.{nested_view, query_view}
use Rattle.dr_sql.specs.declared.query.Query.{Query}
use Rattle.dr_sql.specs.declared.query.Nested.{Nested}
use Rattle.dr_sql.specs.declared.fault.QueryFault.{QueryFault}
use Rattle.dr_sql.proofs.SelectLemmas.{query_is, whole_is}

pub long_text : (bytes : List ℕ) → 65536 < length bytes → parse_query bytes ≡ Err (record { place = 65536; problem = too_long })
unfolding parse_query
long_text bytes h = let e : nat_lt 65536 (length bytes) ≡ true = grind (arith, nat_tests) in rw e refl

pub long_nested : (bytes : List ℕ) → 65536 < length bytes → parse_nested bytes ≡ Err (record { place = 65536; problem = too_long })
unfolding parse_nested
long_nested bytes h = let e : nat_lt 65536 (length bytes) ≡ true = grind (arith, nat_tests) in rw e refl

short_text : (bytes : List ℕ) → length bytes ≤ 65536 → parse_query bytes ≡ result_of (query (unread_text bytes))
unfolding parse_query
short_text bytes h = let e : nat_lt 65536 (length bytes) ≡ false = grind (arith, nat_tests) in rw e refl

short_nested : (bytes : List ℕ) → length bytes ≤ 65536 → parse_nested bytes ≡ result_of (whole_query (unread_text bytes))
unfolding parse_nested
short_nested bytes h = let e : nat_lt 65536 (length bytes) ≡ false = grind (arith, nat_tests) in rw e refl

gives : {A B : Type 0} (see : A → B) (m : Parsed B) (behind : Unread) (r : Result A QueryFault) → Reads see m behind r → Gives see (result_of m) r
gives see m behind (Ok q) h = ap result_of h
gives see m behind (Err QueryFault.NoMemory) h = tt
gives see m behind (Err (QueryFault.Refused i p)) h = ap result_of h

-- what was read of a text's tokens is what its bytes give
all_read : {A B : Type 0} (see : A → B) (parsed : List ℕ → Result B meant.QueryFault) (whole : Production B) (bytes : List ℕ) (ts : List PlacedToken) (behind : Unread) (r : Result A QueryFault)
    → parsed bytes ≡ result_of (whole (unread_text bytes)) → ts ≡ query_tokens bytes
    → Reads see (whole (record { tokens = ts; size = length bytes; operators = 0 })) behind r → Gives see (parsed bytes) r
all_read see parsed whole bytes ts behind r l e h =
    let P : List PlacedToken → Type 0 = λ us. Reads see (whole (record { tokens = us; size = length bytes; operators = 0 })) behind r in
    let Q : Result _ meant.QueryFault → Type 0 = λ m. Gives see m r in
    subst Q (sym l) (gives see (whole (unread_text bytes)) behind r (subst P e h))

pub all_parsed : (bytes : List ℕ) (ts : List PlacedToken) (behind : Unread) (r : Result Query QueryFault) → length bytes ≤ 65536 → ts ≡ query_tokens bytes
    → Reads query_view (query_at (record { tokens = ts; size = length bytes; operators = 0 })) behind r → Gives query_view (parse_query bytes) r
all_parsed bytes ts behind r l e h =
    let P : Parsed QuerySyntax → Type 0 = λ p. Reads query_view p behind r in
    all_read query_view parse_query query bytes ts behind r (short_text bytes l) e (subst P (sym (query_is (record { tokens = ts; size = length bytes; operators = 0 }))) h)

pub all_selects_parsed : (bytes : List ℕ) (ts : List PlacedToken) (behind : Unread) (r : Result Nested QueryFault) → length bytes ≤ 65536 → ts ≡ query_tokens bytes
    → Reads nested_view (whole_at (record { tokens = ts; size = length bytes; operators = 0 })) behind r → Gives nested_view (parse_nested bytes) r
all_selects_parsed bytes ts behind r l e h =
    let P : Parsed NestedSyntax → Type 0 = λ p. Reads nested_view p behind r in
    all_read nested_view parse_nested whole_query bytes ts behind r (short_nested bytes l) e (subst P (sym (whole_is (record { tokens = ts; size = length bytes; operators = 0 }))) h)

-- so each SELECT has items
pub selects_have_items : (bytes : List ℕ) (r : Result Nested QueryFault) → Gives nested_view (parse_nested bytes) r → IfOk r (λ n. have_items (nested_view n) ≡ true)
selects_have_items bytes (Ok n) h = parsed_have_items bytes (nested_view n) h
selects_have_items bytes (Err e) h = tt
