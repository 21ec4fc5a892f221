-- Groups into which values are put that no records give, and the text of their result, by computation.
use Rattle.std.specs.Prelude.{◌≡◌, ℕ, ◌-◌, ◌^◌, List, [], ◌∷◌, ◌++◌, ℤ, pos, neg_ℤ, Option, Some, None, codes, refl}
use Rattle.std.specs.Fmt.{digits}
use Rattle.std.specs.Str.{chars}
use Rattle.json.specs.Print.{escape_byte}
use Rattle.dr_meaning.specs.Record.{Value, int_value, text_value}
use Rattle.dr_meaning.specs.Query.{Query, Object}
use Rattle.dr_meaning.specs.Print.{result_text}
use Rattle.dr_meaning.specs.Parse.{parse_query, items, keys, whole_expression, argument}
use Rattle.dr_meaning.specs.Binding.{bind}
use Rattle.dr_partials.specs.Partials.{empty_partial, finished}
use Rattle.dr_partials.specs.Putting.{Put, put, put_all}
use Rattle.dr_vectors.proofs.BoundQueries.{query_of}

abbrev url_query : Option Query
url_query = query_of (codes "SELECT Name.Url AS u, COUNT(*) AS r, COUNT(DocId) AS n, SUM(DocId) AS s, MIN(DocId) AS l, MAX(DocId) AS g FROM Document GROUP BY Name.Url")

-- the objects of what is put into groups
abbrev gathered : List Put → Option Query → List Object
gathered ps None = []
gathered ps (Some q) = finished q (put_all q ps (empty_partial q))

abbrev text : List ℕ → Option Value
text t = Some (text_value t)

abbrev number : ℤ → Option Value
number z = Some (int_value z)

-- a value, or NULL, for an aggregate of the group of a key
abbrev takes : Option Value → ℕ → Option Value → Put
takes k i v = record { keys = k ∷ []; taken = Some (record { aggregate = i; value = v }) }

abbrev greatest : Option Value
greatest = number (pos (2 ^ 63 - 1))

-- each aggregate takes its values; one group has a sum alone, which no 64 bits hold
abbrev first : List Put
first = takes (text (codes "b")) 0 None ∷ takes (text (codes "b")) 1 (number (pos 5)) ∷ takes (text (codes "b")) 2 (number (pos 5))
    ∷ takes None 0 None ∷ takes None 1 None ∷ takes None 2 None ∷ takes (text (codes "b")) 3 (number (pos 5)) ∷ takes (text (codes "b")) 4 (number (pos 5))
    ∷ takes (text (codes "a\"")) 2 greatest ∷ takes (text (codes "a\"")) 2 greatest ∷ []

-- a group without a row
abbrev second : List Put
second = takes (text (codes "c")) 3 (number (pos 7)) ∷ takes (text (codes "c")) 3 (number (neg_ℤ (pos 7))) ∷ takes (text (codes "c")) 4 (number (neg_ℤ (pos 7))) ∷ []

pub one_result_behind_another : result_text (gathered first url_query ++ gathered second url_query) ≡
    codes "{\"u\":null,\"r\":1,\"n\":0,\"s\":null,\"l\":null,\"g\":null}\n{\"u\":\"a\\\"\",\"r\":0,\"n\":0,\"s\":18446744073709551614,\"l\":null,\"g\":null}\n{\"u\":\"b\",\"r\":1,\"n\":1,\"s\":5,\"l\":5,\"g\":5}\n{\"u\":\"c\",\"r\":0,\"n\":0,\"s\":null,\"l\":-7,\"g\":-7}\n"
unfolding bind parse_query items keys whole_expression argument empty_partial finished put result_text chars escape_byte digits
one_result_behind_another = refl

-- a result without rows has no text
pub no_rows : result_text [] ≡ []
unfolding result_text
no_rows = refl
