-- Rewriting as text: the lines that tell the queries of leaf servers, intermediate servers and the root.
use Rattle.std.specs.Prelude.{ℕ, zero, suc, List, [], ◌∷◌, ◌++◌, map, length, true, false, ◌==◌, if◌then◌else◌, Option, Some, None, codes}
use Rattle.std.specs.List.{flat_map, join_with_byte}
use Rattle.std.specs.Fmt.{signed_decimal}
use Rattle.dr_meaning.specs.Schema.{Fields, no_fields, field, Shape, group, fields_of}
use Rattle.dr_meaning.specs.Path.{Step}
use Rattle.dr_meaning.specs.Record.{Value, bool_value, int_value, text_value}
use Rattle.dr_meaning.specs.Expression.{Arithmetic, plus, minus, times, Comparison, equal, unequal, less, at_most, greater, at_least, Expression, constant}
use Rattle.dr_meaning.specs.Expression.{path_value, negative, arithmetic, comparison, like, contains, is_null, negation, conjunction, disjunction}
use Rattle.dr_meaning.specs.Query.{Aggregate, count, sum, least as least_value, greatest as greatest_value, RecordTerm, expression, within, GroupTerm}
use Rattle.dr_meaning.specs.Query.{key, count_rows, aggregate, RecordItem, GroupItem, Selection, objects, groups, Query}
use Rattle.dr_meaning.specs.Tokens.{QueryToken, reserved, name_token}
use Rattle.dr_partials.specs.PartialTypes.{aggregates_among}
use Rattle.dr_partials.specs.Rewriting.{key_items, aggregate_items, merging_terms, root_items}
use Rattle.dr_meaning.specs.Lists.{nth_text}

-- ---- names and paths

-- a name in double quotes
abbrev pub in_quotes : List ℕ → List ℕ
in_quotes name = 34 ∷ (name ++ 34 ∷ [])

abbrev pub unless_reserved : List ℕ → QueryToken → List ℕ
unless_reserved name (reserved w) = in_quotes name
unless_reserved name t = name

-- a name, in double quotes where it is a reserved word
abbrev pub name_text : List ℕ → List ℕ
name_text name = unless_reserved name (name_token name)

-- the name of a field, and what it is
pub record NamedShape : Type 0 where
  pub name : List ℕ
  pub shape : Shape

abbrev pub field_at : ℕ → Fields → Option NamedShape
field_at i no_fields = None
field_at zero (field n r s fs) = Some (record { name = n; shape = s })
field_at (suc i) (field n r s fs) = field_at i fs

abbrev pub before_names : Option NamedShape → (Shape → List (List ℕ)) → List (List ℕ)
before_names None behind = []
before_names (Some f) behind = f.name ∷ behind f.shape

-- the names on a path below a shape
abbrev pub path_names : List Step → Shape → List (List ℕ)
path_names [] s = []
path_names (t ∷ p) s = before_names (field_at t.place (fields_of s)) (path_names p)

abbrev pub path_text : Fields → List Step → List ℕ
path_text fs p = join_with_byte 46 (map name_text (path_names p (group fs)))

-- the name of a row's column, where these are the names of its columns
abbrev pub column_text : List (List ℕ) → List Step → List ℕ
column_text names [] = []
column_text names (t ∷ p) = nth_text names t.place

-- ---- expressions, where this tells paths

abbrev pub in_parentheses : List ℕ → List ℕ
in_parentheses t = 40 ∷ (t ++ 41 ∷ [])

-- a text in single quotes, with '' for a quote
abbrev pub text_literal : List ℕ → List ℕ
text_literal t = 39 ∷ (flat_map (λ b. if b == 39 then 39 ∷ 39 ∷ [] else b ∷ []) t ++ 39 ∷ [])

abbrev pub literal_text : Value → List ℕ
literal_text (bool_value true) = codes "TRUE"
literal_text (bool_value false) = codes "FALSE"
literal_text (int_value z) = signed_decimal z
literal_text (text_value t) = text_literal t

abbrev pub sign_of : Arithmetic → List ℕ
sign_of plus = codes " + "
sign_of minus = codes " - "
sign_of times = codes " * "

abbrev pub comparison_sign : Comparison → List ℕ
comparison_sign equal = codes " = "
comparison_sign unequal = codes " <> "
comparison_sign less = codes " < "
comparison_sign at_most = codes " <= "
comparison_sign greater = codes " > "
comparison_sign at_least = codes " >= "

abbrev pub expression_text : (List Step → List ℕ) → Expression → List ℕ
expression_text path (constant v) = literal_text v
expression_text path (path_value p) = path p
expression_text path (negative e) = in_parentheses (codes "-" ++ expression_text path e)
expression_text path (arithmetic o a b) = in_parentheses (expression_text path a ++ (sign_of o ++ expression_text path b))
expression_text path (comparison c a b) = in_parentheses (expression_text path a ++ (comparison_sign c ++ expression_text path b))
expression_text path (like e t) = in_parentheses (expression_text path e ++ (codes " LIKE " ++ text_literal t))
expression_text path (contains e t) = in_parentheses (expression_text path e ++ (codes " CONTAINS " ++ text_literal t))
expression_text path (is_null e) = in_parentheses (expression_text path e ++ codes " IS NULL")
expression_text path (negation e) = in_parentheses (codes "NOT " ++ expression_text path e)
expression_text path (conjunction a b) = in_parentheses (expression_text path a ++ (codes " AND " ++ expression_text path b))
expression_text path (disjunction a b) = in_parentheses (expression_text path a ++ (codes " OR " ++ expression_text path b))

-- ---- items

abbrev pub aggregate_word : Aggregate → List ℕ
aggregate_word count = codes "COUNT"
aggregate_word sum = codes "SUM"
aggregate_word least_value = codes "MIN"
aggregate_word greatest_value = codes "MAX"

abbrev pub aggregate_text : (List Step → List ℕ) → Aggregate → Expression → List ℕ
aggregate_text path a e = aggregate_word a ++ in_parentheses (expression_text path e)

abbrev pub node_text : (List Step → List ℕ) → List Step → List ℕ
node_text path [] = codes "RECORD"
node_text path (t ∷ p) = path (t ∷ p)

abbrev pub record_term_text : (List Step → List ℕ) → RecordTerm → List ℕ
record_term_text path (expression e) = expression_text path e
record_term_text path (within a e node) = aggregate_text path a e ++ (codes " WITHIN " ++ node_text path node)

-- a term, where these are the texts of the keys
abbrev pub group_term_text : (List Step → List ℕ) → List (List ℕ) → GroupTerm → List ℕ
group_term_text path keys (key i) = nth_text keys i
group_term_text path keys count_rows = codes "COUNT(*)"
group_term_text path keys (aggregate a e) = aggregate_text path a e

abbrev pub named : List ℕ → List ℕ → List ℕ
named t name = t ++ (codes " AS " ++ name)

-- ---- queries

abbrev pub commas : List (List ℕ) → List ℕ
commas [] = []
commas (t ∷ []) = t
commas (t ∷ u ∷ ts) = t ++ (codes ", " ++ commas (u ∷ ts))

abbrev pub where_text : (List Step → List ℕ) → Option Expression → List ℕ
where_text path None = []
where_text path (Some e) = codes " WHERE " ++ expression_text path e

abbrev pub group_by_text : List (List ℕ) → List ℕ
group_by_text [] = []
group_by_text (k ∷ ks) = codes " GROUP BY " ++ commas (k ∷ ks)

abbrev pub select_text : List (List ℕ) → List ℕ → List ℕ → List (List ℕ) → List ℕ
select_text items table condition keys = codes "SELECT " ++ (commas items ++ (codes " FROM " ++ (table ++ (condition ++ group_by_text keys))))

-- the leaf query, over a tablet; the items of an aggregate query have their own names k0, .., a0, ..
abbrev pub leaf_text : (List Step → List ℕ) → Option Expression → Selection → List ℕ
leaf_text path c (objects items) =
    select_text (map (λ (i : RecordItem). named (record_term_text path i.term) (in_quotes i.name)) items) (codes "tablet") (where_text path c) []
leaf_text path c (groups keys items) =
    select_text (map (λ (i : GroupItem). named (group_term_text path (map path keys) i.term) i.name)
    (key_items 0 keys ++ aggregate_items 0 (aggregates_among items))) (codes "tablet") (where_text path c) (map path keys)

-- the names of the keys in a row, and of all its columns
abbrev pub key_names : List (List Step) → List (List ℕ)
key_names keys = map (λ (i : GroupItem). i.name) (key_items 0 keys)

abbrev pub column_names : List (List Step) → List GroupItem → List (List ℕ)
column_names keys items = key_names keys ++ map (λ (i : GroupItem). i.name) (aggregate_items 0 (aggregates_among items))

-- a term over the columns of a row
abbrev pub row_term_text : List (List Step) → List GroupItem → GroupTerm → List ℕ
row_term_text keys items t = group_term_text (column_text (column_names keys items)) (key_names keys) t

-- the inner query, over the rows of children
abbrev pub inner_text : Selection → List ℕ
inner_text (objects items) = codes "CONCAT children"
inner_text (groups keys items) =
    select_text (key_names keys ++ map (λ (i : GroupItem). named (row_term_text keys items i.term) i.name)
    (aggregate_items 0 (merging_terms (length keys) (aggregates_among items)))) (codes "children") [] (key_names keys)

-- the root query, with the query's items and names
abbrev pub root_text : Selection → List ℕ
root_text (objects items) = codes "CONCAT children"
root_text (groups keys items) =
    select_text (map (λ (i : GroupItem). named (row_term_text keys items i.term) (in_quotes i.name)) (root_items (length keys) items))
    (codes "children") [] (key_names keys)

-- the three lines of a query over a schema
unfoldable pub rewriting_text : Fields → Query → List ℕ
rewriting_text fs q = codes "leaf: " ++ (leaf_text (path_text fs) q.condition q.selection
    ++ (codes "\ninner: " ++ (inner_text q.selection ++ (codes "\nroot: " ++ (root_text q.selection ++ 10 ∷ [])))))
