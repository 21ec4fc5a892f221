-- What is printed of a table depends on the leaves that are read alone.
use Rattle.std.proofs.Common.{◌≡◌, ◌∙◌, ℕ, refl, sym, ap, subst, List, [], ◌∷◌, ◌++◌, map, true, Option, Result, Ok, Err}
use Rattle.std.specs.List.{flat_map, list_all}
use Rattle.dr_meaning.specs.Schema.{Schema}
use Rattle.dr_meaning.specs.Path.{Step, Leaf, is_leaf_path, paths_of_leaves}
use Rattle.dr_meaning.specs.Record.{Node, project}
use Rattle.dr_meaning.specs.Query as plain
use Rattle.dr_meaning.specs.QueryLeaves as plain_leaves
use Rattle.dr_meaning.specs.Syntax.{QuerySyntax}
use Rattle.dr_meaning.specs.Parse.{QueryFault}
use Rattle.dr_meaning.specs.BoundExpression.{BindFault}
use Rattle.dr_meaning.specs.Binding.{bind}
use Rattle.dr_meaning.specs.Print.{record_text, result_text}
use Rattle.dr_meaning.specs.Refusals.{NestedFault}
use Rattle.dr_meaning.proofs.QueryLeavesLemmas.{leaves_are_enough, query_leaves_are_leaves}
use Rattle.dr_ordering.specs.Ordered.{Order}
use Rattle.dr_sub_meaning.specs.ResultRecords.{result_fields, records_of}
use Rattle.dr_sub_meaning.specs.ResultFaults.{SubFault, result_schema}
use Rattle.dr_sub_meaning.specs.Nested.{NestedQuery, fields_through, records_through, outer_fields, outer_records, answered, meaning, innermost, query_leaves}
use Rattle.dr_sub_meaning.specs.NestedParse.{PlacedQuery, NestedSyntax, parse_nested}
use Rattle.dr_sub_meaning.specs.NestedBinding.{bind_order, in_an_order, alone, below, over_result, then_over, bind_from, bind_nested}
use Rattle.dr_sub_meaning.specs.NestedAsk.{bound_or_refused, bound_syntax, read_nested, nested_answer_text}
use Rattle.dr_sub_meaning.proofs.ParsedItems.{ordered_over}
use Rattle.dr_reading.proofs.ReadingLemmas.{read_text_is_meant}
use Rattle.dr_commands.specs.Query.{query_scan}
use Rattle.dr_commands.specs.ScanLaws.{DumpSeesLeavesAlone, QuerySeesLeavesAlone, QueryPrintsMeaning}

-- ---- dump

texts_of : (f : Node → List ℕ) (g : Node → Node) (R : List Node) → flat_map (λ n. f (g n)) R ≡ flat_map f (map g R)
texts_of f g [] = refl
texts_of f g (n ∷ R) = ap (λ t. f (g n) ++ t) (texts_of f g R)

pub dump_sees_leaves_alone : DumpSeesLeavesAlone
dump_sees_leaves_alone t F R S e =
    let paths : List (List Step) = map (λ (l : Leaf). l.path) F in
    let text : Node → List ℕ = record_text t.schema.fields in
    texts_of text (project paths) R ∙ (ap (flat_map text) e ∙ sym (texts_of text (project paths) S))

-- ---- query: the innermost is bound to the table's schema

arranged_bound : (s : Schema) (p : PlacedQuery) (q : plain.Query) (o : Result (Option Order) NestedFault) (n : NestedQuery) → bind s p.query ≡ Ok q → in_an_order p q o ≡ Ok n → bind s p.query ≡ Ok (innermost n.inner n.outer)
arranged_bound s p q (Ok o) n b e =
    let k : record { inner = []; outer = q; order = o; limit = p.limit } ≡ n = cc in
    subst (λ (x : NestedQuery). bind s p.query ≡ Ok (innermost x.inner x.outer)) k b
arranged_bound s p q (Err f) n b e = absurd (cc)

alone_bound : (s : Schema) (p : PlacedQuery) (r : Result plain.Query BindFault) (n : NestedQuery) → bind s p.query ≡ r → alone p r ≡ Ok n → bind s p.query ≡ Ok (innermost n.inner n.outer)
alone_bound s p (Ok q) n b e = arranged_bound s p q (bind_order q.selection p.order) n b e
alone_bound s p (Err f) n b e = absurd (cc)

below_bound : (s : Schema) (p : PlacedQuery) (q : plain.Query) (r : Result NestedQuery NestedFault) (n : NestedQuery) → bind s p.query ≡ Ok q → below q r ≡ Ok n → bind s p.query ≡ Ok (innermost n.inner n.outer)
below_bound s p q (Err f) n b e = absurd (cc)
below_bound s p q (Ok c) n b e =
    let k : record c { inner = q ∷ c.inner } ≡ n = cc in
    subst (λ (x : NestedQuery). bind s p.query ≡ Ok (innermost x.inner x.outer)) k b

over_bound : (s : Schema) (p : PlacedQuery) (q : plain.Query) (next : Schema → Result NestedQuery NestedFault) (r : Result Schema SubFault) (n : NestedQuery) → bind s p.query ≡ Ok q → over_result p q next r ≡ Ok n
    → bind s p.query ≡ Ok (innermost n.inner n.outer)
over_bound s p q next (Err f) n b e = absurd (cc)
over_bound s p q next (Ok t) n b e = below_bound s p q (next t) n b e

then_bound : (s : Schema) (p : PlacedQuery) (next : Schema → Result NestedQuery NestedFault) (r : Result plain.Query BindFault) (n : NestedQuery) → bind s p.query ≡ r → then_over s p next r ≡ Ok n
    → bind s p.query ≡ Ok (innermost n.inner n.outer)
then_bound s p next (Err f) n b e = absurd (cc)
then_bound s p next (Ok q) n b e =
    over_bound s p q next (result_schema s.fields q) n b (ordered_over p (over_result p q next (result_schema s.fields q)) (bind_order q.selection p.order) n e)

from_bound : (os : List PlacedQuery) (p : PlacedQuery) (s : Schema) (n : NestedQuery) → bind_from os p s ≡ Ok n → bind s p.query ≡ Ok (innermost n.inner n.outer)
from_bound [] p s n e = alone_bound s p (bind s p.query) n refl e
from_bound (o ∷ os) p s n e = then_bound s p (bind_from os o) (bind s p.query) n refl e

-- where a text has a query, it is bound to the schema
bound_is : (r : Result NestedQuery NestedFault) (n : NestedQuery) → bound_or_refused r ≡ Ok n → r ≡ Ok n
bound_is (Ok m) n e = cc
bound_is (Err f) n e = cc

syntax_is : (s : Schema) (r : Result NestedSyntax QueryFault) (n : NestedQuery) → bound_syntax s r ≡ Ok n → (x : NestedSyntax) × (bind_nested s x ≡ Ok n)
syntax_is s (Ok x) n e = (x, bound_is (bind_nested s x) n e)
syntax_is s (Err f) n e = cc

pub innermost_is_bound : (s : Schema) (text : List ℕ) (n : NestedQuery) → read_nested s text ≡ Ok n → (q : QuerySyntax) × (bind s q ≡ Ok (innermost n.inner n.outer))
unfolding read_nested bind_nested
innermost_is_bound s text n e =
    let b = syntax_is s (parse_nested text) n e in
    (b.0.first.query, from_bound b.0.others b.0.first s n b.1)

-- ---- query: what it means depends on the innermost's leaves alone

inner_enough : (s : Schema) (qs : List plain.Query) (q : plain.Query) (x : QuerySyntax) (R : List Node) → bind s x ≡ Ok (innermost qs q)
    → plain.meaning (fields_through s.fields qs) q (records_through s.fields qs (map (project (paths_of_leaves (plain_leaves.query_leaves s.fields (innermost qs q)))) R))
    ≡ plain.meaning (fields_through s.fields qs) q (records_through s.fields qs R)
inner_enough s [] q x R b = leaves_are_enough s x q R b
inner_enough s (p ∷ ps) q x R b =
    ap (λ os. plain.meaning (fields_through (result_fields s.fields p) ps) q (records_through (result_fields s.fields p) ps (records_of os))) (leaves_are_enough s x p R b)

pub nested_leaves_are_enough : (s : Schema) (n : NestedQuery) (x : QuerySyntax) (R : List Node) → bind s x ≡ Ok (innermost n.inner n.outer)
    → meaning s.fields n (map (project (paths_of_leaves (query_leaves s.fields n))) R) ≡ meaning s.fields n R
unfolding meaning outer_fields outer_records query_leaves
nested_leaves_are_enough s n x R b = ap (answered n) (inner_enough s n.inner n.outer x R b)

pub query_sees_leaves_alone : QuerySeesLeavesAlone
unfolding nested_answer_text
query_sees_leaves_alone t text n read R S e =
    let bound = innermost_is_bound t.schema text n read in
    ap result_text (sym (nested_leaves_are_enough t.schema n bound.0 R bound.1) ∙ (ap (meaning t.schema.fields n) e ∙ nested_leaves_are_enough t.schema n bound.0 S bound.1))

pub nested_leaves_are_leaves : (s : Schema) (n : NestedQuery) → list_all (λ (l : Leaf). is_leaf_path s.fields l.path) (query_leaves s.fields n) ≡ true
unfolding query_leaves
nested_leaves_are_leaves s n = query_leaves_are_leaves s.fields (innermost n.inner n.outer)

pub query_prints_meaning : QueryPrintsMeaning
query_prints_meaning t text n held Rs Ss read holds given =
    read_text_is_meant (query_scan t n) held Rs Ss (nested_leaves_are_leaves t.schema n) (query_sees_leaves_alone t text n read) holds given
