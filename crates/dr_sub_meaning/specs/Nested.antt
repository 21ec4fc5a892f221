-- Queries over the results of others: record queries, each over the records that the one before it gives, and at last
-- any query.
use Rattle.std.specs.Prelude.{◌≡◌, List, [], ◌∷◌, ℕ, Option, None}
use Rattle.dr_meaning.specs.Schema.{Fields}
use Rattle.dr_meaning.specs.Path.{Leaf}
use Rattle.dr_meaning.specs.Record.{Node}
use Rattle.dr_meaning.specs.Query as plain
use Rattle.dr_meaning.specs.Query.{Object}
use Rattle.dr_meaning.specs.QueryLeaves as plain_leaves
use Rattle.dr_partials.specs.Partials as plain_partials
use Rattle.dr_partials.specs.Partials.{Partial}
use Rattle.dr_partials.specs.Rewriting as plain_rewriting
use Rattle.dr_sub_meaning.specs.ResultRecords.{result_fields, records_of}
use Rattle.dr_ordering.specs.Ordered.{Order, arranged}

-- the record queries, the innermost first, which is over the table's records; and the outermost query, over what the
-- last of them gives. Its result is put in order and cut, where that is asked: at the root alone, once it is whole
pub record NestedQuery : Type 0 where
  pub inner : List plain.Query
  pub outer : plain.Query
  pub order : Option Order
  pub limit : Option ℕ

-- ---- what the outermost query is over

-- the fields of what record queries give, one over the other
abbrev pub fields_through : Fields → List plain.Query → Fields
fields_through fs [] = fs
fields_through fs (q ∷ qs) = fields_through (result_fields fs q) qs

-- the records that they give
abbrev pub records_through : Fields → List plain.Query → List Node → List Node
records_through fs [] R = R
records_through fs (q ∷ qs) R = records_through (result_fields fs q) qs (records_of (plain.meaning fs q R))

unfoldable pub outer_fields : Fields → NestedQuery → Fields
outer_fields fs n = fields_through fs n.inner

unfoldable pub outer_records : Fields → NestedQuery → List Node → List Node
outer_records fs n R = records_through fs n.inner R

-- ---- its meaning, its partials, its leaves

-- the result in order, and cut
unfoldable pub answered : NestedQuery → List Object → List Object
answered n os = arranged n.order n.limit os

unfoldable pub meaning : Fields → NestedQuery → List Node → List Object
meaning fs n R = answered n (plain.meaning (outer_fields fs n) n.outer (outer_records fs n R))

unfoldable pub partial_of : Fields → NestedQuery → List Node → Partial
partial_of fs n R = plain_partials.partial_of (outer_fields fs n) n.outer (outer_records fs n R)

unfoldable pub Stands : Fields → NestedQuery → List Node → Partial → Type 0
Stands fs n R p = p ≡ partial_of fs n R

-- the result of a query of which this is the partial of all records
unfoldable pub finished : NestedQuery → Partial → List Object
finished n p = answered n (plain_partials.finished n.outer p)

-- the query that reads the table
abbrev pub innermost : List plain.Query → plain.Query → plain.Query
innermost [] q = q
innermost (p ∷ ps) q = p

-- the leaves of the table that it uses: those of the innermost query
unfoldable pub query_leaves : Fields → NestedQuery → List Leaf
query_leaves fs n = plain_leaves.query_leaves fs (innermost n.inner n.outer)

-- what is put to a tablet: the leaf query of the outermost over the same results. Neither order nor limit goes below
-- the root
unfoldable pub leaf_query : NestedQuery → NestedQuery
leaf_query n = record { inner = n.inner; outer = plain_rewriting.leaf_query n.outer; order = None; limit = None }
