-- Putting: how groups are gathered of rows, one value of one row at a time, in any order.
use Rattle.std.specs.Prelude.{◌≡◌, ℕ, zero, suc, true, List, [], ◌∷◌, ◌++◌, map, Option, Some, None}
use Rattle.std.specs.List.{filter_map, flat_map, list_all}
use Rattle.std.specs.Ordering.{match_ordering}
use Rattle.dr_meaning.specs.Path.{Step, longer}
use Rattle.dr_meaning.specs.Schema.{Fields}
use Rattle.dr_meaning.specs.Record.{Value, Node, is_record}
use Rattle.dr_meaning.specs.Rows.{rows}
use Rattle.dr_meaning.specs.Expression.{evaluate, expression_chain, longest_chain}
use Rattle.dr_meaning.specs.Kept.{kept}
use Rattle.dr_meaning.specs.Query.{GroupTerm, key, count_rows, aggregate, GroupItem, Selection, objects, groups, Query, key_tuple, tuple_order}
use Rattle.dr_partials.specs.Accumulators.{Accumulator, take_value, take_row}
use Rattle.dr_partials.specs.Partials.{Group, Partial, grouped, partial_of, merge, empty_term}
use Rattle.dr_partials.specs.PartialTypes.{aggregates_among, is_partial}
use Rattle.dr_partials.specs.PartialLaws.{is_mergeable}

-- a value, or NULL, for one of the query's aggregates, by its place among them
pub record Taken : Type 0 where
  pub aggregate : ℕ
  pub value : Option Value

-- a key tuple, and what is taken into its group, if anything
pub record Put : Type 0 where
  pub keys : List (Option Value)
  pub taken : Option Taken

-- COUNT(*) takes a row, whatever the value; a key takes nothing
abbrev pub take_one : GroupTerm → Option Value → Accumulator → Accumulator
take_one (key i) v x = x
take_one count_rows v x = take_row x
take_one (aggregate a e) v x = take_value x v

-- the accumulator at this place takes the value
abbrev pub take_at : List GroupTerm → ℕ → Option Value → List Accumulator → List Accumulator
take_at [] i v xs = xs
take_at (t ∷ ts) i v [] = []
take_at (t ∷ ts) zero v (x ∷ xs) = take_one t v x ∷ xs
take_at (t ∷ ts) (suc i) v (x ∷ xs) = x ∷ take_at ts i v xs

abbrev pub taken_into : List GroupTerm → Option Taken → List Accumulator → List Accumulator
taken_into ts None xs = xs
taken_into ts (Some t) xs = take_at ts t.aggregate t.value xs

-- the accumulators of a group of no rows
abbrev pub empty_accumulators : List GroupItem → List Accumulator
empty_accumulators items = filter_map (λ (i : GroupItem). empty_term i.term) items

-- a group with these accumulators, in which is taken what is put
abbrev pub put_into : List GroupItem → Put → List Accumulator → Group
put_into items p xs = record { keys = p.keys; accumulators = taken_into (aggregates_among items) p.taken xs }

-- into the group of the key tuple among ascending ones, which is made where it isn't there
abbrev pub put_group : List GroupItem → Put → List Group → List Group
put_group items p [] = put_into items p (empty_accumulators items) ∷ []
put_group items p (g ∷ gs) = match_ordering (tuple_order p.keys g.keys) (put_into items p (empty_accumulators items) ∷ g ∷ gs)
    (put_into items p g.accumulators ∷ gs) (g ∷ put_group items p gs)

-- lines take nothing so
abbrev pub put_selected : Selection → Put → Partial → Partial
put_selected (groups keys items) p (grouped gs) = grouped (put_group items p gs)
put_selected s p r = r

unfoldable pub put : Query → Put → Partial → Partial
put q p r = put_selected q.selection p r

-- one after another
abbrev pub put_all : Query → List Put → Partial → Partial
put_all q [] r = r
put_all q (p ∷ ps) r = put_all q ps (put q p r)

-- ---- what is put of records

-- of each of these rows its key tuple, with the value that one of the aggregates takes
abbrev pub puts_of_rows : List (List Step) → ℕ → (Node → Option Value) → List Node → List Put
puts_of_rows keys i value ns = map (λ (row : Node). record { keys = key_tuple keys row; taken = Some (record { aggregate = i; value = value row }) }) ns

-- for aggregates of which the first is the ith: the rows over which each goes, with the values of its argument
abbrev pub puts_of_terms : List (List Step) → ℕ → List GroupTerm → List Node → List Put
puts_of_terms keys i [] ns = []
puts_of_terms keys i (key j ∷ ts) ns = puts_of_terms keys (suc i) ts ns
puts_of_terms keys i (count_rows ∷ ts) ns = puts_of_rows keys i (λ row. None) (flat_map (rows (longest_chain keys)) ns) ++ puts_of_terms keys (suc i) ts ns
puts_of_terms keys i (aggregate a e ∷ ts) ns =
    puts_of_rows keys i (evaluate e) (flat_map (rows (longer (longest_chain keys) (expression_chain e))) ns) ++ puts_of_terms keys (suc i) ts ns

-- each row of the keys' chain makes its group; then come the aggregates
abbrev pub puts_of_selection : Selection → List Node → List Put
puts_of_selection (objects items) ns = []
puts_of_selection (groups keys items) ns =
    map (λ (row : Node). record { keys = key_tuple keys row; taken = None }) (flat_map (rows (longest_chain keys)) ns)
    ++ puts_of_terms keys 0 (aggregates_among items) ns

-- what is put of the records that the condition leaves
abbrev pub puts_of : Query → List Node → List Put
puts_of q R = puts_of_selection q.selection (filter_map (kept q.condition) R)

-- ---- laws

-- put into groups, that is what is merged with the partial of the records
abbrev pub PutsAreMerged : Type 0
PutsAreMerged = (fs : Fields) (q : Query) (R : List Node) (gs : List Group) → is_mergeable fs q ≡ true → list_all (is_record fs) R ≡ true
    → is_partial fs q (grouped gs) ≡ true → put_all q (puts_of q R) (grouped gs) ≡ merge (grouped gs) (partial_of fs q R)

-- in any order
abbrev pub PutsCommute : Type 0
PutsCommute = (fs : Fields) (q : Query) (p r : Put) (gs : List Group) → is_partial fs q (grouped gs) ≡ true
    → put q p (put q r (grouped gs)) ≡ put q r (put q p (grouped gs))
