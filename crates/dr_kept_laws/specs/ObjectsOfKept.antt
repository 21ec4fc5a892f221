-- The object of what a condition keeps of a record, told by the record itself: its lists have the instances of which a row of the chain is true.
use Rattle.std.specs.Prelude.{List, [], ◌∷◌, map, Bool, if◌then◌else◌, Option, filter}
use Rattle.dr_meaning.specs.Path.{Step, same_path}
use Rattle.dr_meaning.specs.Record.{Value, Node}
use Rattle.dr_meaning.specs.Rows.{is_present}
use Rattle.dr_meaning.specs.Expression.{evaluate, expression_chain}
use Rattle.dr_meaning.specs.Query.{RecordTerm, expression, within, RecordItem, Object, no_entries, cell, objects_of, over_rows, Levels}
use Rattle.dr_meaning.specs.Query.{no_levels, deeper, term_chain, leads_to_items, with_list}
use Rattle.dr_kept_laws.specs.RowsOfKept.{kept_rows}

-- the kept rows of a path within a row, without those in which its end is absent
abbrev pub kept_instances : List Step → List Step → (Node → Bool) → Node → List Node
kept_instances p c test row = filter (is_present p) (kept_rows p c test row)

-- an aggregate within a node goes over the kept rows of its argument
abbrev pub kept_value : List Step → (Node → Bool) → RecordTerm → Node → Option Value
kept_value c test (expression e) row = evaluate e row
kept_value c test (within a e node) row = over_rows a e (kept_rows (expression_chain e) c test row)

-- the items of a level before the rest of the object
abbrev pub kept_cells : List Step → (Node → Bool) → List RecordItem → List Step → Node → Object → Object
kept_cells c test [] p row rest = rest
kept_cells c test (i ∷ is) p row rest = if same_path p (term_chain i.term)
    then cell i.name (kept_value c test i.term row) (kept_cells c test is p row rest)
    else kept_cells c test is p row rest

-- for each next level that leads to items one list, of the object of each kept instance
abbrev pub kept_lists : List Step → (Node → Bool) → List RecordItem → Levels → Node → Object
kept_lists c test items no_levels row = no_entries
kept_lists c test items (deeper names p below beside) row = with_list (leads_to_items items p) names
    (objects_of (map (λ r. kept_cells c test items p r (kept_lists c test items below r)) (kept_instances p c test row)))
    (kept_lists c test items beside row)

-- the object of a record
abbrev pub kept_object : List Step → (Node → Bool) → List RecordItem → Levels → Node → Object
kept_object c test items levels n = kept_cells c test items [] n (kept_lists c test items levels n)
