-- All faults of a query, and the plan where there is none.
use Rattle.std.proofs.Common.{◌≡◌, List, ◌++◌, Option, Some, None, sym, ap, ◌∙◌, append_assoc}
use Rattle.std.specs.Prelude.{Result, Ok, Err, IfOk}
use Rattle.std.specs.List.{filter, list_any}
use Rattle.dr_meaning.specs.Schema.{Schema, Fields}
use Rattle.dr_meaning.specs.Path.{Step, Leaf, leaves, same_path}
use Rattle.dr_meaning.specs.Query.{Query, levels_of}
use Rattle.dr_meaning.specs.QueryLeaves.{in_reading_order, used_paths, query_leaves}
use Rattle.dr_meaning.specs.Syntax.{QuerySyntax}
use Rattle.dr_meaning.specs.BoundExpression.{BindFault}
use Rattle.dr_meaning.specs.Binding as meant
use Rattle.dr_meaning.specs.Binding.{first_fault, bind_parts, table_faults, part_faults, unrelated_faults, item_faults, duplicate_faults, passing, query_faults, query_of, unless_fault}
use Rattle.dr_paths.proofs.UsedLemmas.{leaves_of_used}
use Rattle.dr_resolve.specs.Faults.{earlier}
use Rattle.dr_resolve.proofs.FaultLemmas.{noted_behind}

-- the faults of the names, after which come those of all items
abbrev duplicates : Schema → QuerySyntax → List BindFault
duplicates s q = let b = bind_parts s.fields q in duplicate_faults (levels_of s.fields) b.is_record_query (passing b.items)

-- the first of all faults has been noted once those of the table, the parts and the rules above them have
pub all_noted : (s : Schema) (q : QuerySyntax) (none table parts rules : Option BindFault) → none ≡ None → table ≡ earlier none (first_fault (table_faults s.name q.table))
    → parts ≡ earlier table (first_fault (part_faults (bind_parts s.fields q)))
    → rules ≡ earlier parts (first_fault (unrelated_faults (bind_parts s.fields q) ++ (item_faults (bind_parts s.fields q) ++ duplicates s q)))
    → rules ≡ first_fault (query_faults s q (bind_parts s.fields q))
all_noted s q none table parts rules n t p r =
    let b = bind_parts s.fields q in
    let front = table_faults s.name q.table ++ part_faults b in
    noted_behind none parts rules front (unrelated_faults b ++ (item_faults b ++ duplicates s q)) (noted_behind none table parts (table_faults s.name q.table) (part_faults b) t p) r
    ∙ ap (λ f. earlier f (first_fault (front ++ (unrelated_faults b ++ (item_faults b ++ duplicates s q))))) n
    ∙ ap first_fault (sym (append_assoc front (unrelated_faults b) (item_faults b ++ duplicates s q)) ∙ sym (append_assoc (front ++ unrelated_faults b) (item_faults b) (duplicates s q)))

-- a query of which this is the first fault
pub refused_with : (s : Schema) (q : QuerySyntax) (f : BindFault) → first_fault (query_faults s q (bind_parts s.fields q)) ≡ Some f → meant.bind s q ≡ Err f
unfolding meant.bind
refused_with s q f h = ap (λ x. unless_fault x (query_of (bind_parts s.fields q))) h

-- a query that has none
pub bound_without_faults : (s : Schema) (q : QuerySyntax) → first_fault (query_faults s q (bind_parts s.fields q)) ≡ None → meant.bind s q ≡ Ok (query_of (bind_parts s.fields q))
unfolding meant.bind
bound_without_faults s q h = ap (λ x. unless_fault x (query_of (bind_parts s.fields q))) h

-- the leaves on which the paths of some values end, where a query uses just these values
pub leaves_are_used : (fs : Fields) (q : Query) (ls : List Leaf) (ps : List (List Step)) → ls ≡ in_reading_order fs (filter (λ (l : Leaf). list_any (same_path l.path) ps) (leaves fs))
    → ps ≡ used_paths q → ls ≡ query_leaves fs q
leaves_are_used fs q ls ps h u = h ∙ leaves_of_used fs q ps u

-- what follows of a value, if there is one
pub if_ok : {A E : Type 0} (P T : A → Type 0) (r : Result A E) → ((x : A) → P x → T x) → IfOk r P → IfOk r T
if_ok P T (Ok x) f p = f x p
if_ok P T (Err e) f p = tt
