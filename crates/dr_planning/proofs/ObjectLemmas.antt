-- The trees of objects over levels with joined names.
use Rattle.std.specs.Prelude.{◌≡◌, ◌<◌, ℕ, suc, ◌+◌, List, [], ◌∷◌, ◌++◌, map, length, get_or, drop, Bool, true, false, ◌||◌, if◌then◌else◌, Vec, String, string_bytes}
use Rattle.std.specs.List.{list_any, join_with_byte}
use Rattle.std.specs.declared.alloc.Global.{Global}
use Rattle.std.proofs.Common.{refl, sym, ap, ap₂, ◌∙◌, rules}
use Rattle.dr_meaning.specs.Schema.{Fields}
use Rattle.dr_meaning.specs.Path.{Step, begins_with, same_path}
use Rattle.dr_meaning.specs.Query.{RecordItem, term_chain, Levels, no_levels, deeper, levels_of, leads_to_items}
use denote.Ref.{Bor}
use Rattle.dr_nested.specs.PathView.{step_view, lent_path}
use Rattle.dr_nested.specs.declared.path.Step as steps
use Rattle.dr_plan.specs.Objects.{ObjectTree, object_tree, ListTrees, no_lists, list_tree, with_list_tree, places_at, list_trees, object_tree_of, object_view, SeenList}
use Rattle.dr_plan.specs.declared.objects.ObjectPlan as objects
use Rattle.dr_plan.specs.declared.objects.ListPlan as lists
use Rattle.dr_planning.specs.NamedLevels.{NamedLevels, joined, levels_view, level_view, named}
use Rattle.dr_planning.specs.Trees.{numbers_at, leads_to, named_trees, named_object, append_lists, list_view, lists_view}
use Rattle.dr_planning.specs.declared.listed.Listed as levels
use Rattle.dr_planning.proofs.EntryLemmas.{levels_from}

-- ---- the view of a plan

pub view-object : (ns : Vec ℕ Global) (ls : Vec lists.ListPlan Global) → object_view (objects.roll-ObjectPlan (record { items = ns; lists = ls })) ≡ object_tree ns.items (lists_view ls.items)
view-object ns ls = search (rules, objects.the_lemmas, lists.the_lemmas)

pub view-list : (n : String Global) (p : Vec steps.Step Global) (o : objects.ObjectPlan)
    → list_view (lists.roll-ListPlan (record { name = n; level = p; object = o })) ≡ record { name = string_bytes n; level = map step_view p.items; object = object_view o }
view-list n p o = search (rules, lists.the_lemmas, objects.the_lemmas)

pub append_lists-none : (ls : ListTrees) → append_lists ls no_lists ≡ ls
append_lists-none no_lists = refl
append_lists-none (list_tree n p o ls) = ap (list_tree n p o) (append_lists-none ls)

pub append_lists-assoc : (ks ls ms : ListTrees) → append_lists (append_lists ks ls) ms ≡ append_lists ks (append_lists ls ms)
append_lists-assoc no_lists ls ms = refl
append_lists-assoc (list_tree n p o ks) ls ms = ap (list_tree n p o) (append_lists-assoc ks ls ms)

pub lists_view-append : (ks ls : List lists.ListPlan) → lists_view (ks ++ ls) ≡ append_lists (lists_view ks) (lists_view ls)
lists_view-append [] ls = refl
lists_view-append (k ∷ ks) ls = ap (list_tree (list_view k).name (list_view k).level (list_view k).object) (lists_view-append ks ls)

-- ---- in the words of the definition

abbrev pub item_chains : List RecordItem → List (List Step)
item_chains its = map (λ (i : RecordItem). term_chain i.term) its

numbers-places : (its : List RecordItem) (n : ℕ) (p : List Step) → places_at n its p ≡ numbers_at n (item_chains its) p
numbers-places [] n p = refl
numbers-places (i ∷ its) n p = ap (λ (ns : List ℕ). if same_path p (term_chain i.term) then n ∷ ns else ns) (numbers-places its (suc n) p)

leads-items : (its : List RecordItem) (p : List Step) → leads_to_items its p ≡ leads_to (item_chains its) p
leads-items [] p = refl
leads-items (i ∷ its) p = ap (λ (b : Bool). begins_with p (term_chain i.term) || b) (leads-items its p)

pub list_trees-joined : (its : List RecordItem) (ls : Levels) → named_trees (item_chains its) (joined ls) ≡ list_trees its ls
list_trees-joined its no_levels = refl
list_trees-joined its (deeper ns p below others) =
    sym (ap₂ (λ (b : Bool) (rest : ListTrees). with_list_tree b (join_with_byte 46 ns) p (object_tree (places_at 0 its p) (list_trees its below)) rest) (leads-items its p) (sym (list_trees-joined its others))
    ∙ ap₂ (λ (ms : List ℕ) (inner : ListTrees). with_list_tree (leads_to (item_chains its) p) (join_with_byte 46 ns) p (object_tree ms inner) (named_trees (item_chains its) (joined others)))
    (numbers-places its 0 p) (sym (list_trees-joined its below)))

-- the law: over the levels of a schema and the levels of items this is the definition's tree
pub object_tree-named : (qs : List (List Step)) (ns : NamedLevels) (fs : Fields) (its : List RecordItem) → ns ≡ joined (levels_of fs) → item_chains its ≡ qs → named_object qs ns ≡ object_tree_of fs its
object_tree-named qs ns fs its e q =
    ap₂ named_object (sym q) e ∙ ap₂ object_tree (sym (numbers-places its 0 [])) (list_trees-joined its (levels_of fs))

-- ---- one list after another

pub leads_to-lent : (items : List (Bor (List steps.Step))) (p : List Step) → list_any (λ q. begins_with p (lent_path q)) items ≡ leads_to (map lent_path items) p
leads_to-lent [] p = refl
leads_to-lent (q ∷ items) p = ap (λ (b : Bool). begins_with p (lent_path q) || b) (leads_to-lent items p)

-- the object of a level
abbrev object_below : List (List Step) → levels.Listed → ObjectTree
object_below qs l = object_tree (numbers_at 0 qs (level_view l).path) (named_trees qs (level_view l).below)

abbrev list_if : List (List Step) → levels.Listed → Bool → ListTrees → ListTrees
list_if qs l b rest = with_list_tree b (level_view l).name (level_view l).path (object_below qs l) rest

-- a level that leads to no items
pub no_list_more : (qs : List (List Step)) (l : levels.Listed) (before : ListTrees) → leads_to qs (level_view l).path ≡ false
    → before ≡ append_lists before (named_trees qs (levels_view (l ∷ [])))
no_list_more qs l before h = sym (ap (λ (b : Bool). append_lists before (list_if qs l b no_lists)) h ∙ append_lists-none before)

-- a level that leads to items
pub list_more : (qs : List (List Step)) (l : levels.Listed) (before after : List lists.ListPlan) (made : lists.ListPlan) (o : ObjectTree)
    → after ≡ before ++ made ∷ [] → leads_to qs (level_view l).path ≡ true → list_view made ≡ record { name = (level_view l).name; level = (level_view l).path; object = o }
    → o ≡ object_tree (numbers_at 0 qs (level_view l).path) (named_trees qs (level_view l).below)
    → lists_view after ≡ append_lists (lists_view before) (named_trees qs (levels_view (l ∷ [])))
list_more qs l before after made o pushed h e f =
    ap lists_view pushed ∙ lists_view-append before (made ∷ [])
    ∙ ap (append_lists (lists_view before)) (ap (λ (s : SeenList). list_tree s.name s.level s.object no_lists) e
    ∙ ap (λ (t : ObjectTree). list_tree (level_view l).name (level_view l).path t no_lists) f
    ∙ sym (ap (λ (b : Bool). list_if qs l b no_lists) h))

trees_by : (b : Bool) (n : List ℕ) (p : List Step) (o : ObjectTree) (rest : ListTrees) → with_list_tree b n p o rest ≡ append_lists (with_list_tree b n p o no_lists) rest
trees_by true n p o rest = refl
trees_by false n p o rest = refl

-- the trees of a level before those behind it
pub trees_more : (qs : List (List Step)) (ls : List levels.Listed) (k : ℕ) (l : levels.Listed) (before after : ListTrees) → k < length ls → l ≡ get_or ls k l
    → after ≡ append_lists before (named_trees qs (levels_view (l ∷ [])))
    → append_lists after (named_trees qs (levels_view (drop (k + 1) ls))) ≡ append_lists before (named_trees qs (levels_view (drop k ls)))
trees_more qs ls k l before after h at e =
    let rest : ListTrees = named_trees qs (levels_view (drop (k + 1) ls)) in
    let next : levels_view (drop k ls) ≡ named (level_view l).name (level_view l).path (level_view l).below (levels_view (drop (k + 1) ls)) = levels_from ls k l h at in
    ap (λ (t : ListTrees). append_lists t rest) e
    ∙ append_lists-assoc before (named_trees qs (levels_view (l ∷ []))) rest
    ∙ ap (append_lists before) (sym (ap (named_trees qs) next ∙ trees_by (leads_to qs (level_view l).path) (level_view l).name (level_view l).path (object_below qs l) rest))
