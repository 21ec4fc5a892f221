-- A query has of projections to leaves that are enough for it the partial that it has of the records.
use Rattle.std.proofs.Common.{◌≡◌, List, [], ◌∷◌, ◌++◌, map, length, Bool, true, false, Option, Some, None, cond, refl, sym, ap, ap₂, ◌∙◌}
use Rattle.std.specs.Prelude.{option_map, filter}
use Rattle.std.specs.List.{filter_map, flat_map, cons_option}
use Rattle.std.specs.Ordering.{is_eq}
use Rattle.std.proofs.Math.Path.{fun_ext}
use Rattle.std.proofs.lemmas.Bool.{and_parts}
use Rattle.std.proofs.lemmas.List.{map-append, length-map}
use Rattle.std.proofs.lemmas.Simd.{map-map}
use Rattle.dr_meaning.specs.Schema.{Fields}
use Rattle.dr_meaning.specs.Path.{Step, longer}
use Rattle.dr_meaning.specs.Record.{Node, project}
use Rattle.dr_meaning.specs.Rows.{rows}
use Rattle.dr_meaning.specs.Expression.{Expression, paths_of, evaluate, expression_chain, longest_chain}
use Rattle.dr_meaning.specs.Kept.{kept}
use Rattle.dr_meaning.specs.Query.{GroupTerm, key, count_rows, aggregate, GroupItem, Selection, objects, groups, key_tuple, tuple_order, distinct_tuples, group_tuples, group_rows, meaning}
use Rattle.dr_meaning.specs.ProjectionLaws.{leads}
use Rattle.dr_meaning.specs.MeaningLaws.{condition_paths, group_term_paths, all_lead, covers}
use Rattle.dr_meaning.proofs.ProjectionLemmas.{rows_of_projection, values_of_projection}
use Rattle.dr_meaning.proofs.MeaningLemmas.{evaluate-project, kept-project, longest_chain-leads, longer-leads, both_lead, meaning_of_projection}
use Rattle.dr_partials.specs.Accumulators.{counted, accumulated}
use Rattle.dr_partials.specs.Partials.{lines, grouped, term_accumulator, partial_of}
use Rattle.dr_partials.specs.PartialLaws.{PartialOfProjection}
use Rattle.dr_partials.proofs.GroupLemmas.{Tuple, groups_at}
use Rattle.dr_partials.proofs.PartialLemmas.{accumulators_at}

-- ---- lists of projections

map_projected {ℓ} : {A : Type ℓ} (F : List (List Step)) (f : Node → A) → ((m : Node) → f (project F m) ≡ f m) → (ns : List Node) → map f (map (project F) ns) ≡ map f ns
map_projected F f h ns = map-map f (project F) ns ∙ ap (λ g. map g ns) (fun_ext h)

filter_projected : (F : List (List Step)) (f : Node → Bool) → ((m : Node) → f (project F m) ≡ f m) → (ns : List Node) → filter f (map (project F) ns) ≡ map (project F) (filter f ns)
filter_projected F f h [] = refl
filter_projected F f h (n ∷ ns) = ap₂ (λ b ms. cond b (project F n ∷ ms) ms) (h n) (filter_projected F f h ns) ∙ choice (f n)
  where
    choice : (b : Bool) → cond b (project F n ∷ map (project F) (filter f ns)) (map (project F) (filter f ns)) ≡ map (project F) (cond b (n ∷ filter f ns) (filter f ns))
    choice true = refl
    choice false = refl

kept_projected : (F : List (List Step)) (c : Option Expression) → all_lead F (condition_paths c) ≡ true → (ns : List Node) → filter_map (kept c) (map (project F) ns) ≡ map (project F) (filter_map (kept c) ns)
kept_projected F c h [] = refl
kept_projected F c h (n ∷ ns) = ap₂ cons_option (kept-project F c n h) (kept_projected F c h ns) ∙ by_kept (kept c n)
  where
    by_kept : (o : Option Node) → cons_option (option_map (project F) o) (map (project F) (filter_map (kept c) ns)) ≡ map (project F) (cons_option o (filter_map (kept c) ns))
    by_kept None = refl
    by_kept (Some m) = refl

rows_projected : (F : List (List Step)) (p : List Step) → leads p F ≡ true → (ns : List Node) → flat_map (rows p) (map (project F) ns) ≡ map (project F) (flat_map (rows p) ns)
rows_projected F p h [] = refl
rows_projected F p h (n ∷ ns) = ap₂ (λ a b. a ++ b) (rows_of_projection F p n h) (rows_projected F p h ns) ∙ sym (map-append (project F) (rows p n) (flat_map (rows p) ns))

-- ---- groups

tuple_projected : (F : List (List Step)) (keys : List (List Step)) (n : Node) → all_lead F keys ≡ true → key_tuple keys (project F n) ≡ key_tuple keys n
tuple_projected F [] n h = refl
tuple_projected F (p ∷ ps) n h =
    let k : (leads p F ≡ true) × (all_lead F ps ≡ true) = and_parts _ _ h in
    ap₂ (λ v t. v ∷ t) (values_of_projection F p n k.0) (tuple_projected F ps n k.1)

tuples_projected : (F : List (List Step)) (keys : List (List Step)) (ns : List Node) → all_lead F keys ≡ true → group_tuples keys (map (project F) ns) ≡ group_tuples keys ns
tuples_projected F [] ns h = refl
tuples_projected F (p ∷ ps) ns h =
    ap (λ ms. distinct_tuples (map (key_tuple (p ∷ ps)) ms)) (rows_projected F (longest_chain (p ∷ ps)) (longest_chain-leads (p ∷ ps) F h) ns)
    ∙ ap distinct_tuples (map_projected F (key_tuple (p ∷ ps)) (λ (m : Node). tuple_projected F (p ∷ ps) m h) (flat_map (rows (longest_chain (p ∷ ps))) ns))

group_projected : (F : List (List Step)) (keys : List (List Step)) (t : Tuple) (p : List Step) (ns : List Node) → all_lead F keys ≡ true → leads p F ≡ true → group_rows keys t p (map (project F) ns) ≡ map (project F) (group_rows keys t p ns)
group_projected F keys t p ns h l =
    let f : Node → Bool = λ (m : Node). is_eq (tuple_order (key_tuple keys m) t) in
    ap (filter f) (rows_projected F p l ns) ∙ filter_projected F f (λ (m : Node). ap (λ u. is_eq (tuple_order u t)) (tuple_projected F keys m h)) (flat_map (rows p) ns)

abbrev item_paths : List GroupItem → List (List Step)
item_paths items = flat_map (λ (i : GroupItem). group_term_paths i.term) items

accumulators_projected : (F : List (List Step)) (keys : List (List Step)) (items : List GroupItem) (ns : List Node) (t : Tuple) → all_lead F keys ≡ true → all_lead F (item_paths items) ≡ true
    → accumulators_at keys items (map (project F) ns) t ≡ accumulators_at keys items ns t
accumulators_projected F keys [] ns t h k = refl
accumulators_projected F keys (i ∷ items) ns t h k =
    let j = both_lead (group_term_paths i.term) (item_paths items) F k in
    ap₂ cons_option (by_term i.term j.0) (accumulators_projected F keys items ns t h j.1)
  where
    by_term : (g : GroupTerm) → all_lead F (group_term_paths g) ≡ true → term_accumulator keys t (map (project F) ns) g ≡ term_accumulator keys t ns g
    by_term (key j) l = refl
    by_term count_rows l =
        let p : List Step = longest_chain keys in
        ap (λ rs. Some (counted (length rs))) (group_projected F keys t p ns h (longest_chain-leads keys F h)) ∙ ap (λ n. Some (counted n)) (length-map (group_rows keys t p ns) (project F))
    by_term (aggregate a e) l =
        let p : List Step = longer (longest_chain keys) (expression_chain e) in
        ap (λ rs. Some (accumulated a (map (evaluate e) rs))) (group_projected F keys t p ns h (longer-leads (longest_chain keys) (expression_chain e) F (longest_chain-leads keys F h) (longest_chain-leads (paths_of e) F l)))
        ∙ ap (λ vs. Some (accumulated a vs)) (map_projected F (evaluate e) (λ (m : Node). evaluate-project F e m l) (group_rows keys t p ns))

projected : (fs : Fields) (c : Option Expression) (s : Selection) (F : List (List Step)) (R : List Node) → covers F (record { condition = c; selection = s }) ≡ true
    → partial_of fs (record { condition = c; selection = s }) (map (project F) R) ≡ partial_of fs (record { condition = c; selection = s }) R
unfolding partial_of meaning
projected fs c (objects items) F R h = ap lines (meaning_of_projection fs (record { condition = c; selection = objects items }) F R h)
projected fs c (groups keys items) F R h =
    let k = both_lead (condition_paths c) (keys ++ item_paths items) F h in
    let l = both_lead keys (item_paths items) F k.1 in
    let ns : List Node = filter_map (kept c) R in
    ap (λ ms. grouped (groups_at (accumulators_at keys items ms) (group_tuples keys ms))) (kept_projected F c k.0 R)
    ∙ ap₂ (λ f us. grouped (groups_at f us)) (fun_ext (λ (t : Tuple). accumulators_projected F keys items ns t l.0 l.1)) (tuples_projected F keys ns l.0)

pub partial_of_projection : PartialOfProjection
partial_of_projection fs q F R h = projected fs q.condition q.selection F R h
