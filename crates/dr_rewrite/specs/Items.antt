-- The items of a plan's queries, as they are written.
use Rattle.std.specs.Prelude.{ℕ, suc, List, [], ◌∷◌, ◌++◌, codes, string_bytes, decimal, Option, Some, None}
use Rattle.std.specs.List.{slice_get}
use Rattle.dr_meaning.specs.Query as query
use Rattle.dr_partials.specs.Rewriting.{merging_aggregate}
use Rattle.dr_partials.specs.RewritingText.{aggregate_word, group_term_text, in_parentheses, in_quotes, named, record_term_text}
use Rattle.dr_plan.specs.declared.aggregate.Aggregate.{Aggregate}
use Rattle.dr_plan.specs.declared.plan.GroupItem.{GroupItem}
use Rattle.dr_plan.specs.declared.plan.GroupTerm.{GroupTerm}
use Rattle.dr_plan.specs.declared.plan.RecordItem.{RecordItem}
use Rattle.dr_plan.specs.Views.{aggregate_view, fold_view, path_of, record_term_view}
use Rattle.dr_rewrite.specs.Writing.{written_leaves, written_path}
use Rattle.dr_rewrite.specs.declared.paths.Names.{Names}

-- a text of each, by its place, of which the first is the nth
abbrev pub indexed : {A B : Type 0} → (ℕ → A → B) → ℕ → List A → List B
indexed f n [] = []
indexed f n (x ∷ xs) = f n x ∷ indexed f (suc n) xs

-- an item of a record query, with its name
abbrev pub record_item_text : Names → RecordItem → List ℕ
record_item_text n i = named (record_term_text (written_path n) (record_term_view (written_leaves n) i.term)) (in_quotes (string_bytes i.name))

-- what servers call keys and aggregates: k0, k1, .., a0, a1, ..
abbrev pub key_name : ℕ → List ℕ
key_name i = codes "k" ++ decimal i

abbrev pub aggregate_name : ℕ → List ℕ
aggregate_name i = codes "a" ++ decimal i

-- the path of a key
abbrev pub key_text : Names → ℕ → List ℕ
key_text n k = written_path n (path_of (slice_get (written_leaves n) k))

-- a key, and an aggregate, as items of the leaf query
abbrev pub leaf_key : Names → ℕ → ℕ → List ℕ
leaf_key n i k = named (key_text n k) (key_name i)

abbrev pub leaf_aggregate : Names → ℕ → Aggregate → List ℕ
leaf_aggregate n i a = named (group_term_text (written_path n) [] (aggregate_view (written_leaves n) a)) (aggregate_name i)

-- the aggregate that merges what another has gathered
abbrev pub merging_word : Aggregate → List ℕ
merging_word Aggregate.Rows = aggregate_word query.sum
merging_word (Aggregate.Of f e) = aggregate_word (merging_aggregate (fold_view f))

abbrev pub merging_text : ℕ → Aggregate → List ℕ
merging_text i a = merging_word a ++ in_parentheses (aggregate_name i)

-- an aggregate as an item of the inner query
abbrev pub inner_aggregate : ℕ → Aggregate → List ℕ
inner_aggregate i a = named (merging_text i a) (aggregate_name i)

-- the aggregate of a number, merged
abbrev pub merging_word_at : Option Aggregate → List ℕ
merging_word_at None = aggregate_word query.sum
merging_word_at (Some a) = merging_word a

-- what an item of the root query gives, where these are the aggregates
abbrev pub root_term : List Aggregate → GroupTerm → List ℕ
root_term gs (GroupTerm.Key k) = key_name k
root_term gs (GroupTerm.Aggregate a) = merging_word_at (slice_get gs a) ++ in_parentheses (aggregate_name a)

-- an item of the root query, with its name
abbrev pub root_item : List Aggregate → GroupItem → List ℕ
root_item gs i = named (root_term gs i.term) (in_quotes (string_bytes i.name))
