-- What trees stand for, constructor by constructor; how large they are; a last child.
use Rattle.std.specs.Prelude.{◌≡◌, ◌≤◌, ◌<◌, ℕ, ◌+◌, ◌++◌, List, [], ◌∷◌, length, drop, get_or, Box, Vec}
use Rattle.std.specs.declared.alloc.Global.{Global}
use Rattle.std.proofs.Common.{refl, sym, ap, ◌∙◌, rules, arith, append_assoc, append-nil, length-append}
use Rattle.std.proofs.lemmas.List.{map-append, drop_more}
use Rattle.dr_partials.specs.Trees.{Tree, leaf_server, intermediate_server, Trees, no_trees, next_tree, trees_of, tablets_of, tablets_of_all, gathered, gathered_behind}
use Rattle.dr_partials.specs.Partials.{Partial, merge}
use Rattle.dr_tree.specs.Views.{tree_view, all_views, trees_view}
use Rattle.dr_tree.specs.declared.tree.Tree as code
use Rattle.dr_tree.specs.declared.tree.Tree.TheVariants as variants

pub view-leaf : (t : ℕ) → tree_view (variants.Leaf t) ≡ leaf_server t
view-leaf t = search (rules, code.the_lemmas)

pub view-inner : (first : Box code.Tree Global) (rest : Vec code.Tree Global) → tree_view (variants.Inner first rest) ≡ intermediate_server (tree_view first.value) (trees_view rest.items)
view-inner first rest = search (rules, code.the_lemmas)

-- ---- the size of a tree, which falls with each step down

abbrev mutual
  pub size : Tree → ℕ
  size (leaf_server t) = 1
  size (intermediate_server t ts) = 2 + size t + sizes ts

  pub sizes : Trees → ℕ
  sizes no_trees = 0
  sizes (next_tree t ts) = 1 + size t + sizes ts

pub has_size : (t : Tree) → 1 ≤ size t
has_size (leaf_server t) = omega arith
has_size (intermediate_server t ts) = omega arith

-- ---- a last child

pub sizes_last : (ts : List Tree) (t : Tree) → sizes (trees_of (ts ++ t ∷ [])) ≡ sizes (trees_of ts) + 1 + size t
sizes_last [] t = omega arith
sizes_last (u ∷ ts) t = let e = sizes_last ts t in omega (arith, e)

pub tablets_last : (ts : List Tree) (t : Tree) → tablets_of_all (trees_of (ts ++ t ∷ [])) ≡ tablets_of_all (trees_of ts) ++ tablets_of t
tablets_last [] t = append-nil (tablets_of t)
tablets_last (u ∷ ts) t = ap (λ xs. tablets_of u ++ xs) (tablets_last ts t) ∙ sym (append_assoc (tablets_of u) (tablets_of_all (trees_of ts)) (tablets_of t))

pub gathered_last : (piece : ℕ → Partial) (p : Partial) (ts : List Tree) (t : Tree)
    → gathered_behind piece p (trees_of (ts ++ t ∷ [])) ≡ merge (gathered_behind piece p (trees_of ts)) (gathered piece t)
gathered_last piece p [] t = refl
gathered_last piece p (u ∷ ts) t = gathered_last piece (merge p (gathered piece u)) ts t

-- ---- counting

-- the trees from the ith on are the ith and those behind it
pub tablets_more : (ts : List code.Tree) (i : ℕ) (d : code.Tree) → i < length ts
    → length (tablets_of_all (trees_view (drop i ts))) ≡ length (tablets_of (tree_view (get_or ts i d))) + length (tablets_of_all (trees_view (drop (i + 1) ts)))
tablets_more ts i d h =
    ap (λ xs. length (tablets_of_all (trees_view xs))) (drop_more ts i d h)
    ∙ length-append (tablets_of (tree_view (get_or ts i d))) (tablets_of_all (trees_view (drop (i + 1) ts)))

-- the children of a server, of which the last is apart
pub last_apart : (rest front : List code.Tree) (last : code.Tree) → rest ≡ front ++ last ∷ [] → trees_view rest ≡ trees_of (all_views front ++ tree_view last ∷ [])
last_apart rest front last e = ap trees_view e ∙ ap trees_of (map-append tree_view front (last ∷ []))

-- the tablets of a server's children, and what they gather, with the last apart
pub tablets_apart : (first : List ℕ) (rest front : List code.Tree) (last : code.Tree) → rest ≡ front ++ last ∷ []
    → first ++ tablets_of_all (trees_view rest) ≡ (first ++ tablets_of_all (trees_view front)) ++ tablets_of (tree_view last)
tablets_apart first rest front last e =
    ap (λ ts. first ++ tablets_of_all ts) (last_apart rest front last e)
    ∙ (ap (λ xs. first ++ xs) (tablets_last (all_views front) (tree_view last)) ∙ sym (append_assoc first (tablets_of_all (trees_view front)) (tablets_of (tree_view last))))

pub gathered_apart : (piece : ℕ → Partial) (p : Partial) (rest front : List code.Tree) (last : code.Tree) → rest ≡ front ++ last ∷ []
    → gathered_behind piece p (trees_view rest) ≡ merge (gathered_behind piece p (trees_view front)) (gathered piece (tree_view last))
gathered_apart piece p rest front last e = ap (gathered_behind piece p) (last_apart rest front last e) ∙ gathered_last piece p (all_views front) (tree_view last)

pub count_apart : (first : List ℕ) (rest front : List code.Tree) (last : code.Tree) → rest ≡ front ++ last ∷ []
    → length (first ++ tablets_of_all (trees_view rest)) ≡ length (first ++ tablets_of_all (trees_view front)) + length (tablets_of (tree_view last))
count_apart first rest front last e =
    ap length (tablets_apart first rest front last e) ∙ length-append (first ++ tablets_of_all (trees_view front)) (tablets_of (tree_view last))
