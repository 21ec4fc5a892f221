-- The longest of several chains.
use Rattle.std.specs.Prelude.{◌≡◌, ◌<◌, ◌≤◌, ◌+◌, ℕ, List, [], ◌∷◌, ◌++◌, length, drop, get_or}
use Rattle.std.specs.List.{slice_get, flat_map}
use Rattle.std.proofs.Common.{refl, sym, ap, ◌∙◌, arith, inl, inr, ◌⊎◌}
use Rattle.std.proofs.lemmas.List.{drop_more, drop_all}
use Rattle.std.proofs.lemmas.Bool.Decides.{leb_tells}
use Rattle.dr_meaning.specs.Path.{Step, Leaf, chain_end, longer}
use Rattle.dr_meaning.specs.Expression.{Expression, paths_of, longest_chain, expression_chain}
use Rattle.dr_plan.specs.Views.{leaf_value, path_of}
use Rattle.dr_paths.proofs.ChainLemmas.{longer-first, longer-second}

pub longer_none : (p : List Step) → longer [] p ≡ p
longer_none [] = refl
longer_none (s ∷ p) = refl

pub longer_end : (p : List Step) → longer p [] ≡ p
longer_end p = longer-first p [] (omega arith)

by_lengths : (p q : List Step) → (length p < length q) ⊎ (length q ≤ length p)
by_lengths p q = elim (leb_tells (length q) (length p)) [ inl h ↦ inr h.1 | inr h ↦ inl h.1 ]

assoc_cases : (p q r : List Step) → ((length p < length q) ⊎ (length q ≤ length p)) → ((length q < length r) ⊎ (length r ≤ length q)) → ((length p < length r) ⊎ (length r ≤ length p)) → longer p (longer q r) ≡ longer (longer p q) r
assoc_cases p q r (inl a) (inl b) c = ap (longer p) (longer-second q r b) ∙ longer-second p r (omega arith) ∙ sym (longer-second q r b) ∙ ap (λ (x : List Step). longer x r) (sym (longer-second p q a))
assoc_cases p q r (inl a) (inr b) c = ap (longer p) (longer-first q r b) ∙ longer-second p q a ∙ sym (longer-first q r b) ∙ ap (λ (x : List Step). longer x r) (sym (longer-second p q a))
assoc_cases p q r (inr a) (inl b) c = ap (longer p) (longer-second q r b) ∙ ap (λ (x : List Step). longer x r) (sym (longer-first p q a))
assoc_cases p q r (inr a) (inr b) c = ap (longer p) (longer-first q r b) ∙ longer-first p q a ∙ sym (longer-first p r (omega arith)) ∙ ap (λ (x : List Step). longer x r) (sym (longer-first p q a))

pub longer_assoc : (p q r : List Step) → longer p (longer q r) ≡ longer (longer p q) r
longer_assoc p q r = assoc_cases p q r (by_lengths p q) (by_lengths q r) (by_lengths p r)

-- the paths of several, one behind another
pub longest_append : (ps qs : List (List Step)) → longest_chain (ps ++ qs) ≡ longer (longest_chain ps) (longest_chain qs)
longest_append [] qs = sym (longer_none (longest_chain qs))
longest_append (p ∷ ps) qs = ap (longer (chain_end p)) (longest_append ps qs) ∙ longer_assoc (chain_end p) (longest_chain ps) (longest_chain qs)

-- of two operands
pub chain_of_both : (a b : Expression) → longest_chain (paths_of a ++ paths_of b) ≡ longer (expression_chain a) (expression_chain b)
chain_of_both a b = longest_append (paths_of a) (paths_of b)

-- of a leaf
pub chain_of_leaf : (ls : List Leaf) (i : ℕ) → expression_chain (leaf_value ls i) ≡ chain_end (path_of (slice_get ls i))
chain_of_leaf ls i = longer_end (chain_end (path_of (slice_get ls i)))

-- ---- one more, from a place on

level_next : {A : Type 0} (f : A → List (List Step)) (xs : List A) (k : ℕ) (x : A) → k < length xs → x ≡ get_or xs k x
    → longest_chain (flat_map f (drop k xs)) ≡ longer (longest_chain (f x)) (longest_chain (flat_map f (drop (k + 1) xs)))
level_next f xs k x h g =
    ap (λ ys. longest_chain (flat_map f ys)) (drop_more xs k x h ∙ ap (λ y. y ∷ drop (k + 1) xs) (sym g)) ∙ longest_append (f x) (flat_map f (drop (k + 1) xs))

-- the longest so far, with one more
pub level_more : {A : Type 0} (f : A → List (List Step)) (xs : List A) (k : ℕ) (x : A) (p q r : List Step) → k < length xs → x ≡ get_or xs k x → q ≡ longest_chain (f x) → r ≡ longer p q
    → longer r (longest_chain (flat_map f (drop (k + 1) xs))) ≡ longer p (longest_chain (flat_map f (drop k xs)))
level_more f xs k x p q r h g e d =
    let rest = longest_chain (flat_map f (drop (k + 1) xs)) in
    ap (λ y. longer y rest) (d ∙ ap (longer p) e) ∙ sym (longer_assoc p (longest_chain (f x)) rest) ∙ ap (longer p) (sym (level_next f xs k x h g))

pub level_all : {A : Type 0} (f : A → List (List Step)) (xs : List A) (k : ℕ) (p : List Step) → length xs ≤ k → longer p (longest_chain (flat_map f (drop k xs))) ≡ p
level_all f xs k p h = ap (λ ys. longer p (longest_chain (flat_map f ys))) (drop_all k xs h) ∙ longer_end p

pub level_start : {A : Type 0} (f : A → List (List Step)) (xs : List A) → longer [] (longest_chain (flat_map f (drop 0 xs))) ≡ longest_chain (flat_map f xs)
level_start f xs = longer_none (longest_chain (flat_map f xs))
