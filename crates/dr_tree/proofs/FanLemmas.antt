-- The tree of a fan, level by level.
use Rattle.std.specs.Prelude.{◌≡◌, ◌≤◌, ◌<◌, ℕ, zero, suc, ◌+◌, ◌-◌, ◌++◌, List, [], ◌∷◌, map, length, take, drop, Box, Vec}
use Rattle.std.specs.declared.alloc.Global.{Global}
use Rattle.std.specs.List.{range_with_len}
use Rattle.std.proofs.Common.{refl, sym, ap, ap₂, ◌∙◌, arith, append_assoc, length-drop}
use Rattle.std.proofs.lemmas.List.{map-append, take-map, drop-map}
use Rattle.std.proofs.lemmas.List.FromFn.{map-range_with_len_more}
use Rattle.dr_partials.specs.Trees.{Tree, leaf_server, intermediate_server, trees_of, Chunk, chunks_at_most, server_of, grow, of_fan}
use Rattle.dr_tree.specs.Fan.{servers_of, all_grown}
use Rattle.dr_tree.specs.Views.{tree_view, all_views}
use Rattle.dr_tree.specs.declared.tree.Tree as code
use Rattle.dr_tree.specs.declared.tree.Tree.TheVariants as variants
use Rattle.dr_tree.proofs.ViewLemmas.{view-leaf, view-inner}

-- as many chunks as there are trees are enough
enough_chunks : (most enough fan : ℕ) (ts : List Tree) → length ts ≤ most → length ts ≤ enough → chunks_at_most most fan ts ≡ chunks_at_most enough fan ts
enough_chunks zero zero fan ts h k = refl
enough_chunks zero (suc n) fan [] h k = refl
enough_chunks zero (suc n) fan (t ∷ ts) h k = absurd (omega (arith, h))
enough_chunks (suc m) zero fan [] h k = refl
enough_chunks (suc m) zero fan (t ∷ ts) h k = absurd (omega (arith, k))
enough_chunks (suc m) (suc n) fan [] h k = refl
enough_chunks (suc m) (suc n) fan (t ∷ ts) h k =
    let left = length-drop (fan - 1) ts in
    ap (λ (cs : List Chunk). record { first = t; others = take (fan - 1) ts } ∷ cs)
    (enough_chunks m n fan (drop (fan - 1) ts) (omega (arith, h, left)) (omega (arith, k, left)))

pub servers_more : (more : ℕ) (t : Tree) (ts : List Tree) → servers_of more (t ∷ ts) ≡ intermediate_server t (trees_of (take more ts)) ∷ servers_of more (drop more ts)
servers_more more t ts =
    let e : suc more - 1 ≡ more = omega arith in
    ap (λ k. intermediate_server t (trees_of (take k ts)) ∷ map server_of (chunks_at_most (length ts) (suc more) (drop k ts))) e
    ∙ ap (λ cs. intermediate_server t (trees_of (take more ts)) ∷ map server_of cs)
    (enough_chunks (length ts) (length (drop more ts)) (suc more) (drop more ts) (omega (arith, length-drop more ts)) (omega arith))

-- several trees grow by a level
pub grown_level : (k more : ℕ) (ts : List Tree) → 1 < length ts → all_grown (suc k) more ts ≡ all_grown k more (servers_of more ts)
grown_level k more [] h = absurd (omega (arith, h))
grown_level k more (t ∷ []) h = absurd (omega (arith, h))
grown_level k more (t ∷ u ∷ us) h = refl

-- one tree stays
pub grown_one : (k more : ℕ) (ts : List Tree) → length ts ≤ 1 → all_grown (suc k) more ts ≡ all_grown k more ts
grown_one k more [] h = refl
grown_one k more (t ∷ []) h = refl
grown_one k more (t ∷ u ∷ us) h = absurd (omega (arith, h))

-- of all leaf servers grows the tree of the fan
pub fan_grows : (n fan : ℕ) → 1 ≤ fan → all_grown n (fan - 1) (map leaf_server (range_with_len 0 n)) ≡ of_fan n fan
unfolding of_fan
fan_grows n fan h = let e : suc (fan - 1) ≡ fan = omega (arith, h) in ap (λ k. grow n k (map leaf_server (range_with_len 0 n))) e

-- ---- trees that are taken one after another

pub taken_more : {A : Type 0} (most k m : ℕ) (taken old new : List A) (x : A) → most - k ≡ suc m → old ≡ x ∷ new → (taken ++ x ∷ []) ++ take m new ≡ taken ++ take (most - k) old
taken_more most k m taken old new x e h =
    append_assoc taken (x ∷ []) (take m new) ∙ ap (λ zs. taken ++ zs) (sym (ap₂ (λ n zs. take n zs) e h))

pub left_more : {A : Type 0} (most k m : ℕ) (old new : List A) (x : A) → most - k ≡ suc m → old ≡ x ∷ new → drop m new ≡ drop (most - k) old
left_more most k m old new x e h = sym (ap₂ (λ n zs. drop n zs) e h)

abbrev the_nil : (A : Type 0) → List A
the_nil A = []

take_none : {A : Type 0} (n : ℕ) → take n (the_nil A) ≡ the_nil A
take_none zero = refl
take_none (suc n) = refl

drop_none : {A : Type 0} (n : ℕ) → drop n (the_nil A) ≡ the_nil A
drop_none zero = refl
drop_none (suc n) = refl

pub none_taken : {A : Type 0} (n : ℕ) (xs : List A) → xs ≡ [] → (take n xs ≡ []) × (drop n xs ≡ [])
none_taken n xs h = (ap (take n) h ∙ take_none n, ap (drop n) h ∙ drop_none n)

-- ---- a step of each loop

-- one tree after k others
pub server_more : (k : ℕ) (old new : List code.Tree) → all_views old ≡ map leaf_server (range_with_len 0 k) → new ≡ old ++ variants.Leaf k ∷ [] → all_views new ≡ map leaf_server (range_with_len 0 (k + 1))
server_more k old new h e =
    ap all_views e ∙ (map-append tree_view old (variants.Leaf k ∷ []) ∙ (ap₂ (λ xs (t : Tree). xs ++ t ∷ []) h (view-leaf k) ∙ sym (map-range_with_len_more leaf_server 0 k k (omega arith))))

-- the server of the next trees
pub next_server_is : (more : ℕ) (first : code.Tree) (box : Box code.Tree Global) (rest : Vec code.Tree Global) (old popped left : List code.Tree) → old ≡ first ∷ popped
    → box.value ≡ first → rest.items ≡ take more popped → left ≡ drop more popped
    → servers_of more (all_views old) ≡ tree_view (variants.Inner box rest) ∷ servers_of more (all_views left)
next_server_is more first box rest old popped left e b r l =
    let here : intermediate_server (tree_view first) (trees_of (take more (all_views popped))) ≡ tree_view (variants.Inner box rest) =
    ap₂ intermediate_server (ap tree_view (sym b)) (ap trees_of (take-map tree_view more popped ∙ ap all_views (sym r))) ∙ sym (view-inner box rest) in
    let behind : servers_of more (drop more (all_views popped)) ≡ servers_of more (all_views left) = ap (servers_of more) (drop-map tree_view more popped ∙ ap all_views (sym l)) in
    ap (λ xs. servers_of more (all_views xs)) e ∙ (servers_more more (tree_view first) (all_views popped) ∙ ap₂ (λ (t : Tree) ts. t ∷ ts) here behind)

-- a level more, and one tree that stays
pub grown_next : (levels k more : ℕ) (ts us : List Tree) → k < levels → 1 < length ts → us ≡ servers_of more ts → all_grown (levels - (k + 1)) more us ≡ all_grown (levels - k) more ts
grown_next levels k more ts us l h e =
    let m : suc (levels - (k + 1)) ≡ levels - k = omega (arith, l) in
    ap (all_grown (levels - (k + 1)) more) e ∙ (sym (grown_level (levels - (k + 1)) more ts h) ∙ ap (λ n. all_grown n more ts) m)

pub grown_still : (levels k more : ℕ) (ts : List Tree) → k < levels → length ts ≤ 1 → all_grown (levels - (k + 1)) more ts ≡ all_grown (levels - k) more ts
grown_still levels k more ts l h =
    let m : suc (levels - (k + 1)) ≡ levels - k = omega (arith, l) in sym (grown_one (levels - (k + 1)) more ts h) ∙ ap (λ n. all_grown n more ts) m
