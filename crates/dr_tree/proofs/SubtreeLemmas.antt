-- What came below the children of a root: one more below one of them, and all of them.
use Rattle.std.specs.Prelude.{◌≡◌, ◌<◌, ◌≤◌, ℕ, zero, suc, List, [], ◌∷◌, ◌++◌, length, take, drop, get_or, slice_set, Result, Ok, Err, OnErr, OnOk}
use Rattle.std.proofs.Common.{refl, sym, ap, ◌∙◌, subst, arith, append_assoc, append-nil, length-append}
use Rattle.std.proofs.lemmas.Grind.{flat_map-append}
use Rattle.std.proofs.lemmas.List.{take-append-drop}
use Rattle.dr_group.specs.declared.group_map.GroupMap.{GroupMap}
use Rattle.dr_tree.specs.Piles.{CanMerge, StaysPile}
use Rattle.dr_tree.specs.Subtrees.{all_piled}
use Rattle.dr_tree.specs.declared.subtree.Subtree.{Subtree}
use Rattle.dr_tree.proofs.PileLemmas.{can_merge_parts, still_merges, stays_both, stays_by, stays_moved, stays_same, stays_then}

-- ---- one more below a child

pub on_ok_too : {A E : Type 0} {P Q : Type 0} (r : Result A E) → (P → Q) → OnOk r P → OnOk r Q
on_ok_too (Ok x) f p = f p
on_ok_too (Err e) f p = tt

pub on_err_too : {A E : Type 0} {P Q : Type 0} (r : Result A E) → (P → Q) → OnErr r P → OnErr r Q
on_err_too (Ok x) f p = tt
on_err_too (Err e) f p = f p

-- what comes last may come behind the first
moved_behind : (ms ns : List GroupMap) (r : GroupMap) → StaysPile ((ms ++ ns) ++ r ∷ []) ((ms ++ r ∷ []) ++ ns)
moved_behind ms ns r =
    stays_then (stays_by (append_assoc ms ns (r ∷ [])))
    (stays_then (stays_both ms (ns ++ r ∷ []) ms (r ∷ ns) (stays_same ms) (stays_moved ns r)) (stays_by (sym (append_assoc ms (r ∷ []) ns))))

-- those of one child are small enough to be merged with those that come
pub can_add : (ss : List Subtree) (i : ℕ) (d : Subtree) (r : GroupMap) → i < length ss → CanMerge (all_piled ss ++ r ∷ []) → CanMerge ((get_or ss i d).pile.items ++ r ∷ [])
can_add [] i d r h k = absurd (omega (arith, h))
can_add (s ∷ ss) zero d r h k = (can_merge_parts (s.pile.items ++ r ∷ []) (all_piled ss) (still_merges (moved_behind s.pile.items (all_piled ss) r) k)).0
can_add (s ∷ ss) (suc i) d r h k =
    can_add ss i d r (omega (arith, h)) (can_merge_parts s.pile.items (all_piled ss ++ r ∷ []) (subst CanMerge (append_assoc s.pile.items (all_piled ss) (r ∷ [])) k)).1

pub added_below : (ss : List Subtree) (i : ℕ) (d x : Subtree) (r : GroupMap) → i < length ss → StaysPile ((get_or ss i d).pile.items ++ r ∷ []) x.pile.items
    → StaysPile (all_piled ss ++ r ∷ []) (all_piled (slice_set ss i x))
added_below [] i d x r h k = absurd (omega (arith, h))
added_below (s ∷ ss) zero d x r h k =
    stays_then (moved_behind s.pile.items (all_piled ss) r) (stays_both (s.pile.items ++ r ∷ []) (all_piled ss) x.pile.items (all_piled ss) k (stays_same (all_piled ss)))
added_below (s ∷ ss) (suc i) d x r h k =
    stays_then (stays_by (append_assoc s.pile.items (all_piled ss) (r ∷ [])))
    (stays_both s.pile.items (all_piled ss ++ r ∷ []) s.pile.items (all_piled (slice_set ss i x)) (stays_same s.pile.items) (added_below ss i d x r (omega (arith, h)) k))

pub same_below : (ss : List Subtree) (i : ℕ) (d x : Subtree) → x.pile.items ≡ (get_or ss i d).pile.items → all_piled (slice_set ss i x) ≡ all_piled ss
same_below [] i d x e = refl
same_below (s ∷ ss) zero d x e = ap (λ ms. ms ++ all_piled ss) e
same_below (s ∷ ss) (suc i) d x e = ap (λ ms. s.pile.items ++ ms) (same_below ss i d x e)

-- ---- all of them

-- those of both halves are those of all
pub both_piled : (ss front behind : List Subtree) (at : ℕ) → front ≡ take at ss → behind ≡ drop at ss → all_piled front ++ all_piled behind ≡ all_piled ss
both_piled ss front behind at e f =
    sym (flat_map-append (λ (s : Subtree). s.pile.items) front behind)
    ∙ ap all_piled (ap (λ xs. xs ++ behind) e ∙ (ap (λ xs. take at ss ++ xs) f ∙ take-append-drop at ss))

-- the only one
pub only_piled : (ss rest : List Subtree) (s : Subtree) → length ss ≤ 1 → ss ≡ rest ++ s ∷ [] → all_piled ss ≡ s.pile.items
only_piled ss [] s h e = ap all_piled e ∙ append-nil s.pile.items
only_piled ss (x ∷ rest) s h e = absurd (let n = ap length e in let m = length-append rest (s ∷ []) in omega (arith, h, n, m))
