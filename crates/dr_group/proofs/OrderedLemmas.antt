-- Numbers that are found by the order of key tuples: one number more, and what is found.
use Rattle.std.specs.Prelude.{◌≡◌, ◌<◌, ◌+◌, ℕ, zero, suc, List, [], ◌∷◌, ◌++◌, map, length, take, get_or, Bool, true, false, cond, Option, Some, None}
use Rattle.std.specs.Prelude.{◌≤◌, Result, Ok, Err, OnErr, IfSome}
use Rattle.std.specs.List.{slice_get}
use Rattle.std.specs.Option.{IsSome}
use Rattle.std.specs.BTreeMap.{BTreeMap, get, IsEmpty, Updates}
use Rattle.std.proofs.Common.{◌⊎◌, inl, inr, refl, sym, ap, ◌∙◌, subst, true≢false, arith}
use Rattle.std.proofs.Math.ListN.{set}
use Rattle.std.proofs.lemmas.List.{take_more, map-append, length-map, take-append-le}
use Rattle.dr_memory.specs.declared.NoMemory.{NoMemory}
use Rattle.dr_partials.specs.Partials.{Group}
use Rattle.dr_partials.proofs.GroupLemmas.{Tuple, same_tuple, same_is, same_itself}
use Rattle.dr_group.specs.Chains.{hashes_of}
use Rattle.dr_group.specs.Distinct.{IsFound, tuples_of, group_hash, group_hashes}
use Rattle.dr_group.specs.Finding.{UnlessOrdered}
use Rattle.dr_group.specs.Hashes.{tuple_hash}
use Rattle.dr_group.specs.declared.index.Link.{Link}
use Rattle.dr_group.specs.declared.ordered_index.OrderedIndex.{OrderedIndex}
use Rattle.dr_group.specs.Groups.{group_view}
use Rattle.dr_group.specs.Views.{cell_view}
use Rattle.dr_group.specs.Keys.{AreNumbered, has_tuple, key_view, key_order}
use Rattle.dr_group.specs.declared.group.Group.{Group as Held}
use Rattle.dr_group.specs.declared.key.Key.{Key}
use Rattle.dr_group.proofs.DistinctLemmas.{nowhere}
use Rattle.dr_group.proofs.HeldLemmas.{grown_indexed}
use Rattle.dr_group.proofs.NumberLemmas.{numbered_found, found_numbered, first_numbered, last_numbered}

-- what stands at a place, by the test of key tuples
is_there : (tuples : List Tuple) (i : ℕ) (t : Tuple) → has_tuple tuples i t ≡ true → slice_get tuples i ≡ Some t
is_there [] i t h = absurd (true≢false (sym h))
is_there (u ∷ us) zero t h = ap Some (same_is u t h)
is_there (u ∷ us) (suc i) t h = is_there us i t h

there_is : (tuples : List Tuple) (i : ℕ) (t : Tuple) → slice_get tuples i ≡ Some t → has_tuple tuples i t ≡ true
there_is [] i t h = absurd (cc)
there_is (u ∷ us) zero t h =
    let same : u ≡ t = cc in
    ap (same_tuple u) (sym same) ∙ same_itself u
there_is (u ∷ us) (suc i) t h = there_is us i t h

-- no numbers yet
pub none_numbered : (m : BTreeMap Key ℕ) → IsEmpty m → AreNumbered m []
none_numbered m e = (λ k i h. absurd (true≢false (sym h)), λ k i h. absurd (nothing k i h))
  where
    nothing : (k : Key) (i : ℕ) → get key_order m k ≡ Some i → ⊥
    nothing k i h = cc

same_inside : (i j : ℕ) → ◌≡◌ {A = Option ℕ} (Some i) (Some j) → i ≡ j
same_inside i j h = cc

-- what stands among all and one more
among_more : (tuples : List Tuple) (t u : Tuple) (i : ℕ) → slice_get (tuples ++ t ∷ []) i ≡ Some u → (slice_get tuples i ≡ Some u) ⊎ (t ≡ u)
among_more [] t u zero h = inr (cc)
among_more [] t u (suc i) h = absurd (cc)
among_more (s ∷ tuples) t u zero h = inl h
among_more (s ∷ tuples) t u (suc i) h = among_more tuples t u i h

abbrev looked_up : Bool → ℕ → Option ℕ → Option ℕ
looked_up b n o = cond b (Some n) o

-- all are found, and one more
pub numbered_more : (m n : BTreeMap Key ℕ) (tuples : List Tuple) (new : Key) → AreNumbered m tuples → Updates key_order m n new (Some (length tuples)) → AreNumbered n (tuples ++ key_view new ∷ [])
numbered_more m n tuples new a u = (each, only)
  where
    known : (k : Key) (b : Bool) → same_tuple (key_view new) (key_view k) ≡ b → get key_order n k ≡ looked_up b (length tuples) (get key_order m k)
    known k b e = u.0 k ∙ ap (λ (c : Bool). looked_up c (length tuples) (get key_order m k)) e

    each : (k : Key) (i : ℕ) → has_tuple (tuples ++ key_view new ∷ []) i (key_view k) ≡ true → IsSome (get key_order n k)
    each k i h = by_test (same_tuple (key_view new) (key_view k)) refl (among_more tuples (key_view new) (key_view k) i (is_there (tuples ++ key_view new ∷ []) i (key_view k) h))
      where
        by_test : (b : Bool) → same_tuple (key_view new) (key_view k) ≡ b → (slice_get tuples i ≡ Some (key_view k)) ⊎ (key_view new ≡ key_view k) → IsSome (get key_order n k)
        by_test true e w = subst IsSome (sym (known k true e)) refl
        by_test false e (inl w) = subst IsSome (sym (known k false e)) (a.0 k i (there_is tuples i (key_view k) w))
        by_test false e (inr w) = absurd (true≢false (sym (ap (same_tuple (key_view new)) (sym w) ∙ same_itself (key_view new)) ∙ e))

    only : (k : Key) (i : ℕ) → get key_order n k ≡ Some i → has_tuple (tuples ++ key_view new ∷ []) i (key_view k) ≡ true
    only k i h = there_is (tuples ++ key_view new ∷ []) i (key_view k) (by_test (same_tuple (key_view new) (key_view k)) refl)
      where
        by_test : (b : Bool) → same_tuple (key_view new) (key_view k) ≡ b → slice_get (tuples ++ key_view new ∷ []) i ≡ Some (key_view k)
        by_test true e =
            let last : length tuples ≡ i = same_inside (length tuples) i (sym (known k true e) ∙ h) in
            ap (slice_get (tuples ++ key_view new ∷ [])) (sym last) ∙ (last_numbered tuples (key_view new) ∙ ap Some (same_is (key_view new) (key_view k) e))
        by_test false e = first_numbered tuples (key_view new) i (key_view k) (is_there tuples i (key_view k) (a.1 k i (sym (known k false e) ∙ h)))

-- ---- as the code has them

-- the key tuples of the groups before one, and its own
pub groups_more : (gs : List Held) (n : ℕ) (g : Held) (k : Key) → n < length gs → g ≡ get_or gs n g → key_view k ≡ map cell_view g.keys.items
    → tuples_of (map group_view (take (n + 1) gs)) ≡ tuples_of (map group_view (take n gs)) ++ key_view k ∷ []
groups_more gs n g k h e s =
    ap (λ (hs : List Held). tuples_of (map group_view hs)) (take_more gs n g h ∙ ap (λ (x : Held). take n gs ++ x ∷ []) (sym e))
    ∙ (ap tuples_of (map-append group_view (take n gs) (g ∷ []))
    ∙ (map-append (λ (x : Group). x.keys) (map group_view (take n gs)) (group_view g ∷ []) ∙ ap (λ (t : Tuple). tuples_of (map group_view (take n gs)) ++ t ∷ []) (sym s)))

pub groups_before : (gs : List Held) (n : ℕ) → n < length gs → length (tuples_of (map group_view (take n gs))) ≡ n
groups_before [] n h = absurd (omega (arith, h))
groups_before (f ∷ gs) zero h = refl
groups_before (f ∷ gs) (suc n) h = ap suc (groups_before gs n (omega (arith, h)))

abbrev no_number : Option ℕ
no_number = None

-- what is found, or not
pub numbered_is : (m : BTreeMap Key ℕ) (groups : List Group) (k : Key) (i : ℕ) → AreNumbered m (tuples_of groups) → get key_order m k ≡ Some i → IsFound (key_view k) groups (Some i)
numbered_is m groups k i a h = numbered_found groups i (key_view k) (is_there (tuples_of groups) i (key_view k) (a.1 k i h))

pub numbered_none : (m : BTreeMap Key ℕ) (groups : List Group) (k : Key) → AreNumbered m (tuples_of groups) → get key_order m k ≡ None → IsFound (key_view k) groups None
numbered_none m groups k a h = nowhere (key_view k) groups (λ j b e. none (subst IsSome h (a.0 k j (there_is (tuples_of groups) j (key_view k) (found_numbered groups j (key_view k) (b, e))))))
  where
    none : IsSome no_number → ⊥
    none x = true≢false (sym x)

-- what is said of any key tuples, of some
pub kept_for : (r : Result (Unit {0}) NoMemory) (P Q : List Tuple → Type 0) (tuples : List Tuple) → P tuples → OnErr r ((ts : List Tuple) → P ts → Q ts) → OnErr r (Q tuples)
kept_for (Ok done) P Q tuples p h = tt
kept_for (Err e) P Q tuples p h = h tuples p

-- ---- as maps hold them

-- the key tuples stay where a group keeps its own
pub held_tuples : (gs : List Held) (n : ℕ) (g h : Held) → g ≡ get_or gs n g → h.keys ≡ g.keys → tuples_of (map group_view (set gs n h)) ≡ tuples_of (map group_view gs)
held_tuples [] n g h e k = refl
held_tuples (f ∷ gs) zero g h e k = ap (λ (t : Tuple). t ∷ tuples_of (map group_view gs)) (ap (λ v. map cell_view v.items) (k ∙ ap (λ (x : Held). x.keys) e))
held_tuples (f ∷ gs) (suc n) g h e k = ap (λ (ts : List Tuple). map cell_view f.keys.items ∷ ts) (held_tuples gs n g h e k)

pub numbered_same : (o : Option OrderedIndex) (gs hs : List Group) → tuples_of hs ≡ tuples_of gs → IfSome o (λ x. AreNumbered x.numbers (tuples_of gs)) → IfSome o (λ x. AreNumbered x.numbers (tuples_of hs))
numbered_same None gs hs e h = tt
numbered_same (Some x) gs hs e h = subst (AreNumbered x.numbers) (sym e) h

-- one group more
pub numbered_grown : (o : Option OrderedIndex) (tuples : List Tuple) (t : Tuple) (hs : List Group) → tuples_of hs ≡ tuples ++ t ∷ [] → IfSome o (λ x. AreNumbered x.numbers (tuples ++ t ∷ [])) → IfSome o (λ x. AreNumbered x.numbers (tuples_of hs))
numbered_grown None tuples t hs e h = tt
numbered_grown (Some x) tuples t hs e h = subst (AreNumbered x.numbers) (sym e) h

-- as many groups are indexed as there are, at most
few_indexed : (links : List Link) (gs : List Held) → hashes_of links ≡ take (length links) (group_hashes gs) → length links ≤ length (group_hashes gs)
few_indexed links gs i = omega (arith, length-map links (λ (l : Link). l.hash), ap length i, front_is_shorter (length links) (group_hashes gs))
  where
    front_is_shorter : (n : ℕ) (xs : List ℕ) → length (take n xs) ≤ length xs
    front_is_shorter zero xs = omega arith
    front_is_shorter (suc n) [] = omega arith
    front_is_shorter (suc n) (x ∷ xs) = omega (arith, front_is_shorter n xs)

-- what holds unless groups are in order holds still
pub unless_still : (o p : Option OrderedIndex) (P : Type 0) → (p ≡ None → o ≡ None) → UnlessOrdered o P → UnlessOrdered p P
unless_still o None P h u = subst (λ (x : Option OrderedIndex). UnlessOrdered x P) (h refl) u
unless_still o (Some x) P h u = tt

-- a part of what holds
pub unless_then : (o : Option OrderedIndex) (P Q : Type 0) → (P → Q) → UnlessOrdered o P → UnlessOrdered o Q
unless_then None P Q f u = f u
unless_then (Some x) P Q f u = tt

-- the hashes of the first groups, in either way
pub either_indexed : (o : Option OrderedIndex) (links after : List Link) (gs hs : List Held) (g : Held) (t : Tuple) (hash : ℕ) → hs ≡ gs ++ g ∷ [] → (group_view g).keys ≡ t → hash ≡ tuple_hash t → UnlessOrdered o (length links ≡ length gs)
    → hashes_of links ≡ take (length links) (group_hashes gs) → UnlessOrdered o (hashes_of after ≡ hashes_of links ++ hash ∷ []) → IfSome o (λ x. after ≡ links) → hashes_of after ≡ take (length after) (group_hashes hs)
either_indexed None links after gs hs g t hash e f k n i a s = grown_indexed links after gs hs g t hash e f k n i a
either_indexed (Some x) links after gs hs g t hash e f k n i a s =
    subst (λ (ls : List Link). hashes_of ls ≡ take (length ls) (group_hashes hs)) (sym s) (i ∙ sym (ap (take (length links)) (ap group_hashes e ∙ map-append group_hash gs (g ∷ [])) ∙ take-append-le (length links) (group_hashes gs) (group_hashes (g ∷ [])) (few_indexed links gs i)))
