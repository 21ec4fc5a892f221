-- Where a leaf is read the open fields are the first of its chain.
use Rattle.std.proofs.Common.{◌≡◌, ◌⊎◌, inl, inr, ℕ, List, [], ◌∷◌, ◌++◌, Bool, true, false, ◌&&◌, Option, None, Some, refl, sym, ap, ◌∙◌, append_assoc}
use Rattle.std.specs.Prelude.{reverse, ◌==◌, if◌then◌else◌}
use Rattle.std.specs.List.{list_all}
use Rattle.std.proofs.lemmas.List.{reverse-append}
use Rattle.std.proofs.lemmas.Bool.{and_from, eq-eqb, eqb-true}
use Rattle.dr_meaning.specs.Walk.{Move, leave}
use Rattle.dr_kept_laws.specs.ChainNumbers.{chain_numbers}
use Rattle.dr_kept_laws.specs.OpenNumbers.{open_at, is_front, OpenOnChain}
use Rattle.dr_kept_laws.proofs.RowsOnChain.{OnlyOn}
use Rattle.dr_kept_laws.proofs.LeavingsKept.{walk_only}
use Rattle.dr_moves.specs.Tour.{Tour, over, saw, inside, moves_of}
use Rattle.dr_moves.specs.Condition.{Watch, rest_below}
use Rattle.dr_moves.proofs.TourLemmas.{walk_tour}

open_append : (i : ℕ) (T : Tour) (s : List ℕ) (ms : List Move) → open_at i s (moves_of T ++ ms) ≡ open_at i s (moves_of T) ++ open_at i s ms
open_append i over s ms = refl
open_append i (saw j t T) s ms = by_leaf (j == i) (open_append i T s ms)
  where
    by_leaf : (b : Bool) → open_at i s (moves_of T ++ ms) ≡ open_at i s (moves_of T) ++ open_at i s ms
        → (if b then reverse s ∷ open_at i s (moves_of T ++ ms) else open_at i s (moves_of T ++ ms)) ≡ (if b then reverse s ∷ open_at i s (moves_of T) else open_at i s (moves_of T)) ++ open_at i s ms
    by_leaf true e = ap (λ (x : List (List ℕ)). reverse s ∷ x) e
    by_leaf false e = e
open_append i (inside k B T) s ms =
    ap (open_at i (k ∷ s)) (append_assoc (moves_of B) (leave k ∷ moves_of T) ms)
    ∙ open_append i B (k ∷ s) (leave k ∷ (moves_of T ++ ms))
    ∙ ap (λ (x : List (List ℕ)). open_at i (k ∷ s) (moves_of B) ++ x) (open_append i T s ms)
    ∙ sym (append_assoc (open_at i (k ∷ s) (moves_of B)) (open_at i s (moves_of T)) (open_at i s ms))
    ∙ ap (λ (x : List (List ℕ)). x ++ open_at i s ms) (sym (open_append i B (k ∷ s) (leave k ∷ moves_of T)))

front_itself : (K N : List ℕ) → is_front K (K ++ N) ≡ true
front_itself [] N = refl
front_itself (k ∷ K) N = and_from (k == k) (is_front K (K ++ N)) (eq-eqb k k refl) (front_itself K N)

all_append : {X : Type 0} (f : X → Bool) (xs ys : List X) → list_all f xs ≡ true → list_all f ys ≡ true → list_all f (xs ++ ys) ≡ true
all_append f [] ys h g = g
all_append f (x ∷ xs) ys h g = by_first (f x) h (λ e. all_append f xs ys e g)
  where
    by_first : (b : Bool) → (b && list_all f xs) ≡ true → (list_all f xs ≡ true → list_all f (xs ++ ys) ≡ true) → (b && list_all f (xs ++ ys)) ≡ true
    by_first true h f = f h
    by_first false h f = h

-- what is open is the first of the chain C, and the rest of it is r; or it is off the chain
abbrev IsRest : List ℕ → List ℕ → Option (List ℕ) → Type 0
IsRest C s r = (r ≡ None) ⊎ ((N : List ℕ) × (r ≡ Some N) × (C ≡ reverse s ++ N))

rest_more : (C s : List ℕ) (k : ℕ) (r : Option (List ℕ)) → IsRest C s r → IsRest C (k ∷ s) (rest_below k r)
rest_more C s k None h = inl refl
rest_more C s k (Some []) h = inl refl
rest_more C s k (Some (j ∷ N)) (inl h) = absurd (cc)
rest_more C s k (Some (j ∷ N)) (inr h) = by_test (k == j) refl
  where
    whole : C ≡ reverse s ++ j ∷ N
    whole = let e : h.0 ≡ j ∷ N = cc in h.2 ∙ ap (λ (x : List ℕ). reverse s ++ x) e

    by_test : (b : Bool) → (k == j) ≡ b → IsRest C (k ∷ s) (if b then Some N else None)
    by_test false e = inl refl
    by_test true e =
        let q : k ≡ j = eqb-true k j e in
        inr (N, refl, whole ∙ ap (λ (x : ℕ). reverse s ++ x ∷ N) (sym q) ∙ sym (append_assoc (reverse s) (k ∷ []) N) ∙ ap (λ (x : List ℕ). x ++ N) (sym (reverse-append (k ∷ []) s)))

all_fronts : (i : ℕ) (C : List ℕ) (T : Tour) (s : List ℕ) (r : Option (List ℕ)) → IsRest C s r → OnlyOn i r T → list_all (λ (K : List ℕ). is_front K C) (open_at i s (moves_of T)) ≡ true
all_fronts i C over s r h o = refl
all_fronts i C (saw j t T) s r h o = by_leaf (j == i) o.0 (all_fronts i C T s r h o.1)
  where
    by_rest : IsRest C s r → (r ≡ None → ⊥) → is_front (reverse s) C ≡ true
    by_rest (inl e) f = absurd (f e)
    by_rest (inr e) f = ap (is_front (reverse s)) e.2 ∙ front_itself (reverse s) e.0

    by_leaf : (b : Bool) → (b ≡ true → r ≡ None → ⊥) → list_all (λ (K : List ℕ). is_front K C) (open_at i s (moves_of T)) ≡ true
        → list_all (λ (K : List ℕ). is_front K C) (if b then reverse s ∷ open_at i s (moves_of T) else open_at i s (moves_of T)) ≡ true
    by_leaf true f e = and_from (is_front (reverse s) C) (list_all (λ (K : List ℕ). is_front K C) (open_at i s (moves_of T))) (by_rest h (f refl)) e
    by_leaf false f e = e
all_fronts i C (inside k B T) s r h o =
    ap (list_all (λ (K : List ℕ). is_front K C)) (open_append i B (k ∷ s) (leave k ∷ moves_of T))
    ∙ all_append (λ (K : List ℕ). is_front K C) (open_at i (k ∷ s) (moves_of B)) (open_at i s (moves_of T)) (all_fronts i C B (k ∷ s) (rest_below k r) (rest_more C s k r h) o.0) (all_fronts i C T s r h o.1)

pub open_on_chain : OpenOnChain
open_on_chain fs F i p R h e v =
    let w : Watch = record { chain = chain_numbers fs p; last = i; test = λ d. true } in
    let t = walk_tour fs F R h v in
    let o : OnlyOn i (Some (0 ∷ chain_numbers fs p)) t.tour = walk_only fs F w p [] (λ row. true) (record { leaves = h; last = e; chain = refl; together = tt; decides = λ d row x. refl }) R t.tour v t.moves in
    ap (λ (ms : List Move). list_all (λ (K : List ℕ). is_front K (0 ∷ chain_numbers fs p)) (open_at i [] ms)) (sym t.moves)
    ∙ all_fronts i (0 ∷ chain_numbers fs p) t.tour [] (Some (0 ∷ chain_numbers fs p)) (inr (0 ∷ chain_numbers fs p, refl, refl)) o
