-- What fires at a leaf's triplets over a tour that a condition cuts, part by part.
use Rattle.std.proofs.Common.{◌≡◌, ◌⊎◌, inl, inr, ℕ, ◌<◌, ◌≤◌, List, [], ◌∷◌, ◌++◌, length, Bool, true, false, Option, None, Some, refl, sym, ap, ap₂, subst, ◌∙◌, append-nil, arith}
use Rattle.std.specs.Prelude.{map, not, ◌==◌, if◌then◌else◌}
use Rattle.std.specs.List.{list_any}
use Rattle.std.proofs.lemmas.List.{map-append, length-map}
use Rattle.std.proofs.lemmas.Bool.{eq-eqb, ne_eqb}
use Rattle.dr_meaning.specs.Walk.{Move, enter, leave, enclosed}
use Rattle.dr_meaning.specs.WalkLaws.{triplets_of}
use Rattle.dr_meaning.proofs.WalkLemmas.{of_append}
use Rattle.dr_kept_laws.specs.GroupFlow.{fired_at, left_alone}
use Rattle.dr_kept_laws.specs.Leavings.{Leaving, tour_leavings}
use Rattle.dr_kept_laws.specs.MovedContexts.{after_moves}
use Rattle.dr_kept_laws.specs.Tours.{joined}
use Rattle.dr_kept_laws.proofs.TourParts.{joined_moves, joined_flow}
use Rattle.dr_kept_laws.proofs.MovedContextLemmas.{moved_after, contexts_more, contexts_count, contexts_none}
use Rattle.dr_kept_laws.proofs.OffChain.{IsWithin, Off}
use Rattle.dr_kept_laws.proofs.ChainHeads.{HeadApart}
use Rattle.dr_moves.specs.Context.{Context, with_value, contexts}
use Rattle.dr_moves.specs.Tour.{Tour, over, saw, inside, moves_of, after}
use Rattle.dr_moves.specs.Condition.{Watch, some_true, rest_below, is_dropped}
use Rattle.dr_moves.specs.Cutting.{flow}
use Rattle.dr_moves.proofs.TourLemmas.{some_true_any, any_of_map}

-- whether an answer is true
abbrev pub some_answer : List Bool → Bool
some_answer bs = list_any (λ (b : Bool). b) bs

both_nothing : {A : Type 0} (xs ys : List A) → xs ++ ys ≡ [] → (xs ≡ []) × (ys ≡ [])
both_nothing [] ys e = (refl, e)
both_nothing (x ∷ xs) ys e = absurd (cc)

either_nothing : {A : Type 0} (b : Bool) → ◌++◌ {A = A} (if b then [] else []) [] ≡ []
either_nothing true = refl
either_nothing false = refl

split_equal : {A : Type 0} (xs ys us vs : List A) → length xs ≡ length us → xs ++ ys ≡ us ++ vs → (xs ≡ us) × (ys ≡ vs)
split_equal [] ys [] vs l e = (refl, e)
split_equal [] ys (u ∷ us) vs l e = absurd (omega (arith, l))
split_equal (x ∷ xs) ys [] vs l e = absurd (omega (arith, l))
split_equal {A = A} (x ∷ xs) ys (u ∷ us) vs l e =
    let h : x ≡ u = cc in
    let t : xs ++ ys ≡ us ++ vs = cc in
    let w : (xs ≡ us) × (ys ≡ vs) = split_equal xs ys us vs (omega (arith, l)) t in
    (ap₂ (λ (y : A) (z : List A). y ∷ z) h w.0, w.1)

module _ (X : Type 0) (i : ℕ) (f : Context → X) (w : Watch) where
  -- what fires over a tour
  abbrev pub fired : Option (List ℕ) → Context → Tour → List X
  fired r c T = flow (fired_at i f) left_alone w r c T

  -- what the leaf's rows are, and the condition in its rows
  abbrev pub makes : Context → List Move → List X
  makes c ms = map f (contexts i c ms)

  abbrev pub answers : Context → List Move → List Bool
  answers c ms = map w.test (contexts w.last c ms)

  makes_more : (c : Context) (a b : List Move) → makes c (a ++ b) ≡ makes c a ++ makes (after_moves c a) b
  makes_more c a b = ap (map f) (contexts_more i c a b) ∙ map-append f (contexts i c a) (contexts i (after_moves c a) b)

  answers_more : (c : Context) (a b : List Move) → answers c (a ++ b) ≡ answers c a ++ answers (after_moves c a) b
  answers_more c a b = ap (map w.test) (contexts_more w.last c a b) ∙ map-append w.test (contexts w.last c a) (contexts w.last (after_moves c a) b)

  makes_none : (c : Context) (ms : List Move) → triplets_of i ms ≡ [] → makes c ms ≡ []
  makes_none c ms h = ap (map f) (contexts_none i c ms h)

  answers_none : (c : Context) (ms : List Move) → triplets_of w.last ms ≡ [] → answers c ms ≡ []
  answers_none c ms h = ap (map w.test) (contexts_none w.last c ms h)

  makes_count : (c : Context) (ms : List Move) → length (makes c ms) ≡ length (triplets_of i ms)
  makes_count c ms = length-map (contexts i c ms) f ∙ contexts_count i c ms

  answers_count : (c : Context) (ms : List Move) → length (answers c ms) ≡ length (triplets_of w.last ms)
  answers_count c ms = length-map (contexts w.last c ms) w.test ∙ contexts_count w.last c ms

  -- ---- tours

  -- off the chain all fires
  pub fired_all : (T : Tour) (c : Context) → fired None c T ≡ makes c (moves_of T)
  fired_all over c = refl
  fired_all (saw j t T) c = by_leaf (j == i) (fired_all T (with_value j t.value c))
    where
      by_leaf : (b : Bool) → fired None (with_value j t.value c) T ≡ makes (with_value j t.value c) (moves_of T)
          → (if b then f (with_value j t.value c) ∷ [] else []) ++ fired None (with_value j t.value c) T
          ≡ map f (if b then with_value j t.value c ∷ contexts i (with_value j t.value c) (moves_of T) else contexts i (with_value j t.value c) (moves_of T))
      by_leaf true e = ap (λ (x : List X). f (with_value j t.value c) ∷ x) e
      by_leaf false e = e
  fired_all (inside k B T) c =
      ap₂ (λ (x y : List X). x ++ y) (fired_all B c) (fired_all T (after c B))
      ∙ ap (λ (d : Context). makes c (moves_of B) ++ makes d (moves_of T)) (sym (moved_after B c))
      ∙ sym (makes_more c (moves_of B) (leave k ∷ moves_of T))

  -- where the leaf gives nothing, nothing fires
  fired_none : (T : Tour) (r : Option (List ℕ)) (c : Context) → triplets_of i (moves_of T) ≡ [] → fired r c T ≡ []
  fired_none over r c h = refl
  fired_none (saw j t T) r c h = by_leaf (j == i) h (fired_none T r (with_value j t.value c))
    where
      by_leaf : (b : Bool) → (if b then t ∷ triplets_of i (moves_of T) else triplets_of i (moves_of T)) ≡ [] → (triplets_of i (moves_of T) ≡ [] → fired r (with_value j t.value c) T ≡ [])
          → (if b then f (with_value j t.value c) ∷ [] else []) ++ fired r (with_value j t.value c) T ≡ []
      by_leaf true h g = absurd (cc)
      by_leaf false h g = g h
  fired_none (inside k B T) r c h =
      let n : (triplets_of i (moves_of B) ≡ []) × (triplets_of i (moves_of T) ≡ []) = both_nothing (triplets_of i (moves_of B)) (triplets_of i (moves_of T)) (sym (of_append i (moves_of B) (leave k ∷ moves_of T)) ∙ h) in
      ap₂ (λ (x y : List X). (if is_dropped (rest_below k r) (some_true w c B) then [] else x) ++ y) (fired_none B (rest_below k r) c n.0) (fired_none T r (after c B) n.1)
      ∙ either_nothing (is_dropped (rest_below k r) (some_true w c B))

  -- a chain whose next number is none of these
  apart_rest : (low high k : ℕ) → low ≤ k → k < high → (N : List ℕ) → HeadApart low high N → rest_below k (Some N) ≡ None
  apart_rest low high k a b [] h = refl
  apart_rest low high k a b (j ∷ N) h = ap (λ (x : Bool). if x then Some N else None) (ne_eqb k j (by_case h))
    where
      by_case : (j < low) ⊎ (high ≤ j) → k ≡ j → ⊥
      by_case (inl x) e = omega (arith, x, a, e)
      by_case (inr x) e = omega (arith, x, b, e)

  fired_apart : (low high : ℕ) (N : List ℕ) → HeadApart low high N → (T : Tour) → IsWithin low high T → (c : Context) → fired (Some N) c T ≡ fired None c T
  fired_apart low high N h over v c = refl
  fired_apart low high N h (saw j t T) v c = ap (λ (x : List X). fired_at i f j (with_value j t.value c) ++ x) (fired_apart low high N h T v (with_value j t.value c))
  fired_apart low high N h (inside k B T) v c =
      ap₂ (λ (x : Option (List ℕ)) (y : List X). (if is_dropped x (some_true w c B) then [] else fired x c B) ++ y) (apart_rest low high k v.0 v.1 N h) (fired_apart low high N h T v.2 (after c B))

  -- without branches
  fired_bare : (T : Tour) (r : Option (List ℕ)) (c d : Context) → tour_leavings w None d T ≡ [] → fired r c T ≡ fired None c T
  fired_bare over r c d h = refl
  fired_bare (saw j t T) r c d h = ap (λ (x : List X). fired_at i f j (with_value j t.value c) ++ x) (fired_bare T r (with_value j t.value c) (with_value j t.value d) h)
  fired_bare (inside k B T) r c d h = absurd (not_empty (tour_leavings w None d B) _ _ h)
    where
      not_empty : (xs : List Leaving) (y : Leaving) (ys : List Leaving) → xs ++ y ∷ ys ≡ [] → ⊥
      not_empty [] y ys e = cc
      not_empty (x ∷ xs) y ys e = cc

  -- ---- moves of which all fires

  pub record Whole (r : Option (List ℕ)) (ms : List Move) : Type 0 where
    pub tour : Tour
    pub moves : moves_of tour ≡ ms
    pub fires : (c : Context) → fired r c tour ≡ makes c ms

  pub apart_whole : (low high : ℕ) (N : List ℕ) (ms : List Move) (ls : List Leaving) → HeadApart low high N → Off low high ms ls → Whole (Some N) ms
  apart_whole low high N ms ls h x = record { tour = x.tour; moves = x.moves; fires = λ c. fired_apart low high N h x.tour x.within c ∙ fired_all x.tour c ∙ ap (makes c) x.moves }

  pub bare_whole : (low high : ℕ) (r : Option (List ℕ)) (ms : List Move) → Off low high ms [] → Whole r ms
  bare_whole low high r ms x = record { tour = x.tour; moves = x.moves; fires = λ c. fired_bare x.tour r c c (x.told w c) ∙ fired_all x.tour c ∙ ap (makes c) x.moves }

  pub silent_whole : (low high : ℕ) (r : Option (List ℕ)) (ms : List Move) (ls : List Leaving) → triplets_of i ms ≡ [] → Off low high ms ls → Whole r ms
  silent_whole low high r ms ls h x = record { tour = x.tour; moves = x.moves; fires = λ c. fired_none x.tour r c (ap (triplets_of i) x.moves ∙ h) ∙ sym (makes_none c ms h) }

  pub both_whole : (r : Option (List ℕ)) (a b : List Move) → Whole r a → Whole r b → Whole r (a ++ b)
  both_whole r a b x y = record {
    tour = joined x.tour y.tour;
    moves = joined_moves x.tour y.tour ∙ ap₂ (λ (m n : List Move). m ++ n) x.moves y.moves;
    fires = λ c. joined_flow (fired_at i f) left_alone w r c x.tour y.tour ∙ ap₂ (λ (m n : List X). m ++ n) (x.fires c) (y.fires (after c x.tour))
        ∙ ap (λ (d : Context). makes c a ++ makes d b) (sym (ap (after_moves c) (sym x.moves) ∙ moved_after x.tour c)) ∙ sym (makes_more c a b);
  }

  -- ---- moves with these things in the leaf's rows and these answers: what fires, where an answer is true

  pub record Fires (r : Option (List ℕ)) (ms : List Move) (vs : List X) (bs : List Bool) (out : List X) : Type 0 where
    pub tour : Tour
    pub moves : moves_of tour ≡ ms
    pub fires : (c : Context) → makes c ms ≡ vs → answers c ms ≡ bs → some_answer bs ≡ true → fired r c tour ≡ out

  pub whole_fires : (r : Option (List ℕ)) (ms : List Move) (vs : List X) (bs : List Bool) (out : List X) → (some_answer bs ≡ true → vs ≡ out) → Whole r ms → Fires r ms vs bs out
  whole_fires r ms vs bs out g x = record { tour = x.tour; moves = x.moves; fires = λ c e d h. x.fires c ∙ e ∙ g h }

  -- beside moves in which nothing is of the leaf, nor of the condition's last
  pub fires_before : (r : Option (List ℕ)) (a b : List Move) (vs : List X) (bs : List Bool) (out : List X) → triplets_of i b ≡ [] → triplets_of w.last b ≡ [] → Fires r a vs bs out → Whole r b → Fires r (a ++ b) vs bs out
  fires_before r a b vs bs out h g x y = record {
    tour = joined x.tour y.tour;
    moves = joined_moves x.tour y.tour ∙ ap₂ (λ (m n : List Move). m ++ n) x.moves y.moves;
    fires = λ c e d s.
        let u : makes c a ≡ vs = sym (append-nil (makes c a)) ∙ ap (λ (z : List X). makes c a ++ z) (sym (makes_none (after_moves c a) b h)) ∙ sym (makes_more c a b) ∙ e in
        let v : answers c a ≡ bs = sym (append-nil (answers c a)) ∙ ap (λ (z : List Bool). answers c a ++ z) (sym (answers_none (after_moves c a) b g)) ∙ sym (answers_more c a b) ∙ d in
        joined_flow (fired_at i f) left_alone w r c x.tour y.tour
        ∙ ap₂ (λ (m n : List X). m ++ n) (x.fires c u v s) (y.fires (after c x.tour) ∙ makes_none (after c x.tour) b h) ∙ append-nil out;
  }

  pub fires_behind : (r : Option (List ℕ)) (a b : List Move) (vs : List X) (bs : List Bool) (out : List X) → triplets_of i a ≡ [] → triplets_of w.last a ≡ [] → Whole r a → Fires r b vs bs out → Fires r (a ++ b) vs bs out
  fires_behind r a b vs bs out h g x y = record {
    tour = joined x.tour y.tour;
    moves = joined_moves x.tour y.tour ∙ ap₂ (λ (m n : List Move). m ++ n) x.moves y.moves;
    fires = λ c e d s.
        let k : after_moves c a ≡ after c x.tour = ap (after_moves c) (sym x.moves) ∙ moved_after x.tour c in
        let u : makes (after_moves c a) b ≡ vs = ap (λ (z : List X). z ++ makes (after_moves c a) b) (sym (makes_none c a h)) ∙ sym (makes_more c a b) ∙ e in
        let v : answers (after_moves c a) b ≡ bs = ap (λ (z : List Bool). z ++ answers (after_moves c a) b) (sym (answers_none c a g)) ∙ sym (answers_more c a b) ∙ d in
        joined_flow (fired_at i f) left_alone w r c x.tour y.tour
        ∙ ap₂ (λ (m n : List X). m ++ n) (x.fires c ∙ makes_none c a h)
        (y.fires (after c x.tour) (subst (λ (d : Context). makes d b ≡ vs) k u) (subst (λ (d : Context). answers d b ≡ bs) k v) s);
  }

  -- ---- the same, whatever the answers are

  pub record Always (r : Option (List ℕ)) (ms : List Move) (vs : List X) (bs : List Bool) (out : List X) : Type 0 where
    pub tour : Tour
    pub moves : moves_of tour ≡ ms
    pub fires : (c : Context) → makes c ms ≡ vs → answers c ms ≡ bs → fired r c tour ≡ out

  pub no_moves : (r : Option (List ℕ)) → Always r [] [] [] []
  no_moves r = record { tour = over; moves = refl; fires = λ c e d. refl }

  pub both_always : (r : Option (List ℕ)) (a b : List Move) (us vs : List X) (es bs : List Bool) (out more : List X) → length (triplets_of i a) ≡ length us → length (triplets_of w.last a) ≡ length es
      → Always r a us es out → Always r b vs bs more → Always r (a ++ b) (us ++ vs) (es ++ bs) (out ++ more)
  both_always r a b us vs es bs out more l m x y = record {
    tour = joined x.tour y.tour;
    moves = joined_moves x.tour y.tour ∙ ap₂ (λ (m n : List Move). m ++ n) x.moves y.moves;
    fires = λ c e d.
        let k : after_moves c a ≡ after c x.tour = ap (after_moves c) (sym x.moves) ∙ moved_after x.tour c in
        let u : (makes c a ≡ us) × (makes (after_moves c a) b ≡ vs) = split_equal (makes c a) (makes (after_moves c a) b) us vs (makes_count c a ∙ l) (sym (makes_more c a b) ∙ e) in
        let v : (answers c a ≡ es) × (answers (after_moves c a) b ≡ bs) = split_equal (answers c a) (answers (after_moves c a) b) es bs (answers_count c a ∙ m) (sym (answers_more c a b) ∙ d) in
        joined_flow (fired_at i f) left_alone w r c x.tour y.tour
        ∙ ap₂ (λ (m n : List X). m ++ n) (x.fires c u.0 v.0) (y.fires (after c x.tour) (subst (λ (d : Context). makes d b ≡ vs) k u.1) (subst (λ (d : Context). answers d b ≡ bs) k v.1));
  }

  pub always_fires : (r : Option (List ℕ)) (ms : List Move) (vs : List X) (bs : List Bool) (out : List X) → Always r ms vs bs out → Fires r ms vs bs out
  always_fires r ms vs bs out x = record { tour = x.tour; moves = x.moves; fires = λ c e d s. x.fires c e d }

  -- an instance of the chain's next field: without a true answer nothing fires
  pub enclosed_always : (k : ℕ) (N : List ℕ) (ms : List Move) (vs : List X) (bs : List Bool) (out : List X) → (some_answer bs ≡ false → out ≡ []) → Fires (Some N) ms vs bs out → Always (Some (k ∷ N)) (enclosed k ms) vs bs out
  enclosed_always k N ms vs bs out g x = record {
    tour = inside k x.tour over;
    moves = ap (λ (m : List Move). enter k ∷ (m ++ leave k ∷ [])) x.moves;
    fires = λ c e d.
        let u : makes c ms ≡ vs = sym (append-nil (makes c ms)) ∙ sym (makes_more c ms (leave k ∷ [])) ∙ e in
        let v : answers c ms ≡ bs = sym (append-nil (answers c ms)) ∙ sym (answers_more c ms (leave k ∷ [])) ∙ d in
        let s : some_true w c x.tour ≡ some_answer bs = some_true_any w x.tour c ∙ ap (λ (m : List Move). list_any w.test (contexts w.last c m)) x.moves ∙ sym (any_of_map w.test (contexts w.last c ms)) ∙ ap some_answer v in
        append-nil (if is_dropped (rest_below k (Some (k ∷ N))) (some_true w c x.tour) then [] else fired (rest_below k (Some (k ∷ N))) c x.tour)
        ∙ ap (λ (r : Option (List ℕ)). if is_dropped r (some_true w c x.tour) then [] else fired r c x.tour) (ap (λ (b : Bool). if b then Some N else None) (eq-eqb k k refl))
        ∙ ap (λ (b : Bool). if not b then [] else fired (Some N) c x.tour) s
        ∙ by_answer (some_answer bs) refl c (x.fires c u v);
  }
    where
      by_answer : (b : Bool) → some_answer bs ≡ b → (c : Context) → (some_answer bs ≡ true → fired (Some N) c x.tour ≡ out) → (if not b then [] else fired (Some N) c x.tour) ≡ out
      by_answer true s c h = h s
      by_answer false s c h = sym (g s)
