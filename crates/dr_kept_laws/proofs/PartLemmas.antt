-- Answers of a condition's parts, each tested at its own last leaf, are the tests where all is read.
use Rattle.std.proofs.Common.{◌≡◌, ℕ, List, [], ◌∷◌, Bool, true, false, ◌&&◌, Some, refl, sym, ap, ap₂, subst, ◌∙◌, true≢false}
use Rattle.std.specs.Prelude.{map, ◌==◌, if◌then◌else◌}
use Rattle.std.specs.List.{list_all, slice_get}
use Rattle.dr_meaning.specs.Schema.{Fields}
use Rattle.dr_meaning.specs.Path.{Step, is_leaf_path}
use Rattle.dr_meaning.specs.Record.{Node, is_record}
use Rattle.dr_meaning.specs.Column.{Triplet}
use Rattle.dr_meaning.specs.Walk.{Move, enter, value, leave, walk}
use Rattle.dr_kept_laws.specs.Parts.{Part, part_at, all_answers, all_tests, answers_at, SameAt, ArePartsOf, no_part, one_part, AnswersAreTests}
use Rattle.dr_kept_laws.proofs.FreshLemmas.{fresh_by, Fresh}
use Rattle.dr_kept_laws.proofs.FreshWalk.{walk_fresh}
use Rattle.dr_kept_laws.proofs.Selections.{leaf_selected}
use Rattle.dr_moves.proofs.RowsRead.{map_same}
use Rattle.dr_moves.specs.Context.{Context, with_value, contexts}
use Rattle.dr_moves.specs.Firing.{AllTogether}
use Rattle.dr_moves.specs.Together.{Together}
use Rattle.dr_moves.proofs.FiringLemmas.{with_itself}

-- ---- one part

-- a part with this answer
abbrev answered : ℕ → (Context → Bool) → Bool → Part
answered j test b = record { last = j; test = test; answer = b }

-- its answer is its test at each triplet of leaf i
abbrev IsRight : ℕ → ℕ → (Context → Bool) → Context → Bool → List Move → Type 0
IsRight i j test c b [] = Unit {0}
IsRight i j test c b (enter k ∷ ms) = IsRight i j test c b ms
IsRight i j test c b (value l t ∷ ms) = ((l == i) ≡ true → (part_at l (with_value l t.value c) (answered j test b)).answer ≡ test (with_value l t.value c))
    × IsRight i j test (with_value l t.value c) ((part_at l (with_value l t.value c) (answered j test b)).answer) ms
IsRight i j test c b (leave k ∷ ms) = IsRight i j test c b ms

-- none of these leaves was read since leaf j was
abbrev NoneRead : List ℕ → (ℕ → Bool) → Type 0
NoneRead [] fresh = Unit {0}
NoneRead (k ∷ K) fresh = (fresh k ≡ true) × NoneRead K fresh

abbrev AllFresh : ℕ → ℕ → List ℕ → (ℕ → Bool) → List Move → Type 0
AllFresh i j [] fresh ms = Unit {0}
AllFresh i j (k ∷ K) fresh ms = Fresh i j k (fresh k) ms × AllFresh i j K fresh ms

-- behind a triplet of another leaf that none of them is
unread : (l : ℕ) (t : Triplet) (K : List ℕ) (fresh : ℕ → Bool) (c : Context) → NoneRead K (λ k. if l == k then false else fresh k) → NoneRead K fresh × SameAt K (with_value l t.value c) c
unread l t [] fresh c h = (tt, tt)
unread l t (k ∷ K) fresh c h =
    let x : (fresh k ≡ true) × (with_value l t.value c k ≡ c k) = by_leaf (l == k) h.0 in
    let y : NoneRead K fresh × SameAt K (with_value l t.value c) c = unread l t K fresh c h.1 in
    ((x.0, y.0), (x.1, y.1))
  where
    by_leaf : (b : Bool) → (if b then false else fresh k) ≡ true → (fresh k ≡ true) × ((if b then t.value else c k) ≡ c k)
    by_leaf true e = absurd (true≢false (sym e))
    by_leaf false e = (e, refl)

fresh_on : (i j l : ℕ) (t : Triplet) (ms : List Move) (K : List ℕ) (fresh : ℕ → Bool) → AllFresh i j K fresh (value l t ∷ ms) → AllFresh i j K (λ k. fresh_by j k l (fresh k)) ms
fresh_on i j l t ms [] fresh h = tt
fresh_on i j l t ms (k ∷ K) fresh h = (h.0.1, fresh_on i j l t ms K fresh h.1)

fresh_here : (i j l : ℕ) (t : Triplet) (ms : List Move) (K : List ℕ) (fresh : ℕ → Bool) → (l == i) ≡ true → AllFresh i j K fresh (value l t ∷ ms) → NoneRead K (λ k. fresh_by j k l (fresh k))
fresh_here i j l t ms [] fresh e h = tt
fresh_here i j l t ms (k ∷ K) fresh e h = (h.0.0 e, fresh_here i j l t ms K fresh e h.1)

fresh_entered : (i j k : ℕ) (ms : List Move) (K : List ℕ) (fresh : ℕ → Bool) → AllFresh i j K fresh (enter k ∷ ms) → AllFresh i j K fresh ms
fresh_entered i j k ms [] fresh h = tt
fresh_entered i j k ms (x ∷ K) fresh h = (h.0, fresh_entered i j k ms K fresh h.1)

fresh_left : (i j k : ℕ) (ms : List Move) (K : List ℕ) (fresh : ℕ → Bool) → AllFresh i j K fresh (leave k ∷ ms) → AllFresh i j K fresh ms
fresh_left i j k ms [] fresh h = tt
fresh_left i j k ms (x ∷ K) fresh h = (h.0, fresh_left i j k ms K fresh h.1)

module _ (i j : ℕ) (test : Context → Bool) (K : List ℕ) (depends : (c d : Context) → SameAt K c d → test c ≡ test d) where
  right_on : (l : ℕ) (t : Triplet) (fresh : ℕ → Bool) (c : Context) (b : Bool) → (NoneRead K fresh → b ≡ test c) → NoneRead K (λ k. fresh_by j k l (fresh k))
      → (part_at l (with_value l t.value c) (answered j test b)).answer ≡ test (with_value l t.value c)
  right_on l t fresh c b h g = by_last (l == j) g
    where
      by_last : (q : Bool) → NoneRead K (λ k. if q then true else if l == k then false else fresh k) → (if q then test (with_value l t.value c) else b) ≡ test (with_value l t.value c)
      by_last true g = refl
      by_last false g = let x : NoneRead K fresh × SameAt K (with_value l t.value c) c = unread l t K fresh c g in h x.0 ∙ sym (depends (with_value l t.value c) c x.1)

  is_right : (ms : List Move) (fresh : ℕ → Bool) (c : Context) (b : Bool) → (NoneRead K fresh → b ≡ test c) → AllFresh i j K fresh ms → IsRight i j test c b ms
  is_right [] fresh c b h g = tt
  is_right (enter k ∷ ms) fresh c b h g = is_right ms fresh c b h (fresh_entered i j k ms K fresh g)
  is_right (leave k ∷ ms) fresh c b h g = is_right ms fresh c b h (fresh_left i j k ms K fresh g)
  is_right (value l t ∷ ms) fresh c b h g = (
    λ e. right_on l t fresh c b h (fresh_here i j l t ms K fresh e g),
    is_right ms (λ k. fresh_by j k l (fresh k)) (with_value l t.value c) ((part_at l (with_value l t.value c) (answered j test b)).answer) (right_on l t fresh c b h) (fresh_on i j l t ms K fresh g),
  )

-- ---- all parts

abbrev pub AllRight : ℕ → Context → List Move → List Part → Type 0
AllRight i c ms [] = Unit {0}
AllRight i c ms (a ∷ ps) = IsRight i a.last a.test c a.answer ms × AllRight i c ms ps

pub same_tests : (l : ℕ) (c d : Context) (ps : List Part) → all_tests (map (part_at l c) ps) d ≡ all_tests ps d
same_tests l c d [] = refl
same_tests l c d (a ∷ ps) = ap (λ (x : Bool). a.test d && x) (same_tests l c d ps)

pub right_here : (i l : ℕ) (t : Triplet) (ms : List Move) (c : Context) (ps : List Part) → (l == i) ≡ true → AllRight i c (value l t ∷ ms) ps → all_answers (map (part_at l (with_value l t.value c)) ps) ≡ all_tests ps (with_value l t.value c)
right_here i l t ms c [] e h = refl
right_here i l t ms c (a ∷ ps) e h = ap₂ (λ (x y : Bool). x && y) (h.0.0 e) (right_here i l t ms c ps e h.1)

pub right_then : (i l : ℕ) (t : Triplet) (ms : List Move) (c : Context) (ps : List Part) → AllRight i c (value l t ∷ ms) ps → AllRight i (with_value l t.value c) ms (map (part_at l (with_value l t.value c)) ps)
right_then i l t ms c [] h = tt
right_then i l t ms c (a ∷ ps) h = (h.0.1, right_then i l t ms c ps h.1)

pub right_entered : (i k : ℕ) (ms : List Move) (c : Context) (ps : List Part) → AllRight i c (enter k ∷ ms) ps → AllRight i c ms ps
right_entered i k ms c [] h = tt
right_entered i k ms c (a ∷ ps) h = (h.0, right_entered i k ms c ps h.1)

pub right_left : (i k : ℕ) (ms : List Move) (c : Context) (ps : List Part) → AllRight i c (leave k ∷ ms) ps → AllRight i c ms ps
right_left i k ms c [] h = tt
right_left i k ms c (a ∷ ps) h = (h.0, right_left i k ms c ps h.1)

all_right : (i : ℕ) (ms : List Move) (c : Context) (ps : List Part) → AllRight i c ms ps → answers_at i c ps ms ≡ map (all_tests ps) (contexts i c ms)
all_right i [] c ps h = refl
all_right i (enter k ∷ ms) c ps h = all_right i ms c ps (right_entered i k ms c ps h)
all_right i (leave k ∷ ms) c ps h = all_right i ms c ps (right_left i k ms c ps h)
all_right i (value l t ∷ ms) c ps h = by_leaf (l == i) (λ e. right_here i l t ms c ps e h)
    (all_right i ms (with_value l t.value c) (map (part_at l (with_value l t.value c)) ps) (right_then i l t ms c ps h)
    ∙ map_same (all_tests (map (part_at l (with_value l t.value c)) ps)) (all_tests ps) (λ d. same_tests l (with_value l t.value c) d ps) (contexts i (with_value l t.value c) ms))
  where
    by_leaf : (b : Bool) → (b ≡ true → all_answers (map (part_at l (with_value l t.value c)) ps) ≡ all_tests ps (with_value l t.value c))
        → answers_at i (with_value l t.value c) (map (part_at l (with_value l t.value c)) ps) ms ≡ map (all_tests ps) (contexts i (with_value l t.value c) ms)
        → (if b then all_answers (map (part_at l (with_value l t.value c)) ps) ∷ answers_at i (with_value l t.value c) (map (part_at l (with_value l t.value c)) ps) ms
        else answers_at i (with_value l t.value c) (map (part_at l (with_value l t.value c)) ps) ms)
        ≡ map (all_tests ps) (if b then with_value l t.value c ∷ contexts i (with_value l t.value c) ms else contexts i (with_value l t.value c) ms)
    by_leaf true f e = ap₂ (λ (x : Bool) (y : List Bool). x ∷ y) (f refl) e
    by_leaf false f e = e

-- ---- over the walk of records

module _ (fs : Fields) (F : List (List Step)) (i : ℕ) (p : List Step) (R : List Node) (h : list_all (is_leaf_path fs) F ≡ true) (e : slice_get F i ≡ Some p) (v : list_all (is_record fs) R ≡ true) where
  leaves_fresh : (j : ℕ) (s : List Step) → slice_get F j ≡ Some s → Together (j ≡ i) (Unit {0}) s p → (K : List ℕ) → AllTogether F j s K → AllTogether F i p K → AllFresh i j K (λ k. false) (walk fs F R)
  leaves_fresh j s ej y [] a b = tt
  leaves_fresh j s ej y (k ∷ K) a b =
      let q : List Step = a.0.0 in
      let same : b.0.0 ≡ q = one_path b.0.0 q (sym b.0.1 ∙ a.0.1) in (
        walk_fresh fs F i j k p s q e ej a.0.1 (leaf_selected fs F i p h e) (leaf_selected fs F j s h ej) (leaf_selected fs F k q h a.0.1) a.0.2 y (subst (λ (x : List Step). Together (k ≡ i) (Unit {0}) x p) same b.0.2) R v false,
        leaves_fresh j s ej y K a.1 b.1,
      )
    where
      one_path : (x q : List Step) → Some x ≡ Some q → x ≡ q
      one_path x q z = cc

  pub parts_right : (c : Context) (ps : List Part) → ArePartsOf fs F i p ps → AllRight i c (walk fs F R) ps
  parts_right c _ no_part = tt
  parts_right c _ (one_part a s K ps ej together with_last depends others) =
      let same : with_last.0.0 ≡ s = one_path with_last.0.0 s (sym with_last.0.1 ∙ ej) in
      let y : Together (a.last ≡ i) (Unit {0}) s p = subst (λ (x : List Step). Together (a.last ≡ i) (Unit {0}) x p) same with_last.0.2 in (
        is_right i a.last a.test (a.last ∷ K) (λ c d x. depends c d x.1) (walk fs F R) (λ k. false) c a.answer (λ x. absurd (true≢false (sym x.0)))
            (leaves_fresh a.last s ej y (a.last ∷ K) ((s, ej, with_itself (a.last ≡ a.last) (Unit {0}) refl s), together) with_last),
        parts_right c ps others,
      )
    where
      one_path : (x q : List Step) → Some x ≡ Some q → x ≡ q
      one_path x q z = cc

pub answers_are_tests : AnswersAreTests
answers_are_tests fs F i p ps R c h e v a = all_right i (walk fs F R) c ps (parts_right fs F i p R h e v c ps a)
