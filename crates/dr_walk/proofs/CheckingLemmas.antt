-- A walk over columns of which so much is left: what is left behind a call.
use Rattle.std.proofs.Common.{◌≡◌, ◌≢◌, ◌⊎◌, inl, inr, ℕ, zero, suc, ◌+◌, ◌-◌, ◌^◌, ◌≤◌, min, List, [], ◌∷◌, ◌++◌, map, length, get_or, Bool, true, false, ◌&&◌, Option, Some, None, refl, sym, ap, ap₂, subst, ◌∙◌, append-nil, true≢false, eq-eqb, arith, Result, Ok, Err, slice_set, ◌<◌}
use Rattle.std.specs.Prelude.{not, ◌==◌, nat_lt, if◌then◌else◌, option_map, is_some, IfOk, IsErrOf, IsErrAnd}
use Rattle.std.proofs.lemmas.Bool.{eqb-true, ne_eqb}
use Rattle.std.proofs.lemmas.Bool.Decides.{nat_tests}
use Rattle.std.proofs.lemmas.List.{get_or_past, get_or-map, length-map}
use Rattle.dr_meaning.specs.Schema.{Fields}
use Rattle.dr_meaning.specs.Path.{Step}
use Rattle.dr_meaning.specs.Record.{Node}
use Rattle.dr_meaning.specs.Column.{Triplet}
use Rattle.dr_meaning.specs.Walk.{Move}
use Rattle.dr_levels.specs.Views.{triplet_view, triplets_view, move_view}
use Rattle.dr_levels.specs.Columns.{Gives}
use Rattle.dr_levels.specs.declared.triplet.Triplet.{Triplet as CodeTriplet}
use Rattle.dr_levels.specs.declared.triplets.Triplets.{Triplets}
use Rattle.dr_levels.specs.declared.moves.Move.{Move as CodeMove}
use Rattle.dr_moves.specs.Course.{course}
use Rattle.dr_moves.specs.Turning.{between}
use Rattle.dr_moves.specs.Leading.{Left, head_of, tail_of, columns_of}
use Rattle.dr_walk.specs.Walking.{HasColumns, NoneHas, first_wanted, is_known, wanted_behind, then_wanted, leaf_of}
use Rattle.dr_walk.specs.Valued.{IsAt, Wants, Comes, moves_of, left_behind}
use Rattle.dr_walk.specs.Checking.{rest_at, rest_behind, next_at, untaken, IsOn, StandsOver, Advances}
use Rattle.dr_walk.specs.declared.fault.AssembleFault.{AssembleFault}
use Rattle.dr_walk.specs.declared.walk.Walk.{Walk}
use Rattle.dr_walk.proofs.WalkLemmas.{is_known_by, known_is, not_known, known_before, unknown_before, left_past, one_more}

-- ---- once what was wanted came

nothing_untaken : (b : Bool) → untaken b [] ≡ []
nothing_untaken true = refl
nothing_untaken false = refl

behind_known : (given n leaf : ℕ) → is_known (wanted_behind given n leaf) given leaf ≡ true
behind_known given n leaf = known_is (wanted_behind given n leaf) given leaf ∙ by_first (given == 0) (nat_lt (leaf + 1) n)
  where
    next : (a : ℕ) → nat_lt a (a + 1) ≡ true
    next a = grind (arith, nat_tests)

    by_first : (b c : Bool) → is_known_by b (if b && c then Some (leaf + 1) else None) leaf ≡ true
    by_first true true = next leaf
    by_first true false = refl
    by_first false c = refl

taken_by : (b k l : Bool) (ts : List Triplet) → (b ≡ true → (k ≡ false) × (l ≡ true)) → (b ≡ false → (k ≡ l) ⊎ (ts ≡ [])) → (if b then tail_of (untaken k ts) else untaken k ts) ≡ untaken l ts
taken_by true k l ts h g = let x = h refl in ap (λ (c : Bool). tail_of (untaken c ts)) x.0 ∙ ap (λ (c : Bool). untaken c ts) (sym x.1)
taken_by false k l ts h g = of (g refl)
  where
    of : (k ≡ l) ⊎ (ts ≡ []) → untaken k ts ≡ untaken l ts
    of (inl e) = ap (λ (c : Bool). untaken c ts) e
    of (inr e) = ap (untaken k) e ∙ nothing_untaken k ∙ sym (nothing_untaken l) ∙ ap (untaken l) (sym e)

pub taken_rest : (fs : Fields) (F : List (List Step)) (rows : ℕ) (C : List (List Triplet)) (ms : List Move) (left : Left) (w : Walk) → IsAt fs F rows C ms left w → (i : ℕ)
    → rest_behind w.levels.wanted i (untaken (is_known w.levels.wanted w.levels.given i) (left i)) ≡ untaken (is_known (then_wanted w.levels.given (length w.levels.course.heads.items) w.levels.wanted) w.levels.given i) (left i)
taken_rest fs F rows C ms left w at i = of w.levels.wanted
  where
    n : ℕ
    n = length w.levels.course.heads.items

    nothing : n ≤ i → left i ≡ []
    nothing p = let h : length w.levels.course.heads.items ≡ length F = at.levels.heads in left_past (course fs F) (between rows) at.levels.stack C ms left (length F) i at.levels.leads at.levels.columns (omega (arith, h, p))

    here : (j : ℕ) → (i == j) ≡ true → (is_known (Some j) w.levels.given i ≡ false) × (is_known (wanted_behind w.levels.given n j) w.levels.given i ≡ true)
    here j e = let q : i ≡ j = eqb-true i j e in subst (λ (x : ℕ). (is_known (Some x) w.levels.given i ≡ false) × (is_known (wanted_behind w.levels.given n x) w.levels.given i ≡ true)) q (not_known w.levels.given i, behind_known w.levels.given n i)

    there : (j : ℕ) → (i == j) ≡ false → (is_known (Some j) w.levels.given i ≡ is_known (wanted_behind w.levels.given n j) w.levels.given i) ⊎ (left i ≡ [])
    there j e = by_known (is_known (wanted_behind w.levels.given n j) w.levels.given i) refl
      where
        d : i ≢ j
        d q = true≢false (sym (eq-eqb i j q) ∙ e)

        by_side : (is_known (Some j) w.levels.given i ≡ true) ⊎ (n ≤ i) → (is_known (Some j) w.levels.given i ≡ true) ⊎ (left i ≡ [])
        by_side (inl h) = inl h
        by_side (inr p) = inr (nothing p)

        both : (b : Bool) → is_known (wanted_behind w.levels.given n j) w.levels.given i ≡ b → (is_known (Some j) w.levels.given i ≡ b) ⊎ (left i ≡ []) → (is_known (Some j) w.levels.given i ≡ is_known (wanted_behind w.levels.given n j) w.levels.given i) ⊎ (left i ≡ [])
        both b f (inl h) = inl (h ∙ sym f)
        both b f (inr p) = inr p

        by_known : (b : Bool) → is_known (wanted_behind w.levels.given n j) w.levels.given i ≡ b → (is_known (Some j) w.levels.given i ≡ is_known (wanted_behind w.levels.given n j) w.levels.given i) ⊎ (left i ≡ [])
        by_known true f = both true f (by_side (known_before w.levels.given n j i d f))
        by_known false f = both false f (inl (unknown_before w.levels.given n j i f).1)

    of : (o : Option ℕ) → rest_behind o i (untaken (is_known o w.levels.given i) (left i)) ≡ untaken (is_known (then_wanted w.levels.given n o) w.levels.given i) (left i)
    of None = refl
    of (Some j) = taken_by (i == j) (is_known (Some j) w.levels.given i) (is_known (wanted_behind w.levels.given n j) w.levels.given i) (left i) (here j) (there j)

-- ---- and behind the move that is given

leaf_taken : (b c : Bool) (ts : List Triplet) → b ≡ c → tail_of ts ≡ untaken (not b) (if c then tail_of ts else ts)
leaf_taken true true ts e = refl
leaf_taken true false ts e = absurd (true≢false e)
leaf_taken false true ts e = absurd (true≢false (sym e))
leaf_taken false false ts e = refl

same_test : (i j : ℕ) → (i == j) ≡ (j == i)
same_test i j = grind (arith, nat_tests)

pub given_rest : (left : Left) (m : Option CodeMove) (o after : Option ℕ) (before given : ℕ) → Wants m o after → (m ≡ None → given ≡ before) → ((x : CodeMove) → m ≡ Some x → given ≢ 0) → (i : ℕ)
    → untaken (is_known o before i) (left i) ≡ untaken (is_known after given i) (left_behind m left i)
given_rest left None o after before given w s d i = ap₂ (λ (p : Option ℕ) (g : ℕ). untaken (is_known p g i) (left i)) (sym w) (sym (s refl))
given_rest left (Some m) o after before given w s d i = ap (λ (p : Option ℕ). untaken (is_known p before i) (left i)) w.0 ∙ of m (d m refl) ∙ ap (λ (p : Option ℕ). untaken (is_known p given i) (left_behind (Some m) left i)) (sym w.1)
  where
    of : (m : CodeMove) → given ≢ 0 → tail_of (left i) ≡ untaken (is_known (leaf_of m) given i) (left_behind (Some m) left i)
    of (CodeMove.Enter k) z = refl
    of (CodeMove.Leave k) z = refl
    of (CodeMove.Leaf j t) z = leaf_taken (i == j) (j == i) (left i) (same_test i j) ∙ ap (λ (b : Bool). untaken b (left_behind (Some (CodeMove.Leaf j t)) left i)) (sym (rw (ne_eqb given 0 z) refl))

-- ---- a call

pub none_given : (o : Option ℕ) (rest : ℕ → List Triplet) (more : Option CodeTriplet) → option_map triplet_view more ≡ next_at o rest → o ≡ None → more ≡ None
none_given o rest None e n = refl
none_given o rest (Some t) e n = absurd (some_is_none (e ∙ ap (λ (p : Option ℕ). next_at p rest) n))
  where
    some_is_none : Some (triplet_view t) ≡ None → ⊥
    some_is_none q = cc

comes_by : (o : Option ℕ) (given : ℕ) (left : Left) (rest : ℕ → List Triplet) (more : Option CodeTriplet) → ((i : ℕ) → rest i ≡ untaken (is_known o given i) (left i)) → option_map triplet_view more ≡ next_at o rest → Comes left o more
comes_by None given left rest more r e = none_given None rest more e refl
comes_by (Some i) given left rest more r e = e ∙ ap head_of (r i ∙ ap (λ (b : Bool). untaken b (left i)) (not_known given i))

pub comes_on : (fs : Fields) (F : List (List Step)) (C : List (List Triplet)) (rows : ℕ) (ms : List Move) (w : Walk) (rests : List Triplets) (more : Option CodeTriplet) → (on : IsOn fs F C rows ms w rests) → option_map triplet_view more ≡ next_at w.levels.wanted (rest_at rests) → Comes on.left w.levels.wanted more
comes_on fs F C rows ms w rests more on e = comes_by w.levels.wanted w.levels.given on.left (rest_at rests) more on.rest e

pub goes_on : (fs : Fields) (F : List (List Step)) (C : List (List Triplet)) (rows : ℕ) (ms : List Move) (old new : Walk) (rests later : List Triplets) (m : Option CodeMove) → (on : IsOn fs F C rows ms old rests)
    → ((i : ℕ) → rest_at later i ≡ rest_behind old.levels.wanted i (rest_at rests i)) → IsAt fs F rows C (ms ++ moves_of m) (left_behind m on.left) new
    → Wants m (then_wanted old.levels.given (length old.levels.course.heads.items) old.levels.wanted) new.levels.wanted → IsOn fs F C rows (ms ++ moves_of m) new later
goes_on fs F C rows ms old new rests later m on r at w = record {
  left = left_behind m on.left;
  at = at;
  rest = λ i. r i ∙ ap (rest_behind old.levels.wanted i) (on.rest i) ∙ taken_rest fs F rows C ms on.left old on.at i
      ∙ given_rest on.left m (then_wanted old.levels.given (length old.levels.course.heads.items) old.levels.wanted) new.levels.wanted old.levels.given new.levels.given w same some i;
}
  where
    same : m ≡ None → new.levels.given ≡ old.levels.given
    same e = at.levels.gave ∙ ap (λ (x : Option CodeMove). min (length (ms ++ moves_of x)) (2 ^ 64 - 1)) e ∙ ap (λ (ms : List Move). min (length ms) (2 ^ 64 - 1)) (append-nil ms) ∙ sym on.at.levels.gave

    never : 1 ≤ 0 → ⊥
    never x = omega (arith, x)

    some : (x : CodeMove) → m ≡ Some x → new.levels.given ≢ 0
    some x e q =
        let l : length (ms ++ moves_of m) ≡ length ms + 1 = ap (λ (y : Option CodeMove). length (ms ++ moves_of y)) e ∙ one_more ms (move_view x) in
        let g = at.levels.gave in
        never (omega (arith, l, g, q))

-- ---- what a call answers

abbrev Answer : Type 0
Answer = Result (Option CodeMove) AssembleFault

pub ok_on : (P : Option CodeMove → Type 0) (r : Answer) (m : Option CodeMove) → r ≡ Ok m → IfOk r P → P m
ok_on P r m e h = subst (λ (x : Answer). IfOk x P) e h

-- a move was given: it goes on
pub gave_where : (fs : Fields) (F : List (List Step)) (C : List (List Triplet)) (rows : ℕ) (ms : List Move) (w : Walk) (rests : List Triplets) → IsOn fs F C rows ms w rests → Advances fs F C rows w rests (Ok false)
gave_where fs F C rows ms w rests on = (ms, on)

-- none was given: it goes on, or it is at its end
pub none_where : (fs : Fields) (F : List (List Step)) (C : List (List Triplet)) (rows : ℕ) (ms : List Move) (w : Walk) (rests : List Triplets) (b : Bool) → not b ≡ is_some w.levels.wanted
    → IsOn fs F C rows ms w rests → (w.levels.wanted ≡ None → (R : List Node) × HasColumns fs F C rows R) → Advances fs F C rows w rests (Ok b)
none_where fs F C rows ms w rests true e on h = by_wanted w.levels.wanted refl
  where
    by_wanted : (o : Option ℕ) → w.levels.wanted ≡ o → (R : List Node) × HasColumns fs F C rows R
    by_wanted None q = h q
    by_wanted (Some i) q = absurd (true≢false (sym (e ∙ ap is_some q)))
none_where fs F C rows ms w rests false e on h = (ms, on)

pub fails_with : (fs : Fields) (F : List (List Step)) (C : List (List Triplet)) (rows : ℕ) (w : Walk) (rests : List Triplets) (f : AssembleFault) → (f ≡ AssembleFault.BadData → NoneHas fs F C rows) → Advances fs F C rows w rests (Err f)
fails_with fs F C rows w rests AssembleFault.BadData h = h refl
fails_with fs F C rows w rests AssembleFault.NoMemory h = tt

-- ---- the beginning

pub begins_on : (fs : Fields) (F : List (List Step)) (C : List (List Triplet)) (rows n : ℕ) (w : Walk) (rests : List Triplets) → IsAt fs F rows C [] (columns_of C) w → w.levels.wanted ≡ first_wanted n → n ≡ length F → map triplets_view rests ≡ C → IsOn fs F C rows [] w rests
begins_on fs F C rows n w rests at q k e = record {
  left = columns_of C;
  at = at;
  rest = λ i. ap (λ (D : List (List Triplet)). get_or D i []) e ∙ by_count n i q k;
}
  where
    none_gave : w.levels.given ≡ 0
    none_gave = let g = at.levels.gave in omega (arith, g)

    never : (i : ℕ) → nat_lt i 0 ≡ false
    never i = grind (arith, nat_tests)

    by_count : (n i : ℕ) → w.levels.wanted ≡ first_wanted n → n ≡ length F → columns_of C i ≡ untaken (is_known w.levels.wanted w.levels.given i) (columns_of C i)
    by_count zero i q k =
        let h = at.levels.columns in
        let nil : columns_of C i ≡ [] = get_or_past C i [] (omega (arith, h, k)) in
        nil ∙ sym (nothing_untaken (is_known w.levels.wanted w.levels.given i)) ∙ ap (untaken (is_known w.levels.wanted w.levels.given i)) (sym nil)
    by_count (suc n) i q k = ap (λ (b : Bool). untaken b (columns_of C i)) (sym (never i) ∙ sym (ap₂ (λ (o : Option ℕ) (g : ℕ). is_known o g i) q none_gave))

-- ---- a column's next triplet

pub gives_head : (before after : List Triplet) (r : Option CodeTriplet) → Gives triplet_view before after r → option_map triplet_view r ≡ head_of before
gives_head before after None e = sym (ap head_of e)
gives_head before after (Some t) e = sym (ap head_of e)

pub rest_here : (rs : List Triplets) (k : ℕ) (d : Triplets) → k < length rs → rest_at rs k ≡ triplets_view (get_or rs k d)
rest_here rs k d l = get_or-map triplets_view rs k d [] l

pub rest_past : (rs : List Triplets) (k : ℕ) → length rs ≤ k → rest_at rs k ≡ []
rest_past rs k l = let m = length-map rs triplets_view in get_or_past (map triplets_view rs) k [] (omega (arith, l, m))

-- nothing is taken of a column that is at its end
pub none_taken : (rs : List Triplets) (k : ℕ) → rest_at rs k ≡ [] → (i : ℕ) → rest_at rs i ≡ rest_behind (Some k) i (rest_at rs i)
none_taken rs k e i = by_same (i == k) refl
  where
    by_same : (b : Bool) → (i == k) ≡ b → rest_at rs i ≡ (if b then tail_of (rest_at rs i) else rest_at rs i)
    by_same true q = let z : rest_at rs i ≡ [] = ap (rest_at rs) (eqb-true i k q) ∙ e in z ∙ ap tail_of (sym z)
    by_same false q = refl

set_here : (rs : List Triplets) (k : ℕ) (x : Triplets) → k < length rs → rest_at (slice_set rs k x) k ≡ triplets_view x
set_here [] k x l = absurd (omega (arith, l))
set_here (r ∷ rs) zero x l = refl
set_here (r ∷ rs) (suc k) x l = set_here rs k x (omega (arith, l))

set_there : (rs : List Triplets) (k i : ℕ) (x : Triplets) → i ≢ k → rest_at (slice_set rs k x) i ≡ rest_at rs i
set_there [] k i x d = refl
set_there (r ∷ rs) zero zero x d = absurd (d refl)
set_there (r ∷ rs) zero (suc i) x d = refl
set_there (r ∷ rs) (suc k) zero x d = refl
set_there (r ∷ rs) (suc k) (suc i) x d = set_there rs k i x (λ e. d (ap suc e))

pub one_taken : (rs : List Triplets) (k : ℕ) (x : Triplets) (t : Triplet) → k < length rs → rest_at rs k ≡ t ∷ triplets_view x → (i : ℕ) → rest_at (slice_set rs k x) i ≡ rest_behind (Some k) i (rest_at rs i)
one_taken rs k x t l e i = by_same (i == k) refl
  where
    by_same : (b : Bool) → (i == k) ≡ b → rest_at (slice_set rs k x) i ≡ (if b then tail_of (rest_at rs i) else rest_at rs i)
    by_same true q = let z : i ≡ k = eqb-true i k q in ap (rest_at (slice_set rs k x)) z ∙ set_here rs k x l ∙ sym (ap tail_of e) ∙ sym (ap (λ (j : ℕ). tail_of (rest_at rs j)) z)
    by_same false q = set_there rs k i x (λ z. true≢false (sym (eq-eqb i k z) ∙ q))

-- ---- by what an answer is

pub stands_where : (fs : Fields) (F : List (List Step)) (C : List (List Triplet)) (rows : ℕ) (w : Walk) (rests : List Triplets) (r : Result Bool AssembleFault) (b : Bool) → r ≡ Ok b → b ≡ false → Advances fs F C rows w rests r → StandsOver fs F C rows w rests
stands_where fs F C rows w rests r b e q h = subst (Advances fs F C rows w rests) (e ∙ ap Ok q) h

pub ended_has : (fs : Fields) (F : List (List Step)) (C : List (List Triplet)) (rows : ℕ) (w : Walk) (rests : List Triplets) (r : Result Bool AssembleFault) (b : Bool) → r ≡ Ok b → b ≡ true → Advances fs F C rows w rests r → (R : List Node) × HasColumns fs F C rows R
ended_has fs F C rows w rests r b e q h = subst (Advances fs F C rows w rests) (e ∙ ap Ok q) h

pub bad_where : (fs : Fields) (F : List (List Step)) (C : List (List Triplet)) (rows : ℕ) (w : Walk) (rests : List Triplets) (r : Result Bool AssembleFault) (f : AssembleFault) → r ≡ Err f → f ≡ AssembleFault.BadData
    → Advances fs F C rows w rests r → NoneHas fs F C rows
bad_where fs F C rows w rests r f e q h = subst (Advances fs F C rows w rests) (e ∙ ap Err q) h

-- a refusal that is handed on
pub bad_handed : {T : Type 0} (r : Result T AssembleFault) (f : AssembleFault) → IsErrAnd r (λ x. x ≡ f) → IsErrOf r AssembleFault.BadData → f ≡ AssembleFault.BadData
bad_handed (Ok t) f e q = absurd e
bad_handed (Err x) f e q = let same : x ≡ AssembleFault.BadData = cc in sym e ∙ same
