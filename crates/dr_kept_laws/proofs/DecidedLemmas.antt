-- What is told of a branch, if it is decided, stays till its Leave.
use Rattle.std.proofs.Common.{◌≡◌, ℕ, suc, ◌+◌, ◌≤◌, List, [], ◌∷◌, ◌++◌, length, Bool, true, false, Option, None, Some, refl, sym, ap, ap₂, subst, ◌∙◌, append_assoc, append-nil, length-append, arith}
use Rattle.std.specs.Prelude.{map, reverse, not, ◌&&◌, ◌||◌, ◌==◌, if◌then◌else◌}
use Rattle.std.specs.List.{list_any, slice_get}
use Rattle.std.proofs.lemmas.List.{length-map, reverse-append, length-reverse}
use Rattle.dr_meaning.specs.Column.{Triplet}
use Rattle.dr_meaning.specs.Walk.{Move, enter, value, leave}
use Rattle.dr_meaning.specs.WalkLaws.{triplets_of}
use Rattle.dr_meaning.proofs.WalkLemmas.{of_append}
use Rattle.dr_kept_laws.specs.Telling.{Verdict, kept, dropped, undecided, Opened, Watching, nothing_read, chain_in, rows_at, with_rows, is_nothing, watch_move, watch_moves, verdict, verdict_on, last_verdict_on, verdicts_at, told}
use Rattle.dr_kept_laws.specs.TellingLaws.{open_count, DecidedStays}
use Rattle.dr_kept_laws.proofs.TourParts.{IsEnd, same_front}
use Rattle.dr_kept_laws.proofs.AtMostOnce.{IsOnce}
use Rattle.dr_kept_laws.proofs.LeavingsKept.{walk_once}
use Rattle.dr_kept_laws.proofs.TellingLemmas.{tour_rows, watch_append, watches_behind, same_chain}
use Rattle.dr_moves.proofs.KeptRows.{any_append}
use Rattle.dr_kept_laws.proofs.StayLemmas.{told_inside}
use Rattle.dr_moves.specs.Context.{Context, with_value}
use Rattle.dr_moves.specs.Tour.{Tour, over, saw, inside, moves_of, after}
use Rattle.dr_moves.specs.Condition.{Watch, rest_below}
use Rattle.dr_moves.proofs.TourLemmas.{walk_tour}

-- ---- an instance in a tour

-- an instance at the chain's end has at most one triplet of leaf i
abbrev OnceIn : ℕ → Option (List ℕ) → ℕ → Tour → Type 0
OnceIn i r k B = rest_below k r ≡ Some [] → length (triplets_of i (moves_of B)) ≤ 1

-- the instance is in this tour, or behind it
data Located (w : Watch) (i : ℕ) (g : Watching) (T : Tour) (tail a : List Move) (k : ℕ) (B : Tour) (rest : List Move) : Type 0 where
  in_it : OnceIn i (chain_in w (watch_moves w g a).open_ones) k B → Located w i g T tail a k B rest
  behind_it : (e : List Move) → a ≡ moves_of T ++ e → tail ≡ e ++ enter k ∷ (moves_of B ++ leave k ∷ rest) → Located w i g T tail a k B rest

located_saw : (w : Watch) (i j : ℕ) (t : Triplet) (g : Watching) (T : Tour) (tail a : List Move) (k : ℕ) (B : Tour) (rest : List Move) (z : Move) → value j t ≡ z → Located w i (watch_move w g (value j t)) T tail a k B rest
    → Located w i g (saw j t T) tail (z ∷ a) k B rest
located_saw w i j t g T tail a k B rest z e (in_it h) = in_it (subst (λ (m : Move). OnceIn i (chain_in w (watch_moves w (watch_move w g m) a).open_ones) k B) e h)
located_saw w i j t g T tail a k B rest z e (behind_it f h q) = behind_it f (ap₂ (λ (x : Move) (y : List Move). x ∷ y) (sym e) h) q

-- behind the instance's Leave
located_more : (w : Watch) (i l : ℕ) (g : Watching) (D U : Tour) (tail e : List Move) (k : ℕ) (B : Tour) (rest : List Move)
    → Located w i (record { context = after g.context D; open_ones = map (with_rows (tour_rows w g.context D)) g.open_ones }) U tail e k B rest
    → Located w i g (inside l D U) tail (enter l ∷ (moves_of D ++ leave l ∷ e)) k B rest
located_more w i l g D U tail e k B rest (in_it h) =
    let x : watch_moves w (watch_move w g (enter l)) (moves_of D ++ leave l ∷ e) ≡ watch_moves w (record { context = after g.context D; open_ones = map (with_rows (tour_rows w g.context D)) g.open_ones }) e
    = watch_append w (watch_move w g (enter l)) (moves_of D) (leave l ∷ e) ∙ ap (λ (a : Watching). watch_moves w (watch_move w a (leave l)) e) (watches_behind w D (watch_move w g (enter l))) in
    in_it (subst (λ (a : Watching). OnceIn i (chain_in w a.open_ones) k B) (sym x) h)
located_more w i l g D U tail e k B rest (behind_it f h q) = behind_it f (ap (λ (x : List Move). enter l ∷ x) (ap (λ (x : List Move). moves_of D ++ leave l ∷ x) h ∙ sym (append_assoc (moves_of D) (leave l ∷ moves_of U) f))) q

located_inside : (w : Watch) (i l : ℕ) (g : Watching) (D U : Tour) (tail a : List Move) (k : ℕ) (B : Tour) (rest : List Move) (z : Move) → enter l ≡ z
    → Located w i (watch_move w g (enter l)) D (leave l ∷ (moves_of U ++ tail)) a k B rest
    → ((e : List Move) → moves_of U ++ tail ≡ e ++ enter k ∷ (moves_of B ++ leave k ∷ rest) → Located w i (record { context = after g.context D; open_ones = map (with_rows (tour_rows w g.context D)) g.open_ones }) U tail e k B rest)
    → Located w i g (inside l D U) tail (z ∷ a) k B rest
located_inside w i l g D U tail a k B rest z e (in_it h) f = in_it (subst (λ (m : Move). OnceIn i (chain_in w (watch_moves w (watch_move w g m) a).open_ones) k B) e h)
located_inside w i l g D U tail a k B rest z e (behind_it [] h q) f = absurd (cc)
located_inside w i l g D U tail a k B rest z e (behind_it (m ∷ b) h q) f =
    let x : leave l ≡ m = cc in
    let y : moves_of U ++ tail ≡ b ++ enter k ∷ (moves_of B ++ leave k ∷ rest) = cc in
    let v : enter l ∷ (moves_of D ++ leave l ∷ b) ≡ z ∷ a = ap₂ (λ (p : Move) (s : List Move). p ∷ s) e (ap (λ (p : Move). moves_of D ++ p ∷ b) x ∙ sym h) in
    subst (λ (s : List Move). Located w i g (inside l D U) tail s k B rest) v (located_more w i l g D U tail b k B rest (f b y))

located : (w : Watch) (i : ℕ) (T : Tour) (g : Watching) (tail a : List Move) (k : ℕ) (B : Tour) (rest : List Move) → IsOnce i (chain_in w g.open_ones) T → IsEnd tail
    → moves_of T ++ tail ≡ a ++ enter k ∷ (moves_of B ++ leave k ∷ rest) → Located w i g T tail a k B rest
located w i over g tail a k B rest o z h = behind_it a refl h
located w i (saw j t T) g tail [] k B rest o z h = absurd (cc)
located w i (saw j t T) g tail (m ∷ a) k B rest o z h =
    let e : value j t ≡ m = cc in
    let f : moves_of T ++ tail ≡ a ++ enter k ∷ (moves_of B ++ leave k ∷ rest) = cc in
    located_saw w i j t g T tail a k B rest m e
    (located w i T (watch_move w g (value j t)) tail a k B rest (subst (λ (r : Option (List ℕ)). IsOnce i r T) (sym (same_chain w (rows_at w j (with_value j t.value g.context)) g.open_ones)) o) z f)
located w i (inside l D U) g tail [] k B rest o z h =
    let e : l ≡ k = cc in
    let f : (moves_of D ++ leave l ∷ moves_of U) ++ tail ≡ moves_of B ++ leave k ∷ rest = cc in
    let q : (D ≡ B) × (leave l ∷ (moves_of U ++ tail) ≡ leave k ∷ rest) = same_front D B (leave l ∷ (moves_of U ++ tail)) (leave k ∷ rest) tt tt (sym (append_assoc (moves_of D) (leave l ∷ moves_of U) tail) ∙ f) in
    in_it (subst (λ (x : Tour). OnceIn i (chain_in w g.open_ones) k x) q.0 (subst (λ (x : ℕ). OnceIn i (chain_in w g.open_ones) x D) e o.0))
located w i (inside l D U) g tail (m ∷ a) k B rest o z h =
    let e : enter l ≡ m = cc in
    let f : (moves_of D ++ leave l ∷ moves_of U) ++ tail ≡ a ++ enter k ∷ (moves_of B ++ leave k ∷ rest) = cc in
    located_inside w i l g D U tail a k B rest m e
    (located w i D (watch_move w g (enter l)) (leave l ∷ (moves_of U ++ tail)) a k B rest o.1 tt (sym (append_assoc (moves_of D) (leave l ∷ moves_of U) tail) ∙ f))
    (λ b x. located w i U (record { context = after g.context D; open_ones = map (with_rows (tour_rows w g.context D)) g.open_ones }) tail b k B rest
    (subst (λ (r : Option (List ℕ)). IsOnce i r U) (sym (same_chain w (tour_rows w g.context D) g.open_ones)) o.2) z x)

-- ---- a verdict

rows_count : (w : Watch) (T : Tour) (c : Context) → length (tour_rows w c T) ≡ length (triplets_of w.last (moves_of T))
rows_count w over c = refl
rows_count w (saw i t T) c = by_leaf (i == w.last) (rows_count w T (with_value i t.value c))
  where
    by_leaf : (h : Bool) → length (tour_rows w (with_value i t.value c) T) ≡ length (triplets_of w.last (moves_of T))
        → length ((if h then w.test (with_value i t.value c) ∷ [] else []) ++ tour_rows w (with_value i t.value c) T) ≡ length (if h then t ∷ triplets_of w.last (moves_of T) else triplets_of w.last (moves_of T))
    by_leaf true e = ap suc e
    by_leaf false e = e
rows_count w (inside k B T) c =
    length-append (tour_rows w c B) (tour_rows w (after c B) T) ∙ ap₂ (λ (x y : ℕ). x + y) (rows_count w B c) (rows_count w T (after c B))
    ∙ sym (length-append (triplets_of w.last (moves_of B)) (triplets_of w.last (moves_of T))) ∙ ap length (sym (of_append w.last (moves_of B) (leave k ∷ moves_of T)))

verdict_stays : (r : Option (List ℕ)) (rows more : List Bool) (v : Verdict) → (r ≡ Some [] → length (rows ++ more) ≤ 1) → verdict_on r rows ≡ v → (v ≡ undecided → ⊥) → last_verdict_on r (rows ++ more) ≡ v
verdict_stays None rows more v o e f = e
verdict_stays (Some r) rows more v o e f = by_true (list_any (λ b. b) rows) refl e
  where
    no_more : (x : Bool) (xs ys : List Bool) → length ((x ∷ xs) ++ ys) ≤ 1 → ys ≡ []
    no_more x xs [] h = refl
    no_more x xs (y ∷ ys) h = absurd (omega (arith, h, length-append xs (y ∷ ys)))

    by_end : (r : List ℕ) (rows : List Bool) → (Some r ≡ Some [] → length (rows ++ more) ≤ 1) → list_any (λ b. b) rows ≡ false → (if is_nothing r && not (is_nothing rows) then dropped else undecided) ≡ v → last_verdict_on (Some r) (rows ++ more) ≡ v
    by_end [] [] o g h = absurd (f (sym h))
    by_end [] (x ∷ xs) o g h = ap (λ (m : List Bool). last_verdict_on (Some []) ((x ∷ xs) ++ m)) (no_more x xs more (o refl)) ∙ ap (λ (m : List Bool). last_verdict_on (Some []) m) (append-nil (x ∷ xs)) ∙ ap (λ (b : Bool). if b then kept else dropped) g ∙ h
    by_end (j ∷ r) rows o g h = absurd (f (sym h))

    by_true : (b : Bool) → list_any (λ b. b) rows ≡ b → (if b then kept else if is_nothing r && not (is_nothing rows) then dropped else undecided) ≡ v → last_verdict_on (Some r) (rows ++ more) ≡ v
    by_true true g h = ap (λ (b : Bool). if b then kept else dropped) (any_append (λ b. b) rows more ∙ ap (λ (b : Bool). b || list_any (λ b. b) more) g) ∙ h
    by_true false g h = by_end r rows o g h

-- ---- the place of a branch in what is told

at_middle : (xs : List Verdict) (x : Verdict) (ys : List Verdict) → slice_get (xs ++ x ∷ ys) (length xs) ≡ Some x
at_middle [] x ys = refl
at_middle (z ∷ xs) x ys = at_middle xs x ys

outer_told : (vs : List Verdict) (x : Verdict) (os : List Opened) (n : ℕ) → n ≡ length os → slice_get (reverse (vs ++ x ∷ map verdict os)) n ≡ Some x
outer_told vs x os n e =
    let ys : List Verdict = map verdict os in
    let a : reverse (vs ++ x ∷ ys) ≡ (reverse ys ++ x ∷ []) ++ reverse vs = reverse-append vs (x ∷ ys) ∙ ap (λ (z : List Verdict). z ++ reverse vs) (reverse-append (x ∷ []) ys) in
    let b : reverse (vs ++ x ∷ ys) ≡ reverse ys ++ x ∷ reverse vs = a ∙ append_assoc (reverse ys) (x ∷ []) (reverse vs) in
    let c : n ≡ length (reverse ys) = e ∙ sym (length-map os verdict) ∙ sym (length-reverse ys) in
    ap₂ (λ (z : List Verdict) (m : ℕ). slice_get z m) b c ∙ at_middle (reverse ys) x (reverse vs)

-- the branch that was entered behind these moves
module _ (w : Watch) (before : List Move) (k : ℕ) (B : Tour) where
  told_at_leave : slice_get (told w (before ++ enter k ∷ moves_of B) (leave k)) (open_count w before) ≡ Some (last_verdict_on (rest_below k (chain_in w (watch_moves w nothing_read before).open_ones)) (tour_rows w (watch_moves w nothing_read before).context B))
  told_at_leave =
      let g = watch_moves w nothing_read before in
      let x : watch_moves w nothing_read (before ++ enter k ∷ moves_of B) ≡ _ = watch_append w nothing_read before (enter k ∷ moves_of B) ∙ watches_behind w B (watch_move w g (enter k)) in
      ap (λ (a : Watching). slice_get (reverse (verdicts_at w a (leave k))) (open_count w before)) x
      ∙ outer_told [] (last_verdict_on (rest_below k (chain_in w g.open_ones)) (tour_rows w g.context B)) (map (with_rows (tour_rows w g.context B)) g.open_ones) (open_count w before) (sym (length-map g.open_ones (with_rows (tour_rows w g.context B))))

  -- at a move from its Enter on, by its rows so far
  pub record Meanwhile (a : List Move) (m : Move) : Type 0 where
    pub rows : List Bool
    pub more : List Bool
    pub told_then : slice_get (told w (before ++ a) m) (open_count w before) ≡ Some (verdict_on (rest_below k (chain_in w (watch_moves w nothing_read before).open_ones)) rows)
    pub all_rows : tour_rows w (watch_moves w nothing_read before).context B ≡ rows ++ more

  meanwhile : (a d : List Move) (m : Move) → enter k ∷ moves_of B ≡ a ++ m ∷ d → Meanwhile a m
  meanwhile [] d m h =
      let e : enter k ≡ m = cc in
      let g = watch_moves w nothing_read before in
      subst (Meanwhile []) e (record {
        rows = [];
        more = tour_rows w g.context B;
        told_then = ap (λ (x : List Move). slice_get (told w x (enter k)) (open_count w before)) (append-nil before)
            ∙ outer_told [] (verdict_on (rest_below k (chain_in w g.open_ones)) []) g.open_ones (open_count w before) refl;
        all_rows = refl;
      })
  meanwhile (z ∷ a) d m h =
      let e : enter k ≡ z = cc in
      let f : moves_of B ≡ a ++ m ∷ d = cc in
      let g = watch_moves w nothing_read before in
      let x = told_inside w B (watch_move w g (enter k)) a m d f in
      subst (λ (y : Move). Meanwhile (y ∷ a) m) e (record {
        rows = x.rows;
        more = x.more;
        told_then = ap (λ (y : Watching). slice_get (reverse (verdicts_at w y m)) (open_count w before)) (watch_append w nothing_read before (enter k ∷ a))
            ∙ ap (λ (y : List Verdict). slice_get (reverse y) (open_count w before)) x.told_then
            ∙ outer_told x.inner (verdict_on (rest_below k (chain_in w g.open_ones)) x.rows) (map (with_rows x.rows) g.open_ones) (open_count w before) (sym (length-map g.open_ones (with_rows x.rows)));
        all_rows = x.all_rows;
      })

  stays : OnceIn w.last (chain_in w (watch_moves w nothing_read before).open_ones) k B → (a d : List Move) (m : Move) (v : Verdict) → enter k ∷ moves_of B ≡ a ++ m ∷ d
      → slice_get (told w (before ++ a) m) (open_count w before) ≡ Some v → (v ≡ undecided → ⊥) → slice_get (told w (before ++ enter k ∷ moves_of B) (leave k)) (open_count w before) ≡ Some v
  stays o a d m v h e f =
      let x = meanwhile a d m h in
      let g = watch_moves w nothing_read before in
      let r = rest_below k (chain_in w g.open_ones) in
      let y : Some (verdict_on r x.rows) ≡ Some v = sym x.told_then ∙ e in
      let q : (r ≡ Some [] → length (x.rows ++ x.more) ≤ 1) = λ z. let n : length (triplets_of w.last (moves_of B)) ≤ 1 = o z in omega (arith, n, rows_count w B g.context, ap length x.all_rows) in
      told_at_leave ∙ ap (λ (z : List Bool). Some (last_verdict_on r z)) x.all_rows ∙ ap Some (verdict_stays r x.rows x.more v q (same (verdict_on r x.rows) y) f)
    where
      same : (u : Verdict) → Some u ≡ Some v → u ≡ v
      same u z = cc

pub decided_stays : DecidedStays
decided_stays fs F w p K condition s R v before rest k B h a d m u e f n =
    let t = walk_tour fs F R s.leaves v in
    let o : IsOnce w.last (Some (0 ∷ w.chain)) t.tour = walk_once fs F w p K condition s R t.tour v t.moves in
    stays w before k B (found (located w w.last t.tour nothing_read [] before k B rest o tt (append-nil (moves_of t.tour) ∙ t.moves ∙ h))) a d m u e f n
  where
    found : {T : Tour} → Located w w.last nothing_read T [] before k B rest → OnceIn w.last (chain_in w (watch_moves w nothing_read before).open_ones) k B
    found (in_it x) = x
    found (behind_it [] x y) = absurd (cc)
    found (behind_it (z ∷ c) x y) = absurd (cc)
