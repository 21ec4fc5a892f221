-- The streams of a file's leaves and the walk over their batches: the beginning, fewer triplets left, a batch more, and what all batches are.
use Rattle.std.proofs.Common.{◌≡◌, ◌≢◌, ◌<◌, ◌≤◌, ◌+◌, ◌-◌, ◌⊎◌, inl, inr, ℕ, zero, suc, List, [], ◌∷◌, ◌++◌, length, map, drop, get_or, Bool, true, false, Option, Some, None, refl, sym, ap, ap₂, subst, ◌∙◌, append-nil, append_assoc, length-append, true≢false, arith}
use Rattle.std.specs.Prelude.{◌==◌, not, nat_lt, if◌then◌else◌, option_map, unwrap_or, slice_set, Result, Ok, Err, IfOk}
use Rattle.std.specs.List.{slice_get}
use Rattle.std.proofs.lemmas.Bool.{eqb-true, ne_eqb, cases_lt}
use Rattle.std.proofs.lemmas.Bool.Decides.{nat_tests}
use Rattle.std.proofs.lemmas.List.{get_or_past, get_or_push, get_or_append_left, map_push, length-map, length-drop, drop-drop, nil_from_length, append_cancel_left}
use Rattle.std.proofs.lemmas.Option.{slice_get-map, slice_get_within, slice_get_cases, get_or_from_slice_get, unwrap_or-slice_get}
use Rattle.dr_meaning.specs.Schema.{Schema}
use Rattle.dr_meaning.specs.Path.{Leaf, paths_of_leaves}
use Rattle.dr_meaning.specs.Column.{Triplet}
use Rattle.dr_meaning.specs.Walk.{Move}
use Rattle.dr_levels.specs.Views.{column_view, triplets_view}
use Rattle.dr_levels.specs.declared.triplets.Triplets.{Triplets}
use Rattle.dr_outside.specs.Link.{Files}
use Rattle.dr_moves.specs.Leading.{Left, columns_of}
use Rattle.dr_chunk.specs.Taking.{BeginWith}
use Rattle.dr_file.specs.OpenedFiles.{IsColumnOf}
use Rattle.dr_file.specs.declared.file_fault.FileFault.{FileFault}
use Rattle.dr_scan.proofs.ColumnsLemmas.{leaf_there}
use Rattle.dr_file.specs.Streams.{IsStreamOf, StreamGoesOn, Fills, file_of, left_of, refused_of}
use Rattle.dr_file.specs.declared.opened.Opened.{Opened}
use Rattle.dr_plan.specs.Planned.{plan_leaves}
use Rattle.dr_plan.specs.declared.plan.Plan.{Plan}
use Rattle.dr_walk.specs.Walking.{IsAtLevels, first_wanted, is_known}
use Rattle.dr_walk.specs.Batches.{IsOver, Shrinks, is_last}
use Rattle.dr_walk.specs.Checking.{rest_at}
use Rattle.dr_walk.specs.declared.level_walk.LevelWalk.{LevelWalk}
use Rattle.dr_walk.proofs.WalkLemmas.{not_known}
use Rattle.dr_scan.specs.Streamed.{last_of, batch_at, left_at, ends_of, IsTold, IsLeafStream, AreLeafStreams, HasReadOn, AreReadOn, with_more, with_batch, Extends, IsStreamed}
use Rattle.dr_scan.specs.declared.leaf_stream.LeafStream.{LeafStream}

-- ---- streams by their numbers

abbrev is_ended : LeafStream → Bool
is_ended x = x.ended

abbrev batch_of : LeafStream → List Triplet
batch_of x = column_view x.batch

pub batch_there : (xs : List LeafStream) (i : ℕ) (x : LeafStream) → slice_get xs i ≡ Some x → batch_at xs i ≡ column_view x.batch
batch_there xs i x e = get_or_from_slice_get (map batch_of xs) i (batch_of x) [] (slice_get-map batch_of xs i ∙ ap (option_map batch_of) e)

pub batch_past : (xs : List LeafStream) (i : ℕ) → length xs ≤ i → batch_at xs i ≡ []
batch_past xs i h = let n = length-map xs batch_of in get_or_past (map batch_of xs) i [] (omega (arith, h, n))

pub end_of_stream : (xs : List LeafStream) (i : ℕ) (x : LeafStream) → slice_get xs i ≡ Some x → is_last (ends_of xs) i ≡ x.ended
end_of_stream xs i x e = get_or_from_slice_get (map is_ended xs) i x.ended false (slice_get-map is_ended xs i ∙ ap (option_map is_ended) e)

pub end_past : (xs : List LeafStream) (i : ℕ) → length xs ≤ i → is_last (ends_of xs) i ≡ false
end_past xs i h = let n = length-map xs is_ended in get_or_past (map is_ended xs) i false (omega (arith, h, n))

-- there is a stream for each leaf
pub stream_there : {A : Type 0} (F : List A) (xs : List LeafStream) (i : ℕ) (l : A) → length xs ≡ length F → slice_get F i ≡ Some l → (x : LeafStream) × (slice_get xs i ≡ Some x)
stream_there F xs i l n e = by_case (slice_get_cases xs i).1
  where
    within : i < length F
    within = slice_get_within F i l e

    by_case : ((x : LeafStream) × (i < length xs) × (slice_get xs i ≡ Some x) × (get_or xs i x ≡ x)) ⊎ ((length xs ≤ i) × (slice_get xs i ≡ None)) → (x : LeafStream) × (slice_get xs i ≡ Some x)
    by_case (inl h) = (h.0, h.2)
    by_case (inr h) = absurd (omega (arith, h.0, n, within))

-- ---- the beginning

pub streams_begin : (s : Schema) (p : Plan) (rows n : ℕ) (ended : List Bool) (w : LevelWalk) (here : Left) → n ≡ length (plan_leaves p) → w.wanted ≡ first_wanted n → ((i : ℕ) → length (plan_leaves p) ≤ i → here i ≡ [])
    → ((C : List (List Triplet)) → length C ≡ n → IsAtLevels s.fields (paths_of_leaves (plan_leaves p)) rows C [] (columns_of C) w) → IsStreamed s p rows here ended [] w here
streams_begin s p rows n ended w here e q past at = record {
  over = λ C later x. let c : length C ≡ n = x.0 ∙ sym e in record {
    left = columns_of C;
    at = at C c;
    rest = x.1;
    heard = λ i h z. ap (λ (ts : List Triplet). ts ++ later i) (sym z) ∙ (sym (x.1 i) ∙ known C i c (at C c) h);
  };
  past = past;
  nests = refl;
}
  where
    never_less : (i : ℕ) → nat_lt i 0 ≡ false
    never_less i = grind (arith, nat_tests)

    known : (C : List (List Triplet)) (i : ℕ) → length C ≡ n → IsAtLevels s.fields (paths_of_leaves (plan_leaves p)) rows C [] (columns_of C) w → is_known w.wanted w.given i ≡ true → columns_of C i ≡ []
    known C i c x h = by_count n q c
      where
        none_gave : w.given ≡ 0
        none_gave = let g = x.gave in omega (arith, g)

        by_count : (n : ℕ) → w.wanted ≡ first_wanted n → length C ≡ n → columns_of C i ≡ []
        by_count zero q c = get_or_past C i [] (omega (arith, c))
        by_count (suc n) q c = absurd (true≢false (sym h ∙ ap₂ (λ (o : Option ℕ) (g : ℕ). is_known o g i) q none_gave ∙ never_less i))

-- ---- the same at hand

pub streamed_same : (s : Schema) (p : Plan) (rows : ℕ) (given : Left) (ended others : List Bool) (ms : List Move) (w : LevelWalk) (here there : Left) → ((i : ℕ) → is_last others i ≡ is_last ended i) → ((i : ℕ) → there i ≡ here i)
    → IsStreamed s p rows given ended ms w here → IsStreamed s p rows given others ms w there
streamed_same s p rows given ended others ms w here there e q h = record {
  over = λ C later x. let o = h.over C later (x.0, x.1, λ i k. x.2 i (e i ∙ k)) in record {
    left = o.left;
    at = o.at;
    rest = λ i. o.rest i ∙ ap (λ (ts : List Triplet). ts ++ later i) (sym (q i));
    heard = λ i n z. o.heard i n (sym (q i) ∙ z);
  };
  past = h.past;
  nests = h.nests;
}

-- ---- fewer triplets left

-- a front is passed, whose length is told by that of what is left
cut_again : (m : ℕ) (v : List Triplet) → drop (length v - length (drop m v)) v ≡ drop m v
cut_again m v = by_side (cases_lt m (length v))
  where
    n : length (drop m v) ≡ length v - m
    n = length-drop m v

    by_side : (m < length v) ⊎ (length v ≤ m) → drop (length v - length (drop m v)) v ≡ drop m v
    by_side (inl h) = let k : length v - length (drop m v) ≡ m = omega (arith, n, h) in ap (λ (j : ℕ). drop j v) k
    by_side (inr h) =
        let k : length (drop (length v - length (drop m v)) v) ≡ 0 = let a = length-drop (length v - length (drop m v)) v in omega (arith, n, h, a) in
        let j : length (drop m v) ≡ 0 = omega (arith, n, h) in
        nil_from_length (drop (length v - length (drop m v)) v) k ∙ sym (nil_from_length (drop m v) j)

-- by how many are left of each, where fronts were passed
pub counts_here : (xs : List LeafStream) (before counts : List ℕ) (here : Left) → Shrinks (left_at xs before) here → ((k : ℕ) → get_or counts k 0 ≡ length (here k)) → (i : ℕ) → left_at xs counts i ≡ here i
counts_here xs before counts here shrinks counted i =
    let v = batch_at xs i in
    let m = length v - get_or before i 0 + (shrinks i).0 in
    let is : here i ≡ drop m v = (shrinks i).1 ∙ drop-drop (shrinks i).0 (length v - get_or before i 0) v in
    ap (λ (n : ℕ). last_of n v) (counted i ∙ ap length is) ∙ (cut_again m v ∙ sym is)

-- ---- a batch more

itself : (a b : ℕ) → a ≡ b → true ≡ (a == b)
itself a b q = grind (arith, nat_tests)

never : 1 ≤ 0 → ⊥
never z = omega (arith, z)

pub batch_streamed : (s : Schema) (p : Plan) (rows : ℕ) (given here : Left) (ended others : List Bool) (ms : List Move) (w : LevelWalk) (k : ℕ) (more : List Triplet) → IsStreamed s p rows given ended ms w here → w.wanted ≡ Some k → here k ≡ []
    → k < length (plan_leaves p) → is_last ended k ≡ false → ((i : ℕ) → i ≢ k → is_last others i ≡ is_last ended i) → IsStreamed s p rows (with_more k more given) others ms w (with_batch k more here)
batch_streamed s p rows given here ended others ms w k more h q e l goes_on same = record {
  over = λ C later x. of C later x (h.over C (with_front later) (front C later x));
  past = λ i b. rw (ne_eqb i k (λ z. never (omega (arith, l, b, z)))) (h.past i b);
  nests = h.nests;
}
  where
    with_front : Left → Left
    with_front later i = if i == k then more ++ later i else later i

    apart : (i : ℕ) → (i == k) ≡ false → i ≢ k
    apart i z y = true≢false (itself i k y ∙ z)

    front : (C : List (List Triplet)) (later : Left) → Extends (length (plan_leaves p)) (with_more k more given) others C later → Extends (length (plan_leaves p)) given ended C (with_front later)
    front C later x = (x.0, λ i. by_bit i (i == k) (x.1 i), λ i. by_last i (i == k) refl)
      where
        by_bit : (i : ℕ) (b : Bool) → columns_of C i ≡ (if b then given i ++ more else given i) ++ later i → columns_of C i ≡ given i ++ (if b then more ++ later i else later i)
        by_bit i true z = z ∙ append_assoc (given i) more (later i)
        by_bit i false z = z

        by_last : (i : ℕ) (b : Bool) → (i == k) ≡ b → is_last ended i ≡ true → (if b then more ++ later i else later i) ≡ []
        by_last i true z y = absurd (true≢false (sym y ∙ ap (is_last ended) (eqb-true i k z) ∙ goes_on))
        by_last i false z y = x.2 i (same i (apart i z) ∙ y)

    of : (C : List (List Triplet)) (later : Left) → Extends (length (plan_leaves p)) (with_more k more given) others C later → IsOver s.fields (paths_of_leaves (plan_leaves p)) C rows ms w here (with_front later)
        → IsOver s.fields (paths_of_leaves (plan_leaves p)) C rows ms w (with_batch k more here) later
    of C later x o = record { left = o.left; at = o.at; rest = λ i. by_bit i (i == k) refl (o.rest i); heard = λ i n z. by_known i (i == k) refl n z }
      where
        by_bit : (i : ℕ) (b : Bool) → (i == k) ≡ b → o.left i ≡ here i ++ (if b then more ++ later i else later i) → o.left i ≡ (if b then more else here i) ++ later i
        by_bit i true z y = y ∙ ap (λ (ts : List Triplet). ts ++ (more ++ later i)) (ap here (eqb-true i k z) ∙ e)
        by_bit i false z y = y

        by_known : (i : ℕ) (b : Bool) → (i == k) ≡ b → is_known w.wanted w.given i ≡ true → with_batch k more here i ≡ [] → later i ≡ []
        by_known i true z n y = absurd (true≢false (sym n ∙ ap₂ (λ (o : Option ℕ) (j : ℕ). is_known o w.given j) q (eqb-true i k z) ∙ not_known w.given k))
        by_known i false z n y = sym (rw z refl) ∙ (o.heard i n (sym (rw z refl) ∙ y))

-- ---- the next batch of a leaf

-- triplets of a leaf joined its batch, or none
joined_stream : (held : Option Files) (o : Opened) (F : List Leaf) (l : Leaf) (given before after more : List Triplet) (x y : LeafStream) (some : Bool) → IsLeafStream held o F l given x → file_of y.stream ≡ file_of x.stream → y.ended ≡ not some
    → after ≡ before ++ more → Fills some (length before) (length after) (left_of x.stream) (left_of y.stream) → refused_of y.stream ≡ None
    → ((bytes : List ℕ) → IsTold held o F bytes → StreamGoesOn bytes l given before after y.stream some) → IsLeafStream held o F l (given ++ more) y
joined_stream held o F l given before after more x y true h f e b fills well goes = record {
  file = f ∙ h.file;
  few = let n = length-append given more in let m = ap length b ∙ length-append before more in let k = h.few in omega (arith, n, m, k, fills.2);
  well = well;
  of = λ bytes told. let g = goes bytes told in subst (λ (ts : List Triplet). IsStreamOf bytes l (given ++ ts) y.stream) (append_cancel_left before g.0 more (sym g.1 ∙ b)) g.2;
  last = λ bytes told z. absurd (true≢false (sym z ∙ e));
}
joined_stream held o F l given before after more x y false h f e b fills well goes = record {
  file = f ∙ h.file;
  few = let n = length-append given more in let m = ap length b ∙ length-append before more in let k = h.few in omega (arith, n, m, k, fills.0, fills.1);
  well = well;
  of = λ bytes told. subst (λ (ts : List Triplet). IsStreamOf bytes l ts y.stream) (sym all) (goes bytes told).2;
  last = λ bytes told z. subst (IsColumnOf bytes l) (sym all) (goes bytes told).1;
}
  where
    none : more ≡ []
    none = nil_from_length more (let m = ap length b ∙ length-append before more in omega (arith, m, fills.0))

    all : given ++ more ≡ given
    all = ap (λ (ts : List Triplet). given ++ ts) none ∙ append-nil given

pub joined_length : (before after : List Triplet) → BeginWith before after → length before ≤ length after
joined_length before after b = let m = ap length b.1 ∙ length-append before b.0 in omega (arith, m)

-- a leaf's stream was read on
pub stream_read : (held : Option Files) (before after : List Triplet) (x y : LeafStream) (some : Bool) (count : ℕ) → column_view x.batch ≡ before → column_view y.batch ≡ after → count ≡ length after - length before → file_of y.stream ≡ file_of x.stream → y.ended ≡ not some
    → BeginWith before after → Fills some (length before) (length after) (left_of x.stream) (left_of y.stream) → refused_of y.stream ≡ None
    → ((o : Opened) (F : List Leaf) (l : Leaf) (given : List Triplet) → IsLeafStream held o F l given x → (bytes : List ℕ) → IsTold held o F bytes → StreamGoesOn bytes l given before after y.stream some) → HasReadOn held x y count
stream_read held before after x y some count was is n f e b fills well goes = record {
  more = b.0;
  batch = is ∙ (b.1 ∙ ap (λ (ts : List Triplet). ts ++ b.0) (sym was));
  so_many = let m = ap length b.1 ∙ length-append before b.0 in omega (arith, n, m);
  stream = λ o F l given h. joined_stream held o F l given before after b.0 x y some h f e b.1 fills well (goes o F l given h);
}

same_stream : (x y : LeafStream) → Some x ≡ Some y → x ≡ y
same_stream x y e = cc

no_stream : (x : LeafStream) → None ≡ Some x → ⊥
no_stream x e = cc

abbrev PushedAt : List LeafStream → LeafStream → ℕ → LeafStream → Type 0
PushedAt xs y i x = (slice_get xs i ≡ Some x) ⊎ ((i ≡ length xs) × (y ≡ x))

later_pushed : (z : LeafStream) (xs : List LeafStream) (y : LeafStream) (i : ℕ) (x : LeafStream) → PushedAt xs y i x → PushedAt (z ∷ xs) y (suc i) x
later_pushed z xs y i x (inl h) = inl h
later_pushed z xs y i x (inr h) = inr (ap suc h.0, h.1)

pushed_at : (xs : List LeafStream) (y : LeafStream) (i : ℕ) (x : LeafStream) → slice_get (xs ++ y ∷ []) i ≡ Some x → PushedAt xs y i x
pushed_at [] y zero x e = inr (refl, same_stream y x e)
pushed_at [] y (suc i) x e = absurd (no_stream x e)
pushed_at (z ∷ xs) y zero x e = inl e
pushed_at (z ∷ xs) y (suc i) x e = later_pushed z xs y i x (pushed_at xs y i x e)

-- one more behind others, of each of which something holds
pub each_pushed : (P : ℕ → LeafStream → Type 0) (xs : List LeafStream) (y : LeafStream) → ((i : ℕ) (x : LeafStream) → slice_get xs i ≡ Some x → P i x) → P (length xs) y → (i : ℕ) (x : LeafStream) → slice_get (xs ++ y ∷ []) i ≡ Some x → P i x
each_pushed P xs y h k i x e = by_case (pushed_at xs y i x e)
  where
    by_case : PushedAt xs y i x → P i x
    by_case (inl q) = h i x q
    by_case (inr q) = subst (P i) q.1 (subst (λ (j : ℕ). P j y) (sym q.0) k)

-- ---- all of them

abbrev no_triplets : List Triplet
no_triplets = []

drop_none : (k : ℕ) → drop k no_triplets ≡ no_triplets
drop_none zero = refl
drop_none (suc k) = refl

last_none : (n : ℕ) → last_of n [] ≡ []
last_none n = drop_none (length no_triplets - n)

pub batches_none : (xs : List LeafStream) → ((i : ℕ) (x : LeafStream) → slice_get xs i ≡ Some x → column_view x.batch ≡ []) → (i : ℕ) → batch_at xs i ≡ []
batches_none xs h i = by_case (slice_get_cases xs i).1
  where
    by_case : ((x : LeafStream) × (i < length xs) × (slice_get xs i ≡ Some x) × (get_or xs i x ≡ x)) ⊎ ((length xs ≤ i) × (slice_get xs i ≡ None)) → batch_at xs i ≡ []
    by_case (inl k) = batch_there xs i k.0 k.2 ∙ h i k.0 k.2
    by_case (inr k) = batch_past xs i k.0

pub nothing_left : (xs : List LeafStream) (counts : List ℕ) → ((i : ℕ) → batch_at xs i ≡ []) → (i : ℕ) → left_at xs counts i ≡ []
nothing_left xs counts h i = ap (last_of (get_or counts i 0)) (h i) ∙ last_none (get_or counts i 0)

pub nothing_past : (xs : List LeafStream) (counts : List ℕ) (i : ℕ) → length xs ≤ i → left_at xs counts i ≡ []
nothing_past xs counts i h = ap (last_of (get_or counts i 0)) (batch_past xs i h) ∙ last_none (get_or counts i 0)

-- one rest more
pub rest_pushed : (rs : List Triplets) (r : Triplets) (f : Left) (n i : ℕ) → length rs ≡ n → ((j : ℕ) → j < n → rest_at rs j ≡ f j) → triplets_view r ≡ f n → i < n + 1 → rest_at (rs ++ r ∷ []) i ≡ f i
rest_pushed rs r f n i e h k l = ap (λ (ts : List (List Triplet)). get_or ts i []) (map_push triplets_view rs r) ∙ by_side (cases_lt i n)
  where
    m : length (map triplets_view rs) ≡ n
    m = length-map rs triplets_view ∙ e

    by_side : (i < n) ⊎ (n ≤ i) → get_or (map triplets_view rs ++ triplets_view r ∷ []) i [] ≡ f i
    by_side (inl z) = get_or_append_left (map triplets_view rs) (triplets_view r ∷ []) [] i (omega (arith, m, z)) ∙ h i z
    by_side (inr z) = let is : n ≡ i = omega (arith, l, z) in get_or_push (map triplets_view rs) (triplets_view r) [] i (m ∙ is) ∙ (k ∙ ap f is)

pub rests_all : (rs : List Triplets) (xs : List LeafStream) (counts : List ℕ) → length rs ≡ length xs → ((j : ℕ) → j < length xs → rest_at rs j ≡ left_at xs counts j) → (i : ℕ) → rest_at rs i ≡ left_at xs counts i
rests_all rs xs counts e h i = by_side (cases_lt i (length xs))
  where
    by_side : (i < length xs) ⊎ (length xs ≤ i) → rest_at rs i ≡ left_at xs counts i
    by_side (inl z) = h i z
    by_side (inr z) =
        let n = length-map rs triplets_view in
        get_or_past (map triplets_view rs) i [] (omega (arith, n, e, z)) ∙ sym (nothing_past xs counts i z)

-- ---- another stream in the place of one

set_same : (xs : List LeafStream) (k : ℕ) (x y : LeafStream) → slice_get xs k ≡ Some x → slice_get (slice_set xs k y) k ≡ Some y
set_same [] k x y e = absurd (no_stream x e)
set_same (z ∷ xs) zero x y e = refl
set_same (z ∷ xs) (suc k) x y e = set_same xs k x y e

set_other : (xs : List LeafStream) (k i : ℕ) (y : LeafStream) → i ≢ k → slice_get (slice_set xs k y) i ≡ slice_get xs i
set_other [] k i y d = refl
set_other (z ∷ xs) zero zero y d = absurd (d refl)
set_other (z ∷ xs) zero (suc i) y d = refl
set_other (z ∷ xs) (suc k) zero y d = refl
set_other (z ∷ xs) (suc k) (suc i) y d = set_other xs k i y (λ e. d (ap suc e))

set_count : (xs : List LeafStream) (k : ℕ) (y : LeafStream) → length (slice_set xs k y) ≡ length xs
set_count [] k y = refl
set_count (z ∷ xs) zero y = refl
set_count (z ∷ xs) (suc k) y = ap suc (set_count xs k y)

batch_by : (xs : List LeafStream) (i : ℕ) → batch_at xs i ≡ unwrap_or (option_map batch_of (slice_get xs i)) []
batch_by xs i = sym (unwrap_or-slice_get (map batch_of xs) i []) ∙ ap (λ (o : Option (List Triplet)). unwrap_or o []) (slice_get-map batch_of xs i)

end_by : (xs : List LeafStream) (i : ℕ) → is_last (ends_of xs) i ≡ unwrap_or (option_map is_ended (slice_get xs i)) false
end_by xs i = sym (unwrap_or-slice_get (map is_ended xs) i false) ∙ ap (λ (o : Option Bool). unwrap_or o false) (slice_get-map is_ended xs i)

apart : (i k : ℕ) → (i == k) ≡ false → i ≢ k
apart i k z q = true≢false (itself i k q ∙ z)

read_here : (k : ℕ) (more : List Triplet) (xs : List LeafStream) (x y : LeafStream) → slice_get xs k ≡ Some x → column_view y.batch ≡ column_view x.batch ++ more → (i : ℕ) (b : Bool) → (i == k) ≡ b
    → batch_at (slice_set xs k y) i ≡ with_more k more (batch_at xs) i
read_here k more xs x y there e i true z =
    ap (batch_at (slice_set xs k y)) (eqb-true i k z)
    ∙ (batch_there (slice_set xs k y) k y (set_same xs k x y there) ∙ (e ∙ (ap (λ (ts : List Triplet). ts ++ more) (sym (ap (batch_at xs) (eqb-true i k z) ∙ batch_there xs k x there)) ∙ sym (rw z refl))))
read_here k more xs x y there e i false z = batch_by (slice_set xs k y) i ∙ (ap (λ (o : Option LeafStream). unwrap_or (option_map batch_of o) []) (set_other xs k i y (apart i k z)) ∙ (sym (batch_by xs i) ∙ sym (rw z refl)))

read_ends : (k : ℕ) (xs : List LeafStream) (y : LeafStream) (i : ℕ) → i ≢ k → is_last (ends_of (slice_set xs k y)) i ≡ is_last (ends_of xs) i
read_ends k xs y i d = end_by (slice_set xs k y) i ∙ (ap (λ (o : Option LeafStream). unwrap_or (option_map is_ended o) false) (set_other xs k i y d) ∙ sym (end_by xs i))

same_leaf : (l m : Leaf) → Some l ≡ Some m → l ≡ m
same_leaf l m e = cc

with_here : (k i : ℕ) (more : List Triplet) (given : Left) → (i == k) ≡ true → given k ++ more ≡ with_more k more given i
with_here k i more given z = ap (λ (t : ℕ). given t ++ more) (sym (eqb-true i k z)) ∙ sym (rw z refl)

with_others : (k i : ℕ) (more : List Triplet) (given : Left) → (i == k) ≡ false → given i ≡ with_more k more given i
with_others k i more given z = sym (rw z refl)

read_each : (held : Option Files) (o : Opened) (F : List Leaf) (given : Left) (k : ℕ) (more : List Triplet) (xs : List LeafStream) (l : Leaf) (x y : LeafStream) → AreLeafStreams held o F given xs → slice_get F k ≡ Some l → slice_get xs k ≡ Some x
    → IsLeafStream held o F l (given k ++ more) y → (i : ℕ) (m : Leaf) (z : LeafStream) (b : Bool) → (i == k) ≡ b → slice_get F i ≡ Some m → slice_get (slice_set xs k y) i ≡ Some z → IsLeafStream held o F m (with_more k more given i) z
read_each held o F given k more xs l x y h at there is i m z true q e f =
    let j : i ≡ k = eqb-true i k q in
    let leaf : l ≡ m = same_leaf l m (sym at ∙ (ap (slice_get F) (sym j) ∙ e)) in
    let stream : y ≡ z = same_stream y z (sym (set_same xs k x y there) ∙ (ap (slice_get (slice_set xs k y)) (sym j) ∙ f)) in
    subst (IsLeafStream held o F m (with_more k more given i)) stream
    (subst (λ (t : Leaf). IsLeafStream held o F t (with_more k more given i) y) leaf (subst (λ (ts : List Triplet). IsLeafStream held o F l ts y) (with_here k i more given q) is))
read_each held o F given k more xs l x y h at there is i m z false q e f =
    subst (λ (ts : List Triplet). IsLeafStream held o F m ts z) (with_others k i more given q) (h.each i m z e (sym (set_other xs k i y (apart i k q)) ∙ f))

-- the stream of a number is that of a leaf
pub at_leaf : (held : Option Files) (o : Opened) (F : List Leaf) (given : Left) (xs : List LeafStream) (k : ℕ) (x : LeafStream) → AreLeafStreams held o F given xs → slice_get xs k ≡ Some x → (l : Leaf) × (slice_get F k ≡ Some l) × IsLeafStream held o F l (given k) x
at_leaf held o F given xs k x h there =
    let l = leaf_there F k (let n = h.as_many in let w = slice_get_within xs k x there in omega (arith, w, n)) in
    (l.0, l.1, h.each k l.0 x l.1 there)

pub streams_read : (held : Option Files) (k : ℕ) (xs : List LeafStream) (x y : LeafStream) (r : Result ℕ FileFault) → slice_get xs k ≡ Some x → IfOk r (HasReadOn held x y) → IfOk r (AreReadOn held k xs (slice_set xs k y))
streams_read held k xs x y (Err e) there h = tt
streams_read held k xs x y (Ok n) there h = record {
  more = h.more;
  here = λ i. read_here k h.more xs x y there h.batch i (i == k) refl;
  ends = λ i d. read_ends k xs y i d;
  so_many = h.so_many;
  streams = λ o F given all.
      let l = at_leaf held o F given xs k x all there in
      record { as_many = set_count xs k y ∙ all.as_many; each = λ i m z e f. read_each held o F given k h.more xs l.0 x y all l.1 there (h.stream o F l.0 (given k) l.2) i m z (i == k) refl e f };
}

-- ---- the batch of a leaf is let go of

pub cleared_here : (k : ℕ) (xs : List LeafStream) (x y : LeafStream) → slice_get xs k ≡ Some x → column_view y.batch ≡ [] → (i : ℕ) → batch_at (slice_set xs k y) i ≡ with_batch k [] (batch_at xs) i
cleared_here k xs x y there e i = by_leaf (i == k) refl
  where
    by_leaf : (b : Bool) → (i == k) ≡ b → batch_at (slice_set xs k y) i ≡ with_batch k [] (batch_at xs) i
    by_leaf true z = ap (batch_at (slice_set xs k y)) (eqb-true i k z) ∙ (batch_there (slice_set xs k y) k y (set_same xs k x y there) ∙ (e ∙ sym (rw z refl)))
    by_leaf false z = batch_by (slice_set xs k y) i ∙ (ap (λ (o : Option LeafStream). unwrap_or (option_map batch_of o) []) (set_other xs k i y (apart i k z)) ∙ (sym (batch_by xs i) ∙ sym (rw z refl)))

-- the next triplets of one leaf, so many, are its batch
pub record AreRefilled (held : Option Files) (o : Opened) (F : List Leaf) (given : Left) (k : ℕ) (xs ys : List LeafStream) (count : ℕ) : Type 0 where
  pub more : List Triplet
  pub streams : AreLeafStreams held o F (with_more k more given) ys
  pub here : (i : ℕ) → batch_at ys i ≡ with_batch k more (batch_at xs) i
  pub ends : (i : ℕ) → i ≢ k → is_last (ends_of ys) i ≡ is_last (ends_of xs) i
  pub so_many : count ≡ length more

-- where it was let go of before
pub refilled : (held : Option Files) (o : Opened) (F : List Leaf) (given : Left) (k : ℕ) (xs us ys : List LeafStream) (count : ℕ) → AreLeafStreams held o F given us → ends_of us ≡ ends_of xs → ((i : ℕ) → batch_at us i ≡ with_batch k [] (batch_at xs) i)
    → AreReadOn held k us ys count → AreRefilled held o F given k xs ys count
refilled held o F given k xs us ys count h same cleared a = record {
  more = a.more;
  streams = a.streams o F given h;
  here = λ i. a.here i ∙ by_leaf i (i == k) refl;
  ends = λ i d. a.ends i d ∙ ap (λ (bs : List Bool). is_last bs i) same;
  so_many = a.so_many;
}
  where
    by_leaf : (i : ℕ) (b : Bool) → (i == k) ≡ b → with_more k a.more (batch_at us) i ≡ with_batch k a.more (batch_at xs) i
    by_leaf i true z =
        let none : batch_at us i ≡ [] = cleared i ∙ rw z refl in
        let joined : batch_at us i ++ a.more ≡ a.more = ap (λ (ts : List Triplet). ts ++ a.more) none in
        rw z joined
    by_leaf i false z = let kept : batch_at us i ≡ batch_at xs i = cleared i ∙ rw z refl in rw z kept
