-- A plan's moves over the streams of an opened file, stretch by stretch.
use Rattle.std.proofs.Common.{◌≡◌, ◌≢◌, ◌<◌, ◌-◌, ℕ, zero, suc, List, [], ◌∷◌, ◌++◌, length, map, drop, get_or, Bool, true, false, Option, refl, sym, ap, ap₂, subst, ◌∙◌, true≢false, arith}
use Rattle.std.specs.Prelude.{◌==◌, slice_set, Result, Ok, Err, IsErrAnd, IsTrue}
use Rattle.std.specs.declared.vec.Vec.{Vec}
use Rattle.std.specs.declared.alloc.Global.{Global}
use Rattle.std.proofs.lemmas.Bool.{eqb-true, ne_eqb}
use Rattle.std.proofs.lemmas.Bool.Decides.{nat_tests}
use Rattle.std.proofs.lemmas.List.{get_or-set_same, get_or-set_other, length-map}
use Rattle.dr_meaning.specs.Schema.{Schema}
use Rattle.dr_meaning.specs.Path.{Leaf, paths_of_leaves}
use Rattle.dr_meaning.specs.Record.{Node}
use Rattle.dr_meaning.specs.Column.{Triplet}
use Rattle.dr_meaning.specs.Walk.{Move}
use Rattle.dr_formats.specs.Writing.{triplet_count}
use Rattle.dr_levels.specs.Views.{triplets_view}
use Rattle.dr_levels.specs.declared.triplets.Triplets.{Triplets}
use Rattle.dr_outside.specs.Link.{Files, LinkShown}
use Rattle.dr_outside.specs.Telling.{TellsFile}
use Rattle.dr_moves.specs.Leading.{Left}
use Rattle.dr_file.specs.Leaving.{LeavesLinkCounted, ServesOpened}
use Rattle.dr_file.specs.OpenedFiles.{HasCounts, is_link_fault, path_of, rows_of}
use Rattle.dr_file.specs.declared.file_fault.FileFault.{FileFault}
use Rattle.dr_file.specs.declared.opened.Opened.{Opened}
use Rattle.dr_group.specs.declared.partial.Partial.{Partial}
use Rattle.dr_plan.specs.Planned.{plan_leaves}
use Rattle.dr_plan.specs.declared.plan.Plan.{Plan}
use Rattle.dr_table.specs.Counting.{counted}
use Rattle.dr_walk.specs.declared.level_walk.LevelWalk.{LevelWalk}
use Rattle.dr_walk.specs.Batches.{Shrinks, is_last}
use Rattle.dr_walk.specs.Checking.{rest_at}
use Rattle.dr_walk.specs.declared.fault.AssembleFault.{AssembleFault}
use Rattle.dr_within.specs.Rows.{HasRead, HasLast}
use Rattle.dr_within.specs.declared.row.Row.{Row}
use Rattle.dr_within.specs.declared.last_read.LastRead.{LastRead}
use Rattle.dr_agreement.specs.Behind.{IsBehind}
use Rattle.dr_agreement.proofs.BehindLemmas.{behind_more}
use Rattle.dr_scan.specs.Makings.{Makes}
use Rattle.dr_scan.specs.Rests.{IsMadeOf}
use Rattle.dr_scan.specs.Streamed.{last_of, batch_at, left_at, ends_of, AreLeafStreams, with_more, with_batch, IsTold, IsStreamed, IsScanned, IsBetween, EndsStretch, EndsAtHand}
use Rattle.dr_scan.specs.declared.leaf_stream.LeafStream.{LeafStream}
use Rattle.dr_scan.specs.declared.making.Making.{Making}
use Rattle.dr_scan.specs.declared.stretch.Stretch.{Stretch}
use Rattle.dr_scan.proofs.StreamLemmas.{AreRefilled, streamed_same, counts_here, batch_streamed}
use Rattle.dr_scan.proofs.Tabulated.{tabulated, tabulated_count}

-- the streams gave these triplets of an opened file's columns, of which those of the first records were taken; a walk over the others gave moves, and of
-- these this was made, and that of the first records
pub record IsUnderway (s : Schema) (p : Plan) (held : Option Files) (o : Opened) (xs : List LeafStream) (left : List ℕ) (w : LevelWalk) (m : Making) (r : LastRead) (read : ℕ) (before : Option Partial) : Type 0 where
  pub records : List Node
  pub come : ℕ
  pub given : Left
  pub back : Left
  pub moves : List Move
  pub streams : AreLeafStreams held o (plan_leaves p) given xs
  pub behind : IsBehind s.fields (paths_of_leaves (plan_leaves p)) (rows_of o) given back (is_last (ends_of xs)) records come
  pub made : IsMadeOf s p records before
  pub streamed : IsStreamed s p come back (ends_of xs) moves w (left_at xs left)
  pub makes : Makes s p moves m
  pub reads : HasLast (length (plan_leaves p)) moves r
  pub count : read ≡ counted 0 (triplet_count (tabulated (length (plan_leaves p)) given))

itself : (i : ℕ) → (i == i) ≡ true
itself i = grind (arith, nat_tests)

last_all : (ts : List Triplet) → last_of (length ts) ts ≡ ts
last_all ts = let z : length ts - length ts ≡ 0 = omega arith in ap (λ (n : ℕ). drop n ts) z

-- a stretch ended, and the leaf that it wanted has its next batch
pub goes_on : (s : Schema) (p : Plan) (held : Option Files) (o : Opened) (xs ys : List LeafStream) (lefts left : List ℕ) (w : LevelWalk) (m : Making) (r : LastRead) (i read count now come : ℕ) (before : Option Partial) (records : List Node) (given back : Left)
    → IsBehind s.fields (paths_of_leaves (plan_leaves p)) (rows_of o) given back (is_last (ends_of xs)) records come → IsMadeOf s p records before → read ≡ counted 0 (triplet_count (tabulated (length (plan_leaves p)) given))
    → IsBetween s p come back (ends_of xs) (left_at xs lefts) w m r i left → AreRefilled held o (plan_leaves p) given i xs ys count → length xs ≡ length (plan_leaves p) → now ≡ counted read count
    → IsUnderway s p held o ys (slice_set left i count) w m r now before
goes_on s p held o xs ys lefts left w m r i read count now come before records given back h made e b a n q = record {
  records = records;
  come = come;
  given = with_more i a.more given;
  back = with_more i a.more back;
  moves = b.moves;
  streams = a.streams;
  behind = behind_more s.fields (paths_of_leaves (plan_leaves p)) (rows_of o) given back (with_more i a.more given) (with_more i a.more back) (is_last (ends_of xs)) (is_last (ends_of ys)) records come i a.more h
      (with_here given, λ k d. with_others given k d) (with_here back, λ k d. with_others back k d) (let k = length-map (plan_leaves p) (λ (l : Leaf). l.path) in let l = b.wants.within in omega (arith, k, l)) b.wants.goes_on a.ends;
  made = made;
  streamed = streamed_same s p come (with_more i a.more back) (ends_of ys) (ends_of ys) b.moves w (with_batch i a.more b.here) (left_at ys (slice_set left i count)) (λ k. refl) (λ k. left_now k (k == i) refl)
      (batch_streamed s p come back b.here (ends_of xs) (ends_of ys) b.moves w i a.more b.streamed b.wants.wanted b.wants.passed b.wants.within b.wants.goes_on a.ends);
  makes = b.makes;
  reads = b.reads;
  count =
      let c = tabulated_count (length (plan_leaves p)) i a.more given (with_more i a.more given) b.wants.within (with_here given) (λ k d. with_others given k d) in
      let k = a.so_many in
      omega (arith, q, e, c, k);
}
  where
    within : i < length left
    within = let k = length-map xs (λ (x : LeafStream). x.ended) in let l = b.wants.within in let j = b.as_many in omega (arith, j, k, l, n)

    with_here : (f : Left) → with_more i a.more f i ≡ f i ++ a.more
    with_here f = rw (itself i) refl

    with_others : (f : Left) (k : ℕ) → k ≢ i → with_more i a.more f k ≡ f k
    with_others f k d = rw (ne_eqb k i d) refl

    apart : (k : ℕ) → (k == i) ≡ false → k ≢ i
    apart k z y = true≢false (sym (ap (λ (j : ℕ). j == i) y ∙ itself i) ∙ z)

    left_now : (k : ℕ) (t : Bool) → (k == i) ≡ t → left_at ys (slice_set left i count) k ≡ with_batch i a.more b.here k
    left_now k true z =
        let is : k ≡ i = eqb-true k i z in
        let batch : batch_at ys k ≡ a.more = a.here k ∙ rw z refl in
        let so_many : get_or (slice_set left i count) k 0 ≡ length a.more = ap (λ (j : ℕ). get_or (slice_set left i count) j 0) is ∙ (get_or-set_same left i count 0 within ∙ a.so_many) in
        ap₂ last_of so_many batch ∙ (last_all a.more ∙ sym (rw z refl))
    left_now k false z =
        let batch : batch_at ys k ≡ batch_at xs k = a.here k ∙ rw z refl in
        let so_many : get_or (slice_set left i count) k 0 ≡ get_or left k 0 = get_or-set_other left i k count 0 (apart k z) in
        ap₂ last_of so_many batch ∙ (counts_here xs lefts left b.here b.shrinks b.counts k ∙ sym (rw z refl))

-- ---- the link

-- it served each call so far
pub so_far : {A : Type 0} (a : A) (serves : List ℕ → Type 0) (before after : LinkShown) → after.held ≡ before.held → after.faults ≡ before.faults → (IsTrue before.is_steady → IsTrue after.is_steady) → LeavesLinkCounted (Ok a) serves before after
so_far a serves before after same calm steady = record { same = same; counts = tt; calm = λ h. calm; steady = λ bytes s. refl; stays_steady = steady }

-- and serves the file still
pub still_serves : (o : Opened) (before after : LinkShown) (bytes : List ℕ) → after.held ≡ before.held → (IsTrue before.is_steady → IsTrue after.is_steady) → ServesOpened before o bytes → ServesOpened after o bytes
still_serves o before after bytes same steady s = (s.0, s.1, (steady s.2.0, subst (λ (h : Option Files). TellsFile h (path_of o) bytes) (sym same) s.2.1))

-- what is told is told still
pub still_told : (held now : Option Files) (o : Opened) (F : List Leaf) (bytes : List ℕ) → now ≡ held → IsTold held o F bytes → IsTold now o F bytes
still_told held now o F bytes e t = (t.0, subst (λ (h : Option Files). TellsFile h (path_of o) bytes) (sym e) t.1)

pub still_streams : (held now : Option Files) (o : Opened) (F : List Leaf) (given : Left) (xs : List LeafStream) → now ≡ held → AreLeafStreams held o F given xs → AreLeafStreams now o F given xs
still_streams held now o F given xs e h = subst (λ (x : Option Files). AreLeafStreams x o F given xs) (sym e) h

-- ---- a stretch

-- what ends a stretch over slots ends it at hand
pub at_hand : (s : Schema) (p : Plan) (rows : ℕ) (given : Left) (ended : List Bool) (before here : Left) (w : LevelWalk) (m : Making) (q : Row) (old new : LastRead) (counts : Vec ℕ Global) (e : Stretch)
    → EndsStretch s p rows given ended w here m q (Ok e) → Shrinks before here → length counts.items ≡ length ended → ((k : ℕ) → get_or counts.items k 0 ≡ length (here k))
    → length old.values.items ≡ length (plan_leaves p) → ((ms : List Move) → HasRead (length old.values.items) ms q → HasLast (length old.values.items) ms new)
    → EndsAtHand s p rows given ended before w m new (Ok (e, counts))
at_hand s p rows given ended before here w m q old new counts (Stretch.Wants i) ends shrinks n counted len keep = record {
  moves = ends.0;
  here = here;
  streamed = ends.1.streamed;
  makes = ends.1.makes;
  reads = subst (λ (k : ℕ). HasLast k ends.0 new) len (keep ends.0 (subst (λ (k : ℕ). HasRead k ends.0 q) (sym len) ends.1.reads));
  wants = ends.2;
  shrinks = shrinks;
  as_many = n;
  counts = counted;
}
at_hand s p rows given ended before here w m q old new counts Stretch.Ended ends shrinks n counted len keep = ends

-- and what fails it
pub fails_at_hand : (s : Schema) (p : Plan) (rows : ℕ) (given : Left) (ended : List Bool) (before here : Left) (w : LevelWalk) (m : Making) (q : Row) (r : LastRead) (x : Result (Stretch × Vec ℕ Global) AssembleFault) (f : AssembleFault)
    → EndsStretch s p rows given ended w here m q (Err f) → IsErrAnd x (λ y. y ≡ f) → EndsAtHand s p rows given ended before w m r x
fails_at_hand s p rows given ended before here w m q r (Ok a) f ends is = elim is [ ]
fails_at_hand s p rows given ended before here w m q r (Err y) f ends is = subst (λ (z : AssembleFault). EndsAtHand s p rows given ended before w m r (Err z)) (sym is) (by_fault f ends)
  where
    by_fault : (f : AssembleFault) → EndsStretch s p rows given ended w here m q (Err f) → EndsAtHand s p rows given ended before w m r (Err f)
    by_fault AssembleFault.BadData h = h
    by_fault AssembleFault.NoMemory h = tt

-- how many are left of each
pub counted_rests : (rs : List Triplets) (k : ℕ) → get_or (map (λ (r : Triplets). length (triplets_view r)) rs) k 0 ≡ length (rest_at rs k)
counted_rests [] k = refl
counted_rests (r ∷ rs) zero = refl
counted_rests (r ∷ rs) (suc k) = counted_rests rs k

-- with what was kept lent to it, a stretch may begin
pub lent_scanned : (s : Schema) (p : Plan) (rows : ℕ) (given : Left) (ended others : List Bool) (ms : List Move) (w : LevelWalk) (before here : Left) (m : Making) (last : LastRead) (row : Row) → others ≡ ended → ((i : ℕ) → here i ≡ before i)
    → IsStreamed s p rows given ended ms w before → Makes s p ms m → HasLast (length (plan_leaves p)) ms last → ((n : ℕ) (ns : List Move) → HasLast n ns last → HasRead n ns row) → IsScanned s p rows given others ms w here m row
lent_scanned s p rows given ended others ms w before here m last row e q h makes reads lent = record {
  streamed = streamed_same s p rows given ended others ms w before here (λ i. ap (λ (es : List Bool). is_last es i) e) q h;
  makes = makes;
  reads = lent (length (plan_leaves p)) ms reads;
}

-- of equal lists
pub streamed_at : (s : Schema) (p : Plan) (rows : ℕ) (given : Left) (ms : List Move) (w : LevelWalk) (xs ys : List LeafStream) (left counts : List ℕ) → ys ≡ xs → counts ≡ left → IsStreamed s p rows given (ends_of xs) ms w (left_at xs left)
    → IsStreamed s p rows given (ends_of ys) ms w (left_at ys counts)
streamed_at s p rows given ms w xs ys left counts e q h =
    subst (λ (zs : List LeafStream). IsStreamed s p rows given (ends_of zs) ms w (left_at zs counts)) (sym e) (subst (λ (ns : List ℕ). IsStreamed s p rows given (ends_of xs) ms w (left_at xs ns)) (sym q) h)

pub ends_hand : (s : Schema) (p : Plan) (rows : ℕ) (given : Left) (w : LevelWalk) (m : Making) (r : LastRead) (xs ys : List LeafStream) (left counts : List ℕ) (x : Result (Stretch × Vec ℕ Global) AssembleFault) → ys ≡ xs → counts ≡ left
    → EndsAtHand s p rows given (ends_of ys) (left_at ys counts) w m r x → EndsAtHand s p rows given (ends_of xs) (left_at xs left) w m r x
ends_hand s p rows given w m r xs ys left counts x e q h =
    subst (λ (ns : List ℕ). EndsAtHand s p rows given (ends_of xs) (left_at xs ns) w m r x) q (subst (λ (zs : List LeafStream). EndsAtHand s p rows given (ends_of zs) (left_at zs counts) w m r x) e h)

-- want of memory, before the link was asked for anything
pub unmoved : {A : Type 0} (r : Result A FileFault) (serves : List ℕ → Type 0) (s : LinkShown) → IsErrAnd r (λ x. x ≡ FileFault.NoMemory) → LeavesLinkCounted r serves s s
unmoved (Ok a) serves s is = elim is [ ]
unmoved (Err x) serves s is = record { same = refl; counts = subst (HasCounts s.faults s.faults) (sym is) tt; calm = λ h. refl; steady = λ bytes k. ap is_link_fault is; stays_steady = λ h. h }
