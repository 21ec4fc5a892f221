-- The columns of a file's leaves side by side, chunk by chunk: the beginning, a batch more, the end, and what is no record's.
use Rattle.std.proofs.Common.{◌≡◌, ◌≢◌, ◌<◌, ◌+◌, ℕ, zero, suc, List, [], ◌∷◌, ◌++◌, length, map, take, get_or, Bool, true, false, Option, Some, refl, sym, ap, ap₂, subst, ◌∙◌, true≢false, arith}
use Rattle.std.specs.Prelude.{◌==◌, slice_set}
use Rattle.std.specs.List.{slice_get}
use Rattle.std.proofs.Math.Seq.{map-set_same}
use Rattle.std.proofs.lemmas.Option.{get_or_from_slice_get}
use Rattle.std.proofs.lemmas.Bool.{eqb-true, ne_eqb}
use Rattle.std.proofs.lemmas.Bool.Decides.{nat_tests}
use Rattle.std.proofs.lemmas.List.{get_or-map, length-map, map_push, map_more}
use Rattle.dr_meaning.specs.Schema.{Schema, Fields}
use Rattle.dr_meaning.specs.WalkLaws as walks
use Rattle.dr_meaning.specs.Path.{Step, Leaf}
use Rattle.dr_meaning.specs.Record.{Node}
use Rattle.dr_meaning.specs.Column.{Triplet, column}
use Rattle.dr_formats.specs.File.{HasCause, bad_data}
use Rattle.dr_formats.specs.Writing.{triplet_count}
use Rattle.dr_levels.specs.Views.{LeafForm, column_form, column_view}
use Rattle.dr_outside.specs.Link.{Files}
use Rattle.dr_moves.specs.Leading.{Left}
use Rattle.dr_partials.specs.Partials.{partial_of}
use Rattle.dr_group.specs.Partials.{IsPartialOf, partial_view}
use Rattle.dr_file.specs.OpenedFiles.{rows_of}
use Rattle.dr_file.specs.declared.opened.Opened.{Opened}
use Rattle.dr_plan.specs.Planned.{IsOfSchema, plan_leaves, plan_view, planned_query}
use Rattle.dr_plan.specs.declared.plan.Plan.{Plan}
use Rattle.dr_table.specs.Counting.{counted}
use Rattle.dr_scan.specs.FileRecords.{AreLeavesOf, IsFaultOf, assemble_fault}
use Rattle.dr_walk.specs.declared.fault.AssembleFault.{AssembleFault}
use Rattle.dr_walk.specs.Batches.{is_last}
use Rattle.dr_agreement.specs.AtHand as hand
use Rattle.dr_agreement.specs.Behind.{IsMore}
use Rattle.dr_agreement.specs.declared.at_hand.AtHand.{AtHand}
use Rattle.dr_agreement.specs.declared.at_hand.Kept.{Kept}
use Rattle.dr_agreement.proofs.BehindLemmas.{behind_all}
use Rattle.dr_columns.specs.Chunks.{nothing, BeginsFor, HasTakenChunks, IsAllTaken, IsLent, NoneGoesOn}
use Rattle.dr_columns.specs.Taken.{HasTaken, plan_paths}
use Rattle.dr_columns.specs.declared.column_scan.ColumnScan.{ColumnScan}
use Rattle.dr_columns.specs.declared.chunks.Chunks.{Chunks}
use Rattle.dr_columns.proofs.StepLemmas.{paths_count}
use Rattle.dr_scan.specs.Chunked.{batch_forms, hand_forms, same_streams, AreOfStreams, IsChunked}
use Rattle.dr_scan.specs.Streamed.{batch_at, ends_of, IsTold, AreLeafStreams, AreReadOn, with_more, NoneBegins, IsOfOpened}
use Rattle.dr_scan.specs.declared.leaf_stream.LeafStream.{LeafStream}
use Rattle.dr_scan.specs.declared.opened.Made.{Made}
use Rattle.dr_scan.proofs.FileLemmas.{whole_opened, streamed_bad, walk_fault}
use Rattle.dr_scan.proofs.HandingLemmas.{batch_set, hands_count, same_ends, same_leaf_streams}
use Rattle.dr_scan.proofs.RestLemmas.{counted_given, given_counted, none_given}
use Rattle.dr_scan.proofs.LeafLemmas.{plan_leaves_stand}
use Rattle.dr_scan.specs.Rests.{HasGiven}
use Rattle.dr_scan.proofs.Tabulated.{tabulated, tabulated_count}

-- ---- streams by their numbers

abbrev is_ended : LeafStream → Bool
is_ended x = x.ended

abbrev batch_of : LeafStream → List Triplet
batch_of x = column_view x.batch

abbrev batch_form : LeafStream → LeafForm
batch_form x = column_form x.batch

pub batch_here : (xs : List LeafStream) (k : ℕ) (x : LeafStream) → k < length xs → x ≡ get_or xs k x → batch_at xs k ≡ column_view x.batch
batch_here xs k x l e = get_or-map batch_of xs k x [] l ∙ ap batch_of (sym e)

pub form_here : (xs : List LeafStream) (k : ℕ) (x : LeafStream) (d : LeafForm) → k < length xs → x ≡ get_or xs k x → get_or (batch_forms xs) k d ≡ column_form x.batch
form_here xs k x d l e = get_or-map batch_form xs k x d l ∙ ap batch_form (sym e)

pub end_here : (xs : List LeafStream) (k : ℕ) (x : LeafStream) → k < length xs → x ≡ get_or xs k x → is_last (ends_of xs) k ≡ x.ended
end_here xs k x l e = get_or-map is_ended xs k x false l ∙ ap is_ended (sym e)

pub leaves_count : (xs : List LeafStream) (x : Chunks) → hand_forms x ≡ batch_forms xs → length x.leaves.items ≡ length xs
leaves_count xs x e = sym (length-map x.leaves.items hand.form_of) ∙ (ap length e ∙ length-map xs batch_form)

pub hands_same : (x y : Chunks) → hand_forms y ≡ hand_forms x → length y.leaves.items ≡ length x.leaves.items
hands_same x y e = sym (length-map y.leaves.items hand.form_of) ∙ (ap length e ∙ length-map x.leaves.items hand.form_of)

pub streams_count : (xs ys : List LeafStream) → batch_forms ys ≡ batch_forms xs → length ys ≡ length xs
streams_count xs ys e = sym (length-map ys batch_form) ∙ (ap length e ∙ length-map xs batch_form)

-- ---- a batch more

itself : (a b : ℕ) → a ≡ b → true ≡ (a == b)
itself a b q = grind (arith, nat_tests)

apart : (i k : ℕ) → (i == k) ≡ false → i ≢ k
apart i k z q = true≢false (itself i k q ∙ z)

with_here : (k : ℕ) (more : List Triplet) (f : Left) → with_more k more f k ≡ f k ++ more
with_here k more f = rw (sym (itself k k refl)) refl

with_others : (k : ℕ) (more : List Triplet) (f : Left) (i : ℕ) → i ≢ k → with_more k more f i ≡ f i
with_others k more f i d = rw (ne_eqb i k d) refl

is_more : (k : ℕ) (more : List Triplet) (f : Left) → IsMore k more f (with_more k more f)
is_more k more f = (with_here k more f, λ i d. with_others k more f i d)

-- a leaf is lent to its stream, of the same leaf
pub lent_form : (xs : List LeafStream) (x : Chunks) (k : ℕ) (u : LeafStream) → hand_forms x ≡ batch_forms xs → k < length xs → u ≡ get_or xs k u → column_form u.batch ≡ get_or (hand_forms x) k (column_form u.batch)
lent_form xs x k u forms l is = sym (ap (λ (fs : List LeafForm). get_or fs k (column_form u.batch)) forms ∙ form_here xs k u (column_form u.batch) l is)

-- what the stream gave joined what was lent
pub lent_joined : (held : Option Files) (xs ys : List LeafStream) (k n : ℕ) (u v : LeafStream) (a : AreReadOn held k (slice_set xs k u) ys n) → k < length xs → k < length ys → v ≡ get_or ys k v → column_view v.batch ≡ column_view u.batch ++ a.more
lent_joined held xs ys k n u v a l m is = sym (batch_here ys k v m is) ∙ (a.here k ∙ (with_here k a.more (batch_at (slice_set xs k u)) ∙ ap (λ (ts : List Triplet). ts ++ a.more) (batch_set xs k u l)))

-- a leaf has more at hand, which its stream gave
pub more_chunked : (s : Schema) (p : Plan) (held : Option Files) (o : Opened) (xs us ys zs : List LeafStream) (x x1 x2 : Chunks) (k read n : ℕ) (before : List Triplet) (kept : Kept) (h : IsChunked s p held o xs x read) → same_streams us ≡ same_streams xs
    → IsLent k before kept x x1 → (a : AreReadOn held k us ys n) → same_streams zs ≡ same_streams ys → batch_forms zs ≡ batch_forms xs → k < length xs → ((now : Left) → IsMore k a.more h.given now → HasTakenChunks s p (rows_of o) now h.records x2)
    → hand.ends_of x2.leaves.items k ≡ is_last (ends_of ys) k → ((i : ℕ) → i ≢ k → hand.ends_of x2.leaves.items i ≡ hand.ends_of x1.leaves.items i) → hand_forms x2 ≡ hand_forms x1 → IsChunked s p held o zs x2 (counted read n)
more_chunked s p held o xs us ys zs x x1 x2 k read n before kept h lent_same lent a back_same forms l added ended ends same = record {
  given = given;
  records = h.records;
  streams = same_leaf_streams held o (plan_leaves p) given ys zs (a.streams o (plan_leaves p) h.given (same_leaf_streams held o (plan_leaves p) h.given xs us h.streams lent_same)) back_same;
  taken = taken;
  of_streams = record {
    forms = same ∙ (lent.forms ∙ (h.of_streams.forms ∙ sym forms));
    ends = λ i z. ap (λ (bs : List Bool). is_last bs i) (same_ends ys zs back_same) ∙ by_leaf i (i == k) refl z;
  };
  count = counted_given m given (counted read n)
      (let c = tabulated_count m k a.more h.given given (omega (arith, l, h.streams.as_many)) (with_here k a.more h.given) (λ i d. with_others k a.more h.given i d) in
      let q = given_counted m h.given read (λ i b. h.taken.behind.past i (let j = paths_count p in omega (arith, j, b))) h.count in
      let e = a.so_many in
      omega (arith, c, q, e));
}
  where
    m : ℕ
    m = length (plan_leaves p)

    given : Left
    given = with_more k a.more h.given

    taken : HasTakenChunks s p (rows_of o) given h.records x2
    taken = added given (is_more k a.more h.given)

    by_leaf : (i : ℕ) (b : Bool) → (i == k) ≡ b → hand.ends_of x2.leaves.items i ≡ true → is_last (ends_of ys) i ≡ true
    by_leaf i true q z = subst (λ (j : ℕ). is_last (ends_of ys) j ≡ true) (sym (eqb-true i k q)) (sym ended ∙ (ap (hand.ends_of x2.leaves.items) (sym (eqb-true i k q)) ∙ z))
    by_leaf i false q z =
        let d = apart i k q in
        a.ends i d ∙ (ap (λ (bs : List Bool). is_last bs i) (same_ends xs us lent_same) ∙ h.of_streams.ends i (sym (lent.ends i) ∙ (sym (ends i d) ∙ z)))

-- ---- the end

pub all_chunks : (s : Schema) (p : Plan) (held : Option Files) (o : Opened) (given : Left) (R : List Node) (xs : List LeafStream) (x : Chunks) (m : Made) → AreLeafStreams held o (plan_leaves p) given xs → HasTakenChunks s p (rows_of o) given R x
    → AreOfStreams xs x → IsAllTaken p x → m.triplets ≡ counted 0 (triplet_count (tabulated (length (plan_leaves p)) given)) → partial_view m.partial ≡ partial_of s.fields (planned_query (plan_view p)) R → IsPartialOf (plan_view p) m.partial
    → IsOfOpened s p held o m
all_chunks s p held o given R xs x m streams h of_streams all count made of_plan =
    let n = paths_count p in
    let b = behind_all s.fields (plan_paths p) (rows_of o) given (hand.here_of x.leaves.items) (hand.ends_of x.leaves.items) R x.records h.behind all.0 (λ i l. (all.1 i (omega (arith, l, n))).0) in
    whole_opened s p held o given xs R m streams (record {
      columns = map (λ (q : List Step). column q R) (plan_paths p);
      have = b.0;
      given_all = (length-map (plan_paths p) (λ (q : List Step). column q R) ∙ n, b.1);
      ends = λ i l. of_streams.ends i (all.1 i l).1;
    }) count made of_plan

-- ---- where no records have columns that begin so

none_begins : (s : Schema) (p : Plan) (rows : ℕ) (given : Left) (xs : List LeafStream) (x : Chunks) → AreOfStreams xs x → NoneGoesOn s p rows given (hand.ends_of x.leaves.items) → NoneBegins s p rows given (ends_of xs)
none_begins s p rows given xs x h none C later on = none C later (on.0 ∙ sym (paths_count p), on.1, λ i z. on.2 i (h.ends i z))

pub chunked_bad : (bytes : List ℕ) (s : Schema) (p : Plan) (held : Option Files) (o : Opened) (given : Left) (R : List Node) (xs : List LeafStream) (x y : Chunks) → IsTold held o (plan_leaves p) bytes → AreLeavesOf s.fields (plan_leaves p)
    → AreLeafStreams held o (plan_leaves p) given xs → HasTakenChunks s p (rows_of o) given R x → AreOfStreams xs y → NoneGoesOn s p (rows_of o) given (hand.ends_of y.leaves.items) → HasCause bytes s (plan_leaves p) bad_data
chunked_bad bytes s p held o given R xs x y told are streams h of_streams none =
    let n = paths_count p in
    streamed_bad bytes s p held o given xs told are streams (λ i l. h.behind.past i (omega (arith, l, n))) (none_begins s p (rows_of o) given xs y of_streams none)

-- what is at hand still is of the streams
pub still_of_streams : (xs : List LeafStream) (x y : Chunks) → hand_forms y ≡ hand_forms x → ((i : ℕ) → hand.ends_of y.leaves.items i ≡ hand.ends_of x.leaves.items i) → AreOfStreams xs x → AreOfStreams xs y
still_of_streams xs x y f e h = record { forms = f ∙ h.forms; ends = λ i z. h.ends i (sym (e i) ∙ z) }

-- ---- the beginning

pub hand_pushed : (vs : List AtHand) (v : AtHand) → ((i : ℕ) → hand.here_of vs i ≡ []) → hand.rest_of v ≡ [] → (i : ℕ) → hand.here_of (vs ++ v ∷ []) i ≡ []
hand_pushed [] v h e zero = e
hand_pushed [] v h e (suc i) = h i
hand_pushed (x ∷ vs) v h e zero = h 0
hand_pushed (x ∷ vs) v h e (suc i) = hand_pushed vs v (λ j. h (suc j)) e i

pub ends_pushed : (vs : List AtHand) (v : AtHand) → ((i : ℕ) → hand.ends_of vs i ≡ false) → v.ended ≡ false → (i : ℕ) → hand.ends_of (vs ++ v ∷ []) i ≡ false
ends_pushed [] v h e zero = e
ends_pushed [] v h e (suc i) = h i
ends_pushed (x ∷ vs) v h e zero = h 0
ends_pushed (x ∷ vs) v h e (suc i) = ends_pushed vs v (λ j. h (suc j)) e i

pub forms_pushed : (xs : List LeafStream) (i : ℕ) (x : LeafStream) (vs : List AtHand) (v : AtHand) → i < length xs → x ≡ get_or xs i x → map hand.form_of vs ≡ batch_forms (take i xs) → hand.form_of v ≡ column_form x.batch
    → map hand.form_of (vs ++ v ∷ []) ≡ batch_forms (take (i + 1) xs)
forms_pushed xs i x vs v l is e q = map_push hand.form_of vs v ∙ (ap₂ (λ (fs : List LeafForm) (f : LeafForm). fs ++ f ∷ []) e (q ∙ ap batch_form is) ∙ sym (map_more batch_form xs i x l))

pub none_ends : (xs : List LeafStream) (x : Chunks) (vs : List AtHand) → x.leaves.items ≡ vs → map hand.form_of vs ≡ batch_forms xs → ((i : ℕ) → hand.ends_of vs i ≡ false) → AreOfStreams xs x
none_ends xs x vs e f ends = record {
  forms = ap (map hand.form_of) e ∙ f;
  ends = λ i z. absurd (true≢false (sym z ∙ (ap (λ (ys : List AtHand). hand.ends_of ys i) e ∙ ends i)));
}

-- nothing of any column was given or taken
pub chunks_begin : (s : Schema) (p : Plan) (held : Option Files) (o : Opened) (xs : List LeafStream) (x : Chunks) (vs : List AtHand) (y : ColumnScan) (rows read : ℕ) → IsOfSchema s p → AreLeafStreams held o (plan_leaves p) nothing xs → map hand.form_of vs ≡ batch_forms xs
    → ((i : ℕ) → hand.here_of vs i ≡ []) → ((i : ℕ) → hand.ends_of vs i ≡ false) → HasTaken s p [] y → (BeginsFor s p vs y → HasTakenChunks s p rows nothing [] x) → x.leaves.items ≡ vs → rows ≡ rows_of o → read ≡ 0 → IsChunked s p held o xs x read
chunks_begin s p held o xs x vs y rows read planned streams forms none ends taken begun is same e = record {
  given = nothing;
  records = [];
  streams = streams;
  taken = subst (λ (r : ℕ). HasTakenChunks s p r nothing [] x) same (begun (record { of_schema = plan_leaves_stand s p planned; as_many = hands_count xs vs forms ∙ streams.as_many; none = none; taken = taken }));
  of_streams = none_ends xs x vs is forms ends;
  count = subst (HasGiven (length (plan_leaves p)) nothing) (sym e) (none_given (length (plan_leaves p)));
}

-- ---- another stream in the place of one

pub same_form : (xs : List LeafStream) (k : ℕ) (x y : LeafStream) → slice_get xs k ≡ Some x → column_form y.batch ≡ column_form x.batch → batch_forms (slice_set xs k y) ≡ batch_forms xs
same_form xs k x y there e = map-set_same batch_form xs k y x (e ∙ ap batch_form (sym (get_or_from_slice_get xs k x x there)))

-- ---- a step

-- leaves of a schema, one after another
pub leaves_each : (fs : Fields) (F : List Leaf) → walks.AreLeavesOf fs F → AreLeavesOf fs F
leaves_each fs [] h = tt
leaves_each fs (l ∷ F) h = (h 0 l refl, leaves_each fs F (λ i m e. h (suc i) m e))

-- it took some records, or none
pub stepped : (s : Schema) (p : Plan) (held : Option Files) (o : Opened) (xs : List LeafStream) (x y : Chunks) (read : ℕ) (R : List Node) (h : IsChunked s p held o xs x read) → HasTakenChunks s p (rows_of o) h.given R y → hand_forms y ≡ hand_forms x
    → ((i : ℕ) → hand.ends_of y.leaves.items i ≡ hand.ends_of x.leaves.items i) → IsChunked s p held o xs y read
stepped s p held o xs x y read R h taken forms ends = record { given = h.given; records = R; streams = h.streams; taken = taken; of_streams = still_of_streams xs x y forms ends h.of_streams; count = h.count }

-- no records have columns that begin so
pub none_stepped : (s : Schema) (p : Plan) (held : Option Files) (o : Opened) (xs : List LeafStream) (x y : Chunks) (read : ℕ) (h : IsChunked s p held o xs x read) → NoneGoesOn s p (rows_of o) h.given (hand.ends_of y.leaves.items) → hand_forms y ≡ hand_forms x
    → ((i : ℕ) → hand.ends_of y.leaves.items i ≡ hand.ends_of x.leaves.items i) → (bytes : List ℕ) → IsTold held o (plan_leaves p) bytes → IsFaultOf bytes s (plan_leaves p) (assemble_fault AssembleFault.BadData)
none_stepped s p held o xs x y read h none forms ends bytes told =
    walk_fault bytes s (plan_leaves p) AssembleFault.BadData (λ e. chunked_bad bytes s p held o h.given h.records xs x y told (leaves_each s.fields (plan_leaves p) h.taken.for_plan.of_schema) h.streams h.taken (still_of_streams xs x y forms ends h.of_streams) none)
