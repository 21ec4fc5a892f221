-- What is at hand of leaves, handed over to their streams.
use Rattle.std.proofs.Common.{◌≡◌, ◌≢◌, ◌<◌, ◌≤◌, ◌+◌, ◌-◌, ◌⊎◌, inl, inr, ℕ, zero, suc, List, [], ◌∷◌, ◌++◌, length, map, drop, get_or, Bool, Option, Some, None, refl, sym, ap, ap₂, subst, ◌∙◌, arith}
use Rattle.std.specs.Prelude.{slice_set, option_map}
use Rattle.std.specs.List.{slice_get}
use Rattle.std.proofs.Math.Seq.{map-set_same}
use Rattle.std.proofs.lemmas.Option.{slice_get-map}
use Rattle.std.proofs.lemmas.Bool.{cases_lt}
use Rattle.std.proofs.lemmas.List.{get_or_push, get_or_append_left, get_or-map, length-map}
use Rattle.dr_meaning.specs.Schema.{Schema}
use Rattle.dr_meaning.specs.Path.{Leaf}
use Rattle.dr_meaning.specs.Record.{Node}
use Rattle.dr_meaning.specs.Column.{Triplet}
use Rattle.dr_formats.specs.File.{most_triplets}
use Rattle.dr_levels.specs.Views.{LeafForm, column_form, column_view}
use Rattle.dr_outside.specs.Link.{Files}
use Rattle.dr_moves.specs.Leading.{Left}
use Rattle.dr_partials.specs.Partials.{partial_of}
use Rattle.dr_group.specs.Partials.{IsPartialOf, partial_view}
use Rattle.dr_group.specs.declared.partial.Partial.{Partial}
use Rattle.dr_file.specs.OpenedFiles.{rows_of}
use Rattle.dr_file.specs.Streams.{IsStreamOf, file_of, left_of, refused_of}
use Rattle.dr_file.specs.declared.opened.Opened.{Opened}
use Rattle.dr_file.specs.declared.stream.Stream.{Stream}
use Rattle.dr_plan.specs.Planned.{plan_leaves, plan_view, planned_query}
use Rattle.dr_plan.specs.declared.plan.Plan.{Plan}
use Rattle.dr_walk.specs.Batches.{is_last}
use Rattle.dr_columns.specs.Chunks.{HasTakenChunks}
use Rattle.dr_columns.specs.Taken.{plan_paths}
use Rattle.dr_columns.specs.declared.chunks.Chunks.{Chunks}
use Rattle.dr_columns.proofs.StepLemmas.{behind_same}
use Rattle.dr_agreement.specs.AtHand as hand
use Rattle.dr_agreement.specs.declared.at_hand.AtHand.{AtHand}
use Rattle.dr_agreement.proofs.AtHandLemmas.{one_more, here_there, here_past, here_others}
use Rattle.dr_scan.specs.Chunked.{batch_forms, same_streams, AreOfStreams}
use Rattle.dr_scan.specs.Rests.{HasGiven, IsMadeOf, IsRestOf}
use Rattle.dr_scan.specs.Streamed.{last_of, batch_at, left_at, ends_of, AreLeafStreams}
use Rattle.dr_scan.specs.declared.leaf_stream.LeafStream.{LeafStream}
use Rattle.dr_scan.specs.declared.rest.Rest.{Rest}
use Rattle.dr_scan.proofs.StreamLemmas.{batch_past, stream_there}

pub batch_set : (xs : List LeafStream) (i : ℕ) (y : LeafStream) → i < length xs → batch_at (slice_set xs i y) i ≡ column_view y.batch
batch_set [] i y h = absurd (omega (arith, h))
batch_set (x ∷ xs) zero y h = refl
batch_set (x ∷ xs) (suc i) y h = batch_set xs i y (omega (arith, h))

batch_others : (xs : List LeafStream) (i j : ℕ) (y : LeafStream) → j ≢ i → batch_at (slice_set xs i y) j ≡ batch_at xs j
batch_others [] i j y d = refl
batch_others (x ∷ xs) zero zero y d = absurd (d refl)
batch_others (x ∷ xs) zero (suc j) y d = refl
batch_others (x ∷ xs) (suc i) zero y d = refl
batch_others (x ∷ xs) (suc i) (suc j) y d = batch_others xs i j y (λ q. d (ap suc q))

never : 1 ≤ 0 → ⊥
never z = omega (arith, z)

-- a leaf more is handed over
pub given_more : (olds now : List AtHand) (xs : List LeafStream) (left : List ℕ) (at n : ℕ) (x y : AtHand) (u : LeafStream) → at < length now → at < length xs → length left ≡ at → x ≡ get_or now at x → last_of n (column_view u.batch) ≡ hand.rest_of x
    → ((i : ℕ) → i < at → left_at xs left i ≡ hand.here_of olds i) → ((i : ℕ) → at ≤ i → hand.here_of now i ≡ hand.here_of olds i)
    → ((i : ℕ) → i < at + 1 → left_at (slice_set xs at u) (left ++ n ∷ []) i ≡ hand.here_of olds i) × ((i : ℕ) → at + 1 ≤ i → hand.here_of (slice_set now at y) i ≡ hand.here_of olds i)
given_more olds now xs left at n x y u h k m is rest before behind = (first, λ i l. here_others now at i y (λ e. never (omega (arith, l, e))) ∙ behind i (omega (arith, l)))
  where
    first : (i : ℕ) → i < at + 1 → left_at (slice_set xs at u) (left ++ n ∷ []) i ≡ hand.here_of olds i
    first i l = by_place (one_more i at l)
      where
        by_place : (i < at) ⊎ (i ≡ at) → left_at (slice_set xs at u) (left ++ n ∷ []) i ≡ hand.here_of olds i
        by_place (inl b) = ap₂ last_of (get_or_append_left left (n ∷ []) 0 i (omega (arith, b, m))) (batch_others xs at i u (λ e. never (omega (arith, b, e)))) ∙ before i b
        by_place (inr b) = subst (λ (j : ℕ). left_at (slice_set xs at u) (left ++ n ∷ []) j ≡ hand.here_of olds j) (sym b)
            (ap₂ last_of (get_or_push left n 0 at m) (batch_set xs at u k) ∙ (rest ∙ (sym (here_there now at x h is) ∙ behind at (omega arith))))

abbrev no_triplets : List Triplet
no_triplets = []

drop_none : (k : ℕ) → drop k no_triplets ≡ no_triplets
drop_none zero = refl
drop_none (suc k) = refl

-- all are
pub given_all : (olds : List AtHand) (xs : List LeafStream) (left : List ℕ) (at : ℕ) → length olds ≡ length xs → length xs ≤ at → ((i : ℕ) → i < at → left_at xs left i ≡ hand.here_of olds i) → (i : ℕ) → left_at xs left i ≡ hand.here_of olds i
given_all olds xs left at e h before i = by_place (cases_lt i at)
  where
    by_place : (i < at) ⊎ (at ≤ i) → left_at xs left i ≡ hand.here_of olds i
    by_place (inl l) = before i l
    by_place (inr l) = ap (last_of (get_or left i 0)) (batch_past xs i (omega (arith, l, h))) ∙ (drop_none (length no_triplets - get_or left i 0) ∙ sym (here_past olds i (omega (arith, l, h, e))))

-- ---- the same streams

pub ends_by : (xs : List LeafStream) → ends_of xs ≡ map (λ (z : Stream × Bool). z.1) (same_streams xs)
ends_by [] = refl
ends_by (x ∷ xs) = ap (λ (bs : List Bool). x.ended ∷ bs) (ends_by xs)

pub same_ends : (xs ys : List LeafStream) → same_streams ys ≡ same_streams xs → ends_of ys ≡ ends_of xs
same_ends xs ys e = ends_by ys ∙ (ap (map (λ (z : Stream × Bool). z.1)) e ∙ sym (ends_by xs))

abbrev parts_of : LeafStream → Stream × Bool
parts_of x = (x.stream, x.ended)

same_parts : (a b : Stream × Bool) → Some a ≡ Some b → a ≡ b
same_parts a b e = cc

pub same_leaf_streams : (held : Option Files) (o : Opened) (F : List Leaf) (given : Left) (xs ys : List LeafStream) → AreLeafStreams held o F given xs → same_streams ys ≡ same_streams xs → AreLeafStreams held o F given ys
same_leaf_streams held o F given xs ys h e = record {
  as_many = n ∙ h.as_many;
  each = λ i l y f at.
      let x = stream_there F xs i l h.as_many f in
      let k = h.each i l x.0 f x.1 in
      let q : parts_of x.0 ≡ parts_of y = same_parts (parts_of x.0) (parts_of y)
      (sym (slice_get-map parts_of xs i ∙ ap (option_map parts_of) x.1) ∙ (ap (λ (zs : List (Stream × Bool)). slice_get zs i) (sym e) ∙ (slice_get-map parts_of ys i ∙ ap (option_map parts_of) at))) in
      record {
        file = subst (λ (z : Stream × Bool). file_of z.0 ≡ o) q k.file;
        few = subst (λ (z : Stream × Bool). length (given i) + left_of z.0 ≤ most_triplets) q k.few;
        well = subst (λ (z : Stream × Bool). refused_of z.0 ≡ None) q k.well;
        of = λ bytes told. subst (λ (z : Stream × Bool). IsStreamOf bytes l (given i) z.0) q (k.of bytes told);
        last = λ bytes told z. k.last bytes told (ap (λ (w : Stream × Bool). w.1) q ∙ z);
      };
}
  where
    n : length ys ≡ length xs
    n = sym (length-map ys parts_of) ∙ (ap length e ∙ length-map xs parts_of)

pub hands_count : (xs : List LeafStream) (vs : List AtHand) → map hand.form_of vs ≡ batch_forms xs → length vs ≡ length xs
hands_count xs vs e = sym (length-map vs hand.form_of) ∙ (ap length e ∙ length-map xs (λ (x : LeafStream). column_form x.batch))

pub form_at : (xs : List LeafStream) (vs : List AtHand) (k : ℕ) (x : LeafStream) (v : AtHand) → map hand.form_of vs ≡ batch_forms xs → k < length xs → x ≡ get_or xs k x → v ≡ get_or vs k v → column_form x.batch ≡ hand.form_of v
form_at xs vs k x v e l is at =
    let d = hand.form_of v in
    let n = hands_count xs vs e in
    ap (λ (y : LeafStream). column_form y.batch) is ∙ (sym (get_or-map (λ (y : LeafStream). column_form y.batch) xs k x d l)
    ∙ (ap (λ (fs : List LeafForm). get_or fs k d) (sym e) ∙ (get_or-map hand.form_of vs k v d (omega (arith, l, n)) ∙ ap hand.form_of (sym at))))

pub parts_set : (xs : List LeafStream) (k : ℕ) (x y : LeafStream) → x ≡ get_or xs k x → parts_of y ≡ parts_of x → same_streams (slice_set xs k y) ≡ same_streams xs
parts_set xs k x y is e = map-set_same parts_of xs k y x (e ∙ ap parts_of is)

pub forms_set : (xs : List LeafStream) (k : ℕ) (x y : LeafStream) → x ≡ get_or xs k x → column_form y.batch ≡ column_form x.batch → batch_forms (slice_set xs k y) ≡ batch_forms xs
forms_set xs k x y is e = map-set_same (λ (z : LeafStream). column_form z.batch) xs k y x (e ∙ ap (λ (z : LeafStream). column_form z.batch) is)

-- ---- the rest

pub is_rest : (s : Schema) (p : Plan) (held : Option Files) (o : Opened) (given : Left) (R : List Node) (xs : List LeafStream) (x : Chunks) (y : Rest) (made : Partial) → AreLeafStreams held o (plan_leaves p) given xs → HasTakenChunks s p (rows_of o) given R x
    → AreOfStreams xs x → HasGiven (length (plan_leaves p)) given y.read → 0 < length (plan_leaves p) → same_streams y.streams.items ≡ same_streams xs → ((i : ℕ) → left_at y.streams.items y.left.items i ≡ hand.here_of x.leaves.items i)
    → y.records ≡ x.records → y.made ≡ Some made → partial_view made ≡ partial_of s.fields (planned_query (plan_view p)) R → IsPartialOf (plan_view p) made → IsRestOf s p held o y
is_rest s p held o given R xs x y made streams h of_streams count some same left records is partial of_plan = record {
  given = given;
  records = R;
  streams = same_leaf_streams held o (plan_leaves p) given xs y.streams.items streams same;
  behind = behind_same s.fields (plan_paths p) (rows_of o) given (hand.here_of x.leaves.items) (left_at y.streams.items y.left.items) (hand.ends_of x.leaves.items) (is_last (ends_of y.streams.items)) R x.records y.records left
      (λ i z. ap (λ (bs : List Bool). is_last bs i) (same_ends xs y.streams.items same) ∙ of_streams.ends i z) records h.behind;
  made = subst (IsMadeOf s p R) (sym is) (some, partial, of_plan);
  count = count;
}
