-- A scan of groups behind one more move: what it made.
use Rattle.std.proofs.Common.{◌≡◌, ℕ, suc, List, [], ◌∷◌, ◌++◌, length, take, drop, Bool, true, false, Option, Some, None, refl, sym, ap, subst, ◌∙◌}
use Rattle.std.specs.Prelude.{◌==◌, reverse, if◌then◌else◌}
use Rattle.dr_meaning.specs.Path.{Leaf}
use Rattle.dr_meaning.specs.Column.{Triplet}
use Rattle.dr_meaning.specs.Walk.{Move, enter, value, leave}
use Rattle.dr_moves.specs.Context.{Context, with_value}
use Rattle.dr_kept_laws.specs.GroupFlow.{Reading, all_fired, all_left, left_with}
use Rattle.dr_partials.specs.Putting.{Put}
use Rattle.dr_plan.specs.Planned.{Planned}
use Rattle.dr_kept_laws.specs.Counting.{context_behind}
use Rattle.dr_kept_laws.specs.Frames.{Frames, frame_move}
use Rattle.dr_kept_laws.specs.MovedContexts.{after_moves}
use Rattle.dr_condition.specs.Parted.{WatchedParts}
use Rattle.dr_condition.specs.Conditions.{HasWatched, watch_in}
use Rattle.dr_condition.specs.Watching.{dropped_at, TellsKept}
use Rattle.dr_within.specs.Takings.{Take, all_read, firing_at, takings_view}
use Rattle.dr_within.specs.Firings.{leaving_in, Fires}
use Rattle.dr_within.specs.Framing.{Holds, StaySettled, AllSettled}
use Rattle.dr_within.specs.Behind.{readings_at, reading_at, settled_behind, frames_behind, IsBehind}
use Rattle.dr_within.specs.declared.firing.Firing.{Firing}
use Rattle.dr_within.specs.declared.frames.Frames.{Frames as CodeFrames}
use Rattle.dr_within.specs.declared.groups.GroupScan.{GroupScan}
use Rattle.dr_within.proofs.FiredLemmas.{fired_read, left_read}
use Rattle.dr_within.proofs.FramedLemmas.{framed_snoc}
use Rattle.dr_within.proofs.BehindLemmas.{no_marks, some_marks, left_made}
use Rattle.dr_within.proofs.SettledLemmas.{entered_settled, read_settled, kept_settled, left_settled, none_settled}

pub after_snoc : (c : Context) (ms : List Move) (m : Move) → after_moves c (ms ++ m ∷ []) ≡ context_behind (after_moves c ms) m
after_snoc c [] (enter k) = refl
after_snoc c [] (value i t) = refl
after_snoc c [] (leave k) = refl
after_snoc c (enter k ∷ ms) m = after_snoc c ms m
after_snoc c (value i t ∷ ms) m = after_snoc (with_value i t.value c) ms m
after_snoc c (leave k ∷ ms) m = after_snoc c ms m

-- the frames of a plan's readings behind some moves
module _ (ls : List Leaf) (keys : List ℕ) (ts : List Take) (W : Option WatchedParts) where
  abbrev pub xs_of : List (Reading Put)
  xs_of = readings_at ls keys ts

  abbrev pub behind : List Move → Frames Put
  behind ms = frames_behind W (readings_at ls keys ts) ms

  abbrev pub one_more : List Move → Move → Frames Put
  one_more ms m = frame_move (all_fired (readings_at ls keys ts)) (left_with (all_left (readings_at ls keys ts))) (dropped_at W ms m) m (behind ms)

  -- what is held behind so many moves
  abbrev pub HoldsBehind : Planned → ℕ → List Move → Frames Put → CodeFrames → Type 0
  HoldsBehind p n ms f g = Holds p n f.made (settled_behind W (length f.marks) ms) f.marks g

  pub enter_made : (p : Planned) (n : ℕ) (ms : List Move) (k : ℕ) (f g : CodeFrames)
      → ((q : Planned) (j : ℕ) (made : List Put) (settled : List Bool) (marks : List ℕ) (b : Bool) → Holds q j made settled marks f → Holds q j made (b ∷ settled) (length made ∷ marks) g)
      → HoldsBehind p n ms (behind ms) f → HoldsBehind p n (ms ++ enter k ∷ []) (one_more ms (enter k)) g
  enter_made p n ms k f g call h =
      let x = entered_settled W (length (behind ms).marks) ms k in
      subst (λ (bs : List Bool). Holds p n (behind ms).made bs (length (behind ms).made ∷ (behind ms).marks) g) (sym x.1) (call p n (behind ms).made _ (behind ms).marks x.0 h)

  pub read_made : (p : Planned) (n : ℕ) (ms : List Move) (i : ℕ) (t : Triplet) (is_kept : Bool) (rows : List Put) (f g : CodeFrames)
      → ((q : Planned) (made : List Put) (settled later : List Bool) (marks : List ℕ) → Holds q n made settled marks f → StaySettled settled later → (is_kept ≡ true → AllSettled later) → Holds q n (made ++ rows) later marks g)
      → TellsKept W ms (value i t) is_kept → rows ≡ all_fired (readings_at ls keys ts) i (with_value i t.value (behind ms).context)
      → HoldsBehind p n ms (behind ms) f → HoldsBehind p n (ms ++ value i t ∷ []) (one_more ms (value i t)) g
  read_made p n ms i t is_kept rows f g call told e h =
      let k = length (behind ms).marks in
      subst (λ (ps : List Put). Holds p n ((behind ms).made ++ ps) (settled_behind W k (ms ++ value i t ∷ [])) (behind ms).marks g) e
      (call p (behind ms).made (settled_behind W k ms) (settled_behind W k (ms ++ value i t ∷ [])) (behind ms).marks h (read_settled W k ms i t) (kept_settled W k ms i t is_kept told))

  pub leave_made : (p : Planned) (n : ℕ) (ms : List Move) (k : ℕ) (is_dropped : Bool) (rows : List Put) (f g : CodeFrames)
      → ((q : Planned) (made : List Put) (b : Bool) (settled : List Bool) (mark : ℕ) (marks : List ℕ) → Holds q n made (b ∷ settled) (mark ∷ marks) f → (is_dropped ≡ true → b ≡ false)
      → Holds q n (if is_dropped then take mark made else made ++ rows) settled marks g)
      → ((q : Planned) (made : List Put) → Holds q n made [] [] f → Holds q n made [] [] g)
      → is_dropped ≡ dropped_at W ms (leave k) → rows ≡ (if k == 0 then all_left (readings_at ls keys ts) (behind ms).context else [])
      → HoldsBehind p n ms (behind ms) f → HoldsBehind p n (ms ++ leave k ∷ []) (one_more ms (leave k)) g
  leave_made p n ms k is_dropped rows f g call none d e h = by_marks (behind ms) (behind ms).marks refl refl
    where
      more : Context → List Put
      more = all_left (readings_at ls keys ts)

      left : Bool → Frames Put → Frames Put
      left x y = frame_move (all_fired (readings_at ls keys ts)) (left_with more) x (leave k) y

      rows_of_frames : (y : Frames Put) → behind ms ≡ y → rows ≡ (if k == 0 then more y.context else [])
      rows_of_frames y q = e ∙ ap (λ (z : Frames Put). if k == 0 then more z.context else []) q

      -- by the parts of the frames
      by_parts : (c : Context) (made : List Put) (marks : List ℕ) → rows ≡ (if k == 0 then more c else []) → Holds p n made (settled_behind W (length marks) ms) marks f
          → (let y = left (dropped_at W ms (leave k)) (record { context = c; made = made; marks = marks }) in Holds p n y.made (settled_behind W (length y.marks) (ms ++ leave k ∷ [])) y.marks g)
      by_parts c made [] r h =
          let bs = settled_behind W 0 ms in
          let z : bs ≡ [] = no_marks (length h.given) bs (reverse f.marks.items) h.marked in
          subst (λ (x : List Bool). Holds p n made x [] g) (sym (none_settled W ms k z)) (none p made (subst (λ (x : List Bool). Holds p n made x [] f) z h))
      by_parts c made (m ∷ marks) r h =
          let bs = settled_behind W (suc (length marks)) ms in
          let s = some_marks (length h.given) bs m marks (reverse f.marks.items) h.marked in
          let l = left_settled W (length marks) ms k s.0 s.1 s.2 in
          let after = call p made s.0 s.1 m marks (subst (λ (x : List Bool). Holds p n made x (m ∷ marks) f) s.2 h) (λ q. l.unsettled (sym d ∙ q)) in
          subst (λ (x : List Bool). Holds p n (if dropped_at W ms (leave k) then take m made else take m made ++ left_with more k c (drop m made)) x marks g) (sym l.others)
          (subst (λ (ps : List Put). Holds p n (if dropped_at W ms (leave k) then take m made else ps) s.1 marks g) (sym (left_made more c k m made rows r))
          (subst (λ (b : Bool). Holds p n (if b then take m made else made ++ rows) s.1 marks g) d after))

      by_marks : (y : Frames Put) (marks : List ℕ) → behind ms ≡ y → y.marks ≡ marks → HoldsBehind p n (ms ++ leave k ∷ []) (one_more ms (leave k)) g
      by_marks y marks q z =
          subst (λ (x : Frames Put). HoldsBehind p n (ms ++ leave k ∷ []) (left (dropped_at W ms (leave k)) x) g) (sym q)
          (by_parts y.context y.made y.marks (rows_of_frames y q) (subst (λ (x : Frames Put). HoldsBehind p n ms x f) q h))

-- ---- rows that fire

pub fired_rows : (ls : List Leaf) (keys : List ℕ) (ts : List Take) (n i : ℕ) (c : Context) → all_fired (readings_at ls keys ts) i c ≡ all_read keys (firing_at keys (Some i) ts) c
fired_rows ls keys ts n i c = fired_read keys (reading_at ls keys) (λ t. refl) (λ t d. refl) ts i c

pub left_rows : (ls : List Leaf) (keys : List ℕ) (ts : List Take) (c : Context) → all_left (readings_at ls keys ts) c ≡ all_read keys (firing_at keys None ts) c
left_rows ls keys ts c = left_read keys (reading_at ls keys) (λ t. refl) (λ t d. refl) ts c

-- where a record is left, and nothing where an instance in it is
pub left_taken : (ls : List Leaf) (keys : List ℕ) (ts : List Take) (f : Firing) (k : ℕ) (c : Context) → Fires (length ls) keys ts f
    → all_read keys (leaving_in f k) c ≡ (if k == 0 then all_left (readings_at ls keys ts) c else [])
left_taken ls keys ts f k c h = by_record (k == 0)
  where
    by_record : (b : Bool) → all_read keys (if b then takings_view f.at_end.items else []) c ≡ (if b then all_left (readings_at ls keys ts) c else [])
    by_record true = ap (λ (us : List Take). all_read keys us c) h.end ∙ sym (left_rows ls keys ts c)
    by_record false = refl

-- ---- a scan behind one more move

pub is_behind : (p : Planned) (ls : List Leaf) (ts : List Take) (ms : List Move) (m : Move) (old new : GroupScan) → IsBehind p ls ts ms old → new.keys ≡ old.keys → new.firing ≡ old.firing
    → watch_in new.condition ≡ watch_in old.condition → HasWatched new.condition (ms ++ m ∷ [])
    → HoldsBehind ls old.keys.now ts (watch_in old.condition) p (length old.keys.now) (ms ++ m ∷ []) (one_more ls old.keys.now ts (watch_in old.condition) ms m) new.frames
    → IsBehind p ls ts (ms ++ m ∷ []) new
is_behind p ls ts ms m old new b k f w h made =
    let keys = old.keys.now in
    let W = watch_in old.condition in
    record {
      fires = subst (λ g. Fires (length ls) g.now ts new.firing) (sym k) (subst (Fires (length ls) keys ts) (sym f) b.fires);
      watched = h;
      made = subst (λ g. HoldsBehind ls g.now ts (watch_in new.condition) p (length g.now) (ms ++ m ∷ []) (behind ls g.now ts (watch_in new.condition) (ms ++ m ∷ [])) new.frames) (sym k)
          (subst (λ V. HoldsBehind ls keys ts V p (length keys) (ms ++ m ∷ []) (behind ls keys ts V (ms ++ m ∷ [])) new.frames) (sym w)
          (subst (λ (x : Frames Put). HoldsBehind ls keys ts W p (length keys) (ms ++ m ∷ []) x new.frames) (sym (framed_snoc (all_fired (readings_at ls keys ts)) (left_with (all_left (readings_at ls keys ts))) W ms m)) made));
    }
