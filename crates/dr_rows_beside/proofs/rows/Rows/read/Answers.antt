use Rattle.std.proofs.Common.{◌≡◌, ◌∙◌, ◌++◌, List, map, length, ap, ap₂, sym, arith, take, drop, ℕ}
use Rattle.std.specs.Prelude.{slice_set, Option}
use Rattle.std.proofs.Math.ListN.{length-set}
use Rattle.dr_meaning.specs.Record.{Value}
use Rattle.dr_rows_beside.specs.declared.place.Place.{Place}
use Rattle.dr_rows_beside.specs.Places.{place_left}
use Rattle.dr_rows_beside.specs.Rows.{Follower, follower_view, slots_view, put_each, stepped}
use Rattle.dr_rows_beside.proofs.RowLemmas.{kept_items, level_is, row_passed, fed_on, steps_now, set_seen}
use Rattle.dr_rows_beside.proofs.rows.Rows.read.Goals as goal

pub follow_each-requires : goal.follow_each-requires
follow_each-requires c =
    let s = c.args.self.now in
    let p = c.next-value.ensures.passes in
    let same : length s.slots.items ≡ length c.as_mut_slice-in-Some.result.now =
    sym (ap length c.as_mut_slice-in-Some.ensures.value ∙ length-set s.slots.items c.next-value.new.self.leaf c.next-value.result) in
    steps_now c.in-Some.repetition (length s.slots.items) (length c.as_mut_slice-in-Some.result.now) (map follower_view s.beside.items) (map follower_view c.as_mut_slice.result.now)
    (place_left s.own) (place_left c.next-value.new.self) p.0 p.1 (level_is c.in-Some.repetition (place_left s.own) (place_left c.next-value.new.self) p.0 c.in-Some.ensures p.1)
    same (ap (map follower_view) c.as_mut_slice.ensures.value) s.fed

pub invariant_of-self-in-Some : goal.invariant_of-self-in-Some
invariant_of-self-in-Some c =
    let s = c.args.self.now in
    let p = c.next-value.ensures.passes in
    let items = slice_set s.slots.items c.next-value.new.self.leaf c.next-value.result in
    let S = c.follow_each.new.slots in
    let B = c.follow_each.new.beside in
    let sl : length items ≡ length s.slots.items = length-set s.slots.items c.next-value.new.self.leaf c.next-value.result in
    let long : length S ≡ length items = c.follow_each.auto.slots ∙ ap length c.as_mut_slice-in-Some.ensures.value in
    let wide : length B ≡ length s.beside.items = c.follow_each.auto.beside ∙ ap length c.as_mut_slice.ensures.value in
    let slots : take s.slots.len (S ++ drop (length S) items) ≡ S = kept_items s.slots.len S items (omega (arith, s.slots.ok.0, sl)) long in
    let beside : take s.beside.len (B ++ drop (length B) s.beside.items) ≡ B = kept_items s.beside.len B s.beside.items (omega (arith, s.beside.ok.0)) wide in
    let same : length s.slots.items ≡ length (take s.slots.len (S ++ drop (length S) items)) = sym (ap length slots ∙ long ∙ sl) in
    record {
      own_slot = omega (arith, same, c.next-value.ensures.leaf, s.own_slot);
      fed = fed_on c.in-Some.repetition (length s.slots.items) (length (take s.slots.len (S ++ drop (length S) items))) (map follower_view s.beside.items) (map follower_view (take s.beside.len (B ++ drop (length B) s.beside.items)))
          (place_left s.own) (place_left c.next-value.new.self) p.0 p.1 (level_is c.in-Some.repetition (place_left s.own) (place_left c.next-value.new.self) p.0 c.in-Some.ensures p.1)
          same (ap (map follower_view) beside ∙ c.follow_each.ensures.places ∙ ap (λ (ps : List Place). map (stepped c.in-Some.repetition) (map follower_view ps)) c.as_mut_slice.ensures.value) s.fed;
    }

pub returns-in-Some-clause-row : goal.returns-in-Some-clause-row
returns-in-Some-clause-row c =
    let s = c.args.self.now in
    let p = c.next-value.ensures.passes in
    let r = c.in-Some.repetition in
    let leaf = c.next-value.new.self.leaf in
    let items = slice_set s.slots.items leaf c.next-value.result in
    let S = c.follow_each.new.slots in
    let B = c.follow_each.new.beside in
    let sl : length items ≡ length s.slots.items = length-set s.slots.items leaf c.next-value.result in
    let long : length S ≡ length items = c.follow_each.auto.slots ∙ ap length c.as_mut_slice-in-Some.ensures.value in
    let wide : length B ≡ length s.beside.items = c.follow_each.auto.beside ∙ ap length c.as_mut_slice.ensures.value in
    let slots : take s.slots.len (S ++ drop (length S) items) ≡ S = kept_items s.slots.len S items (omega (arith, s.slots.ok.0, sl)) long in
    let beside : take s.beside.len (B ++ drop (length B) s.beside.items) ≡ B = kept_items s.beside.len B s.beside.items (omega (arith, s.beside.ok.0)) wide in
    let F = map follower_view s.beside.items in
    let V = slots_view s.slots.items in
    let put : slots_view c.as_mut_slice-in-Some.result.now ≡ slice_set V s.own.leaf (p.0).value =
    ap slots_view c.as_mut_slice-in-Some.ensures.value ∙ set_seen s.slots.items leaf c.next-value.result ∙ ap₂ (λ (k : ℕ) (v : Option Value). slice_set V k v) c.next-value.ensures.leaf (sym p.2) in
    row_passed s.own.leaf leaf r F (map follower_view (take s.beside.len (B ++ drop (length B) s.beside.items))) V (slots_view (take s.slots.len (S ++ drop (length S) items)))
    (place_left s.own) (place_left c.next-value.new.self) p.0 p.1 (level_is r (place_left s.own) (place_left c.next-value.new.self) p.0 c.in-Some.ensures p.1) c.next-value.ensures.leaf
    (ap (map follower_view) beside ∙ c.follow_each.ensures.places ∙ ap (λ (ps : List Place). map (stepped r) (map follower_view ps)) c.as_mut_slice.ensures.value)
    (ap slots_view slots ∙ c.follow_each.ensures.slots ∙ ap₂ (λ (fs : List Follower) (vs : List (Option Value)). put_each r fs vs) (ap (map follower_view) c.as_mut_slice.ensures.value) put)
