-- Strips whose paths are in schema order come field after field, at every depth: what is assembled of them is what is restored of them.
use Rattle.std.proofs.Common.{◌≡◌, ℕ, zero, suc, ◌+◌, ◌<◌, ◌≤◌, List, [], ◌∷◌, Bool, true, false, Option, None, refl, sym, ap, ap₂, ◌∙◌, subst, arith}
use Rattle.std.specs.Prelude.{◌==◌, if◌then◌else◌, option_map}
use Rattle.std.proofs.lemmas.Bool.Decides.{nat_tests}
use Rattle.dr_meaning.specs.Schema.{Repetition, required, optional, repeated, Fields, no_fields, field, Shape, leaf, group, repetition_count, definition_count}
use Rattle.dr_meaning.specs.Path.{Step}
use Rattle.dr_meaning.specs.Record.{Node, Instance, inner}
use Rattle.dr_meaning.specs.Column.{Triplet}
use Rattle.dr_assemble.specs.Restoring.{Strip, strip, front_if, front_at, after_if, after_front, first_pieces, other_pieces, before, restored_each, unless_absent, restored_instances, restored_slot, slot_before, assembled, assembled_one, has_rows, assembled_records, rests}
use Rattle.dr_assemble.proofs.ByPaths.{strips_here, strips_there, restored, restored_one, restored_records}
use Rattle.dr_assemble.proofs.PlaceLemmas.{at_if, at_place, shifted, here_shifted}
use Rattle.dr_assemble.proofs.FillingLemmas.{rests-here, rests-there, rests-first, rests-other}
use Rattle.dr_assemble.specs.Ordered.{HeadsFrom, EachOrdered, OrderedIn}

-- ---- paths in order

pub heads_weaken : (b c : ℕ) (F : List (List Step)) → b ≤ c → HeadsFrom c F → HeadsFrom b F
heads_weaken b c [] h g = tt
heads_weaken b c ([] ∷ F) h g = absurd g
heads_weaken b c ((s ∷ p) ∷ F) h g = let k : b ≤ s.place = omega (arith, g.0) in (k, g.1)

apart : (a k : ℕ) → k ≤ a → (a == k) ≡ false → k < a
apart a k h e = grind (arith, nat_tests)

same_place : (a k : ℕ) → (a == k) ≡ true → a ≡ k
same_place a k e = grind (arith, nat_tests)

other_place : (a k : ℕ) → k < a → (a == k) ≡ false
other_place a k h = grind (arith, nat_tests)

-- ---- the front of strips in order are those in the field at the place

none_if : (k b : ℕ) (p : List Step) (ts : List Triplet) (S : List Strip) → ((c : ℕ) → k < c → HeadsFrom c (rests S) → at_place k S ≡ []) → k < b → HeadsFrom b (p ∷ rests S) → at_if k p ts (at_place k S) ≡ []
none_if k b [] ts S none h g = absurd g
none_if k b (s ∷ p) ts S none h g =
    let later : k < s.place = omega (arith, g.0) in
    rw (other_place s.place k later) (none s.place later g.1)

none_at : (k b : ℕ) (S : List Strip) → k < b → HeadsFrom b (rests S) → at_place k S ≡ []
none_at k b [] h g = refl
none_at k b (x ∷ S) h g = none_if k b x.rest x.triplets S (λ (c : ℕ) (i : k < c) (j : HeadsFrom c (rests S)). none_at k c S i j) h g

front_by : (b : Bool) (q : List Step) (ts : List Triplet) (A B : List Strip) → A ≡ B → (b ≡ false → B ≡ []) → (if b then strip q ts ∷ A else []) ≡ (if b then strip q ts ∷ B else B)
front_by true q ts A B e h = ap (λ (U : List Strip). strip q ts ∷ U) e
front_by false q ts A B e h = sym (h refl)

front_if-is : (k : ℕ) (p : List Step) (ts : List Triplet) (S : List Strip) → (HeadsFrom k (rests S) → front_at k S ≡ at_place k S) → HeadsFrom k (p ∷ rests S) → front_if k p ts (front_at k S) ≡ at_if k p ts (at_place k S)
front_if-is k [] ts S later h = absurd h
front_if-is k (s ∷ p) ts S later h =
    front_by (s.place == k) p ts (front_at k S) (at_place k S) (later (heads_weaken k s.place (rests S) h.0 h.1))
    (λ (e : (s.place == k) ≡ false). none_at k s.place S (apart s.place k h.0 e) h.1)

front-is : (k : ℕ) (S : List Strip) → HeadsFrom k (rests S) → front_at k S ≡ at_place k S
front-is k [] h = refl
front-is k (g ∷ S) h = front_if-is k g.rest g.triplets S (front-is k S) h

-- ---- what is behind the front

after_by : (b : Bool) (c : ℕ) (A B : List Strip) → (b ≡ true → HeadsFrom c (rests A)) → (b ≡ false → HeadsFrom c (rests B)) → HeadsFrom c (rests (if b then A else B))
after_by true c A B h g = h refl
after_by false c A B h g = g refl

after_if-heads : (k : ℕ) (p : List Step) (g : Strip) (S : List Strip) → p ≡ g.rest → (HeadsFrom k (rests S) → HeadsFrom (suc k) (rests (after_front k S))) → HeadsFrom k (p ∷ rests S)
    → HeadsFrom (suc k) (rests (after_if k p (after_front k S) (g ∷ S)))
after_if-heads k [] g S e later h = absurd h
after_if-heads k (s ∷ p) g S e later h =
    after_by (s.place == k) (suc k) (after_front k S) (g ∷ S) (λ (t : (s.place == k) ≡ true). later (heads_weaken k s.place (rests S) h.0 h.1))
    (λ (t : (s.place == k) ≡ false).
    let more : suc k ≤ s.place = omega (arith, apart s.place k h.0 t) in
    let first : HeadsFrom (suc k) ((s ∷ p) ∷ rests S) = (more, h.1) in
    subst (λ (q : List Step). HeadsFrom (suc k) (q ∷ rests S)) e first)

heads_after : (k : ℕ) (S : List Strip) → HeadsFrom k (rests S) → HeadsFrom (suc k) (rests (after_front k S))
heads_after k [] h = tt
heads_after k (g ∷ S) h = after_if-heads k g.rest g S refl (heads_after k S) h

shifted_there : (k : ℕ) (S : List Strip) → shifted k (strips_there S) ≡ strips_there (shifted k S)
shifted_there zero S = refl
shifted_there (suc k) S = ap strips_there (shifted_there k S)

-- a strip in an earlier field is not among those in later ones
gone : (k i : ℕ) (r : Repetition) (p : List Step) (ts : List Triplet) (S : List Strip) → i ≤ k → shifted (suc k) (strip (record { place = i; repetition = r } ∷ p) ts ∷ S) ≡ shifted (suc k) S
gone k zero r p ts S h = sym (shifted_there k (strip (record { place = zero; repetition = r } ∷ p) ts ∷ S)) ∙ shifted_there k S
gone zero (suc i) r p ts S h = absurd (omega arith)
gone (suc k) (suc i) r p ts S h =
    let less : i ≤ k = omega arith in
    sym (shifted_there (suc k) (strip (record { place = suc i; repetition = r } ∷ p) ts ∷ S)) ∙ gone k i r p ts (strips_there S) less ∙ shifted_there (suc k) S

shifted_by : (b : Bool) (k : ℕ) (A B S : List Strip) → (b ≡ true → shifted k A ≡ shifted k S) → shifted k B ≡ shifted k S → shifted k (if b then A else B) ≡ shifted k S
shifted_by true k A B S h g = h refl
shifted_by false k A B S h g = g

after_if-shifted : (k : ℕ) (p : List Step) (ts : List Triplet) (S : List Strip) → shifted (suc k) (after_front k S) ≡ shifted (suc k) S → shifted (suc k) (after_if k p (after_front k S) (strip p ts ∷ S)) ≡ shifted (suc k) (strip p ts ∷ S)
after_if-shifted k [] ts S later = refl
after_if-shifted k (s ∷ p) ts S later =
    shifted_by (s.place == k) (suc k) (after_front k S) (strip (s ∷ p) ts ∷ S) (strip (s ∷ p) ts ∷ S)
    (λ (t : (s.place == k) ≡ true).
    let same : s.place ≤ k = omega (arith, same_place s.place k t) in
    later ∙ sym (gone k s.place s.repetition p ts S same))
    refl

shifted_after : (k : ℕ) (S : List Strip) → shifted (suc k) (after_front k S) ≡ shifted (suc k) S
shifted_after k [] = refl
shifted_after k (g ∷ S) = after_if-shifted k g.rest g.triplets S (shifted_after k S)

-- ---- functions that agree on strips of the same paths

abbrev Agree : {A : Type 0} → (List Strip → Option A) → (List Strip → Option A) → List Strip → Type 0
Agree f g S = (T : List Strip) → rests T ≡ rests S → f T ≡ g T

each_same : {A : Type 0} (f g : List Strip → Option A) (l n : ℕ) (S : List Strip) → Agree f g S → restored_each f l n S ≡ restored_each g l n S
each_same f g l zero S h = refl
each_same f g l (suc n) S h =
    ap₂ before (h (first_pieces l S) (rests-first l S)) (each_same f g l n (other_pieces l S) (λ (T : List Strip) (e : rests T ≡ rests (other_pieces l S)). h T (e ∙ rests-other l S)))

instances_same : (r : Repetition) (f g : List Strip → Option Instance) (l d : ℕ) (ts : List Triplet) (S : List Strip) → Agree f g S → restored_instances r f l d ts S ≡ restored_instances r g l d ts S
instances_same required f g l d ts S h = ap (option_map (λ x. x ∷ [])) (h S refl)
instances_same optional f g l d ts S h = ap (λ (o : Option Instance). unless_absent d ts (option_map (λ x. x ∷ []) o)) (h S refl)
instances_same repeated f g l d ts S h = ap (unless_absent d ts) (each_same f g l _ S h)

slot_same : (r : Repetition) (f g : List Strip → Option Instance) (l d : ℕ) (S : List Strip) → Agree f g S → restored_slot r f l d S ≡ restored_slot r g l d S
slot_same r f g l d [] h = refl
slot_same r f g l d (x ∷ S) h = ap (option_map _) (instances_same r f g l d x.triplets (x ∷ S) h)

-- ---- what is assembled is what is restored

mutual
  assembled_agrees : (fs : Fields) (k l d : ℕ) (S : List Strip) → HeadsFrom k (rests S) → EachOrdered fs (rests (shifted k S)) → assembled fs k l d S ≡ restored fs l d (shifted k S)
  assembled_agrees no_fields k l d S h e = refl
  assembled_agrees (field m r s fs) k l d S h e =
      let il : ℕ = l + repetition_count r in
      let id : ℕ = d + definition_count r in
      let front : front_at k S ≡ strips_here (shifted k S) = front-is k S h ∙ sym (here_shifted k S) in
      let later : shifted (suc k) (after_front k S) ≡ strips_there (shifted k S) = shifted_after k S in
      let ordered : EachOrdered fs (rests (shifted (suc k) (after_front k S))) =
      subst (EachOrdered fs) (sym (ap rests later ∙ rests-there (shifted k S))) e.1 in
      ap₂ slot_before
      (ap (restored_slot r (assembled_one s il id) il d) front
      ∙ slot_same r (assembled_one s il id) (restored_one s il id) il d (strips_here (shifted k S))
      (λ (T : List Strip) (g : rests T ≡ rests (strips_here (shifted k S))). one_agrees s il id T (subst (OrderedIn s) (sym (g ∙ rests-here (shifted k S))) e.0)))
      (assembled_agrees fs (suc k) l d (after_front k S) (heads_after k S h) ordered ∙ ap (restored fs l d) later)

  one_agrees : (s : Shape) (l d : ℕ) (S : List Strip) → OrderedIn s (rests S) → assembled_one s l d S ≡ restored_one s l d S
  one_agrees (leaf k) l d S h = refl
  one_agrees (group fs) l d S h = ap (option_map inner) (assembled_agrees fs 0 l d S h.0 h.1)

pub records_agree : (fs : Fields) (rows : ℕ) (S : List Strip) → OrderedIn (group fs) (rests S) → assembled_records fs rows S ≡ restored_records fs rows S
records_agree fs rows S h =
    ap (λ (o : Option (List Node)). if has_rows rows S then o else None)
    (each_same (assembled fs 0 0 0) (restored fs 0 0) 0 rows S
    (λ (T : List Strip) (e : rests T ≡ rests S). let g : OrderedIn (group fs) (rests T) = subst (OrderedIn (group fs)) (sym e) h in assembled_agrees fs 0 0 0 T g.0 g.1))
