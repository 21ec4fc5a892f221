-- What is made of a course is the walk of some records.
use Rattle.std.proofs.Common.{◌≡◌, ◌⊎◌, inl, inr, ℕ, suc, ◌+◌, List, [], ◌∷◌, ◌++◌, length, Bool, true, false, Option, None, Some, refl, sym, ap, ap₂, subst, ◌∙◌, append_assoc, append-nil, true≢false, arith}
use Rattle.std.specs.Prelude.{◌||◌, if◌then◌else◌, ◌==◌, nat_lt, pos}
use Rattle.std.specs.List.{list_all}
use Rattle.std.specs.Str.{is_utf8, chars}
use Rattle.std.proofs.lemmas.Bool.{eq-eqb, eqb-true}
use Rattle.dr_meaning.specs.Schema.{Repetition, required, optional, repeated, Kind, bool_kind, int32_kind, int64_kind, text_kind, Fields, no_fields, field, Shape, leaf, group, repetition_count, definition_count, shape_repeated_fields}
use Rattle.dr_meaning.specs.Path.{Step}
use Rattle.dr_meaning.specs.Record.{Value, bool_value, int_value, text_value, Node, no_slots, slot, Instances, no_instances, instance, Instance, atom, inner, single, count_instances, fits_repetition, all_instances, is_record, is_instance, is_of_kind}
use Rattle.dr_meaning.specs.Column.{Triplet, triplet}
use Rattle.dr_meaning.specs.Automaton.{Pick, picks, first_picks, later_picks, shape_near_order, shape_far_order}
use Rattle.dr_meaning.specs.Walk.{Move, enter, value, leave, Depth, inside, begun_later, first_of, unless_repeated as walk_unless_repeated, enclosed, later_moves, repeated_moves, by_repetition as walk_by_repetition, where_selected as walk_where_selected, moves_in, near_moves, far_moves, shape_near_moves, shape_far_moves, walk}
use Rattle.dr_moves.specs.Course.{Gate, are_open, comes_to, Give, Visit, Items, nothing, visit, followed_by, first_index, gated, give_each, unless_repeated, where_selected, by_repetition, visit_of, near_items, far_items, field_near_items, shape_near_items, shape_far_items, course}
use Rattle.dr_moves.specs.Turning.{has_its_value, is_value_of, is_no_value}
use Rattle.dr_moves.proofs.Made.{nulls, Made, made_give, made_absent, made_visit, Laps, no_lap, one_lap, MadeRecords, no_record, one_record}
use Rattle.dr_moves.proofs.GateLemmas.{open_reach, open_gated, shut_gated, split, made_none, near_dead, shape_far_dead, no_shape_far_items}
use Rattle.dr_moves.proofs.DeadMoves.{two_parts, shape_near_in_absent, shape_far_in_absent}
use Rattle.dr_moves.proofs.Apart.{AtMostOne, Apart, ShapeApart}

-- ---- what is shown

abbrev pub depth : ℕ → ℕ → ℕ → Depth
depth l r d = record { level = l; repetition = r; definition = d }

pub record NodeMade (fs : Fields) (F : List Pick) (k : ℕ) (at : Depth) (a c : List Move) : Type 0 where
  pub node : Node
  pub is_node : is_record fs node ≡ true
  pub near : near_moves fs F at node ≡ a
  pub far : far_moves fs F k at node ≡ c

pub record OneMade (h : Shape) (F : List Pick) (k : ℕ) (at : Depth) (a c : List Move) : Type 0 where
  pub one : Instance
  pub is_one : is_instance h one ≡ true
  pub near : shape_near_moves h F at (Some one) ≡ a
  pub far : shape_far_moves h F k at (Some one) ≡ c

abbrev pub in_first : Shape → List Pick → ℕ → Depth → Option Instance → List Move
in_first h F k at x = moves_in (shape_near_moves h F) (shape_far_moves h F (suc k)) (inside repeated at x) x

abbrev pub in_later : Shape → List Pick → ℕ → Depth → Option Instance → List Move
in_later h F k at x = moves_in (shape_near_moves h F) (shape_far_moves h F (suc k)) (inside repeated (begun_later at) x) x

abbrev pub slot_far : Repetition → Shape → List Pick → ℕ → Depth → Instances → List Move
slot_far c h F k at xs = walk_where_selected F (walk_by_repetition c
    (repeated_moves k (λ x. moves_in (shape_near_moves h F) (shape_far_moves h F (suc k)) (inside c at x) x) (λ x. moves_in (shape_near_moves h F) (shape_far_moves h F (suc k)) (inside c (begun_later at) x) x))
    (λ x. shape_far_moves h F k (inside c at x) x) xs)

pub record SlotMade (c : Repetition) (h : Shape) (F : List Pick) (k : ℕ) (at : Depth) (a b : List Move) : Type 0 where
  pub slots : Instances
  pub fits : fits_repetition c (count_instances slots) ≡ true
  pub all : all_instances (is_instance h) slots ≡ true
  pub near : walk_unless_repeated c (shape_near_moves h F (inside c at (first_of slots)) (first_of slots)) ≡ a
  pub far : slot_far c h F k at slots ≡ b

abbrev MakesOne : Shape → List Pick → Type 0
MakesOne h F = (k l : ℕ) (G : List Gate) (d r : ℕ) (next : ℕ → ℕ) (a c : List Move) → are_open next G ≡ true → Made (shape_near_items h F G d) r next a → Made (shape_far_items h F k l G d) r next c
    → OneMade h F k (depth l r d) a c

-- ---- instances of a repeated field

enclosed_before : (k : ℕ) (x y a b : List Move) → x ≡ a → y ≡ b → enclosed k x ++ y ≡ enter k ∷ (a ++ leave k ∷ b)
enclosed_before k x y a b p q = rw (p, q) (ap (λ (z : List Move). enter k ∷ z) (append_assoc a (leave k ∷ []) b))

record BodyMade (h : Shape) (F : List Pick) (k : ℕ) (at : Depth) (a : List Move) : Type 0 where
  one : Instance
  is_one : is_instance h one ≡ true
  moves : moves_in (shape_near_moves h F) (shape_far_moves h F k) at (Some one) ≡ a

abbrev pub body : Shape → List Pick → ℕ → ℕ → ℕ → Items
body h F k l d = followed_by (shape_near_items h F [] d) (shape_far_items h F k l [] d)

body_made : (h : Shape) (F : List Pick) → MakesOne h F → (k l d r : ℕ) (next : ℕ → ℕ) (a : List Move) → Made (body h F k l d) r next a → BodyMade h F k (depth l r d) a
body_made h F f k l d r next a m =
    let s = split (shape_near_items h F [] d) (shape_far_items h F k l [] d) r next a m in
    let o = f k l [] d r next s.front s.back refl s.first s.second in
    record { one = o.one; is_one = o.is_one; moves = ap₂ (λ (x y : List Move). x ++ y) o.near o.far ∙ sym s.both }

record LapsMade (h : Shape) (F : List Pick) (k : ℕ) (at : Depth) (b : List Move) : Type 0 where
  slots : Instances
  all : all_instances (is_instance h) slots ≡ true
  moves : later_moves k (in_later h F k at) slots ≡ b

laps_made : (h : Shape) (F : List Pick) (at : Depth) (v : Visit) (I : Items)
    → ((next : ℕ → ℕ) (a : List Move) → Made I v.level next a → BodyMade h F (suc v.number) (inside repeated (begun_later at) (Some (atom (bool_value true)))) a) → (b : List Move) → Laps v I b → LapsMade h F v.number at b
laps_made h F at v I f _ (no_lap _ _) = record { slots = no_instances; all = refl; moves = refl }
laps_made h F at v I f _ (one_lap _ _ next a b m n) =
    let o = f next a m in
    let q = laps_made h F at v I f b n in
    record { slots = instance o.one q.slots; all = rw (o.is_one, q.all) refl; moves = enclosed_before v.number _ _ a b o.moves q.moves }

visit_made : (h : Shape) (p : Pick) (F : List Pick) → MakesOne h (p ∷ F) → (k l : ℕ) (G : List Gate) (d r : ℕ) (next : ℕ → ℕ) (b : List Move) → are_open next G ≡ true
    → Made (visit (visit_of h (p ∷ F) k l G d) (body h (p ∷ F) (suc k) (l + 1) (d + 1)) nothing) r next b → SlotMade repeated h (p ∷ F) k (depth l r d) [] b
visit_made h p F f k l G d r next _ o (made_absent _ _ _ _ _ a m) =
    record {
      slots = no_instances;
      fits = refl;
      all = refl;
      near = refl;
      far = two_parts _ _ (shape_near_order h (p ∷ F)) (shape_far_order h (p ∷ F)) r d (shape_near_in_absent h (p ∷ F) (depth (l + 1) r d)) (shape_far_in_absent h (p ∷ F) (suc k) (depth (l + 1) r d))
          ∙ sym (ap₂ (λ (x : ℕ) (y : List Move). nulls (shape_near_order h (p ∷ F) ++ shape_far_order h (p ∷ F)) r x ++ y) (open_reach next G d o) (made_none r next a m) ∙ append-nil _);
    }
visit_made h p F f k l G d r next _ o (made_visit _ _ _ _ _ after a b c s m n q) =
    let x = body_made h (p ∷ F) f (suc k) (l + 1) (d + 1) r after a m in
    let y = laps_made h (p ∷ F) (depth l r d) (visit_of h (p ∷ F) k l G d) (body h (p ∷ F) (suc k) (l + 1) (d + 1)) (λ next a m. body_made h (p ∷ F) f (suc k) (l + 1) (d + 1) (suc l) next a m) b n in
    let z : b ++ c ≡ b = ap (λ (w : List Move). b ++ w) (made_none r next c q) ∙ append-nil b in
    record {
      slots = instance x.one y.slots;
      fits = refl;
      all = rw (x.is_one, y.all) refl;
      near = refl;
      far = enclosed_before k _ _ a b x.moves y.moves ∙ ap (λ (w : List Move). enter k ∷ (a ++ leave k ∷ w)) (sym z);
    }

-- ---- a leaf

pub some_value : (k : Kind) → (v : Value) × (is_of_kind k v ≡ true)
unfolding is_utf8 chars
some_value bool_kind = (bool_value true, refl)
some_value int32_kind = (int_value (pos 0), refl)
some_value int64_kind = (int_value (pos 0), refl)
some_value text_kind = (text_value [], refl)

one_or_other : (a b : Bool) → (a || b) ≡ true → (a ≡ true) ⊎ (b ≡ true)
one_or_other true b h = inl refl
one_or_other false b h = inr h

-- a leaf that may come has one of its two definition levels, and a value exactly at the greater
data LeafGiven (k : Kind) (r low full : ℕ) (t : Triplet) : Type 0 where
  with_value : (v : Value) → is_of_kind k v ≡ true → t ≡ triplet r full (Some v) → LeafGiven k r low full t
  without : t ≡ triplet r low None → LeafGiven k r low full t

leaf_given : (g : Give) (r : ℕ) (next : ℕ → ℕ) (t : Triplet) → are_open next g.gates ≡ true → t.repetition ≡ r → comes_to next g t.definition ≡ true → has_its_value g t ≡ true → LeafGiven g.kind r g.low g.full t
leaf_given g r next t o p q h = by_full (t.definition == g.full) refl h
  where
    either : (t.definition ≡ g.low) ⊎ (t.definition ≡ g.full)
    either = let z : ((t.definition == g.low) || (t.definition == g.full)) ≡ true = (rw o at q) in by_side (one_or_other (t.definition == g.low) (t.definition == g.full) z)
      where
        by_side : ((t.definition == g.low) ≡ true) ⊎ ((t.definition == g.full) ≡ true) → (t.definition ≡ g.low) ⊎ (t.definition ≡ g.full)
        by_side (inl e) = inl (eqb-true t.definition g.low e)
        by_side (inr e) = inr (eqb-true t.definition g.full e)

    some_value_there : (w : Option Value) → t.value ≡ w → is_value_of g.kind w ≡ true → (v : Value) × (is_of_kind g.kind v ≡ true) × (t.value ≡ Some v)
    some_value_there None e x = absurd (true≢false (sym x))
    some_value_there (Some v) e x = (v, x, e)

    no_value_there : (w : Option Value) → is_no_value w ≡ true → w ≡ None
    no_value_there None h = refl
    no_value_there (Some v) h = absurd (true≢false (sym h))

    three : (d : ℕ) (w : Option Value) → t.definition ≡ d → t.value ≡ w → t ≡ triplet r d w
    three d w x y = ap₂ (λ (m n : ℕ). triplet m n t.value) p x ∙ ap (λ (z : Option Value). triplet r d z) y

    by_full : (b : Bool) → (t.definition == g.full) ≡ b → (if b then is_value_of g.kind t.value else is_no_value t.value) ≡ true → LeafGiven g.kind r g.low g.full t
    by_full true e x = let v = some_value_there t.value refl x in with_value v.0 v.1 (three g.full (Some v.0) (eqb-true t.definition g.full e) v.2)
    by_full false e x = by_side either
      where
        by_side : (t.definition ≡ g.low) ⊎ (t.definition ≡ g.full) → LeafGiven g.kind r g.low g.full t
        by_side (inl y) = without (three g.low None y (no_value_there t.value x))
        by_side (inr y) = absurd (true≢false (sym (eq-eqb t.definition g.full y) ∙ e))

-- a required leaf has a value
value_given : (k : Kind) (i : ℕ) (G : List Gate) (d r : ℕ) (next : ℕ → ℕ) (t : Triplet) → are_open next G ≡ true → t.repetition ≡ r → comes_to next (record { leaf = i; kind = k; gates = G; low = d; full = d }) t.definition ≡ true
    → has_its_value (record { leaf = i; kind = k; gates = G; low = d; full = d }) t ≡ true → (v : Value) × (is_of_kind k v ≡ true) × (t ≡ triplet r d (Some v))
value_given k i G d r next t o p q h = by_given (leaf_given (record { leaf = i; kind = k; gates = G; low = d; full = d }) r next t o p q h)
  where
    by_given : LeafGiven k r d d t → (v : Value) × (is_of_kind k v ≡ true) × (t ≡ triplet r d (Some v))
    by_given (with_value v x e) = (v, x, e)
    by_given (without e) =
        let n : (t.definition == d) ≡ true = eq-eqb t.definition d (ap (λ (x : Triplet). x.definition) e) in
        let y : is_value_of k t.value ≡ true = (rw n at h) in
        absurd (true≢false (sym y ∙ ap (λ (x : Triplet). is_value_of k x.value) e))

leaf_made : (k : Kind) (F : List Pick) → AtMostOne F → MakesOne (leaf k) F
leaf_made k [] u j l G d r next a c o m n = let v = some_value k in record { one = atom v.0; is_one = v.1; near = sym (made_none r next a m); far = sym (made_none r next c n) }
leaf_made k (f ∷ []) u j l G d r next _ c o (made_give _ _ _ _ t a p q h m) n = let v = value_given k f.index G d r next t o p q h in
    record { one = atom v.0; is_one = v.1; near = ap₂ (λ (x : Triplet) (y : List Move). value f.index x ∷ y) (sym v.2) (sym (made_none r next a m)); far = sym (made_none r next c n) }
leaf_made k (f ∷ g ∷ F) u j l G d r next a c o m n = absurd u

-- an optional one may have none
optional_made : (k : Kind) (F : List Pick) → AtMostOne F → (j l : ℕ) (G : List Gate) (d r : ℕ) (next : ℕ → ℕ) (a b : List Move) → are_open next G ≡ true → Made (give_each k F G d (d + 1)) r next a → Made nothing r next b → SlotMade optional (leaf k) F j (depth l r d) a b
optional_made k [] u j l G d r next a b o m n = record { slots = no_instances; fits = refl; all = refl; near = sym (made_none r next a m); far = sym (made_none r next b n) }
optional_made k (f ∷ []) u j l G d r next _ b o (made_give _ _ _ _ t a p q h m) n = by_given (leaf_given (record { leaf = f.index; kind = k; gates = G; low = d; full = d + 1 }) r next t o p q h)
  where
    by_given : LeafGiven k r d (d + 1) t → SlotMade optional (leaf k) (f ∷ []) j (depth l r d) (value f.index t ∷ a) b
    by_given (with_value v x e) = record { slots = single (atom v); fits = refl; all = rw x refl; near = ap₂ (λ (x : Triplet) (y : List Move). value f.index x ∷ y) (sym e) (sym (made_none r next a m)); far = sym (made_none r next b n) }
    by_given (without e) = record { slots = no_instances; fits = refl; all = refl; near = ap₂ (λ (x : Triplet) (y : List Move). value f.index x ∷ y) (sym e) (sym (made_none r next a m)); far = sym (made_none r next b n) }
optional_made k (f ∷ g ∷ F) u j l G d r next a b o m n = absurd u

-- ---- a field

some_far : (B : List Pick) (I : Items) (r : ℕ) (next : ℕ → ℕ) (b : List Move) → (B ≡ [] → I ≡ nothing) → Made (where_selected B I) r next b → Made I r next b
some_far [] I r next b e m = subst (λ (x : Items). Made x r next b) (sym (e refl)) m
some_far (p ∷ F) I r next b e m = m

selected_far : (B : List Pick) (I : Items) (r : ℕ) (next : ℕ → ℕ) (b x : List Move) → Made (where_selected B I) r next b → x ≡ b → walk_where_selected B x ≡ b
selected_far [] I r next b x m e = sym (made_none r next b m)
selected_far (p ∷ F) I r next b x m e = e

none_far : (h : Shape) (B : List Pick) (k l : ℕ) (G : List Gate) (d : ℕ) → B ≡ [] → shape_far_items h B k l G d ≡ nothing
none_far h B k l G d e = rw e (no_shape_far_items h k l G d)

pub required_items : (h : Shape) (B : List Pick) (G : List Gate) (d : ℕ) → field_near_items required h B G d ≡ shape_near_items h B G (d + 0)
required_items (leaf k) B G d = refl
required_items (group fs) B G d = refl

slot_made : (c : Repetition) (h : Shape) (B : List Pick) → ShapeApart h B → MakesOne h B → (k l : ℕ) (G : List Gate) (d r : ℕ) (next : ℕ → ℕ) (a b : List Move) → are_open next G ≡ true
    → Made (unless_repeated c (field_near_items c h B G d)) r next a
    → Made (where_selected B (by_repetition c (visit (visit_of h B k l G d) (body h B (suc k) (l + repetition_count c) (d + definition_count c)) nothing) (shape_far_items h B k (l + repetition_count c) (gated c B d G) (d + definition_count c)))) r next b
    → SlotMade c h B k (depth l r d) a b
slot_made required h B u f k l G d r next a b o m n =
    let x = f k (l + 0) G (d + 0) r next a b o (subst (λ (y : Items). Made y r next a) (required_items h B G d) m) (some_far B _ r next b (none_far h B k (l + 0) G (d + 0)) n) in
    record { slots = single x.one; fits = refl; all = rw x.is_one refl; near = x.near; far = selected_far B _ r next b _ n x.far }
slot_made optional (leaf w) B u f k l G d r next a b o m n = optional_made w B u k l G d r next a b o m (some_far B _ r next b (λ e. refl) n)
slot_made optional (group fs) B u f k l G d r next a b o m n = by_bit (nat_lt d (next (first_index B))) refl
  where
    by_bit : (t : Bool) → nat_lt d (next (first_index B)) ≡ t → SlotMade optional (group fs) B k (depth l r d) a b
    by_bit true e =
        let x = f k (l + 0) (gated optional B d G) (d + 1) r next a b (open_gated next G (record { leaf = first_index B; definition = d }) o e) m (some_far B _ r next b (none_far (group fs) B k (l + 0) (gated optional B d G) (d + 1)) n) in
        record { slots = single x.one; fits = refl; all = rw x.is_one refl; near = x.near; far = selected_far B _ r next b _ n x.far }
    by_bit false e =
        let s = shut_gated next G (record { leaf = first_index B; definition = d }) o e in
        record {
          slots = no_instances;
          fits = refl;
          all = refl;
          near = shape_near_in_absent (group fs) B (depth (l + 0) r d) ∙ sym (near_dead fs B (gated optional B d G) (d + 1) r next d a s (omega arith) m);
          far = selected_far B _ r next b _ n (shape_far_in_absent (group fs) B k (depth (l + 0) r d)
              ∙ sym (shape_far_dead (group fs) B r next d k (l + 0) (gated optional B d G) (d + 1) b s (omega arith) (some_far B _ r next b (none_far (group fs) B k (l + 0) (gated optional B d G) (d + 1)) n)));
        }
slot_made repeated h [] u f k l G d r next a b o m n = record { slots = no_instances; fits = refl; all = refl; near = sym (made_none r next a m); far = sym (made_none r next b n) }
slot_made repeated h (p ∷ F) u f k l G d r next a b o m n = let x = visit_made h p F f k l G d r next b o n in
    record { slots = x.slots; fits = x.fits; all = x.all; near = sym (made_none r next a m); far = x.far }

-- ---- groups

mutual
  pub node_made : (fs : Fields) (F : List Pick) → Apart fs F → (k l : ℕ) (G : List Gate) (d r : ℕ) (next : ℕ → ℕ) (a c : List Move) → are_open next G ≡ true → Made (near_items fs F G d) r next a → Made (far_items fs F k l G d) r next c
      → NodeMade fs F k (depth l r d) a c
  node_made no_fields F u k l G d r next a c o m n = record { node = no_slots; is_node = refl; near = sym (made_none r next a m); far = sym (made_none r next c n) }
  node_made (field w c h fs) F u k l G d r next a b o m n =
      let s = split (unless_repeated c (field_near_items c h (first_picks F) G d)) (near_items fs (later_picks F) G d) r next a m in
      let t = split (where_selected (first_picks F) (by_repetition c (visit (visit_of h (first_picks F) k l G d) (body h (first_picks F) (suc k) (l + repetition_count c) (d + definition_count c)) nothing)
      (shape_far_items h (first_picks F) k (l + repetition_count c) (gated c (first_picks F) d G) (d + definition_count c)))) (far_items fs (later_picks F) (k + (repetition_count c + shape_repeated_fields h)) l G d) r next b n in
      let x = slot_made c h (first_picks F) u.0 (one_made h (first_picks F) u.0) k l G d r next s.front t.front o s.first t.first in
      let y = node_made fs (later_picks F) u.1 (k + (repetition_count c + shape_repeated_fields h)) l G d r next s.back t.back o s.second t.second in
      record {
        node = slot x.slots y.node;
        is_node = rw (x.fits, x.all, y.is_node) refl;
        near = ap₂ (λ (p q : List Move). p ++ q) x.near y.near ∙ sym s.both;
        far = ap₂ (λ (p q : List Move). p ++ q) x.far y.far ∙ sym t.both;
      }

  pub one_made : (h : Shape) (F : List Pick) → ShapeApart h F → MakesOne h F
  one_made (leaf k) F u j l G d r next a c o m n = leaf_made k F u j l G d r next a c o m n
  one_made (group fs) F u j l G d r next a c o m n = let x = node_made fs F u j l G d r next a c o m n in
      record { one = inner x.node; is_one = x.is_node; near = x.near; far = x.far }

-- ---- records

pub record RecordsMade (fs : Fields) (F : List (List Step)) (n : ℕ) (ms : List Move) : Type 0 where
  pub records : List Node
  pub are_records : list_all (is_record fs) records ≡ true
  pub as_many : length records ≡ n
  pub moves : walk fs F records ≡ ms

pub records_made : (fs : Fields) (F : List (List Step)) → Apart fs (picks F) → (n : ℕ) (ms : List Move) → MadeRecords (course fs F) n ms → RecordsMade fs F n ms
unfolding walk
records_made fs F u _ _ no_record = record { records = []; are_records = refl; as_many = refl; moves = refl }
records_made fs F u _ _ (one_record n next a b m q) =
    let s = split (near_items fs (picks F) [] 0) (far_items fs (picks F) 1 0 [] 0) 0 next a m in
    let x = node_made fs (picks F) u 1 0 [] 0 0 next s.front s.back refl s.first s.second in
    let y = records_made fs F u n b q in
    record {
      records = x.node ∷ y.records;
      are_records = rw (x.is_node, y.are_records) refl;
      as_many = ap suc y.as_many;
      moves = enclosed_before 0 _ _ a b (ap₂ (λ (p q : List Move). p ++ q) x.near x.far ∙ sym s.both) y.moves;
    }
