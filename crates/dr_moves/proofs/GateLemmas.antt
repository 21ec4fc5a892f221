-- Gates that are open or shut, and what is made behind shut ones.
use Rattle.std.proofs.Common.{◌≡◌, ℕ, suc, ◌+◌, ◌<◌, ◌≤◌, List, [], ◌∷◌, ◌++◌, Bool, true, false, ◌&&◌, Option, None, Some, refl, sym, ap, ap₂, ◌∙◌, append_assoc, append-nil, true≢false, arith}
use Rattle.std.specs.Prelude.{◌==◌, nat_lt, if◌then◌else◌}
use Rattle.std.proofs.lemmas.Bool.{and_parts, ne_eqb, eqb-true}
use Rattle.dr_meaning.specs.Schema.{Repetition, required, optional, repeated, Kind, Fields, no_fields, field, Shape, leaf, group, repetition_count, definition_count, shape_repeated_fields}
use Rattle.dr_meaning.specs.Record.{Value}
use Rattle.dr_meaning.specs.Column.{Triplet, triplet}
use Rattle.dr_meaning.specs.Automaton.{Pick, first_picks, later_picks, indexes, near_order, far_order, shape_near_order, shape_far_order, unless_repeated as order_unless_repeated, where_repeated}
use Rattle.dr_meaning.specs.Walk.{Move, enter, value, leave}
use Rattle.dr_moves.specs.Course.{Gate, reach, are_open, comes_to, low_in, Give, Visit, Items, nothing, give, visit, followed_by, gated, give_each, unless_repeated, where_selected, by_repetition, visit_of, near_items, far_items, field_near_items, shape_near_items, shape_far_items}
use Rattle.dr_moves.specs.Turning.{has_its_value, is_no_value}
use Rattle.dr_moves.proofs.Made.{nulls, Made, made_nothing, made_give, made_absent, made_visit}

-- ---- gates

pub record Shut (next : ℕ → ℕ) (G : List Gate) (e : ℕ) : Type 0 where
  pub shut : are_open next G ≡ false
  pub reached : (full : ℕ) → reach next G full ≡ e

still_shut : (next : ℕ → ℕ) (G H : List Gate) → are_open next G ≡ false → are_open next (G ++ H) ≡ false
still_shut next [] H h = absurd (true≢false h)
still_shut next (g ∷ G) H h = by_bit (nat_lt g.definition (next g.leaf)) (are_open next G) (are_open next (G ++ H)) h (still_shut next G H)
  where
    by_bit : (b x y : Bool) → (b && x) ≡ false → (x ≡ false → y ≡ false) → (b && y) ≡ false
    by_bit true x y h f = f h
    by_bit false x y h f = refl

still_reached : (next : ℕ → ℕ) (G H : List Gate) (m n : ℕ) → are_open next G ≡ false → reach next (G ++ H) m ≡ reach next G n
still_reached next [] H m n h = absurd (true≢false h)
still_reached next (g ∷ G) H m n h = by_bit (nat_lt g.definition (next g.leaf)) (are_open next G) h (still_reached next G H m n)
  where
    by_bit : (b x : Bool) → (b && x) ≡ false → (x ≡ false → reach next (G ++ H) m ≡ reach next G n) → (if b then reach next (G ++ H) m else g.definition) ≡ (if b then reach next G n else g.definition)
    by_bit true x h f = f h
    by_bit false x h f = refl

pub shut_on : (next : ℕ → ℕ) (G H : List Gate) (e : ℕ) → Shut next G e → Shut next (G ++ H) e
shut_on next G H e s = record { shut = still_shut next G H s.shut; reached = λ full. still_reached next G H full 0 s.shut ∙ s.reached 0 }

pub open_reach : (next : ℕ → ℕ) (G : List Gate) (full : ℕ) → are_open next G ≡ true → reach next G full ≡ full
open_reach next [] full h = refl
open_reach next (g ∷ G) full h = let k = and_parts (nat_lt g.definition (next g.leaf)) (are_open next G) h in rw k.0 (open_reach next G full k.1)

pub open_gated : (next : ℕ → ℕ) (G : List Gate) (g : Gate) → are_open next G ≡ true → nat_lt g.definition (next g.leaf) ≡ true → are_open next (G ++ g ∷ []) ≡ true
open_gated next [] g h k = rw k refl
open_gated next (f ∷ G) g h k = let p = and_parts (nat_lt f.definition (next f.leaf)) (are_open next G) h in rw p.0 (open_gated next G g p.1 k)

pub shut_gated : (next : ℕ → ℕ) (G : List Gate) (g : Gate) → are_open next G ≡ true → nat_lt g.definition (next g.leaf) ≡ false → Shut next (G ++ g ∷ []) g.definition
shut_gated next [] g h k = record { shut = rw k refl; reached = λ full. rw k refl }
shut_gated next (f ∷ G) g h k =
    let p = and_parts (nat_lt f.definition (next f.leaf)) (are_open next G) h in
    let q = shut_gated next G g p.1 k in
    record { shut = rw p.0 q.shut; reached = λ full. rw p.0 (q.reached full) }

pub gated_shut : (next : ℕ → ℕ) (r : Repetition) (F : List Pick) (d : ℕ) (G : List Gate) (e : ℕ) → Shut next G e → Shut next (gated r F d G) e
gated_shut next required F d G e s = s
gated_shut next optional F d G e s = shut_on next G _ e s
gated_shut next repeated F d G e s = s

-- ---- what is made of items, one after another

pub record Split (I J : Items) (r : ℕ) (next : ℕ → ℕ) (a : List Move) : Type 0 where
  pub front : List Move
  pub back : List Move
  pub both : a ≡ front ++ back
  pub first : Made I r next front
  pub second : Made J r next back

front_nulls : (n a b c : List Move) → a ≡ b ++ c → n ++ a ≡ (n ++ b) ++ c
front_nulls n a b c e = rw e (sym (append_assoc n b c))

front_visit : (x y : Move) (a b c d e : List Move) → c ≡ d ++ e → x ∷ (a ++ y ∷ (b ++ c)) ≡ (x ∷ (a ++ y ∷ (b ++ d))) ++ e
front_visit x y a b c d e h = rw h (simp append_assoc)

pub split : (I J : Items) (r : ℕ) (next : ℕ → ℕ) (a : List Move) → Made (followed_by I J) r next a → Split I J r next a
split nothing J r next a m = record { front = []; back = a; both = refl; first = made_nothing r next; second = m }
split (give g I) J r next _ (made_give _ _ _ _ t a e d h m) = let k = split I J r next a m in
    record { front = value g.leaf t ∷ k.front; back = k.back; both = ap (λ (x : List Move). value g.leaf t ∷ x) k.both; first = made_give g I r next t k.front e d h k.first; second = k.second }
split (visit v B I) J r next _ (made_absent _ _ _ _ _ a m) = let k = split I J r next a m in
    record { front = nulls v.leaves r (reach next v.gates v.low) ++ k.front; back = k.back; both = front_nulls (nulls v.leaves r (reach next v.gates v.low)) a k.front k.back k.both; first = made_absent v B I r next k.front k.first; second = k.second }
split (visit v B I) J r next _ (made_visit _ _ _ _ _ after a b c h m l n) = let k = split I J r next c n in
    record { front = enter v.number ∷ (a ++ leave v.number ∷ (b ++ k.front)); back = k.back; both = front_visit (enter v.number) (leave v.number) a b c k.front k.back k.both; first = made_visit v B I r next after a b k.front h m l k.first; second = k.second }

pub made_none : (r : ℕ) (next : ℕ → ℕ) (a : List Move) → Made nothing r next a → a ≡ []
made_none r next _ (made_nothing _ _) = refl

-- ---- behind shut gates

pub nulls_append : (is js : List ℕ) (r d : ℕ) → nulls (is ++ js) r d ≡ nulls is r d ++ nulls js r d
nulls_append [] js r d = refl
nulls_append (i ∷ is) js r d = ap (λ (x : List Move). value i (triplet r d None) ∷ x) (nulls_append is js r d)

no_value : (v : Option Value) → is_no_value v ≡ true → v ≡ None
no_value None h = refl
no_value (Some v) h = absurd (true≢false (sym h))

-- below the greatest level nothing has a value
null_there : (g : Give) (t : Triplet) (r e : ℕ) → t.repetition ≡ r → t.definition ≡ e → e < g.full → has_its_value g t ≡ true → t ≡ triplet r e None
null_there g t r e p q l h =
    let n : (t.definition == g.full) ≡ false = ne_eqb t.definition g.full (omega (arith, q, l)) in
    let v : t.value ≡ None = no_value t.value (rw n at h) in
    three t r e p q v
  where
    three : (t : Triplet) (r e : ℕ) → t.repetition ≡ r → t.definition ≡ e → t.value ≡ None → t ≡ triplet r e None
    three t r e p q v = ap₂ (λ (x y : ℕ). triplet x y t.value) p q ∙ ap (λ (x : Option Value). triplet r e x) v

pub shut_comes : (next : ℕ → ℕ) (g : Give) (e d : ℕ) → Shut next g.gates e → comes_to next g d ≡ true → d ≡ e
shut_comes next g e d s h = let k : (d == reach next g.gates g.low) ≡ true = (rw s.shut at h) in eqb-true d (reach next g.gates g.low) k ∙ s.reached g.low

dead_gives : (k : Kind) (F : List Pick) (G : List Gate) (b d r : ℕ) (next : ℕ → ℕ) (e : ℕ) (a : List Move) → Shut next G e → e < b → e < d → Made (give_each k F G b d) r next a → a ≡ nulls (indexes F) r e
dead_gives k [] G b d r next e a s l n m = made_none r next a m
dead_gives k (f ∷ F) G b d r next e _ s l n (made_give _ _ _ _ t a p q h m) =
    ap₂ (λ (x : Triplet) (y : List Move). value f.index x ∷ y) (null_there (record { leaf = f.index; kind = k; gates = G; low = b; full = d }) t r e p (shut_comes next (record { leaf = f.index; kind = k; gates = G; low = b; full = d }) e t.definition s q) n h) (dead_gives k F G b d r next e a s l n m)

unless_dead : (c : Repetition) (I : Items) (is : List ℕ) (r : ℕ) (next : ℕ → ℕ) (e : ℕ) (a : List Move) → ((a : List Move) → Made I r next a → a ≡ nulls is r e) → Made (unless_repeated c I) r next a → a ≡ nulls (order_unless_repeated c is) r e
unless_dead required I is r next e a f m = f a m
unless_dead optional I is r next e a f m = f a m
unless_dead repeated I is r next e a f m = made_none r next a m

two_dead : (x y b c : List Move) (is js : List ℕ) (r e : ℕ) → x ≡ b ++ c → b ≡ nulls is r e → c ≡ nulls js r e → x ≡ nulls (is ++ js) r e
two_dead x y b c is js r e h p q = rw (h, p, q) (sym (nulls_append is js r e))

pub low_above : (c : Repetition) (d : ℕ) → d ≤ low_in c d
low_above required d = omega arith
low_above optional d = omega arith
low_above repeated d = omega arith

mutual
  pub near_dead : (fs : Fields) (F : List Pick) (G : List Gate) (d r : ℕ) (next : ℕ → ℕ) (e : ℕ) (a : List Move) → Shut next G e → e < d → Made (near_items fs F G d) r next a → a ≡ nulls (near_order fs F) r e
  near_dead no_fields F G d r next e a s l m = made_none r next a m
  near_dead (field n c h fs) F G d r next e a s l m =
      let k = split (unless_repeated c (field_near_items c h (first_picks F) G d)) (near_items fs (later_picks F) G d) r next a m in
      two_dead a [] k.front k.back (order_unless_repeated c (shape_near_order h (first_picks F))) (near_order fs (later_picks F)) r e k.both
      (unless_dead c (field_near_items c h (first_picks F) G d) (shape_near_order h (first_picks F)) r next e k.front (λ b n. field_near_dead c h (first_picks F) G d r next e b s l n) k.first)
      (near_dead fs (later_picks F) G d r next e k.back s l k.second)

  field_near_dead : (c : Repetition) (h : Shape) (F : List Pick) (G : List Gate) (d r : ℕ) (next : ℕ → ℕ) (e : ℕ) (a : List Move) → Shut next G e → e < d → Made (field_near_items c h F G d) r next a → a ≡ nulls (shape_near_order h F) r e
  field_near_dead c (leaf k) F G d r next e a s l m = dead_gives k F G (low_in c d) (d + definition_count c) r next e a s (omega (arith, l, low_above c d)) (omega (arith, l)) m
  field_near_dead c (group fs) F G d r next e a s l m = near_dead fs F (gated c F d G) (d + definition_count c) r next e a (gated_shut next c F d G e s) (omega (arith, l)) m

-- without selected leaves there is nothing
mutual
  pub no_near_order : (fs : Fields) → near_order fs [] ≡ []
  no_near_order no_fields = refl
  no_near_order (field n required h fs) = rw (no_shape_near_order h) (no_near_order fs)
  no_near_order (field n optional h fs) = rw (no_shape_near_order h) (no_near_order fs)
  no_near_order (field n repeated h fs) = no_near_order fs

  pub no_shape_near_order : (h : Shape) → shape_near_order h [] ≡ []
  no_shape_near_order (leaf k) = refl
  no_shape_near_order (group fs) = no_near_order fs

mutual
  pub no_far_order : (fs : Fields) → far_order fs [] ≡ []
  no_far_order no_fields = refl
  no_far_order (field n required h fs) = rw (no_shape_far_order h) (no_far_order fs)
  no_far_order (field n optional h fs) = rw (no_shape_far_order h) (no_far_order fs)
  no_far_order (field n repeated h fs) = rw (no_shape_near_order h, no_shape_far_order h) (no_far_order fs)

  pub no_shape_far_order : (h : Shape) → shape_far_order h [] ≡ []
  no_shape_far_order (leaf k) = refl
  no_shape_far_order (group fs) = no_far_order fs

mutual
  pub no_far_items : (fs : Fields) (k l : ℕ) (G : List Gate) (d : ℕ) → far_items fs [] k l G d ≡ nothing
  no_far_items no_fields k l G d = refl
  no_far_items (field n c h fs) k l G d = no_far_items fs (k + (repetition_count c + shape_repeated_fields h)) l G d

  pub no_shape_far_items : (h : Shape) (k l : ℕ) (G : List Gate) (d : ℕ) → shape_far_items h [] k l G d ≡ nothing
  no_shape_far_items (leaf j) k l G d = refl
  no_shape_far_items (group fs) k l G d = no_far_items fs k l G d

-- the far items of a field, where they are dead
visit_dead : (v : Visit) (B : Items) (r : ℕ) (next : ℕ → ℕ) (e : ℕ) (a : List Move) → Shut next v.gates e → Made (visit v B nothing) r next a → a ≡ nulls v.leaves r e
visit_dead v B r next e _ s (made_absent _ _ _ _ _ a m) = rw (made_none r next a m, s.reached v.low) (append-nil (nulls v.leaves r e))
visit_dead v B r next e _ s (made_visit _ _ _ _ _ after a b c h m l n) = absurd (true≢false (sym h ∙ s.shut))

-- the shape's far items are dead, wherever they stand
abbrev ShapeIsDead : Shape → List Pick → ℕ → (ℕ → ℕ) → ℕ → Type 0
ShapeIsDead h B r next e = (k l : ℕ) (G : List Gate) (d : ℕ) (a : List Move) → Shut next G e → e < d → Made (shape_far_items h B k l G d) r next a → a ≡ nulls (shape_far_order h B) r e

field_dead : (c : Repetition) (h : Shape) (B : List Pick) (r : ℕ) (next : ℕ → ℕ) (e : ℕ) → ShapeIsDead h B r next e → (k l : ℕ) (G H : List Gate) (b d : ℕ) (a : List Move) → Shut next G e → Shut next H e → e < d
    → Made (where_selected B (by_repetition c (visit (visit_of h B k l H b) (followed_by (shape_near_items h B [] d) (shape_far_items h B (suc k) (l + repetition_count c) [] d)) nothing) (shape_far_items h B k (l + repetition_count c) G d))) r next a
    → a ≡ nulls (where_repeated c (shape_near_order h B) ++ shape_far_order h B) r e
field_dead required h [] r next e f k l G H b d a s u z m = rw (no_shape_far_order h) (made_none r next a m)
field_dead optional h [] r next e f k l G H b d a s u z m = rw (no_shape_far_order h) (made_none r next a m)
field_dead repeated h [] r next e f k l G H b d a s u z m = rw (no_shape_near_order h, no_shape_far_order h) (made_none r next a m)
field_dead required h (p ∷ F) r next e f k l G H b d a s u z m = f k (l + 0) G d a s z m
field_dead optional h (p ∷ F) r next e f k l G H b d a s u z m = f k (l + 0) G d a s z m
field_dead repeated h (p ∷ F) r next e f k l G H b d a s u z m = visit_dead _ _ r next e a u m

mutual
  pub far_dead : (fs : Fields) (F : List Pick) (r : ℕ) (next : ℕ → ℕ) (e : ℕ) (k l : ℕ) (G : List Gate) (d : ℕ) (a : List Move) → Shut next G e → e < d → Made (far_items fs F k l G d) r next a → a ≡ nulls (far_order fs F) r e
  far_dead no_fields F r next e k l G d a s b m = made_none r next a m
  far_dead (field n c h fs) F r next e k l G d a s b m =
      let q = split (where_selected (first_picks F) (by_repetition c (visit (visit_of h (first_picks F) k l G d)
      (followed_by (shape_near_items h (first_picks F) [] (d + definition_count c)) (shape_far_items h (first_picks F) (suc k) (l + repetition_count c) [] (d + definition_count c))) nothing)
      (shape_far_items h (first_picks F) k (l + repetition_count c) (gated c (first_picks F) d G) (d + definition_count c)))) (far_items fs (later_picks F) (k + (repetition_count c + shape_repeated_fields h)) l G d) r next a m in
      two_dead a [] q.front q.back (where_repeated c (shape_near_order h (first_picks F)) ++ shape_far_order h (first_picks F)) (far_order fs (later_picks F)) r e q.both
      (field_dead c h (first_picks F) r next e (shape_far_dead h (first_picks F) r next e) k l (gated c (first_picks F) d G) G d (d + definition_count c) q.front (gated_shut next c (first_picks F) d G e s) s (omega (arith, b)) q.first)
      (far_dead fs (later_picks F) r next e (k + (repetition_count c + shape_repeated_fields h)) l G d q.back s b q.second)

  pub shape_far_dead : (h : Shape) (F : List Pick) (r : ℕ) (next : ℕ → ℕ) (e : ℕ) → ShapeIsDead h F r next e
  shape_far_dead (leaf j) F r next e k l G d a s b m = made_none r next a m
  shape_far_dead (group fs) F r next e k l G d a s b m = far_dead fs F r next e k l G d a s b m
