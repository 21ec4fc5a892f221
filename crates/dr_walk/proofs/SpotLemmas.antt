-- Where a walk stands, by the item that is next.
use Rattle.std.proofs.Common.{◌≡◌, ℕ, suc, ◌+◌, ◌<◌, ◌≤◌, List, [], ◌∷◌, ◌++◌, map, length, Bool, true, false, ◌&&◌, Option, Some, None, refl, sym, ap, ap₂, subst, ◌∙◌, append_assoc, append-nil, arith}
use Rattle.std.specs.Prelude.{reverse, ◌==◌, nat_lt, if◌then◌else◌, option_map, get_or}
use Rattle.std.specs.List.{slice_get}
use Rattle.std.proofs.lemmas.Option.{slice_get_within, slice_get_read, slice_get_past, slice_get-map}
use Rattle.std.proofs.lemmas.List.{map-append, reverse-append}
use Rattle.std.proofs.lemmas.Bool.{ne_eqb}
use Rattle.std.proofs.lemmas.Bool.Decides.{nat_tests}
use Rattle.dr_meaning.specs.Schema.{Kind}
use Rattle.dr_meaning.specs.Column.{Triplet}
use Rattle.dr_meaning.specs.Walk.{enter, value, leave}
use Rattle.dr_nested.specs.Views.{kind_view}
use Rattle.dr_nested.specs.declared.shape.Kind as code_kind
use Rattle.dr_levels.specs.Views.{levels_pair, triplet_levels}
use Rattle.dr_levels.specs.declared.triplet.Levels.{Levels}
use Rattle.dr_moves.specs.Course.{Gate, reach, are_open, comes_to, Give, Visit, Items, nothing, give, visit}
use Rattle.dr_moves.specs.Turning.{Stack, between, in_record, in_items, in_absent, lapped, entering, Turn, gives, goes_on, stops, turn, turn_given, turn_absent, is_due, is_null, has_its_value, is_value_of, is_no_value, definition_of, definitions_of, level_of}
use Rattle.dr_walk.specs.Laying.{FlatItem, flat_look, flat_give, flat_visit, flat_null, flat_end, FlatGive, FlatVisit, Lap, lap_of, plain_give, plain_visit, has_gates, looks_for}
use Rattle.dr_walk.specs.Seen.{levels_at, level_definition, level_repetition, next_definitions, AreLevelsOf, first_shut, may_come, due_levels, absent_level, TakesSeen, lap_there, looks_there}
use Rattle.dr_walk.specs.Flat.{IsRun, IsCode, code_end, code_give, code_visit, IsBody, gates_of}
use Rattle.dr_walk.specs.Standing.{seen, IsAround, around_record, around_instance, rows_below, IsSpot, spot_between, spot_items, spot_absent, spot_again, fits, GoesOn, stays_here, goes_further, MakesMove, GivesLeaf, ComesTo, Finishes, IsTurn}
use Rattle.dr_walk.specs.declared.spot.Frame.{Frame}
use Rattle.dr_walk.specs.declared.spot.Stage.{Stage}
use Rattle.dr_walk.specs.declared.spot.Spot.{Spot}
use Rattle.dr_walk.specs.declared.items.Item.{Item}
use Rattle.dr_walk.specs.declared.turn.Turn.{Turn as CodeTurn}
use Rattle.dr_walk.specs.Views.{item_view, items_view}

-- ---- an instance that is gone through, at its next item

pub data Settled (code : List FlatItem) (top : Items) (p : Spot) (S : Stack) (ts : ℕ → Option Triplet) : Type 0 where
  settled_items : (o : Option Lap) (below : List (Option ℕ)) (I : Items) (next : ℕ → ℕ) (U : Stack) → GoesOn top ts S (in_items I p.here.begun next U) → IsCode code o p.here.place I
      → p.shut.items ≡ below ++ seen next I → IsAround code o p.returns.items below U → rows_below U ≡ p.rows → Settled code top p S ts
  settled_null : (o : Option Lap) (below : List (Option ℕ)) (i : ℕ) (is : List ℕ) (at : ℕ) (I : Items) (next : ℕ → ℕ) (U : Stack) → GoesOn top ts S (in_absent (i ∷ is) p.here.begun p.absent (in_items I p.here.begun next U))
      → slice_get code p.here.place ≡ Some (flat_null i) → IsRun code (suc p.here.place) (map flat_null is) at → IsCode code o at I
      → p.shut.items ≡ below ++ seen next I → IsAround code o p.returns.items below U → rows_below U ≡ p.rows → Settled code top p S ts

pub settle : (code : List FlatItem) (top : Items) (p : Spot) (S : Stack) (ts : ℕ → Option Triplet) → p.stage ≡ Stage.Within → IsSpot code p S → Settled code top p S ts
settle code top p _ ts w (spot_between e r s) = absurd (other w e)
  where
    other : p.stage ≡ Stage.Within → p.stage ≡ Stage.Between → ⊥
    other a b = cc
settle code top p _ ts w (spot_items o below I next U e c s a n) = settled_items o below I next U (stays_here _) c s a n
settle code top p _ ts w (spot_absent o below [] at I next U e r c s a n) =
    settled_items o below I next U (goes_further _ _ _ refl (stays_here _)) (subst (λ (k : ℕ). IsCode code o k I) (sym r) c) s a n
settle code top p _ ts w (spot_absent o below (i ∷ is) at I next U e r c s a n) = settled_null o below i is at I next U (stays_here _) r.0 r.1 c s a n
settle code top p _ ts w (spot_again v body B U e f a n) = absurd (other w e)
  where
    other : p.stage ≡ Stage.Within → p.stage ≡ Stage.Again → ⊥
    other a b = cc

-- ---- what was seen of gates

pub seen_open : (next : ℕ → ℕ) (G : List Gate) (low : ℕ) → first_shut next G ≡ None → (are_open next G ≡ true) × (reach next G low ≡ low)
seen_open next [] low e = (refl, refl)
seen_open next (g ∷ G) low e = by_bit (nat_lt g.definition (next g.leaf)) e (λ f. seen_open next G low f)
  where
    by_bit : (b : Bool) → (if b then first_shut next G else Some g.definition) ≡ None → (first_shut next G ≡ None → (are_open next G ≡ true) × (reach next G low ≡ low))
        → ((b && are_open next G) ≡ true) × ((if b then reach next G low else g.definition) ≡ low)
    by_bit true e f = f e
    by_bit false e f = absurd (some_is_none e)
      where
        some_is_none : Some g.definition ≡ None → ⊥
        some_is_none q = cc

pub seen_shut : (next : ℕ → ℕ) (G : List Gate) (low d : ℕ) → first_shut next G ≡ Some d → (are_open next G ≡ false) × (reach next G low ≡ d)
seen_shut next [] low d e = absurd (none_is_some e)
  where
    none_is_some : None ≡ Some d → ⊥
    none_is_some q = cc
seen_shut next (g ∷ G) low d e = by_bit (nat_lt g.definition (next g.leaf)) e (λ f. seen_shut next G low d f)
  where
    by_bit : (b : Bool) → (if b then first_shut next G else Some g.definition) ≡ Some d → (first_shut next G ≡ Some d → (are_open next G ≡ false) × (reach next G low ≡ d))
        → ((b && are_open next G) ≡ false) × ((if b then reach next G low else g.definition) ≡ d)
    by_bit true e f = f e
    by_bit false e f = (refl, same e)
      where
        same : Some g.definition ≡ Some d → g.definition ≡ d
        same q = cc

comes_as_seen : (next : ℕ → ℕ) (g : Give) (d : ℕ) (o : Option ℕ) → first_shut next g.gates ≡ o → comes_to next g d ≡ may_come g.low g.full o d
comes_as_seen next g d None e = let k = seen_open next g.gates g.low e in rw k.0 refl
comes_as_seen next g d (Some x) e = let k = seen_shut next g.gates g.low x e in rw k.0 (ap (λ (y : ℕ). d == y) k.1)

seen_behind : (next : ℕ → ℕ) (G : List Gate) (Gs : List (List Gate)) → map (first_shut next) (reverse (G ∷ Gs)) ≡ map (first_shut next) (reverse Gs) ++ first_shut next G ∷ []
seen_behind next G Gs = ap (map (first_shut next)) (reverse-append (G ∷ []) Gs) ∙ map-append (first_shut next) (reverse Gs) (G ∷ [])

pub record Took (old new : List (Option ℕ)) (below later : List (Option ℕ)) (first : Option ℕ) (result : Option ℕ) : Type 0 where
  pub same : result ≡ first
  pub left : new ≡ below ++ later

-- what is taken for an item is what was seen of its gates
pub takes_its : (next : ℕ → ℕ) (G : List Gate) (Gs : List (List Gate)) (below old new : List (Option ℕ)) (result : Option ℕ) → old ≡ below ++ map (first_shut next) (reverse (looks_for G ++ Gs)) → TakesSeen (has_gates G) old new result
    → Took old new below (map (first_shut next) (reverse Gs)) (first_shut next G) result
takes_its next [] Gs below old new result e t = record { same = t.0; left = t.1 ∙ e }
takes_its next (g ∷ G) Gs below old new result e t =
    let k : old ≡ (below ++ map (first_shut next) (reverse Gs)) ++ first_shut next (g ∷ G) ∷ [] =
    e ∙ ap (λ (xs : List (Option ℕ)). below ++ xs) (seen_behind next (g ∷ G) Gs) ∙ sym (append_assoc below (map (first_shut next) (reverse Gs)) (first_shut next (g ∷ G) ∷ [])) in
    let r = t (below ++ map (first_shut next) (reverse Gs)) (first_shut next (g ∷ G)) k in
    record { same = r.0; left = r.1 }

-- ---- the levels that come next

pub record Next (ts : ℕ → Option Triplet) (i : ℕ) (l : Levels) : Type 0 where
  pub entry : Triplet
  pub is : ts i ≡ Some entry
  pub levels : triplet_levels entry ≡ levels_pair l
  pub repetition : entry.repetition ≡ l.repetition
  pub definition : entry.definition ≡ l.definition

pub next_some : (heads : List (Option Levels)) (ts : ℕ → Option Triplet) (i : ℕ) (l : Levels) → AreLevelsOf heads ts → get_or heads i None ≡ Some l → Next ts i l
next_some heads ts i l a e = of (ts i) refl (sym (a i) ∙ ap (option_map levels_pair) e)
  where
    of : (o : Option Triplet) → ts i ≡ o → option_map triplet_levels o ≡ Some (levels_pair l) → Next ts i l
    of None q h = absurd (none_is_some h)
      where
        none_is_some : None ≡ Some (levels_pair l) → ⊥
        none_is_some q = cc
    of (Some t) q h =
        let k : triplet_levels t ≡ levels_pair l = cc in
        record { entry = t; is = q; levels = k; repetition = ap (λ (p : ℕ × ℕ). p.0) k; definition = ap (λ (p : ℕ × ℕ). p.1) k }

pub next_none : (heads : List (Option Levels)) (ts : ℕ → Option Triplet) (i : ℕ) → AreLevelsOf heads ts → get_or heads i None ≡ None → ts i ≡ None
next_none heads ts i a e = of (ts i) refl (sym (a i) ∙ ap (option_map levels_pair) e)
  where
    of : (o : Option Triplet) → ts i ≡ o → option_map triplet_levels o ≡ None → ts i ≡ None
    of None q h = q
    of (Some t) q h = absurd (some_is_none h)
      where
        some_is_none : Some (triplet_levels t) ≡ None → ⊥
        some_is_none q = cc

same_next : (heads : List (Option Levels)) (ts : ℕ → Option Triplet) (i : ℕ) → AreLevelsOf heads ts → next_definitions heads i ≡ definition_of (ts i)
same_next heads ts i a = ap level_definition (a i) ∙ of (ts i)
  where
    of : (o : Option Triplet) → level_definition (option_map triplet_levels o) ≡ definition_of o
    of None = refl
    of (Some t) = refl

pub same_definitions : (heads : List (Option Levels)) (ts : ℕ → Option Triplet) → AreLevelsOf heads ts → next_definitions heads ≡ definitions_of ts
same_definitions heads ts a = λ j i. (same_next heads ts i a) j

pub same_level : (heads : List (Option Levels)) (ts : ℕ → Option Triplet) (i : ℕ) → AreLevelsOf heads ts → level_repetition (levels_at heads i) ≡ level_of (ts i)
same_level heads ts i a = ap level_repetition (a i) ∙ of (ts i)
  where
    of : (o : Option Triplet) → level_repetition (option_map triplet_levels o) ≡ level_of o
    of None = refl
    of (Some t) = refl

-- an instance was begun at the place of its items
abbrev pub Begun : List FlatItem → List (Option Levels) → ℕ → ℕ → List (Option ℕ) → Spot → Type 0
Begun code heads body begun shut q = body < length code → (q.stage ≡ Stage.Within) × (q.here ≡ record { place = suc body; begun = begun }) × (q.shut.items ≡ shut ++ map (first_shut (next_definitions heads)) (looks_there (slice_get code body)))

-- ---- a leaf

pub record AtGive (code : List FlatItem) (top : Items) (p : Spot) (S : Stack) (ts : ℕ → Option Triplet) (h : FlatGive) : Type 0 where
  pub o : Option Lap
  pub below : List (Option ℕ)
  pub g : Give
  pub I : Items
  pub next : ℕ → ℕ
  pub U : Stack
  pub comes : GoesOn top ts S (in_items (give g I) p.here.begun next U)
  pub same : plain_give g ≡ h
  pub rest : IsCode code o (suc p.here.place) I
  pub shut : p.shut.items ≡ below ++ map (first_shut next) (reverse (looks_for g.gates ++ gates_of I))
  pub around : IsAround code o p.returns.items below U
  pub rows : rows_below U ≡ p.rows

other_end : (code : List FlatItem) (pc : ℕ) (h : FlatGive) (o : Option Lap) → slice_get code pc ≡ Some (flat_give h) → slice_get code pc ≡ Some (flat_end o) → ⊥
other_end code pc h o e f = cc

other_visit : (code : List FlatItem) (pc : ℕ) (h : FlatGive) (v : FlatVisit) → slice_get code pc ≡ Some (flat_give h) → slice_get code pc ≡ Some (flat_visit v) → ⊥
other_visit code pc h v e f = cc

other_null : (code : List FlatItem) (pc : ℕ) (h : FlatGive) (i : ℕ) → slice_get code pc ≡ Some (flat_give h) → slice_get code pc ≡ Some (flat_null i) → ⊥
other_null code pc h i e f = cc

same_give : (code : List FlatItem) (pc : ℕ) (g h : FlatGive) → slice_get code pc ≡ Some (flat_give h) → slice_get code pc ≡ Some (flat_give g) → g ≡ h
same_give code pc g h e f = cc

pub at_give : (code : List FlatItem) (top : Items) (p : Spot) (S : Stack) (ts : ℕ → Option Triplet) (h : FlatGive) → slice_get code p.here.place ≡ Some (flat_give h) → Settled code top p S ts → AtGive code top p S ts h
at_give code top p S ts h e (settled_items o below _ next U go (code_end _ _ f) s a n) = absurd (other_end code p.here.place h o e f)
at_give code top p S ts h e (settled_items o below _ next U go (code_give _ _ g I f c) s a n) =
    record { o = o; below = below; g = g; I = I; next = next; U = U; comes = go; same = same_give code p.here.place (plain_give g) h e f; rest = c; shut = s; around = a; rows = n }
at_give code top p S ts h e (settled_items o below _ next U go (code_visit _ _ body v B I f r l b c) s a n) = absurd (other_visit code p.here.place h (plain_visit v (length v.leaves) body) e f)
at_give code top p S ts h e (settled_null o below i is at I next U go f r c s a n) = absurd (other_null code p.here.place h i e f)

-- whether it is given: by the levels, and then by the value
due_value : (g : Give) (r : ℕ) (next : ℕ → ℕ) (t : Triplet) → (t.repetition == r) ≡ true → comes_to next g t.definition ≡ true → is_due g r next t ≡ fits (if t.definition == g.full then Some g.kind else None) t.value
due_value g r next t a b = rw (a, b) (by_bit (t.definition == g.full))
  where
    by_bit : (b : Bool) → (if b then is_value_of g.kind t.value else is_no_value t.value) ≡ fits (if b then Some g.kind else None) t.value
    by_bit true = refl
    by_bit false = refl

pub give_due : (g : Give) (I : Items) (r : ℕ) (next : ℕ → ℕ) (U : Stack) (t : Triplet) (l : Levels) (o : Option ℕ) → first_shut next g.gates ≡ o → t.repetition ≡ l.repetition → t.definition ≡ l.definition
    → due_levels g.low g.full o r (Some l) ≡ Some l
    → turn_given g I r next U (Some t) ≡ (if fits (if l.definition == g.full then Some g.kind else None) t.value then gives (value g.leaf t) (in_items I r next U) else stops)
give_due g I r next U t l o e tr td d =
    let k = parts (l.repetition == r) (may_come g.low g.full o l.definition) d in
    let a : (t.repetition == r) ≡ true = ap (λ (x : ℕ). x == r) tr ∙ k.0 in
    let b : comes_to next g t.definition ≡ true = comes_as_seen next g t.definition o e ∙ ap (may_come g.low g.full o) td ∙ k.1 in
    ap (λ (x : Bool). if x then gives (value g.leaf t) (in_items I r next U) else stops) (due_value g r next t a b ∙ ap (λ (x : ℕ). fits (if x == g.full then Some g.kind else None) t.value) td)
  where
    parts : (a b : Bool) → (if a && b then Some l else None) ≡ Some l → (a ≡ true) × (b ≡ true)
    parts true true h = (refl, refl)
    parts true false h = absurd (none_is_some h)
      where
        none_is_some : None ≡ Some l → ⊥
        none_is_some q = cc
    parts false b h = absurd (none_is_some h)
      where
        none_is_some : None ≡ Some l → ⊥
        none_is_some q = cc

pub give_not_due : (g : Give) (I : Items) (r : ℕ) (next : ℕ → ℕ) (U : Stack) (t : Triplet) (l : Levels) (o : Option ℕ) → first_shut next g.gates ≡ o → t.repetition ≡ l.repetition → t.definition ≡ l.definition
    → due_levels g.low g.full o r (Some l) ≡ None → turn_given g I r next U (Some t) ≡ stops
give_not_due g I r next U t l o e tr td d =
    let a : (t.repetition == r) ≡ (l.repetition == r) = ap (λ (x : ℕ). x == r) tr in
    let b : comes_to next g t.definition ≡ may_come g.low g.full o l.definition = comes_as_seen next g t.definition o e ∙ ap (may_come g.low g.full o) td in
    parts (t.repetition == r) (l.repetition == r) (comes_to next g t.definition) (may_come g.low g.full o l.definition) a b d
  where
    parts : (a c b e : Bool) → a ≡ c → b ≡ e → (if c && e then Some l else None) ≡ None → (if a && (b && has_its_value g t) then gives (value g.leaf t) (in_items I r next U) else stops) ≡ stops
    parts a true b true p q h = absurd (some_is_none h)
      where
        some_is_none : Some l ≡ None → ⊥
        some_is_none q = cc
    parts a true b false p q h = rw (p, q) refl
    parts a false b e p q h = rw p refl

-- ---- where it stands then

pub stands_items : (code : List FlatItem) (q : Spot) (o : Option Lap) (below : List (Option ℕ)) (I : Items) (next : ℕ → ℕ) (U : Stack) (place begun : ℕ) (returns : List Frame) (rows : ℕ) → q.stage ≡ Stage.Within → q.here ≡ record { place = place; begun = begun }
    → q.returns.items ≡ returns → q.rows ≡ rows → q.shut.items ≡ below ++ seen next I → IsCode code o place I → IsAround code o returns below U → rows_below U ≡ rows → IsSpot code q (in_items I begun next U)
stands_items code q o below I next U place begun returns rows qs qh qr qn sh c a n =
    subst (λ (r : ℕ). IsSpot code q (in_items I r next U)) (ap (λ (f : Frame). f.begun) qh)
    (spot_items o below I next U qs (subst (λ (k : ℕ). IsCode code o k I) (sym (ap (λ (f : Frame). f.place) qh)) c) sh (subst (λ (rs : List Frame). IsAround code o rs below U) (sym qr) a) (n ∙ sym qn))

pub stands_absent : (code : List FlatItem) (q : Spot) (o : Option Lap) (below : List (Option ℕ)) (is : List ℕ) (at : ℕ) (I : Items) (next : ℕ → ℕ) (U : Stack) (place begun absent : ℕ) (returns : List Frame) (rows : ℕ) → q.stage ≡ Stage.Within
    → q.here ≡ record { place = place; begun = begun } → q.absent ≡ absent → q.returns.items ≡ returns → q.rows ≡ rows → q.shut.items ≡ below ++ seen next I → IsRun code place (map flat_null is) at → IsCode code o at I → IsAround code o returns below U → rows_below U ≡ rows
    → IsSpot code q (in_absent is begun absent (in_items I begun next U))
stands_absent code q o below is at I next U place begun absent returns rows qs qh qa qr qn sh r c a n =
    subst (λ (d : ℕ). IsSpot code q (in_absent is begun d (in_items I begun next U))) qa
    (subst (λ (b : ℕ). IsSpot code q (in_absent is b q.absent (in_items I b next U))) (ap (λ (f : Frame). f.begun) qh)
    (spot_absent o below is at I next U qs (subst (λ (k : ℕ). IsRun code k (map flat_null is) at) (sym (ap (λ (f : Frame). f.place) qh)) r) c sh (subst (λ (rs : List Frame). IsAround code o rs below U) (sym qr) a) (n ∙ sym qn)))

pub goes_on_to : (top : Items) (ts : ℕ → Option Triplet) (S V W : Stack) → GoesOn top ts S V → turn top V ts ≡ goes_on W → GoesOn top ts S W
goes_on_to top ts _ _ W (stays_here S) e = goes_further S W W e (stays_here W)
goes_on_to top ts _ _ W (goes_further S U V f g) e = goes_further S U W f (goes_on_to top ts U V W g e)

due_head : (low full : ℕ) (sv : Option ℕ) (r : ℕ) (o : Option Levels) (l : Levels) → due_levels low full sv r o ≡ Some l → o ≡ Some l
due_head low full sv r None l h = h
due_head low full sv r (Some m) l h = by_bit ((m.repetition == r) && may_come low full sv m.definition) h
  where
    by_bit : (b : Bool) → (if b then Some m else None) ≡ Some l → Some m ≡ Some l
    by_bit true h = h
    by_bit false h = absurd (none_is_some h)
      where
        none_is_some : None ≡ Some l → ⊥
        none_is_some q = cc

-- the turn of a leaf that is due
pub gives_leaf : (code : List FlatItem) (top : Items) (p q : Spot) (S : Stack) (ts : ℕ → Option Triplet) (heads : List (Option Levels)) (h : FlatGive) (sv : Option ℕ) (l : Levels) (k : Option code_kind.Kind)
    → AtGive code top p S ts h → AreLevelsOf heads ts → TakesSeen h.gated p.shut.items q.shut.items sv → due_levels h.low h.full sv p.here.begun (get_or heads h.leaf None) ≡ Some l
    → option_map kind_view k ≡ (if l.definition == h.full then Some h.kind else None) → q.stage ≡ Stage.Within → q.here ≡ record { place = suc p.here.place; begun = p.here.begun } → q.returns.items ≡ p.returns.items → q.rows ≡ p.rows
    → GivesLeaf code top S ts q h.leaf l k
gives_leaf code top p q S ts heads h sv l k at lv tk du kv qs qh qr qn =
    let g = at.g in
    let r = p.here.begun in
    let tk2 : TakesSeen (has_gates g.gates) p.shut.items q.shut.items sv = subst (λ (x : FlatGive). TakesSeen x.gated p.shut.items q.shut.items sv) (sym at.same) tk in
    let du2 : due_levels g.low g.full sv r (get_or heads g.leaf None) ≡ Some l = subst (λ (x : FlatGive). due_levels x.low x.full sv r (get_or heads x.leaf None) ≡ Some l) (sym at.same) du in
    let kv2 : option_map kind_view k ≡ (if l.definition == g.full then Some g.kind else None) = subst (λ (x : FlatGive). option_map kind_view k ≡ (if l.definition == x.full then Some x.kind else None)) (sym at.same) kv in
    let hd : get_or heads g.leaf None ≡ Some l = due_head g.low g.full sv r (get_or heads g.leaf None) l du2 in
    let du3 : due_levels g.low g.full sv r (Some l) ≡ Some l = ap (due_levels g.low g.full sv r) (sym hd) ∙ du2 in
    let n = next_some heads ts g.leaf l lv hd in
    let took = takes_its at.next g.gates (gates_of at.I) at.below p.shut.items q.shut.items sv at.shut tk2 in
    let to = in_items at.I r at.next at.U in
    let result : GivesLeaf code top S ts q g.leaf l k = record {
      from = in_items (give g at.I) r at.next at.U;
      to = to;
      comes = at.comes;
      entry = n.entry;
      next = n.is;
      levels = n.levels;
      made = ap (turn_given g at.I r at.next at.U) n.is ∙ give_due g at.I r at.next at.U n.entry l sv (sym took.same) n.repetition n.definition du3
          ∙ ap (λ (K : Option Kind). if fits K n.entry.value then gives (value g.leaf n.entry) to else stops) (sym kv2);
      stands = stands_items code q at.o at.below at.I at.next at.U (suc p.here.place) r p.returns.items p.rows qs qh qr qn took.left at.rest at.around at.rows;
    } in
    subst (λ (x : FlatGive). GivesLeaf code top S ts q x.leaf l k) at.same result

-- and of one that isn't
pub stops_at_leaf : (code : List FlatItem) (top : Items) (p : Spot) (S : Stack) (ts : ℕ → Option Triplet) (heads : List (Option Levels)) (h : FlatGive) (sv : Option ℕ) (new : List (Option ℕ))
    → AtGive code top p S ts h → AreLevelsOf heads ts → TakesSeen h.gated p.shut.items new sv → due_levels h.low h.full sv p.here.begun (get_or heads h.leaf None) ≡ None → ComesTo top S ts stops
stops_at_leaf code top p S ts heads h sv new at lv tk du =
    let g = at.g in
    let r = p.here.begun in
    let tk2 : TakesSeen (has_gates g.gates) p.shut.items new sv = subst (λ (x : FlatGive). TakesSeen x.gated p.shut.items new sv) (sym at.same) tk in
    let du2 : due_levels g.low g.full sv r (get_or heads g.leaf None) ≡ None = subst (λ (x : FlatGive). due_levels x.low x.full sv r (get_or heads x.leaf None) ≡ None) (sym at.same) du in
    let took = takes_its at.next g.gates (gates_of at.I) at.below p.shut.items new sv at.shut tk2 in
    record { from = in_items (give g at.I) r at.next at.U; comes = at.comes; made = of g at.I r at.next at.U (sym took.same) (get_or heads g.leaf None) refl du2 }
  where
    of : (g : Give) (I : Items) (r : ℕ) (next : ℕ → ℕ) (U : Stack) → first_shut next g.gates ≡ sv → (o : Option Levels) → get_or heads g.leaf None ≡ o → due_levels g.low g.full sv r o ≡ None → turn_given g I r next U (ts g.leaf) ≡ stops
    of g I r next U fs None e d = ap (turn_given g I r next U) (next_none heads ts g.leaf lv e)
    of g I r next U fs (Some l) e d = let n = next_some heads ts g.leaf l lv e in ap (turn_given g I r next U) n.is ∙ give_not_due g I r next U n.entry l sv fs n.repetition n.definition d

-- ---- a NULL of what is absent

pub record AtNull (code : List FlatItem) (top : Items) (p : Spot) (S : Stack) (ts : ℕ → Option Triplet) (i : ℕ) : Type 0 where
  pub o : Option Lap
  pub below : List (Option ℕ)
  pub is : List ℕ
  pub end : ℕ
  pub I : Items
  pub next : ℕ → ℕ
  pub U : Stack
  pub comes : GoesOn top ts S (in_absent (i ∷ is) p.here.begun p.absent (in_items I p.here.begun next U))
  pub run : IsRun code (suc p.here.place) (map flat_null is) end
  pub rest : IsCode code o end I
  pub shut : p.shut.items ≡ below ++ seen next I
  pub around : IsAround code o p.returns.items below U
  pub rows : rows_below U ≡ p.rows

null_end : (code : List FlatItem) (pc i : ℕ) (o : Option Lap) → slice_get code pc ≡ Some (flat_null i) → slice_get code pc ≡ Some (flat_end o) → ⊥
null_end code pc i o e f = cc

null_visit : (code : List FlatItem) (pc i : ℕ) (v : FlatVisit) → slice_get code pc ≡ Some (flat_null i) → slice_get code pc ≡ Some (flat_visit v) → ⊥
null_visit code pc i v e f = cc

same_null : (code : List FlatItem) (pc i j : ℕ) → slice_get code pc ≡ Some (flat_null i) → slice_get code pc ≡ Some (flat_null j) → j ≡ i
same_null code pc i j e f = cc

pub at_null : (code : List FlatItem) (top : Items) (p : Spot) (S : Stack) (ts : ℕ → Option Triplet) (i : ℕ) → slice_get code p.here.place ≡ Some (flat_null i) → Settled code top p S ts → AtNull code top p S ts i
at_null code top p S ts i e (settled_items o below _ next U go (code_end _ _ f) s a n) = absurd (null_end code p.here.place i o e f)
at_null code top p S ts i e (settled_items o below _ next U go (code_give _ _ g I f c) s a n) = absurd (other_null code p.here.place (plain_give g) i f e)
at_null code top p S ts i e (settled_items o below _ next U go (code_visit _ _ body v B I f r l b c) s a n) = absurd (null_visit code p.here.place i (plain_visit v (length v.leaves) body) e f)
at_null code top p S ts i e (settled_null o below j is at I next U go f r c s a n) =
    let q : j ≡ i = same_null code p.here.place i j e f in
    record {
      o = o;
      below = below;
      is = is;
      end = at;
      I = I;
      next = next;
      U = U;
      comes = subst (λ (x : ℕ). GoesOn top ts S (in_absent (x ∷ is) p.here.begun p.absent (in_items I p.here.begun next U))) q go;
      run = r;
      rest = c;
      shut = s;
      around = a;
      rows = n;
    }

null_due : (r d : ℕ) (t : Triplet) (l : Levels) → t.repetition ≡ l.repetition → t.definition ≡ l.definition → due_levels 0 0 (Some d) r (Some l) ≡ Some l → is_null r d t ≡ is_no_value t.value
null_due r d t l tr td h = parts (l.repetition == r) (l.definition == d) (t.repetition == r) (t.definition == d) (ap (λ (x : ℕ). x == r) tr) (ap (λ (x : ℕ). x == d) td) h
  where
    none_is_some : None ≡ Some l → ⊥
    none_is_some q = cc

    parts : (a b c e : Bool) → c ≡ a → e ≡ b → (if a && b then Some l else None) ≡ Some l → (c && (e && is_no_value t.value)) ≡ is_no_value t.value
    parts true true c e p q h = rw (p, q) refl
    parts true false c e p q h = absurd (none_is_some h)
    parts false b c e p q h = absurd (none_is_some h)

null_not_due : (r d : ℕ) (t : Triplet) (l : Levels) → t.repetition ≡ l.repetition → t.definition ≡ l.definition → due_levels 0 0 (Some d) r (Some l) ≡ None → is_null r d t ≡ false
null_not_due r d t l tr td h = parts (l.repetition == r) (l.definition == d) (t.repetition == r) (t.definition == d) (ap (λ (x : ℕ). x == r) tr) (ap (λ (x : ℕ). x == d) td) h
  where
    some_is_none : Some l ≡ None → ⊥
    some_is_none q = cc

    parts : (a b c e : Bool) → c ≡ a → e ≡ b → (if a && b then Some l else None) ≡ None → (c && (e && is_no_value t.value)) ≡ false
    parts true true c e p q h = absurd (some_is_none h)
    parts true false c e p q h = rw (p, q) refl
    parts false b c e p q h = rw p refl

pub gives_null : (code : List FlatItem) (top : Items) (p q : Spot) (S : Stack) (ts : ℕ → Option Triplet) (heads : List (Option Levels)) (i : ℕ) (l : Levels) (k : Option code_kind.Kind)
    → AtNull code top p S ts i → AreLevelsOf heads ts → due_levels 0 0 (Some p.absent) p.here.begun (get_or heads i None) ≡ Some l → k ≡ None
    → q.stage ≡ Stage.Within → q.here ≡ record { place = suc p.here.place; begun = p.here.begun } → q.absent ≡ p.absent → q.returns.items ≡ p.returns.items → q.rows ≡ p.rows → q.shut.items ≡ p.shut.items
    → GivesLeaf code top S ts q i l k
gives_null code top p q S ts heads i l k at lv du kn qs qh qa qr qn qt =
    let r = p.here.begun in
    let d = p.absent in
    let hd : get_or heads i None ≡ Some l = due_head 0 0 (Some d) r (get_or heads i None) l du in
    let du2 : due_levels 0 0 (Some d) r (Some l) ≡ Some l = ap (due_levels 0 0 (Some d) r) (sym hd) ∙ du in
    let n = next_some heads ts i l lv hd in
    let V = in_items at.I r at.next at.U in
    let to = in_absent at.is r d V in
    record {
      from = in_absent (i ∷ at.is) r d V;
      to = to;
      comes = at.comes;
      entry = n.entry;
      next = n.is;
      levels = n.levels;
      made = ap (turn_absent i at.is r d V) n.is ∙ ap (λ (b : Bool). if b then gives (value i n.entry) to else stops) (null_due r d n.entry l n.repetition n.definition du2)
          ∙ ap (λ (x : Option code_kind.Kind). if fits (option_map kind_view x) n.entry.value then gives (value i n.entry) to else stops) (sym kn);
      stands = stands_absent code q at.o at.below at.is at.end at.I at.next at.U (suc p.here.place) r d p.returns.items p.rows qs qh qa qr qn (qt ∙ at.shut) at.run at.rest at.around at.rows;
    }

pub stops_at_null : (code : List FlatItem) (top : Items) (p : Spot) (S : Stack) (ts : ℕ → Option Triplet) (heads : List (Option Levels)) (i : ℕ) → AtNull code top p S ts i → AreLevelsOf heads ts
    → due_levels 0 0 (Some p.absent) p.here.begun (get_or heads i None) ≡ None → ComesTo top S ts stops
stops_at_null code top p S ts heads i at lv du =
    record { from = in_absent (i ∷ at.is) p.here.begun p.absent (in_items at.I p.here.begun at.next at.U); comes = at.comes; made = of at.is p.here.begun p.absent (in_items at.I p.here.begun at.next at.U) (get_or heads i None) refl du }
  where
    of : (is : List ℕ) (r d : ℕ) (V : Stack) (o : Option Levels) → get_or heads i None ≡ o → due_levels 0 0 (Some d) r o ≡ None → turn_absent i is r d V (ts i) ≡ stops
    of is r d V None e h = ap (turn_absent i is r d V) (next_none heads ts i lv e)
    of is r d V (Some l) e h = let n = next_some heads ts i l lv e in
        ap (turn_absent i is r d V) n.is ∙ ap (λ (b : Bool). if b then gives (value i n.entry) (in_absent is r d V) else stops) (null_not_due r d n.entry l n.repetition n.definition h)

-- ---- a repeated field

pub record AtVisit (code : List FlatItem) (top : Items) (p : Spot) (S : Stack) (ts : ℕ → Option Triplet) (h : FlatVisit) : Type 0 where
  pub o : Option Lap
  pub below : List (Option ℕ)
  pub v : Visit
  pub B : Items
  pub I : Items
  pub next : ℕ → ℕ
  pub U : Stack
  pub comes : GoesOn top ts S (in_items (visit v B I) p.here.begun next U)
  pub same : plain_visit v (length v.leaves) h.body ≡ h
  pub run : IsRun code (suc p.here.place) (map flat_null v.leaves) (suc p.here.place + length v.leaves)
  pub body : IsBody code (Some (lap_of v h.body)) h.body B
  pub rest : IsCode code o (suc p.here.place + length v.leaves) I
  pub shut : p.shut.items ≡ below ++ map (first_shut next) (reverse (looks_for v.gates ++ gates_of I))
  pub around : IsAround code o p.returns.items below U
  pub rows : rows_below U ≡ p.rows

visit_end : (code : List FlatItem) (pc : ℕ) (h : FlatVisit) (o : Option Lap) → slice_get code pc ≡ Some (flat_visit h) → slice_get code pc ≡ Some (flat_end o) → ⊥
visit_end code pc h o e f = cc

same_visit : (code : List FlatItem) (pc : ℕ) (g h : FlatVisit) → slice_get code pc ≡ Some (flat_visit h) → slice_get code pc ≡ Some (flat_visit g) → g ≡ h
same_visit code pc g h e f = cc

pub at_visit : (code : List FlatItem) (top : Items) (p : Spot) (S : Stack) (ts : ℕ → Option Triplet) (h : FlatVisit) → slice_get code p.here.place ≡ Some (flat_visit h) → Settled code top p S ts → AtVisit code top p S ts h
at_visit code top p S ts h e (settled_items o below _ next U go (code_end _ _ f) s a n) = absurd (visit_end code p.here.place h o e f)
at_visit code top p S ts h e (settled_items o below _ next U go (code_give _ _ g I f c) s a n) = absurd (other_visit code p.here.place (plain_give g) h f e)
at_visit code top p S ts h e (settled_items o below _ next U go (code_visit _ _ body v B I f r l b c) s a n) =
    let q : plain_visit v (length v.leaves) body ≡ h = same_visit code p.here.place (plain_visit v (length v.leaves) body) h e f in
    let z : body ≡ h.body = ap (λ (x : FlatVisit). x.body) q in
    record {
      o = o;
      below = below;
      v = v;
      B = B;
      I = I;
      next = next;
      U = U;
      comes = go;
      same = subst (λ (x : ℕ). plain_visit v (length v.leaves) x ≡ h) z q;
      run = r;
      body = subst (λ (x : ℕ). IsBody code (Some (lap_of v x)) x B) z (l, b);
      rest = c;
      shut = s;
      around = a;
      rows = n;
    }
at_visit code top p S ts h e (settled_null o below i is at I next U go f r c s a n) = absurd (null_visit code p.here.place i h f e)

abbrev visits_or_passes : Items → Visit → Items → Items → ℕ → (ℕ → ℕ) → Stack → (ℕ → Option Triplet) → Bool → ℕ → Turn
visits_or_passes top v B I r next U ts b d = if b then gives (enter v.number) (in_items B r (definitions_of ts) (lapped v B (in_items I r next U))) else goes_on (in_absent v.leaves r d (in_items I r next U))

absent_turn : (top : Items) (v : Visit) (B I : Items) (r : ℕ) (next : ℕ → ℕ) (U : Stack) (ts : ℕ → Option Triplet) (sv : Option ℕ) (e d : ℕ) → first_shut next v.gates ≡ sv → e ≡ definition_of (ts v.leaf) → absent_level v.low sv e ≡ Some d
    → turn top (in_items (visit v B I) r next U) ts ≡ goes_on (in_absent v.leaves r d (in_items I r next U))
absent_turn top v B I r next U ts None e d s q h =
    let k = seen_open next v.gates v.low s in
    by_bit (nat_lt v.low (definition_of (ts v.leaf))) (ap (λ (x : ℕ). if nat_lt v.low x then None else Some v.low) (sym q) ∙ h)
  where
    none_is_some : None ≡ Some d → ⊥
    none_is_some q = cc

    same : Some v.low ≡ Some d → v.low ≡ d
    same q = cc

    by_bit : (b : Bool) → (if b then None else Some v.low) ≡ Some d → visits_or_passes top v B I r next U ts (are_open next v.gates && b) (reach next v.gates v.low) ≡ goes_on (in_absent v.leaves r d (in_items I r next U))
    by_bit true h = absurd (none_is_some h)
    by_bit false h = let k = seen_open next v.gates v.low s in rw (k.0, k.1, same h) refl
absent_turn top v B I r next U ts (Some x) e d s q h =
    let k = seen_shut next v.gates v.low x s in
    let w : x ≡ d = cc in
    rw (k.0, k.1, w) refl

entered_turn : (top : Items) (v : Visit) (B I : Items) (r : ℕ) (next : ℕ → ℕ) (U : Stack) (ts : ℕ → Option Triplet) (sv : Option ℕ) (e : ℕ) → first_shut next v.gates ≡ sv → e ≡ definition_of (ts v.leaf) → absent_level v.low sv e ≡ None
    → turn top (in_items (visit v B I) r next U) ts ≡ gives (enter v.number) (in_items B r (definitions_of ts) (lapped v B (in_items I r next U)))
entered_turn top v B I r next U ts None e s q h = by_bit (nat_lt v.low (definition_of (ts v.leaf))) (ap (λ (x : ℕ). if nat_lt v.low x then None else Some v.low) (sym q) ∙ h)
  where
    some_is_none : Some v.low ≡ None → ⊥
    some_is_none q = cc

    by_bit : (b : Bool) → (if b then None else Some v.low) ≡ None → visits_or_passes top v B I r next U ts (are_open next v.gates && b) (reach next v.gates v.low) ≡ gives (enter v.number) (in_items B r (definitions_of ts) (lapped v B (in_items I r next U)))
    by_bit true h = let k = seen_open next v.gates v.low s in rw k.0 refl
    by_bit false h = absurd (some_is_none h)
entered_turn top v B I r next U ts (Some x) e s q h = absurd (some_is_none h)
  where
    some_is_none : Some x ≡ None → ⊥
    some_is_none q = cc

pub passes_absent : (code : List FlatItem) (top : Items) (p q : Spot) (S : Stack) (ts : ℕ → Option Triplet) (heads : List (Option Levels)) (h : FlatVisit) (sv : Option ℕ) (d : ℕ)
    → AtVisit code top p S ts h → AreLevelsOf heads ts → TakesSeen h.gated p.shut.items q.shut.items sv → absent_level h.low sv (next_definitions heads h.leaf) ≡ Some d
    → q.stage ≡ Stage.Within → q.here ≡ record { place = suc p.here.place; begun = p.here.begun } → q.absent ≡ d → q.returns.items ≡ p.returns.items → q.rows ≡ p.rows
    → (V : Stack) × GoesOn top ts S V × IsSpot code q V
passes_absent code top p q S ts heads h sv d at lv tk ab qs qh qa qr qn =
    let v = at.v in
    let r = p.here.begun in
    let tk2 : TakesSeen (has_gates v.gates) p.shut.items q.shut.items sv = subst (λ (x : FlatVisit). TakesSeen x.gated p.shut.items q.shut.items sv) (sym at.same) tk in
    let ab2 : absent_level v.low sv (next_definitions heads v.leaf) ≡ Some d = subst (λ (x : FlatVisit). absent_level x.low sv (next_definitions heads x.leaf) ≡ Some d) (sym at.same) ab in
    let took = takes_its at.next v.gates (gates_of at.I) at.below p.shut.items q.shut.items sv at.shut tk2 in
    let V = in_absent v.leaves r d (in_items at.I r at.next at.U) in (
      V,
      goes_on_to top ts S (in_items (visit v at.B at.I) r at.next at.U) V at.comes (absent_turn top v at.B at.I r at.next at.U ts sv (next_definitions heads v.leaf) d (sym took.same) (same_next heads ts v.leaf lv) ab2),
      stands_absent code q at.o at.below v.leaves (suc p.here.place + length v.leaves) at.I at.next at.U (suc p.here.place) r d p.returns.items p.rows qs qh qa qr qn took.left at.run at.rest at.around at.rows,
    )

place_within : (code : List FlatItem) (o : Option Lap) (pc : ℕ) (I : Items) → IsCode code o pc I → pc < length code
place_within code o pc _ (code_end _ _ f) = slice_get_within code pc (flat_end o) f
place_within code o pc _ (code_give _ _ g I f c) = slice_get_within code pc (flat_give (plain_give g)) f
place_within code o pc _ (code_visit _ _ body v B I f r l b c) = slice_get_within code pc (flat_visit (plain_visit v (length v.leaves) body)) f

looks_of_body : (code : List FlatItem) (o : Option Lap) (pc : ℕ) (B : Items) → IsBody code o pc B → looks_there (slice_get code pc) ≡ reverse (gates_of B)
looks_of_body code o pc B b = ap looks_there b.0

-- the items of an instance that is begun
pub begins_body : (code : List FlatItem) (heads : List (Option Levels)) (ts : ℕ → Option Triplet) (o : Option Lap) (pc : ℕ) (B : Items) (old new : List (Option ℕ)) → AreLevelsOf heads ts → IsBody code o pc B
    → new ≡ old ++ map (first_shut (next_definitions heads)) (looks_there (slice_get code pc)) → new ≡ old ++ seen (definitions_of ts) B
begins_body code heads ts o pc B old new lv b e =
    e ∙ ap (λ (G : List (List Gate)). old ++ map (first_shut (next_definitions heads)) G) (looks_of_body code o pc B b) ∙ ap (λ (n : ℕ → ℕ). old ++ map (first_shut n) (reverse (gates_of B))) (same_definitions heads ts lv)

pub enters_first : (code : List FlatItem) (top : Items) (p q : Spot) (S : Stack) (ts : ℕ → Option Triplet) (heads : List (Option Levels)) (h : FlatVisit) (sv : Option ℕ) (mid : List (Option ℕ)) (f : Frame)
    → AtVisit code top p S ts h → AreLevelsOf heads ts → TakesSeen h.gated p.shut.items mid sv → absent_level h.low sv (next_definitions heads h.leaf) ≡ None
    → Begun code heads h.body p.here.begun mid q → (suc p.here.place + h.nulls ≤ length code → f.place ≡ suc p.here.place + h.nulls) → f.begun ≡ p.here.begun
    → q.returns.items ≡ p.returns.items ++ f ∷ [] → q.rows ≡ p.rows → MakesMove code top S ts q (enter h.number)
enters_first code top p q S ts heads h sv mid f at lv tk ab bg fp fb qr qn =
    let v = at.v in
    let r = p.here.begun in
    let tk2 : TakesSeen (has_gates v.gates) p.shut.items mid sv = subst (λ (x : FlatVisit). TakesSeen x.gated p.shut.items mid sv) (sym at.same) tk in
    let ab2 : absent_level v.low sv (next_definitions heads v.leaf) ≡ None = subst (λ (x : FlatVisit). absent_level x.low sv (next_definitions heads x.leaf) ≡ None) (sym at.same) ab in
    let took = takes_its at.next v.gates (gates_of at.I) at.below p.shut.items mid sv at.shut tk2 in
    let o : Option Lap = Some (lap_of v h.body) in
    let within : h.body < length code = slice_get_within code h.body (flat_look (reverse (gates_of at.B))) at.body.0 in
    let b = bg within in
    let many : length v.leaves ≡ h.nulls = ap (λ (x : FlatVisit). x.nulls) at.same in
    let behind : suc p.here.place + length v.leaves < length code = place_within code at.o (suc p.here.place + length v.leaves) at.I at.rest in
    let place : suc p.here.place + length v.leaves ≡ f.place = ap (λ (k : ℕ). suc p.here.place + k) many ∙ sym (fp (omega (arith, many, behind))) in
    let rest : IsCode code at.o f.place at.I = subst (λ (k : ℕ). IsCode code at.o k at.I) place at.rest in
    let W = in_items at.I r at.next at.U in
    let around : IsAround code o (p.returns.items ++ f ∷ []) mid (lapped v at.B W) =
    subst (λ (x : ℕ). IsAround code o (p.returns.items ++ f ∷ []) mid (lapped v at.B (in_items at.I x at.next at.U))) fb
    (around_instance at.o p.returns.items (p.returns.items ++ f ∷ []) f at.below mid v h.body at.B at.I at.next at.U refl took.left at.body rest at.around) in
    let result : MakesMove code top S ts q (enter v.number) = record {
      from = in_items (visit v at.B at.I) r at.next at.U;
      to = in_items at.B r (definitions_of ts) (lapped v at.B W);
      comes = at.comes;
      made = entered_turn top v at.B at.I r at.next at.U ts sv (next_definitions heads v.leaf) (sym took.same) (same_next heads ts v.leaf lv) ab2;
      stands = stands_items code q o mid at.B (definitions_of ts) (lapped v at.B W) (suc h.body) r (p.returns.items ++ f ∷ []) p.rows b.0 b.1 qr qn
          (begins_body code heads ts o h.body at.B mid q.shut.items lv at.body b.2) at.body.1 around at.rows;
    } in
    subst (λ (x : FlatVisit). MakesMove code top S ts q (enter x.number)) at.same result

-- ---- an end

pub record AtEnd (code : List FlatItem) (top : Items) (p : Spot) (S : Stack) (ts : ℕ → Option Triplet) (o : Option Lap) : Type 0 where
  pub next : ℕ → ℕ
  pub U : Stack
  pub comes : GoesOn top ts S U
  pub around : IsAround code o p.returns.items p.shut.items U
  pub rows : rows_below U ≡ p.rows

same_end : (code : List FlatItem) (pc : ℕ) (o l : Option Lap) → slice_get code pc ≡ Some (flat_end o) → slice_get code pc ≡ Some (flat_end l) → l ≡ o
same_end code pc o l e f = cc

pub at_end : (code : List FlatItem) (top : Items) (p : Spot) (S : Stack) (ts : ℕ → Option Triplet) (o : Option Lap) → slice_get code p.here.place ≡ Some (flat_end o) → Settled code top p S ts → AtEnd code top p S ts o
at_end code top p S ts o e (settled_items l below _ next U go (code_end _ _ f) s a n) =
    record {
      next = next;
      U = U;
      comes = goes_on_to top ts S (in_items nothing p.here.begun next U) U go refl;
      around = subst (λ (x : Option Lap). IsAround code x p.returns.items p.shut.items U) (same_end code p.here.place o l e f) (subst (λ (xs : List (Option ℕ)). IsAround code l p.returns.items xs U) (sym (s ∙ append-nil below)) a);
      rows = n;
    }
at_end code top p S ts o e (settled_items l below _ next U go (code_give _ _ g I f c) s a n) = absurd (other_end code p.here.place (plain_give g) o f e)
at_end code top p S ts o e (settled_items l below _ next U go (code_visit _ _ body v B I f r k b c) s a n) = absurd (visit_end code p.here.place (plain_visit v (length v.leaves) body) o f e)
at_end code top p S ts o e (settled_null l below i is at I next U go f r c s a n) = absurd (null_end code p.here.place i o f e)

pub leaves_record : (code : List FlatItem) (top : Items) (p q : Spot) (S : Stack) (ts : ℕ → Option Triplet) → AtEnd code top p S ts None → q.stage ≡ Stage.Between → q.returns.items ≡ p.returns.items → q.shut.items ≡ p.shut.items → q.rows ≡ p.rows
    → MakesMove code top S ts q (leave 0)
leaves_record code top p q S ts at qs qr qt qn = of at.U at.comes at.rows p.returns.items p.shut.items qr qt at.around
  where
    of : (U : Stack) → GoesOn top ts S U → rows_below U ≡ p.rows → (rs : List Frame) (sh : List (Option ℕ)) → q.returns.items ≡ rs → q.shut.items ≡ sh → IsAround code None rs sh U → MakesMove code top S ts q (leave 0)
    of _ go n _ _ r t (around_record m) =
        record { from = in_record m; to = between m; comes = go; made = refl; stands = subst (λ (x : ℕ). IsSpot code q (between x)) (qn ∙ sym n) (spot_between qs r t) }

-- an instance's field, by what is round it
pub record Round (code : List FlatItem) (l : Lap) (returns : List Frame) (shut : List (Option ℕ)) (U : Stack) : Type 0 where
  pub o : Option Lap
  pub before : List Frame
  pub f : Frame
  pub below : List (Option ℕ)
  pub v : Visit
  pub B : Items
  pub I : Items
  pub next : ℕ → ℕ
  pub V : Stack
  pub is : U ≡ lapped v B (in_items I f.begun next V)
  pub lap : lap_of v l.body ≡ l
  pub all : returns ≡ before ++ f ∷ []
  pub sight : shut ≡ below ++ seen next I
  pub body : IsBody code (Some (lap_of v l.body)) l.body B
  pub rest : IsCode code o f.place I
  pub around : IsAround code o before below V

pub round : (code : List FlatItem) (l : Lap) (returns : List Frame) (shut : List (Option ℕ)) (U : Stack) (o : Option Lap) → o ≡ Some l → IsAround code o returns shut U → Round code l returns shut U
round code l _ _ _ _ e (around_record n) = absurd (none_is_some e)
  where
    none_is_some : None ≡ Some l → ⊥
    none_is_some q = cc
round code l returns shut _ _ e (around_instance o before _ f below _ v body B I next V a s b c r) =
    let q : lap_of v body ≡ l = cc in
    let z : body ≡ l.body = ap (λ (x : Lap). x.body) q in
    record {
      o = o;
      before = before;
      f = f;
      below = below;
      v = v;
      B = B;
      I = I;
      next = next;
      V = V;
      is = refl;
      lap = subst (λ (x : ℕ). lap_of v x ≡ l) z q;
      all = a;
      sight = s;
      body = subst (λ (x : ℕ). IsBody code (Some (lap_of v x)) x B) z b;
      rest = c;
      around = r;
    }

nothing_last : {A : Type 0} (ys : List A) (y : A) → [] ≡ ys ++ y ∷ [] → ⊥
nothing_last [] y e = cc
nothing_last (z ∷ ys) y e = cc

same_last : {A : Type 0} (xs ys : List A) (x y : A) → xs ++ x ∷ [] ≡ ys ++ y ∷ [] → (x ≡ y) × (xs ≡ ys)
same_last [] [] x y e = let k : x ≡ y = cc in (k, refl)
same_last [] (z ∷ ys) x y e = let k : [] ≡ ys ++ y ∷ [] = cc in absurd (nothing_last ys y k)
same_last (z ∷ xs) [] x y e = let k : xs ++ x ∷ [] ≡ [] = cc in absurd (nothing_last xs x (sym k))
same_last (z ∷ xs) (w ∷ ys) x y e =
    let k : xs ++ x ∷ [] ≡ ys ++ y ∷ [] = cc in
    let h : z ≡ w = cc in
    let r = same_last xs ys x y k in
    (r.0, ap₂ (λ a us. a ∷ us) h r.1)

-- the repetition level that comes next, by what is kept
again_bit : (heads : List (Option Levels)) (ts : ℕ → Option Triplet) (v : Visit) (l : Lap) (b : Bool) → AreLevelsOf heads ts → lap_of v l.body ≡ l → (level_repetition (levels_at heads l.leaf) == l.level) ≡ b → (level_of (ts v.leaf) == v.level) ≡ b
again_bit heads ts v l b lv same e =
    ap (λ (x : ℕ). x == v.level) (sym (same_level heads ts v.leaf lv)) ∙ ap (λ (x : Lap). level_repetition (levels_at heads x.leaf) == x.level) same ∙ e

pub leaves_out : (code : List FlatItem) (top : Items) (p q : Spot) (S : Stack) (ts : ℕ → Option Triplet) (heads : List (Option Levels)) (l : Lap) (f : Frame)
    → AtEnd code top p S ts (Some l) → AreLevelsOf heads ts → (level_repetition (levels_at heads l.leaf) == l.level) ≡ false
    → q.stage ≡ Stage.Within → q.here ≡ f → p.returns.items ≡ q.returns.items ++ f ∷ [] → q.rows ≡ p.rows → q.shut.items ≡ p.shut.items → MakesMove code top S ts q (leave l.number)
leaves_out code top p q S ts heads l f at lv bt qs qh qr qn qt =
    let r = round code l p.returns.items p.shut.items at.U (Some l) refl at.around in
    let W = in_items r.I r.f.begun r.next r.V in
    let k = same_last q.returns.items r.before f r.f (sym qr ∙ r.all) in
    let bit : (level_of (ts r.v.leaf) == r.v.level) ≡ false = again_bit heads ts r.v l false lv r.lap bt in
    let rows : rows_below r.V ≡ p.rows = ap rows_below (sym r.is) ∙ at.rows in
    let result : MakesMove code top S ts q (leave r.v.number) = record {
      from = lapped r.v r.B W;
      to = W;
      comes = subst (GoesOn top ts S) r.is at.comes;
      made = ap (λ (b : Bool). gives (leave r.v.number) (if b then entering r.v r.B W else W)) bit;
      stands = stands_items code q r.o r.below r.I r.next r.V r.f.place r.f.begun r.before p.rows qs (qh ∙ k.0) k.1 qn (qt ∙ r.sight) r.rest r.around rows;
    } in
    subst (λ (x : Lap). MakesMove code top S ts q (leave x.number)) r.lap result

pub leaves_again : (code : List FlatItem) (top : Items) (p q : Spot) (S : Stack) (ts : ℕ → Option Triplet) (heads : List (Option Levels)) (l : Lap)
    → AtEnd code top p S ts (Some l) → AreLevelsOf heads ts → slice_get code p.here.place ≡ Some (flat_end (Some l)) → (level_repetition (levels_at heads l.leaf) == l.level) ≡ true
    → q.stage ≡ Stage.Again → q.here ≡ p.here → q.returns.items ≡ p.returns.items → q.rows ≡ p.rows → q.shut.items ≡ p.shut.items → MakesMove code top S ts q (leave l.number)
leaves_again code top p q S ts heads l at lv item bt qs qh qr qn qt =
    let r = round code l p.returns.items p.shut.items at.U (Some l) refl at.around in
    let W = in_items r.I r.f.begun r.next r.V in
    let bit : (level_of (ts r.v.leaf) == r.v.level) ≡ true = again_bit heads ts r.v l true lv r.lap bt in
    let rows : rows_below W ≡ q.rows = ap rows_below (sym r.is) ∙ at.rows ∙ sym qn in
    let here : slice_get code q.here.place ≡ Some (flat_end (Some (lap_of r.v l.body))) = ap (λ (x : Frame). slice_get code x.place) qh ∙ item ∙ ap (λ (x : Lap). Some (flat_end (Some x))) (sym r.lap) in
    let around : IsAround code (Some (lap_of r.v l.body)) q.returns.items q.shut.items (lapped r.v r.B W) =
    subst (λ (U : Stack). IsAround code (Some (lap_of r.v l.body)) q.returns.items q.shut.items U) r.is
    (subst (λ (x : Lap). IsAround code (Some x) q.returns.items q.shut.items at.U) (sym r.lap)
    (subst (λ (rs : List Frame). IsAround code (Some l) rs q.shut.items at.U) (sym qr) (subst (λ (sh : List (Option ℕ)). IsAround code (Some l) p.returns.items sh at.U) (sym qt) at.around))) in
    let result : MakesMove code top S ts q (leave r.v.number) = record {
      from = lapped r.v r.B W;
      to = entering r.v r.B W;
      comes = subst (GoesOn top ts S) r.is at.comes;
      made = ap (λ (b : Bool). gives (leave r.v.number) (if b then entering r.v r.B W else W)) bit;
      stands = spot_again r.v l.body r.B W qs here around rows;
    } in
    subst (λ (x : Lap). MakesMove code top S ts q (leave x.number)) r.lap result

-- there is an instance round it
pub is_within : (code : List FlatItem) (top : Items) (p : Spot) (S : Stack) (ts : ℕ → Option Triplet) (l : Lap) → AtEnd code top p S ts (Some l) → p.returns.items ≡ [] → ⊥
is_within code top p S ts l at e = let r = round code l p.returns.items p.shut.items at.U (Some l) refl at.around in nothing_last r.before r.f (sym e ∙ r.all)

-- ---- beginnings

pub begins_record : (code : List FlatItem) (top : Items) (p q : Spot) (S : Stack) (ts : ℕ → Option Triplet) (heads : List (Option Levels)) (root : ℕ) → p.stage ≡ Stage.Between → IsBody code None root top → IsSpot code p S → AreLevelsOf heads ts
    → p.rows ≡ suc q.rows → Begun code heads root 0 p.shut.items q → q.returns.items ≡ p.returns.items → MakesMove code top S ts q (enter 0)
begins_record code top p q _ ts heads root w b (spot_between e r s) lv n bg qr =
    let g = bg (slice_get_within code root (flat_look (reverse (gates_of top))) b.0) in
    let shut : q.shut.items ≡ [] ++ seen (definitions_of ts) top = begins_body code heads ts None root top [] q.shut.items lv b (g.2 ∙ ap (λ (xs : List (Option ℕ)). xs ++ map (first_shut (next_definitions heads)) (looks_there (slice_get code root))) s) in
    record {
      from = between p.rows;
      to = in_items top 0 (definitions_of ts) (in_record q.rows);
      comes = stays_here (between p.rows);
      made = ap (λ (k : ℕ). turn top (between k) ts) n;
      stands = stands_items code q None [] top (definitions_of ts) (in_record q.rows) (suc root) 0 [] q.rows g.0 g.1 (qr ∙ r) refl shut b.1 (around_record q.rows) refl;
    }
begins_record code top p q _ ts heads root w b (spot_items o below I next U e c s a n) lv m bg qr = absurd (other w e)
  where
    other : p.stage ≡ Stage.Between → p.stage ≡ Stage.Within → ⊥
    other x y = cc
begins_record code top p q _ ts heads root w b (spot_absent o below is at I next U e r c s a n) lv m bg qr = absurd (other w e)
  where
    other : p.stage ≡ Stage.Between → p.stage ≡ Stage.Within → ⊥
    other x y = cc
begins_record code top p q _ ts heads root w b (spot_again v body B U e f a n) lv m bg qr = absurd (other w e)
  where
    other : p.stage ≡ Stage.Between → p.stage ≡ Stage.Again → ⊥
    other x y = cc

pub all_done : (code : List FlatItem) (top : Items) (p : Spot) (S : Stack) (ts : ℕ → Option Triplet) → p.stage ≡ Stage.Between → IsSpot code p S → p.rows ≡ 0 → Finishes code top S ts p
all_done code top p _ ts w (spot_between e r s) n = record { from = between p.rows; comes = stays_here (between p.rows); made = ap (λ (k : ℕ). turn top (between k) ts) n; stands = spot_between e r s }
all_done code top p _ ts w (spot_items o below I next U e c s a n) m = absurd (other w e)
  where
    other : p.stage ≡ Stage.Between → p.stage ≡ Stage.Within → ⊥
    other x y = cc
all_done code top p _ ts w (spot_absent o below is at I next U e r c s a n) m = absurd (other w e)
  where
    other : p.stage ≡ Stage.Between → p.stage ≡ Stage.Within → ⊥
    other x y = cc
all_done code top p _ ts w (spot_again v body B U e f a n) m = absurd (other w e)
  where
    other : p.stage ≡ Stage.Between → p.stage ≡ Stage.Again → ⊥
    other x y = cc

-- at the end of an instance that another follows
pub record AtAgain (code : List FlatItem) (p : Spot) (S : Stack) : Type 0 where
  pub v : Visit
  pub body : ℕ
  pub B : Items
  pub U : Stack
  pub is : S ≡ entering v B U
  pub there : lap_there (slice_get code p.here.place) ≡ Some (lap_of v body)
  pub items : IsBody code (Some (lap_of v body)) body B
  pub around : IsAround code (Some (lap_of v body)) p.returns.items p.shut.items (lapped v B U)
  pub rows : rows_below U ≡ p.rows

abbrev body_there : Option Lap → ℕ
body_there None = 0
body_there (Some l) = l.body

same_body : (code : List FlatItem) (v : Visit) (body : ℕ) (B : Items) (U : Stack) (o : Option Lap) (T : Stack) (rs : List Frame) (sh : List (Option ℕ)) → o ≡ Some (lap_of v body) → T ≡ lapped v B U → IsAround code o rs sh T → IsBody code (Some (lap_of v body)) body B
same_body code v body B U _ _ _ _ e f (around_record n) = absurd (other e)
  where
    other : None ≡ Some (lap_of v body) → ⊥
    other q = cc
same_body code v body B U _ _ rs sh e f (around_instance o before _ g below _ w place C I next V a s b c r) =
    let q : place ≡ body = ap body_there e in
    let z : C ≡ B = cc in
    let y : w ≡ v = cc in
    subst (λ (x : Visit). IsBody code (Some (lap_of x body)) body B) y (subst (λ (x : ℕ). IsBody code (Some (lap_of w x)) x B) q (subst (λ (D : Items). IsBody code (Some (lap_of w place)) place D) z b))

pub at_again : (code : List FlatItem) (p : Spot) (S : Stack) → p.stage ≡ Stage.Again → IsSpot code p S → AtAgain code p S
at_again code p _ w (spot_between e r s) = absurd (other w e)
  where
    other : p.stage ≡ Stage.Again → p.stage ≡ Stage.Between → ⊥
    other x y = cc
at_again code p _ w (spot_items o below I next U e c s a n) = absurd (other w e)
  where
    other : p.stage ≡ Stage.Again → p.stage ≡ Stage.Within → ⊥
    other x y = cc
at_again code p _ w (spot_absent o below is at I next U e r c s a n) = absurd (other w e)
  where
    other : p.stage ≡ Stage.Again → p.stage ≡ Stage.Within → ⊥
    other x y = cc
at_again code p _ w (spot_again v body B U e f a n) =
    record { v = v; body = body; B = B; U = U; is = refl; there = ap lap_there f; items = same_body code v body B U (Some (lap_of v body)) (lapped v B U) p.returns.items p.shut.items refl refl a; around = a; rows = n }

pub begins_again : (code : List FlatItem) (top : Items) (p q : Spot) (S : Stack) (ts : ℕ → Option Triplet) (heads : List (Option Levels)) (l : Lap) → AtAgain code p S → AreLevelsOf heads ts
    → lap_there (slice_get code p.here.place) ≡ Some l → Begun code heads l.body l.level p.shut.items q → q.returns.items ≡ p.returns.items → q.rows ≡ p.rows → MakesMove code top S ts q (enter l.number)
begins_again code top p q S ts heads l at lv th bg qr qn =
    let same : lap_of at.v at.body ≡ l = one_lap (lap_of at.v at.body) (sym at.there ∙ th) in
    let o : Option Lap = Some (lap_of at.v at.body) in
    let bg2 : Begun code heads at.body at.v.level p.shut.items q = subst (λ (x : Lap). Begun code heads x.body x.level p.shut.items q) (sym same) bg in
    let g = bg2 (slice_get_within code at.body (flat_look (reverse (gates_of at.B))) at.items.0) in
    let result : MakesMove code top S ts q (enter at.v.number) = record {
      from = entering at.v at.B at.U;
      to = in_items at.B at.v.level (definitions_of ts) (lapped at.v at.B at.U);
      comes = subst (GoesOn top ts S) at.is (stays_here S);
      made = refl;
      stands = stands_items code q o p.shut.items at.B (definitions_of ts) (lapped at.v at.B at.U) (suc at.body) at.v.level p.returns.items p.rows g.0 g.1 qr qn
          (begins_body code heads ts o at.body at.B p.shut.items q.shut.items lv at.items g.2) at.items.1 at.around at.rows;
    } in
    subst (λ (x : Lap). MakesMove code top S ts q (enter x.number)) same result
  where
    one_lap : (x : Lap) → Some x ≡ Some l → x ≡ l
    one_lap x e = cc

pub no_lap_there : (code : List FlatItem) (p : Spot) (S : Stack) → AtAgain code p S → lap_there (slice_get code p.here.place) ≡ None → ⊥
no_lap_there code p S at e = none_is_some (sym e ∙ at.there)
  where
    none_is_some : None ≡ Some (lap_of at.v at.body) → ⊥
    none_is_some q = cc

pub tests_true : (a b c : ℕ) → a ≡ b → a ≡ c → (c == b) ≡ true
tests_true a b c e f = ap (λ (x : ℕ). x == b) (sym f ∙ e) ∙ itself b
  where
    itself : (x : ℕ) → (x == x) ≡ true
    itself x = grind (arith, nat_tests)

pub tests_false : (a b c : ℕ) → (a ≡ b → ⊥) → a ≡ c → (c == b) ≡ false
tests_false a b c e f = ne_eqb c b (λ g. e (f ∙ g))

-- ---- the item at a place

pub item_there : (items : List Item) (place : ℕ) (x y : Item) → place < length items → x ≡ get_or items place x → x ≡ y → slice_get (items_view items) place ≡ Some (item_view y)
item_there items place x y w e f = slice_get-map item_view items place ∙ ap (option_map item_view) (slice_get_read items (length items) place x refl w e) ∙ ap (λ (i : Item). Some (item_view i)) f

pub no_item : (items : List Item) (place : ℕ) → length items ≤ place → slice_get (items_view items) place ≡ None
no_item items place w = slice_get-map item_view items place ∙ ap (option_map item_view) (slice_get_past items place w)

look_end : (code : List FlatItem) (pc : ℕ) (G : List (List Gate)) (o : Option Lap) → slice_get code pc ≡ Some (flat_look G) → slice_get code pc ≡ Some (flat_end o) → ⊥
look_end code pc G o e f = cc

look_give : (code : List FlatItem) (pc : ℕ) (G : List (List Gate)) (g : FlatGive) → slice_get code pc ≡ Some (flat_look G) → slice_get code pc ≡ Some (flat_give g) → ⊥
look_give code pc G g e f = cc

look_visit : (code : List FlatItem) (pc : ℕ) (G : List (List Gate)) (v : FlatVisit) → slice_get code pc ≡ Some (flat_look G) → slice_get code pc ≡ Some (flat_visit v) → ⊥
look_visit code pc G v e f = cc

look_null : (code : List FlatItem) (pc : ℕ) (G : List (List Gate)) (i : ℕ) → slice_get code pc ≡ Some (flat_look G) → slice_get code pc ≡ Some (flat_null i) → ⊥
look_null code pc G i e f = cc

pub no_look : (code : List FlatItem) (top : Items) (p : Spot) (S : Stack) (ts : ℕ → Option Triplet) (G : List (List Gate)) → slice_get code p.here.place ≡ Some (flat_look G) → Settled code top p S ts → ⊥
no_look code top p S ts G e (settled_items o below _ next U go (code_end _ _ f) s a n) = look_end code p.here.place G o e f
no_look code top p S ts G e (settled_items o below _ next U go (code_give _ _ g I f c) s a n) = look_give code p.here.place G (plain_give g) e f
no_look code top p S ts G e (settled_items o below _ next U go (code_visit _ _ body v B I f r l b c) s a n) = look_visit code p.here.place G (plain_visit v (length v.leaves) body) e f
no_look code top p S ts G e (settled_null o below i is at I next U go f r c s a n) = look_null code p.here.place G i e f

not_there : (code : List FlatItem) (pc : ℕ) (x : FlatItem) → slice_get code pc ≡ None → slice_get code pc ≡ Some x → ⊥
not_there code pc x e f = cc

pub no_end : (code : List FlatItem) (top : Items) (p : Spot) (S : Stack) (ts : ℕ → Option Triplet) → slice_get code p.here.place ≡ None → Settled code top p S ts → ⊥
no_end code top p S ts e (settled_items o below _ next U go (code_end _ _ f) s a n) = not_there code p.here.place (flat_end o) e f
no_end code top p S ts e (settled_items o below _ next U go (code_give _ _ g I f c) s a n) = not_there code p.here.place (flat_give (plain_give g)) e f
no_end code top p S ts e (settled_items o below _ next U go (code_visit _ _ body v B I f r l b c) s a n) = not_there code p.here.place (flat_visit (plain_visit v (length v.leaves) body)) e f
no_end code top p S ts e (settled_null o below i is at I next U go f r c s a n) = not_there code p.here.place (flat_null i) e f

-- ---- turns before others

pub goes_far : (top : Items) (ts : ℕ → Option Triplet) (S V W : Stack) → GoesOn top ts S V → GoesOn top ts V W → GoesOn top ts S W
goes_far top ts _ _ W (stays_here S) g = g
goes_far top ts _ _ W (goes_further S U V e f) g = goes_further S U W e (goes_far top ts U V W f g)

pub turn_behind : (code : List FlatItem) (top : Items) (S V : Stack) (ts : ℕ → Option Triplet) (p : Spot) (t : CodeTurn) → GoesOn top ts S V → IsTurn code top V ts p t → IsTurn code top S ts p t
turn_behind code top S V ts p CodeTurn.Done g h = record { from = h.from; comes = goes_far top ts S V h.from g h.comes; made = h.made; stands = h.stands }
turn_behind code top S V ts p CodeTurn.Stops g h = record { from = h.from; comes = goes_far top ts S V h.from g h.comes; made = h.made }
turn_behind code top S V ts p CodeTurn.Passes g h = (h.0, goes_far top ts S V h.0 g h.1, h.2)
turn_behind code top S V ts p (CodeTurn.Enters k) g h = record { from = h.from; to = h.to; comes = goes_far top ts S V h.from g h.comes; made = h.made; stands = h.stands }
turn_behind code top S V ts p (CodeTurn.Leaves k) g h = record { from = h.from; to = h.to; comes = goes_far top ts S V h.from g h.comes; made = h.made; stands = h.stands }
turn_behind code top S V ts p (CodeTurn.Gives i l k) g h = record { from = h.from; to = h.to; comes = goes_far top ts S V h.from g h.comes; entry = h.entry; next = h.next; levels = h.levels; made = h.made; stands = h.stands }
