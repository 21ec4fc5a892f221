-- Over the columns of moves that follow a course the turns lead to the end, and give these moves.
use Rattle.std.proofs.Common.{◌≡◌, ℕ, suc, List, [], ◌∷◌, length, Bool, true, false, ◌&&◌, ◌==◌, Some, None, refl, sym, ap, subst, ◌∙◌}
use Rattle.std.specs.Prelude.{nat_lt, if◌then◌else◌}
use Rattle.std.proofs.lemmas.Bool.{eq-eqb}
use Rattle.dr_meaning.specs.Column.{triplet}
use Rattle.dr_meaning.specs.Walk.{Move, enter, value, leave, walk}
use Rattle.dr_meaning.specs.WalkLaws.{triplets_of}
use Rattle.dr_meaning.specs.AutomatonLaws.{next_level}
use Rattle.dr_moves.specs.Course.{reach, are_open, Visit, Items, nothing, give, visit, course}
use Rattle.dr_moves.specs.Turning.{Stack, between, in_record, in_items, in_absent, lapped, entering, gives, goes_on, stops, definition_of, level_of, definitions_of, is_due, turn_given, is_null, turn_absent, turn}
use Rattle.dr_moves.specs.Leading.{Left, head_of, heads, behind_move, Leads, stays, moves, turns, has_columns}
use Rattle.dr_moves.specs.CourseLaws.{RecordsLeadThrough}
use Rattle.dr_moves.proofs.Following.{next_definition, heads_of, Follows, ended, record_begun, record_ended, items_done, given, visited, skipped, absent_done, absent_given, lap_more, lap_last, entered}
use Rattle.dr_moves.proofs.TurnLemmas.{same_level, same_definitions, heads_here}
use Rattle.dr_moves.proofs.LeadingLemmas.{same_heads, behind_columns, walk_columns}
use Rattle.dr_moves.proofs.WalkFollows.{walk_follows}

-- these moves are led to from here, and nothing is left in the end
record Through (T : Items) (S : Stack) (left : Left) (ms : List Move) : Type 0 where
  end : Left
  leads : Leads T S left ms (between 0) end
  empty : (i : ℕ) → end i ≡ []

by_move : (T : Items) (S U : Stack) (left : Left) (m : Move) (ms : List Move) → turn T S (heads left) ≡ gives m U → Through T U (behind_move m left) ms → Through T S left (m ∷ ms)
by_move T S U left m ms e k = record { end = k.end; leads = moves S U (between 0) left k.end m ms e k.leads; empty = k.empty }

by_turn : (T : Items) (S U : Stack) (left : Left) (ms : List Move) → turn T S (heads left) ≡ goes_on U → Through T U left ms → Through T S left ms
by_turn T S U left ms e k = record { end = k.end; leads = turns S U (between 0) left k.end ms e k.leads; empty = k.empty }

-- what comes next in the columns of moves is what comes next in the moves
abbrev HasColumnsOf : Left → List Move → Type 0
HasColumnsOf left ms = (i : ℕ) → left i ≡ triplets_of i ms

next_head : (left : Left) (ms : List Move) (i : ℕ) → HasColumnsOf left ms → heads left i ≡ heads_of ms i
next_head left ms i h = ap head_of (h i) ∙ same_heads i ms

next_definitions : (left : Left) (ms : List Move) → HasColumnsOf left ms → definitions_of (heads left) ≡ next_definition ms
next_definitions left ms h = ap definitions_of (λ j i. next_head left ms i h j) ∙ same_definitions ms

-- a visit begins, or not, by the definition level that comes next
visit_turn : (T : Items) (v : Visit) (B I : Items) (r : ℕ) (next : ℕ → ℕ) (S : Stack) (left : Left) (b : Bool) → (are_open next v.gates && nat_lt v.low (definition_of (heads left v.leaf))) ≡ b
    → turn T (in_items (visit v B I) r next S) (heads left) ≡ (if b then gives (enter v.number) (in_items B r (definitions_of (heads left)) (lapped v B (in_items I r next S))) else goes_on (in_absent v.leaves r (reach next v.gates v.low) (in_items I r next S)))
visit_turn T v B I r next S left b e = ap (λ (x : Bool). if x then gives (enter v.number) (in_items B r (definitions_of (heads left)) (lapped v B (in_items I r next S))) else goes_on (in_absent v.leaves r (reach next v.gates v.low) (in_items I r next S))) e

lap_turn : (T : Items) (v : Visit) (B : Items) (S : Stack) (left : Left) (ms : List Move) (b : Bool) → HasColumnsOf left ms → (next_level v.leaf ms == v.level) ≡ b → turn T (lapped v B S) (heads left) ≡ gives (leave v.number) (if b then entering v B S else S)
lap_turn T v B S left ms b h e = ap (λ (x : Bool). gives (leave v.number) (if x then entering v B S else S)) (ap (λ (x : ℕ). x == v.level) (ap level_of (next_head left ms v.leaf h) ∙ same_level ms v.leaf) ∙ e)

led_through : (T : Items) (S : Stack) (ms : List Move) → Follows T S ms → (left : Left) → HasColumnsOf left ms → Through T S left ms
led_through T _ _ ended left h = record { end = left; leads = stays (between 0) left; empty = h }
led_through T _ _ (record_begun n ms f) left h =
    by_move T (between (suc n)) (in_items T 0 (definitions_of (heads left)) (in_record n)) left (enter 0) ms refl
    (subst (λ (x : ℕ → ℕ). Through T (in_items T 0 x (in_record n)) (behind_move (enter 0) left) ms) (sym (next_definitions left ms h)) (led_through T (in_items T 0 (next_definition ms) (in_record n)) ms f (behind_move (enter 0) left) h))
led_through T _ _ (record_ended n ms f) left h = by_move T (in_record n) (between n) left (leave 0) ms refl (led_through T (between n) ms f (behind_move (leave 0) left) h)
led_through T _ _ (items_done r next S ms f) left h = by_turn T (in_items nothing r next S) S left ms refl (led_through T S ms f left h)
led_through T _ _ (given g I r next S t ms p q v f) left h =
    let due : is_due g r next t ≡ true = rw (eq-eqb t.repetition r p, q, v) refl in
    let e : heads left g.leaf ≡ Some t = next_head left (value g.leaf t ∷ ms) g.leaf h ∙ heads_here g.leaf t ms in
    by_move T (in_items (give g I) r next S) (in_items I r next S) left (value g.leaf t) ms
    (ap (turn_given g I r next S) e ∙ ap (λ (b : Bool). if b then gives (value g.leaf t) (in_items I r next S) else stops) due)
    (led_through T (in_items I r next S) ms f (behind_move (value g.leaf t) left) (behind_columns (value g.leaf t) left ms h))
led_through T _ _ (visited v B I r next S ms o f) left h =
    let d : definitions_of (heads left) ≡ next_definition ms = next_definitions left ms h in
    let L : Stack = lapped v B (in_items I r next S) in
    by_move T (in_items (visit v B I) r next S) (in_items B r (definitions_of (heads left)) L) left (enter v.number) ms
    (visit_turn T v B I r next S left true (ap (λ (x : ℕ → ℕ). are_open next v.gates && nat_lt v.low (x v.leaf)) d ∙ o))
    (subst (λ (x : ℕ → ℕ). Through T (in_items B r x L) (behind_move (enter v.number) left) ms) (sym d) (led_through T (in_items B r (next_definition ms) L) ms f (behind_move (enter v.number) left) h))
led_through T _ _ (skipped v B I r next S ms o f) left h =
    by_turn T (in_items (visit v B I) r next S) (in_absent v.leaves r (reach next v.gates v.low) (in_items I r next S)) left ms
    (visit_turn T v B I r next S left false (ap (λ (x : ℕ → ℕ). are_open next v.gates && nat_lt v.low (x v.leaf)) (next_definitions left ms h) ∙ o))
    (led_through T (in_absent v.leaves r (reach next v.gates v.low) (in_items I r next S)) ms f left h)
led_through T _ _ (absent_done r d S ms f) left h = by_turn T (in_absent [] r d S) S left ms refl (led_through T S ms f left h)
led_through T _ _ (absent_given i is r d S ms f) left h =
    let due : is_null r d (triplet r d None) ≡ true = rw (eq-eqb r r refl, eq-eqb d d refl) refl in
    let e : heads left i ≡ Some (triplet r d None) = next_head left (value i (triplet r d None) ∷ ms) i h ∙ heads_here i (triplet r d None) ms in
    by_move T (in_absent (i ∷ is) r d S) (in_absent is r d S) left (value i (triplet r d None)) ms
    (ap (turn_absent i is r d S) e ∙ ap (λ (b : Bool). if b then gives (value i (triplet r d None)) (in_absent is r d S) else stops) due)
    (led_through T (in_absent is r d S) ms f (behind_move (value i (triplet r d None)) left) (behind_columns (value i (triplet r d None)) left ms h))
led_through T _ _ (lap_more v B S ms e f) left h = by_move T (lapped v B S) (entering v B S) left (leave v.number) ms (lap_turn T v B S left ms true h e) (led_through T (entering v B S) ms f (behind_move (leave v.number) left) h)
led_through T _ _ (lap_last v B S ms e f) left h = by_move T (lapped v B S) S left (leave v.number) ms (lap_turn T v B S left ms false h e) (led_through T S ms f (behind_move (leave v.number) left) h)
led_through T _ _ (entered v B S ms f) left h =
    by_move T (entering v B S) (in_items B v.level (definitions_of (heads left)) (lapped v B S)) left (enter v.number) ms refl
    (subst (λ (x : ℕ → ℕ). Through T (in_items B v.level x (lapped v B S)) (behind_move (enter v.number) left) ms) (sym (next_definitions left ms h)) (led_through T (in_items B v.level (next_definition ms) (lapped v B S)) ms f (behind_move (enter v.number) left) h))

pub records_lead_through : RecordsLeadThrough
records_lead_through fs F R h v =
    let k = led_through (course fs F) (between (length R)) (walk fs F R) (walk_follows fs F R h v) (has_columns F R) (walk_columns fs F R h v) in
    (k.end, k.leads, k.empty)
