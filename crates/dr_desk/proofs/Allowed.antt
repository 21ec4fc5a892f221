-- Each step of the seats is allowed by the rule of their table.
use Rattle.std.proofs.Common.{◌≡◌, ℕ, suc, ◌+◌, ◌<◌, ◌≤◌, List, [], ◌∷◌, ◌++◌, length, Bool, true, false, ◌||◌, refl, sym, ap, ◌∙◌, subst, arith, append-nil, length-append, eq-eqb}
use Rattle.std.specs.Prelude.{◌==◌, slice_index, slice_set, if◌then◌else◌}
use Rattle.std.proofs.lemmas.Bool.{eqb-true}
use Rattle.std.proofs.Math.Bool.{or-true}
use mathlib.Core.List.{IsPrefix}
use mathlib.Core.Option.{Option, none, some}
use lib.ListN.{get_elem?}
use prog.Atomic.{either}
use Rattle.atomic_table.specs.Table.{State, Me, step, keeps, stepped, Allows, Splits, Joins, opening}
use Rattle.atomic_table.proofs.Lists.{set_else, set_again, exchanged}
use Rattle.dr_dispatch.specs.Seen.{has_place, Ascends}
use Rattle.dr_dispatch.specs.Seats.{keeper_at, spent, handed, gathered, passed, keeper_of, newcomer_of, looked, added, drawing, IsKept, AreDrawn}
use Rattle.dr_dispatch.specs.SeatLaws.{IsKeeperAt}
use Rattle.dr_dispatch.specs.declared.event.Event.{Event}
use Rattle.dr_dispatch.specs.declared.seen.SeatView.{SeatView}
use Rattle.dr_dispatch.proofs.SeatLemmas.{first_keeps, keeper_knows, look_keeps, add_keeps, hand_keeps, gather_keeps, pass_keeps, newcomer_keeps}
use Rattle.dr_dispatch.proofs.DrawnLemmas.{drawing_keeps, none_are_drawn, drawn_are_below, drawing_is_drawn, others_are_drawn, splits_are_drawn, joins_are_drawn}
use Rattle.dr_dispatch.proofs.Prefixes.{prefix_length}
use Rattle.dr_desk.specs.Rule.{Holds, LookTells, AddTells, DrawTells}

-- own places still ascend where more is seen
pub ascends_longer : (least : ℕ) (own : List ℕ) (n m : ℕ) → n ≤ m → Ascends least own n → Ascends least own m
ascends_longer least [] n m le a = omega arith
ascends_longer least (p ∷ own) n m le a = (a.0, ascends_longer (suc p) own n m le a.1)

-- and with the place behind all that was seen
pub ascends_push : (least : ℕ) (own : List ℕ) (n : ℕ) → Ascends least own n → Ascends least (own ++ n ∷ []) (n + 1)
ascends_push least [] n a = (a, omega arith)
ascends_push least (p ∷ own) n a = (a.0, ascends_push (suc p) own n a.1)

-- where the keeper's seat joins a pass's, and where that adds an event
pub ascends_entered : (v w : SeatView) → w.own ≡ [] → IsPrefix v.seen w.seen → Ascends 0 v.own (length v.seen) → Ascends 0 (v.own ++ w.own) (length w.seen)
ascends_entered v w unowned pre a =
    subst (λ (own : List ℕ). Ascends 0 own (length w.seen)) (sym (ap (λ (own : List ℕ). v.own ++ own) unowned ∙ append-nil v.own))
    (ascends_longer 0 v.own (length v.seen) (length w.seen) (prefix_length v.seen w.seen pre) a)

pub ascends_added : (v : SeatView) (n : ℕ) (e : Event) → length v.seen ≡ n → Ascends 0 v.own (length v.seen) → Ascends 0 (v.own ++ n ∷ []) (length (v.seen ++ e ∷ []))
ascends_added v n e is a =
    subst (Ascends 0 (v.own ++ n ∷ [])) (ap (λ (k : ℕ). k + 1) (sym is) ∙ sym (length-append v.seen (e ∷ [])))
    (ascends_push 0 v.own n (subst (Ascends 0 v.own) is a))

-- ---- what a pass drew

-- numbers that ascend, and are all below another end, ascend below that
pub ascends_below : (least : ℕ) (drawn : List ℕ) (n end : ℕ) → Ascends least drawn n → least ≤ end → ((t : ℕ) → has_place t drawn ≡ true → t < end) → Ascends least drawn end
ascends_below least [] n end a le below = le
ascends_below least (t ∷ drawn) n end a le below =
    let here : t < end = below t (ap (λ b. b || has_place t drawn) (eq-eqb t t refl)) in (
      a.0,
      ascends_below (suc t) drawn n end a.1 (omega (arith, here)) (λ u h. below u (ap (λ b. (t == u) || b) h ∙ or-true (t == u))),
    )

-- after a draw, won or lost
pub ascends_drawn : (v : SeatView) (n found : ℕ) → Ascends 0 v.drawn n → ((t : ℕ) → has_place t v.drawn ≡ true → t < found) → (b : Bool) → (found == n) ≡ b
    → Ascends 0 (if b then drawing n v else v).drawn (if b then n + 1 else found)
ascends_drawn v n found a below true is = ascends_push 0 v.drawn n a
ascends_drawn v n found a below false is = ascends_below 0 v.drawn n found a (omega arith) below

-- ---- the steps

module _ (tablets : ℕ) where
  -- the table as it is made
  pub begins : Holds tablets (opening (0 ∷ 0 ∷ []) [] (keeper_at []))
  begins = record { count = 0; next = 0; words = refl; kept = first_keeps; drawn = none_are_drawn tablets }

  -- the views change, and the words don't
  same_words : (s : State Event SeatView) → Holds tablets s → (homes : List (Option Event)) (views : List SeatView) → ((count : ℕ) → IsKept s.views count → IsKept views count)
      → ((next : ℕ) → AreDrawn tablets s.views next → AreDrawn tablets views next) → Holds tablets (record { words = s.words; homes = homes; views = views })
  same_words s h homes views goes draws = record { count = h.count; next = h.next; words = h.words; kept = goes h.count h.kept; drawn = draws h.next h.drawn }

  pub hands : (id : ℕ) (v : SeatView) (other : ℕ) (w : SeatView) → w.keeps ≡ true → Joins (Holds tablets) id v other w (handed v w) spent
  hands id v other w mark s h at apart there =
      let there' = sym (set_else s.views id other (handed v w) apart) ∙ there in
      same_words s h s.homes _ (λ count kept. hand_keeps s.views count id v other w kept at apart (record { there = there'; keeps = mark }))
      (λ next drawn. joins_are_drawn tablets s.views next id v other w (handed v w) drawn at apart there' refl)

  pub gathers : (id : ℕ) (v : SeatView) (other : ℕ) (w : SeatView) → v.keeps ≡ true → Joins (Holds tablets) id v other w (gathered v w) spent
  gathers id v other w mark s h at apart there =
      let there' = sym (set_else s.views id other (gathered v w) apart) ∙ there in
      same_words s h s.homes _ (λ count kept. gather_keeps s.views count id v other w kept (record { there = at; keeps = mark }) apart there')
      (λ next drawn. joins_are_drawn tablets s.views next id v other w (gathered v w) drawn at apart there' refl)

  pub passes : (id : ℕ) (v : SeatView) → v.keeps ≡ true → Splits (Holds tablets) id v (passed v) (keeper_of v)
  passes id v mark s h at =
      same_words s h s.homes _ (λ count kept. pass_keeps s.views count id v kept (record { there = at; keeps = mark }))
      (λ next drawn. splits_are_drawn tablets (slice_set s.views id (passed v)) next (keeper_of v) (others_are_drawn tablets s.views next id v (passed v) drawn at refl) refl)

  pub newcomers : (id : ℕ) (v : SeatView) → Splits (Holds tablets) id v v (newcomer_of v)
  newcomers id v s h at =
      same_words s h s.homes _ (λ count kept. newcomer_keeps s.views count id v kept at)
      (λ next drawn. splits_are_drawn tablets (slice_set s.views id v) next (newcomer_of v) (others_are_drawn tablets s.views next id v v drawn at refl) refl)

  pub looks : (slots id : ℕ) (me : Me Event SeatView) → me.0.keeps ≡ true → Allows (Holds tablets) slots id me 0 (λ n. n) (LookTells (step slots 0 0 0 none) me)
  looks slots id me mark s h homes at small =
      let it : IsKeeperAt s.views id me.0 = record { there = at; keeps = mark } in
      let P : List ℕ → Type 0 = λ ws. Holds tablets (stepped (record { words = ws; homes = s.homes; views = s.views }) 0 (slice_index ws 0) id me.1 (looked me.0) keeps) in (
        looked me.0,
        keeps,
        tt,
        subst P (sym h.words) (record {
          count = h.count;
          next = h.next;
          words = refl;
          kept = look_keeps s.views h.count id me.0 h.kept it;
          drawn = others_are_drawn tablets s.views h.next id me.0 (looked me.0) h.drawn at refl;
        }),
        (refl, (keeper_knows s.views h.count id me.0 h.kept it).1),
      )

  pub raises : (slots id : ℕ) (me : Me Event SeatView) (n : ℕ) (e : Event) → me.0.keeps ≡ true → length me.0.seen ≡ n
      → Allows (Holds tablets) slots id me 0 (λ m. either (m == n) (n + 1) m) (AddTells (step slots 0 n (n + 1) (some e)) me)
  raises slots id me n e mark len s h homes at small =
      let it : IsKeeperAt s.views id me.0 = record { there = at; keeps = mark } in
      let same : h.count ≡ n = sym (keeper_knows s.views h.count id me.0 h.kept it).0 ∙ len in
      let P : List ℕ → Type 0
      = λ ws. Holds tablets (stepped (record { words = ws; homes = s.homes; views = s.views }) 0 (either (slice_index ws 0 == n) (n + 1) (slice_index ws 0)) id me.1 (added n e me.0) keeps) in
      let kept : IsKept (slice_set s.views id (added n e me.0)) (n + 1)
      = add_keeps s.views n id me.0 e (subst (IsKept s.views) same h.kept) it in
      let drawn : AreDrawn tablets (slice_set s.views id (added n e me.0)) h.next
      = others_are_drawn tablets s.views h.next id me.0 (added n e me.0) h.drawn at refl in (
        added n e me.0,
        keeps,
        tt,
        subst P (sym h.words) (exchanged h.count n (n + 1)
            (λ (m : ℕ). Holds tablets (record { words = m ∷ h.next ∷ []; homes = s.homes; views = slice_set s.views id (added n e me.0) }))
            (λ _. record { count = n + 1; next = h.next; words = refl; kept = kept; drawn = drawn }) (λ ne. absurd (ne same))),
        (e, refl, refl),
      )

  -- a draw where the number found is `found`, and it is the one that was said or isn't
  module _ (slots id : ℕ) (me : Me Event SeatView) (n : ℕ) (rests : me.0.keeps ≡ false) (lt : n < tablets) (s : State Event SeatView) (h : Holds tablets s) (at : get_elem? s.views id ≡ some me.0) where
    abbrev Drawn : Bool → Type 0
    Drawn b =
        (w : SeatView)
        × Holds tablets (record { words = h.count ∷ either b (n + 1) h.next ∷ []; homes = s.homes; views = slice_set s.views id w })
        × (w ≡ (if b then drawing n me.0 else me.0))

    drawn_at : (b : Bool) → (h.next == n) ≡ b → Drawn b
    drawn_at true is = (
      drawing n me.0,
      record {
        count = h.count;
        next = n + 1;
        words = refl;
        kept = drawing_keeps s.views h.count id me.0 n h.kept at rests;
        drawn = drawing_is_drawn tablets s.views n id me.0 (subst (AreDrawn tablets s.views) (eqb-true h.next n is) h.drawn) at lt;
      },
      refl,
    )
    drawn_at false is =
        let same = set_again s.views id me.0 at in (
          me.0,
          record {
            count = h.count;
            next = h.next;
            words = refl;
            kept = subst (λ (vs : List SeatView). IsKept vs h.count) (sym same) h.kept;
            drawn = others_are_drawn tablets s.views h.next id me.0 me.0 h.drawn at refl;
          },
          refl,
        )

  pub draws : (slots id : ℕ) (me : Me Event SeatView) (n : ℕ) → me.0.keeps ≡ false → n < tablets
      → Allows (Holds tablets) slots id me 1 (λ m. either (m == n) (n + 1) m) (DrawTells (step slots 1 n (n + 1) none) me)
  draws slots id me n rests lt s h homes at small =
      let d = drawn_at slots id me n rests lt s h at (h.next == n) refl in
      let P : List ℕ → Type 0
      = λ ws. Holds tablets (stepped (record { words = ws; homes = s.homes; views = s.views }) 1 (either (slice_index ws 1 == n) (n + 1) (slice_index ws 1)) id me.1 d.0 keeps)
      × DrawTells (step slots 1 n (n + 1) none) me (slice_index ws 1) (d.0, me.1) in
      let q : P s.words = subst P (sym h.words) (d.1, (ap (λ (w : SeatView). (w, me.1)) d.2, (λ t mine. drawn_are_below tablets s.views h.next id me.0 t h.drawn at mine))) in
      (d.0, keeps, tt, q.0, q.1)
