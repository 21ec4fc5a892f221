-- The choice is the next hand, said by tablets and leaves.
use Rattle.std.proofs.Common.{◌≡◌, ℕ, zero, suc, ◌+◌, ◌<◌, ◌≤◌, List, [], ◌∷◌, ◌++◌, length, Bool, true, false, ◌&&◌, ◌||◌, not, Option, Some, None, refl, sym, ap, ap₂, ◌∙◌, subst, true≢false, arith, add-zero, zero-add, eq-eqb, ⊎_elim, ◌⊎◌, inl, inr}
use Rattle.std.specs.Prelude.{◌==◌, nat_le, nat_lt, if◌then◌else◌}
use Rattle.std.specs.List.{list_any}
use Rattle.std.proofs.lemmas.Bool.{and_parts, not-true}
use Rattle.std.proofs.lemmas.Bool.Decides.{nat_tests}
use Rattle.dr_dispatch.specs.Job.{Job, hand, leaves_at}
use Rattle.dr_dispatch.specs.History.{same_hand, gives, has_give, has_answer, has_fault}
use Rattle.dr_dispatch.specs.Choice.{first_open, all_failed, gives_tablet, since_from, since_give, urgent, late, or_else, lowest, choice}
use Rattle.dr_dispatch.specs.ChoiceLaws.{all_given, IsOpen, IsFarBack, IsUrgent, IsLate, IsLowest, IsFirstLeft, IsNext, ChoiceIsNext}
use Rattle.dr_dispatch.specs.declared.event.Hand.{Hand}
use Rattle.dr_dispatch.specs.declared.event.Event.{Event}
use Rattle.dr_dispatch.specs.declared.event.Event.TheVariants.{Give, Answer, Fault}
use Rattle.dr_dispatch.proofs.ChoiceLemmas.{is_none, first_open-none, lowest_none, or_else_none, if_some}

-- ---- the first leaf that is left

first_left_is : (es : List Event) (t : ℕ) (before : List ℕ) (l : ℕ) (rest : List ℕ) → all_given es t before ≡ true → has_give es (hand t l) ≡ false
    → first_open es t (before ++ l ∷ rest) ≡ Some (hand t l)
first_left_is es t [] l rest given left = ap (λ b. if b then first_open es t rest else Some (hand t l)) left
first_left_is es t (k ∷ before) l rest given left =
    let both = and_parts (has_give es (hand t k)) (all_given es t before) given in
    ap (λ b. if b then first_open es t (before ++ l ∷ rest) else Some (hand t k)) both.0 ∙ first_left_is es t before l rest both.1 left

is_first_open : (es : List Event) (t : ℕ) (leaves : List ℕ) (l : ℕ) → IsFirstLeft es t leaves l → first_open es t leaves ≡ Some (hand t l)
is_first_open es t leaves l is = ap (first_open es t) is.splits ∙ first_left_is es t is.before l is.rest is.given is.left

left_here : (es : List Event) (t l : ℕ) (leaves : List ℕ) (h : Hand) → ((first_open es t leaves ≡ Some h) → (h.tablet ≡ t) × IsFirstLeft es t leaves h.leaf)
    → (b : Bool) → has_give es (hand t l) ≡ b → (if b then first_open es t leaves else Some (hand t l)) ≡ Some h → (h.tablet ≡ t) × IsFirstLeft es t (l ∷ leaves) h.leaf
left_here es t l leaves h rec true is e =
    let r = rec e in
    (r.0, record { before = l ∷ r.1.before; rest = r.1.rest; splits = ap (λ more. l ∷ more) r.1.splits; given = ap₂ (λ a b. a && b) is r.1.given; left = r.1.left })
left_here es t l leaves h rec false is e =
    let same : hand t l ≡ h = cc e in
    subst (λ (g : Hand). (g.tablet ≡ t) × IsFirstLeft es t (l ∷ leaves) g.leaf) same
    (refl, record { before = []; rest = leaves; splits = refl; given = refl; left = is })

left_is_first : (es : List Event) (t : ℕ) (leaves : List ℕ) (h : Hand) → first_open es t leaves ≡ Some h → (h.tablet ≡ t) × IsFirstLeft es t leaves h.leaf
left_is_first es t [] h e = absurd (cc e)
left_is_first es t (l ∷ leaves) h e = left_here es t l leaves h (left_is_first es t leaves h) (has_give es (hand t l)) refl e

-- ---- no leaf at work

or_else_true : (a b : Bool) → (a ≡ true → b ≡ true) → (not a || b) ≡ true
or_else_true true b f = f refl
or_else_true false b f = refl

then_true : (a b : Bool) → (not a || b) ≡ true → a ≡ true → b ≡ true
then_true true b e a = e
then_true false b e a = absurd (true≢false (sym a))

or_right : (a b : Bool) → b ≡ true → (a || b) ≡ true
or_right true b e = refl
or_right false b e = e

idle_fails : (es : List Event) (t : ℕ) (leaves : List ℕ)
    → ((l : ℕ) → list_any (λ k. k == l) leaves ≡ true → has_give es (hand t l) ≡ true → has_fault es (hand t l) ≡ true) → all_failed es t leaves ≡ true
idle_fails es t [] idle = refl
idle_fails es t (l ∷ leaves) idle = ap₂ (λ a b. a && b)
    (or_else_true (has_give es (hand t l)) (has_fault es (hand t l)) (idle l (ap (λ b. b || list_any (λ k. k == l) leaves) (eq-eqb l l refl))))
    (idle_fails es t leaves (λ k among. idle k (or_right (l == k) (list_any (λ m. m == k) leaves) among)))

idle_at : (es : List Event) (t : ℕ) (l k : ℕ) (leaves : List ℕ) → (not (has_give es (hand t l)) || has_fault es (hand t l)) ≡ true
    → (list_any (λ m. m == k) leaves ≡ true → has_give es (hand t k) ≡ true → has_fault es (hand t k) ≡ true)
    → (b : Bool) → (l == k) ≡ b → (b || list_any (λ m. m == k) leaves) ≡ true → has_give es (hand t k) ≡ true → has_fault es (hand t k) ≡ true
idle_at es t l k leaves here rec true is among =
    let same : l ≡ k = grind (arith, nat_tests) in
    subst (λ (n : ℕ). has_give es (hand t n) ≡ true → has_fault es (hand t n) ≡ true) same (then_true (has_give es (hand t l)) (has_fault es (hand t l)) here)
idle_at es t l k leaves here rec false is among = rec among

failed_is_idle : (es : List Event) (t : ℕ) (leaves : List ℕ) → all_failed es t leaves ≡ true
    → (l : ℕ) → list_any (λ k. k == l) leaves ≡ true → has_give es (hand t l) ≡ true → has_fault es (hand t l) ≡ true
failed_is_idle es t [] failed l among = absurd (true≢false (sym among))
failed_is_idle es t (l ∷ leaves) failed k among =
    let both = and_parts (not (has_give es (hand t l)) || has_fault es (hand t l)) (all_failed es t leaves) failed in
    idle_at es t l k leaves both.0 (failed_is_idle es t leaves both.1 k) (l == k) refl among

-- ---- the last hand-out

or_false : (a b : Bool) → (a || b) ≡ false → (a ≡ false) × (b ≡ false)
or_false true b e = absurd (true≢false e)
or_false false b e = (refl, e)

abbrev NotGiven : List Event → ℕ → Type 0
NotGiven es t = (h : Hand) → h.tablet ≡ t → has_give es h ≡ false

eqb_self : (n : ℕ) → (n == n) ≡ true
eqb_self n = eq-eqb n n refl

same_self : (h : Hand) → same_hand h h ≡ true
same_self h = ap₂ (λ a b. a && b) (eqb_self h.tablet) (eqb_self h.leaf)

not_given_gives : (t : ℕ) (e : Event) (es : List Event) → NotGiven (e ∷ es) t → gives_tablet t e ≡ false
not_given_gives t (Give h) es none = at (h.tablet == t) refl
  where
    at : (b : Bool) → (h.tablet == t) ≡ b → (h.tablet == t) ≡ false
    at true is = absurd (true≢false (sym (same_self h) ∙ (or_false (same_hand h h) (has_give es h) (none h (grind (arith, nat_tests)))).0))
    at false is = is
not_given_gives t (Answer h) es none = refl
not_given_gives t (Fault h cause) es none = refl

not_given_rest : (t : ℕ) (e : Event) (es : List Event) → NotGiven (e ∷ es) t → NotGiven es t
not_given_rest t e es none h is = (or_false (gives h e) (has_give es h) (none h is)).1

since_none : (t count : ℕ) (es : List Event) → NotGiven es t → since_from t count es ≡ count + length es
since_none t count [] none = sym (add-zero count)
since_none t count (e ∷ es) none =
    ap (λ b. if b then since_from t 0 es else since_from t (suc count) es) (not_given_gives t e es none)
    ∙ (since_none t (suc count) es (not_given_rest t e es none) ∙ omega arith)

since_last : (t count : ℕ) (front : List Event) (last : Hand) (behind : List Event) → last.tablet ≡ t
    → since_from t count (front ++ Give last ∷ behind) ≡ since_from t 0 behind
since_last t count [] last behind is = ap (λ b. if b then since_from t 0 behind else since_from t (suc count) behind) (eq-eqb last.tablet t is)
since_last t count (e ∷ front) last behind is =
    either_way (gives_tablet t e) (since_from t 0 (front ++ Give last ∷ behind)) (since_from t (suc count) (front ++ Give last ∷ behind)) (since_from t 0 behind)
    (since_last t 0 front last behind is) (since_last t (suc count) front last behind is)
  where
    either_way : (b : Bool) (x y z : ℕ) → x ≡ z → y ≡ z → (if b then x else y) ≡ z
    either_way true x y z a c = a
    either_way false x y z a c = c

far_back_is_late : (lag : ℕ) (es : List Event) (t : ℕ) → IsFarBack lag es t → nat_le lag (since_give es t) ≡ true
far_back_is_late lag es t is =
    let count : since_give es t ≡ length is.behind = ap (since_from t 0) is.splits ∙ (since_last t 0 is.front is.last is.behind is.tablet ∙ (since_none t 0 is.behind is.is_last ∙ zero-add (length is.behind))) in
    let far : lag ≤ length is.behind = is.far in
    grind (arith, nat_tests)

-- the last hand-out of a tablet, if it was handed out
record LastGive (es : List Event) (t : ℕ) : Type 0 where
  front : List Event
  last : Hand
  behind : List Event
  splits : es ≡ front ++ Give last ∷ behind
  tablet : last.tablet ≡ t
  is_last : NotGiven behind t

module _ (t : ℕ) where
  last_behind : (e : Event) (es : List Event) → LastGive es t → LastGive (e ∷ es) t
  last_behind e es r = record { front = e ∷ r.front; last = r.last; behind = r.behind; splits = ap (λ more. e ∷ more) r.splits; tablet = r.tablet; is_last = r.is_last }

  same_tablet : (g h : Hand) → h.tablet ≡ t → (g.tablet == t) ≡ false → same_hand g h ≡ false
  same_tablet g h is other = ap (λ b. b && (g.leaf == h.leaf)) (ap (λ (n : ℕ). g.tablet == n) is ∙ other)

  last_here : (e : Event) (es : List Event) → NotGiven es t → LastGive (e ∷ es) t ⊎ NotGiven (e ∷ es) t
  last_here (Give g) es none = at (g.tablet == t) refl
    where
      at : (b : Bool) → (g.tablet == t) ≡ b → LastGive (Give g ∷ es) t ⊎ NotGiven (Give g ∷ es) t
      at true is = inl (record { front = []; last = g; behind = es; splits = refl; tablet = grind (arith, nat_tests); is_last = none })
      at false is = inr (λ h same. ap₂ (λ a b. a || b) (same_tablet g h same is) (none h same))
  last_here (Answer g) es none = inr (λ h same. none h same)
  last_here (Fault g cause) es none = inr (λ h same. none h same)

  last_give : (es : List Event) → LastGive es t ⊎ NotGiven es t
  last_give [] = inr (λ h same. refl)
  last_give (e ∷ es) = ⊎_elim (λ r. inl (last_behind e es r)) (λ none. last_here e es none) (last_give es)

late_is_far_back : (lag : ℕ) (es : List Event) (t : ℕ) → LastGive es t → nat_le lag (since_give es t) ≡ true → IsFarBack lag es t
late_is_far_back lag es t r is =
    let count : since_give es t ≡ length r.behind = ap (since_from t 0) r.splits ∙ (since_last t 0 r.front r.last r.behind r.tablet ∙ (since_none t 0 r.behind r.is_last ∙ zero-add (length r.behind))) in
    record { front = r.front; last = r.last; behind = r.behind; splits = r.splits; tablet = r.tablet; is_last = r.is_last; far = grind (arith, nat_tests) }

not_given_is_failed : (es : List Event) (t : ℕ) (leaves : List ℕ) → NotGiven es t → all_failed es t leaves ≡ true
not_given_is_failed es t leaves none = idle_fails es t leaves (λ l among given. absurd (true≢false (sym given ∙ none (hand t l) refl)))

-- ---- the lowest tablet

pub record PicksLowest (pick : ℕ → List ℕ → Option Hand) (rows : List (List ℕ)) (base : ℕ) (h : Hand) : Type 0 where
  pub place : ℕ
  pub within : place < length rows
  pub picked : pick (base + place) (leaves_at rows place) ≡ Some h
  pub before : (q : ℕ) → q < place → pick (base + q) (leaves_at rows q) ≡ None

module _ (pick : ℕ → List ℕ → Option Hand) where
  lowest_at : (base : ℕ) (leaves : List ℕ) (rest : List (List ℕ)) (h : Hand) → (lowest pick (suc base) rest ≡ Some h → PicksLowest pick rest (suc base) h)
      → (o : Option Hand) → pick base leaves ≡ o → or_else o (lowest pick (suc base) rest) ≡ Some h → PicksLowest pick (leaves ∷ rest) base h
  lowest_at base leaves rest h rec None is e =
      let r = rec e in
      record {
        place = suc r.place;
        within = omega (arith, r.within);
        picked = subst (λ (u : ℕ). pick u (leaves_at rest r.place) ≡ Some h) (omega arith) r.picked;
        before = λ q w. earlier q w (r.before);
      }
    where
      earlier : (q : ℕ) {n : ℕ} → q < suc n → ((k : ℕ) → k < n → pick (suc base + k) (leaves_at rest k) ≡ None) → pick (base + q) (leaves_at (leaves ∷ rest) q) ≡ None
      earlier zero w each = subst (λ (u : ℕ). pick u leaves ≡ None) (sym (add-zero base)) is
      earlier (suc q) w each = subst (λ (u : ℕ). pick u (leaves_at rest q) ≡ None) (omega arith) (each q (omega (arith, w)))
  lowest_at base leaves rest h rec (Some g) is e =
      record {
        place = 0;
        within = omega arith;
        picked = subst (λ (u : ℕ). pick u leaves ≡ Some h) (sym (add-zero base)) (is ∙ e);
        before = λ q w. absurd (omega (arith, w));
      }

  lowest_is : (base : ℕ) (rows : List (List ℕ)) (h : Hand) → lowest pick base rows ≡ Some h → PicksLowest pick rows base h
  lowest_is base [] h e = absurd (cc e)
  lowest_is base (leaves ∷ rest) h e = lowest_at base leaves rest h (lowest_is (suc base) rest h) (pick base leaves) refl e

-- ---- what is chosen

module _ (j : Job) (es : List Event) where
  abbrev at : ℕ → List ℕ
  at t = leaves_at j.leaves t

  beyond : (rows : List (List ℕ)) (t : ℕ) → all_given es t (leaves_at rows t) ≡ false → t < length rows
  beyond rows t = within rows t t
    where
      within : (rows : List (List ℕ)) (t k : ℕ) → all_given es t (leaves_at rows k) ≡ false → k < length rows
      within [] t k left = absurd (true≢false left)
      within (leaves ∷ rest) t zero left = omega arith
      within (leaves ∷ rest) t (suc k) left = let r = within rest t k left in omega (arith, r)

  picks_none : (t : ℕ) (test : Bool) → IsOpen j es t → test ≡ true → (if not (has_answer es t) && test then first_open es t (at t) else None) ≡ None → ⊥
  picks_none t test is passes none =
      let first : first_open es t (at t) ≡ None = sym (ap₂ (λ a b. if not a && b then first_open es t (at t) else None) is.unanswered passes) ∙ none in
      true≢false (ap is_none (sym first) ∙ (first_open-none es t (at t) ∙ is.leaf_left))

  picks_some : (t : ℕ) (test : Bool) (h : Hand) → (if not (has_answer es t) && test then first_open es t (at t) else None) ≡ Some h
      → (test ≡ true) × (h.tablet ≡ t) × IsOpen j es t × IsFirstLeft es t (at t) h.leaf
  picks_some t test h e =
      let both = if_some (not (has_answer es t) && test) (first_open es t (at t)) h e in
      let tests = and_parts (not (has_answer es t)) test both.0 in
      let first = left_is_first es t (at t) h both.1 in
      (tests.1, first.0, record { unanswered = not-true _ tests.0; leaf_left = sym (first_open-none es t (at t)) ∙ ap is_none both.1 }, first.1)

  urgent_picks : (t : ℕ) → IsUrgent j es t → urgent es t (at t) ≡ None → ⊥
  urgent_picks t is none = picks_none t (all_failed es t (at t)) is.0 (idle_fails es t (at t) is.1) none

  late_picks : (t : ℕ) → IsLate j es t → late j.lag es t (at t) ≡ None → ⊥
  late_picks t is none = picks_none t (nat_le j.lag (since_give es t)) is.0 (far_back_is_late j.lag es t is.1) none

  none_below : (pick : ℕ → List ℕ → Option Hand) (holds : ℕ → Type 0) (h : Hand) → ((u : ℕ) → holds u → pick u (at u) ≡ None → ⊥)
      → (p : PicksLowest pick j.leaves 0 h) → (u : ℕ) → u < p.place → holds u → ⊥
  none_below pick holds h refutes p u w is = refutes u is (subst (λ (n : ℕ). pick n (at u) ≡ None) (zero-add u) (p.before u w))

  picked_at : (pick : ℕ → List ℕ → Option Hand) (h : Hand) (p : PicksLowest pick j.leaves 0 h) → pick p.place (at p.place) ≡ Some h
  picked_at pick h p = subst (λ (n : ℕ). pick n (at p.place) ≡ Some h) (zero-add p.place) p.picked

  urgent_is_next : (h : Hand) → lowest (urgent es) 0 j.leaves ≡ Some h → IsNext j es h
  urgent_is_next h e =
      let p = lowest_is (urgent es) 0 j.leaves h e in
      let s = picks_some p.place (all_failed es p.place (at p.place)) h (picked_at (urgent es) h p) in
      let low : IsLowest (IsUrgent j es) p.place = ((s.2, failed_is_idle es p.place (at p.place) s.0), none_below (urgent es) (IsUrgent j es) h urgent_picks p) in
      record {
        tablet = inl (subst (IsLowest (IsUrgent j es)) (sym s.1) low);
        leaf = subst (λ (t : ℕ). IsFirstLeft es t (at t) h.leaf) (sym s.1) s.3;
      }

  late_is_next : (h : Hand) → lowest (urgent es) 0 j.leaves ≡ None → lowest (late j.lag es) 0 j.leaves ≡ Some h → IsNext j es h
  late_is_next h none e =
      let p = lowest_is (late j.lag es) 0 j.leaves h e in
      let s = picks_some p.place (nat_le j.lag (since_give es p.place)) h (picked_at (late j.lag es) h p) in
      let far = far_back p.place s.2 s.0 p.within in
      let low : IsLowest (IsLate j es) p.place = ((s.2, far), none_below (late j.lag es) (IsLate j es) h late_picks p) in
      record {
        tablet = inr (not_urgent, subst (IsLowest (IsLate j es)) (sym s.1) low);
        leaf = subst (λ (t : ℕ). IsFirstLeft es t (at t) h.leaf) (sym s.1) s.3;
      }
    where
      not_urgent : (u : ℕ) → IsUrgent j es u → ⊥
      not_urgent u is = urgent_picks u is (lowest_none (urgent es) 0 u u j.leaves (zero-add u) (beyond j.leaves u is.0.leaf_left) none)

      far_back : (t : ℕ) → IsOpen j es t → nat_le j.lag (since_give es t) ≡ true → t < length j.leaves → IsFarBack j.lag es t
      far_back t is late w = ⊎_elim (λ r. late_is_far_back j.lag es t r late)
          (λ no_give. absurd (not_urgent t (is, failed_is_idle es t (at t) (not_given_is_failed es t (at t) no_give)))) (last_give t es)

  chosen_is_next : (h : Hand) → choice j es ≡ Some h → IsNext j es h
  chosen_is_next h e = by_first (lowest (urgent es) 0 j.leaves) refl e
    where
      by_first : (o : Option Hand) → lowest (urgent es) 0 j.leaves ≡ o → or_else o (lowest (late j.lag es) 0 j.leaves) ≡ Some h → IsNext j es h
      by_first None is rest = late_is_next h is rest
      by_first (Some g) is rest = urgent_is_next h (is ∙ rest)

  same_lowest : (holds : ℕ → Type 0) (t u : ℕ) → IsLowest holds t → IsLowest holds u → t ≡ u
  same_lowest holds t u a b = by (nat_lt t u) (nat_lt u t) refl refl
    where
      by : (x y : Bool) → nat_lt t u ≡ x → nat_lt u t ≡ y → t ≡ u
      by true y p q = absurd (b.1 t (grind (arith, nat_tests)) a.0)
      by false true p q = absurd (a.1 u (grind (arith, nat_tests)) b.0)
      by false false p q = grind (arith, nat_tests)

  next_is_one : (g h : Hand) → IsNext j es g → IsNext j es h → g ≡ h
  next_is_one g h a b =
      let t : g.tablet ≡ h.tablet = ⊎_elim (λ x. ⊎_elim (λ y. same_lowest (IsUrgent j es) g.tablet h.tablet x y) (λ y. absurd (y.0 g.tablet x.0)) b.tablet)
      (λ x. ⊎_elim (λ y. absurd (x.0 h.tablet y.0)) (λ y. same_lowest (IsLate j es) g.tablet h.tablet x.1 y.1) b.tablet) a.tablet in
      let first : first_open es g.tablet (at g.tablet) ≡ Some g = is_first_open es g.tablet (at g.tablet) g.leaf a.leaf in
      let second : first_open es h.tablet (at h.tablet) ≡ Some h = is_first_open es h.tablet (at h.tablet) h.leaf b.leaf in
      let same : Some g ≡ Some h = sym first ∙ (ap (λ (n : ℕ). first_open es n (at n)) t ∙ second) in
      cc same

  next_is_chosen : (h : Hand) → IsNext j es h → choice j es ≡ Some h
  next_is_chosen h is = by_choice (choice j es) refl
    where
      refuted : choice j es ≡ None → ⊥
      refuted none =
          let both = or_else_none (urgent es) (lowest (urgent es) 0 j.leaves) (lowest (late j.lag es) 0 j.leaves) none in
          ⊎_elim
          (λ x. urgent_picks h.tablet x.0 (lowest_none (urgent es) 0 h.tablet h.tablet j.leaves (zero-add h.tablet) (beyond j.leaves h.tablet x.0.0.leaf_left) both.0))
          (λ x. late_picks h.tablet x.1.0 (lowest_none (late j.lag es) 0 h.tablet h.tablet j.leaves (zero-add h.tablet) (beyond j.leaves h.tablet x.1.0.0.leaf_left) both.1))
          is.tablet

      by_choice : (o : Option Hand) → choice j es ≡ o → choice j es ≡ Some h
      by_choice None none = absurd (refuted none)
      by_choice (Some g) some = some ∙ ap Some (next_is_one g h (chosen_is_next g some) is)

pub choice_is_next : ChoiceIsNext
choice_is_next j es h = (chosen_is_next j es h, next_is_chosen j es h)
