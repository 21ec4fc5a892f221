-- A history has at most three events for each pair of a tablet and a leaf of it, and answers no more tablets than there are: each event
-- raises a score of the pairs that is at most three each, and each answer raises the number of answered tablets.
use Rattle.std.proofs.Common.{◌≡◌, ℕ, zero, suc, ◌+◌, ◌*◌, ◌<◌, ◌≤◌, List, [], ◌∷◌, ◌++◌, length, Bool, true, false, ◌||◌, refl, sym, ap, ◌∙◌, subst, append-nil, length-append, true≢false, arith, zero-add, eq-eqb, ⊎_elim}
use Rattle.std.specs.Prelude.{◌==◌}
use Rattle.std.specs.List.{list_any}
use Rattle.std.proofs.lemmas.Bool.{and_parts, or_cases, eqb-true, not-true}
use Rattle.dr_dispatch.specs.Job.{Job, leaves_at, hand, pairs_of}
use Rattle.dr_dispatch.specs.History.{same_hand, gives, answers, faults, has_give, has_answer, has_fault, is_recorded, is_history, answered}
use Rattle.dr_dispatch.specs.HistoryLaws.{HistoryIsBounded, AnsweredAreTablets}
use Rattle.dr_dispatch.specs.declared.event.Hand.{Hand}
use Rattle.dr_dispatch.specs.declared.event.Event.{Event}
use Rattle.dr_dispatch.specs.declared.event.Event.TheVariants.{Give, Answer, Fault}
use Rattle.dr_dispatch.proofs.HistoryLemmas.{same_self, any_push, by_events, answered-append}

abbrev bit : Bool → ℕ
bit true = 1
bit false = 0

bit_le : (b : Bool) → bit b ≤ 1
bit_le true = omega arith
bit_le false = omega arith

bit_grows : (a b : Bool) → bit a ≤ bit (a || b)
bit_grows true b = omega arith
bit_grows false true = omega arith
bit_grows false false = omega arith

bit_rises : (a b : Bool) → a ≡ false → b ≡ true → bit a < bit (a || b)
bit_rises a b e f = rw (e, f) (omega arith)

-- ---- a sum over the tablets of a job

abbrev total : (ℕ → List ℕ → ℕ) → ℕ → List (List ℕ) → ℕ
total f t [] = 0
total f t (leaves ∷ rest) = f t leaves + total f (suc t) rest

module _ (f g : ℕ → List ℕ → ℕ) (grows : (t : ℕ) (leaves : List ℕ) → f t leaves ≤ g t leaves) where
  total_grows : (t : ℕ) (rows : List (List ℕ)) → total f t rows ≤ total g t rows
  total_grows t [] = omega arith
  total_grows t (leaves ∷ rest) = omega (arith, grows t leaves, total_grows (suc t) rest)

  -- it rises where it does at one tablet
  total_rises : (t k u : ℕ) (rows : List (List ℕ)) → k < length rows → t + k ≡ u → f u (leaves_at rows k) < g u (leaves_at rows k) → total f t rows < total g t rows
  total_rises t k u [] h e lt = absurd (omega arith)
  total_rises t zero u (leaves ∷ rest) h e lt =
      let here : f t leaves < g t leaves = subst (λ (n : ℕ). f n leaves < g n leaves) (omega (arith, e)) lt in omega (arith, here, total_grows (suc t) rest)
  total_rises t (suc k) u (leaves ∷ rest) h e lt = omega (arith, grows t leaves, total_rises (suc t) k u rest (omega arith) (omega (arith, e)) lt)

abbrev sum_row : (ℕ → ℕ) → List ℕ → ℕ
sum_row f [] = 0
sum_row f (l ∷ ls) = f l + sum_row f ls

module _ (f g : ℕ → ℕ) (le : (l : ℕ) → f l ≤ g l) where
  sum_grows : (ls : List ℕ) → sum_row f ls ≤ sum_row g ls
  sum_grows [] = omega arith
  sum_grows (l ∷ ls) = omega (arith, le l, sum_grows ls)

  rises_at : (m l : ℕ) (ls : List ℕ) → f m < g m → (list_any (λ k. k == m) ls ≡ true → sum_row f ls < sum_row g ls) → (b : Bool) → (l == m) ≡ b
      → (b || list_any (λ k. k == m) ls) ≡ true → sum_row f (l ∷ ls) < sum_row g (l ∷ ls)
  rises_at m l ls lt rec true is e = let here : f l < g l = subst (λ (n : ℕ). f n < g n) (sym (eqb-true l m is)) lt in omega (arith, here, sum_grows ls)
  rises_at m l ls lt rec false is e = let there : sum_row f ls < sum_row g ls = rec e in omega (arith, le l, there)

  sum_rises : (ls : List ℕ) (m : ℕ) → list_any (λ l. l == m) ls ≡ true → f m < g m → sum_row f ls < sum_row g ls
  sum_rises [] m h lt = absurd (true≢false (sym h))
  sum_rises (l ∷ ls) m h lt = rises_at m l ls lt (λ e. sum_rises ls m e lt) (l == m) refl h

-- ---- the score of a pair, and what each event does to it

abbrev score : List Event → Hand → ℕ
score es h = bit (has_give es h) + bit (has_fault es h) + bit (has_answer es h.tablet)

bits_grow : (p : Event → Bool) (es : List Event) (e : Event) → bit (list_any p es) ≤ bit (list_any p (es ++ e ∷ []))
bits_grow p es e = rw (any_push p es e) (bit_grows (list_any p es) (p e))

bits_rise : (p : Event → Bool) (es : List Event) (e : Event) → list_any p es ≡ false → p e ≡ true → bit (list_any p es) < bit (list_any p (es ++ e ∷ []))
bits_rise p es e none is = rw (any_push p es e) (bit_rises (list_any p es) (p e) none is)

score_grows : (es : List Event) (e : Event) (h : Hand) → score es h ≤ score (es ++ e ∷ []) h
score_grows es e h = omega (arith, bits_grow (gives h) es e, bits_grow (faults h) es e, bits_grow (answers h.tablet) es e)

abbrev hand_of : Event → Hand
hand_of (Give h) = h
hand_of (Answer h) = h
hand_of (Fault h cause) = h

score_rises : (j : Job) (es : List Event) (e : Event) → is_recorded j es e ≡ true → score es (hand_of e) < score (es ++ e ∷ []) (hand_of e)
score_rises j es (Give h) r =
    let rise = bits_rise (gives h) es (Give h) (not-true _ (and_parts _ _ r).1) (same_self h) in
    omega (arith, rise, bits_grow (faults h) es (Give h), bits_grow (answers h.tablet) es (Give h))
score_rises j es (Answer h) r =
    let rise = bits_rise (answers h.tablet) es (Answer h) (not-true _ (and_parts _ _ r).1) (eq-eqb h.tablet h.tablet refl) in
    omega (arith, rise, bits_grow (faults h) es (Answer h), bits_grow (gives h) es (Answer h))
score_rises j es (Fault h cause) r =
    let rise = bits_rise (faults h) es (Fault h cause) (not-true _ (and_parts _ _ (and_parts _ _ r).0).1) (same_self h) in
    omega (arith, rise, bits_grow (gives h) es (Fault h cause), bits_grow (answers h.tablet) es (Fault h cause))

-- ---- the hands of a history are of the job

abbrev is_of_job : Job → Hand → Bool
is_of_job j h = list_any (λ l. l == h.leaf) (leaves_at j.leaves h.tablet)

abbrev OfJob : Job → List Event → Type 0
OfJob j es = (h : Hand) → has_give es h ≡ true → is_of_job j h ≡ true

pub same_is : (g h : Hand) → same_hand g h ≡ true → g ≡ h
same_is g h e = let p = and_parts _ _ e in λ i. record { tablet = eqb-true g.tablet h.tablet p.0 i; leaf = eqb-true g.leaf h.leaf p.1 i }

is_given : (j : Job) (h : Hand) (e : Event) → (g : Hand) → e ≡ Give g → is_of_job j g ≡ true → gives h e ≡ true → is_of_job j h ≡ true
is_given j h e g is of given = subst (λ (x : Hand). is_of_job j x ≡ true) (same_is g h (subst (λ (x : Event). gives h x ≡ true) is given)) of

module _ (j : Job) (es : List Event) (of : OfJob j es) where
  others_of_job : (e : Event) → ((h : Hand) → gives h e ≡ true → is_of_job j h ≡ true) → OfJob j (es ++ e ∷ [])
  others_of_job e new h given =
      ⊎_elim (of h) (new h)
      (or_cases (has_give es h) (gives h e) (sym (any_push (gives h) es e) ∙ given))

  step_of_job : (e : Event) → is_recorded j es e ≡ true → OfJob j (es ++ e ∷ [])
  step_of_job (Give g) r = others_of_job (Give g) (λ h same. is_given j h (Give g) g refl (and_parts _ _ (and_parts _ _ r).0).0 same)
  step_of_job (Answer g) r = others_of_job (Answer g) (λ h none. absurd (true≢false (sym none)))
  step_of_job (Fault g cause) r = others_of_job (Fault g cause) (λ h none. absurd (true≢false (sym none)))

  hand_of_job : (e : Event) → is_recorded j es e ≡ true → is_of_job j (hand_of e) ≡ true
  hand_of_job (Give h) r = (and_parts _ _ (and_parts _ _ r).0).0
  hand_of_job (Answer h) r = of h (and_parts _ _ r).0
  hand_of_job (Fault h cause) r = of h (and_parts _ _ (and_parts _ _ r).0).0

-- a tablet with leaves is one of the job
pub is_tablet : (rows : List (List ℕ)) (t l : ℕ) → list_any (λ k. k == l) (leaves_at rows t) ≡ true → t < length rows
is_tablet [] t l e = absurd (true≢false (sym e))
is_tablet (ls ∷ rest) zero l e = omega arith
is_tablet (ls ∷ rest) (suc t) l e = omega (arith, is_tablet rest t l e)

-- ---- the counts

abbrev row_score : List Event → ℕ → List ℕ → ℕ
row_score es t leaves = sum_row (λ l. score es (hand t l)) leaves

abbrev row_answer : List Event → ℕ → List ℕ → ℕ
row_answer es t leaves = bit (has_answer es t)

pub record Counted (j : Job) (es : List Event) : Type 0 where
  pub of_job : OfJob j es
  pub events : length es ≤ total (row_score es) 0 j.leaves
  pub answers : length (answered es) ≤ total (row_answer es) 0 j.leaves

step_answers : (j : Job) (es : List Event) (e : Event) → Counted j es → is_recorded j es e ≡ true → length (answered (es ++ e ∷ [])) ≤ total (row_answer (es ++ e ∷ [])) 0 j.leaves
step_answers j es (Answer h) c r =
    let in_job = is_tablet j.leaves h.tablet h.leaf (hand_of_job j es c.of_job (Answer h) r) in
    let rise = total_rises (row_answer es) (row_answer (es ++ Answer h ∷ [])) (λ t leaves. bits_grow (answers t) es (Answer h)) 0 h.tablet h.tablet j.leaves in_job (zero-add h.tablet)
    (bits_rise (answers h.tablet) es (Answer h) (not-true _ (and_parts _ _ r).1) (eq-eqb h.tablet h.tablet refl)) in
    omega (arith, rise, c.answers, ap (λ (ts : List ℕ). length ts) (answered-append es (Answer h ∷ [])), length-append (answered es) (h.tablet ∷ []))
step_answers j es (Give h) c r =
    omega (
      arith,
      total_grows (row_answer es) (row_answer (es ++ Give h ∷ [])) (λ t leaves. bits_grow (answers t) es (Give h)) 0 j.leaves,
      c.answers,
      ap (λ (ts : List ℕ). length ts) (answered-append es (Give h ∷ []) ∙ append-nil (answered es)),
    )
step_answers j es (Fault h cause) c r =
    omega (
      arith,
      total_grows (row_answer es) (row_answer (es ++ Fault h cause ∷ [])) (λ t leaves. bits_grow (answers t) es (Fault h cause)) 0 j.leaves,
      c.answers,
      ap (λ (ts : List ℕ). length ts) (answered-append es (Fault h cause ∷ []) ∙ append-nil (answered es)),
    )

step_counted : (j : Job) (es : List Event) (e : Event) → is_history j es ≡ true → Counted j es → is_recorded j es e ≡ true → Counted j (es ++ e ∷ [])
step_counted j es e _ c r =
    let h = hand_of e in
    let of = hand_of_job j es c.of_job e r in
    let in_job = is_tablet j.leaves h.tablet h.leaf of in
    let rise = total_rises (row_score es) (row_score (es ++ e ∷ []))
    (λ t leaves. sum_grows (λ l. score es (hand t l)) (λ l. score (es ++ e ∷ []) (hand t l)) (λ l. score_grows es e (hand t l)) leaves) 0 h.tablet h.tablet j.leaves in_job (zero-add h.tablet)
    (sum_rises (λ l. score es (hand h.tablet l)) (λ l. score (es ++ e ∷ []) (hand h.tablet l)) (λ l. score_grows es e (hand h.tablet l)) (leaves_at j.leaves h.tablet) h.leaf of (score_rises j es e r)) in
    record {
      of_job = step_of_job j es c.of_job e r;
      events = omega (arith, rise, c.events, length-append es (e ∷ []));
      answers = step_answers j es e c r;
    }

counted : (j : Job) (history : List Event) → is_history j history ≡ true → Counted j history
counted j history h = by_events j (Counted j) (step_counted j) (record { of_job = λ g none. absurd (true≢false (sym none)); events = omega arith; answers = omega arith }) history h

row_bound : (es : List Event) (t : ℕ) (leaves : List ℕ) → row_score es t leaves ≤ 3 * length leaves
row_bound es t [] = omega arith
row_bound es t (l ∷ leaves) = omega (arith, bit_le (has_give es (hand t l)), bit_le (has_fault es (hand t l)), bit_le (has_answer es t), row_bound es t leaves)

score_bound : (es : List Event) (t : ℕ) (rows : List (List ℕ)) → total (row_score es) t rows ≤ 3 * pairs_of rows
score_bound es t [] = omega arith
score_bound es t (leaves ∷ rest) = omega (arith, row_bound es t leaves, score_bound es (suc t) rest)

answer_bound : (es : List Event) (t : ℕ) (rows : List (List ℕ)) → total (row_answer es) t rows ≤ length rows
answer_bound es t [] = omega arith
answer_bound es t (leaves ∷ rest) = omega (arith, bit_le (has_answer es t), answer_bound es (suc t) rest)

pub history_is_bounded : HistoryIsBounded
history_is_bounded j history h = omega (arith, (counted j history h).events, score_bound history 0 j.leaves)

pub answered_are_tablets : AnsweredAreTablets
answered_are_tablets j history h = omega (arith, (counted j history h).answers, answer_bound history 0 j.leaves)

-- a hand that was given is of the job
pub given_is_of_job : (j : Job) (history : List Event) (h : Hand) → is_history j history ≡ true → has_give history h ≡ true → is_of_job j h ≡ true
given_is_of_job j history h is given = (counted j history is).of_job h given
