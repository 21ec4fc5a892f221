-- A state takes just the events that its history records, and stays a state.
use Rattle.std.proofs.Common.{◌≡◌, ℕ, zero, suc, ◌+◌, ◌*◌, ◌^◌, ◌<◌, ◌≤◌, List, [], ◌∷◌, ◌++◌, map, length, get_or, set, Bool, true, false, ◌&&◌, ◌||◌, not, refl, sym, ap, ap₂, ◌∙◌, subst, length-append, true≢false, arith, zero-add, ⊎_elim, inr, Option, Some, None}
use Rattle.std.specs.Prelude.{◌==◌, IfSome}
use Rattle.std.specs.List.{list_any}
use Rattle.std.proofs.lemmas.Bool.{eqb-true, cases_lt}
use Rattle.std.proofs.lemmas.List.{length-map}
use Rattle.dr_dispatch.specs.Job.{Job, hand, leaves_at, pairs_of}
use Rattle.dr_dispatch.specs.History.{has_give, has_answer, has_fault, is_recorded, is_history}
use Rattle.dr_dispatch.specs.Choice.{choice}
use Rattle.dr_dispatch.specs.Draws.{fresh}
use Rattle.dr_dispatch.specs.declared.event.Hand.{Hand}
use Rattle.dr_dispatch.specs.declared.event.Event.{Event}
use Rattle.dr_dispatch.specs.declared.event.Event.TheVariants.{Give, Answer, Fault}
use Rattle.dr_dispatch.proofs.HistoryLemmas.{one_more}
use Rattle.dr_dispatch.proofs.ChoiceLemmas.{choice_is_recorded}
use Rattle.dr_dispatch.proofs.DrawLemmas.{fresh_is_recorded, not_fresh_exactly}
use Rattle.dr_dispatch.proofs.BoundLemmas.{history_is_bounded, given_is_of_job, is_tablet}
use Rattle.dr_board.specs.Tablets.{TabletShown, leaf_at, tablet_at, tablets_from, new_tablet, leaves_of, job_of, hand_of, is_on, is_given_on, has_failed_on, takes_event, tablet_after, chosen_hand, fresh_hand}
use Rattle.dr_board.specs.Shown.{StateShown, first_state, KeepsState}
use Rattle.dr_board.proofs.AnsweredLemmas.{stay_answered}
use Rattle.dr_board.proofs.TabletLemmas.{tablets-push, get_or-tablets, tablets-none, leaves_of-tablets, fresh_same, chosen-choice}

-- ---- which events are taken

-- a flag of the leaf is looked up among all leaves
module _ (flag : ℕ → Bool) (k : ℕ) where
  flag_at : (l : ℕ) (rest : Bool) (ls : List ℕ) → rest ≡ (list_any (λ m. m == k) ls && flag k) → (b : Bool) → (l == k) ≡ b → ((b && flag l) || rest) ≡ ((b || list_any (λ m. m == k) ls) && flag k)
  flag_at l rest ls e true is = ap₂ (λ f r. f || r) (ap flag (eqb-true l k is)) e ∙ absorbs (flag k) (list_any (λ m. m == k) ls)
    where
      absorbs : (f a : Bool) → (f || (a && f)) ≡ f
      absorbs true a = refl
      absorbs false true = refl
      absorbs false false = refl
  flag_at l rest ls e false is = e

has_leaf-map : (es : List Event) (t k : ℕ) (ls : List ℕ) → list_any (is_on k) (map (leaf_at es t) ls) ≡ list_any (λ l. l == k) ls
has_leaf-map es t k [] = refl
has_leaf-map es t k (l ∷ ls) = ap (λ b. (l == k) || b) (has_leaf-map es t k ls)

given_on-map : (es : List Event) (t k : ℕ) (ls : List ℕ) → list_any (is_given_on k) (map (leaf_at es t) ls) ≡ (list_any (λ l. l == k) ls && has_give es (hand t k))
given_on-map es t k [] = refl
given_on-map es t k (l ∷ ls) = flag_at (λ m. has_give es (hand t m)) k l (list_any (is_given_on k) (map (leaf_at es t) ls)) ls (given_on-map es t k ls) (l == k) refl

failed_on-map : (es : List Event) (t k : ℕ) (ls : List ℕ) → list_any (has_failed_on k) (map (leaf_at es t) ls) ≡ (list_any (λ l. l == k) ls && has_fault es (hand t k))
failed_on-map es t k [] = refl
failed_on-map es t k (l ∷ ls) = flag_at (λ m. has_fault es (hand t m)) k l (list_any (has_failed_on k) (map (leaf_at es t) ls)) ls (failed_on-map es t k ls) (l == k) refl

-- a given hand is of the job: `among` says that the leaf is one of the tablet's, and `given` that the hand was given
among_given : (among given : Bool) → (given ≡ true → among ≡ true) → (among && given) ≡ given
among_given true given h = refl
among_given false true h = h refl
among_given false false h = refl

give_same : (among given answer : Bool) → (among && not answer && not (among && given)) ≡ (among && not answer && not given)
give_same true given answer = refl
give_same false given answer = refl

fault_same : (among given fault answer : Bool) → (given ≡ true → among ≡ true) → ((among && given) && not (among && fault) && not answer) ≡ (given && not fault && not answer)
fault_same true given fault answer h = refl
fault_same false true fault answer h = absurd (true≢false (sym (h refl)))
fault_same false false fault answer h = refl

pub was_given_on : (j : Job) (es : List Event) (h : Hand) → is_history j es ≡ true → list_any (is_given_on h.leaf) (map (leaf_at es h.tablet) (leaves_at j.leaves h.tablet)) ≡ has_give es h
was_given_on j es h is =
    given_on-map es h.tablet h.leaf (leaves_at j.leaves h.tablet)
    ∙ among_given (list_any (λ l. l == h.leaf) (leaves_at j.leaves h.tablet)) (has_give es h) (given_is_of_job j es h is)

pub takes-recorded : (j : Job) (es : List Event) (e : Event) → is_history j es ≡ true → takes_event (tablet_at es (hand_of e).tablet (leaves_at j.leaves (hand_of e).tablet)) e ≡ is_recorded j es e
takes-recorded j es (Give h) is =
    let ls = leaves_at j.leaves h.tablet in
    ap₂ (λ a g. a && not (has_answer es h.tablet) && not g) (has_leaf-map es h.tablet h.leaf ls) (given_on-map es h.tablet h.leaf ls)
    ∙ give_same (list_any (λ l. l == h.leaf) ls) (has_give es h) (has_answer es h.tablet)
takes-recorded j es (Answer h) is = ap (λ g. g && not (has_answer es h.tablet)) (was_given_on j es h is)
takes-recorded j es (Fault h cause) is =
    let ls = leaves_at j.leaves h.tablet in
    ap₂ (λ g f. g && not f && not (has_answer es h.tablet)) (given_on-map es h.tablet h.leaf ls) (failed_on-map es h.tablet h.leaf ls)
    ∙ fault_same (list_any (λ l. l == h.leaf) ls) (has_give es h) (has_fault es h) (has_answer es h.tablet) (given_is_of_job j es h is)

-- a hand that wasn't given
ungiven : (j : Job) (es : List Event) (h : Hand) → is_history j es ≡ true → length j.leaves ≤ h.tablet → (b : Bool) → has_give es h ≡ b → b ≡ false
ungiven j es h is past true given = let w = is_tablet j.leaves h.tablet h.leaf (given_is_of_job j es h is given) in absurd (omega (arith, w))
ungiven j es h is past false given = refl

pub was_not_given : (j : Job) (es : List Event) (h : Hand) → is_history j es ≡ true → length j.leaves ≤ h.tablet → has_give es h ≡ false
was_not_given j es h is past = ungiven j es h is past (has_give es h) refl

no_leaves : (rows : List (List ℕ)) (t : ℕ) → length rows ≤ t → leaves_at rows t ≡ []
no_leaves [] t h = refl
no_leaves (r ∷ rows) zero h = absurd (omega arith)
no_leaves (r ∷ rows) (suc t) h = no_leaves rows t (omega arith)

-- no event of a tablet that isn't there is recorded
pub past_is_not_recorded : (j : Job) (es : List Event) (e : Event) → is_history j es ≡ true → length j.leaves ≤ (hand_of e).tablet → is_recorded j es e ≡ false
past_is_not_recorded j es (Give h) is past =
    ap (λ (ls : List ℕ). list_any (λ l. l == h.leaf) ls && not (has_answer es h.tablet) && not (has_give es h)) (no_leaves j.leaves h.tablet past)
past_is_not_recorded j es (Answer h) is past = ap (λ g. g && not (has_answer es h.tablet)) (was_not_given j es h is past)
past_is_not_recorded j es (Fault h cause) is past = ap (λ g. g && not (has_fault es h) && not (has_answer es h.tablet)) (was_not_given j es h is past)

-- ---- what a state keeps

-- of these tablets
module _ (lag : ℕ) (tablets : List TabletShown) (es : List Event) (capacity start : ℕ) (k : KeepsState (job_of lag tablets) es tablets capacity start) where
  pub tablet_count : length tablets ≡ length (leaves_of tablets)
  tablet_count = sym (length-map tablets _)

  -- the tablet at a place is what the history says of it
  pub tablet_there : (t : ℕ) (d : TabletShown) → t < length tablets → get_or tablets t d ≡ tablet_at es t (leaves_at (leaves_of tablets) t)
  tablet_there t d h =
      ap (λ (ts : List TabletShown). get_or ts t d) k.standing
      ∙ get_or-tablets es 0 t t (leaves_of tablets) d (zero-add t) (omega (arith, tablet_count))

  -- it takes just the events that are recorded
  pub takes_there : (e : Event) (d : TabletShown) → (hand_of e).tablet < length tablets → takes_event (get_or tablets (hand_of e).tablet d) e ≡ is_recorded (job_of lag tablets) es e
  takes_there e d h = ap (λ (t : TabletShown). takes_event t e) (tablet_there (hand_of e).tablet d h) ∙ takes-recorded (job_of lag tablets) es e k.recorded

  -- there is room for an event
  pub state_room : (e : Event) → is_recorded (job_of lag tablets) es e ≡ true → length es < capacity
  state_room e r =
      omega (arith, history_is_bounded (job_of lag tablets) (es ++ e ∷ []) (one_more (job_of lag tablets) es e k.recorded r), length-append es (e ∷ []), k.room)

  abbrev after : Event → TabletShown → List TabletShown
  after e d = set tablets (hand_of e).tablet (tablet_after (length es + 1) (get_or tablets (hand_of e).tablet d) e)

  stands : (e : Event) (d : TabletShown) → (hand_of e).tablet < length tablets → after e d ≡ tablets_from (es ++ e ∷ []) 0 (leaves_of tablets)
  stands e d h =
      let t = (hand_of e).tablet in
      ap₂ (λ (ts : List TabletShown) (x : TabletShown). set ts t (tablet_after (length es + 1) x e)) k.standing (tablet_there t d h)
      ∙ tablets-push es e 0 t (leaves_of tablets) (zero-add t) (omega (arith, tablet_count, h))

  -- the job stays
  pub job_stays : (e : Event) (d : TabletShown) → (hand_of e).tablet < length tablets → job_of lag (after e d) ≡ job_of lag tablets
  job_stays e d h = ap (λ (rows : List (List ℕ)). record { leaves = rows; lag = lag }) (ap leaves_of (stands e d h) ∙ leaves_of-tablets (es ++ e ∷ []) 0 (leaves_of tablets))

  pub state_after : (e : Event) (d : TabletShown) → (hand_of e).tablet < length tablets → is_recorded (job_of lag tablets) es e ≡ true → KeepsState (job_of lag (after e d)) (es ++ e ∷ []) (after e d) capacity start
  state_after e d h r =
      subst (λ (j : Job). KeepsState j (es ++ e ∷ []) (after e d) capacity start) (sym (job_stays e d h)) (record {
        recorded = one_more (job_of lag tablets) es e k.recorded r;
        standing = stands e d h;
        room = k.room;
        bound = k.bound;
        small = k.small;
        passed = stay_answered start (hand_of e).tablet (length es + 1) tablets d e k.passed;
      })

  -- the same, where the tablet is found by its number
  pub takes_at : (e : Event) (t : ℕ) (d : TabletShown) → (hand_of e).tablet ≡ t → t < length tablets → takes_event (get_or tablets t d) e ≡ is_recorded (job_of lag tablets) es e
  takes_at e t d is = subst (λ (u : ℕ). u < length tablets → takes_event (get_or tablets u d) e ≡ is_recorded (job_of lag tablets) es e) is (takes_there e d)

  -- the tablet x at the event's number became `new`, and the history `more`
  module _ (e : Event) (t : ℕ) (x new : TabletShown) (more : List Event) (count : ℕ) (is : (hand_of e).tablet ≡ t) (r : is_recorded (job_of lag tablets) es e ≡ true) (there : t < length tablets)
      (was : x ≡ get_or tablets t x) (noted : new ≡ tablet_after count x e) (added : more ≡ es ++ e ∷ []) (counted : count ≡ length more) where
    new_is : new ≡ tablet_after (length es + 1) (get_or tablets t x) e
    new_is =
        let n : count ≡ length es + 1 = counted ∙ (ap (λ (l : List Event). length l) added ∙ length-append es (e ∷ [])) in
        noted ∙ ap₂ (λ (k : ℕ) (y : TabletShown). tablet_after k y e) n was

    sets : set tablets t new ≡ after e x
    sets =
        ap (λ (y : TabletShown). set tablets t y) new_is
        ∙ subst (λ (u : ℕ). set tablets u (tablet_after (length es + 1) (get_or tablets u x) e) ≡ after e x) is refl

    there_too : (hand_of e).tablet < length tablets
    there_too = omega (arith, is, there)

    pub added_keeps : (room : ℕ) → room ≡ capacity → KeepsState (job_of lag (set tablets t new)) more (set tablets t new) room start
    added_keeps room same =
        subst (λ (y : List TabletShown × List Event × ℕ). KeepsState (job_of lag y.0) y.1 y.0 y.2 start) (λ i. (sym sets i, sym added i, sym same i)) (state_after e x there_too r)

    pub added_job : job_of lag (set tablets t new) ≡ job_of lag tablets
    added_job = ap (job_of lag) sets ∙ job_stays e x there_too

  -- the tablet of an event that is recorded is there
  pub place_there : (e : Event) (t : ℕ) → (hand_of e).tablet ≡ t → is_recorded (job_of lag tablets) es e ≡ true → t < length tablets
  place_there e t is r =
      ⊎_elim (λ (h : t < length tablets). h)
      (λ (past : length tablets ≤ t). absurd (true≢false (sym r ∙ past_is_not_recorded (job_of lag tablets) es e k.recorded (omega (arith, past, is, tablet_count)))))
      (cases_lt t (length tablets))

  -- whether a hand was given, by its tablet
  pub given_at : (h : Hand) (d : TabletShown) → h.tablet < length tablets → list_any (is_given_on h.leaf) (get_or tablets h.tablet d).leaves ≡ has_give es h
  given_at h d there =
      ap (λ (t : TabletShown). list_any (is_given_on h.leaf) t.leaves) (tablet_there h.tablet d there)
      ∙ was_given_on (job_of lag tablets) es h k.recorded

  -- what is chosen from the tablets is the choice
  pub choice_there : (count : ℕ) (ts : List TabletShown) → count ≡ length es → ts ≡ tablets → chosen_hand lag count ts ≡ choice (job_of lag tablets) es
  choice_there count ts n is = ap₂ (chosen_hand lag) n (is ∙ k.standing) ∙ chosen-choice (job_of lag tablets) es

  -- what is fresh, by its tablet
  pub fresh_there : (t : ℕ) (d : TabletShown) → t < length tablets → fresh_hand t (get_or tablets t d) ≡ fresh (job_of lag tablets) es t
  fresh_there t d there = ap (fresh_hand t) (tablet_there t d there) ∙ fresh_same es t (leaves_at (leaves_of tablets) t)

-- a tablet that isn't there isn't fresh
pub past_is_not_fresh : (j : Job) (es : List Event) (t : ℕ) → length j.leaves ≤ t → fresh j es t ≡ None
past_is_not_fresh j es t past = (not_fresh_exactly j es t).1 (inr (no_leaves j.leaves t past))

-- what is fresh is recorded
pub fresh_takes : (j : Job) (es : List Event) (t : ℕ) (o : Option Hand) → is_history j es ≡ true → fresh j es t ≡ o → IfSome o (λ h. is_recorded j es (Give h) ≡ true)
fresh_takes j es t None is e = tt
fresh_takes j es t (Some h) is e = fresh_is_recorded j es t h is e

-- a choice is recorded
pub choice_takes : (j : Job) (es : List Event) (o : Option Hand) → choice j es ≡ o → IfSome o (λ h. is_recorded j es (Give h) ≡ true)
choice_takes j es None is = tt
choice_takes j es (Some h) is = choice_is_recorded j es h is

-- the tablets before the first event
pub first_tablets : (rows : List (List ℕ)) → leaves_of (map new_tablet rows) ≡ rows
first_tablets rows = ap leaves_of (sym (tablets-none 0 rows)) ∙ leaves_of-tablets [] 0 rows

first_keeps : (lag : ℕ) (rows : List (List ℕ)) (capacity : ℕ) → 3 * pairs_of rows ≤ capacity → 3 * pairs_of rows < 2 ^ 63 → length rows ≤ 2 ^ 32
    → KeepsState (job_of lag (map new_tablet rows)) [] (map new_tablet rows) capacity 0
first_keeps lag rows capacity room bound small =
    let same : job_of lag (map new_tablet rows) ≡ record { leaves = rows; lag = lag } = λ i. record { leaves = first_tablets rows i; lag = lag } in
    subst (λ (j : Job). KeepsState j [] (map new_tablet rows) capacity 0) (sym same)
    (record { recorded = refl; standing = sym (tablets-none 0 rows); room = room; bound = bound; small = small; passed = refl })

-- the state before the first event
pub first_state_keeps : (lag : ℕ) (rows : List (List ℕ)) (es : List Event) (tablets : List TabletShown) (capacity : ℕ) → es ≡ [] → tablets ≡ map new_tablet rows
    → 3 * pairs_of rows ≤ capacity → 3 * pairs_of rows < 2 ^ 63 → length rows ≤ 2 ^ 32 → KeepsState (job_of lag tablets) es tablets capacity 0
first_state_keeps lag rows es tablets capacity none is room bound small =
    subst (λ (y : List TabletShown × List Event). KeepsState (job_of lag y.0) y.1 y.0 capacity 0) (λ i. (sym is i, sym none i)) (first_keeps lag rows capacity room bound small)

abbrev shown_state : ℕ → List TabletShown → List Event → StateShown
shown_state lag tablets es = record { job = job_of lag tablets; history = es }

pub first_state_is : (lag : ℕ) (rows : List (List ℕ)) (es : List Event) (tablets : List TabletShown) → es ≡ [] → tablets ≡ map new_tablet rows
    → shown_state lag tablets es ≡ first_state (record { leaves = rows; lag = lag })
first_state_is lag rows es tablets none is =
    let rows_back : leaves_of tablets ≡ rows = ap leaves_of is ∙ first_tablets rows in
    λ i. record { job = record { leaves = rows_back i; lag = lag }; history = none i }
