-- Histories go on one event at a time.
use Rattle.std.proofs.Common.{◌≡◌, ℕ, List, [], ◌∷◌, ◌++◌, Bool, true, false, ◌&&◌, ◌||◌, not, refl, sym, ap, ap₂, ◌∙◌, subst, append_assoc, append-nil, true≢false, arith, eq-eqb}
use Rattle.std.specs.Prelude.{nat_eq, ◌==◌, if◌then◌else◌}
use Rattle.std.specs.List.{list_any, IsDistinct}
use Rattle.std.proofs.lemmas.Bool.{and_parts}
use Rattle.std.proofs.Math.Bool.{and-true, or-true, or-false}
use Rattle.std.proofs.lemmas.Bool.Decides.{nat_tests}
use Rattle.std.proofs.lemmas.List.Folds.{list_any-append}
use mathlib.Core.List.{IsPrefix}
use Rattle.std.proofs.lemmas.Cmp.{nat_eq_equiv}
use Rattle.std.proofs.lemmas.Map.Keys.{IsDistinct-push}
use Rattle.dr_dispatch.specs.Job.{Job}
use Rattle.dr_dispatch.specs.History.{same_hand, gives, has_give, is_recorded, after_event, after_events, goes_on, is_history, answered}
use Rattle.dr_dispatch.specs.HistoryLaws.{ReplayIsHistory, HistoryReplaysToItself, FrontIsHistory, HistoryGoesOn, AnsweredHaveAnswers, AnsweredAreDistinct}
use Rattle.dr_dispatch.specs.declared.event.Hand.{Hand}
use Rattle.dr_dispatch.specs.declared.event.Event.{Event}
use Rattle.dr_dispatch.specs.declared.event.Event.TheVariants.{Give, Answer, Fault}

and_assoc : (a b c : Bool) → (a && (b && c)) ≡ ((a && b) && c)
and_assoc true b c = refl
and_assoc false b c = refl

goes_on-append : (j : Job) (history xs ys : List Event) → goes_on j history (xs ++ ys) ≡ (goes_on j history xs && goes_on j (history ++ xs) ys)
goes_on-append j history [] ys = ap (λ (es : List Event). goes_on j es ys) (sym (append-nil history))
goes_on-append j history (x ∷ xs) ys =
    ap (λ b. is_recorded j history x && b) (goes_on-append j (history ++ x ∷ []) xs ys)
    ∙ (and_assoc (is_recorded j history x) (goes_on j (history ++ x ∷ []) xs) (goes_on j ((history ++ x ∷ []) ++ xs) ys)
    ∙ ap (λ (es : List Event). (is_recorded j history x && goes_on j (history ++ x ∷ []) xs) && goes_on j es ys) (append_assoc history (x ∷ []) xs))

pub front_is_history : FrontIsHistory
front_is_history j front rest h = (and_parts (is_history j front) (goes_on j front rest) (sym (goes_on-append j [] front rest) ∙ h)).0

pub history_goes_on : HistoryGoesOn
history_goes_on j history e h =
    goes_on-append j [] history (e ∷ [])
    ∙ (ap (λ b. b && (is_recorded j history e && true)) h ∙ and-true (is_recorded j history e))

-- a history with an event that is recorded behind it
pub one_more : (j : Job) (history : List Event) (e : Event) → is_history j history ≡ true → is_recorded j history e ≡ true → is_history j (history ++ e ∷ []) ≡ true
one_more j history e h r = history_goes_on j history e h ∙ r

-- what holds of no events, and goes on with each event that is recorded, holds of each history
module _ (j : Job) (P : List Event → Type 0) (step : (history : List Event) (e : Event) → is_history j history ≡ true → P history → is_recorded j history e ≡ true → P (history ++ e ∷ [])) where
  along : (history more : List Event) → is_history j history ≡ true → P history → goes_on j history more ≡ true → P (history ++ more)
  along history [] h p g = subst P (sym (append-nil history)) p
  along history (e ∷ more) h p g =
      let r = and_parts (is_recorded j history e) (goes_on j (history ++ e ∷ []) more) g in
      subst P (append_assoc history (e ∷ []) more) (along (history ++ e ∷ []) more (one_more j history e h r.0) (step history e h p r.0) r.1)

  pub by_events : P [] → (history : List Event) → is_history j history ≡ true → P history
  by_events p history h = along [] history refl p h

after_one : (j : Job) (history : List Event) (e : Event) (b : Bool) → is_recorded j history e ≡ b → is_history j history ≡ true → is_history j (if b then history ++ e ∷ [] else history) ≡ true
after_one j history e true r h = one_more j history e h r
after_one j history e false r h = h

-- a history stays one, whatever comes
pub after_events_is_history : (j : Job) (history events : List Event) → is_history j history ≡ true → is_history j (after_events j history events) ≡ true
after_events_is_history j history [] h = h
after_events_is_history j history (e ∷ more) h =
    after_events_is_history j (after_event j history e) more (after_one j history e (is_recorded j history e) refl h)

pub replay_is_history : ReplayIsHistory
replay_is_history j events = after_events_is_history j [] events refl

replays : (j : Job) (history more : List Event) → goes_on j history more ≡ true → after_events j history more ≡ history ++ more
replays j history [] g = sym (append-nil history)
replays j history (e ∷ more) g =
    let r = and_parts (is_recorded j history e) (goes_on j (history ++ e ∷ []) more) g in
    ap (λ b. after_events j (if b then history ++ e ∷ [] else history) more) r.0
    ∙ (replays j (history ++ e ∷ []) more r.1 ∙ append_assoc history (e ∷ []) more)

pub history_replays_to_itself : HistoryReplaysToItself
history_replays_to_itself j history h = replays j [] history h

pub answered_have_answers : AnsweredHaveAnswers
answered_have_answers [] t = refl
answered_have_answers (Give h ∷ events) t = answered_have_answers events t
answered_have_answers (Answer h ∷ events) t = ap (λ b. (h.tablet == t) || b) (answered_have_answers events t)
answered_have_answers (Fault h cause ∷ events) t = answered_have_answers events t

pub answered-append : (xs ys : List Event) → answered (xs ++ ys) ≡ answered xs ++ answered ys
answered-append [] ys = refl
answered-append (Give h ∷ xs) ys = answered-append xs ys
answered-append (Answer h ∷ xs) ys = ap (λ (ts : List ℕ). h.tablet ∷ ts) (answered-append xs ys)
answered-append (Fault h cause ∷ xs) ys = answered-append xs ys

eqb_flip : (a b : ℕ) → (a == b) ≡ (b == a)
eqb_flip a b = grind (arith, nat_tests)

any_flip : (t : ℕ) (ts : List ℕ) → list_any (nat_eq t) ts ≡ list_any (λ u. u == t) ts
any_flip t [] = refl
any_flip t (u ∷ ts) = ap₂ (λ a b. a || b) (eqb_flip t u) (any_flip t ts)

-- an answer that is recorded is the first of its tablet
pub first_answer : (b c : Bool) → (b && not c) ≡ true → c ≡ false
first_answer b true e = absurd (true≢false (sym ((and_parts b false e).1)))
first_answer b false e = refl

distinct_step : (j : Job) (history : List Event) (e : Event) → is_history j history ≡ true → IsDistinct nat_eq (answered history) → is_recorded j history e ≡ true → IsDistinct nat_eq (answered (history ++ e ∷ []))
distinct_step j history (Give h) _ d r = subst (IsDistinct nat_eq) (sym (answered-append history (Give h ∷ []) ∙ append-nil (answered history))) d
distinct_step j history (Answer h) _ d r =
    subst (IsDistinct nat_eq) (sym (answered-append history (Answer h ∷ [])))
    (IsDistinct-push nat_eq_equiv (answered history) h.tablet d
    (any_flip h.tablet (answered history) ∙ (sym (answered_have_answers history h.tablet) ∙ first_answer _ _ r)))
distinct_step j history (Fault h cause) _ d r = subst (IsDistinct nat_eq) (sym (answered-append history (Fault h cause ∷ []) ∙ append-nil (answered history))) d

none_answered : IsDistinct nat_eq (answered [])
unfolding IsDistinct
none_answered = tt

pub answered_are_distinct : AnsweredAreDistinct
answered_are_distinct j history h = by_events j (λ es. IsDistinct nat_eq (answered es)) (distinct_step j) none_answered history h

-- ---- an event more, and what was given stays given

-- a test of some event, with one event more
pub any_push : (p : Event → Bool) (es : List Event) (e : Event) → list_any p (es ++ e ∷ []) ≡ (list_any p es || p e)
any_push p es e = list_any-append p es (e ∷ []) ∙ ap (λ b. list_any p es || b) (or-false (p e))

pub same_self : (h : Hand) → same_hand h h ≡ true
same_self h = ap₂ (λ a b. a && b) (eq-eqb h.tablet h.tablet refl) (eq-eqb h.leaf h.leaf refl)

-- a hand that was just given
pub has_give-push : (history : List Event) (h : Hand) → has_give (history ++ Give h ∷ []) h ≡ true
has_give-push history h = any_push (gives h) history (Give h) ∙ (ap (λ b. has_give history h || b) (same_self h) ∙ or-true (has_give history h))

-- a hand that was given in a history is given in each that begins with it
pub has_give-longer : (history longer : List Event) (h : Hand) → IsPrefix history longer → has_give history h ≡ true → has_give longer h ≡ true
has_give-longer history longer h p given =
    subst (λ (es : List Event). has_give es h ≡ true) p.1 (list_any-append (gives h) history p.0 ∙ ap (λ b. b || has_give p.0 h) given)
