-- What is fresh, and what is handed out to a pass that drew a tablet.
use Rattle.std.proofs.Common.{◌≡◌, ℕ, List, [], ◌∷◌, ◌++◌, Bool, true, false, ◌&&◌, ◌||◌, not, Option, Some, None, refl, sym, ap, ◌∙◌, subst, true≢false, eq-eqb, ⊎_elim, ◌⊎◌, inl, inr}
use Rattle.std.specs.Prelude.{◌==◌, if◌then◌else◌}
use Rattle.std.specs.List.{list_any}
use Rattle.std.proofs.lemmas.Bool.{and_parts, or_cases, eqb-true}
use Rattle.std.proofs.Math.Bool.{or-true}
use Rattle.dr_dispatch.specs.Job.{Job, hand, leaves_at}
use Rattle.dr_dispatch.specs.History.{gives, answers, has_give, has_answer, is_recorded, is_history}
use Rattle.dr_dispatch.specs.Choice.{gives_tablet, or_else, choice}
use Rattle.dr_dispatch.specs.Draws.{was_handed_out, first_hand, fresh}
use Rattle.dr_dispatch.specs.DrawLaws.{FreshIsRecorded, NotFreshExactly, IsFresh, HandIsChosenOrFresh, NoHandIsNoChoice}
use Rattle.dr_dispatch.specs.declared.event.Hand.{Hand}
use Rattle.dr_dispatch.specs.declared.event.Event.{Event}
use Rattle.dr_dispatch.specs.declared.event.Event.TheVariants.{Give, Answer, Fault}
use Rattle.dr_dispatch.proofs.HistoryLemmas.{any_push, by_events}

off : {A : Type 0} → false ≡ true → A
off e = absurd (true≢false (sym e))

-- ---- an answered tablet was handed out

any_weaker : (p q : Event → Bool) → ((e : Event) → p e ≡ true → q e ≡ true) → (es : List Event) → list_any p es ≡ true → list_any q es ≡ true
any_weaker p q weaker [] h = off h
any_weaker p q weaker (e ∷ es) h =
    ⊎_elim (λ (a : p e ≡ true). ap (λ b. b || list_any q es) (weaker e a))
    (λ (a : list_any p es ≡ true). ap (λ b. q e || b) (any_weaker p q weaker es a) ∙ or-true (q e))
    (or_cases (p e) (list_any p es) h)

gives_its_tablet : (h : Hand) (e : Event) → gives h e ≡ true → gives_tablet h.tablet e ≡ true
gives_its_tablet h (Give g) is = (and_parts (g.tablet == h.tablet) (g.leaf == h.leaf) is).0
gives_its_tablet h (Answer g) is = off is
gives_its_tablet h (Fault g cause) is = off is

given_was_handed_out : (history : List Event) (h : Hand) → has_give history h ≡ true → was_handed_out history h.tablet ≡ true
given_was_handed_out history h given = any_weaker (gives h) (gives_tablet h.tablet) (gives_its_tablet h) history given

-- an answer that is recorded is of a tablet that was handed out
answer_was_handed_out : (j : Job) (history : List Event) (t : ℕ) (e : Event) → is_recorded j history e ≡ true → answers t e ≡ true → was_handed_out history t ≡ true
answer_was_handed_out j history t (Give g) r is = off is
answer_was_handed_out j history t (Answer g) r is =
    subst (λ (u : ℕ). was_handed_out history u ≡ true) (eqb-true g.tablet t is)
    (given_was_handed_out history g (and_parts (has_give history g) (not (has_answer history g.tablet)) r).0)
answer_was_handed_out j history t (Fault g cause) r is = off is

HandedOut : ℕ → List Event → Type 0
HandedOut t es = has_answer es t ≡ true → was_handed_out es t ≡ true

handed_out_step : (j : Job) (t : ℕ) (history : List Event) (e : Event) → is_history j history ≡ true → HandedOut t history → is_recorded j history e ≡ true → HandedOut t (history ++ e ∷ [])
unfolding HandedOut
handed_out_step j t history e is before r answered =
    let was : was_handed_out history t ≡ true =
    ⊎_elim before (answer_was_handed_out j history t e r)
    (or_cases (has_answer history t) (answers t e) (sym (any_push (answers t) history e) ∙ answered)) in
    any_push (gives_tablet t) history e ∙ ap (λ b. b || gives_tablet t e) was

none_handed_out : (t : ℕ) → HandedOut t []
unfolding HandedOut
none_handed_out t answered = off answered

answered_was_handed_out : (j : Job) (history : List Event) (t : ℕ) → is_history j history ≡ true → has_answer history t ≡ true → was_handed_out history t ≡ true
unfolding HandedOut
answered_was_handed_out j history t is answered = by_events j (HandedOut t) (handed_out_step j t) (none_handed_out t) history is answered

-- ---- a tablet that wasn't handed out

-- what makes a tablet one that was handed out isn't there
missing : (history : List Event) (t : ℕ) (b : Bool) → was_handed_out history t ≡ false → (b ≡ true → was_handed_out history t ≡ true) → b ≡ false
missing history t true new was = absurd (true≢false (sym (was refl) ∙ new))
missing history t false new was = refl

recorded_give : (a b c : Bool) → a ≡ true → b ≡ false → c ≡ false → (a && not b && not c) ≡ true
recorded_give a b c x y z = rw (x, y, z) refl

-- its first leaf
pub record FreshAt (j : Job) (history : List Event) (t : ℕ) (h : Hand) : Type 0 where
  pub tablet : h.tablet ≡ t
  pub new : was_handed_out history t ≡ false
  pub first : first_hand t (leaves_at j.leaves t) ≡ Some h

fresh_by : (j : Job) (history : List Event) (t : ℕ) (h : Hand) (ls : List ℕ) → leaves_at j.leaves t ≡ ls → (b : Bool) → was_handed_out history t ≡ b → (if b then None else first_hand t ls) ≡ Some h
    → FreshAt j history t h
fresh_by j history t h ls is true was e = absurd (cc e)
fresh_by j history t h [] is false was e = absurd (cc e)
fresh_by j history t h (l ∷ ls) is false was e =
    let same : hand t l ≡ h = cc e in
    record { tablet = ap (λ (x : Hand). x.tablet) (sym same); new = was; first = ap (first_hand t) is ∙ e }

fresh_at : (j : Job) (history : List Event) (t : ℕ) (h : Hand) → fresh j history t ≡ Some h → FreshAt j history t h
fresh_at j history t h e = fresh_by j history t h (leaves_at j.leaves t) refl (was_handed_out history t) refl e

first_is_among : (t : ℕ) (ls : List ℕ) (h : Hand) → first_hand t ls ≡ Some h → list_any (λ l. l == h.leaf) ls ≡ true
first_is_among t [] h e = absurd (cc e)
first_is_among t (l ∷ ls) h e =
    let same : hand t l ≡ h = cc e in
    ap (λ b. b || list_any (λ k. k == h.leaf) ls) (eq-eqb l h.leaf (ap (λ (x : Hand). x.leaf) same))

pub fresh_is_recorded : FreshIsRecorded
fresh_is_recorded j history t h is e =
    let f = fresh_at j history t h e in
    let new : was_handed_out history h.tablet ≡ false = ap (was_handed_out history) f.tablet ∙ f.new in
    recorded_give (list_any (λ l. l == h.leaf) (leaves_at j.leaves h.tablet)) (has_answer history h.tablet) (has_give history h)
    (subst (λ (u : ℕ). list_any (λ l. l == h.leaf) (leaves_at j.leaves u) ≡ true) (sym f.tablet) (first_is_among t (leaves_at j.leaves t) h f.first))
    (missing history h.tablet (has_answer history h.tablet) new (answered_was_handed_out j history h.tablet is))
    (missing history h.tablet (has_give history h) new (given_was_handed_out history h))

none_by : (history : List Event) (t : ℕ) (ls : List ℕ) (b : Bool) → was_handed_out history t ≡ b → (if b then None else first_hand t ls) ≡ None → (was_handed_out history t ≡ true) ⊎ (ls ≡ [])
none_by history t ls true was e = inl was
none_by history t [] false was e = inr refl
none_by history t (l ∷ ls) false was e = absurd (cc e)

no_first : (t : ℕ) (b : Bool) → (if b then None else first_hand t []) ≡ None
no_first t true = refl
no_first t false = refl

pub not_fresh_exactly : NotFreshExactly
not_fresh_exactly j history t = (
  none_by history t (leaves_at j.leaves t) (was_handed_out history t) refl,
  ⊎_elim (λ (was : was_handed_out history t ≡ true). ap (λ b. if b then None else first_hand t (leaves_at j.leaves t)) was)
      (λ (empty : leaves_at j.leaves t ≡ []). ap (λ (ls : List ℕ). if was_handed_out history t then None else first_hand t ls) empty ∙ no_first t (was_handed_out history t)),
)

-- ---- what is handed out

is_fresh : (j : Job) (history : List Event) (t : ℕ) (h : Hand) → FreshAt j history t h → IsFresh j history h
is_fresh j history t h f = record {
  new = ap (was_handed_out history) f.tablet ∙ f.new;
  first = subst (λ (u : ℕ). first_hand u (leaves_at j.leaves u) ≡ Some h) (sym f.tablet) f.first;
}

drawn_by : (j : Job) (history : List Event) (t : ℕ) (h : Hand) (o : Option Hand) → fresh j history t ≡ o → or_else o (choice j history) ≡ Some h
    → (choice j history ≡ Some h) ⊎ ((Some t ≡ Some h.tablet) × IsFresh j history h)
drawn_by j history t h None is e = inl e
drawn_by j history t h (Some g) is e =
    let f = fresh_at j history t h (is ∙ e) in
    inr (ap (λ (u : ℕ). Some u) (sym f.tablet), is_fresh j history t h f)

pub hand_is_chosen_or_fresh : HandIsChosenOrFresh
hand_is_chosen_or_fresh j history None h e = inl e
hand_is_chosen_or_fresh j history (Some t) h e = drawn_by j history t h (fresh j history t) refl e

none_else : (o other : Option Hand) → or_else o other ≡ None → other ≡ None
none_else None other e = e
none_else (Some h) other e = absurd (cc e)

pub no_hand_is_no_choice : NoHandIsNoChoice
no_hand_is_no_choice j history None e = e
no_hand_is_no_choice j history (Some t) e = none_else (fresh j history t) (choice j history) e
