-- What is chosen, and where nothing is.
use Rattle.std.proofs.Common.{◌≡◌, ℕ, zero, suc, ◌+◌, ◌<◌, List, [], ◌∷◌, length, Bool, true, false, ◌&&◌, ◌||◌, not, Option, Some, None, refl, sym, ap, ap₂, ◌∙◌, subst, true≢false, arith, add-zero, zero-add, eq-eqb, ⊎_elim, ◌⊎◌, inl, inr}
use Rattle.std.specs.Prelude.{◌==◌, nat_le, nat_lt, if◌then◌else◌, IsSome}
use Rattle.std.specs.List.{list_any, list_all}
use Rattle.std.proofs.lemmas.Bool.{and_parts, not-true}
use Rattle.std.proofs.Math.Bool.{or-false}
use Rattle.std.proofs.lemmas.Bool.Decides.{nat_tests}
use Rattle.dr_dispatch.specs.Job.{Job, hand, leaves_at}
use Rattle.dr_dispatch.specs.History.{has_give, has_answer, has_fault}
use Rattle.dr_dispatch.specs.Choice.{first_open, all_failed, since_give, urgent, late, or_else, lowest, choice}
use Rattle.dr_dispatch.specs.ChoiceLaws.{all_given, ChoiceIsRecorded, AnsweredIsNotChosen, is_passed_over, NoChoiceExactly, FailedTabletIsChosen, IsSettled, SettledWithoutChoice}
use Rattle.dr_dispatch.specs.declared.event.Hand.{Hand}
use Rattle.dr_dispatch.specs.declared.event.Event.{Event}

-- ---- the first leaf that is open

pub record IsOpenHand (es : List Event) (t : ℕ) (leaves : List ℕ) (h : Hand) : Type 0 where
  pub tablet : h.tablet ≡ t
  pub leaf : list_any (λ l. l == h.leaf) leaves ≡ true
  pub unused : has_give es h ≡ false

open_here : (es : List Event) (t l : ℕ) (leaves : List ℕ) (h : Hand) → ((first_open es t leaves ≡ Some h) → IsOpenHand es t leaves h)
    → (b : Bool) → has_give es (hand t l) ≡ b → (if b then first_open es t leaves else Some (hand t l)) ≡ Some h → IsOpenHand es t (l ∷ leaves) h
open_here es t l leaves h rec true is e = let r = rec e in record { tablet = r.tablet; leaf = or_right (l == h.leaf) _ r.leaf; unused = r.unused }
  where
    or_right : (a b : Bool) → b ≡ true → (a || b) ≡ true
    or_right true b e = refl
    or_right false b e = e
open_here es t l leaves h rec false is e =
    let same : hand t l ≡ h = cc e in
    subst (IsOpenHand es t (l ∷ leaves)) same (record { tablet = refl; leaf = ap (λ b. b || list_any (λ k. k == l) leaves) (eq-eqb l l refl); unused = is })

pub first_open_some : (es : List Event) (t : ℕ) (leaves : List ℕ) (h : Hand) → first_open es t leaves ≡ Some h → IsOpenHand es t leaves h
first_open_some es t [] h e = absurd (cc e)
first_open_some es t (l ∷ leaves) h e = open_here es t l leaves h (first_open_some es t leaves h) (has_give es (hand t l)) refl e

abbrev pub is_none : Option Hand → Bool
is_none None = true
is_none (Some h) = false

pub none_at : (b : Bool) (rest : Option Hand) (h : Hand) → is_none (if b then rest else Some h) ≡ (b && is_none rest)
none_at true rest h = refl
none_at false rest h = refl

-- no leaf is open exactly where all were given
pub first_open-none : (es : List Event) (t : ℕ) (leaves : List ℕ) → is_none (first_open es t leaves) ≡ all_given es t leaves
first_open-none es t [] = refl
first_open-none es t (l ∷ leaves) =
    none_at (has_give es (hand t l)) (first_open es t leaves) (hand t l) ∙ ap (λ b. has_give es (hand t l) && b) (first_open-none es t leaves)

is_none-None : (o : Option Hand) → is_none o ≡ true → o ≡ None
is_none-None None e = refl
is_none-None (Some h) e = absurd (true≢false (sym e))

-- ---- the lowest tablet

-- some tablet gives the hand
pub record Picks (pick : ℕ → List ℕ → Option Hand) (rows : List (List ℕ)) (base : ℕ) (h : Hand) : Type 0 where
  pub place : ℕ
  pub tablet : ℕ
  pub number : base + place ≡ tablet
  pub within : place < length rows
  pub picked : pick tablet (leaves_at rows place) ≡ Some h

module _ (pick : ℕ → List ℕ → Option Hand) where
  picks_at : (base : ℕ) (leaves : List ℕ) (rest : List (List ℕ)) (h : Hand) → (lowest pick (suc base) rest ≡ Some h → Picks pick rest (suc base) h)
      → (o : Option Hand) → pick base leaves ≡ o → or_else o (lowest pick (suc base) rest) ≡ Some h → Picks pick (leaves ∷ rest) base h
  picks_at base leaves rest h rec None is e =
      let r = rec e in record { place = suc r.place; tablet = r.tablet; number = omega (arith, r.number); within = omega (arith, r.within); picked = r.picked }
  picks_at base leaves rest h rec (Some g) is e = record { place = 0; tablet = base; number = add-zero base; within = omega arith; picked = is ∙ e }

  lowest_some : (base : ℕ) (rows : List (List ℕ)) (h : Hand) → lowest pick base rows ≡ Some h → Picks pick rows base h
  lowest_some base [] h e = absurd (cc e)
  lowest_some base (leaves ∷ rest) h e = picks_at base leaves rest h (lowest_some (suc base) rest h) (pick base leaves) refl e

  pub or_else_none : (a b : Option Hand) → or_else a b ≡ None → (a ≡ None) × (b ≡ None)
  or_else_none None b e = (refl, e)
  or_else_none (Some h) b e = absurd (cc e)

  pub lowest_none : (base place t : ℕ) (rows : List (List ℕ)) → base + place ≡ t → place < length rows → lowest pick base rows ≡ None → pick t (leaves_at rows place) ≡ None
  lowest_none base place t [] n w e = absurd (omega arith)
  lowest_none base zero t (leaves ∷ rest) n w e = subst (λ (u : ℕ). pick u leaves ≡ None) (omega (arith, n)) (or_else_none (pick base leaves) (lowest pick (suc base) rest) e).0
  lowest_none base (suc place) t (leaves ∷ rest) n w e =
      lowest_none (suc base) place t rest (omega (arith, n)) (omega arith) (or_else_none (pick base leaves) (lowest pick (suc base) rest) e).1

  pub all_none : (base : ℕ) (rows : List (List ℕ)) → ((place t : ℕ) → base + place ≡ t → place < length rows → pick t (leaves_at rows place) ≡ None) → lowest pick base rows ≡ None
  all_none base [] each = refl
  all_none base (leaves ∷ rest) each =
      ap₂ or_else (each 0 base (add-zero base) (omega arith)) (all_none (suc base) rest (λ place t n w. each (suc place) t (omega (arith, n)) (omega (arith, w))))

pub or_else_some : (a b : Option Hand) (h : Hand) → or_else a b ≡ Some h → (a ≡ Some h) ⊎ (b ≡ Some h)
or_else_some None b h e = inr e
or_else_some (Some g) b h e = inl e

pub if_some : (b : Bool) (o : Option Hand) (h : Hand) → (if b then o else None) ≡ Some h → (b ≡ true) × (o ≡ Some h)
if_some true o h e = (refl, e)
if_some false o h e = absurd (cc e)

-- ---- what is chosen

pub record IsOpenTablet (j : Job) (es : List Event) (h : Hand) : Type 0 where
  pub leaf : list_any (λ l. l == h.leaf) (leaves_at j.leaves h.tablet) ≡ true
  pub unanswered : has_answer es h.tablet ≡ false
  pub unused : has_give es h ≡ false

opened : (j : Job) (es : List Event) (h : Hand) (test : ℕ → List ℕ → Bool)
    → Picks (λ t leaves. if not (has_answer es t) && test t leaves then first_open es t leaves else None) j.leaves 0 h → IsOpenTablet j es h
opened j es h test p =
    let both = if_some (not (has_answer es p.tablet) && test p.tablet (leaves_at j.leaves p.place)) (first_open es p.tablet (leaves_at j.leaves p.place)) h p.picked in
    let is = first_open_some es p.tablet (leaves_at j.leaves p.place) h both.1 in
    let same : p.place ≡ h.tablet = sym (zero-add p.place) ∙ (p.number ∙ sym is.tablet) in
    record {
      leaf = subst (λ (t : ℕ). list_any (λ l. l == h.leaf) (leaves_at j.leaves t) ≡ true) same is.leaf;
      unanswered = subst (λ (t : ℕ). has_answer es t ≡ false) (sym is.tablet) (not-true _ (and_parts _ _ both.0).0);
      unused = is.unused;
    }

pub choice_is_open : (j : Job) (es : List Event) (h : Hand) → choice j es ≡ Some h → IsOpenTablet j es h
choice_is_open j es h e =
    ⊎_elim (λ first. opened j es h (all_failed es) (lowest_some (urgent es) 0 j.leaves h first))
    (λ second. opened j es h (λ t leaves. nat_le j.lag (since_give es t)) (lowest_some (late j.lag es) 0 j.leaves h second))
    (or_else_some (lowest (urgent es) 0 j.leaves) (lowest (late j.lag es) 0 j.leaves) h e)

pub choice_is_recorded : ChoiceIsRecorded
choice_is_recorded j es h e = let is = choice_is_open j es h e in rw (is.leaf, is.unanswered, is.unused) refl

pub answered_is_not_chosen : AnsweredIsNotChosen
answered_is_not_chosen j es h e = (choice_is_open j es h e).unanswered

-- ---- where nothing is chosen

abbrev passes : Bool → Bool → Bool → Bool → Bool
passes answer given failed near = answer || given || (not failed && near)

pub if_none : (b : Bool) (o : Option Hand) → (if b then o else None) ≡ None → (b ≡ false) ⊎ (o ≡ None)
if_none true o e = inr e
if_none false o e = inl refl

at_none : (answer failed lagged : Bool) (o : Option Hand) → ((if not answer && failed then o else None) ≡ None) → ((if not answer && lagged then o else None) ≡ None)
    → passes answer (is_none o) failed (not lagged) ≡ true
at_none true failed lagged o a b = refl
at_none false failed lagged None a b = refl
at_none false true lagged (Some h) a b = absurd (cc a)
at_none false false true (Some h) a b = absurd (cc b)
at_none false false false (Some h) a b = refl

from_passes : (answer failed lagged : Bool) (o : Option Hand) → passes answer (is_none o) failed (not lagged) ≡ true
    → ((if not answer && failed then o else None) ≡ None) × ((if not answer && lagged then o else None) ≡ None)
from_passes true failed lagged o e = (refl, refl)
from_passes false true true None e = (refl, refl)
from_passes false true false None e = (refl, refl)
from_passes false false true None e = (refl, refl)
from_passes false false false None e = (refl, refl)
from_passes false true lagged (Some h) e = absurd (true≢false (sym e))
from_passes false false true (Some h) e = absurd (true≢false (sym e))
from_passes false false false (Some h) e = (refl, refl)

not_late : (lag since : ℕ) → not (nat_le lag since) ≡ nat_lt since lag
not_late lag since = grind (arith, nat_tests)

passed_is : (j : Job) (es : List Event) (t : ℕ)
    → passes (has_answer es t) (is_none (first_open es t (leaves_at j.leaves t))) (all_failed es t (leaves_at j.leaves t)) (not (nat_le j.lag (since_give es t))) ≡ is_passed_over j es t
passed_is j es t =
    ap₂ (λ given near. passes (has_answer es t) given (all_failed es t (leaves_at j.leaves t)) near) (first_open-none es t (leaves_at j.leaves t)) (not_late j.lag (since_give es t))

none_to_passed : (j : Job) (es : List Event) → choice j es ≡ None → (t : ℕ) → t < length j.leaves → is_passed_over j es t ≡ true
none_to_passed j es e t w =
    let both = or_else_none (urgent es) (lowest (urgent es) 0 j.leaves) (lowest (late j.lag es) 0 j.leaves) e in
    sym (passed_is j es t)
    ∙ at_none (has_answer es t) (all_failed es t (leaves_at j.leaves t)) (nat_le j.lag (since_give es t)) (first_open es t (leaves_at j.leaves t))
    (lowest_none (urgent es) 0 t t j.leaves (zero-add t) w both.0) (lowest_none (late j.lag es) 0 t t j.leaves (zero-add t) w both.1)

passed_to_none : (j : Job) (es : List Event) → ((t : ℕ) → t < length j.leaves → is_passed_over j es t ≡ true) → choice j es ≡ None
passed_to_none j es each =
    let at : (t : ℕ) → t < length j.leaves → (urgent es t (leaves_at j.leaves t) ≡ None) × (late j.lag es t (leaves_at j.leaves t) ≡ None)
    = λ t w. from_passes (has_answer es t) (all_failed es t (leaves_at j.leaves t)) (nat_le j.lag (since_give es t)) (first_open es t (leaves_at j.leaves t)) (passed_is j es t ∙ each t w) in
    ap₂ or_else
    (all_none (urgent es) 0 j.leaves (λ place t n w. subst (λ (u : ℕ). urgent es u (leaves_at j.leaves place) ≡ None) (sym (zero-add place) ∙ n) (at place w).0))
    (all_none (late j.lag es) 0 j.leaves (λ place t n w. subst (λ (u : ℕ). late j.lag es u (leaves_at j.leaves place) ≡ None) (sym (zero-add place) ∙ n) (at place w).1))

pub no_choice_exactly : NoChoiceExactly
no_choice_exactly j es = (none_to_passed j es, passed_to_none j es)

some_unless : (o : Option Hand) → (o ≡ None → ⊥) → IsSome o
some_unless None no_none = absurd (no_none refl)
some_unless (Some h) no_none = refl

pub failed_tablet_is_chosen : FailedTabletIsChosen
failed_tablet_is_chosen j es t w unanswered open_leaf failed =
    some_unless (choice j es) (λ none.
    let p : is_passed_over j es t ≡ true = none_to_passed j es none t w in
    let q : is_passed_over j es t ≡ false = ap₂ (λ a g. passes a g (all_failed es t (leaves_at j.leaves t)) (nat_lt (since_give es t) j.lag)) unanswered open_leaf
    ∙ ap (λ f. not f && nat_lt (since_give es t) j.lag) failed in
    true≢false (sym p ∙ q))

-- ---- where no leaf is at work

settled_fails : (es : List Event) (h : Hand) → IsSettled es → has_answer es h.tablet ≡ false → (not (has_give es h) || has_fault es h) ≡ true
settled_fails es h settled unanswered = at (has_give es h) refl
  where
    at : (b : Bool) → has_give es h ≡ b → (not b || has_fault es h) ≡ true
    at true is = sym (or-false (has_fault es h)) ∙ (ap (λ b. has_fault es h || b) (sym unanswered) ∙ settled h is)
    at false is = refl

all_settled : (es : List Event) (t : ℕ) (leaves : List ℕ) → IsSettled es → has_answer es t ≡ false → all_failed es t leaves ≡ true
all_settled es t [] settled unanswered = refl
all_settled es t (l ∷ leaves) settled unanswered = ap₂ (λ a b. a && b) (settled_fails es (hand t l) settled unanswered) (all_settled es t leaves settled unanswered)

given_and_failed : (g f : Bool) → g ≡ true → (not g || f) ≡ true → f ≡ true
given_and_failed true f e h = h
given_and_failed false f e h = absurd (true≢false (sym e))

all_faults : (es : List Event) (t : ℕ) (leaves : List ℕ) → all_given es t leaves ≡ true → all_failed es t leaves ≡ true → list_all (λ l. has_fault es (hand t l)) leaves ≡ true
all_faults es t [] g f = refl
all_faults es t (l ∷ leaves) g f =
    let a = and_parts (has_give es (hand t l)) (all_given es t leaves) g in
    let b = and_parts (not (has_give es (hand t l)) || has_fault es (hand t l)) (all_failed es t leaves) f in
    ap₂ (λ x y. x && y) (given_and_failed (has_give es (hand t l)) (has_fault es (hand t l)) a.0 b.0) (all_faults es t leaves a.1 b.1)

pub settled_without_choice : SettledWithoutChoice
settled_without_choice j es settled none t w = at (has_answer es t) refl
  where
    given : has_answer es t ≡ false → all_failed es t (leaves_at j.leaves t) ≡ true → all_given es t (leaves_at j.leaves t) ≡ true
    given unanswered failed = left (all_given es t (leaves_at j.leaves t))
        (ap₂ (λ a f. passes a (all_given es t (leaves_at j.leaves t)) f (nat_lt (since_give es t) j.lag)) (sym unanswered) (sym failed) ∙ none_to_passed j es none t w)
      where
        left : (b : Bool) → (b || false) ≡ true → b ≡ true
        left true e = refl
        left false e = e

    at : (b : Bool) → has_answer es t ≡ b → (b || list_all (λ l. has_fault es (hand t l)) (leaves_at j.leaves t)) ≡ true
    at true is = refl
    at false is = let failed = all_settled es t (leaves_at j.leaves t) settled is in all_faults es t (leaves_at j.leaves t) (given is failed) failed
