-- What a board keeps: each event that is recorded has room, and leaves one piece for each answered tablet.
use Rattle.std.proofs.Common.{◌≡◌, ℕ, ◌+◌, ◌<◌, List, [], ◌∷◌, ◌++◌, length, true, sym, ap, ap₂, ◌∙◌, arith, append-nil, length-append, subst, Bool, false, Option, None, Some, refl, if◌then◌else◌}
use Rattle.std.proofs.lemmas.List.{map_push, length-map}
use Rattle.std.proofs.lemmas.List.Elements.{All-push}
use Rattle.dr_dispatch.specs.Job.{Job}
use Rattle.dr_dispatch.specs.History.{is_recorded, after_event, answered}
use Rattle.dr_dispatch.specs.Choice.{choice, after_give, after_take}
use Rattle.dr_dispatch.specs.Draws.{fresh}
use Rattle.dr_dispatch.specs.Pieces.{KeepsPieces}
use Rattle.dr_dispatch.specs.declared.event.Hand.{Hand}
use Rattle.dr_dispatch.specs.declared.event.Event.{Event}
use Rattle.dr_dispatch.specs.declared.event.Event.TheVariants.{Give, Answer}
use Rattle.dr_dispatch.proofs.HistoryLemmas.{one_more, answered-append}
use Rattle.dr_dispatch.proofs.ChoiceLemmas.{choice_is_recorded}
use Rattle.dr_dispatch.proofs.DrawLemmas.{fresh_is_recorded}
use Rattle.dr_dispatch.proofs.BoundLemmas.{answered_are_tablets}

module _ {P : Type 0} (j : Job) (tablet_of : P → ℕ) (is_true : ℕ → P → Type 0) (history : List Event) (pieces : List P) (k : KeepsPieces j tablet_of is_true history pieces) where
  -- there is room for a piece
  pub piece_room : (h : Hand) → is_recorded j history (Answer h) ≡ true → length pieces < length j.leaves
  piece_room h r =
      let all : length (answered (history ++ Answer h ∷ [])) ≡ length (answered history) + 1
      = ap (λ (ts : List ℕ). length ts) (answered-append history (Answer h ∷ [])) ∙ length-append (answered history) (h.tablet ∷ []) in
      let held : length pieces ≡ length (answered history) = sym (length-map pieces tablet_of) ∙ ap (λ (ts : List ℕ). length ts) k.tablets in
      omega (arith, answered_are_tablets j (history ++ Answer h ∷ []) (one_more j history (Answer h) k.recorded r), all, held)

  -- an event that is no answer
  pub keeps_event : (e : Event) → is_recorded j history e ≡ true → answered (e ∷ []) ≡ [] → KeepsPieces j tablet_of is_true (history ++ e ∷ []) pieces
  keeps_event e r none = record {
    recorded = one_more j history e k.recorded r;
    tablets = k.tablets ∙ sym (answered-append history (e ∷ []) ∙ (ap (λ (ts : List ℕ). answered history ++ ts) none ∙ append-nil (answered history)));
    truths = k.truths;
  }

  -- an answer with its piece
  pub keeps_answer : (h : Hand) (piece : P) → is_recorded j history (Answer h) ≡ true → tablet_of piece ≡ h.tablet → is_true h.tablet piece
      → KeepsPieces j tablet_of is_true (history ++ Answer h ∷ []) (pieces ++ piece ∷ [])
  keeps_answer h piece r tablet truth = record {
    recorded = one_more j history (Answer h) k.recorded r;
    tablets = map_push tablet_of pieces piece ∙ (ap₂ (λ (ts : List ℕ) (t : ℕ). ts ++ t ∷ []) k.tablets tablet ∙ sym (answered-append history (Answer h ∷ [])));
    truths = All-push (λ p. is_true (tablet_of p) p) pieces piece k.truths (subst (λ (t : ℕ). is_true t piece) (sym tablet) truth);
  }

  event_at : (e : Event) → answered (e ∷ []) ≡ [] → (b : Bool) → is_recorded j history e ≡ b → KeepsPieces j tablet_of is_true (if b then history ++ e ∷ [] else history) pieces
  event_at e none true r = keeps_event e r none
  event_at e none false r = k

  -- what is so after an event that is no answer, recorded or not, and after a take
  pub keeps_after : (e : Event) → answered (e ∷ []) ≡ [] → KeepsPieces j tablet_of is_true (after_event j history e) pieces
  keeps_after e none = event_at e none (is_recorded j history e) refl

  take_at : (o : Option Hand) → choice j history ≡ o → KeepsPieces j tablet_of is_true (after_give history o) pieces
  take_at None is = k
  take_at (Some h) is = keeps_event (Give h) (choice_is_recorded j history h is) refl

  pub keeps_take : KeepsPieces j tablet_of is_true (after_take j history) pieces
  keeps_take = take_at (choice j history) refl

  -- after a tablet that is fresh was handed out
  fresh_at : (t : ℕ) (o : Option Hand) → fresh j history t ≡ o → KeepsPieces j tablet_of is_true (after_give history o) pieces
  fresh_at t None is = k
  fresh_at t (Some h) is = keeps_event (Give h) (fresh_is_recorded j history t h k.recorded is) refl

  pub keeps_fresh : (t : ℕ) → KeepsPieces j tablet_of is_true (after_give history (fresh j history t)) pieces
  keeps_fresh t = fresh_at t (fresh j history t) refl

  -- after an answer that is recorded
  pub keeps_answered : (h : Hand) (piece : P) → is_recorded j history (Answer h) ≡ true → tablet_of piece ≡ h.tablet → is_true h.tablet piece
      → KeepsPieces j tablet_of is_true (after_event j history (Answer h)) (pieces ++ piece ∷ [])
  keeps_answered h piece r tablet truth =
      subst (λ (b : Bool). KeepsPieces j tablet_of is_true (if b then history ++ Answer h ∷ [] else history) (pieces ++ piece ∷ [])) (sym r) (keeps_answer h piece r tablet truth)
