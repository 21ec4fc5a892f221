-- The journal of what grows, and the history of a desk that keeps of each tablet that its piece was added.
use Rattle.std.proofs.Common.{◌≡◌, ◌<◌, ◌≤◌, ◌+◌, ◌^◌, ℕ, zero, suc, List, [], ◌∷◌, ◌++◌, map, length, Bool, true, false, ◌||◌, refl, sym, ap, ◌∙◌, subst, true≢false, eq-eqb, length-append, arith}
use Rattle.std.specs.Prelude.{◌==◌, replicate, slice_index_or, slice_set}
use Rattle.std.proofs.lemmas.Bool.{eqb-true}
use Rattle.std.proofs.Math.Bool.{or-true}
use Rattle.std.proofs.lemmas.List.Folds.{list_any-append}
use mathlib.Core.List.{IsPrefix}
use Rattle.dr_dispatch.specs.History.{answers, has_answer, answered}
use Rattle.dr_dispatch.specs.declared.event.Hand.{Hand}
use Rattle.dr_dispatch.specs.declared.event.Event.{Event}
use Rattle.dr_dispatch.specs.declared.event.Event.TheVariants.{Give, Answer, Fault}
use Rattle.dr_serve.specs.GrowsOn.{pieces_in, AreAnswered, IsOfPieces, HavePieces, AnsweredHavePieces}
use Rattle.dr_serve.proofs.EndLemmas.{any_longer}
use Rattle.dr_serve.proofs.PlaceLemmas.{set_length, replicate_length}

-- ---- no piece

no_flag : (n t : ℕ) → slice_index_or (replicate n false) t false ≡ false
no_flag zero t = refl
no_flag (suc n) zero = refl
no_flag (suc n) (suc t) = no_flag n t

pub none_of_pieces : (n : ℕ) → n ≤ 4096 → IsOfPieces [] (replicate n false)
none_of_pieces n few = record {
  answers = λ t. sym (no_flag n t);
  once = omega arith;
  few = let e : length (replicate n false) ≡ n = replicate_length n false in omega (arith, e, few);
}

-- ---- one piece more

pieces_set : (bs : List Bool) (i : ℕ) → i < length bs → slice_index_or bs i false ≡ false → pieces_in (slice_set bs i true) ≡ suc (pieces_in bs)
pieces_set [] i l h = absurd (omega (arith, l))
pieces_set (true ∷ bs) zero l h = absurd (true≢false h)
pieces_set (false ∷ bs) zero l h = refl
pieces_set (true ∷ bs) (suc i) l h = ap suc (pieces_set bs i (omega (arith, l)) h)
pieces_set (false ∷ bs) (suc i) l h = pieces_set bs i (omega (arith, l)) h

pieces_few : (bs : List Bool) → pieces_in bs ≤ length bs
pieces_few [] = omega arith
pieces_few (true ∷ bs) = let h = pieces_few bs in omega (arith, h)
pieces_few (false ∷ bs) = let h = pieces_few bs in omega (arith, h)

set_here : (bs : List Bool) (i : ℕ) → i < length bs → slice_index_or (slice_set bs i true) i false ≡ true
set_here [] i l = absurd (omega (arith, l))
set_here (b ∷ bs) zero l = refl
set_here (b ∷ bs) (suc i) l = set_here bs i (omega (arith, l))

set_there : (bs : List Bool) (i t : ℕ) → (i ≡ t → ⊥) → slice_index_or (slice_set bs i true) t false ≡ slice_index_or bs t false
set_there [] i t ne = refl
set_there (b ∷ bs) zero zero ne = absurd (ne refl)
set_there (b ∷ bs) zero (suc t) ne = refl
set_there (b ∷ bs) (suc i) zero ne = refl
set_there (b ∷ bs) (suc i) (suc t) ne = set_there bs i t (λ e. ne (ap suc e))

-- there is room for its answer
pub journal_has_room : (journal : List Event) (bs : List Bool) → IsOfPieces journal bs → length journal + 1 < 2 ^ 64
journal_has_room journal bs h = let a = h.once in let b = h.few in let c = pieces_few bs in omega (arith, a, b, c)

or_none : (b : Bool) → (b || false) ≡ b
or_none true = refl
or_none false = refl

pub answer_pushed : (journal : List Event) (h : Hand) (t : ℕ) → has_answer (journal ++ Answer h ∷ []) t ≡ (has_answer journal t || (h.tablet == t))
answer_pushed journal h t = list_any-append (answers t) journal (Answer h ∷ []) ∙ ap (λ (b : Bool). has_answer journal t || b) (or_none (h.tablet == t))

pub one_more_piece : (journal : List Event) (bs : List Bool) (h : Hand) → IsOfPieces journal bs → h.tablet < length bs → slice_index_or bs h.tablet false ≡ false → IsOfPieces (journal ++ Answer h ∷ []) (slice_set bs h.tablet true)
one_more_piece journal bs h is l none = record {
  answers = λ t. answer_pushed journal h t ∙ by t (h.tablet == t) refl;
  once =
      let a = is.once in
      let b = pieces_set bs h.tablet l none in
      let c = length-append journal (Answer h ∷ []) in
      omega (arith, a, b, c);
  few = let a = is.few in let b = set_length bs h.tablet true in omega (arith, a, b);
}
  where
    by : (t : ℕ) (b : Bool) → (h.tablet == t) ≡ b → (has_answer journal t || b) ≡ slice_index_or (slice_set bs h.tablet true) t false
    by t true e = or-true (has_answer journal t) ∙ sym (subst (λ (u : ℕ). slice_index_or (slice_set bs h.tablet true) u false ≡ true) (eqb-true h.tablet t e) (set_here bs h.tablet l))
    by t false e =
        or_none (has_answer journal t)
        ∙ (is.answers t ∙ sym (set_there bs h.tablet t (λ (q : h.tablet ≡ t). absurd (true≢false (sym (eq-eqb h.tablet t q) ∙ e)))))

-- and its receipt shows the answer
pub answer_is_there : (journal seen : List Event) (h : Hand) → seen ≡ journal ++ Answer h ∷ [] → has_answer seen h.tablet ≡ true
answer_is_there journal seen h e =
    ap (λ (es : List Event). has_answer es h.tablet) e ∙ (answer_pushed journal h h.tablet ∙ (ap (λ (b : Bool). has_answer journal h.tablet || b) (eq-eqb h.tablet h.tablet refl) ∙ or-true (has_answer journal h.tablet)))

pub answer_was_there : (journal seen : List Event) (bs : List Bool) (t : ℕ) → IsOfPieces journal bs → seen ≡ journal → slice_index_or bs t false ≡ true → has_answer seen t ≡ true
answer_was_there journal seen bs t is e h = ap (λ (es : List Event). has_answer es t) e ∙ (is.answers t ∙ h)

-- ---- what receipts show

pub shown_answer : (journal now seen : List Event) (t : ℕ) → now ≡ journal → IsPrefix seen now → has_answer seen t ≡ true → has_answer journal t ≡ true
shown_answer journal now seen t e p h = subst (λ (es : List Event). has_answer es t ≡ true) e (any_longer (answers t) seen now p h)

pub answered_more : (journal : List Event) (ts : List ℕ) (t : ℕ) → AreAnswered journal ts → has_answer journal t ≡ true → AreAnswered journal (ts ++ t ∷ [])
answered_more journal [] t h k = (k, tt)
answered_more journal (u ∷ ts) t h k = (h.0, answered_more journal ts t h.1 k)

-- tablets that the journal answers have pieces
pub have_pieces : (journal : List Event) (bs : List Bool) (ts : List ℕ) → IsOfPieces journal bs → AreAnswered journal ts → HavePieces bs ts
have_pieces journal bs [] is h = tt
have_pieces journal bs (t ∷ ts) is h = (sym (is.answers t) ∙ h.0, have_pieces journal bs ts is h.1)

-- ---- a tablet's flag

pub flag_there : (bs : List Bool) (t : ℕ) (b : Bool) → t < length bs → b ≡ slice_index_or bs t b → b ≡ true → slice_index_or bs t false ≡ true
flag_there [] t b l e h = absurd (omega (arith, l))
flag_there (c ∷ bs) zero b l e h = sym e ∙ h
flag_there (c ∷ bs) (suc t) b l e h = flag_there bs t b (omega (arith, l)) e h

-- ---- the history

pub answered_have_pieces : (bs : List Bool) (history : List Event) → HavePieces bs (answered history) → AnsweredHavePieces history bs
answered_have_pieces bs [] h t k = absurd (true≢false (sym k))
answered_have_pieces bs (Give g ∷ history) h t k = answered_have_pieces bs history h t k
answered_have_pieces bs (Fault g cause ∷ history) h t k = answered_have_pieces bs history h t k
answered_have_pieces bs (Answer g ∷ history) h t k = by (g.tablet == t) refl k (answered_have_pieces bs history h.1 t)
  where
    by : (b : Bool) → (g.tablet == t) ≡ b → (b || has_answer history t) ≡ true → (has_answer history t ≡ true → slice_index_or bs t false ≡ true) → slice_index_or bs t false ≡ true
    by true e k more = subst (λ (u : ℕ). slice_index_or bs u false ≡ true) (eqb-true g.tablet t e) h.0
    by false e k more = more k

map_same : (ts : List ℕ) → map (λ (t : ℕ). t) ts ≡ ts
map_same [] = refl
map_same (t ∷ ts) = ap (λ (us : List ℕ). t ∷ us) (map_same ts)

-- where each of the tablets that a history answers is kept, and each that is kept has a piece
pub kept_have_pieces : (bs : List Bool) (history : List Event) (ts : List ℕ) → map (λ (t : ℕ). t) ts ≡ answered history → HavePieces bs ts → AnsweredHavePieces history bs
kept_have_pieces bs history ts e h = answered_have_pieces bs history (subst (HavePieces bs) (sym (map_same ts) ∙ e) h)
