-- Truth values in RLE, a piece behind others.
use Rattle.std.proofs.Common.{◌≡◌, ℕ, ◌+◌, List, [], ◌++◌, length, sym, ap, subst, ◌∙◌, arith, Result, Ok, Err}
use Rattle.std.proofs.lemmas.List.{append-nil}
use Rattle.dr_formats.specs.Reading.{got}
use Rattle.dr_formats.specs.Page as page
use Rattle.dr_formats.specs.Page.{level_width, levels, sized_part}
use Rattle.dr_formats.proofs.ReadingLemmas.{same_got}
use Rattle.dr_page.specs.declared.fault.PageFault.{PageFault}
use Rattle.dr_page.specs.declared.level_cursor.LevelCursor.{LevelCursor}
use Rattle.dr_page.specs.Reads.{WhereNone}
use Rattle.dr_page.specs.RunReading.{HasRead}
use Rattle.dr_page.specs.LevelPieces.{piece_of, HasLevels, TakesLevels}
use Rattle.dr_page.specs.ValuePieces.{HasBits, TakesBits}
use Rattle.dr_page.proofs.ValueLemmas.{no_bits_none}
use Rattle.dr_page.proofs.CursorLemmas.{truths_there}

levels_same : (part given : List ℕ) (c new : LevelCursor) → new.greatest ≡ c.greatest → new.runs ≡ c.runs → HasLevels part given c → HasLevels part given new
levels_same part given c new g r h = record {
  taken = ap (λ k. levels k (length given) part) g ∙ h.taken;
  runs = λ z. subst (λ q. HasRead (level_width new.greatest) part given q) (sym r) (subst (λ k. HasRead (level_width k) part given c.runs) (sym g) (h.runs (λ y. z (g ∙ y))));
}

-- none came
pub bits_same : (bytes given more : List ℕ) (c new : LevelCursor) → new.greatest ≡ c.greatest → new.runs ≡ c.runs → more ≡ [] → HasBits bytes given c → HasBits bytes (given ++ more) new
bits_same bytes given more c new g r e h =
    subst (λ (xs : List ℕ). HasBits bytes xs new) (sym (ap (λ xs. given ++ xs) e ∙ append-nil given)) (record {
      front = h.front;
      greatest = g ∙ h.greatest;
      levels = λ part rest p. levels_same part given c new g r (h.levels part rest p);
    })

-- some came, or there aren't so many
pub bits_taken : {B : Type 0} (bytes part rest given : List ℕ) (n : ℕ) (c new : LevelCursor) (r : Result B PageFault) → (n ≡ 0 → ⊥) → sized_part bytes ≡ got part rest → new.greatest ≡ c.greatest → HasBits bytes given c
    → TakesLevels part given n c.greatest new r → TakesBits bytes given n new r
bits_taken bytes part rest given n c new (Ok b) z p g h t =
    let one : new.greatest ≡ 1 = g ∙ h.greatest in
    record {
      front = truths_there bytes part rest (given ++ piece_of new) p (sym (ap (λ k. levels k (length (given ++ piece_of new)) part) one) ∙ t.taken);
      greatest = one;
      levels = λ other behind q.
          let s = (same_got {E = page.PageFault} part other rest behind (sym p ∙ q)).0 in
          subst (λ (xs : List ℕ). HasLevels xs (given ++ piece_of new) new) s t;
    }
bits_taken bytes part rest given n c new (Err e) z p g h t =
    no_bits_none (length given + n) bytes part rest e (λ y. z (omega (arith, y))) p (subst (λ k. WhereNone e (levels k (length given + n) part)) h.greatest t)
