-- Whole lines, and what stands behind them.
use Rattle.std.specs.Prelude.{◌≡◌, ℕ, ◌==◌, List, [], ◌∷◌, ◌++◌, Bool, true, false, not}
use Rattle.std.proofs.Common.{refl, sym, ap, ◌∙◌, true≢false}
use Rattle.std.proofs.lemmas.Bool.{and_parts}
use Rattle.dr_meaning.specs.Lines.{lines_of}
use Rattle.dr_lines.specs.Cutting.{no_lf}
use Rattle.dr_input.specs.Whole.{before_whole, whole_lines}
use Rattle.dr_meaning.specs.Lists.{onto_first}

-- ---- one byte more

at_lf : (x : ℕ) (a : List ℕ) → (x == 10) ≡ true → whole_lines (x ∷ a) ≡ x ∷ whole_lines a
at_lf x a e = rw e refl

at_other : (x : ℕ) (a : List ℕ) → (x == 10) ≡ false → whole_lines (x ∷ a) ≡ before_whole x (whole_lines a)
at_other x a e = rw e refl

same_tail : (x : ℕ) (a b : List ℕ) → x ∷ a ≡ x ∷ b → a ≡ b
same_tail x a b e = cc

same_behind : (x : ℕ) (w a : List ℕ) → before_whole x w ≡ x ∷ a → w ≡ a
same_behind x [] a e = cc
same_behind x (c ∷ cs) a e = cc

longer : (x : ℕ) (a y : List ℕ) → before_whole x a ≡ x ∷ a → before_whole x (a ++ y) ≡ x ∷ (a ++ y)
longer x [] y e = cc
longer x (c ∷ cs) y e = refl

-- ---- whole lines

-- of whole lines with bytes behind them
pub whole_behind : (a b : List ℕ) → whole_lines a ≡ a → whole_lines (a ++ b) ≡ a ++ whole_lines b
whole_behind [] b h = refl
whole_behind (x ∷ a) b h = by (x == 10) refl (λ k. whole_behind a b k)
  where
    by : (t : Bool) → (x == 10) ≡ t → (whole_lines a ≡ a → whole_lines (a ++ b) ≡ a ++ whole_lines b) → whole_lines (x ∷ (a ++ b)) ≡ x ∷ (a ++ whole_lines b)
    by true e ih = at_lf x (a ++ b) e ∙ ap (λ (y : List ℕ). x ∷ y) (ih (same_tail x (whole_lines a) a (sym (at_lf x a e) ∙ h)))
    by false e ih =
        let g : before_whole x (whole_lines a) ≡ x ∷ a = sym (at_other x a e) ∙ h in
        let s : whole_lines a ≡ a = same_behind x (whole_lines a) a g in
        at_other x (a ++ b) e ∙ ap (before_whole x) (ih s) ∙ longer x a (whole_lines b) (ap (before_whole x) (sym s) ∙ g)

twice_before : (x : ℕ) (w : List ℕ) → (x == 10) ≡ false → whole_lines w ≡ w → whole_lines (before_whole x w) ≡ before_whole x w
twice_before x [] e h = refl
twice_before x (c ∷ cs) e h = at_other x (c ∷ cs) e ∙ ap (before_whole x) h

-- whole lines are whole
pub whole_twice : (a : List ℕ) → whole_lines (whole_lines a) ≡ whole_lines a
whole_twice [] = refl
whole_twice (x ∷ a) = by (x == 10) refl (whole_twice a)
  where
    by : (t : Bool) → (x == 10) ≡ t → whole_lines (whole_lines a) ≡ whole_lines a → whole_lines (whole_lines (x ∷ a)) ≡ whole_lines (x ∷ a)
    by true e ih = ap whole_lines (at_lf x a e) ∙ at_lf x (whole_lines a) e ∙ ap (λ (y : List ℕ). x ∷ y) ih ∙ sym (at_lf x a e)
    by false e ih = ap whole_lines (at_other x a e) ∙ twice_before x (whole_lines a) e ih ∙ sym (at_other x a e)

-- they come first
front_before : (x : ℕ) (a w t : List ℕ) → a ≡ w ++ t → (tail : List ℕ) × (x ∷ a ≡ before_whole x w ++ tail)
front_before x a [] t e = (x ∷ a, refl)
front_before x a (c ∷ cs) t e = (t, ap (λ (y : List ℕ). x ∷ y) e)

pub whole_front : (a : List ℕ) → (tail : List ℕ) × (a ≡ whole_lines a ++ tail)
whole_front [] = ([], refl)
whole_front (x ∷ a) = by (x == 10) refl (whole_front a)
  where
    by : (t : Bool) → (x == 10) ≡ t → (tail : List ℕ) × (a ≡ whole_lines a ++ tail) → (tail : List ℕ) × (x ∷ a ≡ whole_lines (x ∷ a) ++ tail)
    by true e f = (f.0, ap (λ (y : List ℕ). x ∷ y) f.1 ∙ ap (λ (y : List ℕ). y ++ f.0) (sym (at_lf x a e)))
    by false e f =
        let g = front_before x a (whole_lines a) f.0 f.1 in
        (g.0, g.1 ∙ ap (λ (y : List ℕ). y ++ g.0) (sym (at_other x a e)))

-- a line with its LF
before_lf : (x : ℕ) (a : List ℕ) → before_whole x (a ++ 10 ∷ []) ≡ x ∷ (a ++ 10 ∷ [])
before_lf x [] = refl
before_lf x (c ∷ cs) = refl

pub whole_line : (a : List ℕ) → whole_lines (a ++ 10 ∷ []) ≡ a ++ 10 ∷ []
whole_line [] = refl
whole_line (x ∷ a) = by (x == 10) refl (whole_line a)
  where
    by : (t : Bool) → (x == 10) ≡ t → whole_lines (a ++ 10 ∷ []) ≡ a ++ 10 ∷ [] → whole_lines (x ∷ (a ++ 10 ∷ [])) ≡ x ∷ (a ++ 10 ∷ [])
    by true e ih = at_lf x (a ++ 10 ∷ []) e ∙ ap (λ (y : List ℕ). x ∷ y) ih
    by false e ih = at_other x (a ++ 10 ∷ []) e ∙ ap (before_whole x) ih ∙ before_lf x a

-- no LF, no whole line
other_byte : (x : ℕ) → not (x == 10) ≡ true → (x == 10) ≡ false
other_byte x h = by (x == 10) h
  where
    by : (t : Bool) → not t ≡ true → t ≡ false
    by true k = absurd (true≢false (sym k))
    by false k = refl

pub none_whole : (a : List ℕ) → no_lf a ≡ true → whole_lines a ≡ []
none_whole [] h = refl
none_whole (x ∷ a) h =
    let p = and_parts (not (x == 10)) (no_lf a) h in
    at_other x a (other_byte x p.0) ∙ ap (before_whole x) (none_whole a p.1)

-- ---- their lines

some_line : (b : ℕ) (ls : List (List ℕ)) → (l : List ℕ) × (ms : List (List ℕ)) × (onto_first b ls ≡ l ∷ ms)
some_line b [] = (b ∷ [], [], refl)
some_line b (l ∷ ls) = (b ∷ l, ls, refl)

has_line : (c : ℕ) (cs : List ℕ) → (l : List ℕ) × (ms : List (List ℕ)) × (lines_of (c ∷ cs) ≡ l ∷ ms)
has_line c cs = by (c == 10) refl
  where
    by : (t : Bool) → (c == 10) ≡ t → (l : List ℕ) × (ms : List (List ℕ)) × (lines_of (c ∷ cs) ≡ l ∷ ms)
    by true e = ([], lines_of cs, rw e refl)
    by false e = let s = some_line c (lines_of cs) in (s.0, s.1, rw e s.2)

onto_lists : (x : ℕ) (ls ms : List (List ℕ)) (l : List ℕ) (others : List (List ℕ)) → ls ≡ l ∷ others → onto_first x (ls ++ ms) ≡ onto_first x ls ++ ms
onto_lists x [] ms l others e = cc
onto_lists x (k ∷ ks) ms l others e = refl

onto_lines : (x : ℕ) (a : List ℕ) (ms : List (List ℕ)) → before_whole x a ≡ x ∷ a → onto_first x (lines_of a ++ ms) ≡ onto_first x (lines_of a) ++ ms
onto_lines x [] ms e = cc
onto_lines x (c ∷ cs) ms e = let s = has_line c cs in onto_lists x (lines_of (c ∷ cs)) ms s.0 s.1 s.2

-- of whole lines with bytes behind them
pub lines_behind : (a b : List ℕ) → whole_lines a ≡ a → lines_of (a ++ b) ≡ lines_of a ++ lines_of b
lines_behind [] b h = refl
lines_behind (x ∷ a) b h = by (x == 10) refl (λ k. lines_behind a b k)
  where
    by : (t : Bool) → (x == 10) ≡ t → (whole_lines a ≡ a → lines_of (a ++ b) ≡ lines_of a ++ lines_of b) → lines_of (x ∷ (a ++ b)) ≡ lines_of (x ∷ a) ++ lines_of b
    by true e ih = rw e (ap (λ (ls : List (List ℕ)). [] ∷ ls) (ih (same_tail x (whole_lines a) a (sym (at_lf x a e) ∙ h))))
    by false e ih =
        let g : before_whole x (whole_lines a) ≡ x ∷ a = sym (at_other x a e) ∙ h in
        let s : whole_lines a ≡ a = same_behind x (whole_lines a) a g in
        rw e (ap (onto_first x) (ih s) ∙ onto_lines x a (lines_of b) (ap (before_whole x) (sym s) ∙ g))
