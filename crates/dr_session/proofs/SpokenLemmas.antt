-- What lines print, one list of lines behind another.
use Rattle.std.specs.Prelude.{◌≡◌, ℕ, suc, ◌+◌, List, [], ◌∷◌, ◌++◌, length, Option, Some, None, Result, Ok, Err, ◌⊎◌}
use Rattle.std.proofs.Common.{arith, refl, sym, ap, ◌∙◌, subst, append_assoc, append-nil, inl, inr}
use Rattle.std.proofs.lemmas.List.{length-append}
use Rattle.dr_meaning.specs.Schema.{Schema}
use Rattle.dr_meaning.specs.Lines.{lines_of}
use Rattle.dr_lines.specs.Cutting.{CutsLine, CutsBytes, BeginsLine, IsEnd, ahead}
use Rattle.dr_lines.proofs.CutLemmas.{cut_at_lf}
use Rattle.dr_input.specs.Whole.{whole_lines}
use Rattle.dr_input.proofs.WholeLemmas.{whole_behind, whole_line, none_whole}
use Rattle.dr_input.proofs.TakenLemmas.{lines_split, last_nothing}
use Rattle.dr_input.specs.Taken.{EndsLine, WhereTold}
use Rattle.dr_sub_meaning.specs.Session.{Session, Heard, SessionFault, Spoken, new_session, heard, spoken_behind, spoken_from, spoken}
use Rattle.dr_session.specs.Spoken.{behind, Speaks, HasSpoken}
use Rattle.dr_session.specs.Saying.{RefusesFirst}
use Rattle.dr_session.specs.Talking.{Prints, PrintsBefore, PrintsGiven, PrintsFront}

-- ---- lists of lines

pub speaks_nothing : (s : Schema) (w : Session) (number : ℕ) → Speaks s w number [] [] w
speaks_nothing s w number = λ ms. let e : number ≡ number + 0 = omega arith in ap (λ (j : ℕ). spoken_from s w j ms) e

pub speaks_line : (s : Schema) (w : Session) (number : ℕ) (l : List ℕ) (h : Heard) → heard s w number l ≡ Ok h → Speaks s w number (l ∷ []) h.text h.session
speaks_line s w number l h e = λ ms.
    let i : suc number ≡ number + 1 = omega arith in
    ap (λ (r : Result Heard SessionFault). spoken_behind number r (λ v. spoken_from s v (suc number) ms)) e
    ∙ ap (λ (j : ℕ). behind h.text (spoken_from s h.session j ms)) i

behind_both : (a b : List ℕ) (t : Spoken) → behind a (behind b t) ≡ behind (a ++ b) t
behind_both a b t = ap (λ (x : List ℕ). record { text = x; refusal = t.refusal }) (sym (append_assoc a b t.text))

pub speaks_both : (s : Schema) (w v u : Session) (number : ℕ) (ls ms : List (List ℕ)) (a b : List ℕ) → Speaks s w number ls a v → Speaks s v (number + length ls) ms b u → Speaks s w number (ls ++ ms) (a ++ b) u
speaks_both s w v u number ls ms a b h k = λ ks.
    let n = length-append ls ms in
    let i : (number + length ls) + length ms ≡ number + length (ls ++ ms) = omega (arith, n) in
    ap (spoken_from s w number) (append_assoc ls ms ks) ∙ h (ms ++ ks) ∙ ap (behind a) (k ks) ∙ behind_both a b (spoken_from s u ((number + length ls) + length ms) ks)
    ∙ ap (λ (j : ℕ). behind (a ++ b) (spoken_from s u j ks)) i

-- all of them
pub speaks_all : (s : Schema) (w v : Session) (number : ℕ) (ls : List (List ℕ)) (text : List ℕ) → Speaks s w number ls text v → spoken_from s w number ls ≡ record { text = text; refusal = None }
speaks_all s w v number ls text h =
    ap (spoken_from s w number) (sym (append-nil ls)) ∙ h [] ∙ ap (λ (x : List ℕ). record { text = x; refusal = None }) (append-nil text)

-- the next line is refused
pub speaks_refused : (s : Schema) (w v : Session) (number : ℕ) (ls ms : List (List ℕ)) (l text : List ℕ) (e : SessionFault) → Speaks s w number ls text v → heard s v (number + length ls) l ≡ Err e
    → spoken_from s w number (ls ++ l ∷ ms) ≡ record { text = text; refusal = Some (record { line = number + length ls; fault = e }) }
speaks_refused s w v number ls ms l text e h k =
    h (l ∷ ms)
    ∙ ap (λ (r : Result Heard SessionFault). behind text (spoken_behind (number + length ls) r (λ x. spoken_from s x (suc (number + length ls)) ms))) k
    ∙ ap (λ (x : List ℕ). record { text = x; refusal = Some (record { line = number + length ls; fault = e }) }) (append-nil text)

-- ---- inputs

pub nothing_spoken : (s : Schema) (w : Session) (o : Option (List ℕ)) → HasSpoken s w 0 [] w o o
nothing_spoken s w None = tt
nothing_spoken s w (Some all) = ([], refl, inl refl, refl, speaks_nothing s w 1)

first_nothing : (a b : List ℕ) → a ++ b ≡ [] → a ≡ []
first_nothing [] b h = refl
first_nothing (x ∷ a) b h = cc

ends_front : (a b c : List ℕ) → EndsLine a (b ++ c) → EndsLine a b
ends_front a b c (inl w) = inl w
ends_front a b c (inr e) = inr (first_nothing b c e)

ends_both : (a b c : List ℕ) → EndsLine a (b ++ c) → EndsLine b c → EndsLine (a ++ b) c
ends_both a b c (inl v) (inl w) = inl (whole_behind a b v ∙ ap (λ (x : List ℕ). a ++ x) w)
ends_both a b c (inr e) k = inr (last_nothing b c e)
ends_both a b c h (inr e) = inr e

-- one line more
piece_spoken : (s : Schema) (w v : Session) (count : ℕ) (text : List ℕ) (all rest others piece l : List ℕ) (k : Heard) → HasSpoken s w count text v (Some all) (Some rest)
    → rest ≡ piece ++ others → EndsLine piece others → lines_of piece ≡ l ∷ [] → heard s v (suc count) l ≡ Ok k → HasSpoken s w (suc count) (text ++ k.text) k.session (Some all) (Some others)
piece_spoken s w v count text all rest others piece l k h e p c m =
    let d : EndsLine h.0 (piece ++ others) = subst (EndsLine h.0) e h.2 in
    let split : lines_of (h.0 ++ piece) ≡ lines_of h.0 ++ (l ∷ []) = lines_split h.0 piece (ends_front h.0 piece others d) ∙ ap (λ (x : List (List ℕ)). lines_of h.0 ++ x) c in
    let i : suc count ≡ 1 + length (lines_of h.0) = omega (arith, h.3) in
    let n = length-append (lines_of h.0) (l ∷ []) in
    let j : length (lines_of h.0 ++ (l ∷ [])) ≡ suc count = n ∙ omega (arith, h.3) in (
      h.0 ++ piece,
      h.1 ∙ ap (λ (x : List ℕ). h.0 ++ x) e ∙ sym (append_assoc h.0 piece others),
      ends_both h.0 piece others d p,
      ap (λ (x : List (List ℕ)). length x) split ∙ j,
      subst (λ (ls : List (List ℕ)). Speaks s w 1 ls (text ++ k.text) k.session) (sym split)
          (speaks_both s w v k.session 1 (lines_of h.0) (l ∷ []) text k.text h.4 (subst (λ (x : ℕ). Speaks s v x (l ∷ []) k.text k.session) i (speaks_line s v (suc count) l k m))),
    )

line_spoken : (s : Schema) (w v : Session) (count : ℕ) (text : List ℕ) (all rest others l : List ℕ) (k : Heard) → HasSpoken s w count text v (Some all) (Some rest)
    → CutsLine (Some rest) l (Some others) → CutsBytes (Some rest) l (Some others) → heard s v (suc count) l ≡ Ok k → HasSpoken s w (suc count) (text ++ k.text) k.session (Some all) (Some others)
line_spoken s w v count text all rest others l k h c (p, inl e) m =
    piece_spoken s w v count text all rest others (l ++ 10 ∷ []) l k h (e ∙ sym (append_assoc l (10 ∷ []) others)) (inl (whole_line l)) (cut_at_lf l [] p) m
line_spoken s w v count text all rest others l k h c (p, inr e) m =
    piece_spoken s w v count text all rest others rest l k h (sym (append-nil rest) ∙ ap (λ (x : List ℕ). rest ++ x) (sym e.1)) (inr e.1) (c ∙ ap (λ (x : List ℕ). l ∷ lines_of x) e.1) m

pub spoken_line : (s : Schema) (w v : Session) (count : ℕ) (text : List ℕ) (a b c : Option (List ℕ)) (l : List ℕ) (k : Heard) → HasSpoken s w count text v a b
    → CutsLine b l c → CutsBytes b l c → heard s v (suc count) l ≡ Ok k → HasSpoken s w (suc count) (text ++ k.text) k.session a c
spoken_line s w v count text None b c l k h d e m = tt
spoken_line s w v count text (Some all) None c l k h d e m = absurd h
spoken_line s w v count text (Some all) (Some rest) None l k h d e m = absurd d
spoken_line s w v count text (Some all) (Some rest) (Some others) l k h d e m = line_spoken s w v count text all rest others l k h d e m

-- ---- what a new session prints

-- of all of these bytes
pub prints_all : (s : Schema) (v : Session) (text bytes : List ℕ) → Speaks s new_session 1 (lines_of bytes) text v → Prints s text bytes
unfolding spoken
prints_all s v text bytes h = speaks_all s new_session v 1 (lines_of bytes) text h

-- the next line is refused
prints_before : (s : Schema) (v : Session) (count : ℕ) (text all rest l : List ℕ) (ms : List (List ℕ)) (f : SessionFault) → HasSpoken s new_session count text v (Some all) (Some rest) → lines_of rest ≡ l ∷ ms → heard s v (suc count) l ≡ Err f
    → PrintsBefore s (record { line = suc count; fault = f }) text all
unfolding spoken
prints_before s v count text all rest l ms f h c e =
    let i : suc count ≡ 1 + length (lines_of h.0) = omega (arith, h.3) in
    ap (λ (x : List ℕ). spoken_from s new_session 1 (lines_of x)) h.1 ∙ ap (spoken_from s new_session 1) (lines_split h.0 rest h.2 ∙ ap (λ (x : List (List ℕ)). lines_of h.0 ++ x) c)
    ∙ speaks_refused s new_session v 1 (lines_of h.0) ms l text f h.4 (ap (λ (x : ℕ). heard s v x l) (sym i) ∙ e)
    ∙ ap (λ (x : ℕ). record { text = text; refusal = Some (record { line = x; fault = f }) }) (sym i)

pub refused_spoken : (s : Schema) (v : Session) (count : ℕ) (text : List ℕ) (a b c : Option (List ℕ)) (l : List ℕ) (f : SessionFault) → HasSpoken s new_session count text v a b → CutsLine b l c → heard s v (suc count) l ≡ Err f
    → WhereTold a (PrintsBefore s (record { line = suc count; fault = f }) text)
refused_spoken s v count text None b c l f h d e = tt
refused_spoken s v count text (Some all) None c l f h d e = absurd h
refused_spoken s v count text (Some all) (Some rest) None l f h d e = absurd d
refused_spoken s v count text (Some all) (Some rest) (Some others) l f h d e = prints_before s v count text all rest l (lines_of others) f h d e

-- it is refused whatever the session
pub first_refused : (s : Schema) (v : Session) (count : ℕ) (text : List ℕ) (a b : Option (List ℕ)) (f : SessionFault) → HasSpoken s new_session count text v a b → RefusesFirst (suc count) b f
    → WhereTold a (PrintsBefore s (record { line = suc count; fault = f }) text)
first_refused s v count text None b f h r = tt
first_refused s v count text (Some all) None f h r = absurd h
first_refused s v count text (Some all) (Some rest) f h r = prints_before s v count text all rest r.0 r.1 f h r.2 (r.3 s v)

-- at the input's end
pub end_prints : (s : Schema) (v : Session) (count : ℕ) (text : List ℕ) (a b c : Option (List ℕ)) → HasSpoken s new_session count text v a b → IsEnd b c → WhereTold a (Prints s text)
end_prints s v count text None b c h e = tt
end_prints s v count text (Some all) None c h e = absurd h
end_prints s v count text (Some all) (Some rest) c h e =
    let same : h.0 ≡ all = sym (append-nil h.0) ∙ ap (λ (x : List ℕ). h.0 ++ x) (sym e.0) ∙ sym h.1 in
    subst (Prints s text) same (prints_all s v text h.0 h.4)

only_end : (p rest : List ℕ) → p ++ rest ≡ [] → rest ≡ []
only_end p rest e = last_nothing p rest e

pub end_is_told : (s : Schema) (v : Session) (count : ℕ) (text : List ℕ) (a b : Option (List ℕ)) (p : List ℕ) (left : Option (List ℕ)) → HasSpoken s new_session count text v a b → IsEnd b (ahead p left) → WhereTold a (λ _. left ≡ Some [])
end_is_told s v count text None b p left h e = tt
end_is_told s v count text (Some all) None p left h e = absurd h
end_is_told s v count text (Some all) (Some rest) p None h e = let x : None ≡ Some [] = e.1 in cc
end_is_told s v count text (Some all) (Some rest) p (Some left) h e = ap (λ (x : List ℕ). Some x) (only_end p left (some_is e.1))
  where
    some_is : {x y : List ℕ} → Some x ≡ Some y → x ≡ y
    some_is i = cc

-- the source failed
begun_read : (s : Schema) (v : Session) (count : ℕ) (text all rest others : List ℕ) (h : HasSpoken s new_session count text v (Some all) (Some rest)) (k : BeginsLine (Some rest) (Some others)) → EndsLine h.0 (k.0 ++ others)
    → Prints s text (whole_lines (h.0 ++ k.0)) ⊎ ((others ≡ []) × Prints s text (h.0 ++ k.0))
begun_read s v count text all rest others h k (inl e) =
    inl (subst (Prints s text) (sym (whole_behind h.0 k.0 e ∙ ap (λ (x : List ℕ). h.0 ++ x) (none_whole k.0 k.2) ∙ append-nil h.0)) (prints_all s v text h.0 h.4))
begun_read s v count text all rest others h k (inr e) =
    inr (last_nothing k.0 others e, subst (Prints s text) (sym (ap (λ (x : List ℕ). h.0 ++ x) (first_nothing k.0 others e) ∙ append-nil h.0)) (prints_all s v text h.0 h.4))

pub failed_spoken : (s : Schema) (v : Session) (count : ℕ) (text : List ℕ) (a b c : Option (List ℕ)) → HasSpoken s new_session count text v a b → BeginsLine b c → PrintsGiven s text a c
failed_spoken s v count text None b c h k = tt
failed_spoken s v count text (Some all) None c h k = absurd h
failed_spoken s v count text (Some all) (Some rest) None h k = absurd k
failed_spoken s v count text (Some all) (Some rest) (Some others) h k = (
  h.0 ++ k.0,
  h.1 ∙ ap (λ (x : List ℕ). h.0 ++ x) k.1 ∙ sym (append_assoc h.0 k.0 others),
  begun_read s v count text all rest others h k (subst (EndsLine h.0) k.1 h.2),
)

-- ---- the text of some first lines, where the cutter has read this ahead

front_is : (s : Schema) (v : Session) (count : ℕ) (text all rest more others : List ℕ) → HasSpoken s new_session count text v (Some all) (Some rest) → rest ≡ more ++ others → PrintsFront s text (Some all) (Some others)
front_is s v count text all rest more others h e = (
  h.0 ++ more,
  h.1 ∙ ap (λ (x : List ℕ). h.0 ++ x) e ∙ sym (append_assoc h.0 more others),
  (h.0, more, refl, subst (EndsLine h.0) e h.2, prints_all s v text h.0 h.4),
)

pub front_spoken : (s : Schema) (v : Session) (count : ℕ) (text : List ℕ) (a : Option (List ℕ)) (p : List ℕ) (left : Option (List ℕ)) → HasSpoken s new_session count text v a (ahead p left) → PrintsFront s text a left
front_spoken s v count text None p left h = tt
front_spoken s v count text (Some all) p None h = absurd h
front_spoken s v count text (Some all) p (Some left) h = front_is s v count text all (p ++ left) p left h refl

-- and it has cut a line off since
cut_front : (s : Schema) (v : Session) (count : ℕ) (text all rest l p left : List ℕ) → HasSpoken s new_session count text v (Some all) (Some rest) → CutsBytes (Some rest) l (Some (p ++ left)) → PrintsFront s text (Some all) (Some left)
cut_front s v count text all rest l p left h (n, inl e) = front_is s v count text all rest (l ++ 10 ∷ p) left h (e ∙ sym (append_assoc l (10 ∷ p) left))
cut_front s v count text all rest l p left h (n, inr e) =
    front_is s v count text all rest l left h (e.0 ∙ sym (append-nil l) ∙ ap (λ (x : List ℕ). l ++ x) (sym (last_nothing p left e.1)))

pub front_cut : (s : Schema) (v : Session) (count : ℕ) (text : List ℕ) (a b : Option (List ℕ)) (l p : List ℕ) (left : Option (List ℕ)) → HasSpoken s new_session count text v a b → CutsBytes b l (ahead p left) → PrintsFront s text a left
front_cut s v count text None b l p left h c = tt
front_cut s v count text (Some all) None l p left h c = absurd h
front_cut s v count text (Some all) (Some rest) l p None h c = absurd c
front_cut s v count text (Some all) (Some rest) l p (Some left) h c = cut_front s v count text all rest l p left h c

-- nothing was read
pub front_nothing : (s : Schema) (a : Option (List ℕ)) → PrintsFront s [] a a
front_nothing s None = tt
front_nothing s (Some all) = ([], refl, ([], [], refl, inl refl, prints_all s new_session [] [] (speaks_nothing s new_session 1)))
