-- Records that were taken of lines, one list of lines behind another.
use Rattle.std.specs.Prelude.{◌≡◌, ℕ, suc, ◌+◌, List, [], ◌∷◌, ◌++◌, length, Option, Some, None, Result, Ok, Err}
use Rattle.std.proofs.Common.{arith, refl, sym, ap, ◌∙◌, subst, append_assoc, append-nil, inl, inr}
use Rattle.dr_meaning.specs.Schema.{Fields}
use Rattle.dr_meaning.specs.Record.{Node}
use Rattle.dr_meaning.specs.Lines.{Refusal, LineFault, Taken, lines_of, record_at, or_stop, taken_from}
use Rattle.dr_lines.specs.Cutting.{ahead, IsEnd, BeginsLine}
use Rattle.dr_input.specs.Whole.{whole_lines}
use Rattle.dr_input.specs.Taken.{WhereTold, behind, EndsLine, AreRecords, HasTaken, RefusesNext, AcceptsRead}
use Rattle.dr_input.proofs.WholeLemmas.{whole_behind, whole_twice, whole_front, none_whole, lines_behind}

-- ---- lists of lines

-- lines of which none is refused, with more behind them
pub taken_both : (fs : Fields) (most number : ℕ) (ls ms : List (List ℕ)) → (taken_from fs most number ls).refusal ≡ None
    → taken_from fs most number (ls ++ ms) ≡ behind (taken_from fs most number ls).records (taken_from fs most (number + length (taken_from fs most number ls).records) ms)
taken_both fs most number [] ms h = let e : number ≡ number + 0 = omega arith in ap (λ (j : ℕ). taken_from fs most j ms) e
taken_both fs most number (l ∷ ls) ms h = by (record_at fs most number l) h (λ k. taken_both fs most (suc number) ls ms k)
  where
    t : Taken
    t = taken_from fs most (suc number) ls

    by : (r : Result Node LineFault) → (or_stop number r t).refusal ≡ None
        → (t.refusal ≡ None → taken_from fs most (suc number) (ls ++ ms) ≡ behind t.records (taken_from fs most (suc number + length t.records) ms))
        → or_stop number r (taken_from fs most (suc number) (ls ++ ms)) ≡ behind (or_stop number r t).records (taken_from fs most (number + length (or_stop number r t).records) ms)
    by (Ok n) k ih =
        let e : suc number + length t.records ≡ number + suc (length t.records) = omega arith in
        ap (or_stop number (Ok n)) (ih k) ∙ ap (λ (j : ℕ). behind (n ∷ t.records) (taken_from fs most j ms)) e
    by (Err x) k ih = cc

-- the first of lines of which none is refused
taken_first : (fs : Fields) (most number : ℕ) (ls ms : List (List ℕ)) → (taken_from fs most number (ls ++ ms)).refusal ≡ None → (taken_from fs most number ls).refusal ≡ None
taken_first fs most number [] ms h = refl
taken_first fs most number (l ∷ ls) ms h = by (record_at fs most number l) h (λ k. taken_first fs most (suc number) ls ms k)
  where
    by : (r : Result Node LineFault) → (or_stop number r (taken_from fs most (suc number) (ls ++ ms))).refusal ≡ None
        → ((taken_from fs most (suc number) (ls ++ ms)).refusal ≡ None → (taken_from fs most (suc number) ls).refusal ≡ None) → (or_stop number r (taken_from fs most (suc number) ls)).refusal ≡ None
    by (Ok n) k ih = ih k
    by (Err x) k ih = k

-- ---- bytes

pub lines_split : (a b : List ℕ) → EndsLine a b → lines_of (a ++ b) ≡ lines_of a ++ lines_of b
lines_split a b (inl w) = lines_behind a b w
lines_split a b (inr e) =
    ap (λ (x : List ℕ). lines_of (a ++ x)) e ∙ ap lines_of (append-nil a) ∙ sym (append-nil (lines_of a)) ∙ ap (λ (x : List ℕ). lines_of a ++ lines_of x) (sym e)

first_nothing : (a b : List ℕ) → a ++ b ≡ [] → a ≡ []
first_nothing [] b h = refl
first_nothing (x ∷ a) b h = cc

pub last_nothing : (a b : List ℕ) → a ++ b ≡ [] → b ≡ []
last_nothing [] b h = h
last_nothing (x ∷ a) b h = cc

ends_front : (a b c : List ℕ) → EndsLine a (b ++ c) → EndsLine a b
ends_front a b c (inl w) = inl w
ends_front a b c (inr e) = inr (first_nothing b c e)

ends_both : (a b c : List ℕ) → EndsLine a (b ++ c) → EndsLine b c → EndsLine (a ++ b) c
ends_both a b c (inl v) (inl w) = inl (whole_behind a b v ∙ ap (λ (x : List ℕ). a ++ x) w)
ends_both a b c (inr e) k = inr (last_nothing b c e)
ends_both a b c h (inr e) = inr e

-- the records of bytes, with more behind them
records_then : (fs : Fields) (most number : ℕ) (R : List Node) (a b : List ℕ) → EndsLine a b → AreRecords fs most number a R
    → taken_from fs most (suc number) (lines_of (a ++ b)) ≡ behind R (taken_from fs most (suc (number + length R)) (lines_of b))
records_then fs most number R a b e h =
    let k = taken_both fs most (suc number) (lines_of a) (lines_of b) (ap (λ (t : Taken). t.refusal) h) in
    let j : suc number + length R ≡ suc (number + length R) = omega arith in
    ap (taken_from fs most (suc number)) (lines_split a b e) ∙ k
    ∙ ap (λ (t : Taken). behind t.records (taken_from fs most (suc number + length t.records) (lines_of b))) h
    ∙ ap (λ (i : ℕ). behind R (taken_from fs most i (lines_of b))) j

-- ---- nothing is read ahead

pub ahead_nothing : (left : Option (List ℕ)) (pending : List ℕ) → pending ≡ [] → ahead pending left ≡ left
ahead_nothing None pending e = refl
ahead_nothing (Some x) pending e = ap (λ (y : List ℕ). Some (y ++ x)) e

-- ---- what was taken

-- what is taken of an input is what was taken, and what is taken of the rest
pub taken_is : (fs : Fields) (most number : ℕ) (R : List Node) (all rest : List ℕ) → HasTaken fs most number R (Some all) (Some rest)
    → taken_from fs most (suc number) (lines_of all) ≡ behind R (taken_from fs most (suc (number + length R)) (lines_of rest))
taken_is fs most number R all rest h = ap (λ (x : List ℕ). taken_from fs most (suc number) (lines_of x)) h.1 ∙ records_then fs most number R h.0 rest h.2 h.3

pub nothing_taken : (fs : Fields) (most number : ℕ) (o : Option (List ℕ)) → HasTaken fs most number [] o o
nothing_taken fs most number None = tt
nothing_taken fs most number (Some all) = ([], refl, inl refl, refl)

pub taken_more : (fs : Fields) (most number : ℕ) (R S : List Node) (a b c : Option (List ℕ)) → HasTaken fs most number R a b → HasTaken fs most (number + length R) S b c → HasTaken fs most number (R ++ S) a c
taken_more fs most number R S None b c h k = tt
taken_more fs most number R S (Some all) None c h k = absurd h
taken_more fs most number R S (Some all) (Some rest) None h k = absurd k
taken_more fs most number R S (Some all) (Some rest) (Some others) h k =
    let e : EndsLine h.0 (k.0 ++ others) = subst (EndsLine h.0) k.1 h.2 in (
      h.0 ++ k.0,
      h.1 ∙ ap (λ (x : List ℕ). h.0 ++ x) k.1 ∙ sym (append_assoc h.0 k.0 others),
      ends_both h.0 k.0 others e k.2,
      records_then fs most number R h.0 k.0 (ends_front h.0 k.0 others e) h.3 ∙ ap (behind R) k.3,
    )

-- at the input's end
pub taken_ended : (fs : Fields) (most number : ℕ) (R : List Node) (a b c : Option (List ℕ)) → HasTaken fs most number R a b → IsEnd b c → HasTaken fs most number R a c
taken_ended fs most number R None b c h e = tt
taken_ended fs most number R (Some all) None c h e = absurd h
taken_ended fs most number R (Some all) (Some rest) c h e =
    subst (HasTaken fs most number R (Some all)) (ap (λ (x : List ℕ). Some x) e.0 ∙ sym e.1) h

pub told_ended : (fs : Fields) (most number : ℕ) (R : List Node) (a b c : Option (List ℕ)) → HasTaken fs most number R a b → IsEnd b c → WhereTold a (λ _. c ≡ Some [])
told_ended fs most number R None b c h e = tt
told_ended fs most number R (Some all) None c h e = absurd h
told_ended fs most number R (Some all) (Some rest) c h e = e.1

-- ---- what was read before the source failed

-- no whole line was read
pub accepts_begun : (fs : Fields) (most number : ℕ) (a b : Option (List ℕ)) → BeginsLine a b → AcceptsRead fs most number a b
accepts_begun fs most number None b h = tt
accepts_begun fs most number (Some all) None h = absurd h
accepts_begun fs most number (Some all) (Some rest) h =
    (h.0, h.1, ap (λ (x : List ℕ). (taken_from fs most (suc number) (lines_of x)).refusal) (none_whole h.0 h.2))

-- the whole lines of bytes of which none is refused
whole_accepted : (fs : Fields) (most number : ℕ) (R : List Node) (a : List ℕ) → AreRecords fs most number a R → (taken_from fs most (suc number) (lines_of (whole_lines a))).refusal ≡ None
whole_accepted fs most number R a h =
    let f = whole_front a in
    let l : lines_of a ≡ lines_of (whole_lines a) ++ lines_of f.0 = ap lines_of f.1 ∙ lines_behind (whole_lines a) f.0 (whole_twice a) in
    taken_first fs most (suc number) (lines_of (whole_lines a)) (lines_of f.0) (ap (λ (ls : List (List ℕ)). (taken_from fs most (suc number) ls).refusal) (sym l) ∙ ap (λ (t : Taken). t.refusal) h)

accepts_both : (fs : Fields) (most number : ℕ) (R : List Node) (a b c : List ℕ) → EndsLine a (b ++ c) → AreRecords fs most number a R → (taken_from fs most (suc (number + length R)) (lines_of (whole_lines b))).refusal ≡ None
    → (taken_from fs most (suc number) (lines_of (whole_lines (a ++ b)))).refusal ≡ None
accepts_both fs most number R a b c (inl w) h k =
    ap (λ (x : List ℕ). (taken_from fs most (suc number) (lines_of x)).refusal) (whole_behind a b w)
    ∙ ap (λ (t : Taken). t.refusal) (records_then fs most number R a (whole_lines b) (inl w) h) ∙ k
accepts_both fs most number R a b c (inr e) h k =
    ap (λ (x : List ℕ). (taken_from fs most (suc number) (lines_of (whole_lines x))).refusal) (ap (λ (x : List ℕ). a ++ x) (first_nothing b c e) ∙ append-nil a)
    ∙ whole_accepted fs most number R a h

-- behind records that were taken
pub accepts_behind : (fs : Fields) (most number : ℕ) (R : List Node) (a b c : Option (List ℕ)) → HasTaken fs most number R a b → AcceptsRead fs most (number + length R) b c → AcceptsRead fs most number a c
accepts_behind fs most number R None b c h k = tt
accepts_behind fs most number R (Some all) None c h k = absurd h
accepts_behind fs most number R (Some all) (Some rest) None h k = absurd k
accepts_behind fs most number R (Some all) (Some rest) (Some others) h k = (
  h.0 ++ k.0,
  h.1 ∙ ap (λ (x : List ℕ). h.0 ++ x) k.1 ∙ sym (append_assoc h.0 k.0 others),
  accepts_both fs most number R h.0 k.0 others (subst (EndsLine h.0) k.1 h.2) h.3 k.2,
)

-- the next line is refused behind records that were taken
pub refused_behind : (fs : Fields) (most number : ℕ) (R : List Node) (all rest : List ℕ) (e : Refusal) → HasTaken fs most number R (Some all) (Some rest) → RefusesNext fs most (number + length R) (Some rest) e
    → taken_from fs most (suc number) (lines_of all) ≡ record { records = R; refusal = Some e }
refused_behind fs most number R all rest e h r =
    taken_is fs most number R all rest h ∙ ap (behind R) r ∙ ap (λ (x : List Node). record { records = x; refusal = Some e }) (append-nil R)
