-- Where a pattern leads from a place to its next `%`, that place is as good as any later one.
use Rattle.std.proofs.Common.{◌≡◌, ℕ, ◌<◌, ◌≤◌, List, [], ◌∷◌, length, Bool, true, false, ◌||◌, ◌&&◌, ◌==◌, refl, sym, ap, subst, ◌∙◌, arith, true≢false}
use Rattle.std.specs.Prelude.{if◌then◌else◌, chars}
use Rattle.std.proofs.lemmas.Bool.{eqb-true}
use Rattle.std.proofs.lemmas.Str.{chars-nil}
use Rattle.dr_meaning.specs.Expression.{some_end, after_one, after_same, matches}
use Rattle.dr_scalar.specs.Reach.{Reach, ended, stopped, open_end, else_reach, past_one, reach, first_reach}
use Rattle.dr_meaning.specs.Lists.{is_empty}

-- ---- the texts that end a text

same_truth : (a b : Bool) → (a ≡ true → b ≡ true) → (b ≡ true → a ≡ true) → a ≡ b
same_truth true b f g = sym (f refl)
same_truth false true f g = g refl
same_truth false false f g = refl

later_true : (a b : Bool) → b ≡ true → (a || b) ≡ true
later_true true b h = refl
later_true false b h = h

pub here : (f : List ℕ → Bool) (t : List ℕ) → f t ≡ true → some_end f t ≡ true
here f [] h = h
here f (c ∷ cs) h = ap (λ b. b || some_end f cs) h

pub later : (f : List ℕ → Bool) (c : ℕ) (cs : List ℕ) → some_end f cs ≡ true → some_end f (c ∷ cs) ≡ true
later f c cs h = later_true (f (c ∷ cs)) (some_end f cs) h

-- an end of an end is an end
end_of_end : (f : List ℕ → Bool) (t : List ℕ) → some_end (some_end f) t ≡ true → some_end f t ≡ true
end_of_end f [] h = h
end_of_end f (c ∷ cs) h = by (some_end f (c ∷ cs)) refl h (end_of_end f cs)
  where
    by : (b : Bool) → some_end f (c ∷ cs) ≡ b → (b || some_end (some_end f) cs) ≡ true → (some_end (some_end f) cs ≡ true → some_end f cs ≡ true) → some_end f (c ∷ cs) ≡ true
    by true e k g = e
    by false e k g = later f c cs (g k)

-- where one test takes a character and leaves the rest to the other
rest_of_end : (f g : List ℕ → Bool) → g [] ≡ false → ((c : ℕ) (cs : List ℕ) → g (c ∷ cs) ≡ true → f cs ≡ true) → (c : ℕ) (cs : List ℕ) → some_end g (c ∷ cs) ≡ true → some_end f cs ≡ true
rest_of_end f g n s c [] h = by (g (c ∷ [])) refl h
  where
    by : (b : Bool) → g (c ∷ []) ≡ b → (b || g []) ≡ true → f [] ≡ true
    by true e k = s c [] e
    by false e k = absurd (true≢false (sym k ∙ n))
rest_of_end f g n s c (d ∷ ds) h = by (g (c ∷ d ∷ ds)) refl h (rest_of_end f g n s d ds)
  where
    by : (b : Bool) → g (c ∷ d ∷ ds) ≡ b → (b || some_end g (d ∷ ds)) ≡ true → (some_end g (d ∷ ds) ≡ true → some_end f ds ≡ true) → some_end f (d ∷ ds) ≡ true
    by true e k r = here f (d ∷ ds) (s c (d ∷ ds) e)
    by false e k r = later f d ds (r k)

-- ---- what matching is, by the pattern's first character

abbrev one_of : ℕ → (List ℕ → Bool) → List ℕ → Bool
one_of p f t = if p == 95 then after_one f t else after_same p f t

matches-nil : (t : List ℕ) → matches [] t ≡ is_empty t
unfolding matches
matches-nil t = refl

matches-percent : (p : ℕ) (ps : List ℕ) → (p == 37) ≡ true → matches (p ∷ ps) ≡ some_end (matches ps)
unfolding matches
matches-percent p ps e = ap {B = List ℕ → Bool} (λ (b : Bool). λ t. if b then some_end (matches ps) t else one_of p (matches ps) t) e

matches-one : (p : ℕ) (ps : List ℕ) → (p == 37) ≡ false → matches (p ∷ ps) ≡ one_of p (matches ps)
unfolding matches
matches-one p ps e = ap {B = List ℕ → Bool} (λ (b : Bool). λ t. if b then some_end (matches ps) t else one_of p (matches ps) t) e

one_of-nil : (p : ℕ) (f : List ℕ → Bool) → one_of p f [] ≡ false
one_of-nil p f = by (p == 95)
  where
    by : (b : Bool) → (if b then after_one f [] else after_same p f []) ≡ false
    by true = refl
    by false = refl

one_of-cons : (p : ℕ) (f : List ℕ → Bool) (c : ℕ) (cs : List ℕ) → one_of p f (c ∷ cs) ≡ ((p == 95 || p == c) && f cs)
one_of-cons p f c cs = by (p == 95)
  where
    by : (b : Bool) → (if b then after_one f (c ∷ cs) else after_same p f (c ∷ cs)) ≡ ((b || p == c) && f cs)
    by true = refl
    by false = refl

both_true : (a b : Bool) → (a && b) ≡ true → b ≡ true
both_true true b h = h
both_true false b h = absurd (true≢false (sym h))

-- ---- how far a pattern leads

-- what matching comes to, by how far the pattern leads
pub Meets : Reach → List ℕ → List ℕ → Type 0
Meets ended ps t = matches ps t ≡ true
Meets stopped ps t = matches ps t ≡ false
Meets (open_end qs u) ps t = (matches ps t ≡ some_end (matches qs) u) × (some_end (matches ps) t ≡ true → some_end (matches qs) u ≡ true) × (length qs < length ps) × (length u ≤ length t)

lifted : (p : ℕ) (ps : List ℕ) (c : ℕ) (cs : List ℕ) → (p == 37) ≡ false → (p == 95 || p == c) ≡ true → (r : Reach) → Meets r ps cs → Meets r (p ∷ ps) (c ∷ cs)
unfolding Meets
lifted p ps c cs e h r m = by r m
  where
    same : matches (p ∷ ps) (c ∷ cs) ≡ matches ps cs
    same = ap (λ (f : List ℕ → Bool). f (c ∷ cs)) (matches-one p ps e) ∙ (one_of-cons p (matches ps) c cs ∙ ap (λ b. b && matches ps cs) h)

    rest : (d : ℕ) (ds : List ℕ) → one_of p (matches ps) (d ∷ ds) ≡ true → matches ps ds ≡ true
    rest d ds k = both_true (p == 95 || p == d) (matches ps ds) (sym (one_of-cons p (matches ps) d ds) ∙ k)

    behind : some_end (matches (p ∷ ps)) (c ∷ cs) ≡ true → some_end (matches ps) cs ≡ true
    behind k = rest_of_end (matches ps) (one_of p (matches ps)) (one_of-nil p (matches ps)) rest c cs (sym (ap (λ f. some_end f (c ∷ cs)) (matches-one p ps e)) ∙ k)

    by : (s : Reach) → Meets s ps cs → Meets s (p ∷ ps) (c ∷ cs)
    by ended n = same ∙ n
    by stopped n = same ∙ n
    by (open_end qs u) n = (same ∙ n.0, λ k. n.1 (behind k), omega (arith, n.2), omega (arith, n.3))

-- a character of the pattern that isn't `%`, and the rest
one_meets : (p : ℕ) (ps : List ℕ) → ((u : List ℕ) → Meets (reach ps u) ps u) → (t : List ℕ) → (p == 37) ≡ false → Meets (past_one p (reach ps) t) (p ∷ ps) t
unfolding Meets
one_meets p ps m [] e = ap (λ (f : List ℕ → Bool). f []) (matches-one p ps e) ∙ one_of-nil p (matches ps)
one_meets p ps m (c ∷ cs) e = by (p == 95 || p == c) refl
  where
    by : (b : Bool) → (p == 95 || p == c) ≡ b → Meets (if b then reach ps cs else stopped) (p ∷ ps) (c ∷ cs)
    by true h = lifted p ps c cs e h (reach ps cs) (m cs)
    by false h = ap (λ (f : List ℕ → Bool). f (c ∷ cs)) (matches-one p ps e) ∙ (one_of-cons p (matches ps) c cs ∙ ap (λ b. b && matches ps cs) h)

pub meets : (ps t : List ℕ) → Meets (reach ps t) ps t
unfolding Meets
meets [] [] = matches-nil []
meets [] (c ∷ cs) = matches-nil (c ∷ cs)
meets (p ∷ ps) t = by (p == 37) refl (one_meets p ps (meets ps) t)
  where
    by : (b : Bool) → (p == 37) ≡ b → ((p == 37) ≡ false → Meets (past_one p (reach ps) t) (p ∷ ps) t) → Meets (if b then open_end ps t else past_one p (reach ps) t) (p ∷ ps) t
    by true e r = (
      ap (λ (f : List ℕ → Bool). f t) (matches-percent p ps e),
      λ k. end_of_end (matches ps) t (sym (ap (λ f. some_end f t) (matches-percent p ps e)) ∙ k),
      omega arith,
      omega arith,
    )
    by false e r = r e

-- ---- the places of a text, from each of which the pattern may match

pub ended_matches : (ps t : List ℕ) → ended ≡ reach ps t → matches ps t ≡ true
unfolding Meets
ended_matches ps t e = subst (λ r. Meets r ps t) (sym e) (meets ps t)

pub stopped_fails : (ps t : List ℕ) → stopped ≡ reach ps t → matches ps t ≡ false
unfolding Meets
stopped_fails ps t e = subst (λ r. Meets r ps t) (sym e) (meets ps t)

open_meets : (ps t qs u : List ℕ) → open_end qs u ≡ reach ps t → Meets (open_end qs u) ps t
open_meets ps t qs u e = subst (λ r. Meets r ps t) (sym e) (meets ps t)

pub open_matches : (ps t qs u : List ℕ) → open_end qs u ≡ reach ps t → matches ps t ≡ some_end (matches qs) u
unfolding Meets
open_matches ps t qs u e = (open_meets ps t qs u e).0

-- no later place is needed
pub first_is_enough : (ps t qs u : List ℕ) → open_end qs u ≡ reach ps t → some_end (matches ps) t ≡ some_end (matches qs) u
unfolding Meets
first_is_enough ps t qs u e =
    let m = open_meets ps t qs u e in
    same_truth (some_end (matches ps) t) (some_end (matches qs) u) m.1 (λ h. here (matches ps) t (m.0 ∙ h))

pub open_shorter : (ps t qs u : List ℕ) → open_end qs u ≡ reach ps t → (length qs < length ps) × (length u ≤ length t)
unfolding Meets
open_shorter ps t qs u e = let m = open_meets ps t qs u e in (m.2, m.3)

pub ended_somewhere : (ps t : List ℕ) → ended ≡ reach ps t → some_end (matches ps) t ≡ true
ended_somewhere ps t e = here (matches ps) t (ended_matches ps t e)

pub nowhere_at_end : (ps t : List ℕ) → stopped ≡ reach ps t → t ≡ [] → some_end (matches ps) t ≡ false
nowhere_at_end ps t e n = ap (some_end (matches ps)) n ∙ (sym (ap (matches ps) n) ∙ stopped_fails ps t e)

pub next_place : (ps t : List ℕ) (c : ℕ) (cs : List ℕ) → stopped ≡ reach ps t → t ≡ c ∷ cs → some_end (matches ps) t ≡ some_end (matches ps) cs
next_place ps t c cs e n = ap (some_end (matches ps)) n ∙ ap (λ b. b || some_end (matches ps) cs) (sym (ap (matches ps) n) ∙ stopped_fails ps t e)

-- ---- the first place from which the pattern leads on

pub first_ended : (ps t : List ℕ) → ended ≡ first_reach ps t → some_end (matches ps) t ≡ true
first_ended ps [] e = ended_matches ps [] e
first_ended ps (c ∷ cs) e = by (reach ps (c ∷ cs)) refl e (first_ended ps cs)
  where
    by : (r : Reach) → r ≡ reach ps (c ∷ cs) → ended ≡ else_reach r (first_reach ps cs) → (ended ≡ first_reach ps cs → some_end (matches ps) cs ≡ true) → some_end (matches ps) (c ∷ cs) ≡ true
    by ended k h g = ended_somewhere ps (c ∷ cs) k
    by stopped k h g = later (matches ps) c cs (g h)
    by (open_end qs u) k h g = cc

pub first_stopped : (ps t : List ℕ) → stopped ≡ first_reach ps t → some_end (matches ps) t ≡ false
first_stopped ps [] e = stopped_fails ps [] e
first_stopped ps (c ∷ cs) e = by (reach ps (c ∷ cs)) refl e (first_stopped ps cs)
  where
    by : (r : Reach) → r ≡ reach ps (c ∷ cs) → stopped ≡ else_reach r (first_reach ps cs) → (stopped ≡ first_reach ps cs → some_end (matches ps) cs ≡ false) → some_end (matches ps) (c ∷ cs) ≡ false
    by ended k h g = cc
    by stopped k h g = next_place ps (c ∷ cs) c cs k refl ∙ g h
    by (open_end qs u) k h g = cc

-- the pattern behind the `%`, which is shorter, from there on
abbrev GoesOn : List ℕ → List ℕ → List ℕ → List ℕ → Type 0
GoesOn ps t qs u = (some_end (matches ps) t ≡ some_end (matches qs) u) × (length qs < length ps)

pub first_open : (ps t qs u : List ℕ) → open_end qs u ≡ first_reach ps t → GoesOn ps t qs u
first_open ps [] qs u e = (first_is_enough ps [] qs u e, (open_shorter ps [] qs u e).0)
first_open ps (c ∷ cs) qs u e = by (reach ps (c ∷ cs)) refl e (first_open ps cs qs u)
  where
    by : (r : Reach) → r ≡ reach ps (c ∷ cs) → open_end qs u ≡ else_reach r (first_reach ps cs) → (open_end qs u ≡ first_reach ps cs → GoesOn ps cs qs u) → GoesOn ps (c ∷ cs) qs u
    by ended k h g = cc
    by stopped k h g = let q = g h in (next_place ps (c ∷ cs) c cs k refl ∙ q.0, q.1)
    by (open_end vs w) k h g = let q = h ∙ k in (first_is_enough ps (c ∷ cs) qs u q, (open_shorter ps (c ∷ cs) qs u q).0)

-- nothing more is wanted
nothing_wanted : (t : List ℕ) → some_end (matches []) t ≡ true
nothing_wanted [] = matches-nil []
nothing_wanted (c ∷ cs) = later (matches []) c cs (nothing_wanted cs)

pub empty_is_wanted : (pattern t : List ℕ) → (length pattern == 0) ≡ true → some_end (matches (chars pattern)) t ≡ true
empty_is_wanted [] t e = ap (λ ps. some_end (matches ps) t) chars-nil ∙ nothing_wanted t
empty_is_wanted (b ∷ bs) t e = let n : length (b ∷ bs) ≡ 0 = eqb-true (length (b ∷ bs)) 0 e in absurd (omega arith)
