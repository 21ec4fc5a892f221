-- The tablets of records of which some full tablets are cut off.
use Rattle.std.specs.Prelude.{◌≡◌, ℕ, zero, suc, ◌+◌, ◌-◌, ◌*◌, ◌<◌, ◌≤◌, ◌==◌, if◌then◌else◌, List, [], ◌∷◌, ◌++◌, length, Bool, true, false, nat_le, Option, Some, None}
use Rattle.std.proofs.Common.{arith, refl, sym, ap, ◌∙◌, append_assoc, append-nil}
use Rattle.std.proofs.lemmas.List.{length-append}
use Rattle.std.proofs.lemmas.Bool.{eq-eqb, ne_eqb, leb-true, leb-false}
use Rattle.std.proofs.Math.Nat.{mul-le-mul_left}
use Rattle.dr_meaning.specs.Record.{Node}
use Rattle.dr_meaning.specs.Lines.{Refusal}
use Rattle.dr_formats.specs.Tablets.{tablets, tablets_from}
use Rattle.dr_formats.specs.TabletLaws.{all_records}
use Rattle.dr_formats.specs.Loading.{Plan, full_tablets}
use Rattle.dr_load.specs.Loads.{AllHave, last_tablets, tablets_put}

-- the tablets of records, none of no records
abbrev later : ℕ → List Node → List (List Node)
later n [] = []
later n (r ∷ R) = tablets n (r ∷ R)

abbrev or_one : List (List Node) → List (List Node)
or_one [] = [] ∷ []
or_one (t ∷ ts) = t ∷ ts

fill_room : (n : ℕ) (held xs more : List Node) → tablets_from n (length xs) held (xs ++ more) ≡ tablets_from n 0 (held ++ xs) more
fill_room n held [] more = ap (λ (h : List Node). tablets_from n 0 h more) (sym (append-nil held))
fill_room n held (x ∷ xs) more = fill_room n (held ++ x ∷ []) xs more ∙ ap (λ (h : List Node). tablets_from n 0 h more) (append_assoc held (x ∷ []) xs)

full_then : (n : ℕ) (t more : List Node) → 0 < n → tablets_from n 0 t more ≡ t ∷ later n more
full_then n t [] h = refl
full_then zero t (r ∷ R) h = absurd (omega (arith, h))
full_then (suc m) t (r ∷ R) h =
    let e : suc m - 1 ≡ m = omega arith in
    ap (λ (k : ℕ). t ∷ tablets_from (suc m) k (r ∷ []) R) e

full_first : (n : ℕ) (t more : List Node) → length t ≡ n → 0 < n → tablets n (t ++ more) ≡ t ∷ later n more
full_first n t more e h = ap (λ (k : ℕ). tablets_from n k [] (t ++ more)) (sym e) ∙ fill_room n [] t more ∙ full_then n t more h

later_is : (n : ℕ) (t more : List Node) → length t ≡ n → 0 < n → later n (t ++ more) ≡ tablets n (t ++ more)
later_is n [] more e h = absurd (omega (arith, e, h))
later_is n (r ∷ t) more e h = refl

later_full : (n : ℕ) (ts : List (List Node)) (more : List Node) → AllHave n ts → 0 < n → later n (all_records ts ++ more) ≡ ts ++ later n more
later_full n [] more a h = refl
later_full n (t ∷ ts) more a h =
    ap (later n) (append_assoc t (all_records ts) more) ∙ later_is n t (all_records ts ++ more) a.0 h ∙ full_first n t (all_records ts ++ more) a.0 h
    ∙ ap (λ (us : List (List Node)). t ∷ us) (later_full n ts more a.1 h)

is_some : (n room : ℕ) (held R : List Node) → or_one (tablets_from n room held R) ≡ tablets_from n room held R
is_some n room held [] = refl
is_some n zero held (r ∷ R) = refl
is_some n (suc room) held (r ∷ R) = is_some n room (held ++ r ∷ []) R

tablets_or_one : (n : ℕ) (R : List Node) → tablets n R ≡ or_one (later n R)
tablets_or_one n [] = refl
tablets_or_one n (r ∷ R) = sym (is_some n n [] (r ∷ R))

fill_part : (n room : ℕ) (held R : List Node) → length R ≤ room → tablets_from n room held R ≡ (held ++ R) ∷ []
fill_part n room held [] h = ap (λ (x : List Node). x ∷ []) (sym (append-nil held))
fill_part n zero held (r ∷ R) h = absurd (omega (arith, h))
fill_part n (suc room) held (r ∷ R) h = fill_part n room (held ++ r ∷ []) R (omega (arith, h)) ∙ ap (λ (x : List Node). x ∷ []) (append_assoc held (r ∷ []) R)

abbrev part : List Node → List (List Node)
part [] = []
part (r ∷ R) = (r ∷ R) ∷ []

part_of : (n : ℕ) (R : List Node) → length R < n → later n R ≡ part R
part_of n [] h = refl
part_of n (r ∷ R) h = fill_part n n [] (r ∷ R) (omega (arith, h))

last_of : (ts : List (List Node)) (h : List Node) → or_one (ts ++ part h) ≡ ts ++ last_tablets (length ts) h
last_of [] [] = refl
last_of [] (r ∷ R) = refl
last_of (t ∷ ts) [] = rw (ne_eqb (suc (length ts)) 0 (λ e. absurd (omega (arith, e)))) refl
last_of (t ∷ ts) (r ∷ R) = refl

-- behind full tablets, fewer records than one has are the last tablet
pub tablets_are : (n : ℕ) (ts : List (List Node)) (h : List Node) → AllHave n ts → 0 < n → length h < n → tablets n (all_records ts ++ h) ≡ ts ++ last_tablets (length ts) h
tablets_are n ts h a p l = tablets_or_one n (all_records ts ++ h) ∙ ap or_one (later_full n ts h a p ∙ ap (λ (us : List (List Node)). ts ++ us) (part_of n h l)) ∙ last_of ts h

-- ---- full tablets

full_append : (n : ℕ) (ts us : List (List Node)) → AllHave n ts → full_tablets n (ts ++ us) ≡ ts ++ full_tablets n us
full_append n [] us a = refl
full_append n (t ∷ ts) us a = rw (eq-eqb (length t) n a.0) (ap (λ (x : List (List Node)). t ∷ x) (full_append n ts us a.1))

full_last : (n k : ℕ) (h : List Node) → 0 < n → length h < n → full_tablets n (last_tablets k h) ≡ []
full_last n k [] p l = by (k == 0)
  where
    by : (b : Bool) → full_tablets n (if b then [] ∷ [] else []) ≡ []
    by true = rw (ne_eqb 0 n (λ e. absurd (omega (arith, e, p)))) refl
    by false = refl
full_last n k (r ∷ R) p l = rw (ne_eqb (length (r ∷ R)) n (λ e. absurd (omega (arith, e, l)))) refl

-- behind full tablets, fewer records than one has are no full tablet
pub full_are : (n : ℕ) (ts : List (List Node)) (h : List Node) → AllHave n ts → 0 < n → length h < n → full_tablets n (tablets n (all_records ts ++ h)) ≡ ts
full_are n ts h a p l =
    ap (full_tablets n) (tablets_are n ts h a p l) ∙ full_append n ts (last_tablets (length ts) h) a ∙ ap (λ (x : List (List Node)). ts ++ x) (full_last n (length ts) h p l) ∙ append-nil ts

-- ---- full tablets come first, whatever comes behind

or_one_front : (ts us : List (List Node)) → (x : List (List Node)) × (or_one (ts ++ us) ≡ ts ++ x)
or_one_front [] us = (or_one us, refl)
or_one_front (t ∷ ts) us = (us, refl)

pub full_come_first : (p : Plan) (ts : List (List Node)) (more : List Node) (o : Option Refusal) → AllHave p.rows ts → 0 < p.rows → (us : List (List Node)) × (tablets_put p (all_records ts ++ more) o ≡ ts ++ us)
full_come_first p ts more None a h =
    let x = or_one_front ts (later p.rows more) in
    (x.0, tablets_or_one p.rows (all_records ts ++ more) ∙ ap or_one (later_full p.rows ts more a h) ∙ x.1)
full_come_first p ts more (Some e) a h =
    let x = or_one_front ts (later p.rows more) in (
      full_tablets p.rows x.0,
      ap (full_tablets p.rows) (tablets_or_one p.rows (all_records ts ++ more) ∙ ap or_one (later_full p.rows ts more a h) ∙ x.1) ∙ full_append p.rows ts x.0 a,
    )

-- ---- how many

pub all_have_more : (n : ℕ) (ts : List (List Node)) (t : List Node) → AllHave n ts → length t ≡ n → AllHave n (ts ++ t ∷ [])
all_have_more n [] t a e = (e, tt)
all_have_more n (u ∷ ts) t a e = (a.0, all_have_more n ts t a.1 e)

pub all_records_more : (ts : List (List Node)) (t : List Node) → all_records (ts ++ t ∷ []) ≡ all_records ts ++ t
all_records_more [] t = append-nil t
all_records_more (u ∷ ts) t = ap (λ (x : List Node). u ++ x) (all_records_more ts t) ∙ sym (append_assoc u (all_records ts) t)

pub count_of : (n : ℕ) (ts : List (List Node)) → AllHave n ts → length (all_records ts) ≡ length ts * n
count_of n [] a = omega arith
count_of n (t ∷ ts) a = omega (arith, length-append t (all_records ts), a.0, count_of n ts a.1)

-- of held records and more, where some are held
count_held : (n room : ℕ) (held R : List Node) → 0 < n → 0 < length held → length held + room ≡ n → length (tablets_from n room held R) * n + 1 ≤ length held + length R + n
count_held n room held [] p h e = omega (arith, h)
count_held n zero held (r ∷ R) p h e = omega (arith, e, p, count_held n (n - 1) (r ∷ []) R p (omega arith) (omega (arith, p)))
count_held n (suc room) held (r ∷ R) p h e = omega (arith, length-append held (r ∷ []), count_held n room (held ++ r ∷ []) R p (omega (arith, length-append held (r ∷ []))) (omega (arith, e, length-append held (r ∷ []))))

-- of at most so many times n records there are at most so many tablets of n
pub few_of_few : (n k : ℕ) (R : List Node) → 0 < n → 0 < k → length R ≤ k * n → length (tablets n R) ≤ k
few_of_few n k [] p q h = omega (arith, q)
few_of_few zero k (r ∷ R) p q h = absurd (omega (arith, p))
few_of_few (suc m) k (r ∷ R) p q h = by (nat_le (length (tablets (suc m) (r ∷ R))) k) refl
  where
    by : (b : Bool) → nat_le (length (tablets (suc m) (r ∷ R))) k ≡ b → length (tablets (suc m) (r ∷ R)) ≤ k
    by true e = leb-true (length (tablets (suc m) (r ∷ R))) k e
    by false e =
        let big : suc k ≤ length (tablets (suc m) (r ∷ R)) = omega (arith, leb-false (length (tablets (suc m) (r ∷ R))) k e) in
        omega (arith, mul-le-mul_left (suc m) big, count_held (suc m) m (r ∷ []) R p (omega arith) (omega arith), h)
