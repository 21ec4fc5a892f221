-- A pattern leads on only from places at which its literal front occurs.
use Rattle.std.proofs.Common.{◌≡◌, ℕ, zero, suc, ◌+◌, ◌<◌, ◌≤◌, List, [], ◌∷◌, ◌++◌, length, take, drop, get_or, Bool, true, false, ◌||◌, ◌&&◌, ◌==◌, Option, Some, None, chars, IsUtf8, IsCharBoundary, refl, sym, ap, ap₂, subst, ◌∙◌, arith, true≢false, append_assoc, length-append, length-take-le, take-append-drop, get_or-append-add}
use Rattle.std.specs.Prelude.{if◌then◌else◌}
use Rattle.std.proofs.Math.Utf8.{encodes}
use Rattle.std.proofs.lemmas.Bool.{eqb-true}
use Rattle.std.proofs.lemmas.List.{get_or_append_left}
use Rattle.std.proofs.lemmas.Str.{encodes-append, encodes-chars, length-le-encodes, chars-append, IsUtf8-take, IsCharBoundary-start}
use Rattle.dr_meaning.specs.Expression.{begins_text}
use Rattle.memchr.specs.Find.{OccursAt, FindsNeedle}
use Rattle.dr_scalar.proofs.OccursLemmas.{first_of_two, second_of_two}
use Rattle.dr_scalar.specs.Reach.{Reach, ended, stopped, open_end, else_reach, reach, first_reach, literal_front, halt_view}
use Rattle.dr_scalar.specs.declared.like.Halt.{Halt}

-- ---- where the front isn't, the pattern stops

stops_without_front : (ps t : List ℕ) → begins_text (literal_front ps) t ≡ false → reach ps t ≡ stopped
stops_without_front [] t h = absurd (true≢false h)
stops_without_front (p ∷ ps) [] h = by (p == 37) (p == 95) h
  where
    by : (a b : Bool) → begins_text (if a || b then [] else p ∷ literal_front ps) [] ≡ false → (if a then open_end ps [] else stopped) ≡ stopped
    by true b k = absurd (true≢false k)
    by false b k = refl
stops_without_front (p ∷ ps) (c ∷ cs) h = by (p == 37) (p == 95) (p == c) refl h (stops_without_front ps cs)
  where
    by : (a b d : Bool) → (p == c) ≡ d → begins_text (if a || b then [] else p ∷ literal_front ps) (c ∷ cs) ≡ false → (begins_text (literal_front ps) cs ≡ false → reach ps cs ≡ stopped) → (if a then open_end ps (c ∷ cs) else (if b || d then reach ps cs else stopped)) ≡ stopped
    by true b d e k g = absurd (true≢false k)
    by false true d e k g = absurd (true≢false k)
    by false false true e k g = g (ap (λ x. x && begins_text (literal_front ps) cs) (sym e) ∙ k)
    by false false false e k g = refl

-- ---- places that are passed over

first_from : (ps cs ds : List ℕ) → ((gone bs : List ℕ) (b : ℕ) → cs ≡ gone ++ b ∷ bs → reach ps (b ∷ bs ++ ds) ≡ stopped) → first_reach ps (cs ++ ds) ≡ first_reach ps ds
first_from ps [] ds h = refl
first_from ps (c ∷ cs) ds h = ap (λ r. else_reach r (first_reach ps (cs ++ ds))) (h [] cs c refl) ∙ first_from ps cs ds (λ gone bs b e. h (c ∷ gone) bs b (ap (λ xs. c ∷ xs) e))

never : (ps cs : List ℕ) → ((gone bs : List ℕ) → cs ≡ gone ++ bs → reach ps bs ≡ stopped) → first_reach ps cs ≡ stopped
never ps [] h = h [] [] refl
never ps (c ∷ cs) h = ap (λ r. else_reach r (first_reach ps cs)) (h [] (c ∷ cs) refl) ∙ never ps cs (λ gone bs e. h (c ∷ gone) bs (ap (λ xs. c ∷ xs) e))

pub first_past : (ps t : List ℕ) (c : ℕ) (cs : List ℕ) → stopped ≡ reach ps t → t ≡ c ∷ cs → first_reach ps t ≡ first_reach ps cs
first_past ps t c cs e n = ap (first_reach ps) n ∙ ap (λ r. else_reach r (first_reach ps cs)) (sym (e ∙ ap (reach ps) n))

pub first_at_end : (ps t : List ℕ) → stopped ≡ reach ps t → t ≡ [] → stopped ≡ first_reach ps t
first_at_end ps t e n = e ∙ (ap (reach ps) n ∙ sym (ap (first_reach ps) n))

first_here : (ps t : List ℕ) (r : Reach) → r ≡ reach ps t → (r ≡ stopped → ⊥) → r ≡ first_reach ps t
first_here ps [] r e n = e
first_here ps (c ∷ cs) r e n = by r e n
  where
    by : (s : Reach) → s ≡ reach ps (c ∷ cs) → (s ≡ stopped → ⊥) → s ≡ else_reach (reach ps (c ∷ cs)) (first_reach ps cs)
    by ended k m = ap (λ x. else_reach x (first_reach ps cs)) k
    by stopped k m = absurd (m refl)
    by (open_end qs u) k m = ap (λ x. else_reach x (first_reach ps cs)) k

goes_on : (h : Halt) → (h ≡ Halt.Apart → ⊥) → halt_view h ≡ stopped → ⊥
goes_on Halt.End n e = cc
goes_on Halt.Apart n e = n refl
goes_on (Halt.Percent pattern text) n e = cc

pub first_is_here : (ps t : List ℕ) (h : Halt) → halt_view h ≡ reach ps t → (h ≡ Halt.Apart → ⊥) → halt_view h ≡ first_reach ps t
first_is_here ps t h e n = first_here ps t (halt_view h) e (goes_on h n)

-- ---- a front of characters is a place of bytes

abbrev Behind : List ℕ → List ℕ → Type 0
Behind part text = (rest : List ℕ) × (text ≡ part ++ rest)

behind : (part text : List ℕ) → begins_text part text ≡ true → Behind part text
behind [] text h = (text, refl)
behind (p ∷ ps) [] h = absurd (true≢false (sym h))
behind (p ∷ ps) (c ∷ cs) h =
    let q = behind ps cs (second_of_two (p == c) (begins_text ps cs) h) in
    (q.0, ap₂ (λ (x : ℕ) (xs : List ℕ). x ∷ xs) (sym (eqb-true p c (first_of_two (p == c) (begins_text ps cs) h))) q.1)

in_the_middle : (xs part ys : List ℕ) → OccursAt (xs ++ (part ++ ys)) part (length xs)
in_the_middle xs part ys = record {
  fits = omega (arith, length-append xs (part ++ ys), length-append part ys);
  reads = λ j h. get_or-append-add xs (part ++ ys) j 0 ∙ get_or_append_left part ys 0 j h;
}

-- the bytes of a text that has the front, as characters, behind some
front_of_rest : (gone t front text : List ℕ) → encodes (gone ++ t) ≡ text → (OccursAt text (encodes front) (length (encodes gone)) → ⊥) → begins_text front t ≡ false
front_of_rest gone t front text e absent = by (begins_text front t) refl
  where
    by : (b : Bool) → begins_text front t ≡ b → b ≡ false
    by false k = refl
    by true k =
        let q = behind front t k in
        let whole : encodes gone ++ (encodes front ++ encodes q.0) ≡ text =
        sym (encodes-append gone t ∙ ap (λ xs. encodes gone ++ xs) (ap encodes q.1 ∙ encodes-append front q.0)) ∙ e in
        absurd (absent (subst (λ (xs : List ℕ). OccursAt xs (encodes front) (length (encodes gone))) whole (in_the_middle (encodes gone) (encodes front) (encodes q.0))))

-- ---- a search for the front

pub as_searched : (hay needle text front : List ℕ) (r : Option ℕ) → hay ≡ text → needle ≡ front → FindsNeedle hay needle 0 r → FindsNeedle text front 0 r
as_searched hay needle text front r e f h =
    subst (λ (xs : List ℕ). FindsNeedle xs front 0 r) e (subst (λ (xs : List ℕ). FindsNeedle hay xs 0 r) f h)

front_bytes : (pattern front : List ℕ) → IsUtf8 front → chars front ≡ literal_front (chars pattern) → front ≡ encodes (literal_front (chars pattern))
front_bytes pattern front u e = sym (encodes-chars front u) ∙ ap encodes e

pub nowhere_leads : (pattern front text : List ℕ) → IsUtf8 front → IsUtf8 text → chars front ≡ literal_front (chars pattern) → FindsNeedle text front 0 None → stopped ≡ first_reach (chars pattern) (chars text)
nowhere_leads pattern front text u v e h = sym (never (chars pattern) (chars text) here)
  where
    here : (gone bs : List ℕ) → chars text ≡ gone ++ bs → reach (chars pattern) bs ≡ stopped
    here gone bs s =
        let whole : encodes (gone ++ bs) ≡ text = ap encodes (sym s) ∙ encodes-chars text v in
        let absent : OccursAt text (encodes (literal_front (chars pattern))) (length (encodes gone)) → ⊥ =
        λ o. h (length (encodes gone)) (omega arith) (omega (arith, o.fits)) (subst (λ (f : List ℕ). OccursAt text f (length (encodes gone))) (sym (front_bytes pattern front u e)) o) in
        stops_without_front (chars pattern) bs (front_of_rest gone bs (literal_front (chars pattern)) text whole absent)

pub found_at_boundary : (front text : List ℕ) (k : ℕ) → IsUtf8 front → IsUtf8 text → FindsNeedle text front 0 (Some k) → IsCharBoundary text k
found_at_boundary [] text zero u v h = IsCharBoundary-start text v
found_at_boundary [] text (suc k) u v h = absurd (h.0.before 0 (omega arith) (omega arith) (record { fits = omega arith; reads = λ j q. absurd (omega arith) }))
found_at_boundary (b ∷ bs) text k u v h =
    let fits : k + length (b ∷ bs) ≤ length text = h.1.fits in
    let same : get_or text k 0 ≡ b = ap (λ i. get_or text i 0) (sym (at_zero k)) ∙ h.1.reads 0 (omega arith) in
    (omega (arith, fits), λ l m. subst (λ (x : ℕ). 192 ≤ x) (sym same) ((IsCharBoundary-start (b ∷ bs) u).1 (omega arith) (subst (λ (x : ℕ). 128 ≤ x) same m)))
  where
    at_zero : (i : ℕ) → i + 0 ≡ i
    at_zero i = omega arith

pub leads_from_found : (pattern front text found : List ℕ) (k : ℕ) → IsUtf8 front → IsUtf8 text → chars front ≡ literal_front (chars pattern) → FindsNeedle text front 0 (Some k) → found ≡ drop k text → first_reach (chars pattern) (chars text) ≡ first_reach (chars pattern) (chars found)
leads_from_found pattern front text found k u v e h d =
    ap (first_reach (chars pattern)) split
    ∙ (first_from (chars pattern) (chars (take k text)) (chars (drop k text)) here ∙ ap (λ xs. first_reach (chars pattern) (chars xs)) (sym d))
  where
    boundary : IsCharBoundary text k
    boundary = found_at_boundary front text k u v h

    passed : IsUtf8 (take k text)
    passed = IsUtf8-take text k v boundary

    split : chars text ≡ chars (take k text) ++ chars (drop k text)
    split = ap chars (sym (take-append-drop k text)) ∙ chars-append (take k text) (drop k text) passed

    here : (gone bs : List ℕ) (b : ℕ) → chars (take k text) ≡ gone ++ b ∷ bs → reach (chars pattern) (b ∷ bs ++ chars (drop k text)) ≡ stopped
    here gone bs b s =
        let before : encodes gone ++ encodes (b ∷ bs) ≡ take k text = sym (encodes-append gone (b ∷ bs)) ∙ (ap encodes (sym s) ∙ encodes-chars (take k text) passed) in
        let early : length (encodes gone) < k =
        omega (arith, length-append (encodes gone) (encodes (b ∷ bs)), length-le-encodes (b ∷ bs), ap length before, length-take-le k text boundary.0) in
        let whole : encodes (gone ++ (b ∷ bs ++ chars (drop k text))) ≡ text =
        ap encodes (sym (append_assoc gone (b ∷ bs) (chars (drop k text))) ∙ (ap (λ xs. xs ++ chars (drop k text)) (sym s) ∙ sym split)) ∙ encodes-chars text v in
        let absent : OccursAt text (encodes (literal_front (chars pattern))) (length (encodes gone)) → ⊥ =
        λ o. h.0.before (length (encodes gone)) (omega arith) early (subst (λ (f : List ℕ). OccursAt text f (length (encodes gone))) (sym (front_bytes pattern front u e)) o) in
        stops_without_front (chars pattern) (b ∷ bs ++ chars (drop k text)) (front_of_rest gone (b ∷ bs ++ chars (drop k text)) (literal_front (chars pattern)) text whole absent)

-- behind a character of what stands at the found place, less is left
pub shorter_from_found : (front text found : List ℕ) (k c : ℕ) (cs : List ℕ) → IsUtf8 front → IsUtf8 text → FindsNeedle text front 0 (Some k) → found ≡ drop k text → chars found ≡ c ∷ cs → length cs < length (chars text)
shorter_from_found front text found k c cs u v h d e = omega (arith, ap length split, length-append (chars (take k text)) (chars found), ap length e)
  where
    split : chars text ≡ chars (take k text) ++ chars found
    split =
        ap chars (sym (take-append-drop k text))
        ∙ (chars-append (take k text) (drop k text) (IsUtf8-take text k v (found_at_boundary front text k u v h)) ∙ ap (λ xs. chars (take k text) ++ chars xs) (sym d))
