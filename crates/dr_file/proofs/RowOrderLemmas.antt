-- Triplets of rows, a piece at a time.
use Rattle.std.proofs.Common.{◌≡◌, ℕ, zero, suc, ◌+◌, ◌≤◌, ◌<◌, ◌-◌, List, [], ◌∷◌, ◌++◌, map, take, drop, length, get_or, Bool, true, false, refl, sym, ap, subst, ◌∙◌, append_assoc, arith}
use Rattle.std.specs.Prelude.{◌==◌, ◌&&◌, not, if◌then◌else◌, Option, Some, None}
use Rattle.std.proofs.lemmas.Bool.{false≢true, eqb-true}
use Rattle.std.proofs.lemmas.List.{append-nil, drop_more, drop_all, take_all}
use Rattle.dr_meaning.specs.Path.{Step}
use Rattle.dr_meaning.specs.Column.{Triplet, triplet}
use Rattle.dr_meaning.specs.OneColumn.{starts, begins_record, may_follow, all_follow, is_in_order}
use Rattle.dr_levels.specs.declared.triplet.Levels.{Levels}
use Rattle.dr_file.specs.declared.row_order.RowOrder.{RowOrder}
use Rattle.dr_file.specs.Floors.{bare}
use Rattle.dr_file.specs.RowOrders.{last_from, last_level, are_rows, go_behind, IsOrder}
use Rattle.dr_file.proofs.FloorLemmas.{follow_by_level}

-- ---- triplets behind triplets

starts_append : (ts us : List Triplet) → starts (ts ++ us) ≡ starts ts + starts us
starts_append [] us = omega arith
starts_append (t ∷ ts) us = omega (arith, starts_append ts us)

pub and_assoc : (a b c : Bool) → (a && (b && c)) ≡ ((a && b) && c)
and_assoc true b c = refl
and_assoc false b c = refl

follow_append : (p : List Step) (t : Triplet) (ts us : List Triplet) → all_follow p t (ts ++ us) ≡ (all_follow p t ts && all_follow p (triplet 0 (last_from t.definition ts) None) us)
follow_append p t [] us = follow_by_level p t us
follow_append p t (u ∷ ts) us =
    let m : Bool = may_follow p t.definition u.definition u.repetition in
    ap (λ b. m && b) (follow_append p u ts us) ∙ and_assoc m (all_follow p u ts) (all_follow p (triplet 0 (last_from u.definition ts) None) us)

order_append : (p : List Step) (ts us : List Triplet) → is_in_order p ts ≡ true → is_in_order p (ts ++ us) ≡ go_behind p (last_level ts) us
order_append p [] us h = refl
order_append p (t ∷ ts) us h =
    let b : Bool = t.repetition == 0 in
    ap (λ x. b && x) (follow_append p t ts us)
    ∙ (and_assoc b (all_follow p t ts) (all_follow p (triplet 0 (last_from t.definition ts) None) us) ∙ ap (λ x. x && all_follow p (triplet 0 (last_from t.definition ts) None) us) h)

same_number : (a b : ℕ) → Some a ≡ Some b → a ≡ b
same_number a b e = cc

-- the last of more triplets
last_behind : (ts us : List Triplet) (d : ℕ) → last_level us ≡ Some d → last_level (ts ++ us) ≡ Some d
last_behind [] us d h = h
last_behind (t ∷ ts) us d h = ap (λ (n : ℕ). Some n) (from t.definition ts us h)
  where
    from : (n : ℕ) (vs us : List Triplet) → last_level us ≡ Some d → last_from n (vs ++ us) ≡ d
    from n [] [] e = absurd (cc)
    from n [] (u ∷ us) e = same_number (last_from u.definition us) d e
    from n (v ∷ vs) us e = from v.definition vs us e

-- ---- which may go on

and_none : (a b : Bool) → a ≡ false → (a && b) ≡ false
and_none true b e = absurd (false≢true (sym e))
and_none false b e = refl

and_right : (a b : Bool) → b ≡ false → (a && b) ≡ false
and_right true b e = e
and_right false b e = refl

not_equal : (a b : ℕ) → b < a → (a == b) ≡ false
not_equal a b h = by (a == b) refl
  where
    by : (x : Bool) → (a == b) ≡ x → x ≡ false
    by false e = refl
    by true e = absurd (omega (arith, h, eqb-true a b e))

-- the first begins a row where none came, and may follow any
pub first_begins : (p : List Step) (us : List Triplet) → (all_follow p (triplet 0 0 None) us && begins_record us) ≡ is_in_order p us
first_begins p [] = refl
first_begins p (u ∷ us) = by u.repetition
  where
    and_one : (a : Bool) → (a && true) ≡ a
    and_one true = refl
    and_one false = refl

    by : (r : ℕ) → ((may_follow p 0 u.definition r && all_follow p u us) && (r == 0)) ≡ ((r == 0) && all_follow p u us)
    by zero = and_one (all_follow p u us)
    by (suc j) =
        let n : (suc j == 0) ≡ false = not_equal (suc j) 0 (omega arith) in
        ap (λ (b : Bool). (may_follow p 0 u.definition (suc j) && all_follow p u us) && b) n ∙ (and_right _ false refl ∙ ap (λ (b : Bool). b && all_follow p u us) (sym n))

-- the definition level of the last of some
pub last_there : (ls : List Levels) (d : Levels) → 0 < length ls → last_level (map bare ls) ≡ Some (get_or ls (length ls - 1) d).definition
last_there [] d h = absurd (omega (arith, h))
last_there (l ∷ ls) d h = ap (λ (n : ℕ). Some n) (from l ls) ∙ ap (λ (i : ℕ). Some (get_or (l ∷ ls) i d).definition) (omega arith)
  where
    from : (l : Levels) (ls : List Levels) → last_from l.definition (map bare ls) ≡ (get_or (l ∷ ls) (length ls) d).definition
    from l [] = refl
    from l (m ∷ ls) = from m ls

-- ---- triplets that go on

pub none_came : (p : List Step) (rows : ℕ) (ts : List Triplet) (ls : List Levels) (o : RowOrder) → length ls ≡ 0 → IsOrder p rows ts o → IsOrder p rows (ts ++ map bare ls) o
none_came p rows ts [] o e h = subst (λ (xs : List Triplet). IsOrder p rows xs o) (sym (append-nil ts)) h
none_came p rows ts (l ∷ ls) o e h = absurd (omega (arith, e))

pub all_came : (p : List Step) (rows d : ℕ) (ts us : List Triplet) (o new : RowOrder) → IsOrder p rows ts o → go_behind p o.last us ≡ true → starts us + new.rows ≡ o.rows → last_level us ≡ Some d → new.last ≡ Some d
    → IsOrder p rows (ts ++ us) new
all_came p rows d ts us o new h m n l e = record {
  order = order_append p ts us h.order ∙ (ap (λ (x : Option ℕ). go_behind p x us) (sym h.last) ∙ m);
  begun = omega (arith, starts_append ts us, h.begun, n);
  last = e ∙ sym (last_behind ts us d l);
}

-- ---- triplets that don't

stuck_behind : (p : List Step) (x : Option ℕ) (us more : List Triplet) → go_behind p x us ≡ false → go_behind p x (us ++ more) ≡ false
stuck_behind p None [] more h = absurd (false≢true (sym h))
stuck_behind p None (u ∷ us) more h =
    let b : Bool = u.repetition == 0 in
    let rest : Bool = all_follow p (triplet 0 (last_from u.definition us) None) more in
    ap (λ (c : Bool). b && c) (follow_append p u us more) ∙ (and_assoc b (all_follow p u us) rest ∙ and_none (b && all_follow p u us) rest h)
stuck_behind p (Some d) us more h = follow_append p (triplet 0 d None) us more ∙ and_none (all_follow p (triplet 0 d None) us) _ h

-- they begin too many rows
pub too_many : (p : List Step) (rows : ℕ) (ts us more : List Triplet) (o : RowOrder) → IsOrder p rows ts o → o.rows < starts us → are_rows p rows (ts ++ (us ++ more)) ≡ false
too_many p rows ts us more o h n =
    and_right _ _ (not_equal (starts (ts ++ (us ++ more))) rows (omega (arith, starts_append ts (us ++ more), starts_append us more, h.begun, n)))

-- one stands where it may not
pub may_not : (p : List Step) (rows : ℕ) (ts us more : List Triplet) (o : RowOrder) → IsOrder p rows ts o → go_behind p o.last us ≡ false → are_rows p rows (ts ++ (us ++ more)) ≡ false
may_not p rows ts us more o h m =
    and_none _ _ (order_append p ts (us ++ more) h.order ∙ (ap (λ (x : Option ℕ). go_behind p x (us ++ more)) (sym h.last) ∙ stuck_behind p o.last us more m))

-- ---- the loops over levels

-- one more follows the one before it
pub follow_more : (p : List Step) (last : ℕ) (ls : List Levels) (i : ℕ) (d : Levels) (fits b : Bool) → i < length ls → b ≡ may_follow p last (get_or ls i d).definition (get_or ls i d).repetition
    → (fits && all_follow p (triplet 0 last None) (map bare (drop i ls))) ≡ ((fits && b) && all_follow p (triplet 0 (get_or ls i d).definition None) (map bare (drop (i + 1) ls)))
follow_more p last ls i d fits b w e =
    let x : Levels = get_or ls i d in
    let m : Bool = may_follow p last x.definition x.repetition in
    let rest : Bool = all_follow p (triplet 0 x.definition None) (map bare (drop (i + 1) ls)) in
    ap (λ (xs : List Levels). fits && all_follow p (triplet 0 last None) (map bare xs)) (drop_more ls i d w)
    ∙ (ap (λ (c : Bool). fits && (m && c)) (follow_by_level p (bare x) (map bare (drop (i + 1) ls)))
    ∙ (and_assoc fits m rest ∙ ap (λ (c : Bool). (fits && c) && rest) (sym e)))

pub all_followed : (p : List Step) (last : ℕ) (ls : List Levels) (i : ℕ) (fits : Bool) → length ls ≤ i → (fits && all_follow p (triplet 0 last None) (map bare (drop i ls))) ≡ fits
all_followed p last ls i fits w = ap (λ (xs : List Levels). fits && all_follow p (triplet 0 last None) (map bare xs)) (drop_all i ls w) ∙ and_one fits
  where
    and_one : (a : Bool) → (a && true) ≡ a
    and_one true = refl
    and_one false = refl

-- one more is counted
pub begun_more : (ls : List Levels) (i : ℕ) (d : Levels) → i < length ls → starts (map bare (take (i + 1) ls)) ≡ starts (map bare (take i ls)) + (if (get_or ls i d).repetition == 0 then 1 else 0)
begun_more [] i d w = absurd (omega (arith, w))
begun_more (l ∷ ls) zero d w = omega arith
begun_more (l ∷ ls) (suc i) d w =
    let n = begun_more ls i d (omega (arith, w)) in
    let e : suc i + 1 ≡ suc (i + 1) = omega arith in
    ap (λ (k : ℕ). starts (map bare (take k (l ∷ ls)))) e ∙ omega (arith, n)

pub all_begun : (ls : List Levels) (i : ℕ) → length ls ≤ i → starts (map bare (take i ls)) ≡ starts (map bare ls)
all_begun ls i w = ap (λ (xs : List Levels). starts (map bare xs)) (take_all i ls w)

-- there are some
pub some_there : (n : ℕ) (b : Bool) → b ≡ (n == 0) → b ≡ false → 0 < n
some_there zero b e f = absurd (false≢true (sym f ∙ e))
some_there (suc n) b e f = omega arith

pub none_there : (n : ℕ) (b : Bool) → b ≡ (n == 0) → b ≡ true → n ≡ 0
none_there n b e f = eqb-true n 0 (sym e ∙ f)

-- what isn't so
pub is_not : (b : Bool) → not b ≡ true → b ≡ false
is_not true e = absurd (false≢true e)
is_not false e = refl

pub isnt_not : (b : Bool) → not b ≡ false → b ≡ true
isnt_not true e = refl
isnt_not false e = absurd (false≢true (sym e))
