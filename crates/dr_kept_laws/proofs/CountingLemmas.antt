-- The pruner's numbers tell what is told.
use Rattle.std.proofs.Common.{◌≡◌, ℕ, zero, suc, ◌+◌, ◌-◌, ◌≤◌, ◌<◌, List, [], ◌∷◌, ◌++◌, length, drop, Bool, true, false, Option, Some, None, refl, sym, ap, ap₂, subst, ◌∙◌, true≢false, arith}
use Rattle.std.specs.Prelude.{map, reverse, min, not, ◌&&◌, ◌||◌, ◌==◌, nat_lt, if◌then◌else◌}
use Rattle.std.specs.List.{list_any}
use Rattle.std.proofs.lemmas.Bool.{eq-eqb, ne_eqb, eqb-true, le-leb, lt-ltb, lt-leb, le-ltb, ltb-true, ltb-false}
use Rattle.std.proofs.Math.Nat.{min-le_left, min-le_right}
use Rattle.dr_meaning.specs.Walk.{Move, enter, value, leave}
use Rattle.dr_kept_laws.specs.Telling.{Verdict, kept, dropped, undecided, Opened, Watching, nothing_read, chain_in, rows_at, with_rows, without_first, watch_move, watch_moves, is_nothing, verdict, verdict_on, last_verdict, last_verdict_on, verdicts_at_leave, verdicts_at}
use Rattle.dr_kept_laws.specs.Counting.{Numbers, no_numbers, whole_chain, is_first, count_entered, count_row, count_left, count_move, verdict_at, verdict_left, verdicts_of, left_among, numbers_tell, context_behind, count_all, counted_tell, NumbersTell}
use Rattle.dr_kept_laws.proofs.TellingLemmas.{no_more_rows}
use Rattle.dr_moves.proofs.KeptRows.{any_append}
use Rattle.dr_moves.specs.Context.{Context, with_value}
use Rattle.dr_moves.specs.Condition.{Watch, rest_below}

-- ---- the rest of a list

drop_more : (a : ℕ) (N : List ℕ) (j : ℕ) (r : List ℕ) → drop a N ≡ j ∷ r → (drop (suc a) N ≡ r) × (suc a ≤ length N)
drop_more zero [] j r h = absurd (cc)
drop_more zero (x ∷ N) j r h = let e : N ≡ r = cc in (e, omega arith)
drop_more (suc a) [] j r h = absurd (cc)
drop_more (suc a) (x ∷ N) j r h = let e : (drop (suc a) N ≡ r) × (suc a ≤ length N) = drop_more a N j r h in (e.0, omega (arith, e.1))

drop_end : (a : ℕ) (N : List ℕ) → a ≤ length N → is_nothing (drop a N) ≡ (a == length N)
drop_end zero [] h = refl
drop_end zero (x ∷ N) h = sym (ne_eqb 0 (suc (length N)) (omega arith))
drop_end (suc a) [] h = absurd (omega (arith, h))
drop_end (suc a) (x ∷ N) h = drop_end a N (omega (arith, h)) ∙ by_test (a == length N) refl
  where
    by_test : (b : Bool) → (a == length N) ≡ b → b ≡ (suc a == suc (length N))
    by_test true e = sym (eq-eqb (suc a) (suc (length N)) (ap suc (eqb-true a (length N) e)))
    by_test false e = sym (ne_eqb (suc a) (suc (length N)) (λ q. true≢false (sym (eq-eqb a (length N) (omega (arith, q))) ∙ e)))

-- ---- open branches for which numbers stand

abbrev any_true : List Bool → Bool
any_true rows = list_any (λ b. b) rows

-- so many branches on the chain, the innermost first, the outermost so many with a true row
abbrev On : List ℕ → ℕ → ℕ → List Opened → Type 0
On N h zero [] = Unit {0}
On N h zero (b ∷ bs) = ⊥
On N h (suc a) [] = ⊥
On N h (suc a) (b ∷ bs) = (b.rest ≡ Some (drop (suc a) N)) × (any_true b.rows ≡ nat_lt a h) × On N h a bs

-- whether the innermost has a row
abbrev ReadOf : Bool → List Opened → Type 0
ReadOf read [] = Unit {0}
ReadOf read (b ∷ bs) = is_nothing b.rows ≡ not read

-- inside of these, so many off the chain
abbrev OffOn : List ℕ → Numbers → ℕ → List Opened → Type 0
OffOn N n zero bs = On N n.hit n.along bs × (n.along ≡ length N → ReadOf n.read bs)
OffOn N n (suc o) [] = ⊥
OffOn N n (suc o) (b ∷ bs) = (b.rest ≡ None) × OffOn N n o bs

record Stands (w : Watch) (n : Numbers) (bs : List Opened) : Type 0 where
  pub off : ℕ
  pub deep : n.depth ≡ off + n.along
  pub hits : n.hit ≤ n.along
  pub fits : n.along ≤ length (whole_chain w)
  pub open_ones : OffOn (whole_chain w) n off bs

-- ---- Enter

chain_on : (w : Watch) (h a : ℕ) (bs : List Opened) → On (whole_chain w) h a bs → chain_in w bs ≡ Some (drop a (whole_chain w))
chain_on w h zero [] o = refl
chain_on w h zero (b ∷ bs) o = absurd o
chain_on w h (suc a) [] o = absurd o
chain_on w h (suc a) (b ∷ bs) o = o.0

below_first : (k : ℕ) (N : List ℕ) (a : ℕ) → is_first k (drop a N) ≡ true → (rest_below k (Some (drop a N)) ≡ Some (drop (suc a) N)) × (suc a ≤ length N)
below_first k N a h = by_rest (drop a N) refl h
  where
    by_rest : (r : List ℕ) → drop a N ≡ r → is_first k r ≡ true → (rest_below k (Some r) ≡ Some (drop (suc a) N)) × (suc a ≤ length N)
    by_rest [] e h = absurd (true≢false (sym h))
    by_rest (j ∷ r) e h = let d : (drop (suc a) N ≡ r) × (suc a ≤ length N) = drop_more a N j r e in (ap (λ (b : Bool). if b then Some r else None) h ∙ ap Some (sym d.0), d.1)

below_other : (k : ℕ) (r : List ℕ) → is_first k r ≡ false → rest_below k (Some r) ≡ None
below_other k [] h = refl
below_other k (j ∷ r) h = ap (λ (b : Bool). if b then Some r else None) h

-- into the chain's next field
on_entered : (w : Watch) (n : Numbers) (k : ℕ) (bs : List Opened) → On (whole_chain w) n.hit n.along bs → n.depth ≡ n.along → n.hit ≤ n.along → is_first k (drop n.along (whole_chain w)) ≡ true
    → Stands w (count_entered true n) (record { rest = rest_below k (chain_in w bs); rows = [] } ∷ bs)
on_entered w n k bs o d h e =
    let x : (rest_below k (Some (drop n.along (whole_chain w))) ≡ Some (drop (suc n.along) (whole_chain w))) × (suc n.along ≤ length (whole_chain w)) = below_first k (whole_chain w) n.along e in
    record {
      off = 0;
      deep = omega (arith, d);
      hits = omega (arith, h);
      fits = x.1;
      open_ones = ((ap (rest_below k) (chain_on w n.hit n.along bs o) ∙ x.0, sym (le-ltb n.along n.hit h), o), λ z. refl);
    }

-- into another
off_entered : (w : Watch) (n : Numbers) (s : ℕ) (bs : List Opened) (r : Option (List ℕ)) → OffOn (whole_chain w) n s bs → n.depth ≡ s + n.along → n.hit ≤ n.along → n.along ≤ length (whole_chain w) → r ≡ None
    → Stands w (count_entered false n) (record { rest = r; rows = [] } ∷ bs)
off_entered w n s bs r o d h f e = record { off = suc s; deep = omega (arith, d); hits = h; fits = f; open_ones = (e, again s bs o) }
  where
    again : (s : ℕ) (bs : List Opened) → OffOn (whole_chain w) n s bs → OffOn (whole_chain w) (count_entered false n) s bs
    again zero bs o = o
    again (suc s) [] o = o
    again (suc s) (b ∷ bs) o = (o.0, again s bs o.1)

entered_stands : (w : Watch) (n : Numbers) (k s : ℕ) (bs : List Opened) → OffOn (whole_chain w) n s bs → n.depth ≡ s + n.along → n.hit ≤ n.along → n.along ≤ length (whole_chain w)
    → Stands w (count_entered ((n.along == n.depth) && is_first k (drop n.along (whole_chain w))) n) (record { rest = rest_below k (chain_in w bs); rows = [] } ∷ bs)
entered_stands w n k zero bs o d h f = subst (λ (b : Bool). Stands w (count_entered (b && is_first k (drop n.along (whole_chain w))) n) (record { rest = rest_below k (chain_in w bs); rows = [] } ∷ bs))
    (sym (eq-eqb n.along n.depth (omega (arith, d)))) (by_first (is_first k (drop n.along (whole_chain w))) refl)
  where
    by_first : (b : Bool) → is_first k (drop n.along (whole_chain w)) ≡ b → Stands w (count_entered b n) (record { rest = rest_below k (chain_in w bs); rows = [] } ∷ bs)
    by_first true e = on_entered w n k bs o.0 (omega (arith, d)) h e
    by_first false e = off_entered w n 0 bs _ o d h f (ap (rest_below k) (chain_on w n.hit n.along bs o.0) ∙ below_other k (drop n.along (whole_chain w)) e)
entered_stands w n k (suc s) [] o d h f = absurd o
entered_stands w n k (suc s) (b ∷ bs) o d h f = subst (λ (c : Bool). Stands w (count_entered (c && is_first k (drop n.along (whole_chain w))) n) (record { rest = rest_below k b.rest; rows = [] } ∷ b ∷ bs))
    (sym (ne_eqb n.along n.depth (λ q. omega (arith, q, d)))) (off_entered w n (suc s) (b ∷ bs) _ o d h f (ap (rest_below k) o.0))

-- ---- a row

any_more : (rows : List Bool) → any_true (rows ++ false ∷ []) ≡ any_true rows
any_more rows = any_append (λ b. b) rows (false ∷ []) ∙ or_false (any_true rows)
  where
    or_false : (b : Bool) → (b || false) ≡ b
    or_false true = refl
    or_false false = refl

any_hit : (rows : List Bool) → any_true (rows ++ true ∷ []) ≡ true
any_hit rows = any_append (λ b. b) rows (true ∷ []) ∙ or_true (any_true rows)
  where
    or_true : (b : Bool) → (b || true) ≡ true
    or_true true = refl
    or_true false = refl

-- a true one hits them all
on_hit : (N : List ℕ) (h l a : ℕ) (bs : List Opened) → a ≤ l → On N h a bs → On N l a (map (with_rows (true ∷ [])) bs)
on_hit N h l zero [] z o = tt
on_hit N h l zero (b ∷ bs) z o = absurd o
on_hit N h l (suc a) [] z o = absurd o
on_hit N h l (suc a) (b ∷ bs) z o = (o.0, any_hit b.rows ∙ sym (lt-ltb a l (omega (arith, z))), on_hit N h l a bs (omega (arith, z)) o.2)

on_missed : (N : List ℕ) (h a : ℕ) (bs : List Opened) → On N h a bs → On N h a (map (with_rows (false ∷ [])) bs)
on_missed N h zero [] o = tt
on_missed N h zero (b ∷ bs) o = absurd o
on_missed N h (suc a) [] o = absurd o
on_missed N h (suc a) (b ∷ bs) o = (o.0, any_more b.rows ∙ o.1, on_missed N h a bs o.2)

read_row : (v : Bool) (bs : List Opened) → ReadOf true (map (with_rows (v ∷ [])) bs)
read_row v [] = tt
read_row v (b ∷ bs) = by_rows b.rows
  where
    by_rows : (rows : List Bool) → is_nothing (rows ++ v ∷ []) ≡ false
    by_rows [] = refl
    by_rows (x ∷ rows) = refl

row_stands : (w : Watch) (n : Numbers) (v : Bool) (s : ℕ) (bs : List Opened) → OffOn (whole_chain w) n s bs → OffOn (whole_chain w) (count_row v n) s (map (with_rows (v ∷ [])) bs)
row_stands w n true zero bs o = (on_hit (whole_chain w) n.hit n.along n.along bs (omega arith) o.0, λ z. read_row true bs)
row_stands w n false zero bs o = (on_missed (whole_chain w) n.hit n.along bs o.0, λ z. read_row false bs)
row_stands w n v (suc s) [] o = absurd o
row_stands w n v (suc s) (b ∷ bs) o = (o.0, row_stands w n v s bs o.1)

row_numbers : (w : Watch) (n : Numbers) (v : Bool) (bs : List Opened) → Stands w n bs → Stands w (count_row v n) (map (with_rows (v ∷ [])) bs)
row_numbers w n true bs s = record { off = s.off; deep = s.deep; hits = omega arith; fits = s.fits; open_ones = row_stands w n true s.off bs s.open_ones }
row_numbers w n false bs s = record { off = s.off; deep = s.deep; hits = s.hits; fits = s.fits; open_ones = row_stands w n false s.off bs s.open_ones }

value_stands : (w : Watch) (n : Numbers) (i : ℕ) (c : Context) (bs : List Opened) → Stands w n bs → Stands w (if i == w.last then count_row (w.test c) n else n) (map (with_rows (rows_at w i c)) bs)
value_stands w n i c bs s = by_leaf (i == w.last)
  where
    by_leaf : (b : Bool) → Stands w (if b then count_row (w.test c) n else n) (map (with_rows (if b then w.test c ∷ [] else [])) bs)
    by_leaf true = row_numbers w n (w.test c) bs s
    by_leaf false = subst (Stands w n) (sym (no_more_rows bs)) s

-- ---- Leave

on_fewer : (N : List ℕ) (h l a m : ℕ) (bs : List Opened) → a ≤ m → l ≡ min h m → On N h a bs → On N l a bs
on_fewer N h l zero m [] z e o = tt
on_fewer N h l zero m (b ∷ bs) z e o = absurd o
on_fewer N h l (suc a) m [] z e o = absurd o
on_fewer N h l (suc a) m (b ∷ bs) z e o = (o.0, o.1 ∙ by_test (nat_lt a h) refl, on_fewer N h l a m bs (omega (arith, z)) e o.2)
  where
    by_test : (b : Bool) → nat_lt a h ≡ b → b ≡ nat_lt a l
    by_test true q = let x : a < h = ltb-true a h q in sym (lt-ltb a l (omega (arith, x, e, z)))
    by_test false q = let x : h ≤ a = ltb-false a h q in sym (le-ltb a l (omega (arith, x, e, min-le_left h m)))

left_stands : (w : Watch) (n : Numbers) (s : ℕ) (bs : List Opened) → OffOn (whole_chain w) n s bs → n.depth ≡ s + n.along → n.hit ≤ n.along → n.along ≤ length (whole_chain w)
    → Stands w (count_left (n.along == n.depth) n) (without_first bs)
left_stands w n zero bs o d h f = subst (λ (b : Bool). Stands w (count_left b n) (without_first bs)) (sym (eq-eqb n.along n.depth (omega (arith, d)))) (by_along n.along refl bs o.0)
  where
    by_along : (a : ℕ) → n.along ≡ a → (bs : List Opened) → On (whole_chain w) n.hit a bs → Stands w (count_left true n) (without_first bs)
    by_along zero e [] o =
        let q : 0 ≡ n.along - 1 = omega (arith, e) in
        record {
          off = 0;
          deep = omega (arith, d, e);
          hits = min-le_right n.hit (n.along - 1);
          fits = omega (arith, f);
          open_ones = (subst (λ (a : ℕ). On (whole_chain w) (min n.hit (n.along - 1)) a []) q tt, λ z. tt);
        }
    by_along zero e (b ∷ bs) o = absurd o
    by_along (suc a) e [] o = absurd o
    by_along (suc a) e (b ∷ bs) o =
        let q : n.along - 1 ≡ a = omega (arith, e) in
        record {
          off = 0;
          deep = omega (arith, d, e);
          hits = min-le_right n.hit (n.along - 1);
          fits = omega (arith, f);
          open_ones = (subst (λ (c : ℕ). On (whole_chain w) (min n.hit (n.along - 1)) c bs) (sym q) (on_fewer (whole_chain w) n.hit (min n.hit (n.along - 1)) a (n.along - 1) bs (omega (arith, q)) refl o.2), λ z. absurd (omega (arith, z, f, e)));
        }
left_stands w n (suc s) [] o d h f = absurd o
left_stands w n (suc s) (b ∷ bs) o d h f = subst (λ (c : Bool). Stands w (count_left c n) bs) (sym (ne_eqb n.along n.depth (λ q. omega (arith, q, d))))
    (record { off = s; deep = omega (arith, d); hits = h; fits = f; open_ones = again s bs o.1 })
  where
    again : (s : ℕ) (bs : List Opened) → OffOn (whole_chain w) n s bs → OffOn (whole_chain w) (count_left false n) s bs
    again zero bs o = o
    again (suc s) [] o = o
    again (suc s) (b ∷ bs) o = (o.0, again s bs o.1)

-- ---- what is told

module _ (N : List ℕ) (n : Numbers) (fits : n.along ≤ length N) where
  -- on the chain
  on_verdict : (a : ℕ) (b : Opened) (bs : List Opened) → suc a ≤ n.along → b.rest ≡ Some (drop (suc a) N) → any_true b.rows ≡ nat_lt a n.hit → (suc a ≡ length N → ReadOf n.read (b ∷ bs)) → verdict_at (length N) n a ≡ verdict b
  on_verdict a b bs z e h r =
      ap (λ (x : Bool). if x || nat_lt a n.hit then kept else if (suc a == length N) && n.read then dropped else undecided) (lt-leb n.along a z)
      ∙ ap (λ (x : Bool). if x then kept else if (suc a == length N) && n.read then dropped else undecided) (sym h)
      ∙ ap (λ (x : Bool). if any_true b.rows then kept else if x then dropped else undecided) (by_end (suc a == length N) refl)
      ∙ ap (λ (x : Option (List ℕ)). verdict_on x b.rows) (sym e)
    where
      not_not : (x : Bool) → not (not x) ≡ x
      not_not true = refl
      not_not false = refl

      by_end : (x : Bool) → (suc a == length N) ≡ x → (x && n.read) ≡ (is_nothing (drop (suc a) N) && not (is_nothing b.rows))
      by_end true q = ap₂ (λ (y v : Bool). y && v) (sym (drop_end (suc a) N (omega (arith, z, fits)) ∙ q)) (sym (ap not (r (eqb-true (suc a) (length N) q)) ∙ not_not n.read))
      by_end false q = ap (λ (y : Bool). y && not (is_nothing b.rows)) (sym (drop_end (suc a) N (omega (arith, z, fits)) ∙ q))

  on_verdicts : (a : ℕ) (bs : List Opened) → a ≤ n.along → On N n.hit a bs → (a ≡ length N → ReadOf n.read bs) → verdicts_of (length N) n a ≡ map verdict bs
  on_verdicts zero [] z o r = refl
  on_verdicts zero (b ∷ bs) z o r = absurd o
  on_verdicts (suc a) [] z o r = absurd o
  on_verdicts (suc a) (b ∷ bs) z o r = ap₂ (λ (x : Verdict) (y : List Verdict). x ∷ y) (on_verdict a b bs z o.0 o.1 r) (on_verdicts a bs (omega (arith, z)) o.2 (λ e. absurd (omega (arith, e, z, fits))))

  -- off it
  off_verdict : (i : ℕ) (b : Opened) → n.along ≤ i → b.rest ≡ None → verdict_at (length N) n i ≡ verdict b
  off_verdict i b z e = ap (λ (x : Bool). if x || nat_lt i n.hit then kept else if (suc i == length N) && n.read then dropped else undecided) (le-leb n.along i z) ∙ ap (λ (x : Option (List ℕ)). verdict_on x b.rows) (sym e)

  same_verdicts : (s d : ℕ) (bs : List Opened) → d ≡ s + n.along → OffOn N n s bs → verdicts_of (length N) n d ≡ map verdict bs
  same_verdicts zero d bs e o = ap (verdicts_of (length N) n) (the_same d e) ∙ on_verdicts n.along bs (omega arith) o.0 o.1
    where
      the_same : (d : ℕ) → d ≡ 0 + n.along → d ≡ n.along
      the_same d e = omega (arith, e)
  same_verdicts (suc s) d [] e o = absurd o
  same_verdicts (suc s) zero (b ∷ bs) e o = absurd (omega (arith, e))
  same_verdicts (suc s) (suc d) (b ∷ bs) e o = ap₂ (λ (x : Verdict) (y : List Verdict). x ∷ y) (off_verdict d b (omega (arith, e)) o.0) (same_verdicts s d bs (omega (arith, e)) o.1)

  -- the branch that is left, and the others
  on_left : (a : ℕ) (b : Opened) → suc a ≤ n.along → b.rest ≡ Some (drop (suc a) N) → any_true b.rows ≡ nat_lt a n.hit → verdict_left n a ≡ last_verdict b
  on_left a b z e h =
      ap (λ (x : Bool). if x || nat_lt a n.hit then kept else dropped) (lt-leb n.along a z)
      ∙ ap (λ (x : Bool). if x then kept else dropped) (sym h)
      ∙ ap (λ (x : Option (List ℕ)). last_verdict_on x b.rows) (sym e)

  on_among : (a : ℕ) (bs : List Opened) → a ≤ n.along → On N n.hit a bs → left_among (length N) n a ≡ verdicts_at_leave bs
  on_among zero [] z o = refl
  on_among zero (b ∷ bs) z o = absurd o
  on_among (suc a) [] z o = absurd o
  on_among (suc a) (b ∷ bs) z o = ap₂ (λ (x : Verdict) (y : List Verdict). x ∷ y) (on_left a b z o.0 o.1) (on_verdicts a bs (omega (arith, z)) o.2 (λ e. absurd (omega (arith, e, z, fits))))

  same_among : (s d : ℕ) (bs : List Opened) → d ≡ s + n.along → OffOn N n s bs → left_among (length N) n d ≡ verdicts_at_leave bs
  same_among zero d bs e o = ap (left_among (length N) n) (the_same d e) ∙ on_among n.along bs (omega arith) o.0
    where
      the_same : (d : ℕ) → d ≡ 0 + n.along → d ≡ n.along
      the_same d e = omega (arith, e)
  same_among (suc s) d [] e o = absurd o
  same_among (suc s) zero (b ∷ bs) e o = absurd (omega (arith, e))
  same_among (suc s) (suc d) (b ∷ bs) e o = ap₂ (λ (x : Verdict) (y : List Verdict). x ∷ y)
      (ap (λ (x : Bool). if x || nat_lt d n.hit then kept else dropped) (le-leb n.along d (omega (arith, e))) ∙ ap (λ (x : Option (List ℕ)). last_verdict_on x b.rows) (sym o.0))
      (same_verdicts s d bs (omega (arith, e)) o.1)

-- ---- along moves

module _ (w : Watch) where
  move_stands : (n : Numbers) (g : Watching) (m : Move) → Stands w n g.open_ones → Stands w (count_move w (context_behind g.context m) m n) (watch_move w g m).open_ones
  move_stands n g (enter k) s = entered_stands w n k s.off g.open_ones s.open_ones s.deep s.hits s.fits
  move_stands n g (value i t) s = value_stands w n i (with_value i t.value g.context) g.open_ones s
  move_stands n g (leave k) s = left_stands w n s.off g.open_ones s.open_ones s.deep s.hits s.fits

  same_context : (g : Watching) (m : Move) → context_behind g.context m ≡ (watch_move w g m).context
  same_context g (enter k) = refl
  same_context g (value i t) = refl
  same_context g (leave k) = refl

  entered_depth : (b : Bool) (n : Numbers) → (count_entered b n).depth ≡ suc n.depth
  entered_depth true n = refl
  entered_depth false n = refl

  value_depth : (n : Numbers) (i : ℕ) (c : Context) → (if i == w.last then count_row (w.test c) n else n).depth ≡ n.depth
  value_depth n i c = by_leaf (i == w.last)
    where
      row_depth : (v : Bool) → (count_row v n).depth ≡ n.depth
      row_depth true = refl
      row_depth false = refl

      by_leaf : (b : Bool) → (if b then count_row (w.test c) n else n).depth ≡ n.depth
      by_leaf true = row_depth (w.test c)
      by_leaf false = refl

  move_told : (n : Numbers) (g : Watching) (m : Move) → Stands w n g.open_ones → numbers_tell w (context_behind g.context m) m n ≡ verdicts_at w g m
  move_told n g (enter k) s =
      let v = count_move w g.context (enter k) n in
      let x : Stands w v (watch_move w g (enter k)).open_ones = move_stands n g (enter k) s in
      same_verdicts (whole_chain w) v x.fits x.off (suc n.depth) (watch_move w g (enter k)).open_ones (sym (entered_depth ((n.along == n.depth) && is_first k (drop n.along (whole_chain w))) n) ∙ x.deep) x.open_ones
  move_told n g (value i t) s =
      let c = with_value i t.value g.context in
      let v = count_move w c (value i t) n in
      let x : Stands w v (watch_move w g (value i t)).open_ones = move_stands n g (value i t) s in
      same_verdicts (whole_chain w) v x.fits x.off n.depth (watch_move w g (value i t)).open_ones (sym (value_depth n i c) ∙ x.deep) x.open_ones
  move_told n g (leave k) s = same_among (whole_chain w) n s.fits s.off n.depth g.open_ones s.deep s.open_ones

  tells_told : (ms : List Move) (m : Move) (n : Numbers) (g : Watching) → Stands w n g.open_ones
      → counted_tell w (count_all w (record { context = g.context; numbers = n }) ms) m ≡ reverse (verdicts_at w (watch_moves w g ms) m)
  tells_told [] m n g s = ap reverse (move_told n g m s)
  tells_told (x ∷ ms) m n g s =
      let v = count_move w (context_behind g.context x) x n in
      ap (λ (c : Context). counted_tell w (count_all w (record { context = c; numbers = v }) ms) m) (same_context g x) ∙ tells_told ms m v (watch_move w g x) (move_stands n g x s)

pub numbers_tell_told : NumbersTell
numbers_tell_told w ms m = tells_told w ms m no_numbers nothing_read (record { off = 0; deep = refl; hits = omega arith; fits = omega arith; open_ones = (tt, λ z. tt) })
