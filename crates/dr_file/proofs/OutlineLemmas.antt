-- The column of what is lacking is one of its leaf: a NULL for each row, or the outline of a stand-in's column.
use Rattle.std.proofs.Common.{◌≡◌, ℕ, zero, suc, ◌+◌, ◌≤◌, ◌<◌, List, [], ◌∷◌, ◌++◌, length, map, take, get_or, append_assoc, Bool, true, false, refl, sym, ap, ap₂, ◌∙◌, arith}
use Rattle.std.specs.Prelude.{None, nat_le, ◌==◌, if◌then◌else◌, min, replicate}
use Rattle.std.specs.List.{list_all}
use Rattle.std.proofs.lemmas.List.{take_more}
use Rattle.std.proofs.lemmas.Bool.{and_parts, and_from, le-leb, leb-true, leb-false, eqb-true, eq-eqb}
use Rattle.dr_meaning.specs.Schema.{Repetition, required, optional, repeated, Kind, repetition_count, definition_count}
use Rattle.dr_meaning.specs.Path.{Step, Leaf, max_repetition, max_definition}
use Rattle.dr_meaning.specs.Column.{Triplet, triplet}
use Rattle.dr_meaning.specs.OneColumn.{starts, fits_value, fits_levels, past_field, level_inside, may_follow, all_follow, is_in_order, is_column}
use Rattle.dr_formats.specs.Lacking.{StandIn, outline}
use Rattle.dr_levels.specs.declared.triplet.Levels.{Levels}
use Rattle.dr_levels.specs.Views.{levels_pair, triplet_levels}
use Rattle.dr_open.specs.Sources.{bare_step}
use Rattle.dr_open.proofs.StandsLemmas.{LacksPart, Stands, definition_append, group_below}
use Rattle.dr_file.specs.Floors.{bare}

-- ---- levels of repeated fields

past_prefix : (r : Repetition) (f g : ℕ → ℕ) (n j : ℕ) → ((i : ℕ) → i < n → f i ≡ g i) → j < repetition_count r + n → past_field r f j ≡ past_field r g j
past_prefix required f g n j h w = h j (omega (arith, w))
past_prefix optional f g n j h w = h j (omega (arith, w))
past_prefix repeated f g n zero h w = refl
past_prefix repeated f g n (suc j) h w = h j (omega (arith, w))

level_prefix : (p q : List Step) (j : ℕ) → j < max_repetition p → level_inside (p ++ q) j ≡ level_inside p j
level_prefix [] q j w = absurd (omega (arith, w))
level_prefix (s ∷ p) q j w =
    ap (λ (n : ℕ). definition_count s.repetition + n) (past_prefix s.repetition (level_inside (p ++ q)) (level_inside p) (max_repetition p) j (λ i v. level_prefix p q i v) w)

past_within : (r : Repetition) (f : ℕ → ℕ) (n j : ℕ) → ((i : ℕ) → f i ≤ n) → past_field r f j ≤ n
past_within required f n j h = h j
past_within optional f n j h = h j
past_within repeated f n zero h = omega arith
past_within repeated f n (suc j) h = h j

level_within : (p : List Step) (j : ℕ) → level_inside p j ≤ max_definition p
level_within [] j = omega arith
level_within (s ∷ p) j = let w : past_field s.repetition (level_inside p) j ≤ max_definition p = past_within s.repetition (level_inside p) (max_definition p) j (λ i. level_within p i) in omega (arith, w)

past_rises : (r : Repetition) (f : ℕ → ℕ) (i j : ℕ) → ((a b : ℕ) → a ≤ b → f a ≤ f b) → i ≤ j → past_field r f i ≤ past_field r f j
past_rises required f i j h w = h i j w
past_rises optional f i j h w = h i j w
past_rises repeated f zero j h w = omega arith
past_rises repeated f (suc i) zero h w = absurd (omega (arith, w))
past_rises repeated f (suc i) (suc j) h w = h i j (omega (arith, w))

level_rises : (p : List Step) (i j : ℕ) → i ≤ j → level_inside p i ≤ level_inside p j
level_rises [] i j w = omega arith
level_rises (s ∷ p) i j w = let v : past_field s.repetition (level_inside p) i ≤ past_field s.repetition (level_inside p) j = past_rises s.repetition (level_inside p) i j (λ a b u. level_rises p a b u) w in omega (arith, v)

past_same : (r : Repetition) (f g : ℕ → ℕ) (j : ℕ) → ((i : ℕ) → f i ≡ g i) → past_field r f j ≡ past_field r g j
past_same required f g j h = h j
past_same optional f g j h = h j
past_same repeated f g zero h = refl
past_same repeated f g (suc j) h = h j

level_bare : (p : List Step) (j : ℕ) → level_inside (map bare_step p) j ≡ level_inside p j
level_bare [] j = refl
level_bare (s ∷ p) j = ap (λ (n : ℕ). definition_count s.repetition + n) (past_same s.repetition (level_inside (map bare_step p)) (level_inside p) j (λ i. level_bare p i))

repetition_bare : (p : List Step) → max_repetition (map bare_step p) ≡ max_repetition p
repetition_bare [] = refl
repetition_bare (s ∷ p) = ap (λ (n : ℕ). repetition_count s.repetition + n) (repetition_bare p)

repetition_append : (p q : List Step) → max_repetition (p ++ q) ≡ max_repetition p + max_repetition q
repetition_append [] q = omega arith
repetition_append (s ∷ p) q = omega (arith, repetition_append p q)

-- ---- the order of an outline

-- on these two paths the repeated fields up to a group have the same levels, and no higher one than the group has
record SameUpTo (p q : List Step) (r d : ℕ) (level : ℕ → ℕ) : Type 0 where
  here : (j : ℕ) → j < r → level_inside p j ≡ level j
  there : (j : ℕ) → j < r → level_inside q j ≡ level j
  within : (j : ℕ) → j < r → level j ≤ d

module _ (p q : List Step) (r d : ℕ) (level : ℕ → ℕ) (same : SameUpTo p q r d level) where
  -- behind a triplet of which the outline has this definition level, fields up to the group are there as behind the triplet itself
  abbrev Kept : ℕ → ℕ → Type 0
  Kept definition kept = (j : ℕ) → j < r → level j ≤ definition → level j ≤ kept

  cut_kept : (e : ℕ) → Kept e (min e d)
  cut_kept e j w v = let u : level j ≤ d = same.within j w in omega (arith, u, v)

  may_step : (before after kept rep : ℕ) → rep ≤ r → Kept before kept → may_follow p before after rep ≡ true → may_follow q kept (min after d) rep ≡ true
  may_step before after kept zero w k h = refl
  may_step before after kept (suc j) w k h =
      let z = and_parts (nat_le (level_inside p j) before) (nat_le (level_inside p j) after) h in
      let i : j < r = omega (arith, w) in
      let a : level j ≤ kept = k j i (omega (arith, same.here j i, leb-true (level_inside p j) before z.0)) in
      let u : level j ≤ d = same.within j i in
      and_from _ _ (le-leb (level_inside q j) kept (omega (arith, same.there j i, a))) (le-leb (level_inside q j) (min after d) (omega (arith, same.there j i, same.here j i, leb-true (level_inside p j) after z.1, u)))

  passed_kept : (before after kept rep : ℕ) → r < rep → Kept before kept → may_follow p before after rep ≡ true → Kept after kept
  passed_kept before after kept zero w k h = absurd (omega (arith, w))
  passed_kept before after kept (suc i) w k h = λ j v u.
      let z = and_parts (nat_le (level_inside p i) before) (nat_le (level_inside p i) after) h in
      let m : level_inside p j ≤ level_inside p i = level_rises p j i (omega (arith, v, w)) in
      k j v (omega (arith, same.here j v, m, leb-true (level_inside p i) before z.0))

  outline_follows : (kept rep : ℕ) (t : Triplet) (ts : List Triplet) → Kept t.definition kept → all_follow p t ts ≡ true → all_follow q (triplet rep kept None) (outline r d ts) ≡ true
  outline_follows kept rep t [] k h = refl
  outline_follows kept rep t (u ∷ us) k h =
      let z = and_parts (may_follow p t.definition u.definition u.repetition) (all_follow p u us) h in
      by (nat_le u.repetition r) refl z.0 (λ m g. outline_follows m u.repetition u us g z.1)
    where
      again : (m : ℕ) → all_follow q (triplet u.repetition m None) (outline r d us) ≡ true → all_follow q (triplet rep m None) (outline r d us) ≡ true
      again m g = sym (levels_alone (outline r d us)) ∙ g
        where
          levels_alone : (vs : List Triplet) → all_follow q (triplet u.repetition m None) vs ≡ all_follow q (triplet rep m None) vs
          levels_alone [] = refl
          levels_alone (v ∷ vs) = refl

      by : (b : Bool) → nat_le u.repetition r ≡ b → may_follow p t.definition u.definition u.repetition ≡ true → ((m : ℕ) → Kept u.definition m → all_follow q (triplet u.repetition m None) (outline r d us) ≡ true)
          → all_follow q (triplet rep kept None) (if b then triplet u.repetition (min u.definition d) None ∷ outline r d us else outline r d us) ≡ true
      by true e m g = and_from _ _ (may_step t.definition u.definition kept u.repetition (leb-true u.repetition r e) k m) (g (min u.definition d) (cut_kept u.definition))
      by false e m g = again kept (g kept (passed_kept t.definition u.definition kept u.repetition (leb-false u.repetition r e) k m))

  outline_in_order : (ts : List Triplet) → is_in_order p ts ≡ true → is_in_order q (outline r d ts) ≡ true
  outline_in_order [] h = refl
  outline_in_order (t ∷ ts) h =
      let z = and_parts (t.repetition == 0) (all_follow p t ts) h in
      let e : t.repetition ≡ 0 = eqb-true t.repetition 0 z.0 in
      let w : nat_le t.repetition r ≡ true = le-leb t.repetition r (omega (arith, e)) in
      ap (λ (b : Bool). is_in_order q (if b then triplet t.repetition (min t.definition d) None ∷ outline r d ts else outline r d ts)) w
      ∙ and_from _ _ z.0 (outline_follows (min t.definition d) t.repetition t ts (cut_kept t.definition) z.1)

-- ---- its levels, and the records in it

null_fits : (k : Kind) (R D r d : ℕ) → r ≤ R → d < D → fits_levels k R D (triplet r d None) ≡ true
null_fits k R D r d v w = and_from _ _ (and_from _ _ (le-leb r R v) (le-leb d D (omega (arith, w)))) (by (d == D) refl)
  where
    by : (b : Bool) → (d == D) ≡ b → fits_value k b None ≡ true
    by false e = refl
    by true e = absurd (omega (arith, w, eqb-true d D e))

outline_fits : (k : Kind) (R D r d : ℕ) (ts : List Triplet) → r ≤ R → d < D → list_all (fits_levels k R D) (outline r d ts) ≡ true
outline_fits k R D r d [] v w = refl
outline_fits k R D r d (t ∷ ts) v w = by (nat_le t.repetition r) refl (outline_fits k R D r d ts v w)
  where
    by : (b : Bool) → nat_le t.repetition r ≡ b → list_all (fits_levels k R D) (outline r d ts) ≡ true
        → list_all (fits_levels k R D) (if b then triplet t.repetition (min t.definition d) None ∷ outline r d ts else outline r d ts) ≡ true
    by false e g = g
    by true e g = and_from _ _ (null_fits k R D t.repetition (min t.definition d) (omega (arith, leb-true t.repetition r e, v)) (omega (arith, w))) g

outline_starts : (r d : ℕ) (ts : List Triplet) → starts (outline r d ts) ≡ starts ts
outline_starts r d [] = refl
outline_starts r d (t ∷ ts) = by (nat_le t.repetition r) refl (outline_starts r d ts)
  where
    later : (b : Bool) → (t.repetition == 0) ≡ b → r < t.repetition → ◌≡◌ {A = ℕ} (if b then 1 else 0) 0
    later true e w = absurd (omega (arith, w, eqb-true t.repetition 0 e))
    later false e w = refl

    by : (b : Bool) → nat_le t.repetition r ≡ b → starts (outline r d ts) ≡ starts ts
        → starts (if b then triplet t.repetition (min t.definition d) None ∷ outline r d ts else outline r d ts) ≡ (if t.repetition == 0 then 1 else 0) + starts ts
    by true e g = ap (λ (n : ℕ). (if t.repetition == 0 then 1 else 0) + n) g
    by false e g = omega (arith, g, later (t.repetition == 0) refl (leb-false t.repetition r e))

-- an outline is no longer
pub outline_shorter : (r d : ℕ) (ts : List Triplet) → length (outline r d ts) ≤ length ts
outline_shorter r d [] = omega arith
outline_shorter r d (t ∷ ts) = by (nat_le t.repetition r) (outline_shorter r d ts)
  where
    by : (b : Bool) → length (outline r d ts) ≤ length ts → length (if b then triplet t.repetition (min t.definition d) None ∷ outline r d ts else outline r d ts) ≤ suc (length ts)
    by true g = omega (arith, g)
    by false g = omega (arith, g)

-- ---- an outline by levels alone

first_pair : (a c : ℕ × ℕ) (xs ys : List (ℕ × ℕ)) → a ∷ xs ≡ c ∷ ys → (a.0 ≡ c.0) × (a.1 ≡ c.1) × (xs ≡ ys)
first_pair a c xs ys e = let q : a ≡ c = cc in (ap (λ (p : ℕ × ℕ). p.0) q, ap (λ (p : ℕ × ℕ). p.1) q, cc)

pub outline_by_levels : (r d : ℕ) (ls : List Levels) (ts : List Triplet) → map levels_pair ls ≡ map triplet_levels ts → outline r d (map bare ls) ≡ outline r d ts
outline_by_levels r d [] [] e = refl
outline_by_levels r d [] (t ∷ ts) e = absurd (cc)
outline_by_levels r d (l ∷ ls) [] e = absurd (cc)
outline_by_levels r d (l ∷ ls) (t ∷ ts) e =
    let p = first_pair (levels_pair l) (triplet_levels t) (map levels_pair ls) (map triplet_levels ts) e in
    ap (λ (us : List Triplet). if nat_le l.repetition r then triplet l.repetition (min l.definition d) None ∷ us else us) (outline_by_levels r d ls ts p.2)
    ∙ ap₂ (λ (a b : ℕ). if nat_le a r then triplet a (min b d) None ∷ outline r d ts else outline r d ts) p.0 p.1

-- of triplets behind others
pub outline_append : (r d : ℕ) (ts us : List Triplet) → outline r d (ts ++ us) ≡ outline r d ts ++ outline r d us
outline_append r d [] us = refl
outline_append r d (t ∷ ts) us = by (nat_le t.repetition r) (outline_append r d ts us)
  where
    by : (b : Bool) → outline r d (ts ++ us) ≡ outline r d ts ++ outline r d us
        → (if b then triplet t.repetition (min t.definition d) None ∷ outline r d (ts ++ us) else outline r d (ts ++ us))
        ≡ (if b then triplet t.repetition (min t.definition d) None ∷ outline r d ts else outline r d ts) ++ outline r d us
    by true e = ap (λ xs. triplet t.repetition (min t.definition d) None ∷ xs) e
    by false e = e

bare_append : (ls ms : List Levels) → map bare (ls ++ ms) ≡ map bare ls ++ map bare ms
bare_append [] ms = refl
bare_append (l ∷ ls) ms = ap (λ ts. bare l ∷ ts) (bare_append ls ms)

-- that of the next levels joins those before
pub outline_more : (r d : ℕ) (ls : List Levels) (i : ℕ) (other : Levels) (old before after : List Triplet) → i < length ls → before ≡ old ++ outline r d (map bare (take i ls))
    → after ≡ before ++ outline r d (bare (get_or ls i other) ∷ []) → after ≡ old ++ outline r d (map bare (take (i + 1) ls))
outline_more r d ls i other old before after w e f =
    let x : Levels = get_or ls i other in
    let m : map bare (take (i + 1) ls) ≡ map bare (take i ls) ++ (bare x ∷ []) = ap (map bare) (take_more ls i other w) ∙ bare_append (take i ls) (x ∷ []) in
    let o : outline r d (map bare (take (i + 1) ls)) ≡ outline r d (map bare (take i ls)) ++ outline r d (bare x ∷ []) = ap (outline r d) m ∙ outline_append r d (map bare (take i ls)) (bare x ∷ []) in
    f ∙ (ap (λ ts. ts ++ outline r d (bare x ∷ [])) e ∙ (append_assoc old (outline r d (map bare (take i ls))) (outline r d (bare x ∷ [])) ∙ ap (λ ts. old ++ ts) (sym o)))

-- ---- columns

column_parts : (l : Leaf) (rows : ℕ) (ts : List Triplet) → is_column l rows ts ≡ true → (is_in_order l.path ts ≡ true) × ((starts ts == rows) ≡ true)
column_parts l rows ts h =
    let a = and_parts _ (starts ts == rows) h in
    let b = and_parts (list_all (fits_levels l.kind (max_repetition l.path) (max_definition l.path)) ts) (is_in_order l.path ts) a.0 in
    (b.1, a.1)

by_paths : (k : Kind) (ns : List (List ℕ)) (P Q before inner after : List Step) (step : Step) (rows : ℕ) (ts : List Triplet) → P ≡ map bare_step before ++ inner → Q ≡ before ++ (step ∷ after) → 1 ≤ definition_count step.repetition
    → is_in_order P ts ≡ true → (starts ts == rows) ≡ true → is_column (record { names = ns; path = Q; kind = k }) rows (outline (max_repetition before) (max_definition before) ts) ≡ true
by_paths k ns P Q before inner after step rows ts e f w o s =
    let r = max_repetition before in
    let d = max_definition before in
    let same : SameUpTo P Q r d (level_inside before) = record {
      here = λ j v. let u : j < max_repetition (map bare_step before) = omega (arith, v, repetition_bare before) in ap (λ (z : List Step). level_inside z j) e ∙ (level_prefix (map bare_step before) inner j u ∙ level_bare before j);
      there = λ j v. ap (λ (z : List Step). level_inside z j) f ∙ level_prefix before (step ∷ after) j v;
      within = λ j v. level_within before j;
    } in
    let a : r ≤ max_repetition Q = omega (arith, ap max_repetition f, repetition_append before (step ∷ after)) in
    let b : d < max_definition Q = omega (arith, ap max_definition f, definition_append before (step ∷ after), w) in
    and_from _ _ (and_from _ _ (outline_fits k (max_repetition Q) (max_definition Q) r d ts a b) (outline_in_order P Q r d (level_inside before) same ts o))
    (ap (λ (n : ℕ). n == rows) (outline_starts r d ts) ∙ s)

-- what a stand-in's column tells of the leaf is a column of the leaf
pub outline_is_column : (l : Leaf) (x : StandIn) (rows : ℕ) (ts : List Triplet) → Stands l x → is_column x.leaf rows ts ≡ true → is_column l rows (outline x.repetition x.definition ts) ≡ true
outline_is_column l x rows ts h c =
    let p = column_parts x.leaf rows ts c in
    let before = take h.parts l.path in
    ap₂ (λ (r d : ℕ). is_column l rows (outline r d ts)) h.repetition h.definition
    ∙ by_paths l.kind l.names x.leaf.path l.path before h.inner h.lacks.after h.lacks.step rows ts h.path h.lacks.path h.lacks.absent p.0 p.1

nulls_fit : (k : Kind) (R D n : ℕ) → 0 < D → list_all (fits_levels k R D) (replicate n (triplet 0 0 None)) ≡ true
nulls_fit k R D zero w = refl
nulls_fit k R D (suc n) w = and_from _ _ (null_fits k R D 0 0 (omega arith) w) (nulls_fit k R D n w)

nulls_follow : (p : List Step) (t : Triplet) (n : ℕ) → all_follow p t (replicate n (triplet 0 0 None)) ≡ true
nulls_follow p t zero = refl
nulls_follow p t (suc n) = nulls_follow p (triplet 0 0 None) n

nulls_in_order : (p : List Step) (n : ℕ) → is_in_order p (replicate n (triplet 0 0 None)) ≡ true
nulls_in_order p zero = refl
nulls_in_order p (suc n) = nulls_follow p (triplet 0 0 None) n

nulls_start : (n : ℕ) → starts (replicate n (triplet 0 0 None)) ≡ n
nulls_start zero = refl
nulls_start (suc n) = omega (arith, nulls_start n)

-- a NULL for each row is a column of a leaf that may be absent
pub nulls_are_column : (l : Leaf) (n : ℕ) → LacksPart l.path 0 → is_column l n (replicate n (triplet 0 0 None)) ≡ true
nulls_are_column l n h =
    let w : 0 < max_definition l.path = group_below l.path 0 h in
    and_from _ _ (and_from _ _ (nulls_fit l.kind (max_repetition l.path) (max_definition l.path) n w) (nulls_in_order l.path n)) (eq-eqb _ _ (nulls_start n))
