-- What fires of readings is what is read for the takings that fire there.
use Rattle.std.proofs.Common.{◌≡◌, ℕ, List, [], ◌∷◌, ◌++◌, map, Bool, true, false, Option, Some, None, refl, sym, ap, ◌∙◌, ⊎_elim}
use Rattle.std.specs.Prelude.{◌==◌, if◌then◌else◌}
use Rattle.std.proofs.lemmas.Bool.{eq-eqb, ne_eqb, cases_eq}
use Rattle.dr_moves.specs.Context.{Context}
use Rattle.dr_partials.specs.Putting.{Put}
use Rattle.dr_kept_laws.specs.GroupFlow.{Reading, fired_if, all_fired, left_if, all_left}
use Rattle.dr_within.specs.Takings.{Take, put_read, all_read, fires_at, same_leaf, firing_at}

same_order : (i j : ℕ) → (i == j) ≡ (j == i)
same_order i j =
    ⊎_elim (λ (e : i ≡ j). eq-eqb i j e ∙ sym (eq-eqb j i (sym e)))
    (λ (n : i ≡ j → ⊥). ne_eqb i j n ∙ sym (ne_eqb j i (λ e. n (sym e)))) (cases_eq i j)

one_if : (b : Bool) (q p : Put) (ps : List Put) → q ≡ p → ◌≡◌ {A = List Put} ((if b then q ∷ [] else []) ++ ps) (if b then p ∷ ps else ps)
one_if true q p ps e = ap (λ (x : Put). x ∷ ps) e
one_if false q p ps e = refl

-- one at a triplet of a leaf
one_fired : (o : Option ℕ) (f : Context → Put) (i : ℕ) (c : Context) (p : Put) (ps : List Put) → f c ≡ p
    → ◌≡◌ {A = List Put} (fired_if o f i c ++ ps) (if same_leaf o (Some i) then p ∷ ps else ps)
one_fired None f i c p ps e = refl
one_fired (Some j) f i c p ps e = one_if (i == j) (f c) p ps e ∙ ap (λ (b : Bool). if b then p ∷ ps else ps) (same_order i j)

-- one where a record is left
one_left : (o : Option ℕ) (f : Context → Put) (c : Context) (p : Put) (ps : List Put) → f c ≡ p
    → ◌≡◌ {A = List Put} (left_if o f c ++ ps) (if same_leaf o None then p ∷ ps else ps)
one_left None f c p ps e = ap (λ (x : Put). x ∷ ps) e
one_left (Some j) f c p ps e = refl

read_if : (keys : List ℕ) (b : Bool) (t : Take) (ts : List Take) (c : Context)
    → ◌≡◌ {A = List Put} (all_read keys (if b then t ∷ ts else ts) c) (if b then put_read keys t c ∷ all_read keys ts c else all_read keys ts c)
read_if keys true t ts c = refl
read_if keys false t ts c = refl

module _ (keys : List ℕ) (reading : Take → Reading Put) (at : (t : Take) → (reading t).leaf ≡ fires_at keys t)
    (is : (t : Take) (c : Context) → (reading t).fires c ≡ put_read keys t c) where
  -- at a triplet of a leaf
  pub fired_read : (ts : List Take) (i : ℕ) (c : Context) → all_fired (map reading ts) i c ≡ all_read keys (firing_at keys (Some i) ts) c
  fired_read [] i c = refl
  fired_read (t ∷ ts) i c =
      let rest = all_read keys (firing_at keys (Some i) ts) c in
      ap (λ (ps : List Put). fired_if (reading t).leaf (reading t).fires i c ++ ps) (fired_read ts i c)
      ∙ (one_fired (reading t).leaf (reading t).fires i c (put_read keys t c) rest (is t c)
      ∙ (ap (λ (o : Option ℕ). if same_leaf o (Some i) then put_read keys t c ∷ rest else rest) (at t)
      ∙ sym (read_if keys (same_leaf (fires_at keys t) (Some i)) t (firing_at keys (Some i) ts) c)))

  -- where a record is left
  pub left_read : (ts : List Take) (c : Context) → all_left (map reading ts) c ≡ all_read keys (firing_at keys None ts) c
  left_read [] c = refl
  left_read (t ∷ ts) c =
      let rest = all_read keys (firing_at keys None ts) c in
      ap (λ (ps : List Put). left_if (reading t).leaf (reading t).fires c ++ ps) (left_read ts c)
      ∙ (one_left (reading t).leaf (reading t).fires c (put_read keys t c) rest (is t c)
      ∙ (ap (λ (o : Option ℕ). if same_leaf o None then put_read keys t c ∷ rest else rest) (at t)
      ∙ sym (read_if keys (same_leaf (fires_at keys t) None) t (firing_at keys None ts) c)))
