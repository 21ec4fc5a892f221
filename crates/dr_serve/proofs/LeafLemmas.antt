-- The copies of a table's tablets, and the leaves that they lie on.
use Rattle.std.proofs.Common.{◌≡◌, inl, inr, ◌<◌, ℕ, zero, suc, ◌+◌, List, [], ◌∷◌, ◌++◌, map, length, Bool, true, false, ◌||◌, Option, refl, sym, ap, subst, true≢false, arith}
use Rattle.std.specs.Prelude.{◌==◌}
use Rattle.std.specs.List.{list_any}
use Rattle.std.proofs.lemmas.Bool.{eqb-true}
use Rattle.std.proofs.lemmas.Nat.{mod_below}
use Rattle.dr_formats.specs.Tablets.{placement}
use Rattle.dr_formats.specs.TableFile.{Table}
use Rattle.dr_outside.specs.Link.{Files}
use Rattle.dr_dispatch.specs.Job.{leaves_at}
use Rattle.dr_reading.specs.Held.{Held, held_at, held_on, held_by_all}
use Rattle.dr_reading.specs.Scan.{Copy, copy_in, copy_paths, copies_from, tablets_from, tablets_of}
use Rattle.dr_reading.specs.Pieces.{copies_at}
use Rattle.dr_scan.specs.ScanLaws.{IsAmong}
use Rattle.dr_serve.specs.Working.{directories_of, IsOnLeaf}

-- ---- a copy among others

pub record IsOneOf {A : Type 0} (x : A) (xs : List A) : Type 0 where
  pub before : List A
  pub behind : List A
  pub split : xs ≡ before ++ x ∷ behind

pub one_of_first : {A : Type 0} (x : A) (xs : List A) → IsOneOf x (x ∷ xs)
one_of_first x xs = record { before = []; behind = xs; split = refl }

pub one_of_later : {A : Type 0} (x y : A) (xs : List A) → IsOneOf x xs → IsOneOf x (y ∷ xs)
one_of_later x y xs i = record { before = y ∷ i.before; behind = i.behind; split = ap (λ zs. y ∷ zs) i.split }

-- the copy that lies on a leaf
copy_on : (ds : List (List ℕ)) (t j k leaf : ℕ) → list_any (λ l. l == leaf) (directories_of (copies_from ds t j k)) ≡ true → IsOneOf (copy_in ds t leaf) (copies_from ds t j k)
copy_on ds t j zero leaf h = absurd (true≢false (sym h))
copy_on ds t j (suc k) leaf h =
    by_place (placement (length ds) t j == leaf) refl h
    (λ g. one_of_later (copy_in ds t leaf) (copy_in ds t (placement (length ds) t j)) (copies_from ds t (suc j) k) (copy_on ds t (suc j) k leaf g))
  where
    by_place : (b : Bool) → (placement (length ds) t j == leaf) ≡ b → (b || list_any (λ l. l == leaf) (directories_of (copies_from ds t (suc j) k))) ≡ true
        → (list_any (λ l. l == leaf) (directories_of (copies_from ds t (suc j) k)) ≡ true → IsOneOf (copy_in ds t leaf) (copies_from ds t j (suc k))) → IsOneOf (copy_in ds t leaf) (copies_from ds t j (suc k))
    by_place true e g r = subst (λ (l : ℕ). IsOneOf (copy_in ds t l) (copies_from ds t j (suc k))) (eqb-true (placement (length ds) t j) leaf e) (one_of_first (copy_in ds t (placement (length ds) t j)) (copies_from ds t (suc j) k))
    by_place false e g r = r g

leaf_is_small : (ds : List (List ℕ)) (t j k leaf : ℕ) → 0 < length ds → list_any (λ l. l == leaf) (directories_of (copies_from ds t j k)) ≡ true → leaf < length ds
leaf_is_small ds t j zero leaf some h = absurd (true≢false (sym h))
leaf_is_small ds t j (suc k) leaf some h = by_place (placement (length ds) t j == leaf) refl h (leaf_is_small ds t (suc j) k leaf some)
  where
    by_place : (b : Bool) → (placement (length ds) t j == leaf) ≡ b → (b || list_any (λ l. l == leaf) (directories_of (copies_from ds t (suc j) k))) ≡ true
        → (list_any (λ l. l == leaf) (directories_of (copies_from ds t (suc j) k)) ≡ true → leaf < length ds) → leaf < length ds
    by_place true e g r = subst (λ (l : ℕ). l < length ds) (eqb-true (placement (length ds) t j) leaf e) (mod_below (t + j) (length ds) some)
    by_place false e g r = r g

-- ---- the tablet of a hand

pub copies_of : (ds : List (List ℕ)) (k t n i m : ℕ) → i < n → t + i ≡ m → copies_at (tablets_from ds k t n) i ≡ copies_from ds m 0 k
copies_of ds k t zero i m l e = absurd (omega (arith, l))
copies_of ds k t (suc n) zero m l e = ap (λ (x : ℕ). copies_from ds x 0 k) (let h : t ≡ m = omega (arith, e) in h)
copies_of ds k t (suc n) (suc i) m l e = copies_of ds k (suc t) n i m (omega (arith, l)) (omega (arith, e))

leaves_of : (ds : List (List ℕ)) (k t n i m leaf : ℕ) → t + i ≡ m → list_any (λ l. l == leaf) (leaves_at (map directories_of (tablets_from ds k t n)) i) ≡ true
    → (i < n) × (list_any (λ l. l == leaf) (directories_of (copies_from ds m 0 k)) ≡ true)
leaves_of ds k t zero i m leaf e h = absurd (true≢false (sym h))
leaves_of ds k t (suc n) zero m leaf e h =
    (omega arith, subst (λ (x : ℕ). list_any (λ l. l == leaf) (directories_of (copies_from ds x 0 k)) ≡ true) (let q : t ≡ m = omega (arith, e) in q) h)
leaves_of ds k t (suc n) (suc i) m leaf e h = let r = leaves_of ds k (suc t) n i m leaf (omega (arith, e)) h in (omega (arith, r.0), r.1)

pub tablet_among : (ds : List (List ℕ)) (k t n i m : ℕ) → i < n → t + i ≡ m → IsOneOf (copies_from ds m 0 k) (tablets_from ds k t n)
tablet_among ds k t zero i m l e = absurd (omega (arith, l))
tablet_among ds k t (suc n) zero m l e =
    subst (λ (x : ℕ). IsOneOf (copies_from ds x 0 k) (copies_from ds t 0 k ∷ tablets_from ds k (suc t) n)) (let h : t ≡ m = omega (arith, e) in h)
    (one_of_first (copies_from ds t 0 k) (tablets_from ds k (suc t) n))
tablet_among ds k t (suc n) (suc i) m l e =
    one_of_later (copies_from ds m 0 k) (copies_from ds t 0 k) (tablets_from ds k (suc t) n) (tablet_among ds k (suc t) n i m (omega (arith, l)) (omega (arith, e)))

-- what is so of a hand of the table: its tablet is one, its leaf too, and its copy is among the tablet's
pub record IsOfTable (t : Table) (tablet leaf : ℕ) : Type 0 where
  pub tablet_is : tablet < t.tablets
  pub leaf_is : leaf < length t.leaves
  pub copy_is : IsOneOf (copy_in t.leaves tablet leaf) (copies_from t.leaves tablet 0 t.copies)
  pub copies_are : copies_at (tablets_of t) tablet ≡ copies_from t.leaves tablet 0 t.copies
  pub among : IsOneOf (copies_from t.leaves tablet 0 t.copies) (tablets_of t)

pub of_table : (t : Table) (tablet leaf : ℕ) → 0 < length t.leaves → IsOnLeaf t tablet leaf → IsOfTable t tablet leaf
of_table t tablet leaf some h =
    let k = leaves_of t.leaves t.copies 0 t.tablets tablet tablet leaf (omega arith) h in record {
      tablet_is = k.0;
      leaf_is = leaf_is_small t.leaves tablet 0 t.copies leaf some k.1;
      copy_is = copy_on t.leaves tablet 0 t.copies leaf k.1;
      copies_are = copies_of t.leaves t.copies 0 t.tablets tablet tablet k.0 (omega arith);
      among = tablet_among t.leaves t.copies 0 t.tablets tablet tablet k.0 (omega arith);
    }

-- ---- what is held there

among_later : (h : Held) (xs ys : List Held) → IsAmong h ys → IsAmong h (xs ++ ys)
among_later h [] ys i = i
among_later h (x ∷ xs) ys i = inr (among_later h xs ys i)

among_front : (h : Held) (xs ys : List Held) → IsAmong h xs → IsAmong h (xs ++ ys)
among_front h [] ys i = absurd i
among_front h (x ∷ xs) ys (inl e) = inl e
among_front h (x ∷ xs) ys (inr i) = inr (among_front h xs ys i)

among_paths : (held : Option Files) (before behind : List Copy) (c : Copy) → IsAmong (held_at held c.path) (held_on held (copy_paths (before ++ c ∷ behind)))
among_paths held [] behind c = inl refl
among_paths held (b ∷ before) behind c = inr (among_paths held before behind c)

pub copy_among : (held : Option Files) (c : Copy) (cs : List Copy) → IsOneOf c cs → IsAmong (held_at held c.path) (held_on held (copy_paths cs))
copy_among held c cs i =
    subst (λ (xs : List Copy). IsAmong (held_at held c.path) (held_on held (copy_paths xs))) (sym i.split) (among_paths held i.before i.behind c)

-- where the link is one of several
pub link_among : (held : Option Files) (before behind : List (Option Files)) (paths : List (List ℕ)) (h : Held) → IsAmong h (held_on held paths) → IsAmong h (held_by_all (before ++ held ∷ behind) paths)
link_among held [] behind paths h i = among_front h (held_on held paths) (held_by_all behind paths) i
link_among held (b ∷ before) behind paths h i = among_later h (held_on b paths) (held_by_all (before ++ held ∷ behind) paths) (link_among held before behind paths h i)
