-- The tablets of a table, read one after another.
use Rattle.std.proofs.Common.{◌≡◌, ℕ, zero, suc, ◌+◌, List, [], ◌∷◌, ◌++◌, length, refl, sym, ap, ◌∙◌, subst, add-one, arith}
use Rattle.std.specs.Prelude.{IsTrue}
use Rattle.dr_meaning.specs.Schema.{Schema}
use Rattle.dr_meaning.specs.Path.{Leaf}
use Rattle.dr_outside.specs.Link.{LinkShown}
use Rattle.dr_reading.specs.Causes.{LeadTo}
use Rattle.dr_reading.specs.Scan.{Copy, copies_from, tablets_from}
use Rattle.dr_reading.specs.Left.{LeftTablet}
use Rattle.dr_reading.specs.InTurn.{TabletRead, IsTabletRead, causes_at, ReadsInTurn}
use Rattle.dr_reading.proofs.InTurnLemmas.{reads_more, as_many_read}
use Rattle.dr_table.specs.LeftViews.{all_left_view}
use Rattle.dr_table.specs.declared.left.LeftTablet as code

-- ---- the tablets

tablets_more : (ds : List (List ℕ)) (k t n m : ℕ) → t + n ≡ m → tablets_from ds k t (suc n) ≡ tablets_from ds k t n ++ copies_from ds m 0 k ∷ []
tablets_more ds k t zero m e = ap (λ i. copies_from ds i 0 k ∷ []) (let h : t ≡ m = omega (arith, e) in h)
tablets_more ds k t (suc n) m e = ap (λ ts. copies_from ds t 0 k ∷ ts) (tablets_more ds k (suc t) n m (omega (arith, e)))

pub tablets_next : (ds : List (List ℕ)) (k n : ℕ) → tablets_from ds k 0 (n + 1) ≡ tablets_from ds k 0 n ++ copies_from ds n 0 k ∷ []
tablets_next ds k n = ap (tablets_from ds k 0) (add-one n) ∙ tablets_more ds k 0 n n (omega arith)

tablets_length : (ds : List (List ℕ)) (k t n : ℕ) → length (tablets_from ds k t n) ≡ n
tablets_length ds k t zero = refl
tablets_length ds k t (suc n) = ap suc (tablets_length ds k (suc t) n)

-- ---- one tablet more

pub next_read : (s : Schema) (F : List Leaf) (l was now : LinkShown) (ds : List (List ℕ)) (k n : ℕ) (rs : List TabletRead) (r : TabletRead) → was.held ≡ l.held → (IsTrue l.is_steady → IsTrue was.is_steady)
    → ReadsInTurn s F l was (tablets_from ds k 0 n) rs → IsTabletRead s F was (copies_from ds n 0 k) r → LeadTo was.faults (causes_at r) now.faults → ReadsInTurn s F l now (tablets_from ds k 0 (n + 1)) (rs ++ r ∷ [])
next_read s F l was now ds k n rs r e w h g c =
    subst (λ (ts : List (List Copy)). ReadsInTurn s F l now ts (rs ++ r ∷ [])) (sym (tablets_next ds k n)) (reads_more s F l was now (tablets_from ds k 0 n) rs (copies_from ds n 0 k) r e w h g c)

-- as many were read as there were tablets before
pub as_many : (s : Schema) (F : List Leaf) (l was : LinkShown) (ds : List (List ℕ)) (k n : ℕ) (rs : List TabletRead) → ReadsInTurn s F l was (tablets_from ds k 0 n) rs → length rs ≡ n
as_many s F l was ds k n rs h = as_many_read s F l (tablets_from ds k 0 n) rs h.each ∙ tablets_length ds k 0 n

pub is_some_left : (those : List LeftTablet) (t : LeftTablet) → those ++ t ∷ [] ≡ [] → ⊥
is_some_left [] t e = cc
is_some_left (l ∷ those) t e = cc

-- as code has them
pub no_items : (ls : List code.LeftTablet) → all_left_view ls ≡ [] → ls ≡ []
no_items [] e = refl
no_items (l ∷ ls) e = cc
