-- What is asked for when tablets are read, copy by copy.
use Rattle.std.proofs.Common.{◌≡◌, ◌<◌, ℕ, zero, suc, ◌+◌, ◌-◌, List, [], ◌∷◌, ◌++◌, length, Bool, true, false, ◌||◌, Option, Some, None, refl, sym, ap, ◌∙◌, subst, arith}
use Rattle.std.specs.List.{list_any}
use Rattle.std.proofs.lemmas.List.Folds.{list_any-append}
use Rattle.dr_meaning.specs.Path.{Leaf}
use Rattle.dr_formats.specs.Opening.{Range, reader_ranges}
use Rattle.dr_formats.specs.Tablets.{placement}
use Rattle.dr_outside.specs.Link.{Files, LinkShown, Request, Lacks}
use Rattle.dr_outside.specs.Telling.{TellsFile, AsksOnly}
use Rattle.dr_chunk.proofs.AskLemmas.{asks_then}
use Rattle.dr_file.specs.Asking.{is_for_path, is_request_for}
use Rattle.dr_file.proofs.AskLemmas.{asks_nothing, asks_weaker}
use Rattle.dr_reading.specs.Scan.{Copy, copy_in, copies_from, tablets_from}
use Rattle.dr_scan.specs.Asked.{ranges_there, is_for_copy, is_for_tablet, is_for_tablets, is_at_copy, is_at_tablet, is_at_tablets, AsksHeld, AsksForTablets}
use Rattle.dr_scan.proofs.CopyLemmas.{copies_split}

-- ---- one of a list

or_first : (a b : Bool) → a ≡ true → (a || b) ≡ true
or_first true b h = refl
or_first false b h = absurd (cc)

or_later : (a b : Bool) → b ≡ true → (a || b) ≡ true
or_later true b h = refl
or_later false b h = h

any_at : {A : Type 0} (t : A → Bool) (xs ys zs : List A) (x : A) → xs ≡ ys ++ x ∷ zs → t x ≡ true → list_any t xs ≡ true
any_at t xs ys zs x e h = ap (list_any t) e ∙ (list_any-append t ys (x ∷ zs) ∙ or_later (list_any t ys) (list_any t (x ∷ zs)) (or_first (t x) (list_any t zs) h))

-- ---- by what is held

pub held_nothing : (untold : Request → Bool) (test : Files → Request → Bool) (held : Option Files) (a b : Option (List Request)) → b ≡ a → AsksHeld untold test held a b
held_nothing untold test None a b e = asks_nothing untold a b e
held_nothing untold test (Some files) a b e = asks_nothing (test files) a b e

held_weaker : (u v : Request → Bool) (p q : Files → Request → Bool) (held : Option Files) (a b : Option (List Request)) → ((r : Request) → u r ≡ true → v r ≡ true)
    → ((files : Files) (r : Request) → p files r ≡ true → q files r ≡ true) → AsksHeld u p held a b → AsksHeld v q held a b
held_weaker u v p q None a b t f h = asks_weaker u v a b t h
held_weaker u v p q (Some files) a b t f h = asks_weaker (p files) (q files) a b (f files) h

held_then : (untold : Request → Bool) (test : Files → Request → Bool) (held now : Option Files) (a b c : Option (List Request)) → now ≡ held → AsksHeld untold test held a b → AsksHeld untold test now b c → AsksHeld untold test held a c
held_then untold test held now a b c e h k = both held h (subst (λ (x : Option Files). AsksHeld untold test x b c) e k)
  where
    both : (x : Option Files) → AsksHeld untold test x a b → AsksHeld untold test x b c → AsksHeld untold test x a c
    both None h k = asks_then untold a b c h k
    both (Some files) h k = asks_then (test files) a b c h k

-- ---- the file at the path of a copy

-- at its path whatever is held, and by the ranges that may be looked into where the file is there, and where it isn't
pub path_asks : (ranges : Option (List ℕ) → List Range) (held : Option Files) (path own : List ℕ) (a b : Option (List Request)) → path ≡ own → AsksOnly (is_for_path path) a b
    → ((bytes : List ℕ) → TellsFile held path bytes → AsksOnly (is_request_for path (ranges (Some bytes))) a b) → (Lacks held path → AsksOnly (is_request_for path (ranges None)) a b)
    → AsksHeld (is_for_path own) (λ files. is_request_for own (ranges (files own))) held a b
path_asks ranges None path own a b p there h none = subst (λ (x : List ℕ). AsksOnly (is_for_path x) a b) p there
path_asks ranges (Some files) path own a b p there h none = subst (λ (x : List ℕ). AsksOnly (is_request_for x (ranges (files x))) a b) p (go (files path) refl)
  where
    by_held : (o : Option (List ℕ)) → files path ≡ o → AsksOnly (is_request_for path (ranges o)) a b → AsksOnly (is_request_for path (ranges (files path))) a b
    by_held o e k = subst (λ (x : Option (List ℕ)). AsksOnly (is_request_for path (ranges x)) a b) (sym e) k

    go : (o : Option (List ℕ)) → files path ≡ o → AsksOnly (is_request_for path (ranges (files path))) a b
    go None e = by_held None e (none e)
    go (Some bytes) e = by_held (Some bytes) e (h bytes e)

copy_asks : (F : List Leaf) (held : Option Files) (c : Copy) (path : List ℕ) (a b : Option (List Request)) → path ≡ c.path → AsksOnly (is_for_path path) a b
    → ((bytes : List ℕ) → TellsFile held path bytes → AsksOnly (is_request_for path (reader_ranges bytes F)) a b) → (Lacks held path → AsksOnly (is_request_for path []) a b)
    → AsksHeld (λ r. is_at_copy r c) (λ files r. is_for_copy F files r c) held a b
copy_asks F held c path a b p there h none = path_asks (ranges_there F) held path c.path a b p there h none

-- ---- one copy of a tablet, and one tablet of a table

in_tablet : (test : Copy → Bool) (ds : List (List ℕ)) (t n i : ℕ) → i < n → test (copy_in ds t (placement (length ds) t i)) ≡ true → (list_any test (copies_from ds t 0 n) || false) ≡ true
in_tablet test ds t n i l h =
    let k : ℕ = n - suc i in
    or_first (list_any test (copies_from ds t 0 n)) false
    (any_at test (copies_from ds t 0 n) (copies_from ds t 0 i) (copies_from ds t (suc i) k) (copy_in ds t (placement (length ds) t i)) (copies_split ds t 0 i i k n (omega arith) (omega (arith, l))) h)

tablets_split : (ds : List (List ℕ)) (k t i m j n : ℕ) → t + i ≡ m → n ≡ i + suc j → tablets_from ds k t n ≡ tablets_from ds k t i ++ copies_from ds m 0 k ∷ tablets_from ds k (suc m) j
tablets_split ds k t zero m j n e f =
    let q : t ≡ m = omega (arith, e) in
    let one : n ≡ suc j = omega (arith, f) in
    ap (tablets_from ds k t) one ∙ subst (λ (x : ℕ). tablets_from ds k t (suc j) ≡ copies_from ds x 0 k ∷ tablets_from ds k (suc x) j) q refl
tablets_split ds k t (suc i) m j zero e f = absurd (omega (arith, f))
tablets_split ds k t (suc i) m j (suc n) e f = ap (λ ts. copies_from ds t 0 k ∷ ts) (tablets_split ds k (suc t) i m j n (omega (arith, e)) (omega (arith, f)))

in_table : (test : List Copy → Bool) (ds : List (List ℕ)) (k n t : ℕ) → t < n → (test (copies_from ds t 0 k) || false) ≡ true → list_any test (tablets_from ds k 0 n) ≡ true
in_table test ds k n t l h =
    let j : ℕ = n - suc t in
    any_at test (tablets_from ds k 0 n) (tablets_from ds k 0 t) (tablets_from ds k (suc t) j) (copies_from ds t 0 k) (tablets_split ds k 0 t t j n (omega arith) (omega (arith, l)))
    (only (test (copies_from ds t 0 k)) h)
  where
    only : (a : Bool) → (a || false) ≡ true → a ≡ true
    only true h = refl
    only false h = h

-- ---- link by link

-- nothing was asked
pub asks_none : (F : List Leaf) (ts : List (List Copy)) (l now : LinkShown) → now.asked ≡ l.asked → AsksForTablets F ts l now
asks_none F ts l now e = held_nothing (is_at_tablets ts) (is_for_tablets F ts) l.held l.asked now.asked e

-- one copy more
pub copy_step : (F : List Leaf) (l now new : LinkShown) (ds : List (List ℕ)) (t n i : ℕ) (path : List ℕ) → i < n → path ≡ (copy_in ds t (placement (length ds) t i)).path → now.held ≡ l.held
    → AsksForTablets F (copies_from ds t 0 n ∷ []) l now → ((bytes : List ℕ) → TellsFile now.held path bytes → AsksOnly (is_request_for path (reader_ranges bytes F)) now.asked new.asked)
    → (Lacks now.held path → AsksOnly (is_request_for path []) now.asked new.asked) → AsksOnly (is_for_path path) now.asked new.asked → AsksForTablets F (copies_from ds t 0 n ∷ []) l new
copy_step F l now new ds t n i path w p e was h none there =
    let c : Copy = copy_in ds t (placement (length ds) t i) in
    held_then (is_at_tablets (copies_from ds t 0 n ∷ [])) (is_for_tablets F (copies_from ds t 0 n ∷ [])) l.held now.held l.asked now.asked new.asked e was
    (held_weaker (λ r. is_at_copy r c) (is_at_tablets (copies_from ds t 0 n ∷ [])) (λ files r. is_for_copy F files r c) (is_for_tablets F (copies_from ds t 0 n ∷ [])) now.held now.asked new.asked
    (λ r k. in_tablet (is_at_copy r) ds t n i w k) (λ files r k. in_tablet (is_for_copy F files r) ds t n i w k) (copy_asks F now.held c path now.asked new.asked p there h none))

-- one tablet more
pub tablet_step : (F : List Leaf) (l now new : LinkShown) (ds : List (List ℕ)) (k n t : ℕ) → t < n → now.held ≡ l.held → AsksForTablets F (tablets_from ds k 0 n) l now
    → AsksForTablets F (copies_from ds t 0 k ∷ []) now new → AsksForTablets F (tablets_from ds k 0 n) l new
tablet_step F l now new ds k n t w e was h =
    held_then (is_at_tablets (tablets_from ds k 0 n)) (is_for_tablets F (tablets_from ds k 0 n)) l.held now.held l.asked now.asked new.asked e was
    (held_weaker (is_at_tablets (copies_from ds t 0 k ∷ [])) (is_at_tablets (tablets_from ds k 0 n)) (is_for_tablets F (copies_from ds t 0 k ∷ [])) (is_for_tablets F (tablets_from ds k 0 n)) now.held now.asked new.asked
    (λ r g. in_table (is_at_tablet r) ds k n t w g) (λ files r g. in_table (is_for_tablet F files r) ds k n t w g) h)
