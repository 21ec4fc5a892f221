-- Cells whose texts lie in a buffer: looked up, kept when the buffer grows, and put behind it.
use Rattle.std.specs.Prelude.{◌≡◌, ◌≤◌, ℕ, ◌+◌, ◌-◌, List, [], ◌∷◌, ◌++◌, length, map, take, drop, Bool, zero, suc, true, ◌&&◌, Some, if◌then◌else◌, is_ok, Result, Ok, Err}
use Rattle.std.proofs.Common.{refl, ap, ap₂, ◌∙◌, arith, length-append}
use Rattle.std.specs.List.{list_all}
use Rattle.std.specs.Str.{IsUtf8, is_utf8}
use Rattle.std.proofs.lemmas.Str.{is_utf8-from_IsUtf8}
use Rattle.std.proofs.lemmas.Bool.{and_parts, leb-true, le-leb}
use Rattle.std.proofs.Math.ListN.{set}
use Rattle.std.proofs.lemmas.List.{map-set, take-append-le, take_all, drop-append-le, length-drop, map-append}
use Rattle.std.proofs.Math.Seq.{drop-append_seam, drop-append-add}
use Rattle.std.proofs.lemmas.List.Folds.{list_all-append}
use Rattle.dr_meaning.specs.Record.{text_value}
use Rattle.dr_levels.specs.declared.text_place.TextPlace.{TextPlace}
use Rattle.dr_levels.specs.Texts.{bytes_at, is_text, moved}
use Rattle.dr_levels.specs.Columns.{Adds}
use Rattle.dr_memory.specs.declared.NoMemory.{NoMemory}
use Rattle.dr_cells.specs.declared.cell.Cell.{Cell}
use Rattle.dr_cells.specs.Results.{ResultCell, value_cell}
use Rattle.dr_cells.specs.Held.{cell_view, is_cell, moved_cell, cells_in}

-- ---- where the buffer grows

still_there : (bytes more : List ℕ) (p : TextPlace) → p.start + p.length ≤ length bytes → bytes_at (bytes ++ more) p ≡ bytes_at bytes p
still_there bytes more p h =
    let l : length (drop p.start bytes) ≡ length bytes - p.start = length-drop p.start bytes in
    ap (take p.length) (drop-append-le p.start bytes more (omega (arith, h))) ∙ take-append-le p.length (drop p.start bytes) more (omega (arith, h, l))

still_text : (bytes more : List ℕ) (p : TextPlace) → is_text bytes p ≡ true → is_text (bytes ++ more) p ≡ true
still_text bytes more p e =
    let w : p.start + p.length ≤ length bytes = leb-true _ _ (and_parts _ _ e).0 in
    let l : length (bytes ++ more) ≡ length bytes + length more = length-append bytes more in
    ap₂ (λ a b. a && b) (le-leb _ _ (omega (arith, w, l))) (ap is_utf8 (still_there bytes more p w) ∙ (and_parts _ _ e).1)

still_cell : (bytes more : List ℕ) (c : Cell) → is_cell bytes c ≡ true → is_cell (bytes ++ more) c ≡ true
still_cell bytes more Cell.Null e = refl
still_cell bytes more (Cell.Bool b) e = refl
still_cell bytes more (Cell.Int z) e = refl
still_cell bytes more (Cell.Text p) e = still_text bytes more p e
still_cell bytes more (Cell.Count n) e = refl

still_seen : (bytes more : List ℕ) (c : Cell) → is_cell bytes c ≡ true → cell_view (bytes ++ more) c ≡ cell_view bytes c
still_seen bytes more Cell.Null e = refl
still_seen bytes more (Cell.Bool b) e = refl
still_seen bytes more (Cell.Int z) e = refl
still_seen bytes more (Cell.Text p) e = ap (λ t. value_cell (Some (text_value t))) (still_there bytes more p (leb-true _ _ (and_parts _ _ e).0))
still_seen bytes more (Cell.Count n) e = refl

pub still_cells : (bytes more : List ℕ) (cs : List Cell) → list_all (is_cell bytes) cs ≡ true → list_all (is_cell (bytes ++ more)) cs ≡ true
still_cells bytes more [] e = refl
still_cells bytes more (c ∷ cs) e = ap₂ (λ a b. a && b) (still_cell bytes more c (and_parts _ _ e).0) (still_cells bytes more cs (and_parts _ _ e).1)

pub still_all_seen : (bytes more : List ℕ) (cs : List Cell) → list_all (is_cell bytes) cs ≡ true → cells_in (bytes ++ more) cs ≡ cells_in bytes cs
still_all_seen bytes more [] e = refl
still_all_seen bytes more (c ∷ cs) e = ap₂ (λ x (xs : List ResultCell). x ∷ xs) (still_seen bytes more c (and_parts _ _ e).0) (still_all_seen bytes more cs (and_parts _ _ e).1)

-- ---- a text behind the buffer

put_there : (bytes text : List ℕ) (p : TextPlace) → p.start ≡ length bytes → p.length ≡ length text → bytes_at (bytes ++ text) p ≡ text
put_there bytes text p h g =
    ap (λ n. take p.length (drop n (bytes ++ text))) h ∙ ap (take p.length) (drop-append_seam bytes text) ∙ take_all p.length text (omega (arith, g))

put_text : (bytes text : List ℕ) (p : TextPlace) → p.start ≡ length bytes → p.length ≡ length text → IsUtf8 text → is_text (bytes ++ text) p ≡ true
put_text bytes text p h g u =
    let l : length (bytes ++ text) ≡ length bytes + length text = length-append bytes text in
    ap₂ (λ a b. a && b) (le-leb _ _ (omega (arith, h, g, l))) (ap is_utf8 (put_there bytes text p h g) ∙ is_utf8-from_IsUtf8 text u)

pub put_cells : (bytes text : List ℕ) (cs : List Cell) (p : TextPlace) → p.start ≡ length bytes → p.length ≡ length text → IsUtf8 text → list_all (is_cell bytes) cs ≡ true
    → list_all (is_cell (bytes ++ text)) (cs ++ Cell.Text p ∷ []) ≡ true
put_cells bytes text cs p h g u e =
    list_all-append (is_cell (bytes ++ text)) cs (Cell.Text p ∷ []) ∙ ap₂ (λ a b. a && b) (still_cells bytes text cs e) (ap (λ a. a && true) (put_text bytes text p h g u))

pub put_seen : (bytes text : List ℕ) (cs : List Cell) (p : TextPlace) → p.start ≡ length bytes → p.length ≡ length text → list_all (is_cell bytes) cs ≡ true
    → cells_in (bytes ++ text) (cs ++ Cell.Text p ∷ []) ≡ cells_in bytes cs ++ value_cell (Some (text_value text)) ∷ []
put_seen bytes text cs p h g e =
    map-append (cell_view (bytes ++ text)) cs (Cell.Text p ∷ [])
    ∙ ap₂ (λ (xs : List ResultCell) (t : List ℕ). xs ++ value_cell (Some (text_value t)) ∷ []) (still_all_seen bytes text cs e) (put_there bytes text p h g)

-- the cell joined, or it did not
pub put_or_not : {E : Type 0} (r : Result (Unit {0}) E) (bytes text grown : List ℕ) (cs ds : List Cell) (p : TextPlace) → ds ≡ (if is_ok r then cs ++ Cell.Text p ∷ [] else cs) → grown ≡ bytes ++ text
    → p.start ≡ length bytes → p.length ≡ length text → IsUtf8 text → list_all (is_cell bytes) cs ≡ true → list_all (is_cell grown) ds ≡ true
put_or_not (Ok done) bytes text grown cs ds p a b h g u e = ap₂ (λ (bs : List ℕ) (xs : List Cell). list_all (is_cell bs) xs) b a ∙ put_cells bytes text cs p h g u e
put_or_not (Err f) bytes text grown cs ds p a b h g u e = ap₂ (λ (bs : List ℕ) (xs : List Cell). list_all (is_cell bs) xs) b a ∙ still_cells bytes text cs e

-- ---- cells of another buffer, behind this one

moved_there : (bytes more : List ℕ) (p : TextPlace) → bytes_at (bytes ++ more) (moved (length bytes) p) ≡ bytes_at more p
moved_there bytes more p = ap (take p.length) (drop-append-add bytes more p.start)

moved_is_cell : (bytes more : List ℕ) (c : Cell) → is_cell more c ≡ true → is_cell (bytes ++ more) (moved_cell (length bytes) c) ≡ true
moved_is_cell bytes more Cell.Null e = refl
moved_is_cell bytes more (Cell.Bool b) e = refl
moved_is_cell bytes more (Cell.Int z) e = refl
moved_is_cell bytes more (Cell.Text p) e =
    let w : p.start + p.length ≤ length more = leb-true _ _ (and_parts _ _ e).0 in
    let l : length (bytes ++ more) ≡ length bytes + length more = length-append bytes more in
    ap₂ (λ a b. a && b) (le-leb _ _ (omega (arith, w, l))) (ap is_utf8 (moved_there bytes more p) ∙ (and_parts _ _ e).1)
moved_is_cell bytes more (Cell.Count n) e = refl

moved_is_seen : (bytes more : List ℕ) (c : Cell) → cell_view (bytes ++ more) (moved_cell (length bytes) c) ≡ cell_view more c
moved_is_seen bytes more Cell.Null = refl
moved_is_seen bytes more (Cell.Bool b) = refl
moved_is_seen bytes more (Cell.Int z) = refl
moved_is_seen bytes more (Cell.Text p) = ap (λ t. value_cell (Some (text_value t))) (moved_there bytes more p)
moved_is_seen bytes more (Cell.Count n) = refl

moved_cells : (bytes more : List ℕ) (cs : List Cell) → list_all (is_cell more) cs ≡ true → list_all (is_cell (bytes ++ more)) (map (moved_cell (length bytes)) cs) ≡ true
moved_cells bytes more [] e = refl
moved_cells bytes more (c ∷ cs) e = ap₂ (λ a b. a && b) (moved_is_cell bytes more c (and_parts _ _ e).0) (moved_cells bytes more cs (and_parts _ _ e).1)

moved_seen : (bytes more : List ℕ) (cs : List Cell) → cells_in (bytes ++ more) (map (moved_cell (length bytes)) cs) ≡ cells_in more cs
moved_seen bytes more [] = refl
moved_seen bytes more (c ∷ cs) = ap₂ (λ x (xs : List ResultCell). x ∷ xs) (moved_is_seen bytes more c) (moved_seen bytes more cs)

pub joined_cells : (bytes more : List ℕ) (cs ds : List Cell) → list_all (is_cell bytes) cs ≡ true → list_all (is_cell more) ds ≡ true
    → list_all (is_cell (bytes ++ more)) (cs ++ map (moved_cell (length bytes)) ds) ≡ true
joined_cells bytes more cs ds e f =
    list_all-append (is_cell (bytes ++ more)) cs (map (moved_cell (length bytes)) ds) ∙ ap₂ (λ a b. a && b) (still_cells bytes more cs e) (moved_cells bytes more ds f)

pub joined_seen : (bytes more : List ℕ) (cs ds : List Cell) → list_all (is_cell bytes) cs ≡ true
    → cells_in (bytes ++ more) (cs ++ map (moved_cell (length bytes)) ds) ≡ cells_in bytes cs ++ cells_in more ds
joined_seen bytes more cs ds e =
    map-append (cell_view (bytes ++ more)) cs (map (moved_cell (length bytes)) ds)
    ∙ ap₂ (λ (xs ys : List ResultCell). xs ++ ys) (still_all_seen bytes more cs e) (moved_seen bytes more ds)

-- the cells after an attempt to append more
pub all_after : (r : Result (Unit {0}) NoMemory) (bytes more grown : List ℕ) (cs ds now : List Cell) → Adds cs now (map (moved_cell (length bytes)) ds) r → grown ≡ bytes ++ more
    → list_all (is_cell bytes) cs ≡ true → list_all (is_cell more) ds ≡ true → list_all (is_cell grown) now ≡ true
all_after (Ok done) bytes more grown cs ds now a b e f = ap₂ (λ (bs : List ℕ) (xs : List Cell). list_all (is_cell bs) xs) b a ∙ joined_cells bytes more cs ds e f
all_after (Err g) bytes more grown cs ds now a b e f = ap₂ (λ (bs : List ℕ) (xs : List Cell). list_all (is_cell bs) xs) b a ∙ still_cells bytes more cs e

pub seen_after : (r : Result (Unit {0}) NoMemory) (bytes more grown : List ℕ) (cs ds now : List Cell) → Adds cs now (map (moved_cell (length bytes)) ds) r → grown ≡ bytes ++ more
    → list_all (is_cell bytes) cs ≡ true → Adds (cells_in bytes cs) (cells_in grown now) (cells_in more ds) r
seen_after (Ok done) bytes more grown cs ds now a b e = ap₂ cells_in b a ∙ joined_seen bytes more cs ds e
seen_after (Err g) bytes more grown cs ds now a b e = ap₂ cells_in b a ∙ still_all_seen bytes more cs e

-- ---- a cell in the place of another

all_set : (p : Cell → Bool) (cs : List Cell) (k : ℕ) (c : Cell) → p c ≡ true → list_all p cs ≡ true → list_all p (set cs k c) ≡ true
all_set p [] k c h e = refl
all_set p (d ∷ cs) zero c h e = ap₂ (λ a b. a && b) h (and_parts _ _ e).1
all_set p (d ∷ cs) (suc k) c h e = ap₂ (λ a b. a && b) (and_parts _ _ e).0 (all_set p cs k c h (and_parts _ _ e).1)

pub set_cells : (bytes text grown : List ℕ) (cs ds : List Cell) (k : ℕ) (p : TextPlace) → ds ≡ set cs k (Cell.Text p) → grown ≡ bytes ++ text → p.start ≡ length bytes → p.length ≡ length text → IsUtf8 text
    → list_all (is_cell bytes) cs ≡ true → list_all (is_cell grown) ds ≡ true
set_cells bytes text grown cs ds k p d g h i u e =
    ap₂ (λ (bs : List ℕ) (xs : List Cell). list_all (is_cell bs) xs) g d ∙ all_set (is_cell (bytes ++ text)) cs k (Cell.Text p) (put_text bytes text p h i u) (still_cells bytes text cs e)

pub set_seen : (bytes text grown : List ℕ) (cs ds : List Cell) (k : ℕ) (p : TextPlace) → ds ≡ set cs k (Cell.Text p) → grown ≡ bytes ++ text → p.start ≡ length bytes → p.length ≡ length text
    → list_all (is_cell bytes) cs ≡ true → cells_in grown ds ≡ set (cells_in bytes cs) k (value_cell (Some (text_value text)))
set_seen bytes text grown cs ds k p d g h i e =
    ap₂ cells_in g d ∙ map-set (cell_view (bytes ++ text)) cs k (Cell.Text p)
    ∙ ap₂ (λ (xs : List ResultCell) (t : List ℕ). set xs k (value_cell (Some (text_value t)))) (still_all_seen bytes text cs e) (put_there bytes text p h i)

pub set_plain : (bytes : List ℕ) (cs ds : List Cell) (k : ℕ) (c : Cell) → ds ≡ set cs k c → is_cell bytes c ≡ true → list_all (is_cell bytes) cs ≡ true → list_all (is_cell bytes) ds ≡ true
set_plain bytes cs ds k c d h e = ap (list_all (is_cell bytes)) d ∙ all_set (is_cell bytes) cs k c h e
