-- What a link is asked for, call by call.
use Rattle.std.proofs.Common.{◌≡◌, ◌≢◌, ℕ, ◌+◌, ◌-◌, ◌≤◌, List, [], ◌∷◌, ◌++◌, length, Bool, true, false, refl, sym, ap, ap₂, ◌∙◌, subst, arith}
use Rattle.std.specs.Prelude.{Option, Some, None, Result, Err, ◌&&◌, ◌||◌, bytes_eq, if◌then◌else◌}
use Rattle.std.specs.List.{list_any, list_all}
use Rattle.std.proofs.lemmas.List.{append-nil}
use Rattle.std.proofs.lemmas.Bool.{le-leb, and_parts}
use Rattle.std.proofs.lemmas.List.Folds.{list_any-append}
use Rattle.std.proofs.lemmas.Slice.Eq.{bytes_eq-Decides}
use Rattle.dr_outside.specs.Link.{Request, size_of, bytes_of, with_request}
use Rattle.dr_outside.specs.declared.fault.Fault.{Fault}
use Rattle.dr_formats.specs.Opening.{Range, range, is_inside, end_ranges, footer_ranges}
use Rattle.dr_formats.specs.File.{is_framed, footer_place, footer_length}
use Rattle.dr_outside.specs.Telling.{AsksOnly}
use Rattle.dr_chunk.specs.Ranges.{is_read_inside}
use Rattle.dr_file.specs.Asking.{is_for_path, is_request_for}

-- nothing was asked
pub asks_nothing : (test : Request → Bool) (before after : Option (List Request)) → after ≡ before → AsksOnly test before after
asks_nothing test None after e = tt
asks_nothing test (Some rs) after e = ([], e ∙ ap (λ xs. Some xs) (sym (append-nil rs)), refl)

-- one request was made
pub asks_one : (test : Request → Bool) (r : Request) (before after : Option (List Request)) → test r ≡ true → after ≡ with_request before r → AsksOnly test before after
asks_one test r None after t e = tt
asks_one test r (Some rs) after t e = (r ∷ [], e, ap (λ b. b && true) t)

-- one request was made, or none for want of memory
pub asks_one_at_most : {X : Type 0} (test : Request → Bool) (r : Request) (before after : Option (List Request)) (result : Result X Fault) (fault : Fault) → test r ≡ true → result ≡ Err fault
    → (result ≢ Err Fault.NoMemory → after ≡ with_request before r) → (result ≡ Err Fault.NoMemory → after ≡ before) → AsksOnly test before after
asks_one_at_most test r before after result Fault.Failed t e asked unasked = asks_one test r before after t (asked (λ h. cc))
asks_one_at_most test r before after result Fault.NoMemory t e asked unasked = asks_nothing test before after (unasked e)

same_bytes : (xs : List ℕ) → bytes_eq xs xs ≡ true
same_bytes xs = (bytes_eq-Decides xs xs).1 refl

-- the size of the file at the path may be asked for
pub size_is_asked : (path : List ℕ) (rs : List Range) → is_request_for path rs (size_of path) ≡ true
size_is_asked path rs = same_bytes path

-- both the size and any bytes are asked for at the path
pub size_is_there : (path : List ℕ) → is_for_path path (size_of path) ≡ true
size_is_there path = same_bytes path

pub range_is_there : (path : List ℕ) (a b : ℕ) → is_for_path path (bytes_of (record { path = path; start = a; len = b })) ≡ true
range_is_there path a b = same_bytes path

within_itself : (a b : ℕ) → is_inside (range a b) (range a b) ≡ true
within_itself a b = ap₂ (λ x y. x && y) (le-leb a a (omega arith)) (le-leb (a + b) (a + b) (omega arith))

-- a range may be read where it is one of those
pub range_is_asked : (path : List ℕ) (rs : List Range) (a b : ℕ) → list_any (is_inside (range a b)) rs ≡ true → is_request_for path rs (bytes_of (record { path = path; start = a; len = b })) ≡ true
range_is_asked path rs a b h = ap₂ (λ x y. x && y) (same_bytes path) h

-- where both ends may be read
ends_there : (bytes : List ℕ) → 12 ≤ length bytes → end_ranges bytes ≡ range 0 4 ∷ range (length bytes - 8) 8 ∷ []
ends_there bytes l = ap (λ b. if b then range 0 4 ∷ range (length bytes - 8) 8 ∷ [] else []) (le-leb 12 (length bytes) l)

pub front_is_asked : (path bytes : List ℕ) → 12 ≤ length bytes → is_request_for path (end_ranges bytes) (bytes_of (record { path = path; start = 0; len = 4 })) ≡ true
front_is_asked path bytes l = range_is_asked path (end_ranges bytes) 0 4 (ap (list_any (is_inside (range 0 4))) (ends_there bytes l))

or_true : (a b : Bool) → b ≡ true → (a || (b || false)) ≡ true
or_true true b h = refl
or_true false b h = ap (λ x. x || false) h

pub end_is_asked : (path bytes : List ℕ) (size : ℕ) → 12 ≤ length bytes → size ≡ length bytes → is_request_for path (end_ranges bytes) (bytes_of (record { path = path; start = size - 8; len = 8 })) ≡ true
end_is_asked path bytes size l e =
    let n : ℕ = length bytes - 8 in
    ap (λ k. is_request_for path (end_ranges bytes) (bytes_of (record { path = path; start = k - 8; len = 8 }))) e
    ∙ range_is_asked path (end_ranges bytes) n 8 (ap (list_any (is_inside (range n 8))) (ends_there bytes l) ∙ or_true (is_inside (range n 8) (range 0 4)) (is_inside (range n 8) (range n 8)) (within_itself n 8))

any_more : (t : Range → Bool) (xs ys : List Range) → list_any t xs ≡ true → list_any t (xs ++ ys) ≡ true
any_more t xs ys h = list_any-append t xs ys ∙ ap (λ b. b || list_any t ys) h

and_right : (a b c : Bool) → (b ≡ true → c ≡ true) → (a && b) ≡ true → (a && c) ≡ true
and_right true b c f h = f h
and_right false b c f h = h

-- what may be asked for with some ranges may be with more
more_ranges : (path : List ℕ) (rs ss : List Range) (r : Request) → is_request_for path rs r ≡ true → is_request_for path (rs ++ ss) r ≡ true
more_ranges path rs ss (size_of p) h = h
more_ranges path rs ss (bytes_of r) h = and_right (bytes_eq r.path path) (list_any (is_inside (range r.start r.len)) rs) (list_any (is_inside (range r.start r.len)) (rs ++ ss)) (any_more (is_inside (range r.start r.len)) rs ss) h

all_weaker : (p q : Request → Bool) (rs : List Request) → ((r : Request) → p r ≡ true → q r ≡ true) → list_all p rs ≡ true → list_all q rs ≡ true
all_weaker p q [] f h = refl
all_weaker p q (r ∷ rs) f h = let g = and_parts (p r) (list_all p rs) h in ap₂ (λ x y. x && y) (f r g.0) (all_weaker p q rs f g.1)

-- what is asked for with some ranges is with more
pub asks_weaker : (p q : Request → Bool) (before after : Option (List Request)) → ((r : Request) → p r ≡ true → q r ≡ true) → AsksOnly p before after → AsksOnly q before after
asks_weaker p q None after f h = tt
asks_weaker p q (Some rs) after f h = (h.0, h.1, all_weaker p q h.0 f h.2)

pub asks_with_more : (path : List ℕ) (rs ss : List Range) (before after : Option (List Request)) → AsksOnly (is_request_for path rs) before after → AsksOnly (is_request_for path (rs ++ ss)) before after
asks_with_more path rs ss before after h = asks_weaker (is_request_for path rs) (is_request_for path (rs ++ ss)) before after (more_ranges path rs ss) h

-- bytes of the file at a path are asked for at that path
read_is_there : (path : List ℕ) (rs : List Range) (r : Request) → is_read_inside path rs r ≡ true → is_for_path path r ≡ true
read_is_there path rs (size_of p) h = absurd (cc)
read_is_there path rs (bytes_of r) h = (and_parts (bytes_eq r.path path) (list_any (is_inside (range r.start r.len)) rs) h).0

pub reads_are_there : (path file : List ℕ) (rs : List Range) (before after : Option (List Request)) → file ≡ path → AsksOnly (is_read_inside file rs) before after → AsksOnly (is_for_path path) before after
reads_are_there path file rs before after e h =
    subst (λ (x : List ℕ). AsksOnly (is_for_path x) before after) e (asks_weaker (is_read_inside file rs) (is_for_path file) before after (read_is_there file rs) h)

-- where the footer may be read
footer_there : (bytes : List ℕ) → is_framed bytes ≡ true → footer_ranges bytes ≡ range (footer_place bytes) (footer_length bytes) ∷ []
footer_there bytes f = ap (λ b. if b then range (footer_place bytes) (footer_length bytes) ∷ [] else []) f

or_later : (a b : Bool) → b ≡ true → (a || b) ≡ true
or_later true b h = refl
or_later false b h = h

or_first : (a : Bool) → a ≡ true → (a || false) ≡ true
or_first true h = refl
or_first false h = h

pub footer_is_asked : (path bytes : List ℕ) (place size : ℕ) → is_framed bytes ≡ true → place ≡ footer_place bytes → size ≡ footer_length bytes
    → is_request_for path (end_ranges bytes ++ footer_ranges bytes) (bytes_of (record { path = path; start = place; len = size })) ≡ true
footer_is_asked path bytes place size f p s =
    let t = is_inside (range (footer_place bytes) (footer_length bytes)) in
    ap₂ (λ a b. is_request_for path (end_ranges bytes ++ footer_ranges bytes) (bytes_of (record { path = path; start = a; len = b }))) p s
    ∙ range_is_asked path (end_ranges bytes ++ footer_ranges bytes) (footer_place bytes) (footer_length bytes)
    (list_any-append t (end_ranges bytes) (footer_ranges bytes) ∙ or_later (list_any t (end_ranges bytes)) (list_any t (footer_ranges bytes))
    (ap (list_any t) (footer_there bytes f) ∙ or_first (t (range (footer_place bytes) (footer_length bytes))) (within_itself (footer_place bytes) (footer_length bytes))))
