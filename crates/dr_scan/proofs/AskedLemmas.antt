-- What the link is asked for, leaf by leaf.
use Rattle.std.proofs.Common.{◌≡◌, ℕ, zero, suc, List, [], ◌∷◌, ◌++◌, Bool, true, false, ◌&&◌, ◌||◌, Option, Some, None, refl, sym, ap, ◌∙◌, subst}
use Rattle.std.specs.Prelude.{bytes_eq}
use Rattle.std.specs.List.{list_any, flat_map, slice_get}
use Rattle.std.proofs.lemmas.List.{append-nil}
use Rattle.std.proofs.lemmas.List.Concat.{flat_map-append}
use Rattle.std.proofs.lemmas.List.Folds.{list_any-append}
use Rattle.dr_meaning.specs.Path.{Leaf}
use Rattle.dr_formats.specs.Lacking.{leaf_read}
use Rattle.dr_formats.specs.File.{Footer, footer_of, leaf_source, leaves_read}
use Rattle.dr_formats.specs.Opening.{Range, range, is_inside, end_ranges, footer_ranges, leaf_ranges, chunk_ranges, reader_ranges}
use Rattle.dr_outside.specs.Link.{Request, size_of, bytes_of}
use Rattle.dr_outside.specs.Telling.{AsksOnly}
use Rattle.dr_chunk.specs.Ranges.{is_read_inside}
use Rattle.dr_chunk.proofs.AskLemmas.{asks_then}
use Rattle.dr_file.specs.Asking.{is_for_path, is_request_for}
use Rattle.dr_file.proofs.AskLemmas.{asks_weaker}

and_weaker : (a b c : Bool) → (b ≡ true → c ≡ true) → (a && b) ≡ true → (a && c) ≡ true
and_weaker true b c f h = f h
and_weaker false b c f h = h

or_later : (a b : Bool) → b ≡ true → (a || b) ≡ true
or_later true b h = refl
or_later false b h = h

any_first : (t : Range → Bool) (xs ys : List Range) → list_any t xs ≡ true → list_any t (xs ++ ys) ≡ true
any_first t xs ys h = list_any-append t xs ys ∙ ap (λ b. b || list_any t ys) h

any_later : (t : Range → Bool) (xs ys : List Range) → list_any t ys ≡ true → list_any t (xs ++ ys) ≡ true
any_later t xs ys h = list_any-append t xs ys ∙ or_later (list_any t xs) (list_any t ys) h

-- inside the chunks that are read for one leaf is inside those that are read for all
any_leaf : (t : Range → Bool) (f : Footer) (F : List Leaf) (i : ℕ) (l : Leaf) → slice_get F i ≡ Some l → list_any t (flat_map (leaf_ranges f) (leaves_read f (l ∷ []))) ≡ true
    → list_any t (flat_map (leaf_ranges f) (leaves_read f F)) ≡ true
any_leaf t f [] i l e h = let no : None ≡ Some l = e in cc
any_leaf t f (m ∷ F) zero l e h =
    let is : Some m ≡ Some l = e in
    let same : l ≡ m = cc in
    let own : List Leaf = leaf_read m (leaf_source f m) in
    let one : list_any t (flat_map (leaf_ranges f) (own ++ [])) ≡ true = subst (λ (x : Leaf). list_any t (flat_map (leaf_ranges f) (leaves_read f (x ∷ []))) ≡ true) same h in
    let here : list_any t (flat_map (leaf_ranges f) own) ≡ true = sym (ap (λ (xs : List Leaf). list_any t (flat_map (leaf_ranges f) xs)) (append-nil own)) ∙ one in
    ap (list_any t) (flat_map-append (leaf_ranges f) own (leaves_read f F)) ∙ any_first t (flat_map (leaf_ranges f) own) (flat_map (leaf_ranges f) (leaves_read f F)) here
any_leaf t f (m ∷ F) (suc i) l e h =
    let own : List Leaf = leaf_read m (leaf_source f m) in
    ap (list_any t) (flat_map-append (leaf_ranges f) own (leaves_read f F))
    ∙ any_later t (flat_map (leaf_ranges f) own) (flat_map (leaf_ranges f) (leaves_read f F)) (any_leaf t f F i l e h)

one_leaf : (path : List ℕ) (f : Footer) (F : List Leaf) (i : ℕ) (l : Leaf) → slice_get F i ≡ Some l → (r : Request) → is_read_inside path (flat_map (leaf_ranges f) (leaves_read f (l ∷ []))) r ≡ true
    → is_read_inside path (flat_map (leaf_ranges f) (leaves_read f F)) r ≡ true
one_leaf path f F i l e (size_of p) h = h
one_leaf path f F i l e (bytes_of r) h =
    let t : Range → Bool = is_inside (range r.start r.len) in
    and_weaker (bytes_eq r.path path) (list_any t (flat_map (leaf_ranges f) (leaves_read f (l ∷ [])))) (list_any t (flat_map (leaf_ranges f) (leaves_read f F)))
    (any_leaf t f F i l e) h

pub leaf_asked : (path : List ℕ) (f : Footer) (F : List Leaf) (i : ℕ) (l : Leaf) (before after : Option (List Request)) → slice_get F i ≡ Some l
    → AsksOnly (is_read_inside path (flat_map (leaf_ranges f) (leaves_read f (l ∷ [])))) before after → AsksOnly (is_read_inside path (flat_map (leaf_ranges f) (leaves_read f F))) before after
leaf_asked path f F i l before after e h =
    asks_weaker (is_read_inside path (flat_map (leaf_ranges f) (leaves_read f (l ∷ [])))) (is_read_inside path (flat_map (leaf_ranges f) (leaves_read f F))) before after (one_leaf path f F i l e) h

-- ---- of a file

opening_inside : (path bytes : List ℕ) (F : List Leaf) (r : Request) → is_request_for path (end_ranges bytes ++ footer_ranges bytes) r ≡ true → is_request_for path (reader_ranges bytes F) r ≡ true
opening_inside path bytes F (size_of p) h = h
opening_inside path bytes F (bytes_of r) h =
    let t : Range → Bool = is_inside (range r.start r.len) in
    and_weaker (bytes_eq r.path path) (list_any t (end_ranges bytes ++ footer_ranges bytes)) (list_any t (reader_ranges bytes F))
    (λ k. by_part t (list_any t (end_ranges bytes)) refl (sym (list_any-append t (end_ranges bytes) (footer_ranges bytes)) ∙ k)) h
  where
    by_part : (t : Range → Bool) (b : Bool) → list_any t (end_ranges bytes) ≡ b → (list_any t (end_ranges bytes) || list_any t (footer_ranges bytes)) ≡ true → list_any t (reader_ranges bytes F) ≡ true
    by_part t true e k = any_first t (end_ranges bytes) (footer_ranges bytes ++ chunk_ranges F (footer_of bytes)) e
    by_part t false e k =
        any_later t (end_ranges bytes) (footer_ranges bytes ++ chunk_ranges F (footer_of bytes))
        (any_first t (footer_ranges bytes) (chunk_ranges F (footer_of bytes)) (sym (ap (λ b. b || list_any t (footer_ranges bytes)) e) ∙ k))

-- what opening asks for
pub opening_asked : (path bytes : List ℕ) (F : List Leaf) (before after : Option (List Request)) → AsksOnly (is_request_for path (end_ranges bytes ++ footer_ranges bytes)) before after
    → AsksOnly (is_request_for path (reader_ranges bytes F)) before after
opening_asked path bytes F before after h = asks_weaker (is_request_for path (end_ranges bytes ++ footer_ranges bytes)) (is_request_for path (reader_ranges bytes F)) before after (opening_inside path bytes F) h

chunks_inside : (path bytes : List ℕ) (F : List Leaf) (f : Footer) → footer_of bytes ≡ Some f → (r : Request) → is_read_inside path (flat_map (leaf_ranges f) (leaves_read f F)) r ≡ true → is_request_for path (reader_ranges bytes F) r ≡ true
chunks_inside path bytes F f e (size_of p) h = let no : false ≡ true = h in cc
chunks_inside path bytes F f e (bytes_of r) h =
    let t : Range → Bool = is_inside (range r.start r.len) in
    and_weaker (bytes_eq r.path path) (list_any t (flat_map (leaf_ranges f) (leaves_read f F))) (list_any t (reader_ranges bytes F))
    (λ k. any_later t (end_ranges bytes) (footer_ranges bytes ++ chunk_ranges F (footer_of bytes))
    (any_later t (footer_ranges bytes) (chunk_ranges F (footer_of bytes)) (ap (λ (o : Option Footer). list_any t (chunk_ranges F o)) e ∙ k))) h

-- what the columns ask for, of a file at the same path
columns_asked : (path own bytes : List ℕ) (F : List Leaf) (f : Footer) (before after : Option (List Request)) → own ≡ path → footer_of bytes ≡ Some f → AsksOnly (is_read_inside own (flat_map (leaf_ranges f) (leaves_read f F))) before after
    → AsksOnly (is_request_for path (reader_ranges bytes F)) before after
columns_asked path own bytes F f before after p e h =
    asks_weaker (is_read_inside path (flat_map (leaf_ranges f) (leaves_read f F))) (is_request_for path (reader_ranges bytes F)) before after (chunks_inside path bytes F f e)
    (subst (λ (x : List ℕ). AsksOnly (is_read_inside x (flat_map (leaf_ranges f) (leaves_read f F))) before after) p h)

-- what opening and then the columns ask for
pub file_asked : (path own bytes : List ℕ) (F : List Leaf) (f : Footer) (a b c : Option (List Request)) → own ≡ path → footer_of bytes ≡ Some f → AsksOnly (is_request_for path (end_ranges bytes ++ footer_ranges bytes)) a b
    → AsksOnly (is_read_inside own (flat_map (leaf_ranges f) (leaves_read f F))) b c → AsksOnly (is_request_for path (reader_ranges bytes F)) a c
file_asked path own bytes F f a b c p e h k =
    asks_then (is_request_for path (reader_ranges bytes F)) a b c (opening_asked path bytes F a b h) (columns_asked path own bytes F f b c p e k)

-- whatever is held, both are at the same path
pub columns_there : (path own : List ℕ) (a b c : Option (List Request)) → own ≡ path → AsksOnly (is_for_path path) a b → AsksOnly (is_for_path own) b c → AsksOnly (is_for_path path) a c
columns_there path own a b c p h k = asks_then (is_for_path path) a b c h (subst (λ (x : List ℕ). AsksOnly (is_for_path x) b c) p k)
