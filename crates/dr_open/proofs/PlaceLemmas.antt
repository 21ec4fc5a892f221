-- The place of a leaf among the leaves of fields, of which only the first of a name is open.
use Rattle.std.proofs.Common.{◌≡◌, ℕ, suc, ◌+◌, ◌≤◌, List, [], ◌∷◌, ◌++◌, length, map, Bool, refl, sym, ap, ◌∙◌, subst, true, false, true≢false, arith}
use Rattle.std.specs.Prelude.{Option, Some, None, option_map, ◌&&◌, not, if◌then◌else◌, bytes_eq}
use Rattle.std.specs.List.{list_any}
use Rattle.std.proofs.lemmas.Bool.{and_left, and_right, and_parts, or_right, or_left, or_from, not_from_true, le-leb}
use Rattle.std.proofs.lemmas.List.{length-map}
use Rattle.std.proofs.lemmas.Option.{none-some}
use Rattle.std.proofs.lemmas.Slice.Eq.{bytes_eq-Decides}
use Rattle.dr_meaning.specs.Schema.{Repetition, Kind, is_short_name, greatest_depth}
use Rattle.dr_meaning.specs.Path.{Step, Leaf, same_repetition}
use Rattle.dr_formats.specs.FileSchema.{FileFields, no_file_fields, file_field, FileShape, file_leaf, file_group, FileLeaf, leaf_under, leaves_under, shape_leaves_under, within_depth, is_open_name, is_kind, only_if, same_names, same_repetitions, is_leaf_for, place_of}
use Rattle.dr_meta.specs.OneTree.{leaves_of_shape}
use Rattle.dr_meta.proofs.OneTreeLemmas.{shape_count}
use Rattle.dr_open.specs.Places.{behind_leaves}

-- a leaf by its parts
abbrev pub leaf_at : List (List ℕ) → List Step → Kind → Leaf
leaf_at ns p k = record { names = ns; path = p; kind = k }

-- ---- lists of leaves

map_none : (o : Option ℕ) → option_map (λ (i : ℕ). suc i) o ≡ None → o ≡ None
map_none None h = refl
map_none (Some i) h = absurd (none-some (suc i) (sym h))

suc_behind : (n : ℕ) (o : Option ℕ) → option_map (λ (i : ℕ). suc i) (behind_leaves n o) ≡ behind_leaves (suc n) o
suc_behind n None = refl
suc_behind n (Some i) = let e : suc (n + i) ≡ suc n + i = omega arith in ap Some e

pub behind_none : (o : Option ℕ) → behind_leaves 0 o ≡ o
behind_none None = refl
behind_none (Some i) = let e : 0 + i ≡ i = omega arith in ap Some e

pub behind_both : (m n j : ℕ) (o : Option ℕ) → j ≡ m + n → behind_leaves m (behind_leaves n o) ≡ behind_leaves j o
behind_both m n j None q = refl
behind_both m n j (Some i) q = let e : m + (n + i) ≡ j + i = omega (arith, q) in ap Some e

append_step : (b : Bool) (o p q : Option ℕ) (n : ℕ) → (o ≡ None → p ≡ behind_leaves n q) → (if b then Some 0 else option_map (λ (i : ℕ). suc i) o) ≡ None
    → (if b then Some 0 else option_map (λ (i : ℕ). suc i) p) ≡ behind_leaves (suc n) q
append_step true o p q n g h = absurd (none-some 0 (sym h))
append_step false o p q n g h = ap (option_map (λ (i : ℕ). suc i)) (g (map_none o h)) ∙ suc_behind n q

-- a leaf that isn't among the first is behind them
place_behind : (l : Leaf) (xs ys : List FileLeaf) → place_of l xs ≡ None → place_of l (xs ++ ys) ≡ behind_leaves (length xs) (place_of l ys)
place_behind l [] ys h = sym (behind_none (place_of l ys))
place_behind l (f ∷ xs) ys h = append_step (is_leaf_for l f) (place_of l xs) (place_of l (xs ++ ys)) (place_of l ys) (length xs) (λ q. place_behind l xs ys q) h

-- a leaf that isn't among the last is among the first, or nowhere
place_before : (l : Leaf) (xs ys : List FileLeaf) → place_of l ys ≡ None → place_of l (xs ++ ys) ≡ place_of l xs
place_before l [] ys h = h
place_before l (f ∷ xs) ys h = ap (λ (o : Option ℕ). if is_leaf_for l f then Some 0 else option_map (λ (i : ℕ). suc i) o) (place_before l xs ys h)

place_nowhere : (l : Leaf) (g : FileLeaf → FileLeaf) (xs : List FileLeaf) → ((f : FileLeaf) → is_leaf_for l (g f) ≡ false) → place_of l (map g xs) ≡ None
place_nowhere l g [] h = refl
place_nowhere l g (f ∷ xs) h = rw (h f, place_nowhere l g xs h) refl

-- ---- leaves below a field

-- of another name
other_name : (m : List ℕ) (ns : List (List ℕ)) (l : Leaf) (n : List ℕ) (r : Repetition) (b : Bool) (xs : List FileLeaf) → l.names ≡ m ∷ ns → bytes_eq m n ≡ false → place_of l (map (leaf_under n r b) xs) ≡ None
other_name m ns l n r b xs h q = place_nowhere l (leaf_under n r b) xs (λ f. and_left _ _ (and_left _ _ (ap (λ (ms : List (List ℕ)). same_names ms (n ∷ f.names)) h ∙ and_left _ _ q)))

-- a closed one
pub closed : (l : Leaf) (n : List ℕ) (r : Repetition) (b : Bool) (xs : List FileLeaf) → b ≡ false → place_of l (map (leaf_under n r b) xs) ≡ None
closed l n r b xs q = place_nowhere l (leaf_under n r b) xs (λ f. and_right _ _ (ap (λ (b : Bool). is_kind l.kind (only_if b f.kind)) q))

-- of another repetition
pub other_repetition : (ns : List (List ℕ)) (s : Step) (p : List Step) (k : Kind) (n : List ℕ) (r : Repetition) (b : Bool) (xs : List FileLeaf) → same_repetition s.repetition r ≡ false → place_of (leaf_at ns (s ∷ p) k) (map (leaf_under n r b) xs) ≡ None
other_repetition ns s p k n r b xs q = place_nowhere (leaf_at ns (s ∷ p) k) (leaf_under n r b) xs (λ f. and_left _ _ (and_right _ _ (and_left _ _ q)))

-- an open one of the name and the repetition
pub on_the_way : (m : List ℕ) (ns : List (List ℕ)) (s : Step) (p : List Step) (k : Kind) (n : List ℕ) (r : Repetition) (b : Bool) (xs : List FileLeaf) → bytes_eq m n ≡ true → same_repetition s.repetition r ≡ true → b ≡ true
    → place_of (leaf_at (m ∷ ns) (s ∷ p) k) (map (leaf_under n r b) xs) ≡ place_of (leaf_at ns p k) xs
on_the_way m ns s p k n r b [] h g q = refl
on_the_way m ns s p k n r b (f ∷ xs) h g q = rw (h, g, q, on_the_way m ns s p k n r b xs h g q) refl

-- a path that has ended
ended : (l : Leaf) (earlier : List (List ℕ)) (fs : FileFields) → ((n : List ℕ) (r : Repetition) (b : Bool) (f : FileLeaf) → is_leaf_for l (leaf_under n r b f) ≡ false) → place_of l (leaves_under earlier fs) ≡ None
ended l earlier no_file_fields h = refl
ended l earlier (file_field n r s fs) h =
    place_before l (map (leaf_under n r (is_open_name earlier n)) (shape_leaves_under s)) (leaves_under (n ∷ earlier) fs) (ended l (n ∷ earlier) fs h)
    ∙ place_nowhere l (leaf_under n r (is_open_name earlier n)) (shape_leaves_under s) (λ f. h n r (is_open_name earlier n) f)

pub no_names : (p : List Step) (k : Kind) (fs : FileFields) → place_of (leaf_at [] p k) (leaves_under [] fs) ≡ None
no_names p k fs = ended (leaf_at [] p k) [] fs (λ n r b f. refl)

pub no_steps : (ns : List (List ℕ)) (k : Kind) (fs : FileFields) → place_of (leaf_at ns [] k) (leaves_under [] fs) ≡ None
no_steps ns k fs = ended (leaf_at ns [] k) [] fs (λ n r b f. and_left _ _ (and_right _ _ refl))

-- ---- fields of a group

same_bytes : (m n : List ℕ) → bytes_eq m n ≡ true → m ≡ n
same_bytes m n h = (bytes_eq-Decides m n).0 h

name_seen : (m n : List ℕ) (earlier : List (List ℕ)) → bytes_eq m n ≡ true → list_any (bytes_eq m) earlier ≡ true → is_open_name earlier n ≡ false
name_seen m n earlier h q = subst (λ (x : List ℕ). is_open_name earlier x ≡ false) (same_bytes m n h) (and_right _ _ (not_from_true _ q))

-- where a field before has its name, a leaf is nowhere
seen : (m : List ℕ) (ns : List (List ℕ)) (l : Leaf) (earlier : List (List ℕ)) (fs : FileFields) → l.names ≡ m ∷ ns → list_any (bytes_eq m) earlier ≡ true → place_of l (leaves_under earlier fs) ≡ None
seen m ns l earlier no_file_fields h q = refl
seen m ns l earlier (file_field n r s fs) h q =
    place_before l (map (leaf_under n r (is_open_name earlier n)) (shape_leaves_under s)) (leaves_under (n ∷ earlier) fs) (seen m ns l (n ∷ earlier) fs h (or_right (bytes_eq m n) _ q)) ∙ first (bytes_eq m n) refl
  where
    first : (b : Bool) → bytes_eq m n ≡ b → place_of l (map (leaf_under n r (is_open_name earlier n)) (shape_leaves_under s)) ≡ None
    first false w = other_name m ns l n r (is_open_name earlier n) (shape_leaves_under s) h w
    first true w = closed l n r (is_open_name earlier n) (shape_leaves_under s) (name_seen m n earlier w q)

fresh_alike : (m n : List ℕ) (a b : List (List ℕ)) → bytes_eq m n ≡ true → list_any (bytes_eq m) a ≡ false → list_any (bytes_eq m) b ≡ false → is_open_name a n ≡ is_open_name b n
fresh_alike m n a b h q w = subst (λ (x : List ℕ). is_open_name a x ≡ is_open_name b x) (same_bytes m n h) (ap (λ (x : Bool). is_short_name m && not x) (q ∙ sym w))

-- of earlier fields it matters only whether one has the leaf's name
alike : (m : List ℕ) (ns : List (List ℕ)) (l : Leaf) (a b : List (List ℕ)) (fs : FileFields) → l.names ≡ m ∷ ns → list_any (bytes_eq m) a ≡ false → list_any (bytes_eq m) b ≡ false → place_of l (leaves_under a fs) ≡ place_of l (leaves_under b fs)
alike m ns l a b no_file_fields h q w = refl
alike m ns l a b (file_field n r s fs) h q w = by (bytes_eq m n) refl (λ e. alike m ns l (n ∷ a) (n ∷ b) fs h (or_from _ _ e q) (or_from _ _ e w))
  where
    by : (x : Bool) → bytes_eq m n ≡ x → (bytes_eq m n ≡ false → place_of l (leaves_under (n ∷ a) fs) ≡ place_of l (leaves_under (n ∷ b) fs)) → place_of l (leaves_under a (file_field n r s fs)) ≡ place_of l (leaves_under b (file_field n r s fs))
    by true e g =
        place_before l (map (leaf_under n r (is_open_name a n)) (shape_leaves_under s)) (leaves_under (n ∷ a) fs) (seen m ns l (n ∷ a) fs h (or_left _ _ e))
        ∙ (ap (λ (x : Bool). place_of l (map (leaf_under n r x) (shape_leaves_under s))) (fresh_alike m n a b e q w)
        ∙ sym (place_before l (map (leaf_under n r (is_open_name b n)) (shape_leaves_under s)) (leaves_under (n ∷ b) fs) (seen m ns l (n ∷ b) fs h (or_left _ _ e))))
    by false e g =
        place_behind l (map (leaf_under n r (is_open_name a n)) (shape_leaves_under s)) (leaves_under (n ∷ a) fs) (other_name m ns l n r (is_open_name a n) (shape_leaves_under s) h e)
        ∙ (ap (λ (j : ℕ). behind_leaves j (place_of l (leaves_under (n ∷ a) fs))) (length-map (shape_leaves_under s) (leaf_under n r (is_open_name a n)) ∙ sym (length-map (shape_leaves_under s) (leaf_under n r (is_open_name b n))))
        ∙ (ap (behind_leaves (length (map (leaf_under n r (is_open_name b n)) (shape_leaves_under s)))) (g e)
        ∙ sym (place_behind l (map (leaf_under n r (is_open_name b n)) (shape_leaves_under s)) (leaves_under (n ∷ b) fs) (other_name m ns l n r (is_open_name b n) (shape_leaves_under s) h e))))

-- a field of another name is passed
pub field_passed : (m : List ℕ) (ns : List (List ℕ)) (l : Leaf) (n : List ℕ) (r : Repetition) (s : FileShape) (fs : FileFields) → l.names ≡ m ∷ ns → bytes_eq m n ≡ false
    → place_of l (leaves_under [] (file_field n r s fs)) ≡ behind_leaves (leaves_of_shape s) (place_of l (leaves_under [] fs))
field_passed m ns l n r s fs h e =
    place_behind l (map (leaf_under n r (is_open_name [] n)) (shape_leaves_under s)) (leaves_under (n ∷ []) fs) (other_name m ns l n r (is_open_name [] n) (shape_leaves_under s) h e)
    ∙ (ap (λ (j : ℕ). behind_leaves j (place_of l (leaves_under (n ∷ []) fs))) (length-map (shape_leaves_under s) (leaf_under n r (is_open_name [] n)) ∙ shape_count s)
    ∙ ap (behind_leaves (leaves_of_shape s)) (alike m ns l (n ∷ []) [] fs h (or_from _ _ e refl) refl))

-- the first field of the name has the leaf, or none has it
pub field_found : (m : List ℕ) (ns : List (List ℕ)) (l : Leaf) (n : List ℕ) (r : Repetition) (s : FileShape) (fs : FileFields) → l.names ≡ m ∷ ns → bytes_eq m n ≡ true
    → place_of l (leaves_under [] (file_field n r s fs)) ≡ place_of l (map (leaf_under n r (is_open_name [] n)) (shape_leaves_under s))
field_found m ns l n r s fs h e = place_before l (map (leaf_under n r (is_open_name [] n)) (shape_leaves_under s)) (leaves_under (n ∷ []) fs) (seen m ns l (n ∷ []) fs h (or_left _ _ e))

-- ---- the depth

-- as many names as repetitions
abbrev pub Even : List FileLeaf → Type 0
Even [] = Unit {0}
Even (f ∷ fs) = (length f.names ≡ length f.repetitions) × Even fs

even_append : (xs ys : List FileLeaf) → Even xs → Even ys → Even (xs ++ ys)
even_append [] ys h g = g
even_append (f ∷ xs) ys h g = (h.0, even_append xs ys h.1 g)

even_under : (n : List ℕ) (r : Repetition) (b : Bool) (xs : List FileLeaf) → Even xs → Even (map (leaf_under n r b) xs)
even_under n r b [] h = tt
even_under n r b (f ∷ xs) h = (ap (λ (j : ℕ). suc j) h.0, even_under n r b xs h.1)

mutual
  pub even_fields : (earlier : List (List ℕ)) (fs : FileFields) → Even (leaves_under earlier fs)
  even_fields earlier no_file_fields = tt
  even_fields earlier (file_field n r s fs) =
      even_append (map (leaf_under n r (is_open_name earlier n)) (shape_leaves_under s)) (leaves_under (n ∷ earlier) fs) (even_under n r (is_open_name earlier n) (shape_leaves_under s) (even_shape s)) (even_fields (n ∷ earlier) fs)

  even_shape : (s : FileShape) → Even (shape_leaves_under s)
  even_shape (file_leaf t c) = (refl, tt)
  even_shape (file_group fs) = even_fields [] fs

as_long : (p : List Step) (rs : List Repetition) → same_repetitions p rs ≡ true → length p ≡ length rs
as_long [] [] h = refl
as_long [] (r ∷ rs) h = absurd (true≢false (sym h))
as_long (s ∷ p) [] h = absurd (true≢false (sym h))
as_long (s ∷ p) (r ∷ rs) h = ap (λ (j : ℕ). suc j) (as_long p rs (and_parts _ _ h).1)

leaf_within : (l : Leaf) (f : FileLeaf) → length l.path ≤ greatest_depth → length f.names ≡ length f.repetitions → is_leaf_for l (within_depth f) ≡ is_leaf_for l f
leaf_within l f h g = by (same_repetitions l.path f.repetitions) refl
  where
    by : (b : Bool) → same_repetitions l.path f.repetitions ≡ b → is_leaf_for l (within_depth f) ≡ is_leaf_for l f
    by false q = and_left _ _ (and_right _ _ q) ∙ sym (and_left _ _ (and_right _ _ q))
    by true q =
        let w : length f.names ≤ greatest_depth = omega (arith, h, g, as_long l.path f.repetitions q) in
        ap (λ (b : Bool). same_names l.names f.names && same_repetitions l.path f.repetitions && is_kind l.kind (only_if b f.kind)) (le-leb (length f.names) greatest_depth w)

place_within : (l : Leaf) (xs : List FileLeaf) → length l.path ≤ greatest_depth → Even xs → place_of l (map within_depth xs) ≡ place_of l xs
place_within l [] h g = refl
place_within l (f ∷ xs) h g =
    ap (λ (b : Bool). if b then Some 0 else option_map (λ (i : ℕ). suc i) (place_of l (map within_depth xs))) (leaf_within l f h g.0)
    ∙ ap (λ (o : Option ℕ). if is_leaf_for l f then Some 0 else option_map (λ (i : ℕ). suc i) o) (place_within l xs h g.1)

-- a path of at most 32 parts finds its leaf by the open names alone
pub place_in_leaves : (l : Leaf) (fs : FileFields) → length l.path ≤ greatest_depth → place_of l (map within_depth (leaves_under [] fs)) ≡ place_of l (leaves_under [] fs)
place_in_leaves l fs h = place_within l (leaves_under [] fs) h (even_fields [] fs)
