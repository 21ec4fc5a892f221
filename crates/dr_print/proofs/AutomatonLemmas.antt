-- The text of an automaton, piece by piece.
use Rattle.std.specs.Prelude.{◌≡◌, ◌<◌, ◌≤◌, ℕ, zero, suc, ◌+◌, ◌-◌, List, [], ◌∷◌, ◌++◌, length, map, take, drop, get_or, Option, Some, All, String, string_bytes}
use Rattle.std.specs.List.{join_with_byte, flat_map, cons_option}
use Rattle.std.specs.declared.alloc.Global.{Global}
use Rattle.std.proofs.Common.{refl, sym, ap, ◌∙◌, arith, subst, add-one, append_assoc, append-nil}
use Rattle.std.proofs.lemmas.List.{drop_more, take_all, length-map, map-append}
use Rattle.std.proofs.lemmas.Option.{slice_get-get_or}
use denote.Ref.{Bor}
use Rattle.dr_meaning.specs.Path.{Step, Leaf, max_repetition, paths_of_leaves}
use Rattle.dr_meaning.specs.Automaton.{leaf_name, target_name, transition, transition_line, counting, leaf_lines, automaton_lines, automaton_text}
use Rattle.dr_meaning.specs.Fsm.{leaves_at}
use Rattle.dr_nested.specs.PathView.{path_view}
use Rattle.dr_nested.specs.declared.path.Path.{Path}
use Rattle.dr_fsm.specs.declared.automaton.Automaton.{Automaton}
use Rattle.dr_fsm.specs.Tables.{paths_at}
use Rattle.dr_fsm.specs.Automata.{IsAutomatonOf}
use Rattle.dr_fsm.proofs.RowLemmas.{read_map}
use Rattle.dr_fsm.proofs.SelectionLemmas.{paths_of_leaves as selected_paths}
use Rattle.dr_print.specs.Transitions.{lent_leaf, lent_leaves, dotted, line_to}

-- ---- texts that grow

-- a piece that was still to come
grown : (whole mid new p rest : List ℕ) → new ≡ mid ++ p → mid ++ (p ++ rest) ≡ whole → new ++ rest ≡ whole
grown whole mid new p rest e h = ap (λ (x : List ℕ). x ++ rest) e ∙ append_assoc mid p rest ∙ h

-- nothing is still to come
full : (whole new rest : List ℕ) → rest ≡ [] → new ++ rest ≡ whole → new ≡ whole
full whole new rest e h = sym (append-nil new) ∙ ap (λ (x : List ℕ). new ++ x) (sym e) ∙ h

-- ---- names

-- the names from this one on are still to come
abbrev pub Dotted : List (String Global) → ℕ → List ℕ → List ℕ → Type 0
Dotted names i old new = new ++ dotted (map string_bytes (drop i names)) ≡ old ++ dotted (map string_bytes names)

first_and_dotted : (n : List ℕ) (ns : List (List ℕ)) → join_with_byte 46 (n ∷ ns) ≡ n ++ dotted ns
first_and_dotted n [] = sym (append-nil n)
first_and_dotted n (m ∷ ns) = ap (λ (x : List ℕ). n ++ (46 ∷ x)) (first_and_dotted m ns)

pub name_joined : (names lent : List (String Global)) (n : String Global) (old mid new : List ℕ) → lent ≡ names → 1 ≤ length lent → n ≡ get_or lent 0 n → mid ≡ old ++ string_bytes n
    → new ≡ mid ++ dotted (map string_bytes (take (length lent - 1) (drop 1 lent))) → new ≡ old ++ join_with_byte 46 (map string_bytes names)
name_joined names [] n old mid new same h g e f = absurd (omega (arith, h))
name_joined names (m ∷ ms) n old mid new same h g e f =
    let rest = dotted (map string_bytes ms) in
    let past : length ms ≤ length (m ∷ ms) - 1 = omega arith in
    f ∙ ap (λ (ns : List (String Global)). mid ++ dotted (map string_bytes ns)) (take_all (length (m ∷ ms) - 1) ms past) ∙ ap (λ (x : List ℕ). x ++ rest) e ∙ append_assoc old (string_bytes n) rest ∙ ap (λ (x : String Global). old ++ (string_bytes x ++ rest)) g
    ∙ ap (λ (x : List ℕ). old ++ x) (sym (first_and_dotted (string_bytes m) (map string_bytes ms)))
    ∙ ap (λ (ns : List (String Global)). old ++ join_with_byte 46 (map string_bytes ns)) same

-- ---- targets

-- the leaf at this place
pub target_at : (ps : List (Bor Path)) (i : ℕ) (p : Bor Path) → i < length ps → p ≡ get_or ps i p → target_name (lent_leaves ps) (Some i) ≡ leaf_name (lent_leaf p)
target_at [] i p h e = absurd (omega (arith, h))
target_at (q ∷ ps) zero p h e = ap (λ (r : Bor Path). leaf_name (lent_leaf r)) (sym e)
target_at (q ∷ ps) (suc i) p h e = target_at ps i p (omega (arith, h)) e

-- no leaf is there
pub target_past : (ps : List (Bor Path)) (i : ℕ) → length ps ≤ i → target_name (lent_leaves ps) (Some i) ≡ []
target_past [] i h = refl
target_past (q ∷ ps) zero h = absurd (omega (arith, h))
target_past (q ∷ ps) (suc i) h = target_past ps i (omega (arith, h))

-- ---- the levels of a leaf

-- the lines of levels k to m
abbrev lines_from : List Leaf → Leaf → ℕ → ℕ → ℕ → List ℕ
lines_from ls f i k m = flat_map (transition_line ls f i) (counting k (suc m - k))

lines_more : (ls : List Leaf) (f : Leaf) (i k m : ℕ) → k ≤ m → lines_from ls f i k m ≡ transition_line ls f i k ++ lines_from ls f i (k + 1) m
lines_more ls f i k m h =
    let n : suc m - k ≡ suc (suc m - (k + 1)) = omega (arith, h) in
    ap (λ (j : ℕ). flat_map (transition_line ls f i) (counting k j)) n
    ∙ ap (λ (j : ℕ). transition_line ls f i k ++ flat_map (transition_line ls f i) (counting j (suc m - (k + 1)))) (sym (add-one k))

lines_end : (ls : List Leaf) (f : Leaf) (i k m : ℕ) → m < k → lines_from ls f i k m ≡ []
lines_end ls f i k m h =
    let n : suc m - k ≡ 0 = omega (arith, h) in
    ap (λ (j : ℕ). flat_map (transition_line ls f i) (counting k j)) n

-- the levels from this one on are still to come
abbrev pub Levels : List Leaf → Leaf → ℕ → ℕ → ℕ → List ℕ → List ℕ → Type 0
Levels ls f i m k old new = new ++ lines_from ls f i k m ≡ old ++ lines_from ls f i 0 m

pub one_level : (ls : List Leaf) (f : Leaf) (i m k : ℕ) (t : Option ℕ) (old mid new : List ℕ) → k ≤ m → t ≡ transition (paths_of_leaves ls) i k → new ≡ mid ++ line_to ls f k t → Levels ls f i m k old mid → Levels ls f i m (k + 1) old new
one_level ls f i m k t old mid new h g e d =
    grown (old ++ lines_from ls f i 0 m) mid new (transition_line ls f i k) (lines_from ls f i (k + 1) m)
    (e ∙ ap (λ (s : Option ℕ). mid ++ line_to ls f k s) g)
    (ap (λ (x : List ℕ). mid ++ x) (sym (lines_more ls f i k m h)) ∙ d)

pub all_levels : (ls : List Leaf) (f : Leaf) (i k : ℕ) (old new : List ℕ) → max_repetition f.path < k → Levels ls f i (max_repetition f.path) k old new → new ≡ old ++ leaf_lines ls f i
all_levels ls f i k old new h d =
    let m = max_repetition f.path in
    let whole : suc m - 0 ≡ suc m = omega arith in
    full (old ++ lines_from ls f i 0 m) new (lines_from ls f i k m) (lines_end ls f i k m h) d
    ∙ ap (λ (j : ℕ). old ++ flat_map (transition_line ls f i) (counting 0 j)) whole

-- ---- the leaves

-- the leaves from this one on are still to come
abbrev pub Leaves : List (Bor Path) → ℕ → List ℕ → List ℕ → Type 0
Leaves ps i old new = new ++ automaton_lines (lent_leaves ps) i (drop i (lent_leaves ps)) ≡ old ++ automaton_text (lent_leaves ps)

pub no_leaves : (ps : List (Bor Path)) (old : List ℕ) → Leaves ps 0 old old
unfolding automaton_text
no_leaves ps old = refl

pub one_leaf : (ps : List (Bor Path)) (i : ℕ) (p : Bor Path) (old mid new : List ℕ) → i < length ps → p ≡ get_or ps i p → new ≡ mid ++ leaf_lines (lent_leaves ps) (lent_leaf p) i → Leaves ps i old mid → Leaves ps (i + 1) old new
one_leaf ps i p old mid new h g e d =
    let ls = lent_leaves ps in
    let there : i < length ls = omega (arith, length-map ps lent_leaf, h) in
    grown (old ++ automaton_text ls) mid new (leaf_lines ls (lent_leaf p) i) (automaton_lines ls (i + 1) (drop (i + 1) ls)) e
    (ap (λ (j : ℕ). mid ++ (leaf_lines ls (lent_leaf p) i ++ automaton_lines ls j (drop (i + 1) ls))) (add-one i)
    ∙ ap (λ (fs : List Leaf). mid ++ automaton_lines ls i fs) (ap (λ (f : Leaf). f ∷ drop (i + 1) ls) (read_map lent_leaf ps i p (lent_leaf p) h g) ∙ sym (drop_more ls i (lent_leaf p) there))
    ∙ d)

-- ---- the leaves of a selection

-- the leaves at the places from this one on are still to come
abbrev pub Taken : List Path → List ℕ → ℕ → List (Bor Path) → Type 0
Taken fields places i ps = lent_leaves ps ++ leaves_at (map path_view fields) (drop i places) ≡ leaves_at (map path_view fields) places

pub one_taken : (fields : List Path) (places : List ℕ) (i : ℕ) (p : Path) (b : Bor Path) (old new : List (Bor Path)) → i < length places → get_or places i 0 < length fields → p ≡ get_or fields (get_or places i 0) p → b.now ≡ p → new ≡ old ++ b ∷ []
    → Taken fields places i old → Taken fields places (i + 1) new
one_taken fields places i p b old new h w g s e d =
    let ls = map path_view fields in
    let there : get_or places i 0 < length ls = omega (arith, length-map fields path_view, w) in
    let rest = leaves_at ls (drop (i + 1) places) in
    ap (λ (ps : List (Bor Path)). lent_leaves ps ++ rest) e
    ∙ ap (λ (fs : List Leaf). fs ++ rest) (map-append lent_leaf old (b ∷ []))
    ∙ append_assoc (lent_leaves old) (lent_leaf b ∷ []) rest
    ∙ ap (λ (f : Leaf). lent_leaves old ++ f ∷ rest) (ap path_view s ∙ read_map path_view fields (get_or places i 0) p (path_view p) w g)
    ∙ ap (λ (o : Option Leaf). lent_leaves old ++ cons_option o rest) (sym (slice_get-get_or ls (get_or places i 0) (path_view p) there))
    ∙ ap (λ (is : List ℕ). lent_leaves old ++ leaves_at ls is) (sym (drop_more places i 0 h))
    ∙ d

-- ---- the automaton's order

each_path : (fields : List Path) → map (λ (l : Leaf). l.path) (map path_view fields) ≡ map (λ (p : Path). (path_view p).path) fields
each_path [] = refl
each_path (p ∷ fields) = ap (λ (ps : List (List Step)). (path_view p).path ∷ ps) (each_path fields)

all_there : (fields : List Path) (places : List ℕ) → All (λ (i : ℕ). i < length fields) places → All (λ (i : ℕ). i < length (map path_view fields)) places
all_there fields places w = subst (λ (n : ℕ). All (λ (i : ℕ). i < n) places) (sym (length-map fields path_view)) w

-- leaves that were taken have the paths of the automaton's order
pub same_paths : (fields : List Path) (places : List ℕ) (ls : List Leaf) → All (λ (i : ℕ). i < length fields) places → ls ≡ leaves_at (map path_view fields) places
    → paths_of_leaves ls ≡ paths_at (map (λ (p : Path). (path_view p).path) fields) places
same_paths fields places ls w e =
    ap paths_of_leaves e ∙ selected_paths (map path_view fields) places (all_there fields places w) ∙ ap (λ (F : List (List Step)). paths_at F places) (each_path fields)

pub automaton_of_leaves : (a : Automaton) (fields : List Path) (places : List ℕ) (ls : List Leaf) → All (λ (i : ℕ). i < length fields) places → ls ≡ leaves_at (map path_view fields) places
    → IsAutomatonOf a (paths_at (map (λ (p : Path). (path_view p).path) fields) places) → IsAutomatonOf a (paths_of_leaves ls)
automaton_of_leaves a fields places ls w e h = subst (λ (F : List (List Step)). IsAutomatonOf a F) (sym (same_paths fields places ls w e)) h

-- there are as many as places
pub as_many : (fields : List Path) (places : List ℕ) (ls : List Leaf) → All (λ (i : ℕ). i < length fields) places → ls ≡ leaves_at (map path_view fields) places → length ls ≡ length places
as_many fields places ls w e =
    sym (length-map ls (λ (l : Leaf). l.path)) ∙ ap length (same_paths fields places ls w e) ∙ length-map places (λ (i : ℕ). get_or (map (λ (p : Path). (path_view p).path) fields) i [])
