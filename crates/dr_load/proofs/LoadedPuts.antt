-- What files hold behind puts: where all puts at a path put the same bytes, and there is one, it holds these.
use Rattle.std.specs.Prelude.{◌≡◌, ℕ, zero, suc, ◌+◌, ◌<◌, ◌≤◌, List, [], ◌∷◌, ◌++◌, map, length, bytes_eq, Bool, true, false, if◌then◌else◌, Option, Some, None, ◌⊎◌}
use Rattle.std.proofs.Common.{arith, refl, sym, ap, ◌∙◌, true≢false, inl, inr}
use Rattle.std.proofs.lemmas.Slice.Eq.{bytes_eq-Decides}
use Rattle.dr_meaning.specs.Record.{Node}
use Rattle.dr_formats.specs.Loading.{Plan, Put, tablet_puts, puts_from, put_at}
use Rattle.dr_formats.specs.Tablets.{placement, tablet_path, copy_paths_from}
use Rattle.dr_formats.specs.Writing.{file_bytes}
use Rattle.dr_formats.proofs.TabletLemmas.{placement_is_leaf, paths_differ}
use Rattle.dr_outside.specs.Link.{Files}
use Rattle.dr_reading.specs.Scan.{copies_from}
use Rattle.dr_load.specs.Puts.{with_file, after_puts}
use Rattle.dr_load.specs.Loaded.{IsApart, CopiesHold}
use Rattle.dr_meaning.specs.Lists.{nth_text}

-- ---- puts at one path

-- all puts at this path put these bytes
abbrev pub AllPut : List ℕ → List ℕ → List Put → Type 0
AllPut path bytes [] = Unit {0}
AllPut path bytes (q ∷ qs) = (path ≡ q.path → q.bytes ≡ bytes) × AllPut path bytes qs

-- one of the puts is at this path
abbrev pub SomePut : List ℕ → List Put → Type 0
SomePut path [] = ⊥
SomePut path (q ∷ qs) = (path ≡ q.path) ⊎ SomePut path qs

-- the path has these bytes, or is still to be put
abbrev IsPending : List ℕ → List ℕ → Files → List Put → Type 0
IsPending path bytes files qs = (files path ≡ Some bytes) ⊎ SomePut path qs

put_first : (q : Put) (qs : List Put) (files : Files) (path bytes : List ℕ) (b : Bool) → bytes_eq path q.path ≡ b → (path ≡ q.path → q.bytes ≡ bytes) → IsPending path bytes files (q ∷ qs) → IsPending path bytes (with_file files q) qs
put_first q qs files path bytes true e a h =
    inl (ap (λ (c : Bool). if c then Some q.bytes else files path) e ∙ ap (λ (x : List ℕ). Some x) (a ((bytes_eq-Decides path q.path).0 e)))
put_first q qs files path bytes false e a (inl h) = inl (ap (λ (c : Bool). if c then Some q.bytes else files path) e ∙ h)
put_first q qs files path bytes false e a (inr (inl k)) = absurd (true≢false (sym ((bytes_eq-Decides path q.path).1 k) ∙ e))
put_first q qs files path bytes false e a (inr (inr k)) = inr k

pub put_there : (qs : List Put) (files : Files) (path bytes : List ℕ) → AllPut path bytes qs → IsPending path bytes files qs → after_puts qs files path ≡ Some bytes
put_there [] files path bytes a (inl h) = h
put_there [] files path bytes a (inr h) = absurd h
put_there (q ∷ qs) files path bytes a h = put_there qs (with_file files q) path bytes a.1 (put_first q qs files path bytes (bytes_eq path q.path) refl a.0 h)

pub all_append : (path bytes : List ℕ) (ps qs : List Put) → AllPut path bytes ps → AllPut path bytes qs → AllPut path bytes (ps ++ qs)
all_append path bytes [] qs a b = b
all_append path bytes (p ∷ ps) qs a b = (a.0, all_append path bytes ps qs a.1 b)

pub some_front : (path : List ℕ) (ps qs : List Put) → SomePut path ps → SomePut path (ps ++ qs)
some_front path [] qs h = absurd h
some_front path (p ∷ ps) qs (inl h) = inl h
some_front path (p ∷ ps) qs (inr h) = inr (some_front path ps qs h)

pub some_back : (path : List ℕ) (ps qs : List Put) → SomePut path qs → SomePut path (ps ++ qs)
some_back path [] qs h = h
some_back path (p ∷ ps) qs h = inr (some_back path ps qs h)

-- ---- puts of tablets

-- these tablets, the first of which has this number, have these files, each by its number
abbrev pub AreFilesBy : Plan → (ℕ → List ℕ) → ℕ → List (List Node) → Type 0
AreFilesBy p file k [] = Unit {0}
AreFilesBy p file k (t ∷ ts) = (file k ≡ file_bytes p.form p.schema t) × AreFilesBy p file (suc k) ts

abbrev put_of : List ℕ → List ℕ → Put
put_of bytes path = record { path = path; bytes = bytes }

-- the puts of one tablet: at a tablet's path there is its file
tablet_all : (directory : List ℕ) (i k : ℕ) (file : ℕ → List ℕ) (bytes : List ℕ) (directories : List (List ℕ)) (j n : ℕ) → i < 1000000 → k < 1000000 → file k ≡ bytes
    → AllPut (tablet_path directory i) (file i) (map (put_of bytes) (copy_paths_from directories k j n))
tablet_all directory i k file bytes directories j zero hi hk e = tt
tablet_all directory i k file bytes directories j (suc n) hi hk e =
    (λ h. sym e ∙ ap file (sym (paths_differ directory (nth_text directories (placement (length directories) k j)) i k hi hk h).0), tablet_all directory i k file bytes directories (suc j) n hi hk e)

tablets_all : (p : Plan) (directory : List ℕ) (i k : ℕ) (file : ℕ → List ℕ) (ts : List (List Node)) → i < 1000000 → k + length ts ≤ 1000000 → AreFilesBy p file k ts
    → AllPut (tablet_path directory i) (file i) (puts_from p k ts)
tablets_all p directory i k file [] hi hk a = tt
tablets_all p directory i k file (t ∷ ts) hi hk a =
    all_append (tablet_path directory i) (file i) (tablet_puts p k t) (puts_from p (suc k) ts)
    (tablet_all directory i k file (file_bytes p.form p.schema t) p.directories 0 p.copies hi (omega (arith, hk)) a.0)
    (tablets_all p directory i (suc k) file ts hi (omega (arith, hk)) a.1)

-- the put of a table file that lies apart
table_all : (directories : List (List ℕ)) (table : Option (List ℕ)) (text bytes : List ℕ) (d i : ℕ) → IsApart directories table → d < length directories → i < 4096 → AllPut (tablet_path (nth_text directories d) i) bytes (put_at table text)
table_all directories None text bytes d i a hd hi = tt
table_all directories (Some path) text bytes d i a hd hi = (λ h. absurd (a d i hd hi (sym h)), tt)

-- at each tablet's path there is its file, in all puts of a table
pub whole_all : (p : Plan) (file : ℕ → List ℕ) (ts : List (List Node)) (text : List ℕ) (d i : ℕ) → IsApart p.directories p.table → d < length p.directories → i < 4096 → length ts ≤ 4096 → AreFilesBy p file 0 ts
    → AllPut (tablet_path (nth_text p.directories d) i) (file i) (puts_from p 0 ts ++ put_at p.table text)
whole_all p file ts text d i a hd hi hk f =
    all_append (tablet_path (nth_text p.directories d) i) (file i) (puts_from p 0 ts) (put_at p.table text)
    (tablets_all p (nth_text p.directories d) i 0 file ts (omega (arith, hi)) (omega (arith, hk)) f)
    (table_all p.directories p.table text (file i) d i a hd hi)

-- ---- the copies of tablets

-- these files hold the file of each tablet, at each of its paths where it was put
abbrev pub HoldTablets : Plan → (ℕ → List ℕ) → List Put → Files → Type 0
HoldTablets p file ps files = (d i : ℕ) → d < length p.directories → i < 4096 → SomePut (tablet_path (nth_text p.directories d) i) ps → files (tablet_path (nth_text p.directories d) i) ≡ Some (file i)

pub copies_hold : (p : Plan) (file : ℕ → List ℕ) (ps : List Put) (files : Files) (bytes : List ℕ) (k j n : ℕ) → 0 < length p.directories → k < 4096 → file k ≡ bytes → HoldTablets p file ps files
    → ((path : List ℕ) → SomePut path (map (put_of bytes) (copy_paths_from p.directories k j n)) → SomePut path ps) → CopiesHold files bytes (copies_from p.directories k j n)
copies_hold p file ps files bytes k j zero hd hk e h f = tt
copies_hold p file ps files bytes k j (suc n) hd hk e h f =
    let d : ℕ = placement (length p.directories) k j in (
      h d k (placement_is_leaf (length p.directories) k j hd) hk (f (tablet_path (nth_text p.directories d) k) (inl refl)) ∙ ap (λ (x : List ℕ). Some x) e,
      copies_hold p file ps files bytes k (suc j) n hd hk e h (λ path s. f path (inr s)),
    )
