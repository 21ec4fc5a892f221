-- What a keeper holds after puts, and which puts it was asked for.
use Rattle.std.specs.Option.{option_map}
use Rattle.std.specs.Prelude.{◌≡◌, ◌≢◌, ℕ, zero, suc, ◌+◌, ◌-◌, ◌<◌, List, [], ◌∷◌, ◌++◌, map, length, bytes_eq, Bool, true, false, if◌then◌else◌, Option, Some, None, String}
use Rattle.std.proofs.Common.{arith, refl, sym, ap, ◌∙◌, subst, true≢false, append-nil, append_assoc, add-zero, string_bytes, get_or, Global}
use Rattle.std.proofs.lemmas.List.{map-append, length-map}
use Rattle.std.proofs.lemmas.Slice.Eq.{bytes_eq-Decides}
use Rattle.dr_formats.specs.Loading.{Put}
use Rattle.dr_formats.specs.Tablets.{copy_paths_from, placement, tablet_path}
use Rattle.dr_table.proofs.PathLemmas.{directory_at}
use Rattle.dr_outside.specs.declared.fault.Fault.{Fault}
use Rattle.dr_outside.specs.Link.{Files, PutShown, LinkShown, HasFile, SameElsewhere, with_put}
use Rattle.dr_load.specs.Faults.{is_told, of_outside}
use Rattle.dr_load.specs.Puts.{copies_of, copy_path, with_file, after_puts, HoldsPut, HoldsPutElsewhere, shown, put_shown, AsksPuts, HasPut, if_told, HasFailed, BreaksOff}
use Rattle.dr_meaning.specs.Lists.{nth_text}

-- ---- files

holds_one : (before now : Option Files) (path bytes : List ℕ) → HasFile before now path bytes → SameElsewhere before now path → HoldsPut (record { path = path; bytes = bytes } ∷ []) before now
holds_one None now path bytes h s = tt
holds_one (Some f) None path bytes h s = absurd h
holds_one (Some f) (Some g) path bytes h s = λ q. by q (bytes_eq q path) refl
  where
    by : (q : List ℕ) (b : Bool) → bytes_eq q path ≡ b → g q ≡ (if b then Some bytes else f q)
    by q true e = ap g ((bytes_eq-Decides q path).0 e) ∙ h
    by q false e = s q (λ k. absurd (true≢false (sym ((bytes_eq-Decides q path).1 k) ∙ e)))

after_same : (ps : List Put) (f g : Files) → ((q : List ℕ) → f q ≡ g q) → (q : List ℕ) → after_puts ps f q ≡ after_puts ps g q
after_same [] f g h q = h q
after_same (p ∷ ps) f g h q = after_same ps (with_file f p) (with_file g p) (λ r. ap (λ (o : Option (List ℕ)). if bytes_eq r p.path then Some p.bytes else o) (h r)) q

after_append : (ps qs : List Put) (f : Files) (q : List ℕ) → after_puts (ps ++ qs) f q ≡ after_puts qs (after_puts ps f) q
after_append [] qs f q = refl
after_append (p ∷ ps) qs f q = after_append ps qs (with_file f p) q

holds_none : (a b : Option Files) → b ≡ a → HoldsPut [] a b
holds_none None b e = tt
holds_none (Some f) b e = subst (λ o. HoldsPut [] (Some f) o) (sym e) (λ q. refl)

same_holds_elsewhere : (a b : Option Files) (path : List ℕ) → b ≡ a → HoldsPutElsewhere [] path a b
same_holds_elsewhere None b path e = tt
same_holds_elsewhere (Some f) b path e = subst (λ o. HoldsPutElsewhere [] path (Some f) o) (sym e) (λ q n. refl)

-- nothing was done at other paths
holds_elsewhere : (a b : Option Files) (path : List ℕ) → SameElsewhere a b path → HoldsPutElsewhere [] path a b
holds_elsewhere None b path h = tt
holds_elsewhere (Some f) None path h = absurd h
holds_elsewhere (Some f) (Some g) path h = h

pub holds_more : (ps qs : List Put) (a b c : Option Files) → HoldsPut ps a b → HoldsPut qs b c → HoldsPut (ps ++ qs) a c
holds_more ps qs None b c h k = tt
holds_more ps qs (Some f) None c h k = absurd h
holds_more ps qs (Some f) (Some g) None h k = absurd k
holds_more ps qs (Some f) (Some g) (Some m) h k = λ q. k q ∙ after_same qs g (after_puts ps f) h q ∙ sym (after_append ps qs f q)

holds_more_elsewhere : (ps qs : List Put) (path : List ℕ) (a b c : Option Files) → HoldsPut ps a b → HoldsPutElsewhere qs path b c → HoldsPutElsewhere (ps ++ qs) path a c
holds_more_elsewhere ps qs path None b c h k = tt
holds_more_elsewhere ps qs path (Some f) None c h k = absurd h
holds_more_elsewhere ps qs path (Some f) (Some g) None h k = absurd k
holds_more_elsewhere ps qs path (Some f) (Some g) (Some m) h k = λ q n. k q n ∙ after_same qs g (after_puts ps f) h q ∙ sym (after_append ps qs f q)

-- ---- what was asked for

asks_none : (a b : Option (List PutShown)) → b ≡ a → AsksPuts [] a b
asks_none None b e = e
asks_none (Some told) b e = e ∙ ap (λ (x : List PutShown). Some x) (sym (append-nil told))

asks_more : (ps qs : List Put) (a b c : Option (List PutShown)) → AsksPuts ps a b → AsksPuts qs b c → AsksPuts (ps ++ qs) a c
asks_more ps qs a b c h k = k ∙ ap (option_map (λ (told : List PutShown). told ++ shown qs)) h ∙ twice a
  where
    twice : (o : Option (List PutShown)) → option_map (λ (told : List PutShown). told ++ shown qs) (option_map (λ (told : List PutShown). told ++ shown ps) o) ≡ option_map (λ (told : List PutShown). told ++ shown (ps ++ qs)) o
    twice None = refl
    twice (Some told) = ap (λ (x : List PutShown). Some x) (append_assoc told (shown ps) (shown qs) ∙ ap (λ (x : List PutShown). told ++ x) (sym (map-append put_shown ps qs)))

-- ---- puts

pub one_put : (before now : LinkShown) (path bytes : List ℕ) → HasFile before.held now.held path bytes → SameElsewhere before.held now.held path → now.puts ≡ with_put before.puts (record { path = path; bytes = bytes })
    → HasPut (record { path = path; bytes = bytes } ∷ []) before now
one_put before now path bytes h s e = record { files = holds_one before.held now.held path bytes h s; asks = e }

pub nothing_put : (a b : LinkShown) → b.held ≡ a.held → b.puts ≡ a.puts → HasPut [] a b
nothing_put a b h e = record { files = holds_none a.held b.held h; asks = asks_none a.puts b.puts e }

-- memory was wanting before a put: none is told
pub none_failed : (a b : LinkShown) (p : Put) → b.held ≡ a.held → b.puts ≡ a.puts → HasFailed false [] p a b
none_failed a b p h e = record { files = same_holds_elsewhere a.held b.held p.path h; asks = asks_none a.puts b.puts e }

-- a put failed, which is told or not
pub put_failed : (told : Bool) (a b : LinkShown) (p : Put) → SameElsewhere a.held b.held p.path → AsksPuts (if_told told p) a.puts b.puts → HasFailed told [] p a b
put_failed told a b p h e = record { files = holds_elsewhere a.held b.held p.path h; asks = e }

-- what a keeper's own fault tells of the put
pub failed_so : (fault : Fault) (a b : LinkShown) (p : Put) → (fault ≢ Fault.NoMemory → b.puts ≡ with_put a.puts (record { path = p.path; bytes = p.bytes })) → (fault ≡ Fault.NoMemory → b.puts ≡ a.puts)
    → AsksPuts (if_told (is_told (of_outside fault)) p) a.puts b.puts
failed_so Fault.Failed a b p t n = t (λ e. cc)
failed_so Fault.NoMemory a b p t n = asks_none a.puts b.puts (n refl)

pub put_more : (ps qs : List Put) (a b c : LinkShown) → HasPut ps a b → HasPut qs b c → HasPut (ps ++ qs) a c
put_more ps qs a b c h k = record { files = holds_more ps qs a.held b.held c.held h.files k.files; asks = asks_more ps qs a.puts b.puts c.puts h.asks k.asks }

pub fails_behind : (told : Bool) (ps done : List Put) (p : Put) (a b c : LinkShown) → HasPut ps a b → HasFailed told done p b c → HasFailed told (ps ++ done) p a c
fails_behind told ps done p a b c h k = record {
  files = holds_more_elsewhere ps done p.path a.held b.held c.held h.files k.files;
  asks = subst (λ (x : List Put). AsksPuts x a.puts c.puts) (sym (append_assoc ps done (if_told told p))) (asks_more ps (done ++ if_told told p) a.puts b.puts c.puts h.asks k.asks);
}

pub breaks_behind : (told : Bool) (ps qs : List Put) (a b c : LinkShown) → HasPut ps a b → BreaksOff told qs b c → BreaksOff told (ps ++ qs) a c
breaks_behind told ps qs a b c h k = (
  ps ++ k.0,
  k.1,
  k.2,
  ap (λ (x : List Put). ps ++ x) k.3 ∙ sym (append_assoc ps k.0 (k.1 ∷ k.2)),
  fails_behind told ps k.0 k.1 a b c h k.4,
)

-- ---- the copies of a tablet

paths_split : (ds : List (List ℕ)) (t j a b : ℕ) → copy_paths_from ds t j (a + b) ≡ copy_paths_from ds t j a ++ copy_paths_from ds t (j + a) b
paths_split ds t j zero b =
    let z : 0 + b ≡ b = omega arith in
    ap (copy_paths_from ds t j) z ∙ ap (λ (i : ℕ). copy_paths_from ds t i b) (sym (add-zero j))
paths_split ds t j (suc a) b =
    let s : suc a + b ≡ suc (a + b) = omega arith in
    let m : suc j + a ≡ j + suc a = omega arith in
    ap (copy_paths_from ds t j) s ∙ ap (λ (ps : List (List ℕ)). copy_path ds t j ∷ ps) (paths_split ds t (suc j) a b ∙ ap (λ (i : ℕ). copy_paths_from ds t (suc j) a ++ copy_paths_from ds t i b) m)

abbrev put_of : List ℕ → List ℕ → Put
put_of bytes path = record { path = path; bytes = bytes }

-- the copies before one, that one, and those behind it
pub copies_split : (ds : List (List ℕ)) (copies copy t : ℕ) (bytes : List ℕ) → copy < copies
    → copies_of ds copies t bytes ≡ copies_of ds copy t bytes ++ put_of bytes (copy_path ds t copy) ∷ map (put_of bytes) (copy_paths_from ds t (suc copy) (copies - suc copy))
copies_split ds copies copy t bytes h =
    let e : copies ≡ copy + suc (copies - suc copy) = omega arith in
    let z : 0 + copy ≡ copy = omega arith in
    ap (λ (n : ℕ). map (put_of bytes) (copy_paths_from ds t 0 n)) e
    ∙ ap (map (put_of bytes)) (paths_split ds t 0 copy (suc (copies - suc copy)))
    ∙ map-append (put_of bytes) (copy_paths_from ds t 0 copy) (copy_paths_from ds t (0 + copy) (suc (copies - suc copy)))
    ∙ ap (λ (i : ℕ). copies_of ds copy t bytes ++ map (put_of bytes) (copy_paths_from ds t i (suc (copies - suc copy)))) z

-- one copy more
pub copies_more : (ds : List (List ℕ)) (copy t : ℕ) (bytes : List ℕ) → copies_of ds (copy + 1) t bytes ≡ copies_of ds copy t bytes ++ put_of bytes (copy_path ds t copy) ∷ []
copies_more ds copy t bytes =
    let z : copy + 1 - suc copy ≡ 0 = omega arith in
    copies_split ds (copy + 1) copy t bytes (omega arith)
    ∙ ap (λ (n : ℕ). copies_of ds copy t bytes ++ put_of bytes (copy_path ds t copy) ∷ map (put_of bytes) (copy_paths_from ds t (suc copy) n)) z

pub copy_is_put : (ds : List (List ℕ)) (copy t : ℕ) (bytes : List ℕ) (a b c : LinkShown) → HasPut (copies_of ds copy t bytes) a b → HasPut (put_of bytes (copy_path ds t copy) ∷ []) b c → HasPut (copies_of ds (copy + 1) t bytes) a c
copy_is_put ds copy t bytes a b c h k =
    subst (λ ps. HasPut ps a c) (sym (copies_more ds copy t bytes)) (put_more (copies_of ds copy t bytes) (put_of bytes (copy_path ds t copy) ∷ []) a b c h k)

-- a copy fails
pub copy_fails : (told : Bool) (ds : List (List ℕ)) (copies copy t : ℕ) (bytes : List ℕ) (a b c : LinkShown) → copy < copies → HasPut (copies_of ds copy t bytes) a b → HasFailed told [] (put_of bytes (copy_path ds t copy)) b c
    → BreaksOff told (copies_of ds copies t bytes) a c
copy_fails told ds copies copy t bytes a b c l h k = (
  copies_of ds copy t bytes,
  put_of bytes (copy_path ds t copy),
  map (put_of bytes) (copy_paths_from ds t (suc copy) (copies - suc copy)),
  copies_split ds copies copy t bytes l,
  subst (λ ps. HasFailed told ps (put_of bytes (copy_path ds t copy)) a c) (append-nil (copies_of ds copy t bytes)) (fails_behind told (copies_of ds copy t bytes) [] (put_of bytes (copy_path ds t copy)) a b c h k),
)

-- where a copy goes, by the directory at its place
pub path_is_copy : (leaves : List (String Global)) (tablet copy leaf : ℕ) (directory : String Global) (text : List ℕ) → text ≡ string_bytes directory → directory ≡ get_or leaves leaf directory
    → leaf ≡ placement (length leaves) tablet copy → leaf < length leaves → tablet_path text tablet ≡ copy_path (map string_bytes leaves) tablet copy
path_is_copy leaves tablet copy leaf directory text t d e l =
    ap (λ (x : List ℕ). tablet_path x tablet)
    (t ∙ sym (directory_at leaves leaf directory l d) ∙ ap (nth_text (map string_bytes leaves)) (e ∙ ap (λ (n : ℕ). placement n tablet copy) (sym (length-map leaves (string_bytes {Z = Global})))))
