-- What the keeper is asked for, and a file that is too long.
use Rattle.std.specs.Prelude.{◌≡◌, ◌≢◌, ◌<◌, ◌+◌, ℕ, List, [], ◌∷◌, length, Option, Some, None, option_map, Result, Err}
use Rattle.std.proofs.Common.{refl, sym, ap, ◌∙◌, append_assoc, append-nil, subst, arith}
use Rattle.dr_outside.specs.Link.{Files, LinkShown, Request, size_of, bytes_of, with_request, Holds, HasSize, HasRange, Reaches}
use Rattle.dr_outside.specs.declared.fault.Fault.{Fault}
use Rattle.dr_top.specs.KeeperFile.{IsLongFile}
use Rattle.dr_top.specs.Keeping.{AsksForFile, with_requests}

no_more : (o : Option (List Request)) → o ≡ with_requests o []
no_more None = refl
no_more (Some rs) = ap (λ (x : List Request). Some x) (sym (append-nil rs))

two_more : (o : Option (List Request)) (a b : Request) → with_request (with_request o a) b ≡ with_requests o (a ∷ b ∷ [])
two_more None a b = refl
two_more (Some rs) a b = ap (λ (x : List Request). Some x) (append_assoc rs (a ∷ []) (b ∷ []))

-- nothing was asked for
pub asks_nothing : (path : List ℕ) (before now : LinkShown) → now.asked ≡ before.asked → AsksForFile path before now
asks_nothing path before now e = ([], e ∙ no_more before.asked, tt)

-- the length was
pub asks_length : (path : List ℕ) (before now : LinkShown) → now.asked ≡ with_request before.asked (size_of path) → AsksForFile path before now
asks_length path before now e = (size_of path ∷ [], e, refl)

-- and then the bytes
pub asks_bytes : (path : List ℕ) (len : ℕ) (before middle now : LinkShown) → middle.asked ≡ with_request before.asked (size_of path)
    → now.asked ≡ with_request middle.asked (bytes_of (record { path = path; start = 0; len = len })) → AsksForFile path before now
asks_bytes path len before middle now e f =
    let r : Request = bytes_of (record { path = path; start = 0; len = len }) in
    (size_of path ∷ r ∷ [], f ∙ ap (λ (o : Option (List Request)). with_request o r) e ∙ two_more before.asked (size_of path) r, (refl, refl, refl))

-- whatever the first call answered
pub asks_after_length : {A : Type 0} (path : List ℕ) (before now : LinkShown) (r : Result A Fault) (fault : Fault) → r ≡ Err fault → (r ≢ Err Fault.NoMemory → now.asked ≡ with_request before.asked (size_of path))
    → (r ≡ Err Fault.NoMemory → now.asked ≡ before.asked) → AsksForFile path before now
asks_after_length path before now r Fault.Failed e some none = asks_length path before now (some (λ k. cc))
asks_after_length path before now r Fault.NoMemory e some none = asks_nothing path before now (none e)

-- whatever the second did
pub asks_after_bytes : {A : Type 0} (path : List ℕ) (len : ℕ) (before middle now : LinkShown) (r : Result A Fault) (fault : Fault) → r ≡ Err fault → middle.asked ≡ with_request before.asked (size_of path)
    → (r ≢ Err Fault.NoMemory → now.asked ≡ with_request middle.asked (bytes_of (record { path = path; start = 0; len = len })))
    → (r ≡ Err Fault.NoMemory → now.asked ≡ middle.asked) → AsksForFile path before now
asks_after_bytes path len before middle now r Fault.Failed k e some none = asks_bytes path len before middle now e (some (λ j. cc))
asks_after_bytes path len before middle now r Fault.NoMemory k e some none = asks_length path before now (none k ∙ e)

-- all of a file whose length was told is there
whole_there : (o : Option (List ℕ)) (n m : ℕ) → option_map length o ≡ Some n → m ≡ n → Reaches o (0 + m)
whole_there None n m h e = let no : None ≡ Some n = h in absurd (cc)
whole_there (Some bytes) n m h e = let is : length bytes ≡ n = cc in omega (arith, is, e)

pub whole_file : (held : Option Files) (path : List ℕ) (n m : ℕ) → Holds held path → HasSize held path n → m ≡ n → HasRange held (record { path = path; start = 0; len = m })
whole_file None path n m there h e = absurd there
whole_file (Some fs) path n m there h e = whole_there (fs path) n m h e

-- a file that is longer than it may be
pub long_file : (held : Option Files) (path : List ℕ) (n longest : ℕ) → HasSize held path n → longest < n → IsLongFile held path longest
long_file None path n longest h l = tt
long_file (Some fs) path n longest h l = go (fs path) refl h
  where
    go : (o : Option (List ℕ)) → fs path ≡ o → option_map length o ≡ Some n → IsLongFile (Some fs) path longest
    go None e k = cc
    go (Some bytes) e k = let is : length bytes ≡ n = cc in (bytes, e, subst (λ (m : ℕ). longest < m) (sym is) l)
