-- The machine that reads schema text, run on tokens without their places.
use Rattle.std.proofs.Common.{◌≡◌, ℕ, List, [], ◌∷◌, ◌++◌, Bool, true, false, refl, ap, ◌∙◌, ◌⊎◌, inl, inr, Ok, Err, Result}
use Rattle.std.proofs.lemmas.Slice.Eq.{bytes_eq-Decides}
use Rattle.std.specs.Prelude.{bytes_eq, if◌then◌else◌}
use Rattle.dr_meaning.specs.Schema.{Schema}
use Rattle.dr_meaning.specs.SchemaText.{Token, Placed, bare, Reading, SchemaProblem, SchemaFault, on_token, or_fault, read_tokens, at_text_end}

-- what the first tokens gave, or what the tokens behind them give
abbrev pub then_run : (Reading → Result Reading SchemaProblem) → Result Reading SchemaProblem → Result Reading SchemaProblem
then_run next (Ok m) = next m
then_run next (Err p) = Err p

-- the machine from this state on
abbrev pub run : List Token → Reading → Result Reading SchemaProblem
run [] m = Ok m
run (t ∷ ts) m = then_run (run ts) (on_token m t)

-- the reading satisfies P, the problem Q
abbrev pub Gives : (Reading → Type 0) → (SchemaProblem → Type 0) → Result Reading SchemaProblem → Type 0
Gives P Q (Ok m) = P m
Gives P Q (Err p) = Q p

pub gives_then : (P R : Reading → Type 0) (Q : SchemaProblem → Type 0) (next : Reading → Result Reading SchemaProblem) (r : Result Reading SchemaProblem) → Gives P Q r → ((m : Reading) → P m → Gives R Q (next m)) → Gives R Q (then_run next r)
gives_then P R Q next (Ok m) g k = k m g
gives_then P R Q next (Err p) g k = g

pub run-append : (a b : List Token) (m : Reading) → run (a ++ b) m ≡ then_run (run b) (run a m)
run-append [] b m = refl
run-append (t ∷ a) b m = after (on_token m t) (run-append a b)
  where
    after : (r : Result Reading SchemaProblem) → ((m' : Reading) → run (a ++ b) m' ≡ then_run (run b) (run a m')) → then_run (run (a ++ b)) r ≡ then_run (run b) (then_run (run a) r)
    after (Ok m') each = each m'
    after (Err p) each = refl

same_reading : (m m' : Reading) → run [] m ≡ Ok m' → m ≡ m'
same_reading m m' e = cc

abbrev pub fault_at : ℕ → SchemaProblem → SchemaFault
fault_at i p = record { place = i; problem = p }

abbrev pub failed : SchemaFault → Result Schema SchemaFault
failed f = Err f

abbrev stuck : SchemaProblem → Result Reading SchemaProblem
stuck p = Err p

pub err_same : (f g : SchemaFault) → failed f ≡ failed g → f ≡ g
err_same f g e = cc

-- a test for a word: either the word is read, or not
pub on_word : {A : Type 0} (P : A → Type 0) (w c : List ℕ) (x y : A) → (w ≡ c → P x) → P y → P (if bytes_eq w c then x else y)
on_word P w c x y hx hy = go (bytes_eq w c) refl
  where
    go : (b : Bool) → bytes_eq w c ≡ b → P (if b then x else y)
    go true e = hx ((bytes_eq-Decides w c).0 e)
    go false e = hy

-- reading the tokens of a text gave a schema: the machine came to the end
abbrev pub Came : ℕ → List Placed → Reading → Schema → Type 0
Came size ts m s = (m' : Reading) × (run (bare ts) m ≡ Ok m') × (at_text_end m'.expected m' size ≡ Ok s)

pub read_ok : (size : ℕ) (ts : List Placed) (m : Reading) (s : Schema) → read_tokens size ts m ≡ Ok s → Came size ts m s
read_ok size [] m s e = (m, refl, e)
read_ok size (t ∷ ts) m s e = after (on_token m t.token) (λ (m1 : Reading) (e1 : read_tokens size ts m1 ≡ Ok s). read_ok size ts m1 s e1) e
  where
    after : (r : Result Reading SchemaProblem) → ((m1 : Reading) → read_tokens size ts m1 ≡ Ok s → Came size ts m1 s) → or_fault t.place (read_tokens size ts) r ≡ Ok s → (m' : Reading) × (then_run (run (bare ts)) r ≡ Ok m') × (at_text_end m'.expected m' size ≡ Ok s)
    after (Ok m1) each e1 = each m1 e1
    after (Err p) each e1 = absurd (cc)

pub read_run : (size : ℕ) (ts : List Placed) (m m' : Reading) → run (bare ts) m ≡ Ok m' → read_tokens size ts m ≡ at_text_end m'.expected m' size
read_run size [] m m' e = rw (same_reading m m' e) refl
read_run size (t ∷ ts) m m' e = after (on_token m t.token) (λ (m1 : Reading) (e1 : run (bare ts) m1 ≡ Ok m'). read_run size ts m1 m' e1) e
  where
    after : (r : Result Reading SchemaProblem) → ((m1 : Reading) → run (bare ts) m1 ≡ Ok m' → read_tokens size ts m1 ≡ at_text_end m'.expected m' size) → then_run (run (bare ts)) r ≡ Ok m' → or_fault t.place (read_tokens size ts) r ≡ at_text_end m'.expected m' size
    after (Ok m1) each e1 = each m1 e1
    after (Err p) each e1 = absurd (cc)

-- the machine stopped at a token, or the text ended too early
abbrev pub Stopped : ℕ → List Placed → Reading → ℕ → SchemaProblem → Type 0
Stopped size ts m place p = (before : List Placed) × (t : Placed) × (after : List Placed) × (m' : Reading) × (ts ≡ before ++ t ∷ after) × (t.place ≡ place) × (run (bare before) m ≡ Ok m') × (on_token m' t.token ≡ Err p)

abbrev pub Ended : ℕ → List Placed → Reading → ℕ → SchemaProblem → Type 0
Ended size ts m place p = (m' : Reading) × (run (bare ts) m ≡ Ok m') × (at_text_end m'.expected m' size ≡ Err (fault_at place p))

pub read_fault : (size : ℕ) (ts : List Placed) (m : Reading) (place : ℕ) (p : SchemaProblem) → read_tokens size ts m ≡ Err (fault_at place p) → Stopped size ts m place p ⊎ Ended size ts m place p
read_fault size [] m place p e = inr (m, refl, e)
read_fault size (t ∷ ts) m place p e = after (on_token m t.token) refl (λ (m1 : Reading) (e1 : read_tokens size ts m1 ≡ Err (fault_at place p)). read_fault size ts m1 place p e1) e
  where
    further : (m1 : Reading) → on_token m t.token ≡ Ok m1 → Stopped size ts m1 place p ⊎ Ended size ts m1 place p → Stopped size (t ∷ ts) m place p ⊎ Ended size (t ∷ ts) m place p
    further m1 o (inl f) = inl (t ∷ f.0, f.1, f.2, f.3, ap (λ (x : List Placed). t ∷ x) f.4, f.5, (rw o f.6), f.7)
    further m1 o (inr f) = inr (f.0, (rw o f.1), f.2)

    same : (q : SchemaProblem) → failed (fault_at t.place q) ≡ failed (fault_at place p) → fault_at t.place q ≡ fault_at place p
    same q e1 = err_same (fault_at t.place q) (fault_at place p) e1

    after : (r : Result Reading SchemaProblem) → on_token m t.token ≡ r → ((m1 : Reading) → read_tokens size ts m1 ≡ Err (fault_at place p) → Stopped size ts m1 place p ⊎ Ended size ts m1 place p) → or_fault t.place (read_tokens size ts) r ≡ Err (fault_at place p) → Stopped size (t ∷ ts) m place p ⊎ Ended size (t ∷ ts) m place p
    after (Ok m1) o each e1 = further m1 o (each m1 e1)
    after (Err q) o each e1 = inl ([], t, ts, m, refl, ap (λ (f : SchemaFault). f.place) (same q e1), refl, o ∙ ap (λ (f : SchemaFault). stuck f.problem) (same q e1))
