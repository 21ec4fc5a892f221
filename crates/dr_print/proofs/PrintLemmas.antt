-- Texts that grow line by line.
use Rattle.std.specs.Prelude.{◌≡◌, ℕ, List, [], ◌∷◌, ◌++◌, if◌then◌else◌, is_ok, Result, Ok, Err, OnOk}
use Rattle.std.proofs.Common.{refl, sym, ap, ◌∙◌, append_assoc, append-nil}
use Rattle.dr_meaning.specs.Column as meant
use Rattle.dr_meaning.specs.Stripe.{triplet_text, column_text}

-- what joined is what should
pub joined : {E : Type 0} (r : Result (Unit {0}) E) (new old s t : List ℕ) → new ≡ (if is_ok r then old ++ s else old) → s ≡ t → OnOk r (new ≡ old ++ t)
joined (Ok done) new old s t h e = h ∙ ap (λ x. old ++ x) e
joined (Err e) new old s t h f = tt

column_text-more : (t : meant.Triplet) (ts : List meant.Triplet) → column_text (t ∷ ts) ≡ triplet_text t ++ column_text ts
unfolding column_text
column_text-more t ts = refl

column_text-nothing : column_text [] ≡ []
unfolding column_text
column_text-nothing = refl

-- one line more
pub one_printed : (t : meant.Triplet) (ts us : List meant.Triplet) (old new : List ℕ) → us ≡ t ∷ ts → new ≡ old ++ triplet_text t → new ++ column_text ts ≡ old ++ column_text us
one_printed t ts us old new h e =
    ap (λ x. x ++ column_text ts) e ∙ append_assoc old (triplet_text t) (column_text ts) ∙ ap (λ x. old ++ x) (sym (column_text-more t ts)) ∙ ap (λ x. old ++ column_text x) (sym h)

-- no triplet is left
pub all_printed : (us : List meant.Triplet) (text : List ℕ) → us ≡ [] → text ++ column_text us ≡ text
all_printed us text h = ap (λ x. text ++ column_text x) h ∙ ap (λ x. text ++ x) column_text-nothing ∙ append-nil text
