-- What comes of reading, where the next token decides which production it is.
use Rattle.std.specs.Prelude.{◌≡◌, ℕ, Bool, true, false, Result}
use Rattle.std.proofs.Common.{sym, ap, subst}
use Rattle.dr_meaning.specs.Tokens.{QueryToken}
use Rattle.dr_meaning.specs.Parse.{Unread, Parsed, got, Production, goes_on, either, if_next, next_is}
use Rattle.dr_sql.specs.Reads.{Reads}
use Rattle.dr_sql.specs.declared.fault.QueryFault.{QueryFault}

pub reads_first : {A B : Type 0} (see : A → B) (test : QueryToken → Bool) (first other : Production B) (u w : Unread) (r : Result A QueryFault)
    → next_is test u ≡ true → Reads see (first u) w r → Reads see (if_next test first other u) w r
reads_first see test first other u w r t h =
    let P : Parsed _ → Type 0 = λ p. Reads see p w r in
    subst P (sym (ap (λ (b : Bool). either b first other u) t)) h

pub reads_other : {A B : Type 0} (see : A → B) (test : QueryToken → Bool) (first other : Production B) (u w : Unread) (r : Result A QueryFault)
    → next_is test u ≡ false → Reads see (other u) w r → Reads see (if_next test first other u) w r
reads_other see test first other u w r t h =
    let P : Parsed _ → Type 0 = λ p. Reads see p w r in
    subst P (sym (ap (λ (b : Bool). either b first other u) t)) h

pub reads_behind : {A B : Type 0} (see : A → B) (first : Production ℕ) (next : ℕ → Production B) (i : ℕ) (u v w : Unread) (r : Result A QueryFault)
    → first u ≡ got i v → Reads see (next i v) w r → Reads see (goes_on (first u) next) w r
reads_behind see first next i u v w r a h =
    let P : Parsed _ → Type 0 = λ p. Reads see p w r in
    subst P (sym (ap (λ (p : Parsed ℕ). goes_on p next) a)) h
