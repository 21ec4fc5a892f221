-- What holds of an answer, of the input, and of the file that is read.
use Rattle.std.specs.Prelude.{◌≡◌, ℕ, Bool, true, false, List, [], Option, Some, None, Result, Ok, Err, IsErrAnd, IfOk, IfErr, OnOk}
use Rattle.std.proofs.Common.{sym, ap, subst}
use Rattle.dr_outside.specs.Link.{LinkShown}
use Rattle.dr_input.specs.Taken.{WhereTold, WhereGiven}
use Rattle.dr_reading.specs.Held.{Held}
use Rattle.dr_commands.specs.Meaning.{Meaning}
use Rattle.dr_top.specs.World.{told_file, IsTold, IsFileOf, ForInput}

-- ---- an answer

-- what holds of the only error holds of the answer's
pub err_is : {A E : Type 0} (P : E → Type 0) (r : Result A E) (e : E) → IsErrAnd r (λ x. x ≡ e) → P e → IfErr r P
err_is P (Ok a) e h p = tt
err_is P (Err x) e h p = subst P (sym h) p

pub err_so : {A E : Type 0} (P Q : E → Type 0) (r : Result A E) → ((e : E) → P e → Q e) → IfErr r P → IfErr r Q
err_so P Q (Ok a) f h = tt
err_so P Q (Err e) f h = f e h

pub ok_so : {A E : Type 0} (P Q : A → Type 0) (r : Result A E) → ((a : A) → P a → Q a) → IfOk r P → IfOk r Q
ok_so P Q (Ok a) f h = f a h
ok_so P Q (Err e) f h = tt

pub ok_and : {A E : Type 0} (B : Type 0) (P Q : A → Type 0) (r : Result A E) → ((a : A) → B → P a → Q a) → OnOk r B → IfOk r P → IfOk r Q
ok_and B P Q (Ok a) f b h = f a b h
ok_and B P Q (Err e) f b h = tt

-- ---- the input

pub told_so : (left : Option (List ℕ)) (P Q : List ℕ → Type 0) → ((input : List ℕ) → P input → Q input) → WhereTold left P → WhereTold left Q
told_so None P Q f h = tt
told_so (Some input) P Q f h = f input h

pub each_told : (left : Option (List ℕ)) (P : List ℕ → Type 0) → ((input : List ℕ) → P input) → WhereTold left P
each_told None P h = tt
each_told (Some input) P h = h input

pub given_so : (left now : Option (List ℕ)) (P Q : List ℕ → Type 0) → ((read : List ℕ) → P read → Q read) → WhereGiven left now P → WhereGiven left now Q
given_so None now P Q f h = tt
given_so (Some all) None P Q f h = h
given_so (Some all) (Some rest) P Q f h = (h.0, h.1, f h.0 h.2)

pub input_so : (b : Bool) (left : Option (List ℕ)) (P Q : List ℕ → Type 0) → ((input : List ℕ) → P input → Q input) → ForInput b left P → ForInput b left Q
input_so false left P Q f h = f [] h
input_so true left P Q f h = told_so left P Q f h

pub each_input : (b : Bool) (left : Option (List ℕ)) (P : List ℕ → Type 0) → ((input : List ℕ) → P input) → ForInput b left P
each_input false left P h = h []
each_input true left P h = each_told left P h

pub told_input : (b : Bool) (left : Option (List ℕ)) (P : List ℕ → Type 0) → b ≡ true → WhereTold left P → ForInput b left P
told_input b left P r h = subst (λ (x : Bool). ForInput x left P) (sym r) h

-- ---- the file

-- what is read over a keeper is read over one that holds the same
pub file_over : (m : Meaning) (k k1 : LinkShown) (file : List ℕ) → k1.held ≡ k.held → IsFileOf m k1 file → IsFileOf m k file
file_over m k k1 file e h = subst (λ (told : Held). IsTold told file) (ap (told_file m.file) e) h
