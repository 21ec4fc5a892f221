-- The answer of `session`, from its steps.
use Rattle.std.specs.Prelude.{◌≡◌, ℕ, List, [], ◌∷◌, ◌++◌, suc, Option, Some, None, Result, Ok, Err}
use Rattle.std.proofs.Common.{refl, sym, ap, ◌∙◌, subst}
use Rattle.dr_meaning.specs.Schema.{Schema}
use Rattle.dr_meaning.specs.Lines.{lines_of}
use Rattle.dr_sub_meaning.specs.Session.{Session, Heard, SessionFault, SessionRefusal, Spoken, heard, new_session, spoken, spoken_behind, spoken_from}
use Rattle.dr_input.specs.Whole.{whole_lines}
use Rattle.dr_input.proofs.WholeLemmas.{whole_front, whole_twice, lines_behind}
use Rattle.dr_commands.specs.Refusals.{Refusal, session_refused}
use Rattle.dr_commands.specs.Meaning.{puts_in, first_refusal, IsEarly}
use Rattle.dr_commands.specs.Session.{SessionWords, spoken_outcome, session_outcome, session_schema, session_meaning}
use Rattle.dr_top.proofs.CommandLemmas.{RefusesSchema}

pub session_refuses_schema : (w : SessionWords) → RefusesSchema (session_meaning w)
session_refuses_schema w look e h = ap (session_schema look.input) h

-- ---- what lines come to

-- it puts nothing
said_puts : (text : List ℕ) (e : Option SessionRefusal) → puts_in (spoken_outcome text e) ≡ []
said_puts text None = refl
said_puts text (Some e) = refl

pub spoken_puts : (said : Spoken) → puts_in (session_outcome said) ≡ []
spoken_puts said = said_puts said.text said.refusal

-- a line alone is refused
said_late : (text : List ℕ) (e : Option SessionRefusal) (r : Refusal) → IsEarly r → first_refusal (spoken_outcome text e) ≡ Some r → ⊥
said_late text None r early h = cc
said_late text (Some e) r early h = let is : session_refused e ≡ r = cc in subst (λ (x : Refusal). IsEarly x) (sym is) early

pub spoken_late : (said : Spoken) (r : Refusal) → IsEarly r → first_refusal (session_outcome said) ≡ Some r → ⊥
spoken_late said r early h = said_late said.text said.refusal r early h

-- where none is, nothing is
said_accepted : (text : List ℕ) (e : Option SessionRefusal) → e ≡ None → first_refusal (spoken_outcome text e) ≡ None
said_accepted text None h = refl
said_accepted text (Some e) h = cc

pub spoken_accepted : (said : Spoken) → said.refusal ≡ None → first_refusal (session_outcome said) ≡ None
spoken_accepted said h = said_accepted said.text said.refusal h

-- ---- the first of some lines

-- where none is refused, none of the first is
front_behind : (number : ℕ) (r : Result Heard SessionFault) (f g : Session → Spoken) → ((v : Session) → (f v).refusal ≡ None → (g v).refusal ≡ None) → (spoken_behind number r f).refusal ≡ None → (spoken_behind number r g).refusal ≡ None
front_behind number (Ok h) f g each e = each h.session e
front_behind number (Err x) f g each e = cc

front_spoken : (s : Schema) (w : Session) (number : ℕ) (ls ms : List (List ℕ)) → (spoken_from s w number (ls ++ ms)).refusal ≡ None → (spoken_from s w number ls).refusal ≡ None
front_spoken s w number [] ms e = refl
front_spoken s w number (l ∷ ls) ms e =
    front_behind number (heard s w number l) (λ v. spoken_from s v (suc number) (ls ++ ms)) (λ v. spoken_from s v (suc number) ls) (λ v. front_spoken s v (suc number) ls ms) e

-- nor of the whole ones
pub whole_spoken : (s : Schema) (read : List ℕ) → (spoken s read).refusal ≡ None → (spoken s (whole_lines read)).refusal ≡ None
unfolding spoken
whole_spoken s read e =
    let front = whole_front read in
    let lines : lines_of read ≡ lines_of (whole_lines read) ++ lines_of front.0 = ap lines_of front.1 ∙ lines_behind (whole_lines read) front.0 (whole_twice read) in
    front_spoken s new_session 1 (lines_of (whole_lines read)) (lines_of front.0) (ap (λ (ls : List (List ℕ)). (spoken_from s new_session 1 ls).refusal) (sym lines) ∙ e)
