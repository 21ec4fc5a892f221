-- Texts written one behind another.
use Rattle.std.specs.Prelude.{◌≡◌, ℕ, List, [], ◌++◌, Option, Some, None, Result, Ok, Err, String, string_bytes}
use Rattle.std.specs.declared.alloc.Global.{Global}
use Rattle.std.proofs.Common.{arith, sym, ap, ◌∙◌, subst, append_assoc, append-nil}
use Rattle.std.proofs.lemmas.List.{length-append}
use Rattle.dr_outside.specs.Faults.{raised}
use Rattle.dr_outside.specs.Sink.{SinkShown, Added, AddedWhole, AddedFront}
use Rattle.dr_sub_meaning.specs.Session.{Session, Heard, SessionFault}
use Rattle.dr_session.specs.Faults.{Hears}
use Rattle.dr_session.specs.Saying.{Says}
use Rattle.dr_session.specs.declared.talking.TalkFault.{TalkFault}

-- ---- one line

pub says_wholly : (meant : Result Heard SessionFault) (P : Session → Type 0) (number : ℕ) (before after : SinkShown) (text : String Global) (done : Unit {0}) → Hears meant P (Ok text) → AddedWhole before after (string_bytes text) → after.faults ≡ before.faults
    → Says meant P number before after (Ok done)
says_wholly meant P number before after text done h a f = (h.0, h.1, subst (AddedWhole before after) h.2 a, f, h.3)

pub says_front : (meant : Result Heard SessionFault) (P : Session → Type 0) (number : ℕ) (before after : SinkShown) (text : String Global) → Hears meant P (Ok text) → AddedFront before after (string_bytes text) → after.faults ≡ raised before.faults
    → Says meant P number before after (Err TalkFault.Out)
says_front meant P number before after text h a f = (h.0, h.1, subst (AddedFront before after) h.2 a, f)

-- ---- one line behind another

bytes_nothing : (o : Option (List ℕ)) → Added o o []
bytes_nothing None = tt
bytes_nothing (Some x) = sym (append-nil x)

bytes_both : (a b c : Option (List ℕ)) (t u : List ℕ) → Added a b t → Added b c u → Added a c (t ++ u)
bytes_both None b c t u h k = tt
bytes_both (Some x) None c t u h k = absurd h
bytes_both (Some x) (Some y) None t u h k = absurd k
bytes_both (Some x) (Some y) (Some z) t u h k = k ∙ ap (λ (w : List ℕ). w ++ u) h ∙ append_assoc x t u

pub added_nothing : (a : SinkShown) → AddedWhole a a []
added_nothing a = record { bytes = bytes_nothing a.written; calls = omega arith }

pub added_both : (a b c : SinkShown) (t u : List ℕ) → AddedWhole a b t → AddedWhole b c u → AddedWhole a c (t ++ u)
added_both a b c t u h k =
    let n = length-append t u in
    record { bytes = bytes_both a.written b.written c.written t u h.bytes k.bytes; calls = omega (arith, n, h.calls, k.calls) }

pub front_behind : (a b c : SinkShown) (t u : List ℕ) → AddedWhole a b t → AddedFront b c u → AddedFront a c (t ++ u)
front_behind a b c t u h k =
    let n = length-append t k.front in
    record {
      front = t ++ k.front;
      rest = k.rest;
      cut = ap (λ (x : List ℕ). t ++ x) k.cut ∙ sym (append_assoc t k.front k.rest);
      some_left = k.some_left;
      bytes = bytes_both a.written b.written c.written t k.front h.bytes k.bytes;
      calls = omega (arith, n, h.calls, k.calls);
    }
