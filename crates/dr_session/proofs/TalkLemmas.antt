-- A session over an input: its start, a line more, and its ends.
use Rattle.std.specs.Prelude.{◌≡◌, ℕ, suc, List, [], ◌++◌, Option, Some, None, Result, Ok, Err, IfErr}
use Rattle.std.specs.Result.{IsErrAnd}
use Rattle.std.proofs.Common.{refl, sym, ap, ◌∙◌, subst}
use Rattle.dr_meaning.specs.Schema.{Schema}
use Rattle.dr_sub_meaning.specs.Session as session
use Rattle.dr_sub_meaning.specs.Session.{Heard, SessionFault, SessionRefusal, new_session, heard}
use Rattle.dr_outside.specs.Faults.{raised}
use Rattle.dr_outside.specs.Source.{SourceShown}
use Rattle.dr_outside.specs.Sink.{SinkShown, AddedWhole}
use Rattle.dr_lines.specs.Cutting.{CutsLine, CutsBytes, IsEnd, ahead}
use Rattle.dr_input.specs.Taken.{WhereTold}
use Rattle.dr_session.specs.Held.{IsSession}
use Rattle.dr_session.specs.Faults.{problem_view}
use Rattle.dr_session.specs.Saying.{Says, StopsAt, CutStops, RefusesFirst}
use Rattle.dr_session.specs.Spoken.{HasSpoken, HasTalked}
use Rattle.dr_session.specs.Talking.{PrintsBefore, TalksToEnd, TalkStops}
use Rattle.dr_session.specs.declared.kept.Kept.{Kept}
use Rattle.dr_session.specs.declared.talking.TalkFault.{TalkFault}
use Rattle.dr_session.proofs.SayingLemmas.{added_nothing, added_both, front_behind}
use Rattle.dr_session.proofs.SpokenLemmas.{nothing_spoken, spoken_line, refused_spoken, first_refused, end_prints, end_is_told, failed_spoken, front_spoken, front_cut, front_nothing}

-- what holds of the only error holds of the answer's
pub err_is : {A : Type 0} (P : TalkFault → Type 0) (r : Result A TalkFault) (e : TalkFault) → IsErrAnd r (λ x. x ≡ e) → P e → IfErr r P
err_is P (Ok a) e h p = tt
err_is P (Err x) e h p = subst P (sym h) p

-- nothing was read or written
pub wants_at_once : (s : Schema) (input : SourceShown) (out : SinkShown) → TalkStops s input input out out TalkFault.NoMemory
wants_at_once s input out = record { text = []; prints = front_nothing s input.left; writes = added_nothing out; input_calm = refl; out_calm = refl }

same_ahead : (p : List ℕ) (left : Option (List ℕ)) → p ≡ [] → ahead p left ≡ left
same_ahead p None e = refl
same_ahead p (Some x) e = ap (λ (q : List ℕ). ahead q (Some x)) e

module _ (s : Schema) (input : SourceShown) (out : SinkShown) where
  pub has_begun : (k : Kept) (tablets : List (List ℕ)) (p : List ℕ) → IsSession s new_session k tablets → p ≡ [] → HasTalked s 0 k tablets input.left (ahead p input.left) out out
  has_begun k tablets p h e = record {
    session = new_session;
    text = [];
    holds = h;
    spoken = subst (HasSpoken s new_session 0 [] new_session input.left) (sym (same_ahead p input.left e)) (nothing_spoken s new_session input.left);
    writes = added_nothing out;
    calm = refl;
  }

  module _ (count : ℕ) (k : Kept) (tablets : List (List ℕ)) (before : Option (List ℕ)) (out_mid : SinkShown) (talked : HasTalked s count k tablets input.left before out out_mid) where
    -- where the cutter fails, or there is no line
    pub talk_ends : (p : List ℕ) (input_now : SourceShown) → IsEnd before (ahead p input_now.left) → input_now.faults ≡ input.faults → TalksToEnd s input input_now out out_mid
    talk_ends p input_now e calm = record {
      text = talked.text;
      prints = end_prints s talked.session count talked.text input.left before (ahead p input_now.left) talked.spoken e;
      at_end = end_is_told s talked.session count talked.text input.left before p input_now.left talked.spoken e;
      writes = talked.writes;
      input_calm = calm;
      out_calm = talked.calm;
    }

    pub cut_ends : (input_mid input_now : SourceShown) (number : ℕ) (e : TalkFault) → number ≡ suc count → input_mid.faults ≡ input.faults → CutStops number before input_mid input_now e → TalkStops s input input_now out out_mid e
    cut_ends input_mid input_now number TalkFault.NoMemory i calm h = absurd h
    cut_ends input_mid input_now number TalkFault.Out i calm h = absurd h
    cut_ends input_mid input_now number TalkFault.Source i calm h = record {
      text = talked.text;
      prints = failed_spoken s talked.session count talked.text input.left before input_now.left talked.spoken h.1;
      writes = talked.writes;
      input_failed = subst (λ (n : ℕ). input_now.faults ≡ raised n) calm h.0;
      out_calm = talked.calm;
    }
    cut_ends input_mid input_now number (TalkFault.Refused n p) i calm h = record {
      text = talked.text;
      prints = subst (λ (m : ℕ). WhereTold input.left (PrintsBefore s (record { line = m; fault = problem_view p }) talked.text)) (sym (h.0 ∙ i))
          (first_refused s talked.session count talked.text input.left before (problem_view p) talked.spoken (subst (λ (m : ℕ). RefusesFirst m before (problem_view p)) i h.2));
      writes = talked.writes;
      input_calm = h.1 ∙ calm;
      out_calm = talked.calm;
    }

    -- where a line was cut
    module _ (l p : List ℕ) (input_now : SourceShown) (cuts : CutsLine before l (ahead p input_now.left)) (bytes : CutsBytes before l (ahead p input_now.left)) where
      pub talk_more : (number : ℕ) (k_now : Kept) (tablets_now : List (List ℕ)) (out_now : SinkShown) (done : Unit {0}) → number ≡ suc count
          → ((w : session.Session) → IsSession s w k tablets → Says (heard s w number l) (λ v. IsSession s v k_now tablets_now) number out_mid out_now (Ok done))
          → HasTalked s number k_now tablets_now input.left (ahead p input_now.left) out out_now
      talk_more number k_now tablets_now out_now done i said =
          let here = said talked.session talked.holds in
          let meant : heard s talked.session (suc count) l ≡ Ok here.0 = ap (λ (m : ℕ). heard s talked.session m l) (sym i) ∙ here.1 in
          subst (λ (m : ℕ). HasTalked s m k_now tablets_now input.left (ahead p input_now.left) out out_now) (sym i) record {
            session = here.0.session;
            text = talked.text ++ here.0.text;
            holds = here.4;
            spoken = spoken_line s new_session talked.session count talked.text input.left before (ahead p input_now.left) l here.0 talked.spoken cuts bytes meant;
            writes = added_both out out_mid out_now talked.text here.0.text talked.writes here.2;
            calm = here.3 ∙ talked.calm;
          }

      line_stops : (number : ℕ) (out_now : SinkShown) (e : TalkFault) → number ≡ suc count → input_now.faults ≡ input.faults
          → StopsAt (heard s talked.session number l) number out_mid out_now e → TalkStops s input input_now out out_now e
      line_stops number out_now TalkFault.NoMemory i calm h = record {
        text = talked.text;
        prints = front_cut s talked.session count talked.text input.left before l p input_now.left talked.spoken bytes;
        writes = subst (λ (o : SinkShown). AddedWhole out o talked.text) (sym h) talked.writes;
        input_calm = calm;
        out_calm = ap (λ (o : SinkShown). o.faults) h ∙ talked.calm;
      }
      line_stops number out_now TalkFault.Source i calm h = absurd h
      line_stops number out_now TalkFault.Out i calm h =
          let meant : heard s talked.session (suc count) l ≡ Ok h.0 = ap (λ (m : ℕ). heard s talked.session m l) (sym i) ∙ h.1 in
          record {
            text = talked.text ++ h.0.text;
            prints = front_spoken s h.0.session (suc count) (talked.text ++ h.0.text) input.left p input_now.left
                (spoken_line s new_session talked.session count talked.text input.left before (ahead p input_now.left) l h.0 talked.spoken cuts bytes meant);
            writes = front_behind out out_mid out_now talked.text h.0.text talked.writes h.2;
            input_calm = calm;
            out_failed = subst (λ (n : ℕ). out_now.faults ≡ raised n) talked.calm h.3;
          }
      line_stops number out_now (TalkFault.Refused n f) i calm h =
          let meant : heard s talked.session (suc count) l ≡ Err (problem_view f) = ap (λ (m : ℕ). heard s talked.session m l) (sym i) ∙ h.1 in
          record {
            text = talked.text;
            prints = subst (λ (m : ℕ). WhereTold input.left (PrintsBefore s (record { line = m; fault = problem_view f }) talked.text)) (sym (h.0 ∙ i))
                (refused_spoken s talked.session count talked.text input.left before (ahead p input_now.left) l (problem_view f) talked.spoken cuts meant);
            writes = subst (λ (o : SinkShown). AddedWhole out o talked.text) (sym h.2) talked.writes;
            input_calm = calm;
            out_calm = ap (λ (o : SinkShown). o.faults) h.2 ∙ talked.calm;
          }

      pub answer_ends : (number : ℕ) (P : session.Session → Type 0) (out_now : SinkShown) (e : TalkFault) → number ≡ suc count → input_now.faults ≡ input.faults
          → ((w : session.Session) → IsSession s w k tablets → Says (heard s w number l) P number out_mid out_now (Err e)) → TalkStops s input input_now out out_now e
      answer_ends number P out_now e i calm said = line_stops number out_now e i calm (said talked.session talked.holds)
