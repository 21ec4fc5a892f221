use Rattle.std.proofs.Common.{◌≡◌, refl, ap, subst, ◌∙◌, map, string_bytes, List, ℕ}
use Rattle.dr_outside.specs.Sink.{AddedWhole, AddedFront}
use Rattle.dr_reading.specs.LeftText.{left_text}
use Rattle.dr_table.specs.LeftViews.{all_left_view}
use Rattle.dr_table.specs.declared.left.LeftTablet.{LeftTablet}
use Rattle.dr_nested.specs.SchemaView.{schema_view}
use Rattle.dr_words.specs.Words.{meant}
use Rattle.dr_top.specs.Printed.{printed}
use Rattle.dr_top.specs.World.{lent}
use Rattle.dr_top.specs.Ends.{Says, ForMeant}
use Rattle.dr_top.specs.Answers.{Replies, StopsMeant}
use Rattle.dr_top.specs.declared.reply.Reply.{Reply}
use Rattle.dr_top.specs.declared.stop.Stop.{Stop}
use Rattle.dr_top.proofs.RunLemmas.{prints_end, out_failed, usage_end, usage_counts, usage_incomplete, memory_end, memory_counts, source_failed, source_incomplete, keeper_failed, keeper_incomplete, refused_end, refused_counts, refused_incomplete, left_end, left_counts, left_memory, most_end, most_failed, most_counts, most_memory, file_end, file_counts, file_incomplete}
use Rattle.dr_top.proofs.TalkLemmas.{talk_prints, talk_refused, talk_outside, talk_memory, talk_usage, talk_left, talk_most, talk_known, talk_calm, talk_complete, talk_served}
use Rattle.dr_top.proofs.ServedLemmas.{served_by, served_else, left_complete, most_served, most_complete}
use Rattle.dr_top.proofs.running.run.Goals as goal

pub returns-in-Ok-clause-prints : goal.returns-in-Ok-clause-prints
returns-in-Ok-clause-prints g c = λ _.
    let whole : c.in-Ok-Whole.field-0 ≡ Reply.Whole c.in-Ok-Whole.output = cc (c.in-Ok-Whole.field-0-is) in
    prints_end _ _ _ _ _ _ _ _ _ _ (meant (map string_bytes c.args.words.now)) (printed c.in-Ok-Whole.output) (subst (λ (r : Reply). ForMeant (meant (map string_bytes c.args.words.now)) (λ m. Replies m (lent (g.S.Source.shows c.args.source.now) (g.K.Link.shows c.args.keeper.now) (map g.L.Link.shows c.args.links.now)) (lent (g.S.Source.shows c.answer.new.source) (g.K.Link.shows c.answer.new.keeper) (map g.L.Link.shows c.answer.new.links)) r)) whole c.in-Ok-Whole.ensures.replies) c.in-Ok.ensures.whole refl

pub returns-in-Ok-Whole-clause-outside : goal.returns-in-Ok-Whole-clause-outside
returns-in-Ok-Whole-clause-outside g c = λ _.
    let whole : c.in-Ok-Whole.field-0 ≡ Reply.Whole c.in-Ok-Whole.output = cc (c.in-Ok-Whole.field-0-is) in
    out_failed _ _ _ _ _ _ _ _ _ _ (meant (map string_bytes c.args.words.now)) (printed c.in-Ok-Whole.output) (subst (λ (r : Reply). ForMeant (meant (map string_bytes c.args.words.now)) (λ m. Replies m (lent (g.S.Source.shows c.args.source.now) (g.K.Link.shows c.args.keeper.now) (map g.L.Link.shows c.args.links.now)) (lent (g.S.Source.shows c.answer.new.source) (g.K.Link.shows c.answer.new.keeper) (map g.L.Link.shows c.answer.new.links)) r)) whole c.in-Ok-Whole.ensures.replies)
    c.in-Err.ensures.front c.in-Err.ensures.cause c.in-Ok-Whole.ensures.keeper_calm c.in-Ok-Whole.ensures.source_calm c.say.ensures

pub returns-in-Ok-Talk-clause-prints : goal.returns-in-Ok-Talk-clause-prints
returns-in-Ok-Talk-clause-prints g c =
    let talk : c.in-Ok-Talk.field-0 ≡ Reply.Talk c.in-Ok-Talk.schema = cc (c.in-Ok-Talk.field-0-is) in
    talk_prints (schema_view c.in-Ok-Talk.schema) (g.S.Source.shows c.args.source.now) (g.S.Source.shows c.answer.new.source) (g.S.Source.shows c.hold_session.new.source) (g.O.Sink.shows c.args.out.now) (g.O.Sink.shows c.hold_session.new.out) (g.E.Sink.shows c.args.err.now) (g.E.Sink.shows c.hold_session.new.err) (g.K.Link.shows c.args.keeper.now) (g.K.Link.shows c.answer.new.keeper) (map g.L.Link.shows c.args.links.now) (map g.L.Link.shows c.answer.new.links) c.hold_session.result
    c.hold_session.ensures.prints c.hold_session.ensures.silent c.hold_session.ensures.refused c.hold_session.ensures.outside c.hold_session.ensures.memory c.hold_session.ensures.known (meant (map string_bytes c.args.words.now)) (subst (λ (r : Reply). ForMeant (meant (map string_bytes c.args.words.now)) (λ m. Replies m (lent (g.S.Source.shows c.args.source.now) (g.K.Link.shows c.args.keeper.now) (map g.L.Link.shows c.args.links.now)) (lent (g.S.Source.shows c.answer.new.source) (g.K.Link.shows c.answer.new.keeper) (map g.L.Link.shows c.answer.new.links)) r)) talk c.in-Ok-Talk.ensures.replies)

pub returns-in-Ok-Talk-clause-refused : goal.returns-in-Ok-Talk-clause-refused
returns-in-Ok-Talk-clause-refused g c =
    let talk : c.in-Ok-Talk.field-0 ≡ Reply.Talk c.in-Ok-Talk.schema = cc (c.in-Ok-Talk.field-0-is) in
    talk_refused (schema_view c.in-Ok-Talk.schema) (g.S.Source.shows c.args.source.now) (g.S.Source.shows c.answer.new.source) (g.S.Source.shows c.hold_session.new.source) (g.O.Sink.shows c.args.out.now) (g.O.Sink.shows c.hold_session.new.out) (g.E.Sink.shows c.args.err.now) (g.E.Sink.shows c.hold_session.new.err) (g.K.Link.shows c.args.keeper.now) (g.K.Link.shows c.answer.new.keeper) (map g.L.Link.shows c.args.links.now) (map g.L.Link.shows c.answer.new.links) c.hold_session.result
    c.hold_session.ensures.prints c.hold_session.ensures.silent c.hold_session.ensures.refused c.hold_session.ensures.outside c.hold_session.ensures.memory c.hold_session.ensures.known (meant (map string_bytes c.args.words.now)) (subst (λ (r : Reply). ForMeant (meant (map string_bytes c.args.words.now)) (λ m. Replies m (lent (g.S.Source.shows c.args.source.now) (g.K.Link.shows c.args.keeper.now) (map g.L.Link.shows c.args.links.now)) (lent (g.S.Source.shows c.answer.new.source) (g.K.Link.shows c.answer.new.keeper) (map g.L.Link.shows c.answer.new.links)) r)) talk c.in-Ok-Talk.ensures.replies)

pub returns-in-Ok-Talk-clause-outside : goal.returns-in-Ok-Talk-clause-outside
returns-in-Ok-Talk-clause-outside g c =
    let talk : c.in-Ok-Talk.field-0 ≡ Reply.Talk c.in-Ok-Talk.schema = cc (c.in-Ok-Talk.field-0-is) in
    talk_outside (schema_view c.in-Ok-Talk.schema) (g.S.Source.shows c.args.source.now) (g.S.Source.shows c.answer.new.source) (g.S.Source.shows c.hold_session.new.source) (g.O.Sink.shows c.args.out.now) (g.O.Sink.shows c.hold_session.new.out) (g.E.Sink.shows c.args.err.now) (g.E.Sink.shows c.hold_session.new.err) (g.K.Link.shows c.args.keeper.now) (g.K.Link.shows c.answer.new.keeper) (map g.L.Link.shows c.args.links.now) (map g.L.Link.shows c.answer.new.links) c.hold_session.result
    c.hold_session.ensures.prints c.hold_session.ensures.silent c.hold_session.ensures.refused c.hold_session.ensures.outside c.hold_session.ensures.memory c.hold_session.ensures.known (meant (map string_bytes c.args.words.now)) c.in-Ok-Talk.ensures.keeper_calm (subst (λ (r : Reply). ForMeant (meant (map string_bytes c.args.words.now)) (λ m. Replies m (lent (g.S.Source.shows c.args.source.now) (g.K.Link.shows c.args.keeper.now) (map g.L.Link.shows c.args.links.now)) (lent (g.S.Source.shows c.answer.new.source) (g.K.Link.shows c.answer.new.keeper) (map g.L.Link.shows c.answer.new.links)) r)) talk c.in-Ok-Talk.ensures.replies)

pub returns-in-Ok-Talk-clause-memory : goal.returns-in-Ok-Talk-clause-memory
returns-in-Ok-Talk-clause-memory g c =
    let talk : c.in-Ok-Talk.field-0 ≡ Reply.Talk c.in-Ok-Talk.schema = cc (c.in-Ok-Talk.field-0-is) in
    talk_memory (schema_view c.in-Ok-Talk.schema) (g.S.Source.shows c.args.source.now) (g.S.Source.shows c.answer.new.source) (g.S.Source.shows c.hold_session.new.source) (g.O.Sink.shows c.args.out.now) (g.O.Sink.shows c.hold_session.new.out) (g.E.Sink.shows c.args.err.now) (g.E.Sink.shows c.hold_session.new.err) (g.K.Link.shows c.args.keeper.now) (g.K.Link.shows c.answer.new.keeper) (map g.L.Link.shows c.args.links.now) (map g.L.Link.shows c.answer.new.links) c.hold_session.result
    c.hold_session.ensures.prints c.hold_session.ensures.silent c.hold_session.ensures.refused c.hold_session.ensures.outside c.hold_session.ensures.memory c.hold_session.ensures.known (meant (map string_bytes c.args.words.now)) (subst (λ (r : Reply). ForMeant (meant (map string_bytes c.args.words.now)) (λ m. Replies m (lent (g.S.Source.shows c.args.source.now) (g.K.Link.shows c.args.keeper.now) (map g.L.Link.shows c.args.links.now)) (lent (g.S.Source.shows c.answer.new.source) (g.K.Link.shows c.answer.new.keeper) (map g.L.Link.shows c.answer.new.links)) r)) talk c.in-Ok-Talk.ensures.replies)

pub returns-in-Ok-Talk-clause-calm : goal.returns-in-Ok-Talk-clause-calm
returns-in-Ok-Talk-clause-calm g c =
    let talk : c.in-Ok-Talk.field-0 ≡ Reply.Talk c.in-Ok-Talk.schema = cc (c.in-Ok-Talk.field-0-is) in
    talk_calm (schema_view c.in-Ok-Talk.schema) (g.S.Source.shows c.args.source.now) (g.S.Source.shows c.answer.new.source) (g.S.Source.shows c.hold_session.new.source) (g.O.Sink.shows c.args.out.now) (g.O.Sink.shows c.hold_session.new.out) (g.E.Sink.shows c.args.err.now) (g.E.Sink.shows c.hold_session.new.err) (g.K.Link.shows c.args.keeper.now) (g.K.Link.shows c.answer.new.keeper) (map g.L.Link.shows c.args.links.now) (map g.L.Link.shows c.answer.new.links) c.hold_session.result
    c.hold_session.ensures.prints c.hold_session.ensures.silent c.hold_session.ensures.refused c.hold_session.ensures.outside c.hold_session.ensures.memory c.hold_session.ensures.known (meant (map string_bytes c.args.words.now)) c.in-Ok-Talk.ensures.keeper_calm (subst (λ (r : Reply). ForMeant (meant (map string_bytes c.args.words.now)) (λ m. Replies m (lent (g.S.Source.shows c.args.source.now) (g.K.Link.shows c.args.keeper.now) (map g.L.Link.shows c.args.links.now)) (lent (g.S.Source.shows c.answer.new.source) (g.K.Link.shows c.answer.new.keeper) (map g.L.Link.shows c.answer.new.links)) r)) talk c.in-Ok-Talk.ensures.replies)

pub returns-in-Ok-Talk-clause-complete : goal.returns-in-Ok-Talk-clause-complete
returns-in-Ok-Talk-clause-complete g c =
    let talk : c.in-Ok-Talk.field-0 ≡ Reply.Talk c.in-Ok-Talk.schema = cc (c.in-Ok-Talk.field-0-is) in
    talk_complete (schema_view c.in-Ok-Talk.schema) (g.S.Source.shows c.args.source.now) (g.S.Source.shows c.answer.new.source) (g.S.Source.shows c.hold_session.new.source) (g.O.Sink.shows c.args.out.now) (g.O.Sink.shows c.hold_session.new.out) (g.E.Sink.shows c.args.err.now) (g.E.Sink.shows c.hold_session.new.err) (g.K.Link.shows c.args.keeper.now) (g.K.Link.shows c.answer.new.keeper) (map g.L.Link.shows c.args.links.now) (map g.L.Link.shows c.answer.new.links) c.hold_session.result
    c.hold_session.ensures.prints c.hold_session.ensures.silent c.hold_session.ensures.refused c.hold_session.ensures.outside c.hold_session.ensures.memory c.hold_session.ensures.known (meant (map string_bytes c.args.words.now)) (subst (λ (r : Reply). ForMeant (meant (map string_bytes c.args.words.now)) (λ m. Replies m (lent (g.S.Source.shows c.args.source.now) (g.K.Link.shows c.args.keeper.now) (map g.L.Link.shows c.args.links.now)) (lent (g.S.Source.shows c.answer.new.source) (g.K.Link.shows c.answer.new.keeper) (map g.L.Link.shows c.answer.new.links)) r)) talk c.in-Ok-Talk.ensures.replies)

pub returns-in-Ok-Talk-clause-served : goal.returns-in-Ok-Talk-clause-served
returns-in-Ok-Talk-clause-served g c =
    talk_served (schema_view c.in-Ok-Talk.schema) (g.S.Source.shows c.args.source.now) (g.S.Source.shows c.answer.new.source) (g.S.Source.shows c.hold_session.new.source) (g.O.Sink.shows c.args.out.now) (g.O.Sink.shows c.hold_session.new.out) (g.E.Sink.shows c.args.err.now) (g.E.Sink.shows c.hold_session.new.err) (g.K.Link.shows c.args.keeper.now) (g.K.Link.shows c.answer.new.keeper) (map g.L.Link.shows c.args.links.now) (map g.L.Link.shows c.answer.new.links) c.hold_session.result
    c.hold_session.ensures.prints c.hold_session.ensures.silent c.hold_session.ensures.refused c.hold_session.ensures.outside c.hold_session.ensures.memory c.hold_session.ensures.known (meant (map string_bytes c.args.words.now))

pub returns-in-Ok-Talk-clause-known : goal.returns-in-Ok-Talk-clause-known
returns-in-Ok-Talk-clause-known g c =
    talk_known (schema_view c.in-Ok-Talk.schema) (g.S.Source.shows c.args.source.now) (g.S.Source.shows c.answer.new.source) (g.S.Source.shows c.hold_session.new.source) (g.O.Sink.shows c.args.out.now) (g.O.Sink.shows c.hold_session.new.out) (g.E.Sink.shows c.args.err.now) (g.E.Sink.shows c.hold_session.new.err) (g.K.Link.shows c.args.keeper.now) (g.K.Link.shows c.answer.new.keeper) (map g.L.Link.shows c.args.links.now) (map g.L.Link.shows c.answer.new.links) c.hold_session.result
    c.hold_session.ensures.prints c.hold_session.ensures.silent c.hold_session.ensures.refused c.hold_session.ensures.outside c.hold_session.ensures.memory c.hold_session.ensures.known

pub returns-in-Ok-Talk-clause-usage : goal.returns-in-Ok-Talk-clause-usage
returns-in-Ok-Talk-clause-usage g c = λ e.
    absurd (talk_usage (schema_view c.in-Ok-Talk.schema) (g.S.Source.shows c.args.source.now) (g.S.Source.shows c.answer.new.source) (g.S.Source.shows c.hold_session.new.source) (g.O.Sink.shows c.args.out.now) (g.O.Sink.shows c.hold_session.new.out) (g.E.Sink.shows c.args.err.now) (g.E.Sink.shows c.hold_session.new.err) (g.K.Link.shows c.args.keeper.now) (g.K.Link.shows c.answer.new.keeper) (map g.L.Link.shows c.args.links.now) (map g.L.Link.shows c.answer.new.links) c.hold_session.result
    c.hold_session.ensures.prints c.hold_session.ensures.silent c.hold_session.ensures.refused c.hold_session.ensures.outside c.hold_session.ensures.memory c.hold_session.ensures.known e)

pub returns-in-Ok-Talk-clause-left : goal.returns-in-Ok-Talk-clause-left
returns-in-Ok-Talk-clause-left g c = λ e.
    absurd (talk_left (schema_view c.in-Ok-Talk.schema) (g.S.Source.shows c.args.source.now) (g.S.Source.shows c.answer.new.source) (g.S.Source.shows c.hold_session.new.source) (g.O.Sink.shows c.args.out.now) (g.O.Sink.shows c.hold_session.new.out) (g.E.Sink.shows c.args.err.now) (g.E.Sink.shows c.hold_session.new.err) (g.K.Link.shows c.args.keeper.now) (g.K.Link.shows c.answer.new.keeper) (map g.L.Link.shows c.args.links.now) (map g.L.Link.shows c.answer.new.links) c.hold_session.result
    c.hold_session.ensures.prints c.hold_session.ensures.silent c.hold_session.ensures.refused c.hold_session.ensures.outside c.hold_session.ensures.memory c.hold_session.ensures.known e)

pub returns-in-Ok-Talk-clause-most : goal.returns-in-Ok-Talk-clause-most
returns-in-Ok-Talk-clause-most g c = λ e.
    absurd (talk_most (schema_view c.in-Ok-Talk.schema) (g.S.Source.shows c.args.source.now) (g.S.Source.shows c.answer.new.source) (g.S.Source.shows c.hold_session.new.source) (g.O.Sink.shows c.args.out.now) (g.O.Sink.shows c.hold_session.new.out) (g.E.Sink.shows c.args.err.now) (g.E.Sink.shows c.hold_session.new.err) (g.K.Link.shows c.args.keeper.now) (g.K.Link.shows c.answer.new.keeper) (map g.L.Link.shows c.args.links.now) (map g.L.Link.shows c.answer.new.links) c.hold_session.result
    c.hold_session.ensures.prints c.hold_session.ensures.silent c.hold_session.ensures.refused c.hold_session.ensures.outside c.hold_session.ensures.memory c.hold_session.ensures.known e)

pub returns-in-Ok-Talk-clause-taken : goal.returns-in-Ok-Talk-clause-taken
returns-in-Ok-Talk-clause-taken g c = λ taken.
    talk_usage (schema_view c.in-Ok-Talk.schema) (g.S.Source.shows c.args.source.now) (g.S.Source.shows c.answer.new.source) (g.S.Source.shows c.hold_session.new.source) (g.O.Sink.shows c.args.out.now) (g.O.Sink.shows c.hold_session.new.out) (g.E.Sink.shows c.args.err.now) (g.E.Sink.shows c.hold_session.new.err) (g.K.Link.shows c.args.keeper.now) (g.K.Link.shows c.answer.new.keeper) (map g.L.Link.shows c.args.links.now) (map g.L.Link.shows c.answer.new.links) c.hold_session.result
    c.hold_session.ensures.prints c.hold_session.ensures.silent c.hold_session.ensures.refused c.hold_session.ensures.outside c.hold_session.ensures.memory c.hold_session.ensures.known

pub returns-in-Err-Usage-clause-usage : goal.returns-in-Err-Usage-clause-usage
returns-in-Err-Usage-clause-usage g c = λ _.
    usage_end _ _ _ _ _ _ _ _ _ _ (meant (map string_bytes c.args.words.now))
    (subst (λ (s : Stop). StopsMeant (meant (map string_bytes c.args.words.now)) (lent (g.S.Source.shows c.args.source.now) (g.K.Link.shows c.args.keeper.now) (map g.L.Link.shows c.args.links.now)) (lent (g.S.Source.shows c.answer.new.source) (g.K.Link.shows c.answer.new.keeper) (map g.L.Link.shows c.answer.new.links)) s) c.in-Err-Usage.field-0-is c.in-Err-Usage.ensures.stops) refl
    (subst (λ (line : List ℕ). Says (g.E.Sink.shows c.args.err.now) (g.E.Sink.shows c.say-in-Err-Usage.new.err) line) c.as_bytes.ensures.value c.say-in-Err-Usage.ensures)

pub returns-in-Err-NoMemory-clause-memory : goal.returns-in-Err-NoMemory-clause-memory
returns-in-Err-NoMemory-clause-memory g c = λ _.
    memory_end _ _ _ _ _ _ _ _ _ _ (meant (map string_bytes c.args.words.now)) (subst (λ (s : Stop). StopsMeant (meant (map string_bytes c.args.words.now)) (lent (g.S.Source.shows c.args.source.now) (g.K.Link.shows c.args.keeper.now) (map g.L.Link.shows c.args.links.now)) (lent (g.S.Source.shows c.answer.new.source) (g.K.Link.shows c.answer.new.keeper) (map g.L.Link.shows c.answer.new.links)) s) c.in-Err-NoMemory.field-0-is c.in-Err-NoMemory.ensures.stops) refl c.say-in-Err-NoMemory.ensures

pub returns-in-Err-NoMemory-clause-calm : goal.returns-in-Err-NoMemory-clause-calm
returns-in-Err-NoMemory-clause-calm g c = λ _.
    memory_counts _ _ _ _ _ _ _ _ _ _ (meant (map string_bytes c.args.words.now)) (subst (λ (s : Stop). StopsMeant (meant (map string_bytes c.args.words.now)) (lent (g.S.Source.shows c.args.source.now) (g.K.Link.shows c.args.keeper.now) (map g.L.Link.shows c.args.links.now)) (lent (g.S.Source.shows c.answer.new.source) (g.K.Link.shows c.answer.new.keeper) (map g.L.Link.shows c.answer.new.links)) s) c.in-Err-NoMemory.field-0-is c.in-Err-NoMemory.ensures.stops) refl

pub returns-in-Err-Refused-clause-refused : goal.returns-in-Err-Refused-clause-refused
returns-in-Err-Refused-clause-refused g c = λ _.
    let stop : c.in-Err-Refused.field-0 ≡ Stop.Refused c.in-Err-Refused.refusal = cc (c.in-Err-Refused.field-0-is) in
    refused_end _ _ _ _ _ _ _ _ _ _ (meant (map string_bytes c.args.words.now)) c.in-Err-Refused.refusal (subst (λ (s : Stop). StopsMeant (meant (map string_bytes c.args.words.now)) (lent (g.S.Source.shows c.args.source.now) (g.K.Link.shows c.args.keeper.now) (map g.L.Link.shows c.args.links.now)) (lent (g.S.Source.shows c.answer.new.source) (g.K.Link.shows c.answer.new.keeper) (map g.L.Link.shows c.answer.new.links)) s) stop c.in-Err-Refused.ensures.stops) refl
    (subst (λ (line : List ℕ). Says (g.E.Sink.shows c.args.err.now) (g.E.Sink.shows c.say-in-Err-Refused.new.err) line) (c.bytes.ensures ∙ c.report.ensures) c.say-in-Err-Refused.ensures)

pub returns-in-Err-Refused-clause-complete : goal.returns-in-Err-Refused-clause-complete
returns-in-Err-Refused-clause-complete g c =
    let stop : c.in-Err-Refused.field-0 ≡ Stop.Refused c.in-Err-Refused.refusal = cc (c.in-Err-Refused.field-0-is) in
    refused_incomplete _ _ _ _ _ _ _ _ _ _ (meant (map string_bytes c.args.words.now)) c.in-Err-Refused.refusal (subst (λ (s : Stop). StopsMeant (meant (map string_bytes c.args.words.now)) (lent (g.S.Source.shows c.args.source.now) (g.K.Link.shows c.args.keeper.now) (map g.L.Link.shows c.args.links.now)) (lent (g.S.Source.shows c.answer.new.source) (g.K.Link.shows c.answer.new.keeper) (map g.L.Link.shows c.answer.new.links)) s) stop c.in-Err-Refused.ensures.stops)

pub returns-in-Err-Usage-clause-calm : goal.returns-in-Err-Usage-clause-calm
returns-in-Err-Usage-clause-calm g c = λ _.
    usage_counts _ _ _ _ _ _ _ _ _ _ (meant (map string_bytes c.args.words.now)) (subst (λ (s : Stop). StopsMeant (meant (map string_bytes c.args.words.now)) (lent (g.S.Source.shows c.args.source.now) (g.K.Link.shows c.args.keeper.now) (map g.L.Link.shows c.args.links.now)) (lent (g.S.Source.shows c.answer.new.source) (g.K.Link.shows c.answer.new.keeper) (map g.L.Link.shows c.answer.new.links)) s) c.in-Err-Usage.field-0-is c.in-Err-Usage.ensures.stops) refl

pub returns-in-Err-Source-clause-outside : goal.returns-in-Err-Source-clause-outside
returns-in-Err-Source-clause-outside g c = λ _.
    source_failed _ _ _ _ _ _ _ _ _ _ (meant (map string_bytes c.args.words.now)) (subst (λ (s : Stop). StopsMeant (meant (map string_bytes c.args.words.now)) (lent (g.S.Source.shows c.args.source.now) (g.K.Link.shows c.args.keeper.now) (map g.L.Link.shows c.args.links.now)) (lent (g.S.Source.shows c.answer.new.source) (g.K.Link.shows c.answer.new.keeper) (map g.L.Link.shows c.answer.new.links)) s) c.in-Err-Source.field-0-is c.in-Err-Source.ensures.stops) refl c.say-in-Err-Source.ensures

pub returns-in-Err-Source-clause-complete : goal.returns-in-Err-Source-clause-complete
returns-in-Err-Source-clause-complete g c =
    source_incomplete _ _ _ _ _ _ _ _ _ _ (meant (map string_bytes c.args.words.now)) 4 (subst (λ (s : Stop). StopsMeant (meant (map string_bytes c.args.words.now)) (lent (g.S.Source.shows c.args.source.now) (g.K.Link.shows c.args.keeper.now) (map g.L.Link.shows c.args.links.now)) (lent (g.S.Source.shows c.answer.new.source) (g.K.Link.shows c.answer.new.keeper) (map g.L.Link.shows c.answer.new.links)) s) c.in-Err-Source.field-0-is c.in-Err-Source.ensures.stops)

pub returns-in-Err-Keeper-clause-outside : goal.returns-in-Err-Keeper-clause-outside
returns-in-Err-Keeper-clause-outside g c = λ _.
    keeper_failed _ _ _ _ _ _ _ _ _ _ (meant (map string_bytes c.args.words.now)) (subst (λ (s : Stop). StopsMeant (meant (map string_bytes c.args.words.now)) (lent (g.S.Source.shows c.args.source.now) (g.K.Link.shows c.args.keeper.now) (map g.L.Link.shows c.args.links.now)) (lent (g.S.Source.shows c.answer.new.source) (g.K.Link.shows c.answer.new.keeper) (map g.L.Link.shows c.answer.new.links)) s) c.in-Err-Keeper.field-0-is c.in-Err-Keeper.ensures.stops) refl c.say-in-Err-Keeper.ensures

pub returns-in-Err-Keeper-clause-complete : goal.returns-in-Err-Keeper-clause-complete
returns-in-Err-Keeper-clause-complete g c =
    keeper_incomplete _ _ _ _ _ _ _ _ _ _ (meant (map string_bytes c.args.words.now)) 4 (subst (λ (s : Stop). StopsMeant (meant (map string_bytes c.args.words.now)) (lent (g.S.Source.shows c.args.source.now) (g.K.Link.shows c.args.keeper.now) (map g.L.Link.shows c.args.links.now)) (lent (g.S.Source.shows c.answer.new.source) (g.K.Link.shows c.answer.new.keeper) (map g.L.Link.shows c.answer.new.links)) s) c.in-Err-Keeper.field-0-is c.in-Err-Keeper.ensures.stops)

pub returns-in-Err-Refused-clause-calm : goal.returns-in-Err-Refused-clause-calm
returns-in-Err-Refused-clause-calm g c = λ _.
    let stop : c.in-Err-Refused.field-0 ≡ Stop.Refused c.in-Err-Refused.refusal = cc (c.in-Err-Refused.field-0-is) in
    refused_counts _ _ _ _ _ _ _ _ _ _ (meant (map string_bytes c.args.words.now)) c.in-Err-Refused.refusal (subst (λ (s : Stop). StopsMeant (meant (map string_bytes c.args.words.now)) (lent (g.S.Source.shows c.args.source.now) (g.K.Link.shows c.args.keeper.now) (map g.L.Link.shows c.args.links.now)) (lent (g.S.Source.shows c.answer.new.source) (g.K.Link.shows c.answer.new.keeper) (map g.L.Link.shows c.answer.new.links)) s) stop c.in-Err-Refused.ensures.stops) refl

pub returns-in-Ok-left_text-clause-left : goal.returns-in-Ok-left_text-clause-left
returns-in-Ok-left_text-clause-left g c = λ _.
    let stop : c.in-Err-Left.field-0 ≡ Stop.Left c.in-Err-Left.left = cc (c.in-Err-Left.field-0-is) in
    left_end _ _ _ _ _ _ _ _ _ _ (meant (map string_bytes c.args.words.now)) c.in-Err-Left.left (subst (λ (s : Stop). StopsMeant (meant (map string_bytes c.args.words.now)) (lent (g.S.Source.shows c.args.source.now) (g.K.Link.shows c.args.keeper.now) (map g.L.Link.shows c.args.links.now)) (lent (g.S.Source.shows c.answer.new.source) (g.K.Link.shows c.answer.new.keeper) (map g.L.Link.shows c.answer.new.links)) s) stop c.in-Err-Left.ensures.stops) refl
    (subst (λ (line : List ℕ). Says (g.E.Sink.shows c.args.err.now) (g.E.Sink.shows c.say-in-Ok-left_text.new.err) line) (c.as_bytes-in-Ok-left_text.ensures.value ∙ (c.in-Ok-left_text.ensures ∙ ap (λ (left : List LeftTablet). left_text (all_left_view left)) c.deref.ensures.value)) c.say-in-Ok-left_text.ensures)

pub returns-in-Ok-left_text-clause-calm : goal.returns-in-Ok-left_text-clause-calm
returns-in-Ok-left_text-clause-calm g c = λ _.
    let stop : c.in-Err-Left.field-0 ≡ Stop.Left c.in-Err-Left.left = cc (c.in-Err-Left.field-0-is) in
    left_counts _ _ _ _ _ _ _ _ _ _ (meant (map string_bytes c.args.words.now)) c.in-Err-Left.left (subst (λ (s : Stop). StopsMeant (meant (map string_bytes c.args.words.now)) (lent (g.S.Source.shows c.args.source.now) (g.K.Link.shows c.args.keeper.now) (map g.L.Link.shows c.args.links.now)) (lent (g.S.Source.shows c.answer.new.source) (g.K.Link.shows c.answer.new.keeper) (map g.L.Link.shows c.answer.new.links)) s) stop c.in-Err-Left.ensures.stops) refl

pub returns-in-Err-Left-clause-calm : goal.returns-in-Err-Left-clause-calm
returns-in-Err-Left-clause-calm g c = λ _.
    let stop : c.in-Err-Left.field-0 ≡ Stop.Left c.in-Err-Left.left = cc (c.in-Err-Left.field-0-is) in
    left_counts _ _ _ _ _ _ _ _ _ _ (meant (map string_bytes c.args.words.now)) c.in-Err-Left.left (subst (λ (s : Stop). StopsMeant (meant (map string_bytes c.args.words.now)) (lent (g.S.Source.shows c.args.source.now) (g.K.Link.shows c.args.keeper.now) (map g.L.Link.shows c.args.links.now)) (lent (g.S.Source.shows c.answer.new.source) (g.K.Link.shows c.answer.new.keeper) (map g.L.Link.shows c.answer.new.links)) s) stop c.in-Err-Left.ensures.stops) refl

pub returns-in-Err-Left-clause-memory : goal.returns-in-Err-Left-clause-memory
returns-in-Err-Left-clause-memory g c = λ _.
    let stop : c.in-Err-Left.field-0 ≡ Stop.Left c.in-Err-Left.left = cc (c.in-Err-Left.field-0-is) in
    left_memory _ _ _ _ _ _ _ _ _ _ (meant (map string_bytes c.args.words.now)) c.in-Err-Left.left (subst (λ (s : Stop). StopsMeant (meant (map string_bytes c.args.words.now)) (lent (g.S.Source.shows c.args.source.now) (g.K.Link.shows c.args.keeper.now) (map g.L.Link.shows c.args.links.now)) (lent (g.S.Source.shows c.answer.new.source) (g.K.Link.shows c.answer.new.keeper) (map g.L.Link.shows c.answer.new.links)) s) stop c.in-Err-Left.ensures.stops) refl
    c.say-in-Err-left_text.ensures

pub returns-clause-left : goal.returns-clause-left
returns-clause-left g c = λ _.
    let stop : c.in-Err-LeftFile.field-0 ≡ Stop.LeftFile c.in-Err-LeftFile.cause = cc (c.in-Err-LeftFile.field-0-is) in
    file_end _ _ _ _ _ _ _ _ _ _ (meant (map string_bytes c.args.words.now)) c.in-Err-LeftFile.cause (subst (λ (s : Stop). StopsMeant (meant (map string_bytes c.args.words.now)) (lent (g.S.Source.shows c.args.source.now) (g.K.Link.shows c.args.keeper.now) (map g.L.Link.shows c.args.links.now)) (lent (g.S.Source.shows c.answer.new.source) (g.K.Link.shows c.answer.new.keeper) (map g.L.Link.shows c.answer.new.links)) s) stop c.in-Err-LeftFile.ensures.stops) refl
    (subst (λ (line : List ℕ). Says (g.E.Sink.shows c.args.err.now) (g.E.Sink.shows c.say-in-Err-LeftFile.new.err) line) (c.bytes-in-Err-LeftFile.ensures ∙ c.left_file_report.ensures) c.say-in-Err-LeftFile.ensures)

pub returns-clause-calm : goal.returns-clause-calm
returns-clause-calm g c = λ _.
    let stop : c.in-Err-LeftFile.field-0 ≡ Stop.LeftFile c.in-Err-LeftFile.cause = cc (c.in-Err-LeftFile.field-0-is) in
    file_counts _ _ _ _ _ _ _ _ _ _ (meant (map string_bytes c.args.words.now)) c.in-Err-LeftFile.cause (subst (λ (s : Stop). StopsMeant (meant (map string_bytes c.args.words.now)) (lent (g.S.Source.shows c.args.source.now) (g.K.Link.shows c.args.keeper.now) (map g.L.Link.shows c.args.links.now)) (lent (g.S.Source.shows c.answer.new.source) (g.K.Link.shows c.answer.new.keeper) (map g.L.Link.shows c.answer.new.links)) s) stop c.in-Err-LeftFile.ensures.stops) refl

pub returns-clause-complete : goal.returns-clause-complete
returns-clause-complete g c =
    let stop : c.in-Err-LeftFile.field-0 ≡ Stop.LeftFile c.in-Err-LeftFile.cause = cc (c.in-Err-LeftFile.field-0-is) in
    file_incomplete _ _ _ _ _ _ _ _ _ _ (meant (map string_bytes c.args.words.now)) c.in-Err-LeftFile.cause (subst (λ (s : Stop). StopsMeant (meant (map string_bytes c.args.words.now)) (lent (g.S.Source.shows c.args.source.now) (g.K.Link.shows c.args.keeper.now) (map g.L.Link.shows c.args.links.now)) (lent (g.S.Source.shows c.answer.new.source) (g.K.Link.shows c.answer.new.keeper) (map g.L.Link.shows c.answer.new.links)) s) stop c.in-Err-LeftFile.ensures.stops)

pub returns-in-Ok-left_text-clause-served : goal.returns-in-Ok-left_text-clause-served
returns-in-Ok-left_text-clause-served g c = served_by _ _ _ 3 (returns-in-Ok-left_text-clause-left g c refl)

pub returns-in-Ok-left_text-clause-complete : goal.returns-in-Ok-left_text-clause-complete
returns-in-Ok-left_text-clause-complete g c = left_complete _ _ _ (returns-in-Ok-left_text-clause-left g c refl)

pub returns-clause-served : goal.returns-clause-served
returns-clause-served g c = served_by _ _ _ 3 (returns-clause-left g c refl)

pub returns-in-Err-Usage-clause-complete : goal.returns-in-Err-Usage-clause-complete
returns-in-Err-Usage-clause-complete g c =
    usage_incomplete _ _ _ _ _ _ _ _ _ _ (meant (map string_bytes c.args.words.now)) 1 (subst (λ (s : Stop). StopsMeant (meant (map string_bytes c.args.words.now)) (lent (g.S.Source.shows c.args.source.now) (g.K.Link.shows c.args.keeper.now) (map g.L.Link.shows c.args.links.now)) (lent (g.S.Source.shows c.answer.new.source) (g.K.Link.shows c.answer.new.keeper) (map g.L.Link.shows c.answer.new.links)) s) c.in-Err-Usage.field-0-is c.in-Err-Usage.ensures.stops)

pub returns-in-Ok-clause-served : goal.returns-in-Ok-clause-served
returns-in-Ok-clause-served g c = served_else _ _ 0 refl refl

pub returns-in-Ok-Whole-clause-served : goal.returns-in-Ok-Whole-clause-served
returns-in-Ok-Whole-clause-served g c = served_else _ _ 4 refl refl

pub returns-in-Err-Usage-clause-served : goal.returns-in-Err-Usage-clause-served
returns-in-Err-Usage-clause-served g c = served_else _ _ 1 refl refl

pub returns-in-Err-NoMemory-clause-served : goal.returns-in-Err-NoMemory-clause-served
returns-in-Err-NoMemory-clause-served g c = served_else _ _ 5 refl refl

pub returns-in-Err-Source-clause-served : goal.returns-in-Err-Source-clause-served
returns-in-Err-Source-clause-served g c = served_else _ _ 4 refl refl

pub returns-in-Err-Keeper-clause-served : goal.returns-in-Err-Keeper-clause-served
returns-in-Err-Keeper-clause-served g c = served_else _ _ 4 refl refl

pub returns-in-Err-Refused-clause-served : goal.returns-in-Err-Refused-clause-served
returns-in-Err-Refused-clause-served g c = served_else _ _ 2 refl refl

pub returns-in-Err-Left-clause-served : goal.returns-in-Err-Left-clause-served
returns-in-Err-Left-clause-served g c = served_else _ _ 5 refl refl

pub returns-in-Ok-write_all-clause-most : goal.returns-in-Ok-write_all-clause-most
returns-in-Ok-write_all-clause-most g c = λ _.
    let stop : c.in-Err-Most.field-0 ≡ Stop.Most c.in-Err-Most.text c.in-Err-Most.left = cc (c.in-Err-Most.field-0-is) in
    most_end _ _ _ _ _ _ _ _ _ _ (meant (map string_bytes c.args.words.now)) c.in-Err-Most.text c.in-Err-Most.left (subst (λ (s : Stop). StopsMeant (meant (map string_bytes c.args.words.now)) (lent (g.S.Source.shows c.args.source.now) (g.K.Link.shows c.args.keeper.now) (map g.L.Link.shows c.args.links.now)) (lent (g.S.Source.shows c.answer.new.source) (g.K.Link.shows c.answer.new.keeper) (map g.L.Link.shows c.answer.new.links)) s) stop c.in-Err-Most.ensures.stops)
    (subst (AddedWhole (g.O.Sink.shows c.args.out.now) (g.O.Sink.shows c.write_all.new.out)) c.as_bytes-in-Ok-left_text-2.ensures.value c.in-Ok-write_all.ensures.whole)
    (subst (λ (line : List ℕ). Says (g.E.Sink.shows c.args.err.now) (g.E.Sink.shows c.say-in-Ok-write_all.new.err) line) (c.as_bytes-in-Ok-write_all.ensures.value ∙ (c.in-Ok-left_text-2.ensures ∙ ap (λ (left : List LeftTablet). left_text (all_left_view left)) c.deref-in-Err-Most.ensures.value)) c.say-in-Ok-write_all.ensures)

pub returns-in-Ok-write_all-clause-calm : goal.returns-in-Ok-write_all-clause-calm
returns-in-Ok-write_all-clause-calm g c = λ _.
    let stop : c.in-Err-Most.field-0 ≡ Stop.Most c.in-Err-Most.text c.in-Err-Most.left = cc (c.in-Err-Most.field-0-is) in
    most_counts _ _ _ _ _ _ _ _ _ _ (meant (map string_bytes c.args.words.now)) c.in-Err-Most.text c.in-Err-Most.left (subst (λ (s : Stop). StopsMeant (meant (map string_bytes c.args.words.now)) (lent (g.S.Source.shows c.args.source.now) (g.K.Link.shows c.args.keeper.now) (map g.L.Link.shows c.args.links.now)) (lent (g.S.Source.shows c.answer.new.source) (g.K.Link.shows c.answer.new.keeper) (map g.L.Link.shows c.answer.new.links)) s) stop c.in-Err-Most.ensures.stops) c.in-Ok-write_all.ensures.calm

pub returns-in-Ok-write_all-clause-served : goal.returns-in-Ok-write_all-clause-served
returns-in-Ok-write_all-clause-served g c = most_served _ _ _ 6 (returns-in-Ok-write_all-clause-most g c refl)

pub returns-in-Ok-write_all-clause-complete : goal.returns-in-Ok-write_all-clause-complete
returns-in-Ok-write_all-clause-complete g c = most_complete _ _ _ (returns-in-Ok-write_all-clause-most g c refl)

pub returns-in-Ok-left_text-2-clause-outside : goal.returns-in-Ok-left_text-2-clause-outside
returns-in-Ok-left_text-2-clause-outside g c = λ _.
    let stop : c.in-Err-Most.field-0 ≡ Stop.Most c.in-Err-Most.text c.in-Err-Most.left = cc (c.in-Err-Most.field-0-is) in
    most_failed _ _ _ _ _ _ _ _ _ _ (meant (map string_bytes c.args.words.now)) c.in-Err-Most.text c.in-Err-Most.left (subst (λ (s : Stop). StopsMeant (meant (map string_bytes c.args.words.now)) (lent (g.S.Source.shows c.args.source.now) (g.K.Link.shows c.args.keeper.now) (map g.L.Link.shows c.args.links.now)) (lent (g.S.Source.shows c.answer.new.source) (g.K.Link.shows c.answer.new.keeper) (map g.L.Link.shows c.answer.new.links)) s) stop c.in-Err-Most.ensures.stops)
    (subst (AddedFront (g.O.Sink.shows c.args.out.now) (g.O.Sink.shows c.write_all.new.out)) c.as_bytes-in-Ok-left_text-2.ensures.value c.in-Err-write_all.ensures.front) c.in-Err-write_all.ensures.cause c.say-in-Err-write_all.ensures

pub returns-in-Ok-left_text-2-clause-served : goal.returns-in-Ok-left_text-2-clause-served
returns-in-Ok-left_text-2-clause-served g c = served_else _ _ 4 refl refl

pub returns-in-Err-Most-clause-memory : goal.returns-in-Err-Most-clause-memory
returns-in-Err-Most-clause-memory g c = λ _.
    let stop : c.in-Err-Most.field-0 ≡ Stop.Most c.in-Err-Most.text c.in-Err-Most.left = cc (c.in-Err-Most.field-0-is) in
    most_memory _ _ _ _ _ _ _ _ _ _ (meant (map string_bytes c.args.words.now)) c.in-Err-Most.text c.in-Err-Most.left (subst (λ (s : Stop). StopsMeant (meant (map string_bytes c.args.words.now)) (lent (g.S.Source.shows c.args.source.now) (g.K.Link.shows c.args.keeper.now) (map g.L.Link.shows c.args.links.now)) (lent (g.S.Source.shows c.answer.new.source) (g.K.Link.shows c.answer.new.keeper) (map g.L.Link.shows c.answer.new.links)) s) stop c.in-Err-Most.ensures.stops) refl c.say-in-Err-left_text-2.ensures

pub returns-in-Err-Most-clause-calm : goal.returns-in-Err-Most-clause-calm
returns-in-Err-Most-clause-calm g c = λ _.
    let stop : c.in-Err-Most.field-0 ≡ Stop.Most c.in-Err-Most.text c.in-Err-Most.left = cc (c.in-Err-Most.field-0-is) in
    most_counts _ _ _ _ _ _ _ _ _ _ (meant (map string_bytes c.args.words.now)) c.in-Err-Most.text c.in-Err-Most.left (subst (λ (s : Stop). StopsMeant (meant (map string_bytes c.args.words.now)) (lent (g.S.Source.shows c.args.source.now) (g.K.Link.shows c.args.keeper.now) (map g.L.Link.shows c.args.links.now)) (lent (g.S.Source.shows c.answer.new.source) (g.K.Link.shows c.answer.new.keeper) (map g.L.Link.shows c.answer.new.links)) s) stop c.in-Err-Most.ensures.stops) refl

pub returns-in-Err-Most-clause-served : goal.returns-in-Err-Most-clause-served
returns-in-Err-Most-clause-served g c = served_else _ _ 5 refl refl
