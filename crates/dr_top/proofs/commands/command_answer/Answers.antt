use Rattle.std.proofs.Common.{refl, sym, ap, subst, inr, map, slice_set, get_or, drop, arith}
use Rattle.std.specs.Prelude.{IfErr, IfOk, Some, []}
use Rattle.dr_commands.specs.Load.{load_meaning, load_view}
use Rattle.dr_commands.specs.Query.{query_meaning, query_view}
use Rattle.dr_commands.specs.Ask.{ask_meaning, ask_view}
use Rattle.dr_commands.specs.Dump.{dump_meaning, dump_view}
use Rattle.dr_commands.specs.Stripe.{stripe_meaning, stripe_view}
use Rattle.dr_commands.specs.Fsm.{fsm_meaning, fsm_view}
use Rattle.dr_commands.specs.ShowSchema.{show_schema_meaning, show_schema_view}
use Rattle.dr_commands.specs.Explain.{explain_meaning, explain_view}
use Rattle.dr_commands.specs.Gen.{gen_meaning, gen_view}
use Rattle.dr_commands.specs.Trial.{trial_meaning, trial_view}
use Rattle.dr_commands.specs.Commands.{CommandWords, meaning_of, command_view}
use Rattle.dr_top.specs.Printed.{printed}
use Rattle.dr_top.specs.World.{lent, IsFileOf, outcome_on, WithEach}
use Rattle.dr_top.specs.Reading.{HasText}
use Rattle.dr_top.specs.Answers.{Finishes, AsksEach, AsksLink}
use Rattle.dr_top.specs.Stops.{StopsWith, StopsEarly, StopsAsking}
use Rattle.dr_top.proofs.OutcomeLemmas.{err_so, ok_so, ok_and}
use Rattle.dr_top.proofs.CommandLemmas.{early_stops, alone_finishes, putting_finishes, reading_finishes, reading_stops, asking_finishes, asking_stops, asking_reads}
use Rattle.dr_top.proofs.FirstLinkLemmas.{first_of, first_text, first_stops}
use Rattle.dr_top.proofs.LinkLemmas.{none_asked_of, first_asked}
use Rattle.dr_top.proofs.LoadEnds.{load_links}
use Rattle.dr_top.proofs.AskEnds.{ask_puts}
use Rattle.dr_top.proofs.StripeEnds.{stripe_puts}
use Rattle.dr_top.proofs.DumpEnds.{dump_puts, dump_of_first}
use Rattle.dr_top.proofs.QueryEnds.{query_puts}
use Rattle.dr_top.proofs.SchemaEnds.{schema_finishes, schema_ends}
use Rattle.dr_top.proofs.commands.command_answer.Goals as goal

pub returns-in-Load-clause-text : goal.returns-in-Load-clause-text
returns-in-Load-clause-text g c =
    let before = lent (g.S.Source.shows c.args.source.now) (g.K.Link.shows c.args.keeper.now) (map g.L.Link.shows c.args.links.now) in
    let after = lent (g.S.Source.shows c.answer.new.source) (g.K.Link.shows c.answer.new.keeper) (map g.L.Link.shows c.args.links.now) in
    subst (λ (w : CommandWords). IsFileOf (meaning_of w) before.keeper c.args.file.now → IfOk c.answer.result (λ t. Finishes (meaning_of w) before after (printed t))) (sym (ap command_view c.in-Load.is))
    (λ is. ok_and _ _ _ c.answer.result (λ t. putting_finishes (load_meaning (load_view c.in-Load.load)) before c.args.file.now is after.input after.keeper (printed t) refl) c.answer.ensures.opened c.answer.ensures.text) c.requires.file

pub returns-in-Load-clause-stops : goal.returns-in-Load-clause-stops
returns-in-Load-clause-stops g c =
    let before = lent (g.S.Source.shows c.args.source.now) (g.K.Link.shows c.args.keeper.now) (map g.L.Link.shows c.args.links.now) in
    let after = lent (g.S.Source.shows c.answer.new.source) (g.K.Link.shows c.answer.new.keeper) (map g.L.Link.shows c.args.links.now) in
    subst (λ (w : CommandWords). IsFileOf (meaning_of w) before.keeper c.args.file.now → IfErr c.answer.result (StopsWith (meaning_of w) before after)) (sym (ap command_view c.in-Load.is))
    (λ is. err_so _ _ c.answer.result (load_links (load_view c.in-Load.load) before.input after.input before.keeper after.keeper before.links) c.answer.ensures.stops) c.requires.file

pub returns-in-Load-clause-reads : goal.returns-in-Load-clause-reads
returns-in-Load-clause-reads g c = none_asked_of (meaning_of (command_view c.args.command.now)) (lent (g.S.Source.shows c.args.source.now) (g.K.Link.shows c.args.keeper.now) (map g.L.Link.shows c.args.links.now)) (lent (g.S.Source.shows c.answer.new.source) (g.K.Link.shows c.answer.new.keeper) (map g.L.Link.shows c.args.links.now)) refl

pub returns-in-Ask-clause-text : goal.returns-in-Ask-clause-text
returns-in-Ask-clause-text g c =
    let before = lent (g.S.Source.shows c.args.source.now) (g.K.Link.shows c.args.keeper.now) (map g.L.Link.shows c.args.links.now) in
    let after = lent (g.S.Source.shows c.answer-in-Ask.new.source) (g.K.Link.shows c.args.keeper.now) (map g.L.Link.shows c.args.links.now) in
    subst (λ (w : CommandWords). IsFileOf (meaning_of w) before.keeper c.args.file.now → IfOk c.answer-in-Ask.result (λ t. Finishes (meaning_of w) before after (printed t))) (sym (ap command_view c.in-Ask.is))
    (λ is. ok_and _ _ _ c.answer-in-Ask.result (λ t. reading_finishes (ask_meaning (ask_view c.in-Ask.ask)) before c.args.file.now is after.input refl (ask_puts (ask_view c.in-Ask.ask)) (printed t)) c.answer-in-Ask.ensures.opened c.answer-in-Ask.ensures.text) c.requires.file

pub returns-in-Ask-clause-stops : goal.returns-in-Ask-clause-stops
returns-in-Ask-clause-stops g c =
    let before = lent (g.S.Source.shows c.args.source.now) (g.K.Link.shows c.args.keeper.now) (map g.L.Link.shows c.args.links.now) in
    let after = lent (g.S.Source.shows c.answer-in-Ask.new.source) (g.K.Link.shows c.args.keeper.now) (map g.L.Link.shows c.args.links.now) in
    subst (λ (w : CommandWords). IsFileOf (meaning_of w) before.keeper c.args.file.now → IfErr c.answer-in-Ask.result (StopsWith (meaning_of w) before after)) (sym (ap command_view c.in-Ask.is))
    (λ is. err_so _ _ c.answer-in-Ask.result (λ stop. reading_stops (ask_meaning (ask_view c.in-Ask.ask)) before c.args.file.now is after.input refl (ask_puts (ask_view c.in-Ask.ask)) stop refl) c.answer-in-Ask.ensures.stops) c.requires.file

pub returns-in-Ask-clause-reads : goal.returns-in-Ask-clause-reads
returns-in-Ask-clause-reads g c = none_asked_of (meaning_of (command_view c.args.command.now)) (lent (g.S.Source.shows c.args.source.now) (g.K.Link.shows c.args.keeper.now) (map g.L.Link.shows c.args.links.now)) (lent (g.S.Source.shows c.answer-in-Ask.new.source) (g.K.Link.shows c.args.keeper.now) (map g.L.Link.shows c.args.links.now)) refl

pub returns-in-Stripe-clause-text : goal.returns-in-Stripe-clause-text
returns-in-Stripe-clause-text g c =
    let before = lent (g.S.Source.shows c.args.source.now) (g.K.Link.shows c.args.keeper.now) (map g.L.Link.shows c.args.links.now) in
    let after = lent (g.S.Source.shows c.answer-in-Stripe.new.source) (g.K.Link.shows c.args.keeper.now) (map g.L.Link.shows c.args.links.now) in
    subst (λ (w : CommandWords). IsFileOf (meaning_of w) before.keeper c.args.file.now → IfOk c.answer-in-Stripe.result (λ t. Finishes (meaning_of w) before after (printed t))) (sym (ap command_view c.in-Stripe.is))
    (λ is. ok_and _ _ _ c.answer-in-Stripe.result (λ t. reading_finishes (stripe_meaning (stripe_view c.in-Stripe.stripe)) before c.args.file.now is after.input refl (stripe_puts (stripe_view c.in-Stripe.stripe)) (printed t)) c.answer-in-Stripe.ensures.opened c.answer-in-Stripe.ensures.text) c.requires.file

pub returns-in-Stripe-clause-stops : goal.returns-in-Stripe-clause-stops
returns-in-Stripe-clause-stops g c =
    let before = lent (g.S.Source.shows c.args.source.now) (g.K.Link.shows c.args.keeper.now) (map g.L.Link.shows c.args.links.now) in
    let after = lent (g.S.Source.shows c.answer-in-Stripe.new.source) (g.K.Link.shows c.args.keeper.now) (map g.L.Link.shows c.args.links.now) in
    subst (λ (w : CommandWords). IsFileOf (meaning_of w) before.keeper c.args.file.now → IfErr c.answer-in-Stripe.result (StopsWith (meaning_of w) before after)) (sym (ap command_view c.in-Stripe.is))
    (λ is. err_so _ _ c.answer-in-Stripe.result (λ stop. reading_stops (stripe_meaning (stripe_view c.in-Stripe.stripe)) before c.args.file.now is after.input refl (stripe_puts (stripe_view c.in-Stripe.stripe)) stop refl) c.answer-in-Stripe.ensures.stops) c.requires.file

pub returns-in-Stripe-clause-reads : goal.returns-in-Stripe-clause-reads
returns-in-Stripe-clause-reads g c = none_asked_of (meaning_of (command_view c.args.command.now)) (lent (g.S.Source.shows c.args.source.now) (g.K.Link.shows c.args.keeper.now) (map g.L.Link.shows c.args.links.now)) (lent (g.S.Source.shows c.answer-in-Stripe.new.source) (g.K.Link.shows c.args.keeper.now) (map g.L.Link.shows c.args.links.now)) refl

pub returns-in-Fsm-clause-text : goal.returns-in-Fsm-clause-text
returns-in-Fsm-clause-text g c =
    let before = lent (g.S.Source.shows c.args.source.now) (g.K.Link.shows c.args.keeper.now) (map g.L.Link.shows c.args.links.now) in
    subst (λ (w : CommandWords). IsFileOf (meaning_of w) before.keeper c.args.file.now → IfOk c.answer-in-Fsm.result (λ t. Finishes (meaning_of w) before before (printed t))) (sym (ap command_view c.in-Fsm.is))
    (λ is. ok_so _ _ c.answer-in-Fsm.result (λ t. alone_finishes (fsm_meaning (fsm_view c.in-Fsm.fsm)) before c.args.file.now is (printed t) refl (λ input. refl)) c.answer-in-Fsm.ensures.text) c.requires.file

pub returns-in-Fsm-clause-stops : goal.returns-in-Fsm-clause-stops
returns-in-Fsm-clause-stops g c =
    let before = lent (g.S.Source.shows c.args.source.now) (g.K.Link.shows c.args.keeper.now) (map g.L.Link.shows c.args.links.now) in
    subst (λ (w : CommandWords). IsFileOf (meaning_of w) before.keeper c.args.file.now → IfErr c.answer-in-Fsm.result (StopsWith (meaning_of w) before before)) (sym (ap command_view c.in-Fsm.is))
    (λ is. err_so _ _ c.answer-in-Fsm.result (early_stops (fsm_meaning (fsm_view c.in-Fsm.fsm)) before c.args.file.now is) c.answer-in-Fsm.ensures.stops) c.requires.file

pub returns-in-Fsm-clause-reads : goal.returns-in-Fsm-clause-reads
returns-in-Fsm-clause-reads g c = none_asked_of (meaning_of (command_view c.args.command.now)) (lent (g.S.Source.shows c.args.source.now) (g.K.Link.shows c.args.keeper.now) (map g.L.Link.shows c.args.links.now)) (lent (g.S.Source.shows c.args.source.now) (g.K.Link.shows c.args.keeper.now) (map g.L.Link.shows c.args.links.now)) refl

pub returns-in-Explain-clause-text : goal.returns-in-Explain-clause-text
returns-in-Explain-clause-text g c =
    let before = lent (g.S.Source.shows c.args.source.now) (g.K.Link.shows c.args.keeper.now) (map g.L.Link.shows c.args.links.now) in
    subst (λ (w : CommandWords). IsFileOf (meaning_of w) before.keeper c.args.file.now → IfOk c.answer-in-Explain.result (λ t. Finishes (meaning_of w) before before (printed t))) (sym (ap command_view c.in-Explain.is))
    (λ is. ok_so _ _ c.answer-in-Explain.result (λ t. alone_finishes (explain_meaning (explain_view c.in-Explain.explain)) before c.args.file.now is (printed t) refl (λ input. refl)) c.answer-in-Explain.ensures.text) c.requires.file

pub returns-in-Explain-clause-stops : goal.returns-in-Explain-clause-stops
returns-in-Explain-clause-stops g c =
    let before = lent (g.S.Source.shows c.args.source.now) (g.K.Link.shows c.args.keeper.now) (map g.L.Link.shows c.args.links.now) in
    subst (λ (w : CommandWords). IsFileOf (meaning_of w) before.keeper c.args.file.now → IfErr c.answer-in-Explain.result (StopsWith (meaning_of w) before before)) (sym (ap command_view c.in-Explain.is))
    (λ is. err_so _ _ c.answer-in-Explain.result (early_stops (explain_meaning (explain_view c.in-Explain.explain)) before c.args.file.now is) c.answer-in-Explain.ensures.stops) c.requires.file

pub returns-in-Explain-clause-reads : goal.returns-in-Explain-clause-reads
returns-in-Explain-clause-reads g c = none_asked_of (meaning_of (command_view c.args.command.now)) (lent (g.S.Source.shows c.args.source.now) (g.K.Link.shows c.args.keeper.now) (map g.L.Link.shows c.args.links.now)) (lent (g.S.Source.shows c.args.source.now) (g.K.Link.shows c.args.keeper.now) (map g.L.Link.shows c.args.links.now)) refl

pub returns-in-Gen-clause-text : goal.returns-in-Gen-clause-text
returns-in-Gen-clause-text g c =
    let before = lent (g.S.Source.shows c.args.source.now) (g.K.Link.shows c.args.keeper.now) (map g.L.Link.shows c.args.links.now) in
    subst (λ (w : CommandWords). IsFileOf (meaning_of w) before.keeper c.args.file.now → IfOk c.answer-in-Gen.result (λ t. Finishes (meaning_of w) before before (printed t))) (sym (ap command_view c.in-Gen.is))
    (λ is. ok_so _ _ c.answer-in-Gen.result (λ t. alone_finishes (gen_meaning (gen_view c.in-Gen.values)) before [] refl (printed t) refl (λ input. refl)) c.answer-in-Gen.ensures.text) c.requires.file

pub returns-in-Gen-clause-stops : goal.returns-in-Gen-clause-stops
returns-in-Gen-clause-stops g c =
    let before = lent (g.S.Source.shows c.args.source.now) (g.K.Link.shows c.args.keeper.now) (map g.L.Link.shows c.args.links.now) in
    subst (λ (w : CommandWords). IsFileOf (meaning_of w) before.keeper c.args.file.now → IfErr c.answer-in-Gen.result (StopsWith (meaning_of w) before before)) (sym (ap command_view c.in-Gen.is))
    (λ is. err_so _ _ c.answer-in-Gen.result (λ stop e. early_stops (gen_meaning (gen_view c.in-Gen.values)) before [] refl stop (subst (StopsEarly (outcome_on (gen_meaning (gen_view c.in-Gen.values)) [])) (sym e) tt)) c.answer-in-Gen.ensures.memory) c.requires.file

pub returns-in-Gen-clause-reads : goal.returns-in-Gen-clause-reads
returns-in-Gen-clause-reads g c = none_asked_of (meaning_of (command_view c.args.command.now)) (lent (g.S.Source.shows c.args.source.now) (g.K.Link.shows c.args.keeper.now) (map g.L.Link.shows c.args.links.now)) (lent (g.S.Source.shows c.args.source.now) (g.K.Link.shows c.args.keeper.now) (map g.L.Link.shows c.args.links.now)) refl

pub returns-in-Trial-clause-text : goal.returns-in-Trial-clause-text
returns-in-Trial-clause-text g c =
    let before = lent (g.S.Source.shows c.args.source.now) (g.K.Link.shows c.args.keeper.now) (map g.L.Link.shows c.args.links.now) in
    subst (λ (w : CommandWords). IsFileOf (meaning_of w) before.keeper c.args.file.now → IfOk c.answer-in-Trial.result (λ t. Finishes (meaning_of w) before before (printed t))) (sym (ap command_view c.in-Trial.is))
    (λ is. ok_so _ _ c.answer-in-Trial.result (λ t. alone_finishes (trial_meaning (trial_view c.in-Trial.trial)) before [] refl (printed t) refl (λ input. refl)) c.answer-in-Trial.ensures.text) c.requires.file

pub returns-in-Trial-clause-stops : goal.returns-in-Trial-clause-stops
returns-in-Trial-clause-stops g c =
    let before = lent (g.S.Source.shows c.args.source.now) (g.K.Link.shows c.args.keeper.now) (map g.L.Link.shows c.args.links.now) in
    subst (λ (w : CommandWords). IsFileOf (meaning_of w) before.keeper c.args.file.now → IfErr c.answer-in-Trial.result (StopsWith (meaning_of w) before before)) (sym (ap command_view c.in-Trial.is))
    (λ is. err_so _ _ c.answer-in-Trial.result (early_stops (trial_meaning (trial_view c.in-Trial.trial)) before [] refl) c.answer-in-Trial.ensures.stops) c.requires.file

pub returns-in-Trial-clause-reads : goal.returns-in-Trial-clause-reads
returns-in-Trial-clause-reads g c = none_asked_of (meaning_of (command_view c.args.command.now)) (lent (g.S.Source.shows c.args.source.now) (g.K.Link.shows c.args.keeper.now) (map g.L.Link.shows c.args.links.now)) (lent (g.S.Source.shows c.args.source.now) (g.K.Link.shows c.args.keeper.now) (map g.L.Link.shows c.args.links.now)) refl

pub returns-in-Query-clause-text : goal.returns-in-Query-clause-text
returns-in-Query-clause-text g c =
    let before = lent (g.S.Source.shows c.args.source.now) (g.K.Link.shows c.args.keeper.now) (map g.L.Link.shows c.args.links.now) in
    let after = lent (g.S.Source.shows c.args.source.now) (g.K.Link.shows c.args.keeper.now) (map g.L.Link.shows c.answer-in-Query.new.links) in
    subst (λ (w : CommandWords). IsFileOf (meaning_of w) before.keeper c.args.file.now → IfOk c.answer-in-Query.result (λ t. Finishes (meaning_of w) before after (printed t))) (sym (ap command_view c.in-Query.is))
    (λ is. ok_so _ _ c.answer-in-Query.result (λ t. asking_finishes (query_meaning (query_view c.in-Query.query)) before c.args.file.now is after.links (λ input. refl) (printed t) refl (query_puts (query_view c.in-Query.query))) c.answer-in-Query.ensures.text) c.requires.file

pub returns-in-Query-clause-stops : goal.returns-in-Query-clause-stops
returns-in-Query-clause-stops g c =
    let before = lent (g.S.Source.shows c.args.source.now) (g.K.Link.shows c.args.keeper.now) (map g.L.Link.shows c.args.links.now) in
    let after = lent (g.S.Source.shows c.args.source.now) (g.K.Link.shows c.args.keeper.now) (map g.L.Link.shows c.answer-in-Query.new.links) in
    subst (λ (w : CommandWords). IsFileOf (meaning_of w) before.keeper c.args.file.now → IfErr c.answer-in-Query.result (StopsWith (meaning_of w) before after)) (sym (ap command_view c.in-Query.is))
    (λ is. err_so _ _ c.answer-in-Query.result (λ stop. asking_stops (query_meaning (query_view c.in-Query.query)) before c.args.file.now is after.links (λ input. refl) stop c.in-Query.query.serving.has_worker) c.answer-in-Query.ensures.stops) c.requires.file

pub returns-in-Query-clause-reads : goal.returns-in-Query-clause-reads
returns-in-Query-clause-reads g c =
    let before = lent (g.S.Source.shows c.args.source.now) (g.K.Link.shows c.args.keeper.now) (map g.L.Link.shows c.args.links.now) in
    let after = lent (g.S.Source.shows c.args.source.now) (g.K.Link.shows c.args.keeper.now) (map g.L.Link.shows c.answer-in-Query.new.links) in
    subst (λ (w : CommandWords). IsFileOf (meaning_of w) before.keeper c.args.file.now → AsksEach (Some (meaning_of w)) before after) (sym (ap command_view c.in-Query.is))
    (λ is. asking_reads (query_meaning (query_view c.in-Query.query)) before c.args.file.now is after.links (λ input. refl) c.answer-in-Query.ensures.reads) c.requires.file

pub returns-in-Dump-clause-text : goal.returns-in-Dump-clause-text
returns-in-Dump-clause-text g c =
    let before = lent (g.S.Source.shows c.args.source.now) (g.K.Link.shows c.args.keeper.now) (map g.L.Link.shows c.args.links.now) in
    let after = lent (g.S.Source.shows c.args.source.now) (g.K.Link.shows c.args.keeper.now) (map g.L.Link.shows (slice_set c.args.links.now 0 c.answer-in-Dump.new.link)) in
    subst (λ (w : CommandWords). IsFileOf (meaning_of w) before.keeper c.args.file.now → IfOk c.answer-in-Dump.result (λ t. Finishes (meaning_of w) before after (printed t))) (sym (ap command_view c.in-Dump.is))
    (λ is. ok_so _ _ c.answer-in-Dump.result (λ t h. asking_finishes (dump_meaning (dump_view c.in-Dump.dump)) before c.args.file.now is after.links (λ input. refl) (printed t) refl (dump_puts (dump_view c.in-Dump.dump))
    (first_of g.L.Link.shows c.args.links.now c.index-links-0.result c.answer-in-Dump.new.link (λ xs ys. HasText (outcome_on (dump_meaning (dump_view c.in-Dump.dump)) c.args.file.now []) xs ys (printed t)) (omega (arith, c.requires.links)) (first_text (g.L.Link.shows (get_or c.args.links.now 0 c.index-links-0.result)) (g.L.Link.shows c.answer-in-Dump.new.link) (map g.L.Link.shows (drop 1 c.args.links.now)) (outcome_on (dump_meaning (dump_view c.in-Dump.dump)) c.args.file.now []) (printed t) (dump_of_first (dump_view c.in-Dump.dump) c.args.file.now) h))) c.answer-in-Dump.ensures.text) c.requires.file

pub returns-in-Dump-clause-stops : goal.returns-in-Dump-clause-stops
returns-in-Dump-clause-stops g c =
    let before = lent (g.S.Source.shows c.args.source.now) (g.K.Link.shows c.args.keeper.now) (map g.L.Link.shows c.args.links.now) in
    let after = lent (g.S.Source.shows c.args.source.now) (g.K.Link.shows c.args.keeper.now) (map g.L.Link.shows (slice_set c.args.links.now 0 c.answer-in-Dump.new.link)) in
    subst (λ (w : CommandWords). IsFileOf (meaning_of w) before.keeper c.args.file.now → IfErr c.answer-in-Dump.result (StopsWith (meaning_of w) before after)) (sym (ap command_view c.in-Dump.is))
    (λ is. err_so _ _ c.answer-in-Dump.result (λ stop h. asking_stops (dump_meaning (dump_view c.in-Dump.dump)) before c.args.file.now is after.links (λ input. refl) stop (omega arith)
    (first_of g.L.Link.shows c.args.links.now c.index-links-0.result c.answer-in-Dump.new.link (λ xs ys. StopsAsking (outcome_on (dump_meaning (dump_view c.in-Dump.dump)) c.args.file.now []) xs ys stop) (omega (arith, c.requires.links)) (first_stops (g.L.Link.shows (get_or c.args.links.now 0 c.index-links-0.result)) (g.L.Link.shows c.answer-in-Dump.new.link) (map g.L.Link.shows (drop 1 c.args.links.now)) (outcome_on (dump_meaning (dump_view c.in-Dump.dump)) c.args.file.now []) stop (dump_of_first (dump_view c.in-Dump.dump) c.args.file.now) h))) c.answer-in-Dump.ensures.stops) c.requires.file

pub returns-in-Dump-clause-reads : goal.returns-in-Dump-clause-reads
returns-in-Dump-clause-reads g c =
    let before = lent (g.S.Source.shows c.args.source.now) (g.K.Link.shows c.args.keeper.now) (map g.L.Link.shows c.args.links.now) in
    let after = lent (g.S.Source.shows c.args.source.now) (g.K.Link.shows c.args.keeper.now) (map g.L.Link.shows (slice_set c.args.links.now 0 c.answer-in-Dump.new.link)) in
    subst (λ (w : CommandWords). IsFileOf (meaning_of w) before.keeper c.args.file.now → AsksEach (Some (meaning_of w)) before after) (sym (ap command_view c.in-Dump.is))
    (λ is. asking_reads (dump_meaning (dump_view c.in-Dump.dump)) before c.args.file.now is after.links (λ input. refl)
    (first_of g.L.Link.shows c.args.links.now c.index-links-0.result c.answer-in-Dump.new.link (λ xs ys. WithEach xs ys (AsksLink (outcome_on (dump_meaning (dump_view c.in-Dump.dump)) c.args.file.now []))) (omega (arith, c.requires.links)) (first_asked (outcome_on (dump_meaning (dump_view c.in-Dump.dump)) c.args.file.now []) (g.L.Link.shows (get_or c.args.links.now 0 c.index-links-0.result)) (g.L.Link.shows c.answer-in-Dump.new.link) (map g.L.Link.shows (drop 1 c.args.links.now)) c.answer-in-Dump.ensures.reads))) c.requires.file

pub returns-in-ShowSchema-clause-text : goal.returns-in-ShowSchema-clause-text
returns-in-ShowSchema-clause-text g c =
    let before = lent (g.S.Source.shows c.args.source.now) (g.K.Link.shows c.args.keeper.now) (map g.L.Link.shows c.args.links.now) in
    let after = lent (g.S.Source.shows c.args.source.now) (g.K.Link.shows c.args.keeper.now) (map g.L.Link.shows (slice_set c.args.links.now 0 c.answer-in-ShowSchema.new.link)) in
    subst (λ (w : CommandWords). IsFileOf (meaning_of w) before.keeper c.args.file.now → IfOk c.answer-in-ShowSchema.result (λ t. Finishes (meaning_of w) before after (printed t))) (sym (ap command_view c.in-ShowSchema.is))
    (λ is. ok_so _ _ c.answer-in-ShowSchema.result (λ t h.
    first_of g.L.Link.shows c.args.links.now c.index-links-0-in-ShowSchema.result c.answer-in-ShowSchema.new.link (λ xs ys. Finishes (show_schema_meaning (show_schema_view c.in-ShowSchema.show)) (lent before.input before.keeper xs) (lent before.input before.keeper ys) (printed t)) (omega (arith, c.requires.links)) (schema_finishes (show_schema_view c.in-ShowSchema.show) before.input before.keeper (g.L.Link.shows (get_or c.args.links.now 0 c.index-links-0-in-ShowSchema.result)) (g.L.Link.shows c.answer-in-ShowSchema.new.link) (map g.L.Link.shows (drop 1 c.args.links.now)) (show_schema_view c.in-ShowSchema.show).file (printed t) refl h)) c.answer-in-ShowSchema.ensures.text) c.requires.file

pub returns-in-ShowSchema-clause-stops : goal.returns-in-ShowSchema-clause-stops
returns-in-ShowSchema-clause-stops g c =
    let before = lent (g.S.Source.shows c.args.source.now) (g.K.Link.shows c.args.keeper.now) (map g.L.Link.shows c.args.links.now) in
    let after = lent (g.S.Source.shows c.args.source.now) (g.K.Link.shows c.args.keeper.now) (map g.L.Link.shows (slice_set c.args.links.now 0 c.answer-in-ShowSchema.new.link)) in
    subst (λ (w : CommandWords). IsFileOf (meaning_of w) before.keeper c.args.file.now → IfErr c.answer-in-ShowSchema.result (StopsWith (meaning_of w) before after)) (sym (ap command_view c.in-ShowSchema.is))
    (λ is. err_so _ _ c.answer-in-ShowSchema.result (λ stop h.
    first_of g.L.Link.shows c.args.links.now c.index-links-0-in-ShowSchema.result c.answer-in-ShowSchema.new.link (λ xs ys. StopsWith (show_schema_meaning (show_schema_view c.in-ShowSchema.show)) (lent before.input before.keeper xs) (lent before.input before.keeper ys) stop) (omega (arith, c.requires.links)) (schema_ends (show_schema_view c.in-ShowSchema.show) before.input before.keeper (g.L.Link.shows (get_or c.args.links.now 0 c.index-links-0-in-ShowSchema.result)) (g.L.Link.shows c.answer-in-ShowSchema.new.link) (map g.L.Link.shows (drop 1 c.args.links.now)) (show_schema_view c.in-ShowSchema.show).file stop refl h)) c.answer-in-ShowSchema.ensures.stops) c.requires.file

pub returns-in-ShowSchema-clause-reads : goal.returns-in-ShowSchema-clause-reads
returns-in-ShowSchema-clause-reads g c =
    let before = lent (g.S.Source.shows c.args.source.now) (g.K.Link.shows c.args.keeper.now) (map g.L.Link.shows c.args.links.now) in
    let after = lent (g.S.Source.shows c.args.source.now) (g.K.Link.shows c.args.keeper.now) (map g.L.Link.shows (slice_set c.args.links.now 0 c.answer-in-ShowSchema.new.link)) in
    subst (λ (w : CommandWords). IsFileOf (meaning_of w) before.keeper c.args.file.now → AsksEach (Some (meaning_of w)) before after) (sym (ap command_view c.in-ShowSchema.is))
    (λ is. first_of g.L.Link.shows c.args.links.now c.index-links-0-in-ShowSchema.result c.answer-in-ShowSchema.new.link (λ xs ys. AsksEach (Some (show_schema_meaning (show_schema_view c.in-ShowSchema.show))) (lent before.input before.keeper xs) (lent before.input before.keeper ys)) (omega (arith, c.requires.links)) (inr ([], refl, first_asked (outcome_on (show_schema_meaning (show_schema_view c.in-ShowSchema.show)) [] []) (g.L.Link.shows (get_or c.args.links.now 0 c.index-links-0-in-ShowSchema.result)) (g.L.Link.shows c.answer-in-ShowSchema.new.link) (map g.L.Link.shows (drop 1 c.args.links.now)) c.answer-in-ShowSchema.ensures.reads))) c.requires.file

pub answer-requires : goal.answer-requires
answer-requires g c = record {
  file = subst (λ (w : CommandWords). IsFileOf (meaning_of w) (g.K.Link.shows c.args.keeper.now) c.args.file.now) (ap command_view c.in-Load.is) c.requires.file;
}
