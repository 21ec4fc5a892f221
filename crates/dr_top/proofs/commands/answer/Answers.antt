use Rattle.std.specs.Prelude.{IfOk, IfErr, Option, Some, option_map}
use Rattle.std.proofs.Common.{refl, sym, ap, ◌∙◌, subst, Err, map, string_bytes}
use Rattle.dr_commands.specs.Commands.{CommandWords, meaning_of, command_view}
use Rattle.dr_commands.specs.declared.commands.Command.{Command}
use Rattle.dr_words.specs.Words.{asked}
use Rattle.dr_words.specs.declared.words_fault.WordsFault.{WordsFault}
use Rattle.dr_top.specs.World.{lent, IsFileOf}
use Rattle.dr_top.specs.Answers.{Replies, StopsMeant, AsksFor, AsksMeant, LeavesUnput, AsksEach}
use Rattle.dr_top.specs.Ends.{ForMeant}
use Rattle.dr_top.proofs.OutcomeLemmas.{err_is, err_so, ok_so}
use Rattle.dr_top.proofs.PutLemmas.{unput_more, unread_stops, asks_later, file_later, replies_later, stops_later, asks_each_later}
use Rattle.dr_top.proofs.RunLemmas.{words_stops}
use Rattle.dr_top.proofs.LinkLemmas.{none_meant, none_unasked}
use Rattle.dr_top.proofs.commands.answer.Goals as goal

pub returns-in_err-read-clause-stops : goal.returns-in_err-read-clause-stops
returns-in_err-read-clause-stops g c =
    err_is _ _ _ c.from_residual.ensures.1
    (words_stops (asked (map string_bytes c.args.words.now)) c.in_err-read.field-0.0 (lent (g.S.Source.shows c.args.source.now) (g.K.Link.shows c.args.keeper.now) (map g.L.Link.shows c.args.links.now)) (λ e. c.in_err-read.ensures.refused (ap (λ (f : WordsFault). Err f) e)))

pub returns-in_err-read-clause-reads : goal.returns-in_err-read-clause-reads
returns-in_err-read-clause-reads g c =
    let before = lent (g.S.Source.shows c.args.source.now) (g.K.Link.shows c.args.keeper.now) (map g.L.Link.shows c.args.links.now) in
    none_meant (asked (map string_bytes c.args.words.now)) before before refl

pub returns-in_err-read-clause-links : goal.returns-in_err-read-clause-links
returns-in_err-read-clause-links g c = none_unasked (asked (map string_bytes c.args.words.now)) (map g.L.Link.shows c.args.links.now)

pub returns-in_err-command-clause-stops : goal.returns-in_err-command-clause-stops
returns-in_err-command-clause-stops g c =
    err_is _ _ _ c.from_residual-in_err-command.ensures.1
    (words_stops (asked (map string_bytes c.args.words.now)) WordsFault.NoMemory (lent (g.S.Source.shows c.args.source.now) (g.K.Link.shows c.args.keeper.now) (map g.L.Link.shows c.args.links.now)) (λ e. cc))

pub returns-in_err-command-clause-reads : goal.returns-in_err-command-clause-reads
returns-in_err-command-clause-reads g c =
    let before = lent (g.S.Source.shows c.args.source.now) (g.K.Link.shows c.args.keeper.now) (map g.L.Link.shows c.args.links.now) in
    none_meant (asked (map string_bytes c.args.words.now)) before before refl

pub returns-in_err-command-clause-links : goal.returns-in_err-command-clause-links
returns-in_err-command-clause-links g c = none_unasked (asked (map string_bytes c.args.words.now)) (map g.L.Link.shows c.args.links.now)

pub returns-in_err-file-clause-stops : goal.returns-in_err-file-clause-stops
returns-in_err-file-clause-stops g c =
    let before = lent (g.S.Source.shows c.args.source.now) (g.K.Link.shows c.args.keeper.now) (map g.L.Link.shows c.args.links.now) in
    let after = lent (g.S.Source.shows c.args.source.now) (g.K.Link.shows c.read_named.new.keeper) (map g.L.Link.shows c.args.links.now) in
    err_is _ _ _ c.from_residual-in_err-file.ensures.1
    (subst (λ (o : Option CommandWords). StopsMeant (option_map meaning_of o) before after c.in_err-file.field-0.0) (sym (c.in_ok-read.ensures.values ∙ ap (λ (x : Command). Some (command_view x)) (sym (c.deref.ensures ∙ c.in_ok-command.ensures.ok))))
    (unread_stops (meaning_of (command_view c.deref.result.now)) before.input before.keeper after.keeper before.links c.in_err-file.field-0.0 c.read_named.ensures.kept c.in_err-file.ensures.stops))

pub returns-in_err-file-clause-asks : goal.returns-in_err-file-clause-asks
returns-in_err-file-clause-asks g c =
    subst (λ (o : Option CommandWords). AsksMeant (option_map meaning_of o) (g.K.Link.shows c.args.keeper.now) (g.K.Link.shows c.read_named.new.keeper)) (sym (c.in_ok-read.ensures.values ∙ ap (λ (x : Command). Some (command_view x)) (sym (c.deref.ensures ∙ c.in_ok-command.ensures.ok)))) c.read_named.ensures.asks

pub returns-in_err-file-clause-reads : goal.returns-in_err-file-clause-reads
returns-in_err-file-clause-reads g c =
    none_meant (asked (map string_bytes c.args.words.now)) (lent (g.S.Source.shows c.args.source.now) (g.K.Link.shows c.args.keeper.now) (map g.L.Link.shows c.args.links.now))
    (lent (g.S.Source.shows c.args.source.now) (g.K.Link.shows c.read_named.new.keeper) (map g.L.Link.shows c.args.links.now)) refl

pub returns-in_err-file-clause-links : goal.returns-in_err-file-clause-links
returns-in_err-file-clause-links g c = none_unasked (asked (map string_bytes c.args.words.now)) (map g.L.Link.shows c.args.links.now)

pub reply-requires-clause-file : goal.reply-requires-clause-file
reply-requires-clause-file g c = λ κs lives.
    file_later (meaning_of (command_view c.deref-2.result.now)) (g.K.Link.shows c.args.keeper.now) (g.K.Link.shows c.read_named.new.keeper) c.deref-3.result.now c.read_named.ensures.kept
    (subst (IsFileOf (meaning_of (command_view c.deref-2.result.now)) (g.K.Link.shows c.args.keeper.now)) (sym c.deref-3.ensures.value) (subst (λ (x : Command). IsFileOf (meaning_of (command_view x)) (g.K.Link.shows c.args.keeper.now) c.in_ok-file.file.items) (c.deref.ensures ∙ sym c.deref-2.ensures) c.in_ok-file.ensures.file))

pub returns-clause-replies : goal.returns-clause-replies
returns-clause-replies g c =
    let before = lent (g.S.Source.shows c.args.source.now) (g.K.Link.shows c.args.keeper.now) (map g.L.Link.shows c.args.links.now) in
    let read = g.K.Link.shows c.read_named.new.keeper in
    let after = lent (g.S.Source.shows c.reply.new.source) (g.K.Link.shows c.reply.new.keeper) (map g.L.Link.shows c.reply.new.links) in
    let m = meaning_of (command_view c.deref-2.result.now) in
    subst (λ (o : Option CommandWords). IfOk c.reply.result (λ r. ForMeant (option_map meaning_of o) (λ n. Replies n before after r))) (sym (c.in_ok-read.ensures.values ∙ ap (λ (x : Command). Some (command_view x)) (sym (c.deref-2.ensures ∙ c.in_ok-command.ensures.ok))))
    (ok_so _ _ c.reply.result (λ r. replies_later m before.input after.input before.keeper read after.keeper before.links after.links c.read_named.ensures.kept r) c.reply.ensures.replies)

pub returns-clause-stops : goal.returns-clause-stops
returns-clause-stops g c =
    let before = lent (g.S.Source.shows c.args.source.now) (g.K.Link.shows c.args.keeper.now) (map g.L.Link.shows c.args.links.now) in
    let read = g.K.Link.shows c.read_named.new.keeper in
    let after = lent (g.S.Source.shows c.reply.new.source) (g.K.Link.shows c.reply.new.keeper) (map g.L.Link.shows c.reply.new.links) in
    let m = meaning_of (command_view c.deref-2.result.now) in
    subst (λ (o : Option CommandWords). IfErr c.reply.result (StopsMeant (option_map meaning_of o) before after)) (sym (c.in_ok-read.ensures.values ∙ ap (λ (x : Command). Some (command_view x)) (sym (c.deref-2.ensures ∙ c.in_ok-command.ensures.ok))))
    (err_so _ _ c.reply.result (λ stop. stops_later m before.input after.input before.keeper read after.keeper before.links after.links c.read_named.ensures.kept stop c.in_ok-file.ensures.calm c.read_named.ensures.stays_steady) c.reply.ensures.stops)

pub returns-clause-kept : goal.returns-clause-kept
returns-clause-kept g c =
    let before = lent (g.S.Source.shows c.args.source.now) (g.K.Link.shows c.args.keeper.now) (map g.L.Link.shows c.args.links.now) in
    let read = g.K.Link.shows c.read_named.new.keeper in
    let after = lent (g.S.Source.shows c.reply.new.source) (g.K.Link.shows c.reply.new.keeper) (map g.L.Link.shows c.reply.new.links) in
    let m = meaning_of (command_view c.deref-2.result.now) in
    subst (λ (o : Option CommandWords). LeavesUnput (option_map meaning_of o) before.keeper after.keeper) (sym (c.in_ok-read.ensures.values ∙ ap (λ (x : Command). Some (command_view x)) (sym (c.deref-2.ensures ∙ c.in_ok-command.ensures.ok))))
    (λ e. unput_more before.keeper read after.keeper c.read_named.ensures.kept (c.reply.ensures.kept e))

pub returns-clause-asks : goal.returns-clause-asks
returns-clause-asks g c =
    let before = lent (g.S.Source.shows c.args.source.now) (g.K.Link.shows c.args.keeper.now) (map g.L.Link.shows c.args.links.now) in
    let read = g.K.Link.shows c.read_named.new.keeper in
    let after = lent (g.S.Source.shows c.reply.new.source) (g.K.Link.shows c.reply.new.keeper) (map g.L.Link.shows c.reply.new.links) in
    let m = meaning_of (command_view c.deref-2.result.now) in
    subst (λ (o : Option CommandWords). AsksMeant (option_map meaning_of o) before.keeper after.keeper) (sym (c.in_ok-read.ensures.values ∙ ap (λ (x : Command). Some (command_view x)) (sym (c.deref-2.ensures ∙ c.in_ok-command.ensures.ok))))
    (asks_later m.file before.keeper read after.keeper (subst (λ (x : Command). AsksFor (meaning_of (command_view x)).file before.keeper read) (c.deref.ensures ∙ sym c.deref-2.ensures) c.read_named.ensures.asks) c.reply.ensures.asked)

pub returns-clause-reads : goal.returns-clause-reads
returns-clause-reads g c =
    let before = lent (g.S.Source.shows c.args.source.now) (g.K.Link.shows c.args.keeper.now) (map g.L.Link.shows c.args.links.now) in
    let read = g.K.Link.shows c.read_named.new.keeper in
    let after = lent (g.S.Source.shows c.reply.new.source) (g.K.Link.shows c.reply.new.keeper) (map g.L.Link.shows c.reply.new.links) in
    let m = meaning_of (command_view c.deref-2.result.now) in
    subst (λ (o : Option CommandWords). AsksEach (option_map meaning_of o) before after) (sym (c.in_ok-read.ensures.values ∙ ap (λ (x : Command). Some (command_view x)) (sym (c.deref-2.ensures ∙ c.in_ok-command.ensures.ok))))
    (asks_each_later m before.input after.input before.keeper read after.keeper before.links after.links c.read_named.ensures.kept c.reply.ensures.reads)
