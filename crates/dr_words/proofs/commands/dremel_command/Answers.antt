use Rattle.std.proofs.Common.{◌∙◌, ap}
use Rattle.std.proofs.lemmas.Result.{IfOk-weaker}
use Rattle.clap.specs.Words.{App, with_subcommand}
use Rattle.dr_words.specs.Load.{load_app}
use Rattle.dr_words.specs.Query.{query_app}
use Rattle.dr_words.specs.Ask.{ask_app}
use Rattle.dr_words.specs.Dump.{dump_app}
use Rattle.dr_words.specs.Stripe.{stripe_app}
use Rattle.dr_words.specs.Fsm.{fsm_app}
use Rattle.dr_words.specs.ShowSchema.{show_schema_app}
use Rattle.dr_words.specs.Explain.{explain_app}
use Rattle.dr_words.specs.Gen.{gen_app}
use Rattle.dr_words.specs.Trial.{trial_app}
use Rattle.dr_words.specs.Session.{session_app}
use Rattle.dr_words.proofs.commands.dremel_command.Goals as goal

pub returns : goal.returns
returns c =
    let with_load = c.in_ok-command.ensures load_app c.load_command.ensures.app ∙ ap (λ (a : App). with_subcommand a load_app.top) c.bare_command.ensures in
    let with_query = c.in_ok-command-2.ensures query_app c.query_command.ensures.app ∙ ap (λ (a : App). with_subcommand a query_app.top) with_load in
    let with_ask = c.in_ok-command-3.ensures ask_app c.ask_command.ensures.app ∙ ap (λ (a : App). with_subcommand a ask_app.top) with_query in
    let with_dump = c.in_ok-command-4.ensures dump_app c.dump_command.ensures.app ∙ ap (λ (a : App). with_subcommand a dump_app.top) with_ask in
    let with_stripe = c.in_ok-command-5.ensures stripe_app c.stripe_command.ensures.app ∙ ap (λ (a : App). with_subcommand a stripe_app.top) with_dump in
    let with_fsm = c.in_ok-command-6.ensures fsm_app c.fsm_command.ensures.app ∙ ap (λ (a : App). with_subcommand a fsm_app.top) with_stripe in
    let with_show_schema = c.in_ok-command-7.ensures show_schema_app c.show_schema_command.ensures.app ∙ ap (λ (a : App). with_subcommand a show_schema_app.top) with_fsm in
    let with_explain = c.in_ok-command-8.ensures explain_app c.explain_command.ensures.app ∙ ap (λ (a : App). with_subcommand a explain_app.top) with_show_schema in
    let with_gen = c.in_ok-command-9.ensures gen_app c.gen_command.ensures.app ∙ ap (λ (a : App). with_subcommand a gen_app.top) with_explain in
    let with_trial = c.in_ok-command-10.ensures trial_app c.trial_command.ensures.app ∙ ap (λ (a : App). with_subcommand a trial_app.top) with_gen in
    IfOk-weaker c.with_command-11.result _ _ (λ r h. h ∙ ap (λ (a : App). with_subcommand a session_app.top) with_trial) (c.with_command-11.ensures session_app c.session_command.ensures.app)
