-- Any command: what the words of a command line ask for, and what that means.
use Rattle.dr_commands.specs.Meaning.{Meaning}
use Rattle.dr_commands.specs.Load.{LoadWords, load_meaning, load_view}
use Rattle.dr_commands.specs.Query.{QueryWords, query_meaning, query_view}
use Rattle.dr_commands.specs.Dump.{DumpWords, dump_meaning, dump_view}
use Rattle.dr_commands.specs.ShowSchema.{ShowSchemaWords, show_schema_meaning, show_schema_view}
use Rattle.dr_commands.specs.Ask.{AskWords, ask_meaning, ask_view}
use Rattle.dr_commands.specs.Stripe.{StripeWords, stripe_meaning, stripe_view}
use Rattle.dr_commands.specs.Fsm.{FsmWords, fsm_meaning, fsm_view}
use Rattle.dr_commands.specs.Explain.{ExplainWords, explain_meaning, explain_view}
use Rattle.dr_commands.specs.Gen.{GenWords, gen_meaning, gen_view}
use Rattle.dr_commands.specs.Trial.{TrialWords, trial_meaning, trial_view}
use Rattle.dr_commands.specs.Session.{SessionWords, session_meaning, session_view}
use Rattle.dr_commands.specs.declared.commands.Command.{Command}
use Rattle.dr_commands.specs.declared.commands.Command.TheVariants as command

-- the values of each command
pub data CommandWords : Type 0 where
  load : LoadWords → CommandWords
  query : QueryWords → CommandWords
  ask : AskWords → CommandWords
  dump : DumpWords → CommandWords
  stripe : StripeWords → CommandWords
  fsm : FsmWords → CommandWords
  show_schema : ShowSchemaWords → CommandWords
  explain : ExplainWords → CommandWords
  gen : GenWords → CommandWords
  trial : TrialWords → CommandWords
  session : SessionWords → CommandWords

-- what a command stands for
abbrev pub command_view : Command → CommandWords
command_view (command.Load l) = load (load_view l)
command_view (command.Query q) = query (query_view q)
command_view (command.Ask a) = ask (ask_view a)
command_view (command.Dump d) = dump (dump_view d)
command_view (command.Stripe s) = stripe (stripe_view s)
command_view (command.Fsm f) = fsm (fsm_view f)
command_view (command.ShowSchema s) = show_schema (show_schema_view s)
command_view (command.Explain e) = explain (explain_view e)
command_view (command.Gen g) = gen (gen_view g)
command_view (command.Trial t) = trial (trial_view t)
command_view (command.Session s) = session (session_view s)

-- what each command means
abbrev pub meaning_of : CommandWords → Meaning
meaning_of (load w) = load_meaning w
meaning_of (query w) = query_meaning w
meaning_of (ask w) = ask_meaning w
meaning_of (dump w) = dump_meaning w
meaning_of (stripe w) = stripe_meaning w
meaning_of (fsm w) = fsm_meaning w
meaning_of (show_schema w) = show_schema_meaning w
meaning_of (explain w) = explain_meaning w
meaning_of (gen w) = gen_meaning w
meaning_of (trial w) = trial_meaning w
meaning_of (session w) = session_meaning w
