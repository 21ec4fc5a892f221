use Rattle.std.proofs.Common.{sym, ap, subst}
use Rattle.dr_commands.specs.Load.{load_meaning, load_view}
use Rattle.dr_commands.specs.Query.{query_meaning, query_view}
use Rattle.dr_commands.specs.Ask.{ask_meaning, ask_view}
use Rattle.dr_commands.specs.Dump.{dump_meaning, dump_view}
use Rattle.dr_commands.specs.Stripe.{stripe_meaning, stripe_view}
use Rattle.dr_commands.specs.Fsm.{fsm_meaning, fsm_view}
use Rattle.dr_commands.specs.Explain.{explain_meaning, explain_view}
use Rattle.dr_commands.specs.Session.{session_meaning, session_view}
use Rattle.dr_commands.specs.Commands.{CommandWords, meaning_of, command_view}
use Rattle.dr_top.specs.NamedFile.{RefusesLonger}
use Rattle.dr_top.specs.declared.named_file.Kind.{Kind}
use Rattle.dr_top.proofs.CommandLemmas.{schema_longer, table_longer}
use Rattle.dr_top.proofs.LoadEnds.{load_refuses_schema}
use Rattle.dr_top.proofs.QueryEnds.{query_refuses_table}
use Rattle.dr_top.proofs.AskEnds.{ask_refuses_schema}
use Rattle.dr_top.proofs.DumpEnds.{dump_refuses_table}
use Rattle.dr_top.proofs.StripeEnds.{stripe_refuses_schema}
use Rattle.dr_top.proofs.FsmEnds.{fsm_refuses_schema}
use Rattle.dr_top.proofs.ExplainEnds.{explain_refuses_schema}
use Rattle.dr_top.proofs.SessionEnds.{session_refuses_schema}
use Rattle.dr_top.proofs.commands.named_file.Goals as goal

pub returns-in-Load-clause-longer : goal.returns-in-Load-clause-longer
returns-in-Load-clause-longer c =
    subst (λ (w : CommandWords). RefusesLonger (meaning_of w) Kind.Schema) (sym (ap command_view c.in-Load.is)) (schema_longer (load_meaning (load_view c.in-Load.load)) (load_refuses_schema (load_view c.in-Load.load)))

pub returns-in-Query-clause-longer : goal.returns-in-Query-clause-longer
returns-in-Query-clause-longer c =
    subst (λ (w : CommandWords). RefusesLonger (meaning_of w) Kind.Table) (sym (ap command_view c.in-Query.is)) (table_longer (query_meaning (query_view c.in-Query.query)) (query_refuses_table (query_view c.in-Query.query)))

pub returns-in-Ask-clause-longer : goal.returns-in-Ask-clause-longer
returns-in-Ask-clause-longer c =
    subst (λ (w : CommandWords). RefusesLonger (meaning_of w) Kind.Schema) (sym (ap command_view c.in-Ask.is)) (schema_longer (ask_meaning (ask_view c.in-Ask.ask)) (ask_refuses_schema (ask_view c.in-Ask.ask)))

pub returns-in-Dump-clause-longer : goal.returns-in-Dump-clause-longer
returns-in-Dump-clause-longer c =
    subst (λ (w : CommandWords). RefusesLonger (meaning_of w) Kind.Table) (sym (ap command_view c.in-Dump.is)) (table_longer (dump_meaning (dump_view c.in-Dump.dump)) (dump_refuses_table (dump_view c.in-Dump.dump)))

pub returns-in-Stripe-clause-longer : goal.returns-in-Stripe-clause-longer
returns-in-Stripe-clause-longer c =
    subst (λ (w : CommandWords). RefusesLonger (meaning_of w) Kind.Schema) (sym (ap command_view c.in-Stripe.is)) (schema_longer (stripe_meaning (stripe_view c.in-Stripe.stripe)) (stripe_refuses_schema (stripe_view c.in-Stripe.stripe)))

pub returns-in-Fsm-clause-longer : goal.returns-in-Fsm-clause-longer
returns-in-Fsm-clause-longer c =
    subst (λ (w : CommandWords). RefusesLonger (meaning_of w) Kind.Schema) (sym (ap command_view c.in-Fsm.is)) (schema_longer (fsm_meaning (fsm_view c.in-Fsm.fsm)) (fsm_refuses_schema (fsm_view c.in-Fsm.fsm)))

pub returns-in-Explain-clause-longer : goal.returns-in-Explain-clause-longer
returns-in-Explain-clause-longer c =
    subst (λ (w : CommandWords). RefusesLonger (meaning_of w) Kind.Schema) (sym (ap command_view c.in-Explain.is)) (schema_longer (explain_meaning (explain_view c.in-Explain.explain)) (explain_refuses_schema (explain_view c.in-Explain.explain)))

pub returns-in-Session-clause-longer : goal.returns-in-Session-clause-longer
returns-in-Session-clause-longer c =
    subst (λ (w : CommandWords). RefusesLonger (meaning_of w) Kind.Schema) (sym (ap command_view c.in-Session.is)) (schema_longer (session_meaning (session_view c.in-Session.session)) (session_refuses_schema (session_view c.in-Session.session)))
