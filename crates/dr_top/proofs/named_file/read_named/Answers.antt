use Rattle.std.specs.Prelude.{IfSome, IfNone, Option}
use Rattle.std.proofs.Common.{subst, Vec, Global, ℕ}
use Rattle.dr_commands.specs.Commands.{meaning_of, command_view}
use Rattle.dr_top.specs.KeeperFile.{IsFile, IsLongFile}
use Rattle.dr_top.proofs.OutcomeLemmas.{err_is}
use Rattle.dr_top.proofs.NamedFileLemmas.{none_is_file, none_asks, is_file, asks_named, keeper_stops, long_stops}
use Rattle.dr_top.proofs.named_file.read_named.Goals as goal

pub returns-in-None-clause-file : goal.returns-in-None-clause-file
returns-in-None-clause-file g c = none_is_file (meaning_of (command_view c.args.command.now)) (g.K.Link.shows c.args.keeper.now) c.new.result.items c.in-None.ensures.path c.new.ensures.items

pub returns-in-None-clause-asks : goal.returns-in-None-clause-asks
returns-in-None-clause-asks g c = none_asks (meaning_of (command_view c.args.command.now)).file (g.K.Link.shows c.args.keeper.now) c.in-None.ensures.path

pub returns-in-Some-2-clause-file : goal.returns-in-Some-2-clause-file
returns-in-Some-2-clause-file g c =
    is_file (meaning_of (command_view c.args.command.now)) (g.K.Link.shows c.args.keeper.now) c.in-Some.path.now c.in-Some-2.bytes.items c.in-Some.ensures.path
    (subst (λ (o : Option (Vec ℕ Global)). IfSome o (λ v. IsFile (g.K.Link.shows c.args.keeper.now).held c.in-Some.path.now v.items)) c.in-Some-2.is c.in_ok-bytes-in-Some.ensures.file)

pub returns-in-None-2-clause-stops : goal.returns-in-None-2-clause-stops
returns-in-None-2-clause-stops g c =
    long_stops (meaning_of (command_view c.args.command.now)) (g.K.Link.shows c.args.keeper.now) (g.K.Link.shows c.read_file.new.keeper) c.in-Some.path.now c.in-Some.kind c.longest.result c.too_long.result c.in-Some.ensures.path (c.in_ok-bytes-in-Some.ensures.calm (λ e. cc)) c.in-Some.ensures.longer
    c.longest.ensures.longest c.too_long.ensures (subst (λ (o : Option (Vec ℕ Global)). IfNone o (IsLongFile (g.K.Link.shows c.args.keeper.now).held c.in-Some.path.now c.longest.result)) c.in-None-2.is c.in_ok-bytes-in-Some.ensures.long)

pub returns-in_err-bytes-in-Some-clause-stops : goal.returns-in_err-bytes-in-Some-clause-stops
returns-in_err-bytes-in-Some-clause-stops g c =
    err_is _ _ _ c.from_residual.ensures.1
    (keeper_stops (meaning_of (command_view c.args.command.now)) (g.K.Link.shows c.args.keeper.now) (g.K.Link.shows c.read_file.new.keeper) c.in-Some.path.now c.in_err-bytes-in-Some.field-0.0 c.in-Some.ensures.path
    (λ e. c.in_err-bytes-in-Some.ensures.cause (cc)) (λ n. c.in_err-bytes-in-Some.ensures.calm (λ e. n (cc))) (λ e steady there. c.in_err-bytes-in-Some.ensures.steady steady there (cc)))

pub returns-in-Some-2-clause-asks : goal.returns-in-Some-2-clause-asks
returns-in-Some-2-clause-asks g c = asks_named (meaning_of (command_view c.args.command.now)).file (g.K.Link.shows c.args.keeper.now) (g.K.Link.shows c.read_file.new.keeper) c.in-Some.path.now c.in-Some.ensures.path c.read_file.ensures.asks

pub returns-in-None-2-clause-asks : goal.returns-in-None-2-clause-asks
returns-in-None-2-clause-asks g c = asks_named (meaning_of (command_view c.args.command.now)).file (g.K.Link.shows c.args.keeper.now) (g.K.Link.shows c.read_file.new.keeper) c.in-Some.path.now c.in-Some.ensures.path c.read_file.ensures.asks

pub returns-in_err-bytes-in-Some-clause-asks : goal.returns-in_err-bytes-in-Some-clause-asks
returns-in_err-bytes-in-Some-clause-asks g c = asks_named (meaning_of (command_view c.args.command.now)).file (g.K.Link.shows c.args.keeper.now) (g.K.Link.shows c.read_file.new.keeper) c.in-Some.path.now c.in-Some.ensures.path c.read_file.ensures.asks
