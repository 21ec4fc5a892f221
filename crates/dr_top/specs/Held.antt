-- How a session over the input ends where it stops before the input's end, with what is told on standard error.
use Rattle.std.specs.Prelude.{codes, ◌⊎◌}
use Rattle.dr_meaning.specs.Schema.{Schema}
use Rattle.dr_sub_meaning.specs.Session.{SessionRefusal, session_refusal_text}
use Rattle.dr_outside.specs.Source.{SourceShown}
use Rattle.dr_outside.specs.Sink.{SinkShown}
use Rattle.dr_session.specs.Talking.{IsRefused, IsUnread, IsUnwritten, IsWanting}
use Rattle.dr_top.specs.Ends.{Says}

-- a line is refused, the first, which err names
abbrev pub IsHeldRefused : Schema → SourceShown → SourceShown → SinkShown → SinkShown → SinkShown → SinkShown → Type 0
IsHeldRefused s input input_now out out_now err err_now =
    (r : SessionRefusal) × IsRefused s r input input_now out out_now × Says err err_now (session_refusal_text r)

-- the source failed, or the sink, which err tells
abbrev pub IsHeldOutside : Schema → SourceShown → SourceShown → SinkShown → SinkShown → SinkShown → SinkShown → Type 0
IsHeldOutside s input input_now out out_now err err_now =
    (IsUnread s input input_now out out_now × Says err err_now (codes "outside: source\n"))
    ⊎ (IsUnwritten s input input_now out out_now × Says err err_now (codes "outside: out\n"))

-- memory was wanting, which err tells
abbrev pub IsHeldWanting : Schema → SourceShown → SourceShown → SinkShown → SinkShown → SinkShown → SinkShown → Type 0
IsHeldWanting s input input_now out out_now err err_now = IsWanting s input input_now out out_now × Says err err_now (codes "no memory\n")
