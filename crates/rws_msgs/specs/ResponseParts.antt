-- The response whose parts were read.
use Rattle.std.specs.Prelude.{ℕ, List, Option}
use Rattle.std.specs.Borrow.{Bor}
use Rattle.std.specs.Option.{option_map}
use Rattle.rws_msgs.specs.declared.response.Response.{Response}
use Rattle.rws_msgs.specs.declared.response.Parts.{Parts}

abbrev pub name_of : Option (Bor (List ℕ)) → Option (List ℕ)
name_of name = option_map (λ text. text.now) name

abbrev pub response_of : Parts → Response
response_of parts = record {
  flags = parts.flags;
  charset = parts.charset;
  user = parts.user.now;
  answer = parts.answer.now;
  database = name_of parts.database;
  plugin = name_of parts.plugin;
}
