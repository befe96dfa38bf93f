-- What a session does where it loses a link.
use Rattle.std.specs.Prelude.{List, [], ◌∷◌, Option, Some, None}
use Rattle.rws_wire.specs.declared.close_reason.CloseReason.{CloseReason}
use Rattle.rws_record.specs.Item.{Put}
use Rattle.rws_record.specs.Item.Put.{Closes}

-- it closes, or doesn't
abbrev pub closing : Option CloseReason → List Put
closing (Some reason) = Closes reason ∷ []
closing None = []
