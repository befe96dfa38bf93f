use Rattle.std.proofs.Common.{refl}
use Rattle.rws_top.specs.Asking.AnswersFile.{traced, refused}
use Rattle.rws_top.proofs.settings.trace_with.Goals as goal

pub returns-in-Ok-read : goal.returns-in-Ok-read
returns-in-Ok-read g c =
    traced c.in-Ok.text c.in-Ok-read.config c.in-Ok.ensures.holds (rw c.as_slice.ensures at c.in-Ok-read.ensures.read) c.trace.ensures

pub returns : goal.returns
returns g c =
    refused c.in-Ok.text c.in-Ok.ensures.holds refl (c.refuse.ensures c.in-Ok.text (rw c.as_slice.ensures at c.in-Err.ensures.read))
