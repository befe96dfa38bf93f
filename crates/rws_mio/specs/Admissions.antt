-- Clients that come in.
use Rattle.std.specs.Prelude.{⊤}
use Rattle.rws_make.specs.Zeros.{HasNoZero}
use Rattle.rws_mio.specs.declared.gate.Admission.{Admission}
use Rattle.rws_mio.specs.declared.gate.Admission.TheVariants.{Client, Again, Nobody}

-- a client's scramble has no zero
abbrev pub IsSound : Admission → Type 0
IsSound (Client stream session scramble) = HasNoZero scramble
IsSound Again = ⊤
IsSound Nobody = ⊤
