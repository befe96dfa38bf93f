-- What links hold of the bytes that came on them.
use Rattle.std.specs.Prelude.{◌<◌, List, length, All}
use Rattle.rws_wire.specs.Packets.{spelled_length}
use Rattle.rws_config.specs.declared.limits.TheConstants.{SERVER_PAYLOAD}
use Rattle.rws_link.specs.Linking.{held_of}
use Rattle.rws_links.specs.declared.numbered.NumberedLink.{NumberedLink}

-- Each holds less than the longest payload of a server takes on the wire: 67,108,864 bytes and the headers of its five packets.
abbrev pub HoldFew : List NumberedLink → Type 0
HoldFew links = All (λ (link : NumberedLink). length (held_of link.link) < spelled_length SERVER_PAYLOAD) links
