-- Links of a record hold what the record says.
use Rattle.std.proofs.Common.{◌≡◌, ℕ, suc, ◌<◌, List, [], ◌∷◌, length, map, refl, arith}
use Rattle.std.specs.Prelude.{Contains}
use Rattle.std.proofs.lemmas.List.Elements.{All-nil, All-cons}
use Rattle.rws_wire.specs.Packets.{spelled_length}
use Rattle.rws_config.specs.declared.limits.TheConstants.{SERVER_PAYLOAD}
use Rattle.rws_link.specs.Stepping.{LinkState, LogsIn, Rests, Awaits, IsLost}
use Rattle.rws_link.specs.Linking.{held_of, kept}
use Rattle.rws_record.specs.Item.{Item}
use Rattle.rws_record.specs.Values.{link_held, linked, unread}
use Rattle.rws_links.specs.declared.numbered.NumberedLink.{NumberedLink}
use Rattle.rws_links.specs.Links.{link_of}
use Rattle.rws_links.specs.Bounds.{HoldFew}

-- what code keeps of a link holds what the link does
held_is : (link : LinkState) → held_of (kept link) ≡ unread link
held_is (LogsIn handshake bytes) = refl
held_is Rests = refl
held_is (Awaits e bytes) = refl
held_is (IsLost cause) = refl

pub links_few : (past : List Item) (links : List ℕ)
    → ((link : ℕ) → Contains links link → length (link_held link past) < spelled_length SERVER_PAYLOAD)
    → HoldFew (map (link_of past) links)
links_few past [] few = All-nil (λ (link : NumberedLink). length (held_of link.link) < spelled_length SERVER_PAYLOAD)
links_few past (link ∷ others) few =
    All-cons (λ (link : NumberedLink). length (held_of link.link) < spelled_length SERVER_PAYLOAD) (link_of past link) (map (link_of past) others)
    (rw (held_is (linked link past)) (few link (0, omega arith, refl)))
    (links_few past others (λ other at. few other (suc at.0, omega arith, at.2)))
