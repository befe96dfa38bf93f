-- A session has at most one link to a server.
use Rattle.std.proofs.Common.{◌≡◌, ℕ, Bool, true, false, List, [], ◌∷◌, ◌++◌, refl, sym, ap, subst, ◌∙◌, eqb-true}
use Rattle.std.specs.Prelude.{◌≢◌, ◌==◌, Contains, if◌then◌else◌}
use Rattle.rws_config.specs.declared.config.Config.{Config}
use Rattle.rws_record.specs.Item.{Item}
use Rattle.rws_record.specs.Item.Item.{Accepted, TurnsAway, Began, ClientBytes, LinkReady, LinkBytes, ClientGone, LinkLost, Ticks, Routed, Comes, Connects, Takes, Floods, Puts, Starves}
use Rattle.rws_record.specs.Item.Put.{Hands, Tells, Records, Routes, Opens, LogsInto, Sends, Forgets, Drops, Closes}
use Rattle.rws_record.specs.Values.{contains, links, server_of, without}
use Rattle.rws_record.proofs.RecordLemmas.{contained}
use Rattle.rws_record.proofs.WithoutLemmas.{without_has_less}
use Rattle.rws_laws.specs.Causes.{AreCaused, IsOpening}
use Rattle.rws_laws.specs.Laws.{OneLinkEach}
use Rattle.rws_laws.proofs.CausesLemmas.{causes}
use Rattle.rws_laws.proofs.ListLemmas.{had_before, has_it}

abbrev OnceEach : List Item → Type 0
OnceEach past =
    (one other : ℕ) → contains one (links past) ≡ true → contains other (links past) ≡ true → server_of one past ≡ server_of other past
    → one ≡ other

-- a link is opened to a server to which there was none
module _ (past : List Item) (link server : ℕ) (below : OnceEach past)
    (none : (other : ℕ) → contains other (links past) ≡ true → server_of other past ≢ server) where
  by_tests : (one other : ℕ) (test also : Bool) → (link == one) ≡ test → (link == other) ≡ also
      → contains one (without link (links past) ++ link ∷ []) ≡ true → contains other (without link (links past) ++ link ∷ []) ≡ true
      → (if test then server else server_of one past) ≡ (if also then server else server_of other past) → one ≡ other
  by_tests one other true true t a h k same = sym (eqb-true link one t) ∙ eqb-true link other a
  by_tests one other true false t a h k same = absurd (none other (had_before other link (links past) a k) (sym same))
  by_tests one other false true t a h k same = absurd (none one (had_before one link (links past) t h) same)
  by_tests one other false false t a h k same =
      below one other (had_before one link (links past) t h) (had_before other link (links past) a k) same

  opened_once : (one other : ℕ) → contains one (without link (links past) ++ link ∷ []) ≡ true
      → contains other (without link (links past) ++ link ∷ []) ≡ true
      → (if link == one then server else server_of one past) ≡ (if link == other then server else server_of other past) → one ≡ other
  opened_once one other h k same = by_tests one other (link == one) (link == other) refl refl h k same

-- a link is given up or lost
less_once : (past : List Item) (gone : ℕ) → OnceEach past → (one other : ℕ) → contains one (without gone (links past)) ≡ true
    → contains other (without gone (links past)) ≡ true → server_of one past ≡ server_of other past → one ≡ other
less_once past gone below one other h k same =
    below one other (without_has_less gone one (links past) h) (without_has_less gone other (links past) k) same

opening_none : (config : Config) (past : List Item) (link server : ℕ) → IsOpening config link server past → (other : ℕ)
    → contains other (links past) ≡ true → server_of other past ≢ server
opening_none config past link server its other has =
    subst (λ (p : List Item). (other : ℕ) → Contains (links p) other → server_of other p ≢ server) (sym its.answered) its.none_there other
    (contained other (links past) has)

beginning_none : (past : List Item) (server other : ℕ) → past ≡ [] → contains other (links past) ≡ true → server_of other past ≢ server
beginning_none past server other is has = let clash : false ≡ true = sym (ap (λ (p : List Item). contains other (links p)) is) ∙ has in absurd cc

once : (config : Config) (past : List Item) → AreCaused config past → OnceEach past
once config [] caused = λ one other h k same. absurd cc
once config (Began link server reading ∷ past) caused =
    opened_once past link server (once config past caused.2) (λ other has. beginning_none past server other caused.1 has)
once config (Puts (Opens link server login) ∷ past) caused =
    opened_once past link server (once config past caused.1) (opening_none config past link server caused.0.0)
once config (LinkLost link ∷ past) caused = less_once past link (once config past caused.2)
once config (Puts (Drops link cause) ∷ past) caused = less_once past link (once config past caused.1)
once config (Accepted session scramble reading ∷ past) caused = once config past caused.2
once config (TurnsAway told ∷ past) caused = once config past caused.2
once config (ClientBytes bytes ∷ past) caused = once config past caused.2
once config (LinkReady link ∷ past) caused = once config past caused.2
once config (LinkBytes link bytes ∷ past) caused = once config past caused.2
once config (ClientGone ∷ past) caused = once config past caused.2
once config (Ticks reading ∷ past) caused = once config past caused.2
once config (Routed words loads next found ∷ past) caused = once config past caused.2
once config (Comes link said ∷ past) caused = once config past caused.2
once config (Connects said ∷ past) caused = once config past caused.2
once config (Takes it number ∷ past) caused = once config past caused.2
once config (Floods bytes ∷ past) caused = once config past caused.2
once config (Starves made number ∷ past) caused = once config past caused.3
once config (Puts (Hands packets) ∷ past) caused = once config past caused.1
once config (Puts (Records server gtid) ∷ past) caused = once config past caused.1
once config (Puts (Tells number tell) ∷ past) caused = once config past caused.1
once config (Puts Routes ∷ past) caused = once config past caused.1
once config (Puts (Forgets link id) ∷ past) caused = once config past caused.1
once config (Puts (LogsInto link packets) ∷ past) caused = once config past caused.1
once config (Puts (Sends link purpose) ∷ past) caused = once config past caused.1
once config (Puts (Closes reason) ∷ past) caused = once config past caused.1

pub one_link_each : OneLinkEach
one_link_each config past legal one other h k same =
    once config past (causes config past legal) one other (has_it (links past) one h) (has_it (links past) other k) same
