-- What code makes of its state in a step is the state of the record with the step's item.
use Rattle.std.proofs.Common.{◌≡◌, ◌≤◌, ℕ, length, take, Bool, true, false, List, [], ◌∷◌, map, refl, ap, ◌∙◌, Option, Some, None}
use Rattle.std.proofs.lemmas.Simd.{map-map}
use Rattle.std.proofs.lemmas.List.{map-append, take_all}
use Rattle.std.specs.Prelude.{◌&&◌, is_none, if◌then◌else◌}
use Rattle.rws_wire.specs.declared.drop_cause.DropCause.{DropCause}
use Rattle.rws_wire.specs.declared.drop_cause.DropCause.TheVariants.{End, Kept as IsKept}
use Rattle.rws_class.specs.declared.class.Class.{Class}
use Rattle.rws_config.specs.declared.config.Config.{Config}
use Rattle.rws_commands.specs.declared.command.Command.{Command}
use Rattle.rws_commands.specs.declared.proxy_error.ProxyError.{ProxyError}
use Rattle.rws_commands.specs.declared.proxy_error.ProxyError.TheVariants as errors
use Rattle.rws_record.specs.Item.{Ending, Item, Put, Recording}
use Rattle.rws_record.specs.Item.Item.{Puts}
use Rattle.rws_record.specs.Item.Put.{Hands, Tells, Records, Routes, Opens, LogsInto, Sends, Forgets, Drops, Closes}
use Rattle.rws_record.specs.Item.Recording.{Nothing, Accepts, Keeps}
use Rattle.rws_record.specs.Item.Tell.{Passes, Owns, Refuses}
use Rattle.rws_commands.specs.Commands.{keeps}
use Rattle.rws_record.specs.Values.{kept_by, kept_on, links, without}
use Rattle.rws_record.specs.Rules.{owed, after_keeping, after_loss, is_loss}
use Rattle.rws_links.specs.declared.numbered.NumberedLink.{NumberedLink}
use Rattle.rws_session.specs.declared.owing.Out.{Out}
use Rattle.rws_session.specs.declared.owing.Out.TheVariants as outs
use Rattle.rws_links.specs.History.{recorded}
use Rattle.rws_links.specs.Links.{link_of}
use Rattle.rws_session.specs.State.{State, erased, state_of}
use Rattle.rws_links.proofs.TableLemmas.{led_is, without_is}
use Rattle.rws_session.specs.Steps.{after_out, gives_up, others_dropped, passed, refused}

-- what is kept of a record, but for what is owed
abbrev pub owing_else : Config → List Item → List (Option Out) → State
owing_else config past owed = record (state_of config past) { owed = owed }

-- all links were gone through
pub farewells_wait : (links : List NumberedLink) (count : ℕ) (owed : List Out)
    → owed ≡ map (λ (link : NumberedLink). outs.Drop link.number End) (take count links) → length links ≤ count
    → map (λ (out : Out). Some out) owed ≡ map (λ (link : NumberedLink). Some (outs.Drop link.number End)) links
farewells_wait links count owed e all =
    ap (map (λ (out : Out). Some out)) (e ∙ ap (map (λ (link : NumberedLink). outs.Drop link.number End)) (take_all count links all))
    ∙ map-map (λ (out : Out). Some out) (λ (link : NumberedLink). outs.Drop link.number End) links

-- links that are given up for a cause
pub drops_are : (past : List Item) (cause : DropCause) (links : List ℕ)
    → map (λ (link : NumberedLink). Some (outs.Drop link.number cause)) (map (link_of past) links) ≡ map erased (map (λ link. Drops link cause) links)
drops_are past cause [] = refl
drops_are past cause (link ∷ others) = rw (drops_are past cause others) refl

pub farewells_are : (past : List Item) (links : List ℕ)
    → map (λ (link : NumberedLink). Some (outs.Drop link.number End)) (map (link_of past) links) ≡ map erased (map (λ link. Drops link End) links)
farewells_are past links = drops_are past End links

-- where the session is kept from now on, the other links are given up
pub others_are : (past : List Item) (keeping : Bool) (link : ℕ) (kept : Option ℕ) (links : List ℕ)
    → others_dropped (keeping && is_none kept) link (map (link_of past) links) ≡ map erased (after_keeping keeping link kept links)
others_are past true link None links = rw (without_is past link links) (drops_are past IsKept (without link links))
others_are past true link (Some kept) links = refl
others_are past false link kept links = refl

-- the last payload of a reply goes out
passed_is : (config : Config) (past : List Item) (number link : ℕ) (command : Command) (payload : List ℕ) (its : Ending) (note : Recording)
    (others : List Put) → owed config past ≡ Tells number (Passes link command payload (Some its) note) ∷ others
    → passed number link payload (Some its) (recorded note) (owing_else config past (map erased others))
    ≡ state_of config (Puts (Tells number (Passes link command payload (Some its) note)) ∷ past)
passed_is config past number link command payload its Nothing others o = rw o refl
passed_is config past number link command payload its Accepts others o =
    rw (o, led_is past number link command payload its (links past)) refl
passed_is config past number link command payload its Keeps others o =
    rw (o, map-append erased (after_keeping true link (kept_on past) (links past)) others, others_are past true link (kept_on past) (links past)) refl

-- something that was owed first goes out
pub put_is : (config : Config) (past : List Item) (put : Put) (others : List Put) (out : Out) → owed config past ≡ put ∷ others
    → erased put ≡ Some out → after_out out (owing_else config past (map erased others)) ≡ state_of config (Puts put ∷ past)
put_is config past (Tells number (Passes link command payload (Some its) recording)) others out o e =
    let same : outs.Pass number link payload (Some its) (recorded recording) ≡ out = cc in
    rw (← same) (passed_is config past number link command payload its recording others o)
put_is config past (Tells number (Passes link command payload None recording)) others out o e =
    let same : outs.Pass number link payload None (recorded recording) ≡ out = cc in rw (← same) (rw o refl)
put_is config past (Tells number (Owns status)) others out o e =
    let same : outs.Own number status ≡ out = cc in rw (← same) (rw o refl)
put_is config past (Tells number (Refuses error)) others out o e =
    let same : outs.Refuse number error ≡ out = cc in rw (← same) (by_error error)
  where
    by_error : (error : ProxyError) → refused error (owing_else config past (map erased others))
        ≡ state_of config (Puts (Tells number (Refuses error)) ∷ past)
    by_error errors.UnknownCommand = rw o refl
    by_error errors.NotSupported = rw o refl
    by_error errors.UnknownStatement = rw o refl
    by_error errors.BadExecute = rw o refl
    by_error errors.TooManyStatements = rw o refl
    by_error errors.NotInReadOnly = rw o refl
    by_error errors.TooManyConnections = rw o refl
    by_error errors.CommandTooLarge = rw o refl
    by_error errors.NoPrimary = rw o refl
    by_error (errors.PrimaryBehind wanted found) = rw o refl
    by_error errors.OutOfMemory = rw o refl
put_is config past (Hands packets) others out o e =
    let same : outs.Hand packets ≡ out = cc in rw (← same) (rw o refl)
put_is config past (Records server gtid) others out o e =
    let same : outs.Record server gtid ≡ out = cc in rw (← same) (rw o refl)
put_is config past Routes others out o e = absurd cc
put_is config past (Opens link server login) others out o e = absurd cc
put_is config past (LogsInto link packets) others out o e =
    let same : outs.LogIn link packets ≡ out = cc in rw (← same) (rw o refl)
put_is config past (Sends link purpose) others out o e = absurd cc
put_is config past (Forgets link id) others out o e = absurd cc
put_is config past (Drops link cause) others out o e =
    let same : outs.Drop link cause ≡ out = cc in rw (← same) (by_loss (is_loss cause) refl)
  where
    by_loss : (lost : Bool) → is_loss cause ≡ lost
        → gives_up link cause (owing_else config past (map erased others)) ≡ state_of config (Puts (Drops link cause) ∷ past)
    by_loss true l = rw (l, o, without_is past link (links past), map-append erased (after_loss config link past) others) refl
    by_loss false l = rw (l, o, without_is past link (links past)) refl
put_is config past (Closes reason) others out o e =
    let same : outs.Close reason ≡ out = cc in rw (← same) (rw (farewells_are past (links past)) refl)

-- The pending command is sent

-- a command by which anything may be changed keeps the session where it is sent
pub kept_is : (class : Class) (link : ℕ) (kept : Option ℕ) → (if (keeps class && is_none kept) then Some link else kept) ≡ kept_by class link kept
kept_is class link None = by_keeps (keeps class)
  where
    by_keeps : (keeping : Bool) → (if (keeping && true) then Some link else None) ≡ (if keeping then Some link else None)
    by_keeps true = refl
    by_keeps false = refl
kept_is class link (Some kept) = by_keeps (keeps class)
  where
    by_keeps : (keeping : Bool) → (if (keeping && false) then Some link else Some kept) ≡ Some kept
    by_keeps true = refl
    by_keeps false = refl
