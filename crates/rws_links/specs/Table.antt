-- The links that a session has, as code keeps them.
use Rattle.std.specs.Prelude.{◌≡◌, ℕ, ◌+◌, Bool, true, false, not, ◌==◌, ◌&&◌, ◌||◌, List, [], ◌∷◌, filter, map, Option, Some, None, if◌then◌else◌}
use Rattle.std.specs.Option.{option_map}
use Rattle.rws_reply.specs.declared.kind.Kind.{Kind}
use Rattle.rws_reply.specs.declared.kind.Outcome.TheVariants.{Done, Failed}
use Rattle.rws_reply.specs.declared.kind.Progress.TheVariants.{Whole as Ends}
use Rattle.rws_result.specs.declared.one_value.OneValue.{OneValue}
use Rattle.rws_result.specs.declared.one_value.OneValue.TheVariants.{Begins}
use Rattle.rws_result.specs.OneValues.{heard, value_of}
use Rattle.rws_causal.specs.declared.causal.Causal.{Causal}
use Rattle.rws_causal.specs.Rules.{after_probe, after_wait}
use Rattle.rws_link.specs.declared.step.LinkStep.{LinkStep}
use Rattle.rws_link.specs.declared.step.LinkStep.TheVariants as steps
use Rattle.rws_link.specs.Linking.{IsReady, kept}
use Rattle.rws_link.specs.Stepping.{Rests, is_new}
use Rattle.rws_routing.specs.Routings.{with_server}
use Rattle.rws_record.specs.Item.{Item, Purpose}
use Rattle.rws_record.specs.Item.Item.{Comes, LinkReady, Puts}
use Rattle.rws_record.specs.Item.Put.{Sends}
use Rattle.rws_msgs.specs.declared.prepare_ok.PrepareOk.{PrepareOk}
use Rattle.rws_commands.specs.declared.history.PreparedAs.{PreparedAs}
use Rattle.rws_commands.specs.Statements.{is_otherwise}
use Rattle.rws_record.specs.Values.{asked_on, checked_on, contains, is_up, kind_of, linked, named_by, named_on, sent_all, sent_for, server_of}
use Rattle.rws_record.specs.Rules.{due_arrival, is_ready, is_same}
use Rattle.rws_links.specs.declared.numbered.Asked.{Asked}
use Rattle.rws_links.specs.declared.numbered.Asked.TheVariants.{Preamble, Entry as AnEntry, Command as ACommand, Wait, Probe}
use Rattle.rws_links.specs.declared.coming.Coming.{Coming}
use Rattle.rws_links.specs.declared.numbered.NumberedLink.{NumberedLink}
use Rattle.rws_links.specs.Links.{asked_for, link_of}

abbrev pub has_number : ℕ → NumberedLink → Bool
has_number number link = link.number == number

abbrev pub without_number : ℕ → List NumberedLink → List NumberedLink
without_number number links = filter (λ link. not (link.number == number)) links

-- no number stands twice
abbrev pub AreDistinct : List ℕ → Type 0
AreDistinct [] = Unit {0}
AreDistinct (link ∷ others) = (contains link others ≡ false) × AreDistinct others

-- Links of a record are asked in their order, up to the first that has something to say.
abbrev pub ReadsFirst : List Item → List ℕ → Option Coming → List NumberedLink → Type 0
ReadsFirst past links None new = (due_arrival links past ≡ None) × (new ≡ map (link_of past) links)
ReadsFirst past links (Some found) new =
    (due_arrival links past ≡ Some (Comes found.link found.said)) × (contains found.link links ≡ true)
    × (found.asked ≡ option_map asked_for (asked_on found.link past)) × (found.server ≡ server_of found.link past)
    × (found.named ≡ named_by found.said (named_on found.link past)) × (found.checked ≡ checked_on found.link found.said past)
    × (new ≡ map (link_of (Comes found.link found.said ∷ past)) links)

-- Sending

-- what is sent for a purpose
abbrev pub IsSending : Asked → List (List ℕ) → Kind → Purpose → Type 0
IsSending asked payloads kind purpose = (asked_for purpose ≡ asked) × (sent_for purpose ≡ payloads) × (kind_of purpose ≡ kind)

-- entries of the history, commands of the client and what goes before these go on links that are prepared
abbrev pub needs_prepared : Asked → Bool
needs_prepared Preamble = false
needs_prepared (AnEntry serial statement) = true
needs_prepared ACommand = true
needs_prepared Wait = true
needs_prepared (Probe gtid) = true

abbrev pub MayBeSent : Asked → NumberedLink → Type 0
MayBeSent asked link = (link.is_up ≡ needs_prepared asked) × IsReady link.link

-- something is sent on a link, or isn't: payloads of which the last is answered, by a reply that told of no statement and no value yet
abbrev pub GoesOut : Asked → List (List ℕ) → Kind → (old : NumberedLink) → Bool → (new : NumberedLink) → Type 0
GoesOut asked payloads kind old true new =
    MayBeSent asked old × (new ≡ record old { asked = Some asked; named = None; value = Begins; link = new.link })
    × (old.link ≡ kept Rests → new.link ≡ kept (sent_all payloads kind))
GoesOut asked payloads kind old false new = (MayBeSent asked old → ⊥) × (new ≡ old)

-- Something is sent on a link of a record that is free for it, or isn't sent.
abbrev pub can_go_on : ℕ → Purpose → List Item → List ℕ → Bool
can_go_on number purpose past links =
    contains number links
    && (is_same (needs_prepared (asked_for purpose)) (is_up number past) && is_ready (linked number past))

abbrev pub SendsOn : ℕ → Purpose → List Item → List ℕ → Bool → List NumberedLink → Type 0
SendsOn number purpose past links true new =
    (can_go_on number purpose past links ≡ true) × (new ≡ map (link_of (Puts (Sends number purpose) ∷ past)) links)
SendsOn number purpose past links false new =
    (can_go_on number purpose past links ≡ false) × (new ≡ map (link_of past) links)

-- What is heard

-- it is the end of a reply without an error
abbrev pub is_whole : LinkStep → Bool
is_whole (steps.Part payload role (Ends (Done status)) next behind) = true
is_whole _ = false

-- or by an error
abbrev pub is_failed : LinkStep → Bool
is_failed (steps.Part payload role (Ends (Failed code)) next behind) = true
is_failed _ = false

abbrev pub is_preamble : Option Asked → Bool
is_preamble (Some Preamble) = true
is_preamble _ = false

-- the whole reply to its preamble, without an error, prepares a link
abbrev pub prepares : LinkStep → Option Asked → Bool → Bool
prepares said asked before = if (is_whole said && is_preamble asked) then true else before

-- a link that has played what it was asked has come so far, if that is an entry of the history
abbrev pub behind_entry : Option Asked → ℕ → ℕ
behind_entry (Some (AnEntry serial statement)) before = serial + 1
behind_entry _ before = before

-- with the whole reply to an entry, without an error, it has played that
abbrev pub plays : LinkStep → Option Asked → ℕ → ℕ
plays said asked before = if is_whole said then behind_entry asked before else before

abbrev pub is_entry : Option Asked → Bool
is_entry (Some (AnEntry serial statement)) = true
is_entry _ = false

-- how the statement was prepared first that an entry prepares
abbrev pub statement_of : Option Asked → Option PreparedAs
statement_of (Some (AnEntry serial statement)) = statement
statement_of _ = None

-- an entry is answered otherwise than by the server that it was first sent to: by an error, or with other counts
abbrev pub is_different : LinkStep → Option Asked → Option PrepareOk → Bool
is_different said asked named = (is_failed said && is_entry asked) || (is_whole said && is_otherwise (statement_of asked) named)

-- a server that does so is one more of those that are banned; `named` is the statement that its reply told of
abbrev pub bans : LinkStep → Option Asked → (named : Option PrepareOk) → (server : ℕ) → ℕ → ℕ
bans said asked named server before = if is_different said asked named then with_server server before else before

-- What goes before a read

abbrev pub is_check : Option Asked → Bool
is_check (Some Wait) = true
is_check (Some (Probe gtid)) = true
is_check _ = false

-- the answer to a wait or a probe is read as a result set of one value
abbrev pub valued_in : Option Asked → List ℕ → OneValue → OneValue
valued_in asked payload before = if is_check asked then heard before payload else before

abbrev pub values : LinkStep → Option Asked → OneValue → OneValue
values (steps.Part payload role progress next behind) asked before = valued_in asked payload before
values _ asked before = before

-- it is the end of a reply
abbrev pub is_ended : LinkStep → Bool
is_ended (steps.Part payload role (Ends outcome) next behind) = true
is_ended _ = false

-- what comes next, where the answer's value is this
abbrev pub checks_by : Option Asked → OneValue → Option Causal
checks_by (Some Wait) value = Some (after_wait (value_of value))
checks_by (Some (Probe gtid)) value = Some (after_probe gtid (value_of value))
checks_by _ value = None

-- a wait or a probe was answered to its end
abbrev pub checks : LinkStep → Option Asked → OneValue → Option Causal
checks said asked value = if is_ended said then checks_by asked value else None

-- the link of this number led the entry of this serial
abbrev pub led : (number serial : ℕ) → NumberedLink → NumberedLink
led number serial link = if link.number == number then record link { cursor = serial + 1 } else link

-- A new link of a record counts as ready, or there is none of this number.
abbrev pub ReadiesOn : ℕ → List Item → List ℕ → Bool → List NumberedLink → Type 0
ReadiesOn number past links true new =
    ((contains number links && is_new (linked number past)) ≡ true)
    × (new ≡ map (link_of (LinkReady number ∷ past)) links)
ReadiesOn number past links false new =
    ((contains number links && is_new (linked number past)) ≡ false) × (new ≡ map (link_of past) links)
