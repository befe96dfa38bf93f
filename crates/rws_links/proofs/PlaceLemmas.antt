-- A link of a table, by its number.
use Rattle.std.proofs.Common.{◌≡◌, ◌<◌, ℕ, zero, suc, ◌+◌, Bool, true, false, cond, List, [], ◌∷◌, map, length, get_or, set, position, refl, sym, ap, subst, ◌∙◌, arith, Some, None, Result, Ok, Err, IfOk, eqb-true}
use Rattle.std.specs.Prelude.{◌==◌, ◌&&◌, ◌↔◌, OnErr, OnOk, if◌then◌else◌}
use Rattle.std.specs.List.{position_from}
use Rattle.std.proofs.lemmas.List.{set-get_or}
use Rattle.std.proofs.lemmas.List.Quantifiers.{position-Some}
use Rattle.std.proofs.lemmas.Iterator.Adapters.{position_from-zero}
use Rattle.std.proofs.lemmas.Result.{IfOk-weaker}
use Rattle.std.proofs.Math.Seq.{map-set_same}
use Rattle.rws_reply.specs.declared.kind.Kind.{Kind}
use Rattle.rws_result.specs.declared.one_value.OneValue.TheVariants.{Begins}
use Rattle.rws_link.specs.Stepping.{LinkState, LogsIn, Rests, Awaits, IsLost, fed, is_new, readied}
use Rattle.rws_link.specs.Linking.{IsReady, Linking, kept}
use Rattle.rws_record.specs.Item.{Item, Purpose}
use Rattle.rws_record.specs.Item.Item.{LinkBytes, LinkReady, Puts}
use Rattle.rws_record.specs.Item.Put.{Sends}
use Rattle.rws_record.specs.Values.{contains, is_up, kind_of, linked, sent_all, sent_for}
use Rattle.rws_record.specs.Rules.{is_ready, is_same}
use Rattle.rws_links.specs.declared.numbered.Asked.{Asked}
use Rattle.rws_links.specs.declared.numbered.Asked.TheVariants.{Command as ACommand}
use Rattle.rws_links.specs.declared.numbered.NumberedLink.{NumberedLink}
use Rattle.rws_links.specs.Links.{asked_for, link_of, number_of}
use Rattle.rws_links.specs.Table.{AreDistinct, GoesOut, IsSending, MayBeSent, ReadiesOn, SendsOn, has_number, needs_prepared}
use Rattle.rws_links.proofs.TableLemmas.{IsAbout, both, bytes_about, changes_first, itself, others_same, readying_about, sending_about}

-- What stands at a place

module _ (past : List Item) (number : ℕ) where
  -- the link at the place of this number is that of the record
  link_at : (links : List ℕ) (at : ℕ) (d : NumberedLink) → at < length (map (link_of past) links)
      → has_number number (get_or (map (link_of past) links) at d) ≡ true → get_or (map (link_of past) links) at d ≡ link_of past number
  link_at [] at d inside here = absurd (omega arith)
  link_at (link ∷ others) zero d inside here = ap (link_of past) (eqb-true link number here)
  link_at (link ∷ others) (suc at) d inside here = link_at others at d (omega arith) here

  contained_at : (links : List ℕ) (at : ℕ) (d : NumberedLink) → at < length (map (link_of past) links)
      → has_number number (get_or (map (link_of past) links) at d) ≡ true
      → ((k : ℕ) → k < at → has_number number (get_or (map (link_of past) links) k d) ≡ false) → contains number links ≡ true
  contained_at [] at d inside here before = absurd (omega arith)
  contained_at (link ∷ others) zero d inside here before = rw here refl
  contained_at (link ∷ others) (suc at) d inside here before =
      let apart : (link == number) ≡ false = before 0 (omega arith) in
      rw apart (contained_at others at d (omega arith) here (λ k below. before (suc k) (omega arith)))

  -- a link of the record with an item about it stands there in its place
  changes_at : (item : Item) → IsAbout number item past → (new : NumberedLink) → new ≡ link_of (item ∷ past) number → (links : List ℕ)
      → AreDistinct links → (at : ℕ) (d : NumberedLink) → at < length (map (link_of past) links)
      → has_number number (get_or (map (link_of past) links) at d) ≡ true
      → ((k : ℕ) → k < at → has_number number (get_or (map (link_of past) links) k d) ≡ false)
      → set (map (link_of past) links) at new ≡ map (link_of (item ∷ past)) links
  changes_at item about new is [] distinct at d inside here before = absurd (omega arith)
  changes_at item about new is (link ∷ others) distinct zero d inside here before =
      let same : link ≡ number = eqb-true link number here in
      subst (λ (n : ℕ). new ∷ map (link_of past) others ≡ map (link_of (item ∷ past)) (n ∷ others)) (sym same)
      (changes_first past item number about others new (map (link_of past) others) refl
      (subst (λ (n : ℕ). contains n others ≡ false) same distinct.0) is)
  changes_at item about new is (link ∷ others) distinct (suc at) d inside here before =
      let apart : (link == number) ≡ false = before 0 (omega arith) in
      both (sym (about link apart))
      (changes_at item about new is others distinct.1 at d (omega arith) here (λ k below. before (suc k) (omega arith)))

  nowhere : (n : ℕ) (links : List ℕ) → position_from (has_number number) n (map (link_of past) links) ≡ None → contains number links ≡ false
  nowhere n [] none = refl
  nowhere n (link ∷ others) none =
      elim (link == number) as (λ b. cond b (Some n) (position_from (has_number number) (n + 1) (map (link_of past) others)) ≡ None
      → (if b then true else contains number others) ≡ false) [
        | true ↦ λ e. absurd (cc (e))
        | false ↦ λ e. nowhere (n + 1) others e
      ] none

-- there is a link of this number, at this place
pub record At (past : List Item) (number : ℕ) (links : List ℕ) (items : List NumberedLink) (at : ℕ) (link : NumberedLink) : Type 0 where
  pub is : link ≡ link_of past number
  pub has : contains number links ≡ true
  pub stays : set items at link ≡ map (link_of past) links
  pub changes : (item : Item) → IsAbout number item past → (new : NumberedLink) → new ≡ link_of (item ∷ past) number
      → set items at new ≡ map (link_of (item ∷ past)) links

pub found_at : (past : List Item) (number : ℕ) (links : List ℕ) (items table : List NumberedLink) (at : ℕ) (link : NumberedLink)
    → items ≡ table → table ≡ map (link_of past) links → AreDistinct links → position (has_number number) table ≡ Some at
    → link ≡ get_or items at link → At past number links items at link
found_at past number links items table at link same are distinct found read =
    let all : items ≡ map (link_of past) links = same ∙ are in
    let first = position-Some (has_number number) (map (link_of past) links) at link
    (ap (position (has_number number)) (sym are) ∙ found) in
    let there : link ≡ get_or (map (link_of past) links) at link = read ∙ ap (λ (l : List NumberedLink). get_or l at link) all in
    record {
      is = there ∙ link_at past number links at link first.0 first.1;
      has = contained_at past number links at link first.0 first.1 first.2;
      stays = ap (set items at) read ∙ set-get_or items at link ∙ all;
      changes = λ item about new is. ap (λ (l : List NumberedLink). set l at new) all
          ∙ changes_at past number item about new is links distinct at link first.0 first.1 first.2;
    }

-- there is none
pub found_none : (past : List Item) (number : ℕ) (links : List ℕ) (table : List NumberedLink) → table ≡ map (link_of past) links
    → position (has_number number) table ≡ None → contains number links ≡ false
found_none past number links table are none =
    nowhere past number 0 links (sym (position_from-zero (has_number number) (map (link_of past) links))
    ∙ ap (position (has_number number)) (sym are) ∙ none)

-- the numbers stay where that of one link does
pub numbers_stay : (items table : List NumberedLink) (at : ℕ) (link new : NumberedLink) → items ≡ table → link ≡ get_or items at link
    → new.number ≡ link.number → map number_of (set items at new) ≡ map number_of table
numbers_stay items table at link new same read number =
    map-set_same number_of items at new link (number ∙ ap number_of read) ∙ ap (map number_of) same

pub numbers_stay_err : (items table : List NumberedLink) (at : ℕ) (link new : NumberedLink) → items ≡ table → link ≡ get_or items at link
    → new ≡ record link { link = new.link } → {T E : Type 0} (result : Result T E)
    → OnErr result (map number_of (set items at new) ≡ map number_of table)
numbers_stay_err items table at link new same read stays_so (Ok value) = tt
numbers_stay_err items table at link new same read stays_so (Err error) = numbers_stay items table at link new same read (ap number_of stays_so)

-- Bytes come

pub fed_at : (past : List Item) (number : ℕ) (links : List ℕ) (items : List NumberedLink) (at : ℕ) (bytes : List ℕ) (link new : NumberedLink)
    → At past number links items at link → new ≡ record link { link = new.link } → {T E : Type 0} (result : Result T E)
    → ((state : LinkState) → link.link ≡ kept state → OnOk result (new.link ≡ kept (fed bytes state)))
    → OnOk result (set items at new ≡ map (link_of (LinkBytes number bytes ∷ past)) links)
fed_at past number links items at bytes link new there stays_so (Err error) feeds = tt
fed_at past number links items at bytes link new there stays_so (Ok value) feeds =
    let state : LinkState = linked number past in
    let whole : new ≡ record (link_of past number) { link = kept (fed bytes state) } =
    stays_so ∙ ap (λ (l : NumberedLink). record l { link = new.link }) there.is
    ∙ ap (λ (k : Linking). record (link_of past number) { link = k }) (feeds state (ap (λ (l : NumberedLink). l.link) there.is)) in
    there.changes (LinkBytes number bytes) (bytes_about past number bytes) new (rw (itself number) whole)

pub fed_nowhere : (past : List Item) (number : ℕ) (links : List ℕ) (bytes : List ℕ) (table : List NumberedLink)
    → table ≡ map (link_of past) links → position (has_number number) table ≡ None
    → table ≡ map (link_of (LinkBytes number bytes ∷ past)) links
fed_nowhere past number links bytes table are none =
    are ∙ others_same past (LinkBytes number bytes) number (bytes_about past number bytes) links (found_none past number links table are none)

-- Something is sent

-- a test that says two things, each of which is a test of its own
by_both : {P Q : Type 0} (a b test : Bool) → (P → a ≡ true) → (a ≡ true → P) → (Q → b ≡ true) → (b ≡ true → Q)
    → ((test ≡ true) ↔ (P × Q)) → test ≡ (a && b)
by_both true true true p p' q q' e = refl
by_both true true false p p' q q' e = e.1 (p' refl, q' refl)
by_both true false true p p' q q' e = sym (q (e.0 refl).1)
by_both true false false p p' q q' e = refl
by_both false b true p p' q q' e = sym (p (e.0 refl).0)
by_both false b false p p' q q' e = refl

is_same_is : (wanted up : Bool) → up ≡ wanted → is_same wanted up ≡ true
is_same_is true up e = e
is_same_is false true e = absurd cc
is_same_is false false e = refl

same_is : (wanted up : Bool) → is_same wanted up ≡ true → up ≡ wanted
same_is true up e = e
same_is false true e = absurd cc
same_is false false e = refl

is_ready_is : (state : LinkState) → IsReady (kept state) → is_ready state ≡ true
is_ready_is (LogsIn handshake unread) r = absurd r
is_ready_is Rests r = refl
is_ready_is (Awaits x unread) r = absurd r
is_ready_is (IsLost cause) r = absurd r

ready_is : (state : LinkState) → is_ready state ≡ true → IsReady (kept state)
ready_is (LogsIn handshake unread) e = absurd cc
ready_is Rests e = tt
ready_is (Awaits x unread) e = absurd cc
ready_is (IsLost cause) e = absurd cc

rests_by : (up : Bool) (state : LinkState) → true ≡ (up && is_ready state) → state ≡ Rests
rests_by true (LogsIn handshake unread) e = absurd cc
rests_by true Rests e = refl
rests_by true (Awaits x unread) e = absurd cc
rests_by true (IsLost cause) e = absurd cc
rests_by false state e = absurd cc

-- the test of the first link
tests : (past : List Item) (link : NumberedLink) (first : ℕ) (asked : Asked) (test : Bool) → link ≡ link_of past first
    → ((test ≡ true) ↔ MayBeSent asked link)
    → test ≡ (is_same (needs_prepared asked) (is_up first past) && is_ready (linked first past))
tests past link first asked test is e =
    let wanted = needs_prepared asked in
    let up = is_up first past in
    let state = linked first past in
    by_both (is_same wanted up) (is_ready state) test (is_same_is wanted up) (same_is wanted up) (is_ready_is state) (ready_is state)
    (subst (λ (l : NumberedLink). (test ≡ true) ↔ MayBeSent asked l) is e)

sent_as : (past : List Item) (number : ℕ) (links : List ℕ) (items : List NumberedLink) (at : ℕ) (purpose : Purpose) (link new : NumberedLink)
    → At past number links items at link → (went : Bool) → GoesOut (asked_for purpose) (sent_for purpose) (kind_of purpose) link went new
    → SendsOn number purpose past links went (set items at new)
sent_as past number links items at purpose link new there true goes =
    let asked : Asked = asked_for purpose in
    let ready : true ≡ (is_same (needs_prepared asked) (is_up number past) && is_ready (linked number past)) =
    tests past link number asked true there.is (λ e. goes.0, λ may. refl) in
    let rests : linked number past ≡ Rests = rests_by (is_same (needs_prepared asked) (is_up number past)) (linked number past) ready in
    let state : LinkState = sent_all (sent_for purpose) (kind_of purpose) in
    let whole : new ≡ record (link_of past number) { asked = Some asked; named = None; value = Begins; link = kept state } =
    goes.1 ∙ ap (λ (l : NumberedLink). record l { asked = Some asked; named = None; value = Begins; link = new.link }) there.is
    ∙ ap (λ (k : Linking). record (link_of past number) { asked = Some asked; named = None; value = Begins; link = k })
    (goes.2 (ap (λ (l : NumberedLink). l.link) there.is ∙ ap kept rests)) in (
      rw there.has (sym ready),
      there.changes (Puts (Sends number purpose)) (sending_about past number purpose) new (rw (itself number) whole),
    )
sent_as past number links items at purpose link new there false goes =
    let asked : Asked = asked_for purpose in
    let ready : false ≡ (is_same (needs_prepared asked) (is_up number past) && is_ready (linked number past)) =
    tests past link number asked false there.is (λ e. absurd cc, λ may. absurd (goes.0 may)) in
    (rw there.has (sym ready), ap (set items at) goes.1 ∙ there.stays)

pub sent_at : (past : List Item) (number : ℕ) (links : List ℕ) (items : List NumberedLink) (at : ℕ) (asked : Asked) (payloads : List (List ℕ)) (kind : Kind)
    (purpose : Purpose) (link new : NumberedLink) → IsSending asked payloads kind purpose → At past number links items at link
    → {E : Type 0} (result : Result Bool E) → IfOk result (λ went. GoesOut asked payloads kind link went new)
    → IfOk result (λ went. SendsOn number purpose past links went (set items at new))
sent_at past number links items at asked payloads kind purpose link new sending there result goes =
    IfOk-weaker result (λ went. GoesOut asked payloads kind link went new) (λ went. SendsOn number purpose past links went (set items at new))
    (λ went out. sent_as past number links items at purpose link new there went (rw (sending.0, sending.1, sending.2) out)) goes

pub sent_nowhere : (past : List Item) (number : ℕ) (links : List ℕ) (purpose : Purpose) (table : List NumberedLink)
    → table ≡ map (link_of past) links → position (has_number number) table ≡ None → SendsOn number purpose past links false table
sent_nowhere past number links purpose table are none = (rw (found_none past number links table are none) refl, are)

-- A command without a reply goes on a link

-- the table stays as it is
abbrev pub Tells : ℕ → List Item → List ℕ → Bool → List NumberedLink → List NumberedLink → Type 0
Tells number past links went old new =
    (went ≡ (contains number links && (is_same true (is_up number past) && is_ready (linked number past)))) × (new ≡ old)

pub told_at : (past : List Item) (number : ℕ) (links : List ℕ) (items table : List NumberedLink) (at : ℕ) (link : NumberedLink)
    → At past number links items at link → {E : Type 0} (result : Result Bool E)
    → IfOk result (λ went. (went ≡ true) ↔ MayBeSent ACommand link) → IfOk result (λ went. Tells number past links went table table)
told_at past number links items table at link there result free =
    IfOk-weaker result (λ went. (went ≡ true) ↔ MayBeSent ACommand link) (λ went. Tells number past links went table table)
    (λ went may. (rw there.has (tests past link number ACommand went there.is may), refl)) free

pub told_nowhere : (past : List Item) (number : ℕ) (links : List ℕ) (table : List NumberedLink) → table ≡ map (link_of past) links
    → position (has_number number) table ≡ None → Tells number past links false table table
told_nowhere past number links table are none = (rw (found_none past number links table are none) refl, refl)

-- A link counts as ready

pub readied_at : (past : List Item) (number : ℕ) (links : List ℕ) (items : List NumberedLink) (at : ℕ) (link new : NumberedLink)
    → At past number links items at link → (went : Bool) → ((state : LinkState) → link.link ≡ kept state → went ≡ is_new state)
    → ((state : LinkState) → link.link ≡ kept state → new ≡ (if went then record link { is_up = true; link = kept (readied state) } else link))
    → ReadiesOn number past links went (set items at new)
readied_at past number links items at link new there true is_new_too readies =
    let its : link.link ≡ kept (linked number past) = ap (λ (l : NumberedLink). l.link) there.is in
    let whole : new ≡ record (link_of past number) { is_up = true; link = kept (readied (linked number past)) } =
    readies (linked number past) its
    ∙ ap (λ (l : NumberedLink). record l { is_up = true; link = kept (readied (linked number past)) }) there.is in (
      rw there.has (sym (is_new_too (linked number past) its)),
      there.changes (LinkReady number) (readying_about past number) new (rw (itself number) whole),
    )
readied_at past number links items at link new there false isnt_new stays =
    let its : link.link ≡ kept (linked number past) = ap (λ (l : NumberedLink). l.link) there.is in
    (rw there.has (sym (isnt_new (linked number past) its)), ap (set items at) (stays (linked number past) its) ∙ there.stays)

pub readied_nowhere : (past : List Item) (number : ℕ) (links : List ℕ) (table : List NumberedLink) → table ≡ map (link_of past) links
    → position (has_number number) table ≡ None → ReadiesOn number past links false table
readied_nowhere past number links table are none = (rw (found_none past number links table are none) refl, are)
