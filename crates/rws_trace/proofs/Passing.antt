-- What a line at a place does to the script.
use Rattle.std.proofs.Common.{◌≡◌, ◌≢◌, ℕ, ◌+◌, ◌≤◌, Bool, true, false, cond, List, [], ◌∷◌, length, Option, Some, None, option_map, refl, sym, ◌∙◌, ap, codes, bytes_eq, arith}
use Rattle.std.specs.Bool.{⊤}
use Rattle.std.proofs.lemmas.Bool.Decides.{nat_tests}
use Rattle.rws_trace.specs.EventLine.{meaning_of, said_or_bad, event_of, event_of_two, event_of_three, event_of_few, words_of, with_both, session_of, link_of, server_from, bytes_of, scramble_of, begin_of, number_of, round_of}
use Rattle.rws_trace.specs.Reader.{IsNext, script_at, count_of}
use Rattle.rws_trace.specs.Script.{Script, told_before, in_order, may_come, meaning_at, order_after}
use Rattle.rws_board.specs.declared.event.Event.{Event}
use Rattle.rws_board.specs.declared.event.Event.TheVariants.{Accept, Begin, ClientBytes, ClientGone, LinkReady, LinkBytes, LinkGone, Clock, Observed, End}
use Rattle.rws_trace.specs.declared.event_line.EventLine.{EventLine}
use Rattle.rws_trace.specs.declared.event_line.EventLine.TheVariants.{Silent, Says, Bad}
use Rattle.rws_trace.specs.declared.event_line.TheConstants.{MAX_LINE, LAST_LINE}
use Rattle.rws_trace.specs.declared.order.Order.{Order}
use Rattle.rws_trace.specs.declared.place.Place.{Place}
use Rattle.rws_trace.specs.declared.settings.TraceSettings.{TraceSettings}

-- no line says the end
abbrev NotEnd : Option Event → Type 0
NotEnd None = ⊤
NotEnd (Some event) = event ≢ End

NotEnd-cond : (b : Bool) (x y : Option Event) → NotEnd x → NotEnd y → NotEnd (cond b x y)
NotEnd-cond true x y p q = p
NotEnd-cond false x y p q = q

NotEnd-map : {A : Type 0} (f : A → Event) → ((a : A) → f a ≢ End) → (o : Option A) → NotEnd (option_map f o)
NotEnd-map f not None = tt
NotEnd-map f not (Some a) = not a

NotEnd-both : {A B : Type 0} (f : A → B → Event) → ((a : A) (b : B) → f a b ≢ End) → (o : Option A) (u : Option B) → NotEnd (with_both f o u)
NotEnd-both f not (Some a) (Some b) = not a b
NotEnd-both f not (Some a) None = tt
NotEnd-both f not None (Some b) = tt
NotEnd-both f not None None = tt

NotEnd-two : (keyword number : List ℕ) → NotEnd (event_of_two keyword number)
NotEnd-two keyword number =
    NotEnd-cond (bytes_eq keyword (codes "gone")) _ _ (NotEnd-map ClientGone (λ a e. cc) (session_of number))
    (NotEnd-cond (bytes_eq keyword (codes "ready")) _ _ (NotEnd-map LinkReady (λ a e. cc) (link_of number))
    (NotEnd-cond (bytes_eq keyword (codes "lost")) _ _ (NotEnd-map LinkGone (λ a e. cc) (link_of number))
    (NotEnd-cond (bytes_eq keyword (codes "clock")) _ _ (NotEnd-map Clock (λ a e. cc) (number_of number)) tt)))

NotEnd-begin : (settings : TraceSettings) (number word : List ℕ) → NotEnd (begin_of settings number word)
NotEnd-begin settings number word =
    NotEnd-cond settings.plain _ None (NotEnd-both Begin (λ a b e. cc) (session_of number) (server_from 0 settings.servers word)) tt

NotEnd-three : (settings : TraceSettings) (keyword number word : List ℕ) → NotEnd (event_of_three settings keyword number word)
NotEnd-three settings keyword number word =
    NotEnd-cond (bytes_eq keyword (codes "accept")) _ _ (NotEnd-both Accept (λ a b e. cc) (session_of number) (scramble_of word))
    (NotEnd-cond (bytes_eq keyword (codes "begin")) _ _ (NotEnd-begin settings number word)
    (NotEnd-cond (bytes_eq keyword (codes "client")) _ _ (NotEnd-both ClientBytes (λ a b e. cc) (session_of number) (bytes_of word))
    (NotEnd-cond (bytes_eq keyword (codes "link")) _ _ (NotEnd-both LinkBytes (λ a b e. cc) (link_of number) (bytes_of word)) tt)))

NotEnd-few : (settings : TraceSettings) (keyword : List ℕ) (words : List (List ℕ)) → NotEnd (event_of_few settings keyword words)
NotEnd-few settings keyword [] = tt
NotEnd-few settings keyword (a ∷ []) = NotEnd-two keyword a
NotEnd-few settings keyword (a ∷ b ∷ []) = NotEnd-three settings keyword a b
NotEnd-few settings keyword (a ∷ b ∷ c ∷ words) = tt

NotEnd-event : (settings : TraceSettings) (words : List (List ℕ)) → NotEnd (event_of settings words)
NotEnd-event settings [] = tt
NotEnd-event settings (keyword ∷ []) = tt
NotEnd-event settings (keyword ∷ word ∷ words) =
    NotEnd-cond (bytes_eq keyword (codes "observe")) _ _ (NotEnd-map Observed (λ a e. cc) (round_of settings.servers (word ∷ words)))
    (NotEnd-few settings keyword (word ∷ words))

said-not_end : (o : Option Event) → NotEnd o → said_or_bad o ≢ Says End
said-not_end None not is = cc
said-not_end (Some event) not is = not cc

cond-not_end : (b : Bool) (m n : EventLine) → m ≢ Says End → n ≢ Says End → cond b m n ≢ Says End
cond-not_end true m n p q = p
cond-not_end false m n p q = q

meaning-not_end : (settings : TraceSettings) (line : List ℕ) → meaning_of settings line ≢ Says End
meaning-not_end settings [] = λ is. cc
meaning-not_end settings (byte ∷ line) =
    cond-not_end _ Silent (said_or_bad (event_of settings (words_of (byte ∷ line)))) (λ e. cc) (said-not_end _ (NotEnd-event settings (words_of (byte ∷ line))))

in_order-not_end : (order : Order) (meaning : EventLine) → meaning ≢ Says End → in_order order meaning ≢ Says End
in_order-not_end order Silent not = not
in_order-not_end order Bad not = not
in_order-not_end order (Says event) not = cond-not_end (may_come order event) (Says event) Bad not (λ e. cc)

pub event-not_end : (settings : TraceSettings) (order : Order) (line : List ℕ) (event : Event) → Says event ≡ in_order order (meaning_of settings line) → event ≢ End
event-not_end settings order line event says end =
    in_order-not_end order (meaning_of settings line) (meaning-not_end settings line) (sym says ∙ ap Says end)

-- an event that isn't the end comes next where the script says it
pub next-event : (event : Event) (bad : Option ℕ) (before behind : Script) → event ≢ End → before ≡ told_before event behind → bad ≡ None → IsNext event bad before behind
next-event (Accept session scramble) bad before behind not told none = (told, none)
next-event (Begin session server) bad before behind not told none = (told, none)
next-event (ClientBytes session bytes) bad before behind not told none = (told, none)
next-event (ClientGone session) bad before behind not told none = (told, none)
next-event (LinkReady link) bad before behind not told none = (told, none)
next-event (LinkBytes link bytes) bad before behind not told none = (told, none)
next-event (LinkGone link) bad before behind not told none = (told, none)
next-event (Clock now) bad before behind not told none = (told, none)
next-event (Observed round) bad before behind not told none = (told, none)
next-event End bad before behind not told none = absurd (not refl)

pub count-event : (event : Event) → event ≢ End → count_of event ≡ 1
count-event (Accept session scramble) not = refl
count-event (Begin session server) not = refl
count-event (ClientBytes session bytes) not = refl
count-event (ClientGone session) not = refl
count-event (LinkReady link) not = refl
count-event (LinkBytes link bytes) not = refl
count-event (LinkGone link) not = refl
count-event (Clock now) not = refl
count-event (Observed round) not = refl
count-event End not = absurd (not refl)

pub meaning_at-in_order : (settings : TraceSettings) (number : ℕ) (order : Order) (line : List ℕ) → length line ≤ MAX_LINE → number ≢ LAST_LINE → meaning_at settings number order line ≡ in_order order (meaning_of settings line)
meaning_at-in_order settings number order line short not_last = grind (arith, nat_tests)

-- the script where its first line says an event, and the place behind it
pub script_at-says : (place next : Place) (line : List ℕ) (lines : List (List ℕ)) (event : Event) → place.bad_line ≡ None → meaning_at place.settings place.number place.order line ≡ Says event → next.bad_line ≡ None → next.number ≡ place.number + 1 → next.order ≡ order_after place.order event → next.settings ≡ place.settings → script_at place (line ∷ lines) ≡ told_before event (script_at next lines)
script_at-says place next line lines event going says still number order same = rw (going, says, still, number, order, same)
