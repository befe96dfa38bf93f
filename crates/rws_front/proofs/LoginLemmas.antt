-- Who is granted a login has proved the password of an account.
use Rattle.std.proofs.Common.{◌≡◌, ℕ, zero, suc, Bool, true, false, cond, ◌&&◌, ◌==◌, List, [], ◌∷◌, length, Option, Some, None, refl, sym, ap, ◌∙◌, arith}
use Rattle.std.specs.Prelude.{IfSome, Contains}
use Rattle.std.specs.List.{find}
use Rattle.std.specs.Str.{bytes_eq}
use Rattle.std.proofs.lemmas.Bool.{eq-eqb}
use Rattle.std.specs.Cmp.Derive.{both_true}
use Rattle.std.specs.Cmp.Lexicographic.{same_text}
use Rattle.sha1.specs.Sha1.{sha1}
use Rattle.rws_wire.specs.declared.fault.WireFault.{WireFault}
use Rattle.rws_wire.specs.Deframing.{Deframing, next_of}
use Rattle.rws_wire.specs.Packets.{spelling, next_number}
use Rattle.rws_wire.specs.Payloads.{Beginning, Nothing, Whole, Faulty}
use Rattle.rws_msgs.specs.declared.response.Response.{Response}
use Rattle.rws_msgs.specs.SwitchLayout.{switch_bytes}
use Rattle.rws_native.specs.Native.{xor, mask, answer_of, stage1_in}
use Rattle.rws_native.proofs.MixingLemmas.{xor_again}
use Rattle.rws_config.specs.declared.account.Account.{Account}
use Rattle.rws_front.specs.declared.access.Access.{Access}
use Rattle.rws_front.specs.declared.access.Access.TheVariants.{Denied, Granted}
use Rattle.rws_front.specs.declared.phase.Phase.{Phase}
use Rattle.rws_front.specs.declared.phase.Phase.TheVariants.{Greets, AwaitsResponse, AwaitsAnswer, LogsIn, Commands, Ended}
use Rattle.rws_front.specs.declared.step.FrontStep.{FrontStep}
use Rattle.rws_front.specs.declared.step.FrontStep.TheVariants.{Send, Command}
use Rattle.rws_front.specs.Accesses.{is_answer, granted, granted_by, access_of}
use Rattle.rws_front.specs.Fronting.{Fronting}
use Rattle.rws_front.specs.Messages.{switch_of}
use Rattle.rws_front.specs.Connection.{settled, responded, response_in, is_native, fault_number, heard, step_of}
use Rattle.rws_front.specs.Laws.{Proves, IsProved, ForLogin, LoginsAreProved, AnswersAreGranted}

-- what is granted, if it is
abbrev ForGranted : Access → (Option (List ℕ) → Type 0) → Type 0
ForGranted Denied P = Unit {0}
ForGranted (Granted stage1) P = P stage1

both : (a b : Bool) → (a && b) ≡ true → b ≡ true
both true b is = is
both false b is = absurd (let clash : false ≡ true = is in cc)

same_bytes : (xs ys : List ℕ) → bytes_eq xs ys ≡ true → xs ≡ ys
same_bytes xs ys is = same_text xs ys (sym is)

empty_proves : (empty : Bool) → ForGranted (cond empty (Granted None) Denied) (Proves None)
empty_proves true = tt
empty_proves false = tt

answer_proves : (stored scramble answer : List ℕ) (right : Bool) → is_answer stored scramble answer ≡ right
    → ForGranted (cond right (Granted (Some (stage1_in answer scramble stored))) Denied) (Proves (Some stored))
answer_proves stored scramble answer true is =
    same_bytes (sha1 (stage1_in answer scramble stored)) stored
    (both (length answer == 20) (bytes_eq (sha1 (stage1_in answer scramble stored)) stored) is)
answer_proves stored scramble answer false is = tt

granted_proves : (stored : Option (List ℕ)) (scramble answer : List ℕ) → ForGranted (granted stored scramble answer) (Proves stored)
granted_proves None scramble answer = empty_proves (length answer == 0)
granted_proves (Some stored) scramble answer = answer_proves stored scramble answer (is_answer stored scramble answer) refl

-- what is found is in the list, and passes
contains_more : (x account : Account) (others : List Account) → Contains others account → Contains (x ∷ others) account
contains_more x account others there = (suc there.0, omega (arith, there.1), there.2)

found_next : (test : Account → Bool) (x : Account) (others : List Account) (found : Option Account)
    → IfSome found (λ account. Contains others account × (test account ≡ true))
    → IfSome found (λ account. Contains (x ∷ others) account × (test account ≡ true))
found_next test x others None is = tt
found_next test x others (Some account) is = (contains_more x account others is.0, is.1)

found_at : (test : Account → Bool) (x : Account) (others : List Account) (passes : Bool) → test x ≡ passes
    → IfSome (find test others) (λ account. Contains others account × (test account ≡ true))
    → IfSome (cond passes (Some x) (find test others)) (λ account. Contains (x ∷ others) account × (test account ≡ true))
found_at test x others true is later = ((zero, omega arith, refl), is)
found_at test x others false is later = found_next test x others (find test others) later

found : (test : Account → Bool) (accounts : List Account) → IfSome (find test accounts) (λ account. Contains accounts account × (test account ≡ true))
found test [] = tt
found test (x ∷ others) = found_at test x others (test x) refl (found test others)

grants : (accounts : List Account) (account : Account) (user : List ℕ) (access : Access) → Contains accounts account → account.user ≡ user
    → ForGranted access (Proves account.stored) → ForGranted access (IsProved accounts user)
grants accounts account user Denied listed is proves = tt
grants accounts account user (Granted stage1) listed is proves = record { account = account; listed = listed; user = is; stage1 = proves }

by_account : (accounts : List Account) (user scramble answer : List ℕ) (holder : Option Account)
    → IfSome holder (λ account. Contains accounts account × (bytes_eq account.user user ≡ true))
    → ForGranted (granted_by holder scramble answer) (IsProved accounts user)
by_account accounts user scramble answer None holds = tt
by_account accounts user scramble answer (Some account) holds =
    grants accounts account user (granted account.stored scramble answer) holds.0 (same_bytes account.user user holds.1)
    (granted_proves account.stored scramble answer)

access_proves : (accounts : List Account) (user scramble answer : List ℕ) → ForGranted (access_of accounts user scramble answer) (IsProved accounts user)
access_proves accounts user scramble answer =
    by_account accounts user scramble answer (find (λ (account : Account). bytes_eq account.user user) accounts)
    (found (λ (account : Account). bytes_eq account.user user) accounts)

-- the phase behind a reply
abbrev IsSound : List Account → Phase → Type 0
IsSound accounts phase = ForLogin phase (λ login. IsProved accounts login.user login.stage1)

settled_sound : (accounts : List Account) (access : Access) (response : Response) (number : ℕ)
    → ForGranted access (IsProved accounts response.user) → IsSound accounts (settled access response number).1
settled_sound accounts Denied response number proved = tt
settled_sound accounts (Granted stage1) response number proved = proved

by_plugin : (accounts : List Account) (native : Bool) (scramble : List ℕ) (access : Access) (response : Response) (number : ℕ)
    → ForGranted access (IsProved accounts response.user)
    → IsSound accounts (cond native (settled access response number) (Send (spelling number (switch_bytes (switch_of scramble))), AwaitsAnswer response number)).1
by_plugin accounts true scramble access response number proved = settled_sound accounts access response number proved
by_plugin accounts false scramble access response number proved = tt

responded_sound : (accounts : List Account) (scramble : List ℕ) (response : Option Response) (number : ℕ)
    → IsSound accounts (responded accounts scramble response number).1
responded_sound accounts scramble None number = tt
responded_sound accounts scramble (Some response) number =
    by_plugin accounts (is_native response.plugin) scramble (access_of accounts response.user scramble response.answer) response number
    (access_proves accounts response.user scramble response.answer)

heard_sound : (accounts : List Account) (front : Fronting) (reply : List ℕ → ℕ → FrontStep × Phase) (number : WireFault → ℕ) (beginning : Beginning)
    → IsSound accounts front.phase → ((payload : List ℕ) (next : ℕ) → IsSound accounts (reply payload next).1)
    → IsSound accounts (heard front reply number beginning).1.phase
heard_sound accounts front reply number Nothing before replies = before
heard_sound accounts front reply number (Whole payload next rest) before replies = replies payload next
heard_sound accounts front reply number (Faulty fault) before replies = tt

by_phase : (accounts : List Account) (session : ℕ) (scramble : List ℕ) (phase : Phase) (stream : Deframing)
    → IsSound accounts (step_of accounts (record { session = session; scramble = scramble; phase = phase; stream = stream })).1.phase
by_phase accounts session scramble Greets stream = tt
by_phase accounts session scramble AwaitsResponse stream =
    heard_sound accounts (record { session = session; scramble = scramble; phase = AwaitsResponse; stream = stream })
    (λ payload next. responded accounts scramble (response_in payload) next) (fault_number 1 1) (next_of stream 1) tt
    (λ payload next. responded_sound accounts scramble (response_in payload) next)
by_phase accounts session scramble (AwaitsAnswer response asked) stream =
    heard_sound accounts (record { session = session; scramble = scramble; phase = AwaitsAnswer response asked; stream = stream })
    (λ payload next. settled (access_of accounts response.user scramble payload) response next) (fault_number asked (next_number asked))
    (next_of stream (next_number asked)) tt
    (λ payload next. settled_sound accounts (access_of accounts response.user scramble payload) response next
    (access_proves accounts response.user scramble payload))
by_phase accounts session scramble (LogsIn login) stream = tt
by_phase accounts session scramble Commands stream =
    heard_sound accounts (record { session = session; scramble = scramble; phase = Commands; stream = stream })
    (λ payload next. (Command (record { bytes = payload; next = next }), Commands)) (λ fault. 1) (next_of stream 0) tt (λ payload next. tt)
by_phase accounts session scramble (Ended reason) stream = tt

pub logins_are_proved : LoginsAreProved
logins_are_proved accounts front = by_phase accounts front.session front.scramble front.phase front.stream

-- and who knows the password is granted its login
made_whole : (stage1 scramble : List ℕ) → (length (answer_of stage1 scramble) == 20) ≡ true
unfolding xor
made_whole stage1 scramble = refl

bytes_again : (bytes : List ℕ) → bytes_eq bytes bytes ≡ true
bytes_again [] = refl
bytes_again (byte ∷ bytes) = both_true (eq-eqb byte byte refl) (bytes_again bytes)

made_right : (stage1 scramble : List ℕ) → length stage1 ≡ 20 → is_answer (sha1 stage1) scramble (answer_of stage1 scramble) ≡ true
made_right stage1 scramble whole =
    both_true (made_whole stage1 scramble)
    (ap (λ (t : List ℕ). bytes_eq (sha1 t) (sha1 stage1)) (xor_again stage1 (mask scramble (sha1 stage1)) whole) ∙ bytes_again (sha1 stage1))

granted_answer : (stage1 scramble : List ℕ) → length stage1 ≡ 20
    → granted (Some (sha1 stage1)) scramble (answer_of stage1 scramble) ≡ Granted (Some stage1)
granted_answer stage1 scramble whole =
    ap (λ (b : Bool). cond b (Granted (Some (stage1_in (answer_of stage1 scramble) scramble (sha1 stage1)))) Denied) (made_right stage1 scramble whole)
    ∙ ap (λ (t : List ℕ). Granted (Some t)) (xor_again stage1 (mask scramble (sha1 stage1)) whole)

pub answers_are_granted : AnswersAreGranted
answers_are_granted accounts account user stage1 scramble whole is stored =
    ap (λ (holder : Option Account). granted_by holder scramble (answer_of stage1 scramble)) is
    ∙ ap (λ (digest : Option (List ℕ)). granted digest scramble (answer_of stage1 scramble)) stored
    ∙ granted_answer stage1 scramble whole
