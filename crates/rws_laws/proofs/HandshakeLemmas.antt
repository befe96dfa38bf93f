-- What a payload of the server leads to in a link's login.
use Rattle.std.proofs.Common.{◌≡◌, ℕ, Bool, true, false, List, refl, subst, Option, Some, None}
use Rattle.std.specs.Prelude.{nat_eq, Result, Ok, Err, if◌then◌else◌}
use Rattle.std.specs.Cmp.Lexicographic.{pointwise}
use Rattle.rws_msgs.specs.declared.fault.MsgFault.{MsgFault}
use Rattle.rws_msgs.specs.declared.greeting.Greeting.{Greeting}
use Rattle.rws_msgs.specs.declared.switch.Switch.{Switch}
use Rattle.rws_msgs.specs.GreetingLayout.{greeting_at}
use Rattle.rws_msgs.specs.ResponseLayout.{response_bytes}
use Rattle.rws_msgs.specs.OkLayout.{ok_status}
use Rattle.rws_msgs.specs.ErrLayout.{err_code}
use Rattle.rws_msgs.specs.SwitchLayout.{plugin_asked, switch_at}
use Rattle.rws_native.specs.declared.login.Login.{Login}
use Rattle.rws_link.specs.declared.handshake.Handshake.{Handshake}
use Rattle.rws_link.specs.declared.handshake.Handshake.TheVariants.{Greeting as AwaitsGreeting, Answered}
use Rattle.rws_link.specs.declared.handshake.Reaction.{Reaction}
use Rattle.rws_link.specs.declared.handshake.Reaction.TheVariants.{Answers, Accepted, Loses}
use Rattle.rws_link.specs.declared.step.LinkCause.{LinkCause}
use Rattle.rws_link.specs.declared.step.LinkCause.TheVariants as losses
use Rattle.rws_link.specs.Handshake.{answered, asked_by, greeted_by, is_served, judged_by, native_plugin, reaction, response_of, switched_by}
use Rattle.rws_laws.specs.Servers.{LoginAnswer, LoginTaken, LoginFailed}
use Rattle.rws_laws.specs.Servers.LoginAnswer.{logs_in, proves}
use Rattle.rws_laws.specs.Servers.LoginTaken.{ok_came}
use Rattle.rws_laws.specs.Servers.LoginFailed.{no_greeting, not_served, error_came, other_plugin, no_answer, bad_question}

data Reacts (payload : List ℕ) (number : ℕ) (handshake : Handshake) : Reaction → Type 0 where
  answers : {packets : List ℕ} {stage1 : Option (List ℕ)} {next : ℕ} → LoginAnswer payload number handshake packets
      → Reacts payload number handshake (Answers packets stage1 next)
  takes : LoginTaken payload handshake → Reacts payload number handshake Accepted
  loses : {cause : LinkCause} → LoginFailed payload handshake cause → Reacts payload number handshake (Loses cause)

module _ (payload : List ℕ) (number : ℕ) where
  greeted : (login : Login) (found : Result Greeting MsgFault) → greeting_at payload ≡ found
      → Reacts payload number (AwaitsGreeting login) (greeted_by login number found)
  greeted login (Err fault) g = loses (no_greeting g)
  greeted login (Ok greeting) g = by_test (is_served greeting.capabilities) refl
    where
      by_test : (test : Bool) → is_served greeting.capabilities ≡ test
          → Reacts payload number (AwaitsGreeting login)
          (if test then answered (response_bytes (response_of login greeting.scramble)) login.stage1 number else Loses losses.Greeting)
      by_test true s = answers (logs_in g s)
      by_test false s = loses (not_served g s)

  module _ (stage1 : Option (List ℕ)) (next : ℕ) where
    switched : (plugin : List ℕ) (found : Result Switch MsgFault) → err_code payload ≡ None → ok_status true payload ≡ None
        → plugin_asked payload ≡ Some plugin → pointwise nat_eq plugin native_plugin ≡ true → switch_at payload ≡ found
        → Reacts payload number (Answered stage1 next) (switched_by stage1 number found)
    switched plugin (Ok switch) e o p n s = answers (proves p n s)
    switched plugin (Err fault) e o p n s = loses (bad_question e o s)

    asked : (found : Option (List ℕ)) → err_code payload ≡ None → ok_status true payload ≡ None → plugin_asked payload ≡ found
        → Reacts payload number (Answered stage1 next) (asked_by stage1 number payload found)
    asked None e o p = loses (no_answer e o p)
    asked (Some plugin) e o p = by_test (pointwise nat_eq plugin native_plugin) refl
      where
        by_test : (test : Bool) → pointwise nat_eq plugin native_plugin ≡ test
            → Reacts payload number (Answered stage1 next)
            (if test then switched_by stage1 number (switch_at payload) else Loses losses.Plugin)
        by_test true n = switched plugin (switch_at payload) e o p n refl
        by_test false n = loses (other_plugin p n)

    judged : (err ok : Option ℕ) → err_code payload ≡ err → ok_status true payload ≡ ok
        → Reacts payload number (Answered stage1 next) (judged_by stage1 number payload err ok)
    judged (Some code) ok e o = loses (error_came e)
    judged None (Some status) e o = takes (ok_came e o)
    judged None None e o = asked (plugin_asked payload) e o refl

reacts : (handshake : Handshake) (payload : List ℕ) (number : ℕ) → Reacts payload number handshake (reaction handshake payload number)
unfolding reaction
reacts (AwaitsGreeting login) payload number = greeted payload number login (greeting_at payload) refl
reacts (Answered stage1 next) payload number = judged payload number stage1 next (err_code payload) (ok_status true payload) refl refl

its_answer : {payload packets : List ℕ} {number next : ℕ} {handshake : Handshake} {stage1 : Option (List ℕ)}
    → Reacts payload number handshake (Answers packets stage1 next) → LoginAnswer payload number handshake packets
its_answer (answers it) = it

its_taking : {payload : List ℕ} {number : ℕ} {handshake : Handshake} → Reacts payload number handshake Accepted
    → LoginTaken payload handshake
its_taking (takes it) = it

its_failure : {payload : List ℕ} {number : ℕ} {handshake : Handshake} {cause : LinkCause}
    → Reacts payload number handshake (Loses cause) → LoginFailed payload handshake cause
its_failure (loses it) = it

pub answers_so : (handshake : Handshake) (payload packets : List ℕ) (number next : ℕ) (stage1 : Option (List ℕ))
    → reaction handshake payload number ≡ Answers packets stage1 next → LoginAnswer payload number handshake packets
answers_so handshake payload packets number next stage1 r =
    its_answer (subst (Reacts payload number handshake) r (reacts handshake payload number))

pub takes_so : (handshake : Handshake) (payload : List ℕ) (number : ℕ) → reaction handshake payload number ≡ Accepted
    → LoginTaken payload handshake
takes_so handshake payload number r = its_taking (subst (Reacts payload number handshake) r (reacts handshake payload number))

pub fails_so : (handshake : Handshake) (payload : List ℕ) (number : ℕ) (cause : LinkCause) → reaction handshake payload number ≡ Loses cause
    → LoginFailed payload handshake cause
fails_so handshake payload number cause r = its_failure (subst (Reacts payload number handshake) r (reacts handshake payload number))
