-- How many bytes count for a transaction is how many the commands of its log have.
use Rattle.std.proofs.Common.{◌≡◌, ℕ, ◌+◌, Bool, true, false, List, [], ◌∷◌, ◌++◌, sym, ap, ◌∙◌, arith, inl, inr, Some, None}
use Rattle.std.specs.Prelude.{◌-◌, ◌^◌, ◌≤◌, ◌<◌, ◌⊎◌, min}
use Rattle.std.proofs.lemmas.Bool.{cases_lt}
use Rattle.std.proofs.Math.Nat.{min-eq_left, min-eq_right, zero-min}
use Rattle.rws_config.specs.declared.config.Config.{Config}
use Rattle.rws_trx.specs.declared.state.Course.{Course}
use Rattle.rws_trx.specs.declared.state.Course.TheVariants.{GoesOn, Begins, IsNone}
use Rattle.rws_trx.specs.declared.transaction.Answer.{Answer}
use Rattle.rws_trx.specs.declared.transaction.Transaction.{Transaction}
use Rattle.rws_trx.specs.OnLinks.{added, by_course, course_of}
use Rattle.rws_record.specs.Item.{Item}
use Rattle.rws_record.specs.Item.Item.{Accepted, TurnsAway, Began, ClientBytes, LinkReady, LinkBytes, ClientGone, LinkLost, Ticks, Routed, Comes, Connects, Takes, Floods, Puts, Starves}
use Rattle.rws_record.specs.Item.Put.{Hands, Tells, Records, Routes, Opens, LogsInto, Sends, Forgets, Drops, Closes}
use Rattle.rws_record.specs.Item.Tell.{Passes, Owns, Refuses}
use Rattle.rws_record.specs.Log.{Logged, if_speaks, log, total}
use Rattle.rws_record.specs.Values.{answer_to, answered_if, class_by_pending, kept_on, length_by, or_link, pending, routing, speaks, told, transaction}
use Rattle.rws_laws.specs.Causes.{AreCaused}
use Rattle.rws_laws.specs.Laws.{CountsItsLog}
use Rattle.rws_laws.proofs.CausesLemmas.{causes}
use Rattle.rws_commands.specs.Commands.{bytes_of}

-- what can be counted of a sum is what can be counted of the one number and the other
sum_counted : (one other most : ℕ) → min (min one most + other) most ≡ min (one + other) most
sum_counted one other most = by_size (cases_lt one most)
  where
    by_size : (one < most) ⊎ (most ≤ one) → min (min one most + other) most ≡ min (one + other) most
    by_size (inl below) = ap (λ (k : ℕ). min (k + other) most) (min-eq_left (omega arith))
    by_size (inr above) =
        ap (λ (k : ℕ). min (k + other) most) (min-eq_right above)
        ∙ min-eq_right (omega arith)
        ∙ sym (min-eq_right (omega arith))

-- a log with one more command
total_with : (list : List Logged) (last : Logged) → total (list ++ last ∷ []) ≡ total list + bytes_of last.command.body
total_with [] last = omega arith
total_with (first ∷ others) last = ap (λ (k : ℕ). bytes_of first.command.body + k) (total_with others last) ∙ omega arith

zero_before : (n : ℕ) → 0 + n ≡ n + 0
zero_before n = omega arith

-- a number as far as it can be counted
abbrev counted_up : ℕ → ℕ
counted_up bytes = min bytes (2 ^ 64 - 1)

abbrev Counts : ℕ → List Logged → Type 0
Counts bytes list = bytes ≡ counted_up (total list)

module _ (bytes more : ℕ) (list : List Logged) (last : Logged) (counts : Counts bytes list) (its : more ≡ bytes_of last.command.body) where
  goes_on_counting : Counts (added bytes more) (list ++ last ∷ [])
  goes_on_counting =
      ap (λ (k : ℕ). added k more) counts
      ∙ ap (λ (k : ℕ). added (counted_up (total list)) k) its
      ∙ sum_counted (total list) (bytes_of last.command.body) (2 ^ 64 - 1)
      ∙ ap counted_up (sym (total_with list last))

  begins_counting : Counts (added 0 more) (last ∷ [])
  begins_counting =
      ap (λ (k : ℕ). counted_up (0 + k)) its ∙ ap counted_up (zero_before (bytes_of last.command.body))

  by_course_counts : (course : Course) → Counts (by_course course (added bytes more) (added 0 more) 0) (by_course course (list ++ last ∷ []) (last ∷ []) [])
  by_course_counts GoesOn = goes_on_counting
  by_course_counts Begins = begins_counting
  by_course_counts IsNone = sym (zero-min (2 ^ 64 - 1))

answered_counts : (speaks : Bool) (answer : Answer) (t : Transaction) (list : List Logged) (last : Logged) → Counts t.bytes list
    → answer.bytes ≡ bytes_of last.command.body
    → Counts (answered_if speaks answer t).bytes (if_speaks speaks (course_of answer t) (list ++ last ∷ []) (last ∷ []) [] list)
answered_counts true answer t list last counts its = by_course_counts t.bytes answer.bytes list last counts its (course_of answer t)
answered_counts false answer t list last counts its = counts

counted : (config : Config) (past : List Item) → AreCaused config past → Counts (transaction config past).bytes (log config past)
counted config [] caused = sym (zero-min (2 ^ 64 - 1))
counted config (Puts (Tells number (Passes from command payload (Some its) recording)) ∷ past) caused =
    answered_counts (speaks (or_link (kept_on past) (transaction config past).link) from (class_by_pending (pending past)) (routing config past))
    (answer_to (pending past) from its.outcome (transaction config past).state) (transaction config past) (log config past)
    (record { command = command; reply = told past ++ payload ∷ [] }) (counted config past caused.1) (ap length_by caused.0.0.of_reply.pending.waits)
counted config (Puts (Tells number (Passes from command payload None recording)) ∷ past) caused = counted config past caused.1
counted config (Puts (Tells number (Owns status)) ∷ past) caused = counted config past caused.1
counted config (Puts (Tells number (Refuses error)) ∷ past) caused = counted config past caused.1
counted config (Accepted session scramble reading ∷ past) caused = counted config past caused.2
counted config (TurnsAway told ∷ past) caused = counted config past caused.2
counted config (Began link server reading ∷ past) caused = counted config past caused.2
counted config (ClientBytes bytes ∷ past) caused = counted config past caused.2
counted config (LinkReady link ∷ past) caused = counted config past caused.2
counted config (LinkBytes link bytes ∷ past) caused = counted config past caused.2
counted config (LinkLost gone ∷ past) caused = counted config past caused.2
counted config (ClientGone ∷ past) caused = counted config past caused.2
counted config (Ticks reading ∷ past) caused = counted config past caused.2
counted config (Routed words loads next found ∷ past) caused = counted config past caused.2
counted config (Comes link said ∷ past) caused = counted config past caused.2
counted config (Connects said ∷ past) caused = counted config past caused.2
counted config (Takes it number ∷ past) caused = counted config past caused.2
counted config (Floods bytes ∷ past) caused = counted config past caused.2
counted config (Starves made number ∷ past) caused = counted config past caused.3
counted config (Puts (Hands packets) ∷ past) caused = counted config past caused.1
counted config (Puts (Records server gtid) ∷ past) caused = counted config past caused.1
counted config (Puts Routes ∷ past) caused = counted config past caused.1
counted config (Puts (Opens link server login) ∷ past) caused = counted config past caused.1
counted config (Puts (Forgets link id) ∷ past) caused = counted config past caused.1
counted config (Puts (LogsInto link packets) ∷ past) caused = counted config past caused.1
counted config (Puts (Sends link purpose) ∷ past) caused = counted config past caused.1
counted config (Puts (Drops link cause) ∷ past) caused = counted config past caused.1
counted config (Puts (Closes reason) ∷ past) caused = counted config past caused.1

pub counts_its_log : CountsItsLog
counts_its_log config past legal = counted config past (causes config past legal)
