-- What a link responds is in the protocol's layout: each capability stands with its field.
use Rattle.std.proofs.Common.{◌≡◌, ℕ, ◌<◌, ◌^◌, Bool, true, false, List, length, get_or, Option, Some, None, refl, ap, ◌∙◌, rules, arith}
use Rattle.std.specs.Prelude.{◌==◌, bit_and, bit_or, bit_xor, not, IfSome}
use Rattle.std.proofs.lemmas.Nat.{and_or_self, and_or_apart, and_assoc, and_le_r, or_of_32}
use Rattle.std.proofs.lemmas.List.FromFn.{length-map-range_with_len}
use Rattle.rws_msgs.specs.Fields.{HasNoZero}
use Rattle.rws_msgs.specs.declared.capability.TheConstants.{CONNECT_WITH_DB, PLUGIN_AUTH, PLUGIN_AUTH_LENENC_CLIENT_DATA, KEPT_FOR_LINKS, SENT_TO_SERVERS}
use Rattle.rws_msgs.specs.ResponseLayout.{IsAnswer, IsName, IsResponse, ResponseFits, has, with_database, with_lenenc, with_plugin}
use Rattle.rws_msgs.proofs.ResponseLemmas.{response_again}
use Rattle.rws_native.specs.Native.{xor, answer_of}
use Rattle.rws_native.specs.declared.login.Login.{Login}
use Rattle.rws_link.specs.Handshake.{database_flag, flags_of, native_plugin, proof_over, response_of}
use Rattle.rws_link.specs.Laws.{IsLogin, LoginsAreRead}

-- neither a kept flag nor that of a database changes another capability
own_alone : (flags bit : ℕ) (database : Option (List ℕ)) → bit_and (database_flag database) bit ≡ 0 → bit_and KEPT_FOR_LINKS bit ≡ 0
    → bit_and (bit_or (bit_or SENT_TO_SERVERS (bit_and flags KEPT_FOR_LINKS)) (database_flag database)) bit ≡ bit_and SENT_TO_SERVERS bit
own_alone flags bit database apart kept =
    let none : bit_and flags 0 ≡ 0 = omega (arith, and_le_r flags 0) in
    let kept_apart : bit_and (bit_and flags KEPT_FOR_LINKS) bit ≡ 0 = and_assoc bit flags KEPT_FOR_LINKS ∙ ap (bit_and flags) kept ∙ none in
    and_or_apart bit (bit_or SENT_TO_SERVERS (bit_and flags KEPT_FOR_LINKS)) (database_flag database) apart
    ∙ and_or_apart bit SENT_TO_SERVERS (bit_and flags KEPT_FOR_LINKS) kept_apart

flag_apart : (database : Option (List ℕ)) (bit : ℕ) → bit_and CONNECT_WITH_DB bit ≡ 0 → bit_and 0 bit ≡ 0 → bit_and (database_flag database) bit ≡ 0
flag_apart (Some database) bit apart zero_apart = apart
flag_apart None bit apart zero_apart = zero_apart

has_plugin : (login : Login) → with_plugin (flags_of login) ≡ true
unfolding has flags_of
has_plugin login = ap (λ (n : ℕ). not (n == 0)) (own_alone login.flags PLUGIN_AUTH login.database (flag_apart login.database PLUGIN_AUTH refl refl) refl)

has_lenenc : (login : Login) → with_lenenc (flags_of login) ≡ true
unfolding has flags_of
has_lenenc login =
    ap (λ (n : ℕ). not (n == 0))
    (own_alone login.flags PLUGIN_AUTH_LENENC_CLIENT_DATA login.database (flag_apart login.database PLUGIN_AUTH_LENENC_CLIENT_DATA refl refl) refl)

is_named : Option (List ℕ) → Bool
is_named (Some name) = true
is_named None = false

named_by : (base : ℕ) (database : Option (List ℕ)) → bit_and base CONNECT_WITH_DB ≡ 0 → has (bit_or base (database_flag database)) CONNECT_WITH_DB ≡ is_named database
unfolding has is_named
named_by base (Some database) none = ap (λ (n : ℕ). not (n == 0)) (and_or_self CONNECT_WITH_DB base)
named_by base None none = ap (λ (n : ℕ). not (n == 0)) (and_or_apart CONNECT_WITH_DB base 0 refl ∙ none)

has_database : (login : Login) → with_database (flags_of login) ≡ is_named login.database
unfolding flags_of
has_database login =
    let none : bit_and login.flags 0 ≡ 0 = omega (arith, and_le_r login.flags 0) in
    named_by (bit_or SENT_TO_SERVERS (bit_and login.flags KEPT_FOR_LINKS)) login.database
    (and_or_apart CONNECT_WITH_DB SENT_TO_SERVERS (bit_and login.flags KEPT_FOR_LINKS)
    (and_assoc CONNECT_WITH_DB login.flags KEPT_FOR_LINKS ∙ none))

name_is : (given : Bool) (name : Option (List ℕ)) → given ≡ is_named name → IfSome name HasNoZero → IsName given name
unfolding is_named
name_is true (Some text) same fits = fits
name_is false (Some text) same fits = absurd cc
name_is true None same fits = absurd cc
name_is false None same fits = tt

answer_is : (lenenc : Bool) (answer : List ℕ) → lenenc ≡ true → IsAnswer lenenc answer
answer_is true answer same = tt
answer_is false answer same = absurd cc

native_is : (given : Bool) → given ≡ true → IsName given (Some native_plugin)
unfolding HasNoZero
native_is true same = search rules
native_is false same = absurd cc

response_is : (login : Login) (scramble : List ℕ) → IsLogin login → IsResponse (response_of login scramble)
unfolding response_of
response_is login scramble is = record {
  user = is.user;
  answer = answer_is (with_lenenc (flags_of login)) (proof_over login.stage1 scramble) (has_lenenc login);
  database = name_is (with_database (flags_of login)) login.database (has_database login) is.database;
  plugin = native_is (with_plugin (flags_of login)) (has_plugin login);
}

proof_length : (left right : List ℕ) → length (xor left right) ≡ 20
unfolding xor
proof_length left right = length-map-range_with_len (λ (k : ℕ). bit_xor (get_or left k 0) (get_or right k 0)) 0 20

short_proof : (stage1 : Option (List ℕ)) (scramble : List ℕ) → length (proof_over stage1 scramble) < 2 ^ 64
short_proof (Some stage1) scramble = let long : length (answer_of stage1 scramble) ≡ 20 = proof_length stage1 _ in omega arith
short_proof None scramble = omega arith

flags_fit : (flags : ℕ) (database : Option (List ℕ)) → flags < 2 ^ 32 → bit_or (bit_or SENT_TO_SERVERS (bit_and flags KEPT_FOR_LINKS)) (database_flag database) < 2 ^ 32
flags_fit flags (Some database) lt = or_of_32 (bit_or SENT_TO_SERVERS (bit_and flags KEPT_FOR_LINKS)) CONNECT_WITH_DB (or_of_32 SENT_TO_SERVERS (bit_and flags KEPT_FOR_LINKS) (omega arith) (omega (arith, and_le_r flags KEPT_FOR_LINKS))) (omega arith)
flags_fit flags None lt = or_of_32 (bit_or SENT_TO_SERVERS (bit_and flags KEPT_FOR_LINKS)) 0 (or_of_32 SENT_TO_SERVERS (bit_and flags KEPT_FOR_LINKS) (omega arith) (omega (arith, and_le_r flags KEPT_FOR_LINKS))) (omega arith)

response_fits : (login : Login) (scramble : List ℕ) → IsLogin login → ResponseFits (response_of login scramble)
unfolding response_of flags_of
response_fits login scramble is = record {
  flags = flags_fit login.flags login.database is.flags;
  answer = short_proof login.stage1 scramble;
}

pub logins_read : LoginsAreRead
logins_read login scramble is = response_again (response_of login scramble) (response_fits login scramble is) (response_is login scramble is)
